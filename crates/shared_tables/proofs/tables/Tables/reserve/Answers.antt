use Rattle.std.proofs.Common.{◌+◌, ℕ, List, ap, ◌∙◌}
use Rattle.shared_tables.specs.Told.{SourceTold, rows_needed, source_told}
use Rattle.shared_tables.specs.declared.source.Source.{Source}
use Rattle.shared_tables.proofs.Places.{map_changed, map_same, on_err, place_in}
use Rattle.shared_tables.proofs.tables.Tables.reserve.Goals as goal

pub returns-in_err-reserve-clause-told : goal.returns-in_err-reserve-clause-told
returns-in_err-reserve-clause-told c =
    let t = c.args.self.now in
    ap (λ (sources : List SourceTold). record { local = t.local; number = t.number; limit = t.limit; sources = sources })
    (map_same source_told t.sources.items _ _ _ c.index_mut-source.ensures.value (place_in source_told t.sources.items _ c.requires.source) c.reserve.ensures.told)

pub returns-in_err-reserve-clause-err : goal.returns-in_err-reserve-clause-err
returns-in_err-reserve-clause-err c =
    let t = c.args.self.now in
    on_err c.from_residual.result
    (map_same (λ (s : Source). s.room) t.sources.items _ _ _ c.index_mut-source.ensures.value (place_in source_told t.sources.items _ c.requires.source) c.in_err-reserve.ensures.err)

pub returns-clause-told : goal.returns-clause-told
returns-clause-told c =
    let t = c.args.self.now in
    ap (λ (sources : List SourceTold). record { local = t.local; number = t.number; limit = t.limit; sources = sources })
    (map_same source_told t.sources.items _ _ _ c.index_mut-source.ensures.value (place_in source_told t.sources.items _ c.requires.source) c.reserve.ensures.told)

pub returns-clause-ok : goal.returns-clause-ok
returns-clause-ok c =
    let t = c.args.self.now in
    let old = c.index_mut-source.result.now in
    map_changed (λ (s : Source). s.room) (λ (room : ℕ). room + rows_needed c.args.change.now) t.sources.items _ old _ c.index_mut-source.ensures.value (place_in source_told t.sources.items _ c.requires.source)
    (c.in_ok-reserve.ensures.ok ∙ ap (λ (n : ℕ). old.room + n) c.rows_needed.ensures)
