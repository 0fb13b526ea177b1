use Rattle.std.proofs.Common.{List, ℕ, ap}
use Rattle.shared_tables.specs.Told.{SourceTold, nothing_told, source_told}
use Rattle.shared_tables.specs.declared.source.Source.{Source}
use Rattle.shared_tables.proofs.Places.{map_changed, place_in}
use Rattle.shared_tables.proofs.tables.Tables.forget.Goals as goal

pub returns-clause-told : goal.returns-clause-told
returns-clause-told c =
    let t = c.args.self.now in
    ap (λ (sources : List SourceTold). record { local = t.local; number = t.number; limit = t.limit; sources = sources })
    (map_changed source_told (λ (s : SourceTold). nothing_told s.name) t.sources.items _ _ _ c.index_mut-source.ensures.value (place_in source_told t.sources.items _ c.requires.source) c.forget.ensures.told)

pub returns-clause-rooms : goal.returns-clause-rooms
returns-clause-rooms c =
    let t = c.args.self.now in
    map_changed (λ (s : Source). s.room) (λ (room : ℕ). 0) t.sources.items _ _ _ c.index_mut-source.ensures.value (place_in source_told t.sources.items _ c.requires.source) c.forget.ensures.room
