use Rattle.std.proofs.Common.{◌-◌, ℕ, List, map, ap}
use Rattle.shared_tables.specs.Told.{SourceTold, rows_after, rows_needed, source_told}
use Rattle.shared_tables.specs.declared.source.Source.{Source}
use Rattle.shared_tables.proofs.Fits.{fit_of_change}
use Rattle.shared_tables.proofs.Places.{map_changed, place_in}
use Rattle.shared_tables.proofs.tables.Tables.apply.Goals as goal

pub replace-requires-clause-fit : goal.replace-requires-clause-fit
replace-requires-clause-fit g c = fit_of_change (map source_told c.args.self.now.sources.items) c.args.change.source c.args.change c.requires.source c.requires.change

pub returns-clause-told : goal.returns-clause-told
returns-clause-told g c =
    let t = c.args.self.now in
    ap (λ (sources : List SourceTold). record { local = t.local; number = t.number; limit = t.limit; sources = sources })
    (map_changed source_told (λ (s : SourceTold). record s { rows = rows_after c.args.change.old c.args.change.new s.rows }) t.sources.items _ _ _ c.index_mut-source.ensures.value (place_in source_told t.sources.items _ c.requires.source) c.replace.ensures.told)

pub returns-clause-rooms : goal.returns-clause-rooms
returns-clause-rooms g c =
    let t = c.args.self.now in
    map_changed (λ (s : Source). s.room) (λ (room : ℕ). room - rows_needed c.args.change) t.sources.items _ _ _ c.index_mut-source.ensures.value (place_in source_told t.sources.items _ c.requires.source) c.replace.ensures.room
