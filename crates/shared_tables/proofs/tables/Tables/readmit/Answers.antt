use Rattle.std.proofs.Common.{List, refl, ap}
use Rattle.shared_tables.specs.Told.{SourceTold, source_told}
use Rattle.shared_tables.specs.declared.source.Source.{Source}
use Rattle.shared_tables.proofs.Places.{map_changed, map_same, place_in}
use Rattle.shared_tables.proofs.tables.Tables.readmit.Goals as goal

pub returns-clause-told : goal.returns-clause-told
returns-clause-told g c =
    let t = c.args.self.now in
    ap (λ (sources : List SourceTold). record { local = t.local; number = t.number; limit = t.limit; sources = sources })
    (map_changed source_told (λ (s : SourceTold). record s { config = c.args.config }) t.sources.items _ _ _ c.index_mut-source.ensures.value (place_in source_told t.sources.items _ c.requires.source) refl)

pub returns-clause-rooms : goal.returns-clause-rooms
returns-clause-rooms g c =
    let t = c.args.self.now in
    map_same (λ (s : Source). s.room) t.sources.items _ _ _ c.index_mut-source.ensures.value (place_in source_told t.sources.items _ c.requires.source) refl
