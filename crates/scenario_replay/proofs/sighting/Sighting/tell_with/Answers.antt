use Rattle.std.proofs.Common.{◌≡◌, ℕ, List, get_or, true, refl, subst, arith}
use Rattle.std.specs.Vec.{with_item}
use Rattle.shared_tables.specs.Told.{told}
use Rattle.mesh_remote.specs.declared.remote.Remote.{Remote}
use Rattle.scenario_replay.proofs.Sightings.{nothing_at, own_view, sources_many, still_there, tables_told}
use Rattle.scenario_replay.proofs.sighting.Sighting.tell_with.Goals as goal

-- the remote at a place, whatever stands for a place beyond
at_place : (rs : List Remote) (place : ℕ) (r : Remote) → r ≡ get_or rs place r → get_or rs place r ≡ get_or rs place (get_or rs place r)
at_place rs place r is = subst (λ (x : Remote). get_or rs place r ≡ get_or rs place x) is refl

pub index-requires : goal.index-requires
index-requires g c =
    let has = c.requires.tables.1 in
    omega (arith, c.requires.place, (sources_many c.args.self.now.told.items c.args.remotes.now (told c.args.self.now.tables).sources has.sources).0)

pub forget-requires : goal.forget-requires
forget-requires g c =
    let has = c.requires.tables.1 in
    record { source = omega (arith, c.requires.place, (sources_many c.args.self.now.told.items c.args.remotes.now (told c.args.self.now.tables).sources has.sources).1) }

pub tell_source-requires-clause-source : goal.tell_source-requires-clause-source
tell_source-requires-clause-source g c =
    still_there c.requires.tables.0 c.args.remotes.now c.args.self.now c.args.place (told c.forget.new.self) c.forget.ensures.told c.requires.place c.requires.tables.1

pub tell_source-requires-clause-nothing : goal.tell_source-requires-clause-nothing
tell_source-requires-clause-nothing g c =
    let rs = c.args.remotes.now in
    nothing_at c.requires.tables.0 rs c.args.self.now c.args.place (get_or rs c.args.place c.index-remotes-place.result) (told c.forget.new.self) c.forget.ensures.told (at_place rs c.args.place c.index-remotes-place.result c.index-remotes-place.is) c.requires.place c.requires.tables.1

pub tell_source-requires-clause-own : goal.tell_source-requires-clause-own
tell_source-requires-clause-own g c =
    let rs = c.args.remotes.now in
    own_view c.requires.tables.0 rs c.args.self.now c.args.place (get_or rs c.args.place c.index-remotes-place.result) (at_place rs c.args.place c.index-remotes-place.result c.index-remotes-place.is) c.requires.place c.requires.tables.1

pub index_mut-requires : goal.index_mut-requires
index_mut-requires g c =
    let has = c.requires.tables.1 in
    omega (arith, c.requires.place, (sources_many c.args.self.now.told.items c.args.remotes.now (told c.args.self.now.tables).sources has.sources).0)

pub returns-clause-tables : goal.returns-clause-tables
returns-clause-tables g c = λ number has.
    let rs = c.args.remotes.now in
    tables_told number rs c.args.self.now (record { tables = c.tell_source.new.tables; told = with_item c.args.self.now.told c.args.place true }) c.args.place (get_or rs c.args.place c.index-remotes-place.result) (told c.forget.new.self) c.forget.ensures.told c.in_ok-tell_source.ensures refl
    (at_place rs c.args.place c.index-remotes-place.result c.index-remotes-place.is) c.requires.place has
