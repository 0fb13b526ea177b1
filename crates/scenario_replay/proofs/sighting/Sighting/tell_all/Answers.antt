use Rattle.std.proofs.Common.{◌≡◌, ℕ, suc, ◌+◌, subst, sym, arith}
use Rattle.shared_tables.specs.Told.{told}
use Rattle.scenario_replay.specs.Rows.{AreMarked}
use Rattle.scenario_replay.proofs.Sightings.{marked_more, sources_many}
use Rattle.scenario_replay.proofs.sighting.Sighting.tell_all.Goals as goal

pub loop-place-preserved : goal.loop-place-preserved
loop-place-preserved g c =
    let i = c.loop-place.invariant in
    let place = c.loop-place.place in
    let now = c.loop-place.self in
    let has = i.tables c.requires.tables.0 c.requires.tables.1 in
    let many = sources_many now.told.items c.args.remotes.now (told now.tables).sources has.sources in
    let next : suc place ≡ place + 1 = omega arith in
    record {
      tables = λ number h. c.in_ok-tell_with.ensures.tables number (i.tables number h);
      marked = subst (λ (n : ℕ). AreMarked n c.tell_with.new.self.told.items) next
          (subst (AreMarked (suc place)) (sym c.in_ok-tell_with.ensures.marked) (marked_more place now.told.items (omega (arith, c.loop-place-test.true, c.loop-place.auto.place-end, many.0)) i.marked));
    }
