use Rattle.std.proofs.Common.{◌≤◌, ℕ, List, ◌∷◌, length, map, refl, subst, sym, arith}
use Rattle.std.specs.List.{AllByRecursion, IsDistinct}
use Rattle.mesh_base.specs.Order.{same_bytes}
use Rattle.mesh_remote.specs.Shown.{IsOwnView}
use Rattle.scenario_replay.specs.Shown.{AreNew}
use Rattle.mesh_world.specs.World.{seconds_of}
use Rattle.mesh_remote.specs.declared.remote.Remote.{Remote}
use Rattle.scenario_replay.proofs.Beginnings.{has_first, new_apart, new_many, new_own, some_seconds}
use Rattle.scenario_replay.proofs.Changes.{cluster_of}
use Rattle.scenario_replay.proofs.replay.Replay.new.Goals as goal

pub returns-clause-world : goal.returns-clause-world
returns-clause-world c = λ stores many opens.
    let said = c.args.scenario.now in
    has_first said (record {
      local = c.in_ok-local.local;
      number = said.local.number;
      remotes = c.in_ok-remotes.remotes;
      sighting = c.in_ok-sighting.sighting;
      reports = 0;
      text = c.new-2.result;
    }) stores c.requires (subst (λ (n : ℕ). AreNew n said.remotes c.in_ok-remotes.remotes.items) c.seconds_of.ensures c.in_ok-remotes.ensures) c.in_ok-local.ensures refl refl c.new-2.ensures many opens

pub new_remotes-requires : goal.new_remotes-requires
new_remotes-requires c = subst (λ (n : ℕ). 1 ≤ n) (sym c.seconds_of.ensures) (some_seconds c.args.scenario.now c.requires)

pub new-requires-clause-few : goal.new-requires-clause-few
new-requires-clause-few c =
    subst (λ (rs : List Remote). length rs ≤ 255) (sym c.as_slice.ensures.value)
    (omega (arith, c.requires.few, new_many (seconds_of c.args.scenario.now) c.args.scenario.now.remotes c.in_ok-remotes.remotes.items (subst (λ (n : ℕ). AreNew n c.args.scenario.now.remotes c.in_ok-remotes.remotes.items) c.seconds_of.ensures c.in_ok-remotes.ensures)))

pub new-requires-clause-own : goal.new-requires-clause-own
new-requires-clause-own c =
    subst (AllByRecursion IsOwnView) (sym c.as_slice.ensures.value)
    (new_own c.seconds_of.result c.args.scenario.now.remotes c.in_ok-remotes.remotes.items c.in_ok-remotes.ensures)

pub new-requires-clause-apart : goal.new-requires-clause-apart
new-requires-clause-apart c =
    subst (λ (rs : List Remote). IsDistinct same_bytes (c.in_ok-local.local ∷ map cluster_of rs)) (sym c.as_slice.ensures.value)
    (new_apart c.args.scenario.now c.in_ok-local.local c.seconds_of.result c.in_ok-remotes.remotes.items c.requires c.in_ok-remotes.ensures c.in_ok-local.ensures)
