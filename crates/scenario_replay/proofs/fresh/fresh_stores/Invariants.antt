use Rattle.std.proofs.Common.{◌≡◌, length, All}
use Rattle.memory_store.specs.Stored.{Stored, meaning_of}
use Rattle.mesh_world.specs.Goes.{IsFresh}
use Rattle.scenario_replay.proofs.fresh.fresh_stores.Given as goal

abbrev pub invariant-loop-place : goal.invariant-loop-place
invariant-loop-place l = record {
  many : length l.stores.items ≡ l.place;
  fresh : All (λ (s : Stored). IsFresh (meaning_of s)) l.stores.items;
}
