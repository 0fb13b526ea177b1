use Rattle.std.proofs.Common.{◌≡◌, ◌≤◌, ◌+◌, max, map}
use Rattle.store_api.specs.Followed.{part_of, parts}
use Rattle.store_api.specs.History.{in_ranges}
use Rattle.memory_store.specs.Kept.{history_in, writers_in}
use Rattle.memory_store.specs.Writers.{AreWrittenBy}
use Rattle.memory_store.proofs.watch.delivered.Given as goal

-- the revisions so far are those up to the one before this one, each with its writer
abbrev pub invariant-loop-place : goal.invariant-loop-place
invariant-loop-place l = record {
  so_far : map part_of l.revisions.items ≡ parts (in_ranges l.ranges.items) (history_in l.history) l.after (l.place + 1);
  writers : AreWrittenBy (writers_in l.history) l.revisions.items;
  within : l.place + 1 ≤ max (max l.after 1) (max l.upto 1);
}
