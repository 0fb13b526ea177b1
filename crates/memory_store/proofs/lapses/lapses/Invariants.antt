use Rattle.std.proofs.Common.{◌≡◌, ◌++◌, drop, length, replicate}
use Rattle.store_api.specs.History.{History}
use Rattle.memory_store.specs.Kept.{IsCurrentIn, history_in, writers_in}
use Rattle.memory_store.proofs.Expiry.{Lapsing}
use Rattle.memory_store.proofs.lapses.lapses.Given as goal

-- after the revisions so far, each by the writer, what is left lapses to what all lapse to
abbrev pub invariant-loop-lease : goal.invariant-loop-lease
invariant-loop-lease l = record {
  lapsing : (history : History) → IsCurrentIn history l.fn.current → Lapsing (history ++ history_in l.made.items) (drop l.lease-index l.leases) history l.leases l.current;
  writers : writers_in l.made.items ≡ replicate (length l.made.items) l.writer;
}
