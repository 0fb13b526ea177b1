use Rattle.memory_store.proofs.Fronts.{Gathers}
use Rattle.memory_store.proofs.listing.gather_prefix.Given as goal

abbrev pub invariant-loop-key : goal.invariant-loop-key
invariant-loop-key l = Gathers l.front l.fn.found l.found l.live.entries l.key-iterator
