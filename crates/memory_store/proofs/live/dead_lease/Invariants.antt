use Rattle.std.proofs.Common.{◌≡◌, drop}
use Rattle.store_api.specs.Contents.{dead_lease}
use Rattle.memory_store.proofs.live.dead_lease.Given as goal

-- what is left names the same lease first
abbrev pub invariant-loop-op : goal.invariant-loop-op
invariant-loop-op l = dead_lease l.leases (drop l.op-index l.ops) ≡ dead_lease l.leases l.ops
