use Rattle.std.proofs.Common.{◌≡◌, ◌++◌, drop, map}
use Rattle.shared_tables.specs.Merge.{backend_row}
use Rattle.shared_tables.proofs.merging.push_backends.Given as goal

abbrev pub invariant-loop-backend : goal.invariant-loop-backend
invariant-loop-backend l = l.rows ++ map (backend_row l.cluster l.namespace l.name) (drop l.backend-index l.backends) ≡ l.fn.rows ++ map (backend_row l.cluster l.namespace l.name) l.backends
