use Rattle.std.proofs.Common.{◌≡◌, ◌++◌, map, filter, not}
use Rattle.shared_tables.specs.Least.{has_lesser}
use Rattle.shared_tables.specs.Merge.{Claim}
use Rattle.shared_tables.proofs.least.least_rows.Given as goal

abbrev pub invariant-loop-claim : goal.invariant-loop-claim
invariant-loop-claim l = l.rows ++ map (λ (c : Claim). c.1) (filter (λ (c : Claim). not (has_lesser l.least c)) l.claim-iterator.rest.items) ≡ map (λ (c : Claim). c.1) (filter (λ (c : Claim). not (has_lesser l.least c)) l.fn.claims)
