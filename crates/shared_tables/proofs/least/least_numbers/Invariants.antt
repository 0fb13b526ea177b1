use Rattle.std.proofs.Common.{◌≡◌, ◌||◌, drop}
use Rattle.std.specs.List.{list_any}
use Rattle.shared_tables.specs.Least.{has_lesser}
use Rattle.shared_tables.specs.Merge.{Claim, is_before}
use Rattle.shared_tables.proofs.least.least_numbers.Given as goal

abbrev pub invariant-loop-claim : goal.invariant-loop-claim
invariant-loop-claim l = (c : Claim) → (has_lesser l.least c || list_any (is_before c) (drop l.claim-index l.claims)) ≡ list_any (is_before c) l.claims
