use Rattle.std.proofs.Common.{◌≡◌, ℕ, List, take, cond, None}
use Rattle.std.specs.Ordering.{nat_cmp}
use Rattle.std.specs.Cmp.Lexicographic.{slice_cmp}
use Rattle.std.specs.BTreeMap.{get}
use Rattle.store_api.specs.History.{in_ranges}
use Rattle.memory_store.proofs.listing.listed.Given as goal

-- what is live in the ranges so far was found
abbrev pub invariant-loop-range : goal.invariant-loop-range
invariant-loop-range l = (k : List ℕ) → get (slice_cmp nat_cmp) l.found k ≡ cond (in_ranges (take l.range-index l.ranges.items) k) (get (slice_cmp nat_cmp) l.live k) None
