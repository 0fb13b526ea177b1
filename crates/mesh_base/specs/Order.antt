-- The one test of equality on byte lists, that of the byte order.
use Rattle.std.specs.Prelude.{ℕ, List, Bool}
use Rattle.std.specs.Ordering.{nat_cmp, is_eq}
use Rattle.std.specs.Cmp.Lexicographic.{slice_cmp}

-- the same bytes
abbrev pub same_bytes : List ℕ → List ℕ → Bool
same_bytes a b = is_eq (slice_cmp nat_cmp a b)
