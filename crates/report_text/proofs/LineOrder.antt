-- The text of lines in order.
use Rattle.std.proofs.Common.{◌≡◌, ℕ, List, ap, sym}
use Rattle.std.specs.Ordering.{nat_cmp}
use Rattle.std.specs.Cmp.Lexicographic.{slice_cmp, nat_list_cmp_total}
use Rattle.std.specs.FinMap.{slice_cmp-IsAntisymmetric, nat_cmp-IsAntisymmetric}
use Rattle.std.specs.List.{flat_map}
use Rattle.std.specs.List.Sorted.{IsPermutation, IsSorted}
use Rattle.std.proofs.lemmas.List.Sorted.{sum_by-IsPermutation}
use Rattle.shared_tables.specs.Rows.{SameRows}
use Rattle.report_text.specs.Lines.{text_of_lines}
use Rattle.report_text.proofs.Sorted.{sorted_is}

same_rows : (xs ys : List (List ℕ)) → IsPermutation xs ys → SameRows xs ys
same_rows xs ys p = record { weigh = λ weight. sym (sum_by-IsPermutation weight xs ys p) }

-- what a sort leaves, one line after the other
pub text_is : (lines now : List (List ℕ)) → IsPermutation lines now → IsSorted (slice_cmp nat_cmp) now → flat_map (λ (line : List ℕ). line) now ≡ text_of_lines lines
text_is lines now moved up = ap (flat_map (λ (line : List ℕ). line)) (sorted_is (slice_cmp nat_cmp) nat_list_cmp_total (slice_cmp-IsAntisymmetric nat_cmp-IsAntisymmetric) lines now (same_rows lines now moved) up)
