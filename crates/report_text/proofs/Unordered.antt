-- The order of rows is not printed.
use Rattle.std.proofs.Common.{◌≡◌, ◌++◌, ℕ, List, map, ap, refl, sym}
use Rattle.std.specs.Ordering.{nat_cmp}
use Rattle.std.specs.Cmp.Lexicographic.{slice_cmp, nat_list_cmp_total}
use Rattle.std.specs.FinMap.{slice_cmp-IsAntisymmetric, nat_cmp-IsAntisymmetric}
use Rattle.std.specs.List.{flat_map}
use Rattle.shared_tables.specs.declared.rows.Report.{Report}
use Rattle.shared_tables.specs.Rows.{SameRows}
use Rattle.shared_tables.proofs.CallerLemmas.{SameRows-map}
use Rattle.report_text.specs.Lines.{text_of_rows}
use Rattle.report_text.specs.Laws.{HaveSameRows, OrderIsNotPrinted, SortsLines}
use Rattle.report_text.specs.Text.{source_line, node_line, identity_line, address_line, backend_line, chosen_line, reject_line, rows_text}
use Rattle.report_text.proofs.Sorted.{sorted_same, sorted_up, weigh_sorted}

-- the same rows have the same text
pub same_text : {X : Type 0} → (line : X → List ℕ) (xs ys : List X) → SameRows xs ys → text_of_rows line xs ≡ text_of_rows line ys
same_text line xs ys h = ap (flat_map (λ (l : List ℕ). l)) (sorted_same (slice_cmp nat_cmp) nat_list_cmp_total (slice_cmp-IsAntisymmetric nat_cmp-IsAntisymmetric) (map line xs) (map line ys) (SameRows-map line xs ys h))

joined : (a b c d : List ℕ) → a ≡ b → c ≡ d → a ++ c ≡ b ++ d
joined a b c d first rest = cc

pub same_rows_text : (a b : Report) → HaveSameRows a b → rows_text a ≡ rows_text b
same_rows_text a b h =
    joined _ _ _ _ (same_text source_line a.sources b.sources h.sources)
    (joined _ _ _ _ (same_text node_line a.nodes b.nodes h.nodes)
    (joined _ _ _ _ (same_text identity_line a.identities b.identities h.identities)
    (joined _ _ _ _ (same_text address_line a.addresses b.addresses h.addresses)
    (joined _ _ _ _ (same_text backend_line a.backends b.backends h.backends)
    (joined _ _ _ _ (same_text chosen_line a.chosen b.chosen h.chosen)
    (same_text reject_line a.rejects b.rejects h.rejects))))))

pub order_is_not_printed : OrderIsNotPrinted
order_is_not_printed head number a b h = joined _ _ _ _ refl (joined _ _ _ _ (same_rows_text a b h) refl)

pub sorts_lines : SortsLines
sorts_lines lines = record {
  same = record { weigh = λ weight. sym (weigh_sorted (slice_cmp nat_cmp) nat_list_cmp_total (slice_cmp-IsAntisymmetric nat_cmp-IsAntisymmetric) weight lines) };
  rising = sorted_up (slice_cmp nat_cmp) nat_list_cmp_total (slice_cmp-IsAntisymmetric nat_cmp-IsAntisymmetric) lines;
}
