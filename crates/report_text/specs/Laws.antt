-- What a report's text has to do with its rows.
use Rattle.std.specs.Prelude.{◌≡◌, ℕ, List}
use Rattle.std.specs.Cmp.Lexicographic.{slice_cmp}
use Rattle.std.specs.List.Sorted.{IsSorted}
use Rattle.std.specs.Ordering.{nat_cmp}
use Rattle.shared_tables.specs.declared.rows.Report.{Report}
use Rattle.shared_tables.specs.Rows.{SameRows}
use Rattle.report_text.specs.declared.head.Head.{Head}
use Rattle.report_text.specs.Lines.{in_byte_order}
use Rattle.report_text.specs.Text.{report_text}

-- two reports have the same rows of each kind, each as often, in any order
pub record HaveSameRows (a b : Report) : Type 0 where
  pub sources : SameRows a.sources b.sources
  pub nodes : SameRows a.nodes b.nodes
  pub identities : SameRows a.identities b.identities
  pub addresses : SameRows a.addresses b.addresses
  pub backends : SameRows a.backends b.backends
  pub chosen : SameRows a.chosen b.chosen
  pub rejects : SameRows a.rejects b.rejects

-- the same rows, in whatever order, have the same text
abbrev pub OrderIsNotPrinted : Type 0
OrderIsNotPrinted = (head : Head) (number : ℕ) (a b : Report) → HaveSameRows a b → report_text head number a ≡ report_text head number b

-- lines in byte order are the same lines, each as often, and none is below the one before it
pub record IsInByteOrder (lines sorted : List (List ℕ)) : Type 0 where
  pub same : SameRows lines sorted
  pub rising : IsSorted (slice_cmp nat_cmp) sorted

abbrev pub SortsLines : Type 0
SortsLines = (lines : List (List ℕ)) → IsInByteOrder lines (in_byte_order lines)
