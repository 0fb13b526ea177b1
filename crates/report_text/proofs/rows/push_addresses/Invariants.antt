use Rattle.std.proofs.Common.{◌≡◌, ◌++◌, map, drop}
use Rattle.report_text.specs.Lines.{rest_of_line}
use Rattle.report_text.specs.Words.{typed_address}
use Rattle.report_text.proofs.rows.push_addresses.Given as goal

-- the line so far and what is left are all
abbrev pub invariant-loop-address : goal.invariant-loop-address
invariant-loop-address l = l.line ++ rest_of_line (map typed_address (drop l.address-index l.addresses)) ≡ l.fn.line ++ rest_of_line (map typed_address l.addresses)
