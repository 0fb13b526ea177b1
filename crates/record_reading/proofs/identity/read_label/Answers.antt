use Rattle.record_reading.proofs.Cuts.{parts_fit}
use Rattle.record_reading.proofs.identity.read_label.Goals as goal

pub invariant_of-result : goal.invariant_of-result
invariant_of-result c =
    rw (c.in_ok-from_slice.ensures, c.in_ok-from_slice-2.ensures, c.in_ok-from_slice-3.ensures)
    (parts_fit _ _ _ _ _ c.requires c.in-Some.ensures c.in-Some-cut_once.ensures c.if-is_empty.ensures c.if-is_empty-2.ensures c.if-holds_byte.ensures)
