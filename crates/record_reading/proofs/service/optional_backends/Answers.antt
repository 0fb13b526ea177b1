use Rattle.std.specs.List.Sorted.{IsStrictlySortedBy}
use Rattle.record_reading.proofs.service.optional_backends.Goals as goal

pub returns-in_default-clause-ordered : goal.returns-in_default-clause-ordered
unfolding IsStrictlySortedBy
returns-in_default-clause-ordered c = rw c.new.ensures tt

pub returns-then-is_null-clause-ordered : goal.returns-then-is_null-clause-ordered
unfolding IsStrictlySortedBy
returns-then-is_null-clause-ordered c = rw c.new-then-is_null.ensures tt
