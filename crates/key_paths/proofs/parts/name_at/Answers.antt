use Rattle.key_paths.proofs.Forms.{name_at_fault}
use Rattle.key_paths.proofs.parts.name_at.Goals as goal

pub returns-in-Err : goal.returns-in-Err
returns-in-Err c = rw c.name_fault.ensures (name_at_fault _ _ c.in-Err.ensures.fault)
