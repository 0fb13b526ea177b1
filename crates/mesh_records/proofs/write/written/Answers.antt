use Rattle.mesh_records.proofs.Written.{tree_read}
use Rattle.mesh_records.proofs.write.written.Goals as goal

pub returns-clause-reads_back : goal.returns-clause-reads_back
returns-clause-reads_back c = λ shallow. tree_read _ _ c.in_ok-bytes.ensures.utf8 (c.in_ok-bytes.ensures.reads_back shallow)
