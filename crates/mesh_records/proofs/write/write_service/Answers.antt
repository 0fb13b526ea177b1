use Rattle.std.proofs.Common.{refl}
use Rattle.record_reading.specs.Service.{service_of}
use Rattle.mesh_records.specs.Trees.{service_tree}
use Rattle.mesh_records.proofs.ServiceBack.{service_reads_back, service_plain}
use Rattle.mesh_records.proofs.Written.{text_written, read_again}
use Rattle.mesh_records.proofs.write.write_service.Goals as goal

pub returns-clause-text : goal.returns-clause-text
returns-clause-text c =
    let s = c.args.service.now in
    text_written _ (service_tree s) _ c.in_ok-value.ensures.tree (service_plain s).0 c.in_ok-bytes.ensures.text

pub returns-clause-reads_back : goal.returns-clause-reads_back
unfolding service_tree
returns-clause-reads_back c =
    let s = c.args.service.now in
    let e = c.in_ok-value.ensures in
    read_again service_of _ (service_tree s) _ s e.tree (service_plain s).1 refl (service_reads_back s e.id e.ordered e.fit) c.in_ok-bytes.ensures.reads_back
