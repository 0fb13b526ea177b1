use Rattle.std.proofs.Common.{refl}
use Rattle.record_reading.specs.Node.{node_of}
use Rattle.mesh_records.specs.Trees.{node_tree}
use Rattle.mesh_records.proofs.NodeBack.{node_reads_back, node_plain}
use Rattle.mesh_records.proofs.Written.{text_written, read_again}
use Rattle.mesh_records.proofs.write.write_node.Goals as goal

pub returns-clause-text : goal.returns-clause-text
returns-clause-text c =
    let n = c.args.node.now in
    text_written _ (node_tree n) _ c.in_ok-value.ensures.tree (node_plain n).0 c.in_ok-bytes.ensures.text

pub returns-clause-reads_back : goal.returns-clause-reads_back
unfolding node_tree
returns-clause-reads_back c =
    let n = c.args.node.now in
    let e = c.in_ok-value.ensures in
    read_again node_of _ (node_tree n) _ n e.tree (node_plain n).1 refl (node_reads_back n e.id e.addresses) c.in_ok-bytes.ensures.reads_back
