use Rattle.std.proofs.Common.{refl}
use Rattle.record_reading.specs.Address.{address_record_of}
use Rattle.mesh_records.specs.Trees.{address_tree}
use Rattle.mesh_records.proofs.AddressBack.{address_reads_back, no_float, shallow}
use Rattle.mesh_records.proofs.Written.{text_written, read_again}
use Rattle.mesh_records.proofs.write.write_address_record.Goals as goal

pub returns-clause-text : goal.returns-clause-text
returns-clause-text c =
    let a = c.args.address.now in
    text_written _ (address_tree a) _ c.in_ok-value.ensures.tree (no_float a.ip a.host a.id a.namespace a.pod) c.in_ok-bytes.ensures.text

pub returns-clause-reads_back : goal.returns-clause-reads_back
unfolding address_tree
returns-clause-reads_back c =
    let a = c.args.address.now in
    let e = c.in_ok-value.ensures in
    read_again address_record_of _ (address_tree a) _ a e.tree (shallow a.ip a.host a.id a.namespace a.pod) refl
    (address_reads_back a e.ip e.host e.id e.namespace e.pod) c.in_ok-bytes.ensures.reads_back
