-- The fields of an address (after Cilium's IP identities in the kvstore).
use Rattle.std.specs.Prelude.{◌^◌, codes, None, Result, Ok}
use Rattle.serde_json.specs.Data.{Data}
use Rattle.serde_json.specs.Find.{get}
use Rattle.record_values.specs.declared.fault.ReadFault.{ReadFault}
use Rattle.record_values.specs.declared.fault.ReadFault.TheVariants.{Mask}
use Rattle.record_values.specs.Values.{Address}
use Rattle.record_reading.specs.Judgement.{◌>>=◌}
use Rattle.record_reading.specs.Forms.{required, optional, whole_below, address, refused, some_address, some_text}

-- the fields in the order in which they are judged; an address stands for itself alone, without a mask
unfoldable pub address_record_of : Data → Result Address ReadFault
address_record_of d =
    required address (codes "IP") (get (codes "IP") d) >>= λ ip.
    optional (refused Mask) tt (codes "Mask") (get (codes "Mask") d) >>= λ _.
    optional some_address None (codes "HostIP") (get (codes "HostIP") d) >>= λ host.
    required (whole_below (2 ^ 32)) (codes "ID") (get (codes "ID") d) >>= λ id.
    optional some_text None (codes "K8sNamespace") (get (codes "K8sNamespace") d) >>= λ namespace.
    optional some_text None (codes "K8sPodName") (get (codes "K8sPodName") d) >>= λ pod.
    Ok (record { ip = ip; host = host; id = id; namespace = namespace; pod = pod })
