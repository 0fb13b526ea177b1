-- The fields of a cluster's config (after Cilium's cluster config in the kvstore).
use Rattle.std.specs.Prelude.{◌^◌, ◌==◌, false, codes, None, Result, Ok, if◌then◌else◌}
use Rattle.serde_json.specs.Data.{Data}
use Rattle.serde_json.specs.Find.{get}
use Rattle.record_values.specs.declared.fault.ReadFault.{ReadFault}
use Rattle.record_values.specs.Values.{Config}
use Rattle.record_reading.specs.Judgement.{◌>>=◌}
use Rattle.record_reading.specs.Forms.{required, optional, whole_below, truth, object, member_of}

-- the fields in the order in which they are judged; a limit of clusters that is absent or 0 is 255
unfoldable pub config_of : Data → Result Config ReadFault
config_of d =
    required (whole_below (2 ^ 32)) (codes "id") (get (codes "id") d) >>= λ id.
    optional object None (codes "capabilities") (get (codes "capabilities") d) >>= λ capabilities.
    optional truth false (codes "syncedCanaries") (member_of (codes "syncedCanaries") capabilities) >>= λ synced_canaries.
    optional truth false (codes "cached") (member_of (codes "cached") capabilities) >>= λ cached.
    optional (whole_below (2 ^ 32)) 0 (codes "maxConnectedClusters") (member_of (codes "maxConnectedClusters") capabilities) >>= λ most.
    Ok (record { id = id; synced_canaries = synced_canaries; cached = cached; max_connected = if most == 0 then 255 else most })
