-- What an exporter is, as plain data, and what each of its calls does to that.
-- Source: Cilium's ClusterMesh documentation (the clustermesh-apiserver exports a cluster's records
-- under a lease, and a synced canary behind the records of each kind) and etcd's API, Lease service
-- (a key that is put under a lease is deleted when the lease lapses).
use Rattle.std.specs.Prelude.{◌≡◌, ◌<◌, ◌≤◌, ◌^◌, IsTrue, ℕ, zero, suc, ◌&&◌, List, [], ◌∷◌, ◌++◌, map, drop, codes, length, min, slice_set, Bool, true, false, if◌then◌else◌, Option, None, Some, is_some}
use Rattle.std.specs.FinMap.{get, contains_key, insert, remove, empty, keys}
use Rattle.std.specs.List.{list_any, list_all}
use Rattle.mesh_base.specs.Order.{same_bytes}
use Rattle.mesh_text.specs.declared.kind.Kind.{Kind}
use Rattle.mesh_text.specs.Kinds.{place}
use Rattle.store_api.specs.History.{Pairing, in_ranges}
use Rattle.store_api.specs.declared.change.Op.{Op}
use Rattle.store_api.specs.declared.change.Op.TheVariants as op
use Rattle.key_paths.specs.declared.hop.Hop.TheVariants.{State}
use Rattle.key_paths.specs.declared.key.Key.{Key}
use Rattle.key_paths.specs.declared.key.Key.TheVariants as names
use Rattle.key_paths.specs.Paths.{kinds, config_key, mark_key, record_ranges}
use Rattle.record_values.specs.Values.{Config}
use Rattle.mesh_records.specs.Trees.{config_tree}
use Rattle.record_check.specs.Limits.{last_cluster}
use Rattle.record_check.specs.declared.limit.Limit.TheVariants.{Small}
use Rattle.serde_json.specs.Written.{compact_text}
use Rattle.exporter.specs.declared.item.Item.{Item}
use Rattle.exporter.specs.declared.item.Item.TheVariants as item

-- its cluster's name and number, for how many seconds its leases are, the values that are declared
-- by key, what waits to be written, its lease where it runs, and for each kind, in their order,
-- whether its mark was written since the start
pub record Export : Type 0 where
  pub cluster : List ℕ
  pub number : ℕ
  pub seconds : ℕ
  pub declared : Pairing
  pub queue : List Item
  pub lease : Option ℕ
  pub marked : List Bool

-- no mark was written
abbrev pub unmarked : List Bool
unmarked = false ∷ false ∷ false ∷ false ∷ []

-- an exporter that was never called
abbrev pub new_export : List ℕ → ℕ → ℕ → Export
new_export cluster number seconds = record {
  cluster = cluster;
  number = number;
  seconds = seconds;
  declared = empty;
  queue = [];
  lease = None;
  marked = unmarked;
}

abbrev pub is_record : List ℕ → Item → Bool
is_record key item.Config = false
is_record key (item.Record other) = same_bytes other key
is_record key (item.Mark kind) = false

-- the queue with the key behind the others; a key that waits keeps its place
abbrev pub with_key : List ℕ → List Item → List Item
with_key key queue = if list_any (is_record key) queue then queue else queue ++ item.Record key ∷ []

-- the key waits to be written, where the exporter runs
abbrev pub waiting : List ℕ → Export → Export
waiting key s = if is_some s.lease then record s { queue = with_key key s.queue } else s

-- after a record is declared, or declared anew
abbrev pub after_declare : List ℕ → List ℕ → Export → Export
after_declare key value s = waiting key (record s { declared = insert s.declared key value })

-- after a record is withdrawn; nothing changes where none is declared under the key
abbrev pub after_withdraw : List ℕ → Export → Export
after_withdraw key s =
    if contains_key s.declared key then waiting key (record s { declared = remove s.declared key }) else s

abbrev pub record_item : List ℕ → Item
record_item key = item.Record key

abbrev pub mark_item : Kind → Item
mark_item kind = item.Mark kind

-- all that is exported, where records are declared under these keys: the config, the records, and
-- the marks behind them
abbrev pub everything : List (List ℕ) → List Item
everything records = item.Config ∷ (map record_item records ++ map mark_item kinds)

-- after a start with this lease
abbrev pub after_start : ℕ → Export → Export
after_start lease s = record s { queue = everything (keys s.declared); lease = Some lease; marked = unmarked }

-- after a stop: nothing waits, and the lease is left to lapse
abbrev pub after_stop : Export → Export
after_stop s = record s { queue = []; lease = None; marked = unmarked }

-- which marks were written, with the first of these items
abbrev pub marked_by : List Item → List Bool → List Bool
marked_by (item.Mark kind ∷ items) marked = slice_set marked (place kind) true
marked_by _ marked = marked

-- after the item in front was written
abbrev pub after_item : Export → Export
after_item s = record s { queue = drop 1 s.queue; marked = marked_by s.queue s.marked }

-- after so many items were written
abbrev pub after_items : ℕ → Export → Export
after_items zero s = s
after_items (suc n) s = after_items n (after_item s)

-- it runs, and all four marks were written since the start
abbrev pub is_synced : Export → Bool
is_synced s = is_some s.lease && list_all (λ mark. mark) s.marked

-- the config that is exported: with canaries, no copy, and for a mesh of 255 clusters
abbrev pub config : ℕ → Config
config number = record { id = number; synced_canaries = true; cached = false; max_connected = last_cluster Small }

-- its JSON text
unfoldable pub config_value : ℕ → List ℕ
config_value number = compact_text (config_tree (config number))

-- the value of a mark
abbrev pub mark_value : List ℕ
mark_value = codes "1"

-- a record is put with its declared value, and deleted where none is declared
abbrev pub record_op : List ℕ → Option (List ℕ) → Option ℕ → Op
record_op key (Some value) lease = op.Put key value lease
record_op key None lease = op.Delete key

-- what writing an item is at this moment: all that is put is put under the lease
abbrev pub op_of : Export → Item → Op
op_of s item.Config = op.Put (config_key s.cluster) (config_value s.number) s.lease
op_of s (item.Record key) = record_op key (get s.declared key) s.lease
op_of s (item.Mark kind) = op.Put (mark_key s.cluster State kind) mark_value s.lease

abbrev pub ops_of : Export → List Item → List Op
ops_of s [] = []
ops_of s (first ∷ items) = op_of s first ∷ []

-- the commit of the item in front
abbrev pub next_ops : Export → List Op
next_ops s = ops_of s s.queue

-- how many items an export of at most so many writes
abbrev pub turns : ℕ → Export → ℕ
turns most s = min most (length s.queue)

-- the key is one of a record in the store of this cluster's exporter
abbrev pub IsExported : List ℕ → Key → Type 0
IsExported cluster (names.Node hop of node) = (hop ≡ State) × (of ≡ cluster)
IsExported cluster (names.Service hop of namespace name) = (hop ≡ State) × (of ≡ cluster)
IsExported cluster (names.Identity cached number) = cached ≡ None
IsExported cluster (names.Address cached ip) = cached ≡ None
IsExported cluster _ = ⊥

-- what holds of every exporter: nothing waits where it is stopped, and what is declared are records
-- of its cluster
pub record IsExport (s : Export) : Type 0 where
  pub stopped : s.lease ≡ None → s.queue ≡ []
  pub number : s.number < 2 ^ 32
  pub seconds : 1 ≤ s.seconds
  pub records : (key : List ℕ) → IsTrue (contains_key s.declared key) → IsTrue (in_ranges (record_ranges s.cluster State) key)
