-- The calls of an exporter on its store as talks: what it asks, and how it goes on by what it heard.
-- Source: Cilium's ClusterMesh documentation (records are exported under a lease) and etcd's API, KV
-- service (Txn) and Lease service (LeaseGrant, LeaseKeepAlive); the form is this project's own.
use Rattle.std.specs.Prelude.{◌≡◌, ◌<◌, ◌-◌, ◌⊎◌, ℕ, zero, suc, Option, None, Some, Result, Ok, Err}
use Rattle.store_api.specs.Calls.{Request, Ending, WantsMemory, Crosses, Heard, Answered, Refused, Missed, Talk, Ends, Asks, Comes, on_store, to_commit, to_grant, to_keep_alive}
use Rattle.store_api.specs.Meaning.{Meaning}
use Rattle.exporter.specs.State.{Export, after_item, after_items, after_start, after_stop, next_ops, turns}
use Rattle.exporter.specs.declared.fault.ExportFault.{ExportFault}
use Rattle.exporter.specs.declared.fault.ExportFault.TheVariants.{Lost, NoLease}

-- what comes of a talk: the exporter, and the fault that ended it
pub record Came : Type 0 where
  pub exporter : Export
  pub fault : Option ExportFault

abbrev pub ExportTalk : Type 0
ExportTalk = Talk (Unit {0}) Came

-- the fault of an answer
abbrev pub fault_of : {T : Type 0} → Result T ExportFault → Option ExportFault
fault_of (Ok value) = None
fault_of (Err fault) = Some fault

-- all was done
abbrev pub all_done : Export → ExportTalk
all_done s = Ends (record { exporter = s; fault = None })

-- a call was lost
abbrev pub lost : Export → ExportTalk
lost s = Ends (record { exporter = s; fault = Some Lost })

-- the lease is not live, and the exporter is stopped
abbrev pub stopped : ℕ → Export → ExportTalk
stopped lease s = Ends (record { exporter = after_stop s; fault = Some (NoLease lease) })

-- start: a lease is granted, and everything is queued under it; a grant is never refused
abbrev pub started_by : Export → Heard → ExportTalk
started_by s (Answered c) = all_done (after_start c.leases.last s)
started_by s (Refused c) = lost s
started_by s Missed = lost s

abbrev pub start_talk : Export → ExportTalk
start_talk s = Asks tt (to_grant s.seconds) (started_by s)

-- keep: the lease lives on; an exporter without a lease makes no call
abbrev pub kept_by : ℕ → Export → Heard → ExportTalk
kept_by lease s (Answered c) = all_done s
kept_by lease s (Refused c) = stopped lease s
kept_by lease s Missed = lost s

abbrev pub keep_under : Option ℕ → Export → ExportTalk
keep_under None s = all_done s
keep_under (Some lease) s = Asks tt (to_keep_alive lease) (kept_by lease s)

abbrev pub keep_talk : Export → ExportTalk
keep_talk s = keep_under s.lease s

-- a commit that is refused names the exporter's lease, and one without a lease is never refused
abbrev pub refused_under : Option ℕ → Export → ExportTalk
refused_under None s = lost s
refused_under (Some lease) s = stopped lease s

-- export: so many items are written from the front, one commit each, until one is refused or lost
abbrev pub exported_by : ExportTalk → Export → Heard → ExportTalk
exported_by more s (Answered c) = more
exported_by more s (Refused c) = refused_under s.lease s
exported_by more s Missed = lost s

abbrev pub export_talk : ℕ → Export → ExportTalk
export_talk zero s = all_done s
export_talk (suc n) s = Asks tt (to_commit (next_ops s)) (exported_by (export_talk n (after_item s)) s)

-- memory was wanted before the call, or by it
abbrev pub WantedMemory : {V : Type 0} → (V → Meaning) → (V → V → Request → Ending → Type 0) → Request → V → V → Type 0
WantedMemory meaning between request old new = (new ≡ old) ⊎ Crosses meaning between request WantsMemory old new

-- some items were written, fewer than there were to be, and the talk came to the item for which memory
-- was wanted
pub record StopsForMemory {V : Type 0} (meaning : V → Meaning) (between : V → V → Request → Ending → Type 0) (most : ℕ) (s s' : Export) (old new : V) : Type 0 where
  pub done : ℕ
  pub fewer : done < turns most s
  pub mid : V
  pub comes : Comes (on_store {W = Unit {0}} meaning between) (export_talk (turns most s) s) old (export_talk (turns most s - done) (after_items done s)) mid
  pub after : s' ≡ after_items done s
  pub wanted : WantedMemory meaning between (to_commit (next_ops (after_items done s))) mid new
