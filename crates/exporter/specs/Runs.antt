-- Runs of an exporter from a start on, and what holds of each of them.
-- Source: Cilium's ClusterMesh documentation (a synced canary says that all records of its kind were
-- written before it) and etcd's API, Lease service (the keys that are attached to a lease).
use Rattle.std.specs.Prelude.{◌≡◌, ◌≢◌, ℕ, List, [], ◌∷◌, ◌++◌, map, take, All, false, IsTrue, Some}
use Rattle.std.specs.FinMap.{contains_key, entries, from_entries, retain_keys}
use Rattle.std.specs.List.{list_any}
use Rattle.mesh_text.specs.declared.kind.Kind.{Kind}
use Rattle.store_api.specs.Attached.{is_lease, lapsed, lease_of}
use Rattle.store_api.specs.History.{History, Pairing, revision, map_at, in_ranges, with_revision, committed}
use Rattle.store_api.specs.declared.change.Change.{Change}
use Rattle.store_api.specs.declared.change.Change.TheVariants as change
use Rattle.key_paths.specs.declared.hop.Hop.TheVariants.{State}
use Rattle.key_paths.specs.Paths.{kinds, config_key, mark_key, record_ranges}
use Rattle.exporter.specs.declared.item.Item.{Item}
use Rattle.exporter.specs.declared.item.Item.TheVariants as item
use Rattle.exporter.specs.State.{Export, IsExport, is_record, after_declare, after_withdraw, after_start, after_item, next_ops, config_value, mark_value}

-- what happens to an exporter that runs, and to its store: a record is declared or withdrawn, the
-- item in front is written, its commit is made and the answer lost, another revision is made, or
-- another lease lapses
pub data Step : Type 0 where
  Declares : (key value : List ℕ) → Step
  Withdraws : (key : List ℕ) → Step
  Writes : Step
  Loses : Step
  Others : (changes : List Change) → Step
  Lapses : (lease : ℕ) → Step

-- the exporter, and the history of its store
pub record Run : Type 0 where
  pub exporter : Export
  pub history : History

-- the store after the commit of the item in front
abbrev pub with_next : Run → History
with_next r = committed r.history (next_ops r.exporter)

abbrev pub after_step : Step → Run → Run
after_step (Declares key value) r = record r { exporter = after_declare key value r.exporter }
after_step (Withdraws key) r = record r { exporter = after_withdraw key r.exporter }
after_step Writes r = record { exporter = after_item r.exporter; history = with_next r }
after_step Loses r = record r { history = with_next r }
after_step (Others changes) r = record r { history = with_revision r.history changes }
after_step (Lapses lease) r = record r { history = lapsed r.history lease }

abbrev pub after_steps : List Step → Run → Run
after_steps [] r = r
after_steps (step ∷ steps) r = after_steps steps (after_step step r)

-- the exporter as started with this lease, over this history
abbrev pub started : Export → ℕ → History → Run
started s lease history = record { exporter = after_start lease s; history = history }

abbrev pub written_by : Step → Run → List Item
written_by Writes r = take 1 r.exporter.queue
written_by _ r = []

-- the items that were written, in order
abbrev pub written : List Step → Run → List Item
written [] r = []
written (step ∷ steps) r = written_by step r ++ written steps (after_step step r)

-- when a mark is in front, every record that was declared at the start was put or deleted before
abbrev pub MarksComeLast : Type 0
MarksComeLast = (s : Export) (lease : ℕ) (history : History) (steps : List Step) (kind : Kind) (rest : List Item)
    → (after_steps steps (started s lease history)).exporter.queue ≡ item.Mark kind ∷ rest
    → (key : List ℕ) → IsTrue (contains_key s.declared key)
    → IsTrue (list_any (is_record key) (written steps (started s lease history)))

-- the mark of a kind as a pair
abbrev pub mark_pair : List ℕ → Kind → List ℕ × List ℕ
mark_pair cluster kind = (mark_key cluster State kind, mark_value)

-- what an exporter exports: the config, the four marks and the declared records
abbrev pub exported : Export → Pairing
exported s = from_entries ((config_key s.cluster, config_value s.number) ∷ (map (mark_pair s.cluster) kinds ++ entries s.declared))

-- the live pairs that are attached to the lease
abbrev pub attached_pairs : History → ℕ → Pairing
attached_pairs history lease = retain_keys (map_at history (revision history)) (λ key. is_lease lease (lease_of history key))

-- the change is of no key of these, and names another lease or none
abbrev pub IsApart : Pairing → ℕ → Change → Type 0
IsApart own lease (change.Put key value named) = (contains_key own key ≡ false) × (named ≢ Some lease)
IsApart own lease (change.Delete key) = contains_key own key ≡ false

-- records of the cluster are declared, nobody else touches these keys or names the lease, and the
-- lease does not lapse
abbrev pub IsAlone : List ℕ → Pairing → ℕ → Step → Type 0
IsAlone cluster own lease (Declares key value) = IsTrue (in_ranges (record_ranges cluster State) key)
IsAlone cluster own lease (Withdraws key) = Unit {0}
IsAlone cluster own lease Writes = Unit {0}
IsAlone cluster own lease Loses = Unit {0}
IsAlone cluster own lease (Others changes) = All (IsApart own lease) changes
IsAlone cluster own lease (Lapses other) = other ≢ lease

-- where nothing was attached to the lease at the start, where nobody else touched a key that is
-- exported now or named the lease, where it did not lapse, and where nothing waits, the live pairs
-- that are attached to the lease are exactly what is exported
abbrev pub ExportsExactly : Type 0
ExportsExactly = (s : Export) (lease : ℕ) (history : History) (steps : List Step)
    → IsExport s
    → ((key : List ℕ) → lease_of history key ≢ Some lease)
    → All (IsAlone s.cluster (exported (after_steps steps (started s lease history)).exporter) lease) steps
    → (after_steps steps (started s lease history)).exporter.queue ≡ []
    → attached_pairs (after_steps steps (started s lease history)).history lease ≡ exported (after_steps steps (started s lease history)).exporter
