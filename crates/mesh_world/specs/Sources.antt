-- The sources of a report: what the agent's reader has sighted of each remote, and how that stands.
-- Source: Cilium's ClusterMesh documentation (after a reconnection earlier entries stay until synced).
use Rattle.std.specs.Prelude.{◌≡◌, ℕ, List, [], ◌∷◌, not, drop}
use Rattle.key_paths.specs.declared.hop.Hop.TheVariants.{State}
use Rattle.record_check.specs.declared.limit.Limit.TheVariants.{Small}
use Rattle.relist_merge.specs.Viewed.{followed}
use Rattle.shared_tables.specs.declared.rows.Report.{Report}
use Rattle.shared_tables.specs.declared.rows.SourceRow.{SourceRow}
use Rattle.shared_tables.specs.Merge.{IsMerge, node_rows, identity_rows, address_rows, backend_rows, reject_rows}
use Rattle.shared_tables.specs.RecordSets.{RecordSet, set_of}
use Rattle.store_api.specs.Contents.{Contents}
use Rattle.store_api.specs.Followed.{Followed}
use Rattle.store_api.specs.History.{History}
use Rattle.store_api.specs.Sets.{seen_set}
use Rattle.store_api.specs.Spans.{Record, cursor_of, is_caught_up}
use Rattle.mesh_world.specs.World.{World, Remote}

-- what a reader of the cluster's own store follows
abbrev pub state_of : List ℕ → Followed
state_of name = followed (record { cluster = name; hop = State; limit = Small })

-- the records that are shown of a source: of the pairs that the reader has sighted, the config and those
-- of the four kinds
abbrev pub sighted_set : List ℕ → History → Record → RecordSet
sighted_set name history reader = set_of Small name (seen_set (state_of name) history reader.spans)

-- the revision up to which the source was followed; it is held where the reader is not caught up
abbrev pub source_row : List ℕ → History → Record → SourceRow
source_row name history reader = record {
  cluster = name;
  hop = State;
  held = not (is_caught_up (state_of name) history reader);
  revision = cursor_of reader.spans;
}

-- what the function makes of each remote's name, its store's history and its reader
abbrev pub of_each : {X : Type 0} → (List ℕ → History → Record → X) → List Contents → List Remote → List X
of_each make stores [] = []
of_each make [] (r ∷ remotes) = []
of_each make (c ∷ stores) (r ∷ remotes) = make r.exporter.cluster c.history r.reader ∷ of_each make stores remotes

abbrev pub sets_in : World → List RecordSet
sets_in w = of_each sighted_set (drop 1 w.stores) w.remotes

abbrev pub merged : ℕ → List SourceRow → List RecordSet → Report
merged local sources sets = record {
  sources = sources;
  nodes = node_rows Small local sets;
  identities = identity_rows Small local sets;
  addresses = address_rows Small local sets;
  backends = backend_rows Small local sets;
  chosen = [];
  rejects = reject_rows Small local sets;
}

-- the report has these source rows, and the rows of these record sets in any order
pub record IsReportOf (local : ℕ) (of : List SourceRow) (sets : List RecordSet) (report : Report) : Type 0 where
  pub sources : report.sources ≡ of
  pub rows : IsMerge Small local sets (record report { sources = [] })

-- the report of a world: the filter and the union over its sources
abbrev pub report_of : World → Report
report_of w = merged w.local (of_each source_row (drop 1 w.stores) w.remotes) (sets_in w)
