-- What there is while a scenario runs: the stores, and what exporters, links and readers keep.
-- Source: Cilium's ClusterMesh documentation (a cluster exports its records to its own store, and the
-- agents of other clusters read them there).
use Rattle.std.specs.Prelude.{ℕ, ◌+◌, List, [], map, slice_index_or, slice_set, false, Option, None, Some}
use Rattle.store_api.specs.Contents.{Contents, empty_contents}
use Rattle.store_api.specs.Spans.{Record, unread}
use Rattle.flaky_link.specs.Link.{Link}
use Rattle.exporter.specs.State.{Export, new_export}
use Rattle.scenario_lang.specs.Lines.{Said}
use Rattle.scenario_lang.specs.declared.scenario.LinkName.{LinkName}
use Rattle.scenario_lang.specs.declared.scenario.LinkName.TheVariants as link
use Rattle.scenario_lang.specs.declared.scenario.Remote as said

-- a remote cluster: its exporter, the links of that and of the agent to the cluster's store, and what
-- the agent's reader has followed there
pub record Remote : Type 0 where
  pub exporter : Export
  pub to_exporter : Link
  pub to_agent : Link
  pub reader : Record

-- the number of the local cluster; the contents of the stores, the local one first and then that of each
-- remote; the places of the lost and of all calls on them (the newest first); the remotes; how many
-- reports there are, and their text
pub record World : Type 0 where
  pub local : ℕ
  pub stores : List Contents
  pub lost : List ℕ
  pub asked : List ℕ
  pub remotes : List Remote
  pub reports : ℕ
  pub text : List ℕ

abbrev pub new_link : Link
new_link = record { down = false; plan = []; faults = 0 }

abbrev pub seconds_by : Option ℕ → ℕ
seconds_by None = 900
seconds_by (Some seconds) = seconds

-- for how many seconds a lease of an exporter is
abbrev pub seconds_of : Said → ℕ
seconds_of said = seconds_by said.lease

-- a remote before anything was done
abbrev pub new_remote : List ℕ → ℕ → ℕ → Remote
new_remote name number seconds = record {
  exporter = new_export name number seconds;
  to_exporter = new_link;
  to_agent = new_link;
  reader = unread;
}

abbrev pub no_remote : Remote
no_remote = new_remote [] 0 1

-- the store of a remote stands behind the local one and those of the remotes before it
abbrev pub store_of : ℕ → ℕ
store_of remote = remote + 1

abbrev pub contents_at : World → ℕ → Contents
contents_at w place = slice_index_or w.stores place empty_contents

abbrev pub remote_at : World → ℕ → Remote
remote_at w remote = slice_index_or w.remotes remote no_remote

-- a remote that is watched in its own store has these two links alone
abbrev pub link_of : LinkName → Remote → Link
link_of link.Exporter r = r.to_exporter
link_of link.Agent r = r.to_agent
link_of _ r = new_link

abbrev pub with_link : LinkName → (Link → Link) → Remote → Remote
with_link link.Exporter change r = record r { to_exporter = change r.to_exporter }
with_link link.Agent change r = record r { to_agent = change r.to_agent }
with_link _ change r = r

abbrev pub with_exporter : (Export → Export) → Remote → Remote
with_exporter change r = record r { exporter = change r.exporter }

abbrev pub with_reader : (Record → Record) → Remote → Remote
with_reader change r = record r { reader = change r.reader }

-- the store at the place is changed
abbrev pub at_store : ℕ → (Contents → Contents) → World → World
at_store place change w = record w { stores = slice_set w.stores place (change (contents_at w place)) }

-- the remote at the place is changed
abbrev pub at_remote : ℕ → (Remote → Remote) → World → World
at_remote remote change w = record w { remotes = slice_set w.remotes remote (change (remote_at w remote)) }

-- the world before the first action of a scenario, over these contents of the stores
abbrev pub first_world : Said → List Contents → World
first_world scenario stores = record {
  local = scenario.local.number;
  stores = stores;
  lost = [];
  asked = [];
  remotes = map (λ (r : said.Remote). new_remote r.name r.number (seconds_of scenario)) scenario.remotes;
  reports = 0;
  text = [];
}
