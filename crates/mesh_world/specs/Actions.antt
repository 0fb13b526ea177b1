-- What each line of a scenario does to a world, by the outcomes of the calls that it makes.
-- Source: Cilium's ClusterMesh documentation (exporters write under a lease; agents list and watch) and
-- etcd's API (Txn, LeaseGrant, LeaseKeepAlive, Compact, Watch). Links and clocks are this project's own.
use Rattle.std.specs.Prelude.{ℕ, zero, suc, ◌+◌, ◌-◌, ◌^◌, List, [], ◌∷◌, ◌++◌, map, length, Bool, not, true, false, None}
use Rattle.store_api.specs.Contents.{Contents}
use Rattle.store_api.specs.Calls.{Talk, to_commit, to_compact, to_tick}
use Rattle.store_api.specs.Spans.{unread}
use Rattle.store_api.specs.declared.change.Op.{Op}
use Rattle.store_api.specs.declared.change.Op.TheVariants as op
use Rattle.flaky_link.specs.Link.{Link}
use Rattle.flaky_link.specs.declared.state.When.{When}
use Rattle.flaky_link.specs.declared.state.When.TheVariants as when
use Rattle.exporter.specs.State.{Export, after_stop, turns}
use Rattle.exporter.specs.Talks.{Came, export_talk, keep_talk, start_talk}
use Rattle.reflector.specs.Talks.{turn_talk}
use Rattle.report_text.specs.Text.{report_text}
use Rattle.report_text.specs.declared.head.Head.TheVariants as head
use Rattle.scenario_lang.specs.Lines.{Said}
use Rattle.scenario_lang.specs.declared.scenario.Action.{Action}
use Rattle.scenario_lang.specs.declared.scenario.Action.TheVariants as action
use Rattle.scenario_lang.specs.declared.scenario.Count.{Count}
use Rattle.scenario_lang.specs.declared.scenario.Count.TheVariants as count
use Rattle.scenario_lang.specs.declared.scenario.LinkName.{LinkName}
use Rattle.scenario_lang.specs.declared.scenario.LinkName.TheVariants as link
use Rattle.scenario_lang.specs.declared.scenario.Moment.{Moment}
use Rattle.scenario_lang.specs.declared.scenario.Moment.TheVariants as moment
use Rattle.scenario_lang.specs.declared.scenario.RawWrite.{RawWrite}
use Rattle.scenario_lang.specs.declared.scenario.RawWrite.TheVariants as raw
use Rattle.scenario_lang.specs.declared.scenario.StoreOf.{StoreOf}
use Rattle.scenario_lang.specs.declared.scenario.StoreOf.TheVariants as store
use Rattle.mesh_world.specs.Asking.{Outcome, Step, done, ask, ask_surely, at_link, play}
use Rattle.mesh_world.specs.Records.{declaring, declaring_node, withdrawing, identity_of, address_of, identity_key, address_key}
use Rattle.mesh_world.specs.Sources.{report_of}
use Rattle.mesh_world.specs.World.{Remote, World, remote_at, store_of, with_exporter, with_reader, at_remote, first_world}

-- from a world on to the next, with the outcomes that are left
abbrev pub Does : Type 0
Does = Step (World × List Outcome)

-- a change of the world without a call on a store
abbrev pub changes : (World → World) → Does
changes change w outcomes = (change w, outcomes)

-- the remote's exporter is changed
abbrev pub at_exporter : ℕ → (Export → Export) → World → World
at_exporter remote change w = at_remote remote (with_exporter change) w

abbrev pub exporter_at : World → ℕ → Export
exporter_at w remote = (remote_at w remote).exporter

-- how many items or revisions at most
abbrev pub most : Count → ℕ
most (count.Of n) = n
most count.All = 2 ^ 64 - 1

-- a talk of a remote's exporter or reader over a link, and what comes of it put in the remote
abbrev pub speak : {X : Type 0} → LinkName → ℕ → (Remote → Talk (Unit {0}) X) → (X → Remote → Remote) → Does
speak link remote talk ends w outcomes = play link remote (talk (remote_at w remote)) (λ came. changes (at_remote remote (ends came))) w outcomes

abbrev pub came_to : Came → Remote → Remote
came_to came r = with_exporter (λ e. came.exporter) r

-- start: a lease is granted, and everything is queued under it
abbrev pub start : ℕ → Does
start remote = speak link.Exporter remote (λ r. start_talk r.exporter) came_to

-- keep: the lease lives on; an exporter whose lease is dead stops
abbrev pub keep : ℕ → Does
keep remote = speak link.Exporter remote (λ r. keep_talk r.exporter) came_to

-- export: items are written from the front of the queue, one commit each, until one is refused or lost;
-- an exporter whose lease is dead stops
abbrev pub export : ℕ → ℕ → Does
export remote n = speak link.Exporter remote (λ r. export_talk (turns n r.exporter) r.exporter) came_to

-- raw: one operation without a lease, straight to the store
abbrev pub raw_op : RawWrite → Op
raw_op (raw.Put key value) = op.Put key value None
raw_op (raw.Delete key) = op.Delete key

abbrev pub write_raw : ℕ → RawWrite → Does
write_raw remote write w outcomes = ask (store_of remote) (to_commit (raw_op write ∷ [])) (λ heard. done) w outcomes

-- tick: the clock of each of so many stores from a place on, one after another
abbrev pub tick_from : ℕ → ℕ → ℕ → Does
tick_from place zero seconds w outcomes = done w outcomes
tick_from place (suc n) seconds w outcomes = ask place (to_tick seconds) (λ heard. tick_from (place + 1) n seconds) w outcomes

-- compact: the history of one store
abbrev pub place_of : StoreOf → ℕ
place_of store.Local = 0
place_of (store.Remote remote) = store_of remote

abbrev pub compact : ℕ → ℕ → Does
compact place upto = ask_surely place (to_compact upto)

-- link: it is up or down; a planned failure stands behind the others
abbrev pub with_way : Bool → Link → Link
with_way up l = record l { down = not up }

abbrev pub when_of : Moment → When
when_of moment.Before = when.Before
when_of moment.After = when.After

abbrev pub with_failure : ℕ → When → Link → Link
with_failure skip when l = record l { plan = l.plan ++ (skip, when) ∷ [] }

-- turn: a reader that waits lists, and another watches from behind its cursor; a lost call closes its
-- record
abbrev pub turn : ℕ → ℕ → Does
turn remote n = speak link.Agent remote (λ r. turn_talk n r.reader) (λ read. with_reader (λ before. read))

-- restart agent: every reader begins new
abbrev pub restarted : World → World
restarted w = record w { remotes = map (with_reader (λ r. unread)) w.remotes }

-- report: a block more
abbrev pub reported : World → World
reported w = record w { reports = w.reports + 1; text = w.text ++ report_text head.Report (w.reports + 1) (report_of w) }

-- a record is declared or withdrawn, an exporter stops, or a link is changed
abbrev pub is_change : Action → Bool
is_change (action.Node remote name addresses) = true
is_change (action.Identity remote identity labels) = true
is_change (action.Address remote ip identity host pod) = true
is_change (action.Withdraw remote withdrawn) = true
is_change (action.Stop remote) = true
is_change (action.Link remote link up) = true
is_change (action.Fail remote link skip moment) = true
is_change _ = false

-- what an action does
abbrev pub act : Action → Does
act (action.Node remote name addresses) w outcomes = changes (at_exporter remote (declaring_node name addresses)) w outcomes
act (action.Identity remote identity labels) w outcomes = changes (at_exporter remote (declaring (identity_key identity) (identity_of labels))) w outcomes
act (action.Address remote ip identity host pod) w outcomes = changes (at_exporter remote (declaring (address_key ip) (address_of ip identity host pod))) w outcomes
act (action.Withdraw remote withdrawn) w outcomes = changes (at_exporter remote (withdrawing withdrawn)) w outcomes
act (action.Start remote) w outcomes = start remote w outcomes
act (action.Stop remote) w outcomes = changes (at_exporter remote after_stop) w outcomes
act (action.Keep remote) w outcomes = keep remote w outcomes
act (action.Export remote count) w outcomes = export remote (most count) w outcomes
act (action.Raw remote write) w outcomes = write_raw remote write w outcomes
act (action.Tick seconds) w outcomes = tick_from 0 (length w.remotes + 1) seconds w outcomes
act (action.Compact which upto) w outcomes = compact (place_of which) upto w outcomes
act (action.Link remote link up) w outcomes = changes (at_link link remote (with_way up)) w outcomes
act (action.Fail remote link skip moment) w outcomes = changes (at_link link remote (with_failure skip (when_of moment))) w outcomes
act (action.Turn remote count) w outcomes = turn remote (most count) w outcomes
act action.RestartAgent w outcomes = changes restarted w outcomes
act action.Report w outcomes = changes (reported) w outcomes

-- the actions in order
abbrev pub act_all : List Action → Does
act_all [] w outcomes = done w outcomes
act_all (a ∷ actions) w outcomes = let next = act a w outcomes in act_all actions next.0 next.1

-- the world that a scenario leads to from the stores' first contents, and the outcomes that are left
abbrev pub run : Said → List Contents → List Outcome → World × List Outcome
run said stores outcomes = act_all said.actions (first_world said stores) outcomes
