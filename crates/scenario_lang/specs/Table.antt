-- The language as a table: the first word of each line, where such a line stands, and its parameters.
use Rattle.std.specs.Prelude.{ℕ, Bool, true, false, List, [], ◌∷◌, codes, Option, Some, None, find, bytes_eq}
use Rattle.mesh_text.specs.declared.ip.Ip.{Ip}
use Rattle.scenario_lang.specs.declared.entry.Entry.{Entry}
use Rattle.scenario_lang.specs.declared.entry.Entry.TheVariants as entry
use Rattle.scenario_lang.specs.declared.scenario.Action.{Action}
use Rattle.scenario_lang.specs.declared.scenario.Action.TheVariants as action
use Rattle.scenario_lang.specs.declared.scenario.Pod.{Pod}
use Rattle.scenario_lang.specs.declared.scenario.RawWrite.{RawWrite}
use Rattle.scenario_lang.specs.declared.scenario.RawWrite.TheVariants as raw
use Rattle.scenario_lang.specs.declared.scenario.Withdrawn.{Withdrawn}
use Rattle.scenario_lang.specs.declared.scenario.Withdrawn.TheVariants as withdrawn
use Rattle.scenario_lang.specs.declared.verb.Verb.{Verb}
use Rattle.scenario_lang.specs.declared.verb.Verb.TheVariants as verb
use Rattle.scenario_lang.specs.declared.verb.Place.{Place}
use Rattle.scenario_lang.specs.declared.verb.Place.TheVariants as place
use Rattle.scenario_lang.specs.Forms.{version, cluster, remote, part, cluster_number, seconds, revision, skip, identity, store, count_or_all, address, host, hop, key, value, labels, link, way, moment}
use Rattle.scenario_lang.specs.Shapes.{Shape, none, one, ◌▸◌, word, many, or, makes}

-- mesh 1
abbrev pub mesh_line : Shape Entry
mesh_line = makes (λ _. entry.Mesh) (one version)

-- local <cluster> <number>
abbrev pub local_line : Shape Entry
local_line = makes (λ p. entry.Local (record { name = p.0; number = p.1 })) (cluster ▸ one cluster_number)

-- lease <seconds>
abbrev pub lease_line : Shape Entry
lease_line = makes entry.Lease (one seconds)

-- remote <cluster> <number> direct
abbrev pub remote_line : Shape Entry
remote_line = makes (λ p. entry.Remote (record { name = p.0; number = p.1.0; hop = p.1.1 })) (cluster ▸ cluster_number ▸ one hop)

-- node <remote> <name> <address>...
abbrev pub node_line : Shape Action
node_line = makes (λ p. action.Node p.0 p.1.0 p.1.1) (remote ▸ part ▸ many address)

-- identity <remote> <identity> <labels>
abbrev pub identity_line : Shape Action
identity_line = makes (λ p. action.Identity p.0 p.1.0 p.1.1) (remote ▸ identity ▸ one labels)

-- <host or ->, and then nothing or <namespace> <pod>
abbrev pub host_and_pod : Shape (Option Ip × Option Pod)
host_and_pod = or
    (makes (λ at. (at, None)) (one host))
    (makes (λ p. (p.0, Some (record { namespace = p.1.0; name = p.1.1 }))) (host ▸ part ▸ one part))

-- address <remote> <address> <identity>, and then the host and the pod
abbrev pub address_line : Shape Action
address_line = makes (λ p. action.Address p.0 p.1.0 p.1.1.0 p.1.1.1.0 p.1.1.1.1) (remote ▸ address ▸ identity ▸ host_and_pod)

-- node <name>, identity <identity>, or address <address>
abbrev pub withdrawn_record : Shape Withdrawn
withdrawn_record = or
    (word (codes "node") (makes withdrawn.Node (one part)))
    (or (word (codes "identity") (makes withdrawn.Identity (one identity)))
    (word (codes "address") (makes withdrawn.Address (one address))))

-- withdraw <remote>, and then the record
abbrev pub withdraw_line : Shape Action
withdraw_line = makes (λ p. action.Withdraw p.0 p.1) (remote ▸ withdrawn_record)

-- start <remote>
abbrev pub start_line : Shape Action
start_line = makes action.Start (one remote)

-- stop <remote>
abbrev pub stop_line : Shape Action
stop_line = makes action.Stop (one remote)

-- keep <remote>
abbrev pub keep_line : Shape Action
keep_line = makes action.Keep (one remote)

-- export <remote> <count or all>
abbrev pub export_line : Shape Action
export_line = makes (λ p. action.Export p.0 p.1) (remote ▸ one count_or_all)

-- put <key> <value>, or delete <key>
abbrev pub raw_write : Shape RawWrite
raw_write = or
    (word (codes "put") (makes (λ p. raw.Put p.0 p.1) (key ▸ one value)))
    (word (codes "delete") (makes raw.Delete (one key)))

-- raw <remote>, and then the write
abbrev pub raw_line : Shape Action
raw_line = makes (λ p. action.Raw p.0 p.1) (remote ▸ raw_write)

-- tick <seconds>
abbrev pub tick_line : Shape Action
tick_line = makes action.Tick (one seconds)

-- compact <remote or local cluster> <revision>
abbrev pub compact_line : Shape Action
compact_line = makes (λ p. action.Compact p.0 p.1) (store ▸ one revision)

-- link <remote> <link> <up or down>
abbrev pub link_line : Shape Action
link_line = makes (λ p. action.Link p.0 p.1.0 p.1.1) (remote ▸ link ▸ one way)

-- fail <remote> <link> <skip> <before or after>
abbrev pub fail_line : Shape Action
fail_line = makes (λ p. action.Fail p.0 p.1.0 p.1.1.0 p.1.1.1) (remote ▸ link ▸ skip ▸ one moment)

-- turn agent <remote> <count or all>
abbrev pub turn_line : Shape Action
turn_line = word (codes "agent") (makes (λ p. action.Turn p.0 p.1) (remote ▸ one count_or_all))

-- restart agent
abbrev pub restart_line : Shape Action
restart_line = word (codes "agent") (makes (λ _. action.RestartAgent) none)

-- report
abbrev pub report_line : Shape Action
report_line = makes (λ _. action.Report) none

pub record Row : Type 0 where
  pub first : List ℕ
  pub place : Place
  pub line : Shape Entry

abbrev pub header_row : List ℕ → Place → Shape Entry → Row
header_row first place line = record { first = first; place = place; line = line }

abbrev pub action_row : List ℕ → Shape Action → Row
action_row first line = record { first = first; place = place.Actions; line = makes entry.Act line }

-- the table
unfoldable pub row : Verb → Row
row verb.Mesh = header_row (codes "mesh") place.Mesh mesh_line
row verb.Local = header_row (codes "local") place.Local local_line
row verb.Lease = header_row (codes "lease") place.Lease lease_line
row verb.Remote = header_row (codes "remote") place.Remotes remote_line
row verb.Node = action_row (codes "node") node_line
row verb.Identity = action_row (codes "identity") identity_line
row verb.Address = action_row (codes "address") address_line
row verb.Withdraw = action_row (codes "withdraw") withdraw_line
row verb.Start = action_row (codes "start") start_line
row verb.Stop = action_row (codes "stop") stop_line
row verb.Keep = action_row (codes "keep") keep_line
row verb.Export = action_row (codes "export") export_line
row verb.Raw = action_row (codes "raw") raw_line
row verb.Tick = action_row (codes "tick") tick_line
row verb.Compact = action_row (codes "compact") compact_line
row verb.Link = action_row (codes "link") link_line
row verb.Fail = action_row (codes "fail") fail_line
row verb.Turn = action_row (codes "turn") turn_line
row verb.Restart = action_row (codes "restart") restart_line
row verb.Report = action_row (codes "report") report_line

abbrev pub verbs : List Verb
verbs = verb.Mesh ∷ verb.Local ∷ verb.Lease ∷ verb.Remote ∷ verb.Node ∷ verb.Identity ∷ verb.Address ∷ verb.Withdraw
    ∷ verb.Start ∷ verb.Stop ∷ verb.Keep ∷ verb.Export ∷ verb.Raw ∷ verb.Tick ∷ verb.Compact ∷ verb.Link
    ∷ verb.Fail ∷ verb.Turn ∷ verb.Restart ∷ verb.Report ∷ []

-- the row that a line belongs to, by its first word
unfoldable pub verb_of : List ℕ → Option Verb
verb_of first = find (λ v. bytes_eq first (row v).first) verbs

-- whether a line of the second part may follow one of the first: `mesh` and `local` once each, then
-- at most one `lease`, then any number of remotes, then any number of actions
abbrev pub may_follow : Place → Place → Bool
may_follow place.Start place.Mesh = true
may_follow place.Mesh place.Local = true
may_follow place.Local place.Lease = true
may_follow place.Local place.Remotes = true
may_follow place.Lease place.Remotes = true
may_follow place.Remotes place.Remotes = true
may_follow place.Local place.Actions = true
may_follow place.Lease place.Actions = true
may_follow place.Remotes place.Actions = true
may_follow place.Actions place.Actions = true
may_follow _ _ = false
