-- The forms of a word: what Words judges in it, and what it says or which fault it has.
-- The language is this project's own; names of clusters are Cilium's, names of nodes, namespaces and
-- pods those of Kubernetes, addresses RFC 4291's, labels after Cilium's identities in the kvstore.
use Rattle.std.specs.Prelude.{ℕ, ◌-◌, ◌^◌, ◌&&◌, Bool, true, false, is_some, nat_lt, nat_le, bytes_eq, List, length, codes, Option, Some, None, option_and_then, position, Result, Ok, Err, if◌then◌else◌}
use Rattle.mesh_base.specs.Order.{same_bytes}
use Rattle.mesh_text.specs.declared.ip.Ip.{Ip}
use Rattle.mesh_text.specs.Names.{is_cluster_name, is_part_name}
use Rattle.mesh_text.specs.Numbers.{number_of}
use Rattle.mesh_text.specs.Addresses.{address_of}
use Rattle.mesh_text.specs.Escapes.{unescaped}
use Rattle.record_values.specs.declared.records.IdentityRecord.{IdentityRecord}
use Rattle.record_reading.specs.Identity.{identity_of}
use Rattle.key_paths.specs.declared.hop.Hop.{Hop}
use Rattle.key_paths.specs.declared.hop.Hop.TheVariants.{State}
use Rattle.scenario_lang.specs.declared.draft.Draft.{Draft}
use Rattle.scenario_lang.specs.declared.kinds.LineKind.{LineKind}
use Rattle.scenario_lang.specs.declared.kinds.LineKind.TheVariants as kind
use Rattle.scenario_lang.specs.declared.scenario.Cluster.{Cluster}
use Rattle.scenario_lang.specs.declared.scenario.Count.{Count}
use Rattle.scenario_lang.specs.declared.scenario.Count.TheVariants as count
use Rattle.scenario_lang.specs.declared.scenario.LinkName.{LinkName}
use Rattle.scenario_lang.specs.declared.scenario.LinkName.TheVariants as link_name
use Rattle.scenario_lang.specs.declared.scenario.Moment.{Moment}
use Rattle.scenario_lang.specs.declared.scenario.Moment.TheVariants as moment_of
use Rattle.scenario_lang.specs.declared.scenario.StoreOf.{StoreOf}
use Rattle.scenario_lang.specs.declared.scenario.StoreOf.TheVariants as store_of
use Rattle.scenario_lang.specs.Clusters.{Names, names_of, is_local_name}
use Rattle.scenario_lang.specs.Judgement.{◌>>=◌, or_fault}

-- whether a word has the look that Words judges in a whole line, before anything else of it; and
-- what a word of that look says behind the lines so far, or its fault
pub record Form (A : Type 0) : Type 0 where
  pub looks : List ℕ → Bool
  pub says : Draft → List ℕ → Result A LineKind

-- a form of which every word has the look
abbrev pub plain : {A : Type 0} → (List ℕ → Result A LineKind) → Form A
plain says = record { looks = λ word. true; says = λ draft word. says word }

-- a form of which Words judges all
abbrev pub fixed : {A : Type 0} → (List ℕ → Option A) → Form A
fixed read = record { looks = λ word. is_some (read word); says = λ draft word. or_fault (read word) kind.Words }

abbrev pub cluster_name_said : List ℕ → Result (List ℕ) LineKind
cluster_name_said word = if is_cluster_name word then Ok word else Err kind.Name

abbrev pub part_name_said : List ℕ → Result (List ℕ) LineKind
part_name_said word = if is_part_name word then Ok word else Err kind.Name

-- the place of a remote, by its name
abbrev pub remote_said : Names → List ℕ → Result ℕ LineKind
remote_said names word = cluster_name_said word >>= λ name. or_fault (position (same_bytes name) names) kind.UnknownCluster

-- the store of the local cluster or of a remote, by the cluster's name
abbrev pub store_said : Option Cluster → Names → List ℕ → Result StoreOf LineKind
store_said local names word =
    cluster_name_said word >>= λ name.
    if is_local_name name local then Ok store_of.Local
    else (or_fault (position (same_bytes name) names) kind.UnknownCluster >>= λ place. Ok (store_of.Remote place))

-- the number that a canonical decimal writes, where it stands within these bounds
abbrev pub whole_of : ℕ → ℕ → List ℕ → Option ℕ
whole_of low high word = option_and_then (λ n. if nat_le low n && nat_le n high then Some n else None) (number_of word)

abbrev pub whole_said : ℕ → ℕ → List ℕ → Result ℕ LineKind
whole_said low high word = or_fault (whole_of low high word) kind.Number

abbrev pub count_said : List ℕ → Result Count LineKind
count_said word =
    if bytes_eq word (codes "all") then Ok count.All
    else (whole_said 1 1000000000 word >>= λ n. Ok (count.Of n))

abbrev pub address_said : List ℕ → Result Ip LineKind
address_said word = or_fault (address_of word) kind.Address

-- an address, or `-` for none
abbrev pub host_said : List ℕ → Result (Option Ip) LineKind
host_said word = if bytes_eq word (codes "-") then Ok None else (address_said word >>= λ ip. Ok (Some ip))

abbrev pub version_said : List ℕ → Result (Unit {0}) LineKind
version_said word = if bytes_eq word (codes "1") then Ok tt else Err kind.Header

-- escaped bytes, no more than these
abbrev pub escaped_said : ℕ → List ℕ → Result (List ℕ) LineKind
escaped_said most word = or_fault (unescaped word) kind.Words >>= λ bytes. if nat_le (length bytes) most then Ok bytes else Err kind.TooLong

abbrev pub has_bytes : Option (List ℕ) → Bool
has_bytes None = false
has_bytes (Some bytes) = nat_lt 0 (length bytes)

abbrev pub read_in : {A E : Type 0} → Result A E → Option A
read_in (Ok x) = Some x
read_in (Err fault) = None

-- the labels that an escaped word writes
abbrev pub labels_of : List ℕ → Option IdentityRecord
labels_of word = option_and_then (λ bytes. read_in (identity_of bytes)) (unescaped word)

abbrev pub link_named : List ℕ → Option LinkName
link_named word =
    if bytes_eq word (codes "exporter") then Some link_name.Exporter
    else if bytes_eq word (codes "remote") then Some link_name.Remote
    else if bytes_eq word (codes "local") then Some link_name.Local
    else if bytes_eq word (codes "agent") then Some link_name.Agent
    else None

-- whether a link is up
abbrev pub way_named : List ℕ → Option Bool
way_named word =
    if bytes_eq word (codes "up") then Some true
    else if bytes_eq word (codes "down") then Some false
    else None

abbrev pub moment_named : List ℕ → Option Moment
moment_named word =
    if bytes_eq word (codes "before") then Some moment_of.Before
    else if bytes_eq word (codes "after") then Some moment_of.After
    else None

-- The forms.

-- the one version of the language
abbrev pub version : Form (Unit {0})
version = plain version_said

-- the name of a cluster, which need not be known
abbrev pub cluster : Form (List ℕ)
cluster = plain cluster_name_said

-- a remote, by its name
abbrev pub remote : Form ℕ
remote = record { looks = λ word. true; says = λ draft word. remote_said (names_of draft.remotes) word }

-- a store, by the name of its cluster
abbrev pub store : Form StoreOf
store = record { looks = λ word. true; says = λ draft word. store_said draft.local (names_of draft.remotes) word }

-- the name of a node, a namespace or a pod
abbrev pub part : Form (List ℕ)
part = plain part_name_said

abbrev pub cluster_number : Form ℕ
cluster_number = plain (whole_said 1 255)

abbrev pub seconds : Form ℕ
seconds = plain (whole_said 1 1000000000)

abbrev pub revision : Form ℕ
revision = plain (whole_said 1 1000000000)

-- how many calls go through before one fails
abbrev pub skip : Form ℕ
skip = plain (whole_said 0 1000000)

abbrev pub identity : Form ℕ
identity = plain (whole_said 0 (2 ^ 32 - 1))

abbrev pub count_or_all : Form Count
count_or_all = plain count_said

abbrev pub address : Form Ip
address = plain address_said

abbrev pub host : Form (Option Ip)
host = plain host_said

-- which store of a remote is watched
abbrev pub hop : Form Hop
hop = record { looks = λ word. bytes_eq word (codes "direct"); says = λ draft word. Ok State }

-- an escaped key with at least a byte
abbrev pub key : Form (List ℕ)
key = record { looks = λ word. has_bytes (unescaped word); says = λ draft word. escaped_said 1024 word }

-- an escaped value
abbrev pub value : Form (List ℕ)
value = record { looks = λ word. is_some (unescaped word); says = λ draft word. escaped_said 32768 word }

-- the escaped labels of an identity
abbrev pub labels : Form IdentityRecord
labels = fixed labels_of

-- a link of a remote, by its name
abbrev pub link : Form LinkName
link = fixed link_named

-- `up` or `down`
abbrev pub way : Form Bool
way = fixed way_named

-- `before` or `after`
abbrev pub moment : Form Moment
moment = fixed moment_named
