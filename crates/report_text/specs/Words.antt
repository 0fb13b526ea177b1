-- The words of a report, which are this project's own; addresses are printed as RFC 5952 has them.
use Rattle.std.specs.Prelude.{ℕ, List, [], ◌∷◌, ◌++◌, codes, flat_map, Bool, true, false, Option, None, Some}
use Rattle.std.specs.Fmt.{decimal}
use Rattle.mesh_text.specs.Addresses.{address_text}
use Rattle.mesh_text.specs.Escapes.{escaped}
use Rattle.mesh_text.specs.declared.ip.Ip.{Ip}
use Rattle.record_values.specs.Labels.{label_text}
use Rattle.record_values.specs.Values.{BackendPort, LabelText}
use Rattle.record_values.specs.declared.fault.ReadFault.{ReadFault}
use Rattle.record_values.specs.declared.fault.ReadFault.TheVariants as read
use Rattle.key_paths.specs.declared.fault.KeyFault.{KeyFault}
use Rattle.key_paths.specs.declared.fault.KeyFault.TheVariants as key
use Rattle.key_paths.specs.declared.hop.Hop.{Hop}
use Rattle.key_paths.specs.declared.hop.Hop.TheVariants.{State, Cache}
use Rattle.record_check.specs.declared.fault.Fault.{Fault}
use Rattle.record_check.specs.declared.fault.Fault.TheVariants as fault
use Rattle.shared_tables.specs.declared.rows.Why.{Why}
use Rattle.shared_tables.specs.declared.rows.Why.TheVariants as why
use Rattle.report_text.specs.declared.head.Head.{Head}
use Rattle.report_text.specs.declared.head.Head.TheVariants as head

-- what a block is
abbrev pub head_word : Head → List ℕ
head_word head.Report = codes "report"
head_word head.Probe = codes "probe"

-- whether a source is watched in its own store or in the local one
abbrev pub hop_word : Hop → List ℕ
hop_word State = codes "direct"
hop_word Cache = codes "cached"

-- a source's revision, behind `held` where the source is not caught up
abbrev pub revision_words : Bool → ℕ → List (List ℕ)
revision_words true revision = codes "held" ∷ decimal revision ∷ []
revision_words false revision = decimal revision ∷ []

-- <type>=<address>
abbrev pub typed_address : List ℕ × Ip → List ℕ
typed_address (kind, ip) = escaped kind ++ (codes "=" ++ address_text ip)

-- the identity's whole value
abbrev pub labels_word : List LabelText → List ℕ
labels_word labels = escaped (flat_map label_text labels)

abbrev pub address_or_none : Option Ip → List ℕ
address_or_none None = codes "-"
address_or_none (Some ip) = address_text ip

abbrev pub text_or_none : Option (List ℕ) → List ℕ
text_or_none None = codes "-"
text_or_none (Some text) = escaped text

-- <address>,<port>,<protocol>,<port name>
abbrev pub backend_word : BackendPort → List ℕ
backend_word b = address_text b.ip ++ (codes "," ++ (decimal b.port ++ (codes "," ++ (b.protocol ++ (codes "," ++ escaped b.port_name)))))

-- a fault is never want of memory
abbrev pub key_fault_word : KeyFault → List ℕ
key_fault_word key.UnknownPrefix = codes "unknown_prefix"
key_fault_word (key.Parts have) = codes "parts"
key_fault_word (key.Name at) = codes "key_name"
key_fault_word (key.Number at) = codes "key_number"
key_fault_word (key.Address at) = codes "key_address"
key_fault_word key.Memory = codes "memory"

abbrev pub read_fault_word : ReadFault → List ℕ
read_fault_word read.Json = codes "json"
read_fault_word read.Shape = codes "shape"
read_fault_word (read.Missing field) = codes "missing"
read_fault_word (read.WrongType field) = codes "type"
read_fault_word (read.Range field) = codes "range"
read_fault_word (read.AddressText field) = codes "address_text"
read_fault_word read.Mask = codes "mask"
read_fault_word (read.Label at) = codes "label"
read_fault_word read.Memory = codes "memory"

abbrev pub fault_word : Fault → List ℕ
fault_word (fault.Key f) = key_fault_word f
fault_word (fault.TooLarge len) = codes "too_large"
fault_word (fault.Read f) = read_fault_word f
fault_word fault.Cluster = codes "cluster"
fault_word fault.ClusterId = codes "cluster_id"
fault_word fault.Namespace = codes "namespace"
fault_word fault.Name = codes "name"
fault_word fault.AddressKey = codes "address_key"
fault_word (fault.Limit have) = codes "limit"

-- why something of a source is no part of the merge
abbrev pub why_word : Why → List ℕ
why_word (why.Fault f) = fault_word f
why_word why.IdLocal = codes "id_local"
why_word why.IdTaken = codes "id_taken"
