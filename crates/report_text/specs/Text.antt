-- The text of a report, which is this project's own.
use Rattle.std.specs.Prelude.{ℕ, List, [], ◌∷◌, ◌++◌, map, codes}
use Rattle.std.specs.Fmt.{decimal}
use Rattle.mesh_text.specs.Addresses.{address_text}
use Rattle.mesh_text.specs.Escapes.{escaped}
use Rattle.shared_tables.specs.declared.rows.AddressRow.{AddressRow}
use Rattle.shared_tables.specs.declared.rows.BackendRow.{BackendRow}
use Rattle.shared_tables.specs.declared.rows.IdentityRow.{IdentityRow}
use Rattle.shared_tables.specs.declared.rows.NodeRow.{NodeRow}
use Rattle.shared_tables.specs.declared.rows.RejectRow.{RejectRow}
use Rattle.shared_tables.specs.declared.rows.Report.{Report}
use Rattle.shared_tables.specs.declared.rows.SourceRow.{SourceRow}
use Rattle.report_text.specs.declared.head.Head.{Head}
use Rattle.report_text.specs.Lines.{line_of, text_of_rows}
use Rattle.report_text.specs.Words.{head_word, hop_word, revision_words, typed_address, labels_word, address_or_none, text_or_none, backend_word, why_word}

-- source <cluster> <direct|cached> [held] <revision>
abbrev pub source_line : SourceRow → List ℕ
source_line row = line_of (codes "source" ∷ row.cluster ∷ hop_word row.hop ∷ revision_words row.held row.revision)

-- node <cluster> <name> <type>=<address> ..
abbrev pub node_line : NodeRow → List ℕ
node_line row = line_of (codes "node" ∷ row.cluster ∷ row.name ∷ map typed_address row.addresses)

-- identity <cluster> <number> <labels>
abbrev pub identity_line : IdentityRow → List ℕ
identity_line row = line_of (codes "identity" ∷ row.cluster ∷ decimal row.number ∷ labels_word row.labels ∷ [])

-- address <address> <cluster> <identity> <host> <namespace> <pod>
abbrev pub address_line : AddressRow → List ℕ
address_line row =
    line_of (codes "address" ∷ address_text row.ip ∷ row.cluster ∷ decimal row.identity ∷ address_or_none row.host ∷ text_or_none row.namespace ∷ text_or_none row.pod ∷ [])

-- <kind> <namespace> <name> <cluster> <backend>
abbrev pub offer_line : List ℕ → BackendRow → List ℕ
offer_line kind row = line_of (kind ∷ row.namespace ∷ row.name ∷ row.cluster ∷ backend_word row.backend ∷ [])

abbrev pub backend_line : BackendRow → List ℕ
backend_line row = offer_line (codes "backend") row

abbrev pub chosen_line : BackendRow → List ℕ
chosen_line row = offer_line (codes "chosen") row

-- reject <cluster> <key> <word>
abbrev pub reject_line : RejectRow → List ℕ
reject_line row = line_of (codes "reject" ∷ row.cluster ∷ escaped row.key ∷ why_word row.why ∷ [])

-- the rows by kind, those of a kind in byte order of their lines
abbrev pub rows_text : Report → List ℕ
rows_text report =
    text_of_rows source_line report.sources
    ++ (text_of_rows node_line report.nodes
    ++ (text_of_rows identity_line report.identities
    ++ (text_of_rows address_line report.addresses
    ++ (text_of_rows backend_line report.backends
    ++ (text_of_rows chosen_line report.chosen
    ++ text_of_rows reject_line report.rejects)))))

-- the block of this number
abbrev pub report_text : Head → ℕ → Report → List ℕ
report_text head number report =
    line_of (head_word head ∷ decimal number ∷ []) ++ (rows_text report ++ line_of (codes "end" ∷ []))
