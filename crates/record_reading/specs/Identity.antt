-- An identity (after Cilium's identities in the kvstore), whose value is the text of its labels.
use Rattle.std.specs.Prelude.{ℕ, ◌==◌, List, Result, Ok}
use Rattle.std.specs.List.{slice_split}
use Rattle.record_values.specs.declared.fault.ReadFault.{ReadFault}
use Rattle.record_values.specs.declared.records.IdentityRecord.{IdentityRecord}
use Rattle.record_reading.specs.Judgement.{◌>>=◌}
use Rattle.record_reading.specs.LabelReading.{labels_at}

-- the labels that the bytes are the texts of, one behind the other
unfoldable pub identity_of : List ℕ → Result IdentityRecord ReadFault
identity_of bytes = labels_at 0 (slice_split (λ x. x == 59) bytes) >>= λ labels. Ok (record { labels = labels })
