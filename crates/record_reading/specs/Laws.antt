-- What the labels of an identity are, apart from how they are read.
use Rattle.std.specs.Prelude.{◌≡◌, ◌↔◌, ℕ, List, Ok, Err}
use Rattle.record_values.specs.declared.fault.ReadFault.{ReadFault}
use Rattle.record_values.specs.declared.fault.ReadFault.TheVariants.{Label}
use Rattle.record_values.specs.Values.{LabelText}
use Rattle.record_values.specs.Labels.{AreTextsOf, IsUnreadableAt}
use Rattle.record_reading.specs.Identity.{identity_of}

-- bytes are read as labels exactly where they are the labels' texts
abbrev pub ReadsLabelTexts : Type 0
ReadsLabelTexts = (bytes : List ℕ) (labels : List LabelText) → (identity_of bytes ≡ Ok (record { labels = labels })) ↔ AreTextsOf labels bytes

-- else the place where the first label begins that is none is the fault
abbrev pub FindsFirstUnreadable : Type 0
FindsFirstUnreadable = (bytes : List ℕ) (at : ℕ) → (identity_of bytes ≡ Err (Label at)) ↔ IsUnreadableAt bytes at

-- and there is no other fault
abbrev pub RefusesByPlace : Type 0
RefusesByPlace = (bytes : List ℕ) (fault : ReadFault) → identity_of bytes ≡ Err fault → (at : ℕ) × (fault ≡ Label at)
