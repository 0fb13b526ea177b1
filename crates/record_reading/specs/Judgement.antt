-- What bytes say: the JSON value that they are the text of, judged, with the first fault where there is one.
use Rattle.std.specs.Prelude.{◌≡◌, ◌⊎◌, ℕ, List, Option, None, Some, Result, Ok, Err, is_some, if◌then◌else◌}
use Rattle.std.specs.Str.{is_utf8}
use Rattle.serde_json.specs.Data.{Data}
use Rattle.serde_json.specs.Read.{read}
use Rattle.serde_json.specs.Find.{as_object}
use Rattle.record_values.specs.declared.fault.ReadFault.{ReadFault}
use Rattle.record_values.specs.declared.fault.ReadFault.TheVariants.{Json, Shape, Memory}

infixl 10 ◌>>=◌
-- first this judgement, then the next with what it gave; the first fault is the answer
abbrev pub ◌>>=◌ : {A B : Type 0} → Result A ReadFault → (A → Result B ReadFault) → Result B ReadFault
(Ok x) >>= next = next x
(Err e) >>= next = Err e

-- the JSON value that the bytes are the text of (RFC 8259, as serde_json reads it), if they are one's
abbrev pub tree_of : List ℕ → Option Data
tree_of bytes = if is_utf8 bytes then read bytes else None

-- a value that is no object has the wrong shape, and an object is judged by its fields
abbrev pub judged_tree : {X : Type 0} → (Data → Result X ReadFault) → Option Data → Result X ReadFault
judged_tree fields None = Err Json
judged_tree fields (Some d) = if is_some (as_object d) then fields d else Err Shape

-- what the bytes say, by the fields of their record
abbrev pub judged : {X : Type 0} → (Data → Result X ReadFault) → List ℕ → Result X ReadFault
judged fields bytes = judged_tree fields (tree_of bytes)

-- the answer is the judgement, unless memory is wanted
abbrev pub Gives : {X : Type 0} → Result X ReadFault → Result X ReadFault → Type 0
Gives (Ok x) judgement = judgement ≡ Ok x
Gives (Err e) judgement = (judgement ≡ Err e) ⊎ (e ≡ Memory)

-- this fault, unless memory is wanted
abbrev pub IsFault : ReadFault → ReadFault → Type 0
IsFault e fault = (e ≡ fault) ⊎ (e ≡ Memory)

-- the same of an answer that is a part of the value, seen as its data
abbrev pub GivesSeen : {X Y : Type 0} → (Y → X) → Result Y ReadFault → Result X ReadFault → Type 0
GivesSeen seen (Ok y) judgement = judgement ≡ Ok (seen y)
GivesSeen seen (Err e) judgement = (judgement ≡ Err e) ⊎ (e ≡ Memory)
