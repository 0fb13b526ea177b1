-- The labels of an identity: each is a source, ':', a key, '=', a value and ';', with nothing between two labels.
use Rattle.std.specs.Prelude.{◌≡◌, ℕ, ◌<◌, ◌==◌, ◌&&◌, List, [], ◌∷◌, ◌++◌, length, Bool, true, false, Option, None, Some, option_map, option_and_then, nat_lt, if◌then◌else◌}
use Rattle.std.specs.List.{All, flat_map}
use Rattle.record_values.specs.Values.{LabelText}

-- the byte stands nowhere in the list
abbrev pub IsWithout : ℕ → List ℕ → Type 0
IsWithout b bytes = All (λ x. (x == b) ≡ false) bytes

-- a source has a byte and no ':', '=' or ';', a key has a byte and no '=' or ';', and a value has no ';'
abbrev pub IsLabel : LabelText → Type 0
IsLabel l = (0 < length l.source) × IsWithout 58 l.source × IsWithout 61 l.source × IsWithout 59 l.source
    × (0 < length l.key) × IsWithout 61 l.key × IsWithout 59 l.key × IsWithout 59 l.value

abbrev pub label_text : LabelText → List ℕ
label_text l = l.source ++ (58 ∷ (l.key ++ (61 ∷ (l.value ++ 59 ∷ []))))

-- the bytes are the texts of these labels, one behind the other
abbrev pub AreTextsOf : List LabelText → List ℕ → Type 0
AreTextsOf labels bytes = All IsLabel labels × (bytes ≡ flat_map label_text labels)

-- something stands here, and no label's text begins it
abbrev pub BeginsNoLabel : List ℕ → Type 0
BeginsNoLabel bytes = (0 < length bytes) × ((l : LabelText) (rest : List ℕ) → IsLabel l → ¬ (bytes ≡ label_text l ++ rest))

-- labels stand before this place, and none begins at it
abbrev pub IsUnreadableAt : List ℕ → ℕ → Type 0
IsUnreadableAt bytes at = (labels : List LabelText) × (rest : List ℕ) × All IsLabel labels × (bytes ≡ flat_map label_text labels ++ rest)
    × (at ≡ length (flat_map label_text labels)) × BeginsNoLabel rest

-- what stands before the first such byte, and what behind it
abbrev pub split_once : ℕ → List ℕ → Option (List ℕ × List ℕ)
split_once b [] = None
split_once b (x ∷ xs) = if x == b then Some ([], xs) else option_map (λ p. (x ∷ p.0, p.1)) (split_once b xs)

abbrev pub has_byte : ℕ → List ℕ → Bool
has_byte b [] = false
has_byte b (x ∷ xs) = if x == b then true else has_byte b xs

abbrev pub label_of_parts : List ℕ → List ℕ × List ℕ → Option LabelText
label_of_parts source rest =
    if nat_lt 0 (length source) && nat_lt 0 (length rest.0)
    then (if has_byte 61 source then None else Some (record { source = source; key = rest.0; value = rest.1 })) else None

-- the label whose text, without its ';', this is
unfoldable pub label_of : List ℕ → Option LabelText
label_of text = option_and_then (λ parts. option_and_then (label_of_parts parts.0) (split_once 61 parts.1)) (split_once 58 text)
