-- Labels that were written are read back.
use Rattle.std.proofs.Common.{◌≡◌, ℕ, ◌+◌, ◌<◌, ◌==◌, List, [], ◌∷◌, ◌++◌, Bool, true, false, Option, Some, Result, Ok, cond, option_map, option_and_then, refl, sym, ◌∙◌, ap, arith, length, nat_lt, append_assoc}
use Rattle.std.specs.List.{All, flat_map, count_by}
use Rattle.std.proofs.lemmas.Bool.{eq-eqb, lt-ltb}
use Rattle.std.proofs.lemmas.List.Elements.{All-head, All-tail, All-append, All-cons}
use Rattle.std.proofs.lemmas.List.Splits.{slice_split_at, length-slice_split}
use Rattle.record_values.specs.declared.fault.ReadFault.{ReadFault}
use Rattle.record_values.specs.Values.{LabelText}
use Rattle.record_values.specs.Labels.{IsWithout, IsLabel, label_text, split_once, has_byte, label_of, label_of_parts}
use Rattle.record_reading.specs.Judgement.{◌>>=◌}
use Rattle.record_reading.specs.Identity.{identity_of}
use Rattle.record_reading.specs.LabelReading.{label_at, labels_at}
use Rattle.record_reading.proofs.Cuts.{both}
use Rattle.record_reading.proofs.LabelSteps.{parts_of, labels_more}

pub split_there : (b : ℕ) (p q : List ℕ) → IsWithout b p → split_once b (p ++ b ∷ q) ≡ both p q
split_there b [] q h = ap (λ (c : Bool). cond c (both [] q) (option_map (λ (r : List ℕ × List ℕ). (b ∷ r.0, r.1)) (split_once b q))) (eq-eqb b b refl)
split_there b (x ∷ xs) q h =
    ap (λ (c : Bool). cond c (both [] (xs ++ b ∷ q)) (option_map (λ (r : List ℕ × List ℕ). (x ∷ r.0, r.1)) (split_once b (xs ++ b ∷ q)))) (All-head (λ (y : ℕ). (y == b) ≡ false) x xs h)
    ∙ ap (option_map (λ (r : List ℕ × List ℕ). (x ∷ r.0, r.1))) (split_there b xs q (All-tail (λ (y : ℕ). (y == b) ≡ false) x xs h))

not_there : (b : ℕ) (s : List ℕ) → IsWithout b s → has_byte b s ≡ false
not_there b [] h = refl
not_there b (x ∷ xs) h =
    ap (λ (c : Bool). cond c true (has_byte b xs)) (All-head (λ (y : ℕ). (y == b) ≡ false) x xs h)
    ∙ not_there b xs (All-tail (λ (y : ℕ). (y == b) ≡ false) x xs h)

-- a label's text without its ';'
abbrev pub front_of : LabelText → List ℕ
front_of l = l.source ++ 58 ∷ (l.key ++ 61 ∷ l.value)

parts_read : (source key value : List ℕ) → 0 < length source → 0 < length key → has_byte 61 source ≡ false
    → label_of_parts source (key, value) ≡ Some (record { source = source; key = key; value = value })
parts_read source key value s k e =
    let first : nat_lt 0 (length source) ≡ true = lt-ltb 0 (length source) s in
    let second : nat_lt 0 (length key) ≡ true = lt-ltb 0 (length key) k in
    rw (first, second, e) refl

pub front_read : (l : LabelText) → IsLabel l → label_of (front_of l) ≡ Some l
unfolding label_of
front_read l is =
    let colon : split_once 58 (front_of l) ≡ both l.source (l.key ++ 61 ∷ l.value) = split_there 58 l.source (l.key ++ 61 ∷ l.value) is.1 in
    let equals : split_once 61 (l.key ++ 61 ∷ l.value) ≡ both l.key l.value = split_there 61 l.key l.value is.5 in
    ap (option_and_then (λ (parts : List ℕ × List ℕ). option_and_then (label_of_parts parts.0) (split_once 61 parts.1))) colon
    ∙ ap (option_and_then (label_of_parts l.source)) equals
    ∙ parts_read l.source l.key l.value is.0 is.4 (not_there 61 l.source is.2)

pub front_ends : (l : LabelText) → IsLabel l → IsWithout 59 (front_of l)
front_ends l is =
    All-append (λ (y : ℕ). (y == 59) ≡ false) l.source (58 ∷ (l.key ++ 61 ∷ l.value)) is.3
    (All-cons (λ (y : ℕ). (y == 59) ≡ false) 58 (l.key ++ 61 ∷ l.value) refl
    (All-append (λ (y : ℕ). (y == 59) ≡ false) l.key (61 ∷ l.value) is.6
    (All-cons (λ (y : ℕ). (y == 59) ≡ false) 61 l.value refl is.7)))

pub text_parts : (l : LabelText) (rest : List ℕ) → label_text l ++ rest ≡ front_of l ++ 59 ∷ rest
text_parts l rest =
    append_assoc l.source (58 ∷ (l.key ++ (61 ∷ (l.value ++ 59 ∷ [])))) rest
    ∙ ap (λ (t : List ℕ). l.source ++ 58 ∷ t) (append_assoc l.key (61 ∷ (l.value ++ 59 ∷ [])) rest
    ∙ ap (λ (t : List ℕ). l.key ++ 61 ∷ t) (append_assoc l.value (59 ∷ []) rest))
    ∙ sym (append_assoc l.source (58 ∷ (l.key ++ 61 ∷ l.value)) (59 ∷ rest)
    ∙ ap (λ (t : List ℕ). l.source ++ 58 ∷ t) (append_assoc l.key (61 ∷ l.value) (59 ∷ rest)))

pub labels_read : (at : ℕ) (labels : List LabelText) → All IsLabel labels → labels_at at (parts_of (flat_map label_text labels)) ≡ Ok labels
labels_read at [] h = refl
labels_read at (l ∷ ls) h =
    let is : IsLabel l = All-head IsLabel l ls h in
    let rest : List ℕ = flat_map label_text ls in
    let split : parts_of (label_text l ++ rest) ≡ front_of l ∷ parts_of rest =
    ap parts_of (text_parts l rest) ∙ slice_split_at (λ (x : ℕ). x == 59) (front_of l) 59 rest (front_ends l is) (eq-eqb 59 59 refl) in
    let some : length (parts_of rest) ≡ count_by (λ (x : ℕ). x == 59) rest + 1 = length-slice_split (λ (x : ℕ). x == 59) rest in
    ap (labels_at at) split ∙ labels_more at (front_of l) (parts_of rest) (omega arith)
    ∙ ap (λ (o : Option LabelText). label_at at o >>= λ m. labels_at (at + length (front_of l) + 1) (parts_of rest) >>= λ others. Ok (m ∷ others)) (front_read l is)
    ∙ ap (λ (r : Result (List LabelText) ReadFault). r >>= λ others. Ok (l ∷ others)) (labels_read (at + length (front_of l) + 1) ls (All-tail IsLabel l ls h))

pub identity_reads_back : (labels : List LabelText) → All IsLabel labels → identity_of (flat_map label_text labels) ≡ Ok (record { labels = labels })
unfolding identity_of
identity_reads_back labels h = ap (λ (r : Result (List LabelText) ReadFault). r >>= λ ls. Ok (record { labels = ls })) (labels_read 0 labels h)
