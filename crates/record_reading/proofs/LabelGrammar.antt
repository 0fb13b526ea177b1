-- An identity's bytes are read by the grammar of labels.
use Rattle.std.proofs.Common.{◌≡◌, ℕ, zero, suc, ◌+◌, ◌<◌, ◌≤◌, ◌==◌, ◌&&◌, List, [], ◌∷◌, ◌++◌, Bool, true, false, Option, None, Some, Result, Ok, Err, cond, option_and_then, refl, sym, ◌∙◌, ap, subst, arith, length, nat_lt, append_assoc, length-append}
use Rattle.std.specs.List.{All, flat_map}
use Rattle.std.proofs.lemmas.Bool.{ne_eqb}
use Rattle.std.proofs.lemmas.List.Elements.{All-nil, All-cons, All-head, All-tail}
use Rattle.std.proofs.lemmas.List.Splits.{slice_split_none}
use Rattle.record_values.specs.declared.fault.ReadFault.{ReadFault}
use Rattle.record_values.specs.declared.fault.ReadFault.TheVariants.{Label}
use Rattle.record_values.specs.declared.records.IdentityRecord.{IdentityRecord}
use Rattle.record_values.specs.Values.{LabelText}
use Rattle.record_values.specs.Labels.{IsWithout, IsLabel, AreTextsOf, BeginsNoLabel, IsUnreadableAt, label_text, split_once, has_byte, label_of, label_of_parts}
use Rattle.record_reading.specs.Judgement.{◌>>=◌}
use Rattle.record_reading.specs.Identity.{identity_of}
use Rattle.record_reading.specs.LabelReading.{label_at, labels_at, end_at}
use Rattle.record_reading.specs.Laws.{ReadsLabelTexts, FindsFirstUnreadable, RefusesByPlace}
use Rattle.record_reading.proofs.Cuts.{Cuts, both, cuts, uncut, parts_fit}
use Rattle.record_reading.proofs.LabelSteps.{parts_of, label_then, label_in_front, no_end}
use Rattle.record_reading.proofs.LabelsBack.{front_of, front_read, front_ends, identity_reads_back, split_there, text_parts}
use Rattle.record_reading.proofs.Judgements.{given, given_by, same_given}

-- ---- a label that is read is one

some_first : (n : ℕ) → nat_lt 0 n ≡ true → false ≡ (n == 0)
some_first zero e = absurd (let h = e in cc)
some_first (suc n) e = sym (ne_eqb (suc n) 0 (λ h. omega (arith, h)))

abbrev or_label : LabelText → Option LabelText → LabelText
or_label d None = d
or_label d (Some l) = l

-- the parts of a label that is read
abbrev AreItsParts : List ℕ → List ℕ → List ℕ → LabelText → Type 0
AreItsParts source key value l = (false ≡ (length source == 0)) × (false ≡ (length key == 0)) × (false ≡ has_byte 61 source) × (record { source = source; key = key; value = value } ≡ l)

parts_by : (source key value : List ℕ) (l : LabelText) (a b h : Bool) → nat_lt 0 (length source) ≡ a → nat_lt 0 (length key) ≡ b → has_byte 61 source ≡ h
    → cond (a && b) (cond h None (Some (record { source = source; key = key; value = value }))) None ≡ Some l → AreItsParts source key value l
parts_by source key value l true true false ea eb eh e =
    (some_first (length source) ea, some_first (length key) eb, sym eh, ap (or_label l) e)
parts_by source key value l true true true ea eb eh e = absurd (let f = e in cc)
parts_by source key value l true false h ea eb eh e = absurd (let f = e in cc)
parts_by source key value l false b h ea eb eh e = absurd (let f = e in cc)

its_parts : (source : List ℕ) (p : List ℕ × List ℕ) (l : LabelText) → label_of_parts source p ≡ Some l → AreItsParts source p.0 p.1 l
its_parts source p l e =
    parts_by source p.0 p.1 l (nat_lt 0 (length source)) (nat_lt 0 (length p.0)) (has_byte 61 source) refl refl refl e

-- a label, and its text without ';'
abbrev IsFront : List ℕ → LabelText → Type 0
IsFront text l = IsLabel l × (front_of l ≡ text)

second_cut : (text source rest : List ℕ) (l : LabelText) → IsWithout 59 text → both source rest ≡ split_once 58 text → (o : Option (List ℕ × List ℕ)) → o ≡ split_once 61 rest
    → option_and_then (label_of_parts source) o ≡ Some l → IsFront text l
second_cut text source rest l ends colon None equals e = absurd (let f = e in cc)
second_cut text source rest l ends colon (Some p) equals e =
    let parts : AreItsParts source p.0 p.1 l = its_parts source p l e in
    let first : Cuts 58 text source rest = cuts 58 text source rest colon in
    let second : Cuts 61 rest p.0 p.1 = cuts 61 rest p.0 p.1 equals in
    let whole : text ≡ source ++ 58 ∷ (p.0 ++ 61 ∷ p.1) = first.0 ∙ ap (λ (r : List ℕ). source ++ 58 ∷ r) second.0 in
    subst (IsFront text) parts.3 (parts_fit text source rest p.0 p.1 ends colon equals parts.0 parts.1 parts.2, sym whole)

first_cut : (text : List ℕ) (l : LabelText) → IsWithout 59 text → (o : Option (List ℕ × List ℕ)) → o ≡ split_once 58 text
    → option_and_then (λ (parts : List ℕ × List ℕ). option_and_then (label_of_parts parts.0) (split_once 61 parts.1)) o ≡ Some l → IsFront text l
first_cut text l ends None colon e = absurd (let f = e in cc)
first_cut text l ends (Some p) colon e = second_cut text p.0 p.1 l ends colon (split_once 61 p.1) refl e

read_is_label : (text : List ℕ) (l : LabelText) → IsWithout 59 text → label_of text ≡ Some l → IsFront text l
unfolding label_of
read_is_label text l ends e = first_cut text l ends (split_once 58 text) refl e

-- ---- where no label begins

abbrev or_cut : Option (List ℕ × List ℕ) → List ℕ × List ℕ
or_cut None = ([], [])
or_cut (Some p) = p

-- the label that the bytes begin with stands before their first ';'
front_first : (rest : List ℕ) (l : LabelText) (more : List ℕ) → IsLabel l → rest ≡ label_text l ++ more → split_once 59 rest ≡ both (front_of l) more
front_first rest l more is e = ap (split_once 59) (e ∙ text_parts l more) ∙ split_there 59 (front_of l) more (front_ends l is)

none_begins : (rest text after : List ℕ) → 0 < length rest → both text after ≡ split_once 59 rest → label_of text ≡ None → BeginsNoLabel rest
none_begins rest text after some cut none = (
  some,
  λ l more is e.
      let same : text ≡ front_of l = ap (λ (o : Option (List ℕ × List ℕ)). (or_cut o).0) (cut ∙ front_first rest l more is e) in
      let read : None ≡ Some l = sym none ∙ ap label_of same ∙ front_read l is in cc,
)

unended : (rest : List ℕ) → 0 < length rest → None ≡ split_once 59 rest → BeginsNoLabel rest
unended rest some none =
    (some, λ l more is e. let found : None ≡ both (front_of l) more = none ∙ front_first rest l more is e in cc)

-- ---- what is read

abbrev IsUnreadableFrom : ℕ → List ℕ → ℕ → Type 0
IsUnreadableFrom from bytes at = (labels : List LabelText) × (rest : List ℕ) × All IsLabel labels × (bytes ≡ flat_map label_text labels ++ rest)
    × (at ≡ from + length (flat_map label_text labels)) × BeginsNoLabel rest

abbrev Says : ℕ → List ℕ → Result (List LabelText) ReadFault → Type 0
Says from bytes (Ok labels) = AreTextsOf labels bytes
Says from bytes (Err e) = (at : ℕ) × (e ≡ Label at) × IsUnreadableFrom from bytes at

says_end : (from : ℕ) (rest : List ℕ) → None ≡ split_once 59 rest → Says from rest (end_at from rest)
says_end from [] none = (All-nil IsLabel, refl)
says_end from (b ∷ bs) none =
    (from, refl, ([], b ∷ bs, All-nil IsLabel, refl, omega arith, unended (b ∷ bs) (omega arith) none))

says_more : (from : ℕ) (rest text after : List ℕ) (l : LabelText) → IsLabel l → front_of l ≡ text → rest ≡ text ++ 59 ∷ after → (r : Result (List LabelText) ReadFault)
    → Says (from + length text + 1) after r → Says from rest (r >>= λ others. given (l ∷ others))
says_more from rest text after l is front cut (Ok others) h =
    (All-cons IsLabel l others is h.0, cut ∙ ap (λ (t : List ℕ). t ++ 59 ∷ after) (sym front) ∙ sym (text_parts l after) ∙ ap (λ (t : List ℕ). label_text l ++ t) h.1)
says_more from rest text after l is front cut (Err e) h =
    let labels = h.2.0 in
    let behind = h.2.1 in (
      h.0,
      h.1,
      (
        l ∷ labels,
        behind,
        All-cons IsLabel l labels is h.2.2,
        cut ∙ ap (λ (t : List ℕ). t ++ 59 ∷ after) (sym front) ∙ sym (text_parts l after) ∙ ap (λ (t : List ℕ). label_text l ++ t) h.2.3 ∙ sym (append_assoc (label_text l) (flat_map label_text labels) behind),
        place labels h.2.4,
        h.2.5,
      ),
    )
  where
    place : (labels : List LabelText) → h.0 ≡ (from + length text + 1) + length (flat_map label_text labels) → h.0 ≡ from + length (label_text l ++ flat_map label_text labels)
    place labels e =
        let whole : label_text l ++ [] ≡ front_of l ++ 59 ∷ [] = text_parts l [] in
        let ends : length (label_text l ++ []) ≡ length (label_text l) + 0 = length-append (label_text l) [] in
        let size : length (front_of l ++ 59 ∷ []) ≡ length (front_of l) + 1 = length-append (front_of l) (59 ∷ []) in
        let lengths : length (label_text l ++ []) ≡ length (front_of l ++ 59 ∷ []) = ap length whole in
        let fronts : length (front_of l) ≡ length text = ap length front in
        let all : length (label_text l ++ flat_map label_text labels) ≡ length (label_text l) + length (flat_map label_text labels) = length-append (label_text l) (flat_map label_text labels) in
        omega arith

says_label : (from : ℕ) (rest text after : List ℕ) → both text after ≡ split_once 59 rest → (o : Option LabelText) → label_of text ≡ o
    → Says (from + length text + 1) after (labels_at (from + length text + 1) (parts_of after))
    → Says from rest (label_at from o >>= λ l. labels_at (from + length text + 1) (parts_of after) >>= λ others. given (l ∷ others))
says_label from rest text after cut None none h =
    let is : Cuts 59 rest text after = cuts 59 rest text after cut in
    let size : length rest ≡ length (text ++ 59 ∷ after) = ap length is.0 in
    let sum : length (text ++ 59 ∷ after) ≡ length text + length (59 ∷ after) = length-append text (59 ∷ after) in
    (from, refl, ([], rest, All-nil IsLabel, refl, omega arith, none_begins rest text after (omega arith) cut none))
says_label from rest text after cut (Some l) read h =
    let is : Cuts 59 rest text after = cuts 59 rest text after cut in
    let label : IsFront text l = read_is_label text l is.1 read in
    says_more from rest text after l label.0 label.1 is.0 (labels_at (from + length text + 1) (parts_of after)) h

says_by : (n from : ℕ) (rest : List ℕ) → length rest ≤ suc n → ((from : ℕ) (after : List ℕ) → length after ≤ n → Says from after (labels_at from (parts_of after)))
    → (o : Option (List ℕ × List ℕ)) → o ≡ split_once 59 rest → Says from rest (labels_at from (parts_of rest))
says_by n from rest short step None none =
    subst (Says from rest) (sym (ap (labels_at from) (slice_split_none (λ (x : ℕ). x == 59) rest (uncut 59 rest none)))) (says_end from rest none)
says_by n from rest short step (Some p) cut =
    let is : Cuts 59 rest p.0 p.1 = cuts 59 rest p.0 p.1 cut in
    let size : length rest ≡ length (p.0 ++ 59 ∷ p.1) = ap length is.0 in
    let sum : length (p.0 ++ 59 ∷ p.1) ≡ length p.0 + length (59 ∷ p.1) = length-append p.0 (59 ∷ p.1) in
    subst (Says from rest) (sym (label_in_front from rest p.0 p.1 cut))
    (says_label from rest p.0 p.1 cut (label_of p.0) refl (step (from + length p.0 + 1) p.1 (omega arith)))

says : (n from : ℕ) (rest : List ℕ) → length rest ≤ n → Says from rest (labels_at from (parts_of rest))
says zero from [] short = (All-nil IsLabel, refl)
says zero from (b ∷ bs) short = absurd (omega arith)
says (suc n) from rest short = says_by n from rest short (says n) (split_once 59 rest) refl

-- ---- the laws

read_there : (bytes : List ℕ) (labels : List LabelText) → identity_of bytes ≡ Ok (record { labels = labels }) → AreTextsOf labels bytes
unfolding identity_of
read_there bytes labels e =
    let parts = given_by (labels_at 0 (parts_of bytes)) _ _ e in
    let same : parts.0 ≡ labels = ap (λ (r : IdentityRecord). r.labels) (same_given _ _ parts.2) in
    subst (λ (ls : List LabelText). AreTextsOf ls bytes) same (subst (Says 0 bytes) parts.1 (says (length bytes) 0 bytes (omega arith)))

pub reads_label_texts : ReadsLabelTexts
reads_label_texts bytes labels = (read_there bytes labels, λ h. ap identity_of h.1 ∙ identity_reads_back labels h.0)

abbrev or_fault : {A : Type 0} → ReadFault → Result A ReadFault → ReadFault
or_fault d (Ok x) = d
or_fault d (Err e) = e

fault_by : (r : Result (List LabelText) ReadFault) (e : ReadFault) → r >>= (λ labels. given {A = IdentityRecord} (record { labels = labels })) ≡ Err e → r ≡ Err e
fault_by (Ok labels) e h = absurd (let f = h in cc)
fault_by (Err f) e h = ap (λ (g : ReadFault). Err g) (ap (or_fault f) h)

fault_there : (bytes : List ℕ) (e : ReadFault) → identity_of bytes ≡ Err e → (at : ℕ) × (e ≡ Label at) × IsUnreadableFrom 0 bytes at
unfolding identity_of
fault_there bytes e h = subst (Says 0 bytes) (fault_by (labels_at 0 (parts_of bytes)) e h) (says (length bytes) 0 bytes (omega arith))

pub refuses_by_place : RefusesByPlace
refuses_by_place bytes e h = let f = fault_there bytes e h in (f.0, f.1)

abbrev or_place : ℕ → ReadFault → ℕ
or_place d (Label at) = at
or_place d _ = d

place_there : (bytes : List ℕ) (at : ℕ) → identity_of bytes ≡ Err (Label at) → IsUnreadableAt bytes at
place_there bytes at h =
    let f = fault_there bytes (Label at) h in
    let same : at ≡ f.0 = ap (or_place at) f.1 in
    let u = f.2 in
    let size : f.0 ≡ 0 + length (flat_map label_text u.0) = u.4 in
    (u.0, u.1, u.2, u.3, omega (arith, same, size), u.5)

-- ---- and the other way round

no_label_here : (from : ℕ) (rest text after : List ℕ) → BeginsNoLabel rest → both text after ≡ split_once 59 rest → (o : Option LabelText) → label_of text ≡ o
    → label_then from text (parts_of after) ≡ Err (Label from)
no_label_here from rest text after none cut None read =
    ap (λ (o : Option LabelText). label_at from o >>= λ l. labels_at (from + length text + 1) (parts_of after) >>= λ others. given (l ∷ others)) read
no_label_here from rest text after none cut (Some l) read =
    let is : Cuts 59 rest text after = cuts 59 rest text after cut in
    let label : IsFront text l = read_is_label text l is.1 read in
    absurd (none.1 l after label.0 (is.0 ∙ ap (λ (t : List ℕ). t ++ 59 ∷ after) (sym label.1) ∙ sym (text_parts l after)))

unread_here : (from : ℕ) (rest : List ℕ) → BeginsNoLabel rest → (o : Option (List ℕ × List ℕ)) → o ≡ split_once 59 rest → labels_at from (parts_of rest) ≡ Err (Label from)
unread_here from rest none None cut = no_end from rest none.0 cut
unread_here from rest none (Some p) cut = label_in_front from rest p.0 p.1 cut ∙ no_label_here from rest p.0 p.1 none cut (label_of p.0) refl

unread : (from : ℕ) (labels : List LabelText) (rest : List ℕ) → All IsLabel labels → BeginsNoLabel rest
    → labels_at from (parts_of (flat_map label_text labels ++ rest)) ≡ Err (Label (from + length (flat_map label_text labels)))
unread from [] rest are none =
    let here : from ≡ from + 0 = omega arith in
    unread_here from rest none (split_once 59 rest) refl ∙ ap (λ (at : ℕ). Err (Label at)) here
unread from (l ∷ ls) rest are none =
    let is : IsLabel l = All-head IsLabel l ls are in
    let texts : List ℕ = flat_map label_text ls in
    let split : (label_text l ++ texts) ++ rest ≡ label_text l ++ (texts ++ rest) = append_assoc (label_text l) texts rest in
    let cut : both (front_of l) (texts ++ rest) ≡ split_once 59 ((label_text l ++ texts) ++ rest) = sym (front_first ((label_text l ++ texts) ++ rest) l (texts ++ rest) is split) in
    let step : labels_at (from + length (front_of l) + 1) (parts_of (texts ++ rest)) ≡ Err (Label ((from + length (front_of l) + 1) + length texts)) =
    unread (from + length (front_of l) + 1) ls rest (All-tail IsLabel l ls are) none in
    let whole : label_text l ++ [] ≡ front_of l ++ 59 ∷ [] = text_parts l [] in
    let ends : length (label_text l ++ []) ≡ length (label_text l) + 0 = length-append (label_text l) [] in
    let size : length (front_of l ++ 59 ∷ []) ≡ length (front_of l) + 1 = length-append (front_of l) (59 ∷ []) in
    let lengths : length (label_text l ++ []) ≡ length (front_of l ++ 59 ∷ []) = ap length whole in
    let all : length (label_text l ++ texts) ≡ length (label_text l) + length texts = length-append (label_text l) texts in
    let place : (from + length (front_of l) + 1) + length texts ≡ from + length (label_text l ++ texts) = omega arith in
    label_in_front from ((label_text l ++ texts) ++ rest) (front_of l) (texts ++ rest) cut
    ∙ ap (λ (o : Option LabelText). label_at from o >>= λ m. labels_at (from + length (front_of l) + 1) (parts_of (texts ++ rest)) >>= λ others. given (m ∷ others)) (front_read l is)
    ∙ ap (λ (r : Result (List LabelText) ReadFault). r >>= λ others. given (l ∷ others)) step
    ∙ ap (λ (at : ℕ). Err (Label at)) place

place_back : (bytes : List ℕ) (at : ℕ) → IsUnreadableAt bytes at → identity_of bytes ≡ Err (Label at)
unfolding identity_of
place_back bytes at h =
    let place : 0 + length (flat_map label_text h.0) ≡ at = omega (arith, h.4) in
    ap (λ (r : Result (List LabelText) ReadFault). r >>= λ labels. given {A = IdentityRecord} (record { labels = labels })) (ap (λ (b : List ℕ). labels_at 0 (parts_of b)) h.3 ∙ unread 0 h.0 h.1 h.2 h.5)
    ∙ ap (λ (p : ℕ). Err (Label p)) place

pub finds_first_unreadable : FindsFirstUnreadable
finds_first_unreadable bytes at = (place_there bytes at, place_back bytes at)
