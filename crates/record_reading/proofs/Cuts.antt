-- Cutting a list at the first of a byte.
use Rattle.std.proofs.Common.{◌≡◌, ℕ, ◌==◌, List, [], ◌∷◌, ◌++◌, Bool, true, false, Option, None, Some, cond, option_map, refl, sym, ap, subst, arith, length, ◌<◌}
use Rattle.std.proofs.lemmas.Bool.{eqb-true}
use Rattle.std.proofs.lemmas.List.Elements.{All-nil, All-cons, All-head, All-tail}
use Rattle.record_values.specs.Labels.{IsWithout, IsLabel, split_once, has_byte}

-- the parts give the list again, and the first is without the byte
abbrev pub Cuts : ℕ → List ℕ → List ℕ → List ℕ → Type 0
Cuts b s p q = (s ≡ p ++ b ∷ q) × IsWithout b p

abbrev pub both : List ℕ → List ℕ → Option (List ℕ × List ℕ)
both p q = Some (p, q)

abbrev first_of_some : Option (List ℕ × List ℕ) → List ℕ × List ℕ
first_of_some None = ([], [])
first_of_some (Some r) = r

cut_step : (b x : ℕ) (xs p q : List ℕ) (c : Bool) → (x == b) ≡ c → (o : Option (List ℕ × List ℕ))
    → ((p' q' : List ℕ) → both p' q' ≡ o → Cuts b xs p' q')
    → both p q ≡ cond c (both [] xs) (option_map (λ (r : List ℕ × List ℕ). (x ∷ r.0, r.1)) o) → Cuts b (x ∷ xs) p q
cut_step b x xs p q true h o ih e =
    let here : x ≡ b = eqb-true x b h in
    let front : p ≡ [] = ap (λ (r : Option (List ℕ × List ℕ)). (first_of_some r).0) e in
    let rest : q ≡ xs = ap (λ (r : Option (List ℕ × List ℕ)). (first_of_some r).1) e in
    (rw (front, rest, here) refl, rw front (All-nil (λ (y : ℕ). (y == b) ≡ false)))
cut_step b x xs p q false h None ih e = absurd (let f = e in cc)
cut_step b x xs p q false h (Some r) ih e =
    let front : p ≡ x ∷ r.0 = ap (λ (r : Option (List ℕ × List ℕ)). (first_of_some r).0) e in
    let rest : q ≡ r.1 = ap (λ (r : Option (List ℕ × List ℕ)). (first_of_some r).1) e in
    let before : Cuts b xs r.0 r.1 = ih r.0 r.1 refl in
    (rw (front, rest) (ap (λ (ys : List ℕ). x ∷ ys) before.0), rw front (All-cons (λ (y : ℕ). (y == b) ≡ false) x r.0 h before.1))

pub cuts : (b : ℕ) (s p q : List ℕ) → both p q ≡ split_once b s → Cuts b s p q
cuts b [] p q e = absurd (let f = e in cc)
cuts b (x ∷ xs) p q e = cut_step b x xs p q (x == b) refl (split_once b xs) (λ p' q' h. cuts b xs p' q' h) e

uncut_step : (b x : ℕ) (xs : List ℕ) (c : Bool) → (x == b) ≡ c → (o : Option (List ℕ × List ℕ)) → (None ≡ o → IsWithout b xs)
    → None ≡ cond c (both [] xs) (option_map (λ (r : List ℕ × List ℕ). (x ∷ r.0, r.1)) o) → IsWithout b (x ∷ xs)
uncut_step b x xs true h o ih e = absurd (let f = e in cc)
uncut_step b x xs false h None ih e = All-cons (λ (y : ℕ). (y == b) ≡ false) x xs h (ih refl)
uncut_step b x xs false h (Some r) ih e = absurd (let f = e in cc)

pub uncut : (b : ℕ) (s : List ℕ) → None ≡ split_once b s → IsWithout b s
uncut b [] e = All-nil (λ (y : ℕ). (y == b) ≡ false)
uncut b (x ∷ xs) e = uncut_step b x xs (x == b) refl (split_once b xs) (λ h. uncut b xs h) e

lacking_step : (b x : ℕ) (xs : List ℕ) (c : Bool) → (x == b) ≡ c → (has_byte b xs ≡ false → IsWithout b xs) → cond c true (has_byte b xs) ≡ false → IsWithout b (x ∷ xs)
lacking_step b x xs true h ih e = absurd (let f = e in cc)
lacking_step b x xs false h ih e = All-cons (λ (y : ℕ). (y == b) ≡ false) x xs h (ih e)

pub lacking : (b : ℕ) (s : List ℕ) → has_byte b s ≡ false → IsWithout b s
lacking b [] e = All-nil (λ (y : ℕ). (y == b) ≡ false)
lacking b (x ∷ xs) e = lacking_step b x xs (x == b) refl (λ h. lacking b xs h) e

without_front : (b : ℕ) (xs ys : List ℕ) → IsWithout b (xs ++ ys) → IsWithout b xs
without_front b [] ys h = All-nil (λ (y : ℕ). (y == b) ≡ false)
without_front b (x ∷ xs) ys h = All-cons (λ (y : ℕ). (y == b) ≡ false) x xs (All-head (λ (y : ℕ). (y == b) ≡ false) x (xs ++ ys) h) (without_front b xs ys (All-tail (λ (y : ℕ). (y == b) ≡ false) x (xs ++ ys) h))

without_back : (b : ℕ) (xs ys : List ℕ) → IsWithout b (xs ++ ys) → IsWithout b ys
without_back b [] ys h = h
without_back b (x ∷ xs) ys h = without_back b xs ys (All-tail (λ (y : ℕ). (y == b) ≡ false) x (xs ++ ys) h)

some_byte : (xs : List ℕ) → false ≡ (length xs == 0) → 0 < length xs
some_byte [] h = absurd (let f = h in cc)
some_byte (x ∷ xs) h = omega arith

-- the parts of a text without ';' make a label
pub parts_fit : (text source rest key value : List ℕ) → IsWithout 59 text → both source rest ≡ split_once 58 text → both key value ≡ split_once 61 rest
    → false ≡ (length source == 0) → false ≡ (length key == 0) → false ≡ has_byte 61 source → IsLabel (record { source = source; key = key; value = value })
parts_fit text source rest key value ends colon equals s k no_equals =
    let first : Cuts 58 text source rest = cuts 58 text source rest colon in
    let second : Cuts 61 rest key value = cuts 61 rest key value equals in
    let whole : IsWithout 59 (source ++ 58 ∷ rest) = subst (IsWithout 59) first.0 ends in
    let behind : IsWithout 59 (58 ∷ rest) = without_back 59 source (58 ∷ rest) whole in
    let rests : IsWithout 59 rest = All-tail (λ (y : ℕ). (y == 59) ≡ false) 58 rest behind in
    let parts : IsWithout 59 (key ++ 61 ∷ value) = subst (IsWithout 59) second.0 rests in (
      some_byte source s,
      first.1,
      lacking 61 source (sym no_equals),
      without_front 59 source (58 ∷ rest) whole,
      some_byte key k,
      second.1,
      without_front 59 key (61 ∷ value) parts,
      All-tail (λ (y : ℕ). (y == 59) ≡ false) 61 value (without_back 59 key (61 ∷ value) parts),
    )
