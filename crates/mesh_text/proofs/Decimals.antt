-- Canonical decimal text, and what `parse` reads.
use Rattle.std.proofs.Common.{◌≡◌, ℕ, ◌^◌, ◌<◌, true, false, List, [], ◌∷◌, length, get_or, Some, Result, Ok, Err, refl, sym, ap, arith, rules, inl, inr, lt-ltb, le-ltb, ◌==◌, decimal}
use Rattle.std.proofs.lemmas.Bool.{and_parts, and_from, cases_lt, false≢true, not-true, ltb-true, eqb-false, ne_eqb}
use Rattle.std.proofs.lemmas.Str.Parse.{IsDigitsTest, IsNumeralModel, numerals_by_value, parse_digits}
use Rattle.std.proofs.lemmas.Str.{IsUtf8-from_ascii}
use Rattle.std.proofs.lemmas.Fmt.{IsAscii-from_digits, decimal_is_IsNumeral, decimal_digit, first_decimal, decimal-digits_value}
use Rattle.std.proofs.NetLemmas.Options.{cond_some}
use Rattle.std.specs.Str.{IsUtf8}
use Rattle.std.specs.Char.{is_ascii_digit, digit_value}
use Rattle.std.proofs.lemmas.Bool.Decides.{nat_tests}
use Rattle.std.specs.Str.Parse.{AllDigits, digits_value, ParsesUnsigned}
use Rattle.std.specs.Result.{result_ok}
use Rattle.mesh_text.specs.Numbers.{all_digits, is_decimal, number_of}

pub tells_digits : IsDigitsTest (λ ds. all_digits ds ≡ true)
tells_digits = search rules

pub own : IsNumeralModel (λ ds. all_digits ds ≡ true) (digits_value 10)
own = numerals_by_value _ tells_digits

pub all_digits-from_decimal : (text : List ℕ) → is_decimal text ≡ true → all_digits text ≡ true
all_digits-from_decimal [] h = absurd (false≢true h)
all_digits-from_decimal (d ∷ []) h = and_from _ _ h refl
all_digits-from_decimal (d ∷ e ∷ rest) h = (and_parts _ _ h).1

pub some_digit : (text : List ℕ) → is_decimal text ≡ true → 0 < length text
some_digit [] h = absurd (false≢true h)
some_digit (d ∷ rest) h = omega arith

in_range : (d : ℕ) → is_ascii_digit d ≡ true → digit_value d < 10
in_range d h = grind (arith, nat_tests)

is_digit-from_value : (d : ℕ) → digit_value d < 10 → is_ascii_digit d ≡ true
is_digit-from_value d h = grind (arith, nat_tests)

pub all_digits-from_numeral : (text : List ℕ) → AllDigits 10 text → all_digits text ≡ true
all_digits-from_numeral [] h = refl
all_digits-from_numeral (d ∷ rest) h = and_from _ _ (is_digit-from_value d h.0) (all_digits-from_numeral rest h.1)

pub all_numeral : (text : List ℕ) → all_digits text ≡ true → AllDigits 10 text
all_numeral [] h = tt
all_numeral (d ∷ rest) h = let (first, more) = and_parts _ _ h in (in_range d first, all_numeral rest more)

pub utf8_decimal : (text : List ℕ) → is_decimal text ≡ true → IsUtf8 text
utf8_decimal text h = IsUtf8-from_ascii text (IsAscii-from_digits text (all_numeral text (all_digits-from_decimal text h)))

-- what `parse` reads of canonical decimal text
pub parsed : {E : Type 0} (text : List ℕ) (r : Result ℕ E) → is_decimal text ≡ true → ParsesUnsigned 64 10 text r → result_ok r ≡ number_of text
unfolding number_of
parsed {E} text (Ok n) h read =
    let at = parse_digits own {E = E} 64 text (Ok n) read (all_digits-from_decimal text h) in
    rw (h, lt-ltb _ _ at.0.1, at.1) refl
parsed {E} text (Err e) h read =
    let at = parse_digits own {E = E} 64 text (Err e) read (all_digits-from_decimal text h) in
    elim (cases_lt (digits_value 10 text) (2 ^ 64)) [
      | inl below ↦ absurd (at (some_digit text h, below))
      | inr above ↦ rw (h, le-ltb _ _ above) refl
    ]

pub is_decimal-from_numeral : (text : List ℕ) → AllDigits 10 text → 0 < length text → (get_or text 0 0 ≡ 48 → length text ≡ 1) → is_decimal text ≡ true
is_decimal-from_numeral [] digits some alone = absurd (omega arith)
is_decimal-from_numeral (d ∷ []) digits some alone = is_digit-from_value d digits.0
is_decimal-from_numeral (d ∷ e ∷ rest) digits some alone =
    let other : (d == 48) ≡ false = ne_eqb d 48 (λ zero_first. let one = alone zero_first in omega arith) in
    rw (other, all_digits-from_numeral (d ∷ e ∷ rest) digits) refl

no_zero_first : (n : ℕ) → n < 2 ^ 64 → get_or (decimal n) 0 0 ≡ 48 → length (decimal n) ≡ 1
no_zero_first n fits zero_first =
    elim (cases_lt n 10) [
      | inl one ↦ ap length (decimal_digit n one)
      | inr more ↦ let first = first_decimal n (omega arith) fits in absurd (omega arith)
    ]

-- what is written of a number is its text
pub number_of-decimal : (n : ℕ) → n < 2 ^ 64 → number_of (decimal n) ≡ Some n
unfolding number_of
number_of-decimal n fits =
    let (numeral, value) = decimal_is_IsNumeral n fits in
    let canonical = is_decimal-from_numeral (decimal n) numeral.1 numeral.0 (no_zero_first n fits) in
    rw (canonical, value, lt-ltb n (2 ^ 64) fits) refl

leading : (text : List ℕ) → is_decimal text ≡ true → get_or text 0 0 ≡ 48 → length text ≡ 1
leading [] h zero_first = absurd (omega arith)
leading (d ∷ []) h zero_first = refl
leading (d ∷ e ∷ rest) h zero_first =
    let other = not-true _ (and_parts _ _ h).0 in
    absurd (eqb-false d 48 other zero_first)

-- a number has one canonical text
pub number_of-sound : (text : List ℕ) (n : ℕ) → number_of text ≡ Some n → (n < 2 ^ 64) × (text ≡ decimal n)
unfolding number_of
number_of-sound text n e =
    let (test, value) = cond_some _ _ _ e in
    let (canonical, small) = and_parts _ _ test in
    let fits = ltb-true (digits_value 10 text) (2 ^ 64) small in
    let spelled = decimal-digits_value own text (all_digits-from_decimal text canonical) (some_digit text canonical) (leading text canonical) fits in
    rw (← value) (fits, sym spelled)
