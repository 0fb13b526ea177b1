-- An address as one number and as its bytes or fields.
use Rattle.std.proofs.Common.{◌≡◌, ℕ, ◌+◌, ◌*◌, ◌/◌, ◌%◌, ◌^◌, ◌<◌, [], ◌∷◌, arith}
use Rattle.std.specs.Int.{w32, w128, to_be_bytes, from_be_bytes}
use Rattle.std.specs.Int.Digits.{number_from_digits}
use Rattle.std.specs.Net.Addr.{segments_of, octets_of}
use native.Mathlib.Nat as nat
use Rattle.mesh_text.specs.Addresses.{digit_at, four_bytes, eight_fields}

pub joined-four_bytes : (n : ℕ) → n < 2 ^ 32 → number_from_digits 256 (four_bytes n) ≡ n
joined-four_bytes n fits = omega arith

pub joined-from_be_bytes_4 : (a b c d : ℕ) → number_from_digits 256 (a ∷ b ∷ c ∷ d ∷ []) ≡ from_be_bytes w32 (a ∷ b ∷ c ∷ d ∷ [])
joined-from_be_bytes_4 a b c d = omega arith

pub four_bytes-to_be_bytes : (n : ℕ) → to_be_bytes w32 n ≡ four_bytes n
four_bytes-to_be_bytes n =
    let last : n % 256 ≡ digit_at 256 0 n = omega arith in
    λ i. digit_at 256 3 n ∷ digit_at 256 2 n ∷ digit_at 256 1 n ∷ last i ∷ []

-- a field more
step : (n p : ℕ) → n / p ≡ n / (p * 65536) * 65536 + n / p % 65536
step n p = omega (arith, nat.div-div-eq-div-mul n p 65536)

joined_8 : (a b c d e f g h n p q r s t u v : ℕ) → n ≡ p * 65536 + h → p ≡ q * 65536 + g → q ≡ r * 65536 + f → r ≡ s * 65536 + e
    → s ≡ t * 65536 + d → t ≡ u * 65536 + c → u ≡ v * 65536 + b → v ≡ a
    → number_from_digits 65536 (a ∷ b ∷ c ∷ d ∷ e ∷ f ∷ g ∷ h ∷ []) ≡ n
joined_8 a b c d e f g h n p q r s t u v at_0 at_1 at_2 at_3 at_4 at_5 at_6 at_7 = omega arith

pub joined-eight_fields : (n : ℕ) → n < 2 ^ 128 → number_from_digits 65536 (eight_fields n) ≡ n
joined-eight_fields n fits =
    let low : n ≡ n / 65536 * 65536 + digit_at 65536 0 n = omega arith in
    let high : n / 65536 ^ 7 ≡ digit_at 65536 7 n = omega arith in
    joined_8 _ _ _ _ _ _ _ _ n _ _ _ _ _ _ _ low (step n 65536) (step n (65536 ^ 2)) (step n (65536 ^ 3)) (step n (65536 ^ 4)) (step n (65536 ^ 5)) (step n (65536 ^ 6)) high

pub joined-from_be_bytes_16 : (a b c d e f g h : ℕ) → number_from_digits 65536 (a ∷ b ∷ c ∷ d ∷ e ∷ f ∷ g ∷ h ∷ []) ≡ from_be_bytes w128 (octets_of (a ∷ b ∷ c ∷ d ∷ e ∷ f ∷ g ∷ h ∷ []))
joined-from_be_bytes_16 a b c d e f g h = omega arith

-- two bytes are a field
pair : (n p : ℕ) → n / (p * 256) % 256 * 256 + n / p % 256 ≡ n / p % 65536
pair n p = omega (arith, nat.div-div-eq-div-mul n p 256)

pub segments_of-to_be_bytes : (n : ℕ) → segments_of (to_be_bytes w128 n) ≡ eight_fields n
segments_of-to_be_bytes n =
    let last : n / 256 % 256 * 256 + n % 256 ≡ digit_at 65536 0 n = omega arith in
    λ i. pair n (65536 ^ 7) i ∷ pair n (65536 ^ 6) i ∷ pair n (65536 ^ 5) i ∷ pair n (65536 ^ 4) i ∷ pair n (65536 ^ 3) i ∷ pair n (65536 ^ 2) i ∷ pair n 65536 i ∷ last i ∷ []
