-- The bytes of a name are ASCII, and a part name has some.
use Rattle.std.proofs.Common.{◌≡◌, ℕ, zero, suc, ◌<◌, ◌≤◌, ◌||◌, ◌==◌, ◌⊎◌, nat_le, List, [], ◌∷◌, Bool, true, false, length, inl, inr, arith, refl, sym, ◌∙◌}
use Rattle.std.specs.Char.{is_ascii_digit, is_ascii_lowercase}
use Rattle.std.specs.Int.{is_in_range}
use Rattle.std.specs.List.{list_all}
use Rattle.std.specs.Str.{IsAscii, IsUtf8}
use Rattle.std.proofs.lemmas.Bool.{and_parts, false≢true, leb-true}
use Rattle.std.proofs.lemmas.Bool.Decides.{eqb_tells}
use Rattle.std.proofs.lemmas.Str.{IsUtf8-from_ascii}
use Rattle.mesh_text.specs.Names.{is_cluster_byte, is_cluster_name, is_part_byte, is_part_name}
use Rattle.mesh_text.proofs.CallerLemmas.{cluster_name-bytes, part_name-bytes}

either : (a b : Bool) → (a || b) ≡ true → (a ≡ true) ⊎ (b ≡ true)
either true b h = inl refl
either false b h = inr h

within : (lo hi c : ℕ) → is_in_range lo hi c ≡ true → c ≤ hi
within lo hi c h = leb-true c hi (and_parts (nat_le lo c) (nat_le c hi) h).1

is : (c n : ℕ) → (c == n) ≡ true → c ≡ n
is c n h = elim (eqb_tells c n) [ inl same ↦ same.1 | inr differ ↦ absurd (false≢true (sym differ.0 ∙ h)) ]

cluster_below : (c : ℕ) → is_cluster_byte c ≡ true → c < 128
cluster_below c h = elim (either (is_ascii_lowercase c || is_ascii_digit c) (c == 45) h) [
  | inl more ↦ elim (either (is_ascii_lowercase c) (is_ascii_digit c) more) [
    | inl lower ↦ omega (arith, within 97 122 c lower)
    | inr digit ↦ omega (arith, within 48 57 c digit)
  ]
  | inr hyphen ↦ omega (arith, is c 45 hyphen)
]

below_128 : (c : ℕ) → is_part_byte c ≡ true → c < 128
below_128 c h = elim (either (is_cluster_byte c) (c == 46) h) [ inl cluster ↦ cluster_below c cluster | inr dot ↦ omega (arith, is c 46 dot) ]

ascii : (bytes : List ℕ) → list_all is_part_byte bytes ≡ true → IsAscii bytes
ascii [] h i = omega arith
ascii (b ∷ bs) h zero = below_128 b (and_parts _ _ h).0
ascii (b ∷ bs) h (suc i) = ascii bs (and_parts _ _ h).1 i

part_bytes : (bytes : List ℕ) → list_all is_cluster_byte bytes ≡ true → list_all is_part_byte bytes ≡ true
part_bytes [] h = refl
part_bytes (b ∷ bs) h = let (first, more) = and_parts (is_cluster_byte b) (list_all is_cluster_byte bs) h in rw (first, part_bytes bs more) refl

pub part_name_utf8 : (text : List ℕ) → is_part_name text ≡ true → IsUtf8 text
part_name_utf8 text h = IsUtf8-from_ascii text (ascii text (part_name-bytes text h))

pub cluster_name_utf8 : (text : List ℕ) → is_cluster_name text ≡ true → IsUtf8 text
cluster_name_utf8 text h = IsUtf8-from_ascii text (ascii text (part_bytes text (cluster_name-bytes text h)))

pub part_name_some : (text : List ℕ) → is_part_name text ≡ true → 0 < length text
unfolding is_part_name
part_name_some text h = let some = leb-true 1 (length text) (and_parts _ _ (and_parts _ _ h).0).0 in omega (arith, some)
