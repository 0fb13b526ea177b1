-- The text of an IP address.
use Rattle.std.specs.Prelude.{ℕ, ◌+◌, ◌-◌, ◌/◌, ◌%◌, ◌^◌, ◌&&◌, ◌==◌, nat_lt, nat_le, List, [], ◌∷◌, ◌++◌, length, take, drop, replicate, codes, Option, Some, None, option_map, option_and_then, if◌then◌else◌}
use Rattle.std.specs.List.{slice_split, list_all}
use Rattle.std.specs.Char.{is_digit}
use Rattle.std.specs.Int.Digits.{number_from_digits}
use Rattle.std.specs.Str.Parse.{digits_value}
use Rattle.std.specs.Net.Text.{ipv4_text, groups_text, longest_zero_run}
use Rattle.mesh_text.specs.declared.ip.Ip.{Ip}
use Rattle.mesh_text.specs.declared.ip.Ip.TheVariants.{V4, V6}
use Rattle.mesh_text.specs.Numbers.{number_of}

-- the next step, where the one before gave a value
infixl 10 ◌>>=◌
abbrev pub ◌>>=◌ : {A B : Type 0} → Option A → (A → Option B) → Option B
o >>= f = option_and_then f o

-- the pieces between the separators
abbrev pub split_at : ℕ → List ℕ → List (List ℕ)
split_at separator text = slice_split (λ c. c == separator) text

-- a decimal number from 0 to 255, without leading zeros
abbrev pub octet_of : List ℕ → Option ℕ
octet_of piece = number_of piece >>= λ n. if nat_lt n 256 then Some n else None

-- four decimal bytes
abbrev pub four_bytes_of : List (List ℕ) → Option (List ℕ)
four_bytes_of (a ∷ b ∷ c ∷ d ∷ []) = do
  a ← octet_of a
  b ← octet_of b
  c ← octet_of c
  d ← octet_of d
  Some (a ∷ b ∷ c ∷ d ∷ [])
four_bytes_of _ = None

-- one to four hexadecimal digits
abbrev pub field_of : List ℕ → Option ℕ
field_of piece =
    if nat_le 1 (length piece) && nat_le (length piece) 4 && list_all (λ c. is_digit c 16) piece
    then Some (digits_value 16 piece) else None

-- fields, one in each piece
abbrev pub fields_of : List (List ℕ) → Option (List ℕ)
fields_of [] = Some []
fields_of (piece ∷ pieces) = do
  field ← field_of piece
  fields ← fields_of pieces
  Some (field ∷ fields)

-- fields joined by `:`, or nothing
abbrev pub side_of : List ℕ → Option (List ℕ)
side_of [] = Some []
side_of (c ∷ cs) = fields_of (split_at 58 (c ∷ cs))

-- the two sides with this byte in front of the first
abbrev pub before : ℕ → Option (List ℕ × List ℕ) → Option (List ℕ × List ℕ)
before c sides = option_map (λ p. (c ∷ p.0, p.1)) sides

-- the text before the first `::` and the text after it
abbrev pub around_gap : List ℕ → Option (List ℕ × List ℕ)
around_gap [] = None
around_gap (c ∷ []) = None
around_gap (c ∷ d ∷ rest) =
    if c == 58 && d == 58 then Some ([], rest) else before c (around_gap (d ∷ rest))

-- eight fields
abbrev pub eight : List ℕ → Option (List ℕ)
eight fields = if length fields == 8 then Some fields else None

-- eight fields, of which at least one is a zero between the two sides
abbrev pub with_zeros : List ℕ → List ℕ → Option (List ℕ)
with_zeros head tail =
    if nat_lt (length head + length tail) 8
    then Some (head ++ replicate (8 - length head - length tail) 0 ++ tail) else None

-- the eight fields of a text, by what stands around its first `::`
abbrev pub fields_around : List ℕ → Option (List ℕ × List ℕ) → Option (List ℕ)
fields_around text None = fields_of (split_at 58 text) >>= eight
fields_around text (Some sides) = do
  head ← side_of sides.0
  tail ← side_of sides.1
  with_zeros head tail

-- RFC 4291, 2.2: eight fields joined by `:` (form 1), or fields on each side of the one `::` that
-- stands for one or more zero fields (form 2)
abbrev pub eight_fields_of : List ℕ → Option (List ℕ)
eight_fields_of text = fields_around text (around_gap text)

-- the IPv4 address of a text: four decimal bytes joined by `.`, the first one the highest
unfoldable pub ipv4_of : List ℕ → Option ℕ
ipv4_of text = option_map (number_from_digits 256) (four_bytes_of (split_at 46 text))

-- the IPv6 address of a text, its first field the highest
unfoldable pub ipv6_of : List ℕ → Option ℕ
ipv6_of text = option_map (number_from_digits 65536) (eight_fields_of text)

-- the IPv4 address, or else the IPv6 address
abbrev pub by_family : Option ℕ → Option ℕ → Option Ip
by_family (Some n) other = Some (V4 n)
by_family None other = option_map V6 other

-- the address of a text; no text is of both families
unfoldable pub address_of : List ℕ → Option Ip
address_of text = by_family (ipv4_of text) (ipv6_of text)

-- the digit of n in this base that has k digits behind it
abbrev pub digit_at : ℕ → ℕ → ℕ → ℕ
digit_at base k n = n / base ^ k % base

-- the four bytes of an IPv4 address
abbrev pub four_bytes : ℕ → List ℕ
four_bytes n = digit_at 256 3 n ∷ digit_at 256 2 n ∷ digit_at 256 1 n ∷ digit_at 256 0 n ∷ []

-- the eight fields of an IPv6 address
abbrev pub eight_fields : ℕ → List ℕ
eight_fields n = digit_at 65536 7 n ∷ digit_at 65536 6 n ∷ digit_at 65536 5 n
    ∷ digit_at 65536 4 n ∷ digit_at 65536 3 n ∷ digit_at 65536 2 n ∷ digit_at 65536 1 n
    ∷ digit_at 65536 0 n ∷ []

-- RFC 5952, section 4: each field in lower case without leading zeros, joined by `:`, and `::` in
-- place of the longest run of zero fields, the first one of that length, if it has at least two
unfoldable pub ipv6_text : List ℕ → List ℕ
ipv6_text fields =
    let run = longest_zero_run fields in
    if nat_lt 1 run.1
    then groups_text (take run.0 fields) ++ codes "::" ++ groups_text (drop (run.0 + run.1) fields)
    else groups_text fields

-- the canonical text of an address
unfoldable pub address_text : Ip → List ℕ
address_text (V4 n) = ipv4_text (four_bytes n)
address_text (V6 n) = ipv6_text (eight_fields n)
