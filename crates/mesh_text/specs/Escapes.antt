-- Bytes as a word without spaces, and such a word as bytes.
use Rattle.std.specs.Prelude.{ℕ, ◌+◌, ◌*◌, ◌/◌, ◌%◌, true, not, ◌&&◌, ◌==◌, nat_le, List, [], ◌∷◌, flat_map, codes, bytes_eq, Option, Some, None, option_map, if◌then◌else◌}
use Rattle.std.specs.Char.{is_digit, digit_value}
use Rattle.std.specs.Fmt.{digit_glyph}

-- a visible ASCII character other than `%` as itself, any other byte as `%` and two upper-case
-- hexadecimal digits
abbrev pub escaped_byte : ℕ → List ℕ
escaped_byte b =
    if nat_le 0x21 b && nat_le b 0x7E && not (b == 37) then b ∷ []
    else 37 ∷ digit_glyph true (b / 16) ∷ digit_glyph true (b % 16) ∷ []

-- the word for the bytes; `-` is the word for no bytes, so the bytes `-` are escaped
unfoldable pub escaped : List ℕ → List ℕ
escaped [] = codes "-"
escaped (b ∷ bs) =
    if bytes_eq (b ∷ bs) (codes "-") then codes "%2D" else flat_map escaped_byte (b ∷ bs)

-- the bytes behind a first byte
abbrev pub after : ℕ → Option (List ℕ) → Option (List ℕ)
after b bytes = option_map (λ bs. b ∷ bs) bytes

-- what a word says that is not `-`, where each `%` has two hexadecimal digits after it
abbrev pub unescaped_bytes : List ℕ → Option (List ℕ)
unescaped_bytes [] = Some []
unescaped_bytes (b ∷ []) = if b == 37 then None else Some (b ∷ [])
unescaped_bytes (b ∷ c ∷ []) = if b == 37 then None else after b (unescaped_bytes (c ∷ []))
unescaped_bytes (b ∷ c ∷ d ∷ rest) =
    if b == 37
    then (if is_digit c 16 && is_digit d 16
    then after (16 * digit_value c + digit_value d) (unescaped_bytes rest) else None)
    else after b (unescaped_bytes (c ∷ d ∷ rest))

-- the bytes that a word stands for
unfoldable pub unescaped : List ℕ → Option (List ℕ)
unescaped [] = None
unescaped (b ∷ bs) = if bytes_eq (b ∷ bs) (codes "-") then Some [] else unescaped_bytes (b ∷ bs)
