-- Lines of words, and lines in byte order.
use Rattle.std.specs.Prelude.{ℕ, List, [], ◌∷◌, ◌++◌, map, flat_map, codes, if◌then◌else◌}
use Rattle.std.specs.declared.cmp.Ordering.{Ordering}
use Rattle.std.specs.Ordering.{nat_cmp, is_lt}
use Rattle.std.specs.Cmp.Lexicographic.{slice_cmp}

-- each of the words behind a space, and a newline behind the last
abbrev pub rest_of_line : List (List ℕ) → List ℕ
rest_of_line [] = codes "\n"
rest_of_line (word ∷ words) = codes " " ++ (word ++ rest_of_line words)

-- the words with one space between two, and a newline behind the last
abbrev pub line_of : List (List ℕ) → List ℕ
line_of [] = codes "\n"
line_of (word ∷ words) = word ++ rest_of_line words

-- x before the first that is not below it
abbrev pub placed : {X : Type 0} → (X → X → Ordering) → X → List X → List X
placed order x [] = x ∷ []
placed order x (y ∷ ys) = if is_lt (order y x) then y ∷ placed order x ys else x ∷ y ∷ ys

-- the list in order
abbrev pub sorted_by : {X : Type 0} → (X → X → Ordering) → List X → List X
sorted_by order [] = []
sorted_by order (x ∷ xs) = placed order x (sorted_by order xs)

-- the lines in byte order: byte by byte from the left
abbrev pub in_byte_order : List (List ℕ) → List (List ℕ)
in_byte_order lines = sorted_by (slice_cmp nat_cmp) lines

-- the lines in byte order, one after the other
abbrev pub text_of_lines : List (List ℕ) → List ℕ
text_of_lines lines = flat_map (λ (line : List ℕ). line) (in_byte_order lines)

-- the text of the rows of one kind, which have these lines
abbrev pub text_of_rows : {X : Type 0} → (X → List ℕ) → List X → List ℕ
text_of_rows line rows = text_of_lines (map line rows)
