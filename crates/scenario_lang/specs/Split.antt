-- The lines of a text and the words of a line.
use Rattle.std.specs.Prelude.{ℕ, Bool, true, false, List, [], ◌∷◌, filter}
use Rattle.mesh_text.specs.Addresses.{split_at}

-- the pieces between newlines, so the last one is what no newline ends
unfoldable pub lines : List ℕ → List (List ℕ)
lines text = split_at 10 text

abbrev pub is_word : List ℕ → Bool
is_word [] = false
is_word (c ∷ cs) = true

-- what stands between spaces, however many
unfoldable pub words : List ℕ → List (List ℕ)
words line = filter is_word (split_at 32 line)
