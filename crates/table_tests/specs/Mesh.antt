-- What is known of the tables of the sources west and east, by the keys that they were told.
use Rattle.std.specs.Prelude.{◌≡◌, ℕ, List, [], ◌∷◌, map, codes, Bool, false, None, Some, nat_eq, slice_get, ◌&&◌, ◌==◌}
use Rattle.std.specs.List.{list_any}
use Rattle.std.specs.Option.{ForSome}
use Rattle.std.specs.Cmp.Lexicographic.{pointwise}
use Rattle.std.specs.FinMap.{get}
use Rattle.record_check.specs.declared.limit.Limit.TheVariants.{Small}
use Rattle.shared_tables.specs.Told.{IsRow, SourceTold, Told}
use Rattle.shared_tables.specs.declared.change.Row.{Row}

-- the names of the sources in their places
abbrev pub names : List (List ℕ)
names = codes "west" ∷ codes "east" ∷ []

-- the row is one of the source at the place
pub record IsRowAt (place : ℕ) (row : Row) : Type 0 where
  pub name : List ℕ
  pub named : slice_get names place ≡ Some name
  pub is : IsRow name row

-- whether the key was told of the source at the place
abbrev pub is_told : ℕ → List ℕ → List (ℕ × List ℕ) → Bool
is_told place key = list_any (λ (told : ℕ × List ℕ). told.0 == place && pointwise nat_eq told.1 key)

-- the tables are of these sources, and have rows of the told keys at most
pub record Knows (keys : List (ℕ × List ℕ)) (t : Told) : Type 0 where
  pub limit : t.limit ≡ Small
  pub named : map (λ (s : SourceTold). s.name) t.sources ≡ names
  pub others : (place : ℕ) (key : List ℕ) → is_told place key keys ≡ false → ForSome (slice_get t.sources place) (λ s. get s.rows key ≡ None)
