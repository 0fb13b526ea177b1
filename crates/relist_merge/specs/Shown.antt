-- What the rows of a view show.
use Rattle.std.specs.Prelude.{ℕ, List, take, nat_eq, Bool, if◌then◌else◌, Option, None, Some}
use Rattle.std.specs.List.{list_any}
use Rattle.std.specs.Cmp.Lexicographic.{pointwise}
use Rattle.std.specs.Map.{keys_of, lookup}
use Rattle.relist_merge.specs.View.{Entry}
use Rattle.relist_merge.specs.declared.rows.Row.{Row}

-- the key stands among the first n rows
abbrev pub is_fresh : ℕ → List (List ℕ × Row) → List ℕ → Bool
is_fresh n rows k = list_any (pointwise nat_eq k) (take n (keys_of rows))

abbrev pub entry_of : Option Row → Bool → Option Entry
entry_of None fresh = None
entry_of (Some row) fresh = Some (record { value = row.value; fresh = fresh })

-- the entry of a key, where the first n rows are fresh
abbrev pub entry_in : ℕ → List (List ℕ × Row) → List ℕ → Option Entry
entry_in n rows k = entry_of (lookup (pointwise nat_eq k) rows) (is_fresh n rows k)

-- the row of a key
abbrev pub row_at : List (List ℕ × Row) → List ℕ → Option Row
row_at rows k = lookup (pointwise nat_eq k) rows

-- the row of a key, where it is among the first n
abbrev pub fresh_row : ℕ → List (List ℕ × Row) → List ℕ → Option Row
fresh_row n rows k = if is_fresh n rows k then row_at rows k else None

-- a row's key and value
abbrev pub pair_of : List ℕ × Row → List ℕ × List ℕ
pair_of e = (e.0, e.1.value)
