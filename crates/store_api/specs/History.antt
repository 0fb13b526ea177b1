-- The history of a store, and what is live in it at each of its revisions.
-- Source: etcd, "Data model" (logical view), and its API's KV service (Range, Txn).
use Rattle.std.specs.Prelude.{◌≡◌, ℕ, zero, suc, ◌+◌, List, [], ◌∷◌, ◌++◌, length, get_or, Bool, if◌then◌else◌, Option, None, Some, is_some, nat_eq}
use Rattle.std.specs.Ordering.{nat_cmp}
use Rattle.std.specs.Cmp.Lexicographic.{slice_cmp}
use Rattle.std.specs.FinMap.{FinMap, insert, remove, empty, entries, retain_keys}
use Rattle.std.specs.List.{starts_with, list_any}
use Rattle.mesh_base.specs.Order.{same_bytes}
use Rattle.store_api.specs.declared.change.Change.{Change}
use Rattle.store_api.specs.declared.change.Change.TheVariants as change
use Rattle.store_api.specs.declared.change.Op.{Op}
use Rattle.store_api.specs.declared.change.Op.TheVariants as op
use Rattle.store_api.specs.declared.change.Range.{Range}
use Rattle.store_api.specs.declared.change.Range.TheVariants.{One, Prefix}
use Rattle.store_api.specs.declared.change.Pair.{Pair}

-- what each revision changed, oldest first: entry i has the number i + 2, and an empty store is at revision 1
abbrev pub History : Type 0
History = List (List Change)

-- the store's revision: the number of the last entry, or 1
abbrev pub revision : History → ℕ
revision history = length history + 1

-- the later history goes on where this one ends
abbrev pub Begins : History → History → Type 0
Begins history later = (more : History) × (later ≡ history ++ more)

-- what the revision of this number changed
abbrev pub changes_at : History → ℕ → List Change
changes_at history zero = []
changes_at history (suc zero) = []
changes_at history (suc (suc i)) = get_or history i []

-- what is live, by key
abbrev pub Pairs : Type 0
Pairs = List ℕ → Option (List ℕ)

-- what the key has after a change
abbrev pub after_change : List ℕ → Option (List ℕ) → Change → Option (List ℕ)
after_change k old (change.Put key value lease) = if same_bytes key k then Some value else old
after_change k old (change.Delete key) = if same_bytes key k then None else old

abbrev pub after_changes : List ℕ → Option (List ℕ) → List Change → Option (List ℕ)
after_changes k old [] = old
after_changes k old (c ∷ changes) = after_changes k (after_change k old c) changes

-- the key's value at revision r: that of its last change up to there, where this is a put
abbrev pub live_at : History → ℕ → Pairs
live_at history zero k = None
live_at history (suc r) k = after_changes k (live_at history r k) (changes_at history (suc r))

-- pairs as a finite map in byte order of their keys
abbrev pub Pairing : Type 0
Pairing = FinMap (slice_cmp nat_cmp) (List ℕ)

abbrev pub changed_map : Pairing → Change → Pairing
changed_map m (change.Put key value lease) = insert m key value
changed_map m (change.Delete key) = remove m key

abbrev pub after_all : Pairing → List Change → Pairing
after_all m [] = m
after_all m (c ∷ changes) = after_all (changed_map m c) changes

-- the live pairs at revision r: what all changes up to there make of no pairs
abbrev pub map_at : History → ℕ → Pairing
map_at history zero = empty
map_at history (suc r) = after_all (map_at history r) (changes_at history (suc r))

-- the key is in the range
abbrev pub in_range : List ℕ → Range → Bool
in_range k (One key) = same_bytes k key
in_range k (Prefix front) = starts_with nat_eq k front

-- the key is in one of the ranges
abbrev pub in_ranges : List Range → List ℕ → Bool
in_ranges ranges k = list_any (in_range k) ranges

abbrev pub entry_of : Pair → List ℕ × List ℕ
entry_of p = (p.key, p.value)

-- the pairs of the ranges that are live at revision r, in byte order of their keys
abbrev pub listing_at : List Range → History → ℕ → List (List ℕ × List ℕ)
listing_at ranges history r = entries (retain_keys (map_at history r) (in_ranges ranges))

-- the key that an operation is of
abbrev pub key_of : Op → List ℕ
key_of (op.Put key value lease) = key
key_of (op.Delete key) = key

-- what an operation changes over these live pairs
abbrev pub change_of : Pairs → Op → List Change
change_of now (op.Put key value lease) = change.Put key value lease ∷ []
change_of now (op.Delete key) = if is_some (now key) then change.Delete key ∷ [] else []

abbrev pub changes_of : Pairs → List Op → List Change
changes_of now [] = []
changes_of now (o ∷ ops) = change_of now o ++ changes_of now ops

-- the history with the changes as one revision more, where there are any
abbrev pub with_revision : History → List Change → History
with_revision history [] = history
with_revision history (c ∷ changes) = history ++ (c ∷ changes) ∷ []

-- the history after a transaction of the operations
abbrev pub committed : History → List Op → History
committed history ops = with_revision history (changes_of (live_at history (revision history)) ops)
