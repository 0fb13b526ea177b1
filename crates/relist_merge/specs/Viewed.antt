-- A view as its callers see it, and what its fields keep of that.
use Rattle.std.specs.Prelude.{◌≡◌, ℕ, ◌-◌, List, [], ◌∷◌, length, map, nat_eq, Option, None, Some}
use Rattle.std.specs.Cmp.Lexicographic.{pointwise}
use Rattle.std.specs.Map.{lookup}
use Rattle.std.specs.Option.{ForNone, ForSome}
use Rattle.store_api.specs.Followed.{Followed}
use Rattle.store_api.specs.History.{in_ranges}
use Rattle.key_paths.specs.declared.hop.Hop.{Hop}
use Rattle.key_paths.specs.Paths.{config_key, cut_key, kinds, mark_key, ranges_of}
use Rattle.record_check.specs.declared.limit.Limit.{Limit}
use Rattle.synced_marks.specs.Synced.{is_synced}
use Rattle.relist_merge.specs.Deliveries.{Edit}
use Rattle.relist_merge.specs.Readings.{reading_in}
use Rattle.relist_merge.specs.View.{View, edited}
use Rattle.relist_merge.specs.declared.rows.Row.{Row}
use Rattle.relist_merge.specs.declared.sync_keys.SyncKeys.{SyncKeys}

-- whose pairs are viewed: the cluster, whether in its own store or in the cache, and the mesh's limit
pub record Source : Type 0 where
  pub cluster : List ℕ
  pub hop : Hop
  pub limit : Limit

-- what a reader of the source follows
abbrev pub followed : Source → Followed
followed s = record { inside = in_ranges (ranges_of s.cluster s.hop); synced = is_synced s.cluster s.hop s.limit }

-- the source, what is shown of it, and for how many rows more there is memory
pub record Viewed : Type 0 where
  pub source : Source
  pub shown : View
  pub room : ℕ

-- a put takes the room of a row
abbrev pub cost : Edit → ℕ
cost (key, None) = 0
cost (key, Some value) = 1

-- one edit more
abbrev pub with_edit : Edit → Viewed → Viewed
with_edit e v = record v { shown = record v.shown { entries = λ k. edited e k (v.shown.entries k) }; room = v.room - cost e }

abbrev pub with_edits : List Edit → Viewed → Viewed
with_edits [] v = v
with_edits (e ∷ edits) v = with_edits edits (with_edit e v)

-- the keys by which the source's pairs count as synced, and that of its cut
pub record AreKeysOf (s : Source) (keys : SyncKeys) : Type 0 where
  pub config : keys.config ≡ config_key s.cluster
  pub marks : keys.marks ≡ map (mark_key s.cluster s.hop) kinds
  pub cut : keys.cut ≡ cut_key s.cluster

-- each row's reading is what its pair says
abbrev pub AreRead : Limit → List (List ℕ × Row) → Type 0
AreRead limit rows = (k : List ℕ) → ForSome (lookup (pointwise nat_eq k) rows) (λ row. row.reading ≡ reading_in limit k row.value)

-- the row's reading is what its pair says
abbrev pub IsRowRead : Limit → List ℕ × Row → Type 0
IsRowRead limit e = e.1.reading ≡ reading_in limit e.0 e.1.value

-- what holds of the fields of every view: without the keys there is no row and no room for one, with
-- them they are the source's, and each row's reading is what its pair says
pub record IsKept (s : Source) (keys : Option SyncKeys) (room : ℕ) (rows : List (List ℕ × Row)) : Type 0 where
  pub none : ForNone keys ((room ≡ 0) × (length rows ≡ 0))
  pub keyed : ForSome keys (AreKeysOf s)
  pub read : AreRead s.limit rows
