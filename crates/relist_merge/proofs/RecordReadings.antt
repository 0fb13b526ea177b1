-- What is read of a record's pair is what is told of it.
use Rattle.std.proofs.Common.{◌≡◌, ℕ, List, [], ◌∷◌, ◌++◌, codes, nat_eq, Bool, true, false, cond, Option, None, Some, is_some, Result, Ok, Err, refl, ap, sym, ◌∙◌, subst, suc}
use Rattle.std.specs.Cmp.Lexicographic.{pointwise, nat_list_eq_equiv}
use Rattle.std.specs.List.{AllByRecursion, IsDistinct, starts_with}
use Rattle.std.specs.Map.{keys_of}
use Rattle.record_values.specs.declared.records.Record.{Record}
use Rattle.mesh_text.specs.declared.kind.Kind.{Kind}
use Rattle.mesh_text.specs.declared.kind.Kind.TheVariants.{Nodes, Services, Identities, Addresses}
use Rattle.store_api.specs.History.{in_ranges}
use Rattle.key_paths.specs.declared.fault.KeyFault.{KeyFault}
use Rattle.key_paths.specs.declared.hop.Hop.{Hop}
use Rattle.key_paths.specs.declared.hop.Hop.TheVariants.{State, Cache}
use Rattle.key_paths.specs.declared.key.Key.{Key}
use Rattle.key_paths.specs.declared.key.Key.TheVariants as key
use Rattle.key_paths.specs.Keys.{hop_of, kind_of}
use Rattle.key_paths.specs.Paths.{record_front, record_ranges}
use Rattle.key_paths.specs.Reading.{key_of}
use Rattle.key_paths.specs.Beginnings.{beginning}
use Rattle.key_paths.specs.Mapping.{moved}
use Rattle.key_paths.proofs.CallerLemmas.{is_some-moved, kind_of-range, moved-sound, starts-append}
use Rattle.std.proofs.lemmas.Map.Entries.{lookup_from_place}
use Rattle.std.specs.Prelude.{slice_get}
use Rattle.record_check.specs.Reading.{reading_of}
use Rattle.record_check.specs.declared.fault.Fault.{Fault}
use Rattle.record_check.specs.declared.limit.Limit.{Limit}
use Rattle.relist_merge.specs.Readings.{below_marks, of_record, reading_in, reading_under}
use Rattle.relist_merge.specs.Told.{record_key, told_of, told_under}
use Rattle.relist_merge.specs.Viewed.{AreRead, IsRowRead}
use Rattle.relist_merge.specs.declared.reading.Reading.{Reading}
use Rattle.relist_merge.specs.declared.reading.Reading.TheVariants as reading
use Rattle.relist_merge.specs.declared.rows.Row.{Row}

-- no record's key stands below the marks
no_mark : (hop : Hop) (kind : Kind) (cluster rest : List ℕ) → starts_with nat_eq (record_front hop kind cluster ++ rest) (codes "cilium/synced/") ≡ false
unfolding record_front beginning
no_mark State Nodes cluster rest = refl
no_mark State Services cluster rest = refl
no_mark State Identities cluster rest = refl
no_mark State Addresses cluster rest = refl
no_mark Cache Nodes cluster rest = refl
no_mark Cache Services cluster rest = refl
no_mark Cache Identities cluster rest = refl
no_mark Cache Addresses cluster rest = refl

module _ (hop : Hop) (kind : Kind) (cluster rest value : List ℕ) (limit : Limit) where
  abbrev bytes : List ℕ
  bytes = record_front hop kind cluster ++ rest

  of_kind : (k : Key) → key_of bytes ≡ Ok k → (kind_of k ≡ Some kind) × (hop_of k ≡ Some hop)
  of_kind k is = kind_of-range hop kind cluster bytes k (starts-append (record_front hop kind cluster) rest) is

  below : below_marks bytes value ≡ of_record (reading_of bytes value)
  below = ap (λ (b : Bool). cond b reading.Other (of_record (reading_of bytes value))) (no_mark hop kind cluster rest)

  by_key : (r : Result Key KeyFault) → key_of bytes ≡ r → reading_under r limit bytes value ≡ of_record (reading_of bytes value)
  by_key (Ok (key.Config c)) is = let never = (of_kind (key.Config c) is).0 in cc
  by_key (Ok (key.Synced c h k)) is = let never = (of_kind (key.Synced c h k) is).0 in cc
  by_key (Ok (key.Cut c)) is = let never = (of_kind (key.Cut c) is).0 in cc
  by_key (Ok (key.Node h c n)) is = below
  by_key (Ok (key.Service h c s n)) is = below
  by_key (Ok (key.Identity c n)) is = below
  by_key (Ok (key.Address c i)) is = below
  by_key (Err fault) is = below

  read_under : reading_in limit bytes value ≡ of_record (reading_of bytes value)
  unfolding reading_in
  read_under = by_key (key_of bytes) refl

other : Hop → Hop
other State = Cache
other Cache = State

-- a record's pair is read as such
pub record-reading : (hop : Hop) (cluster k value : List ℕ) (limit : Limit) → in_ranges (record_ranges cluster hop) k ≡ true → reading_in limit k value ≡ of_record (reading_of k value)
record-reading hop cluster k value limit is = by_image (moved hop (other hop) cluster k) refl (is_some-moved hop (other hop) cluster k ∙ is)
  where
    by_image : (image : Option (List ℕ)) → moved hop (other hop) cluster k ≡ image → is_some image ≡ true → reading_in limit k value ≡ of_record (reading_of k value)
    by_image None found some = cc
    by_image (Some image) found some =
        let (kind, rest, is_bytes, is_image) = moved-sound hop (other hop) cluster k image found in
        subst (λ (b : List ℕ). reading_in limit b value ≡ of_record (reading_of b value)) (sym is_bytes) (read_under hop kind cluster rest value limit)

-- a key that has a record's key in the exporter's store is a record's
pub record_key-in : (hop : Hop) (cluster k named : List ℕ) → record_key hop cluster k ≡ Some named → in_ranges (record_ranges cluster hop) k ≡ true
record_key-in State cluster k named is = by_range (in_ranges (record_ranges cluster State) k) is
  where
    by_range : (b : Bool) → cond b (Some k) None ≡ Some named → b ≡ true
    by_range true e = refl
    by_range false e = cc
record_key-in Cache cluster k named is = sym (is_some-moved Cache State cluster k) ∙ ap is_some is

-- what a reading says of a record, it says of no other
pub same_said : (a b : Result (Key × Record) Fault) → of_record a ≡ of_record b → a ≡ b
same_said (Ok (k, v)) (Ok (l, w)) is = cc
same_said (Ok (k, v)) (Err why) is = cc
same_said (Err why) (Ok (k, v)) is = cc
same_said (Err why) (Err other) is = cc

by_places : {X : Type 0} (P : X → Type 0) (xs : List X) → ((i : ℕ) (x : X) → slice_get xs i ≡ Some x → P x) → AllByRecursion P xs
by_places P [] h = tt
by_places P (x ∷ xs) h = (h 0 x refl, by_places P xs (λ i y is. h (suc i) y is))

-- each row's reading is what its pair says
pub rows_read : (limit : Limit) (rows : List (List ℕ × Row)) → IsDistinct (pointwise nat_eq) (keys_of rows) → AreRead limit rows → AllByRecursion (IsRowRead limit) rows
rows_read limit rows distinct read = by_places (IsRowRead limit) rows (λ i e is. read e.0 e.1 (lookup_from_place nat_list_eq_equiv rows i e.0 e.1 distinct is))

-- what is told of a record's pair, by what was read of it
pub told_said : (hop : Hop) (cluster k value named : List ℕ) (limit : Limit) (r : Reading) (said : Result (Key × Record) Fault) → record_key hop cluster k ≡ Some named → r ≡ reading_in limit k value → of_record said ≡ r
    → told_of hop cluster (k, value) ≡ record { key = named; reading = said } ∷ []
told_said hop cluster k value named limit r said found read is =
    let same : said ≡ reading_of k value = same_said said (reading_of k value) (is ∙ read ∙ record-reading hop cluster k value limit (record_key-in hop cluster k named found)) in
    ap (λ (o : Option (List ℕ)). told_under o (reading_of k value)) found ∙ ap (λ (q : Result (Key × Record) Fault). told_under (Some named) q) (sym same)
