-- Record sets that were told of what was sighted.
use Rattle.std.proofs.Common.{◌≡◌, ℕ, List, [], ◌∷◌, ◌++◌, ◌&&◌, map, filter, Bool, true, false, cond, T, Option, None, Some, option_map, refl, ap, sym, ◌∙◌, subst, inl, Result, slice_get}
use Rattle.std.proofs.lemmas.Map.Lookups.{exact_bytes}
use Rattle.std.specs.declared.cmp.Ordering.{Ordering}
use Rattle.std.specs.declared.cmp.Ordering.TheVariants.{Less, Equal, Greater}
use Rattle.std.specs.Ordering.{nat_cmp, eq_by_cmp, is_eq, is_lt}
use Rattle.std.specs.Cmp.{eq_by_cmp_equiv}
use Rattle.std.specs.Cmp.Lexicographic.{slice_cmp, nat_list_cmp_total}
use Rattle.std.specs.FinMap as finite
use Rattle.std.specs.FinMap.{entries, entries_sorted, get-entries, get-from_entries, nat_cmp-IsAntisymmetric, slice_cmp-IsAntisymmetric}
use Rattle.std.specs.FinMap.Entries.{below_all, find, find-where_key, is_sorted, is_sorted-where_key, same_entries}
use Rattle.std.specs.List.{AllByRecursion, IsDistinct, flat_map}
use Rattle.std.specs.Map.{keys_of}
use Rattle.std.specs.Option.{ForSome}
use Rattle.mesh_base.specs.Order.{same_bytes}
use Rattle.key_paths.specs.declared.hop.Hop.TheVariants.{State}
use Rattle.key_paths.specs.Paths.{config_key}
use Rattle.record_check.specs.Configs.{checked_config}
use Rattle.record_check.specs.Reading.{reading_of}
use Rattle.record_values.specs.Values.{Config}
use Rattle.record_check.specs.declared.fault.Fault.{Fault}
use Rattle.record_check.specs.declared.limit.Limit.{Limit}
use Rattle.record_check.specs.declared.limit.Limit.TheVariants.{Small}
use Rattle.relist_merge.specs.Deliveries.{listed}
use Rattle.relist_merge.specs.Sight.{viewed}
use Rattle.relist_merge.specs.Told.{told_of, told_under}
use Rattle.relist_merge.specs.View.{IsListOf, values}
use Rattle.relist_merge.specs.Viewed as viewed
use Rattle.relist_merge.specs.declared.telling.ReadRecord.{ReadRecord}
use Rattle.shared_tables.specs.RecordSets.{ConfigSaid, Reading, RecordSet, is_record_key, pair_read}
use Rattle.shared_tables.specs.Told.{IsConfig, IsRow, SourceTold, Told, nothing_told, readings, with_config}
use Rattle.store_api.specs.History.{Pairing}
use Rattle.store_api.specs.Sets.{seen_set}
use Rattle.mesh_remote.specs.Shown.{IsViewOf}
use Rattle.scenario_replay.specs.Rows.{AreFirst, IsToldOf, TellsSource, entry_of, row_of, with_records}
use Rattle.mesh_world.specs.Sources.{state_of}
use Rattle.relist_merge.specs.declared.view.View.{View}
use Rattle.scenario_replay.proofs.SightedPairs.{get-seen_set}
use Rattle.scenario_replay.proofs.SourcesTold.{changed-twice}

abbrev Pairs : Type 0
Pairs = List (List ℕ × List ℕ)

abbrev order : List ℕ → List ℕ → Ordering
order = slice_cmp nat_cmp

equal_of : (o : Ordering) → is_eq o ≡ true → o ≡ Equal
equal_of Less is = cc
equal_of Equal is = refl
equal_of Greater is = cc

same_key : (q k : List ℕ) → eq_by_cmp order q k ≡ true → q ≡ k
same_key q k is = exact_bytes q k (equal_of (order q k) is)

-- the pairs of a list at a key
find-listed : (q : List ℕ) (pairs : Pairs) → find order q pairs ≡ listed pairs q
find-listed q [] = refl
find-listed q (p ∷ pairs) =
    ap (cond (eq_by_cmp order q p.0) (Some p.1)) (find-listed q pairs)
    ∙ ap (λ (b : Bool). cond b (Some p.1) (listed pairs q)) ((eq_by_cmp_equiv nat_list_cmp_total).symm q p.0)

-- pairs that are read
find-read : (q : List ℕ) (pairs : Pairs) → find order q (map pair_read pairs) ≡ option_map (reading_of q) (find order q pairs)
find-read q [] = refl
find-read q (p ∷ pairs) =
    elim (eq_by_cmp order q p.0) as (λ (t : Bool). eq_by_cmp order q p.0 ≡ t → cond t (Some (reading_of p.0 p.1)) (find order q (map pair_read pairs)) ≡ option_map (reading_of q) (cond t (Some p.1) (find order q pairs))) [
      | true ↦ λ is. ap (λ (k : List ℕ). Some (reading_of k p.1)) (sym (same_key q p.0 is))
      | false ↦ λ is. find-read q pairs
    ] refl

below-read : (k : List ℕ) (pairs : Pairs) → below_all order k (map pair_read pairs) ≡ below_all order k pairs
below-read k [] = refl
below-read k (p ∷ pairs) = ap (λ (b : Bool). is_lt (order k p.0) && b) (below-read k pairs)

sorted-read : (pairs : Pairs) → is_sorted order (map pair_read pairs) ≡ is_sorted order pairs
sorted-read [] = refl
sorted-read (p ∷ pairs) =
    ap (λ (b : Bool). b && is_sorted order (map pair_read pairs)) (below-read p.0 pairs)
    ∙ ap (λ (b : Bool). below_all order p.0 pairs && b) (sorted-read pairs)

-- the pairs of records, as they are told
module _ (name : List ℕ) where
  abbrev is_of : List ℕ × List ℕ → Bool
  is_of pair = is_record_key name pair.0

  told_pairs : (pairs : Pairs) → map entry_of (flat_map (told_of State name) pairs) ≡ map pair_read (filter is_of pairs)
  told_pairs [] = refl
  told_pairs (p ∷ pairs) =
      elim (is_record_key name p.0) as (λ (b : Bool). map entry_of (told_under (cond b (Some p.0) None) (reading_of p.0 p.1) ++ flat_map (told_of State name) pairs) ≡ map pair_read (cond b (p ∷ filter is_of pairs) (filter is_of pairs))) [
        | true ↦ ap (λ (es : List (List ℕ × Reading)). (p.0, reading_of p.0 p.1) ∷ es) (told_pairs pairs)
        | false ↦ told_pairs pairs
      ]

  find-of : (q : List ℕ) (pairs : Pairs) → find order q (map pair_read (filter is_of pairs)) ≡ option_map (reading_of q) (cond (is_record_key name q) (find order q pairs) None)
  find-of q pairs =
      find-read q (filter is_of pairs)
      ∙ ap (option_map (reading_of q)) (find-where_key order (is_record_key name) q (λ x tie. ap (is_record_key name) (sym (exact_bytes q x tie))) pairs)

  -- the records of a list of pairs are, in order, those of the finite map of the pairs
  pub entries_told : (pairs : Pairs) (m : Pairing) → ((q : List ℕ) → listed pairs q ≡ finite.get m q) → entries (readings (map entry_of (flat_map (told_of State name) pairs))) ≡ map pair_read (filter is_of (entries m))
  entries_told pairs m same =
      same_entries order nat_list_cmp_total (slice_cmp-IsAntisymmetric nat_cmp-IsAntisymmetric)
      (entries (readings (map entry_of (flat_map (told_of State name) pairs)))) (map pair_read (filter is_of (entries m)))
      (entries_sorted (readings (map entry_of (flat_map (told_of State name) pairs))))
      (subst T (sym (sorted-read (filter is_of (entries m)))) (is_sorted-where_key order (is_record_key name) (entries m) (entries_sorted m)))
      (λ q.
      sym (get-entries (readings (map entry_of (flat_map (told_of State name) pairs))) q)
      ∙ get-from_entries nat_list_cmp_total (map entry_of (flat_map (told_of State name) pairs)) q
      ∙ ap (find order q) (told_pairs pairs)
      ∙ find-of q pairs
      ∙ ap (λ (o : Option (List ℕ)). option_map (reading_of q) (cond (is_record_key name q) o None)) (find-listed q pairs ∙ same q ∙ get-entries m q)
      ∙ sym (find-of q (entries m)))

  -- ---- they are rows of the source, each key once
  pub rows_told : (pairs : Pairs) → AllByRecursion (λ (r : ReadRecord). IsRow name (row_of r)) (flat_map (told_of State name) pairs)
  rows_told [] = tt
  rows_told (p ∷ pairs) =
      elim (is_record_key name p.0) as (λ (b : Bool). is_record_key name p.0 ≡ b → AllByRecursion (λ (r : ReadRecord). IsRow name (row_of r)) (told_under (cond b (Some p.0) None) (reading_of p.0 p.1) ++ flat_map (told_of State name) pairs)) [
        | true ↦ λ is. (record { key = is; value = p.1; reading = inl refl }, rows_told pairs)
        | false ↦ λ is. rows_told pairs
      ] refl

  apart_from : (k : List ℕ) (pairs : Pairs) → AllByRecursion (λ (y : List ℕ). same_bytes k y ≡ false) (keys_of pairs) → AllByRecursion (λ (y : List ℕ). same_bytes k y ≡ false) (map (λ (r : ReadRecord). r.key) (flat_map (told_of State name) pairs))
  apart_from k [] apart = tt
  apart_from k (p ∷ pairs) apart =
      elim (is_record_key name p.0) as (λ (b : Bool). AllByRecursion (λ (y : List ℕ). same_bytes k y ≡ false) (map (λ (r : ReadRecord). r.key) (told_under (cond b (Some p.0) None) (reading_of p.0 p.1) ++ flat_map (told_of State name) pairs))) [
        | true ↦ (apart.0, apart_from k pairs apart.1)
        | false ↦ apart_from k pairs apart.1
      ]

  pub apart_told : (pairs : Pairs) → IsDistinct same_bytes (keys_of pairs) → IsDistinct same_bytes (map (λ (r : ReadRecord). r.key) (flat_map (told_of State name) pairs))
  unfolding IsDistinct
  apart_told [] apart = tt
  apart_told (p ∷ pairs) apart =
      elim (is_record_key name p.0) as (λ (b : Bool). IsDistinct same_bytes (map (λ (r : ReadRecord). r.key) (told_under (cond b (Some p.0) None) (reading_of p.0 p.1) ++ flat_map (told_of State name) pairs))) [
        | true ↦ (apart_from p.0 pairs apart.0, apart_told pairs apart.1)
        | false ↦ apart_told pairs apart.1
      ]

-- ---- the source of a view's cluster
abbrev told_by : List ℕ → Pairs → ConfigSaid → SourceTold
told_by name pairs config = record { name = name; config = config; rows = readings (map entry_of (flat_map (told_of State name) pairs)) }

same_set : (name name' : List ℕ) (config config' : ConfigSaid) (pairs pairs' : List (List ℕ × Reading)) → name ≡ name' → config ≡ config' → pairs ≡ pairs'
    → ◌≡◌ {A = RecordSet} (record { name = name; config = config; pairs = pairs }) (record { name = name'; config = config'; pairs = pairs' })
same_set name name' config config' pairs pairs' n c p = λ i. record { name = n i; config = c i; pairs = p i }

-- a source with the config and the records of the view has the record set that was sighted
pub told_sighted : (name : List ℕ) (v : View) (pairs : Pairs) (config : ConfigSaid) → IsViewOf name v → IsListOf pairs (values (viewed v).shown.entries)
    → config ≡ option_map (checked_config Small) (values (viewed v).shown.entries (config_key name)) → IsToldOf v (told_by name pairs config)
told_sighted own v pairs config is_own is said name history reader is_view sights =
    let named : own ≡ name = ap (λ (s : viewed.Source). s.cluster) (sym is_own ∙ is_view) in
    let set : Pairing = seen_set (state_of name) history reader.spans in
    let sighted : (q : List ℕ) → finite.get set q ≡ values (viewed v).shown.entries q = λ q. get-seen_set (state_of name) history _ reader.spans q sights.within ∙ sym (sights.entries q) in
    same_set own name config _ _ _ named
    (said ∙ ap (λ (k : List ℕ). option_map (checked_config Small) (values (viewed v).shown.entries (config_key k))) named ∙ ap (option_map (checked_config Small)) (sym (sighted (config_key name))))
    (ap (λ (k : List ℕ). entries (readings (map entry_of (flat_map (told_of State k) pairs)))) named ∙ entries_told name pairs set (λ q. is.values q ∙ sym (sighted q)))

-- ---- the source is told nothing before
-- the records of the view are told first
pub first_of_nothing : (name : List ℕ) (pairs : Pairs) (records : List ReadRecord) → IsDistinct same_bytes (keys_of pairs) → records ≡ flat_map (told_of State name) pairs → (s : SourceTold) → s ≡ nothing_told name → AreFirst s records
first_of_nothing name pairs records apart is s nothing =
    subst (λ (l : List ReadRecord). AreFirst s l) (sym is) (subst (λ (q : SourceTold). AreFirst q (flat_map (told_of State name) pairs)) (sym nothing)
    (record { none = refl; rows = rows_told name pairs; apart = apart_told name pairs apart }))

-- a config that was read is what some value says
pub config_read : (limit limit' : Limit) (config : ConfigSaid) (value : Option (List ℕ)) → limit ≡ limit' → config ≡ option_map (checked_config limit) value → IsConfig limit' config
config_read limit limit' config None same is = λ said some. cc
config_read limit limit' config (Some value) same is = λ said some. (value, said_is (checked_config limit value) said (sym is ∙ some) ∙ ap (λ (l : Limit). checked_config l value) same)
  where
    said_is : (x y : Result Config Fault) → ◌≡◌ {A = ConfigSaid} (Some x) (Some y) → y ≡ x
    said_is x y e = cc

-- and the source is told so
pub tells_source : (place : ℕ) (v : View) (old new : Told) (pairs : Pairs) (config : ConfigSaid) (records : List ReadRecord) → ForSome (slice_get old.sources place) (λ s. s ≡ nothing_told (viewed v).source.cluster) → IsViewOf (viewed v).source.cluster v
    → IsListOf pairs (values (viewed v).shown.entries)
    → records ≡ flat_map (told_of (viewed v).source.hop (viewed v).source.cluster) pairs
    → config ≡ option_map (checked_config (viewed v).source.limit) (values (viewed v).shown.entries (config_key (viewed v).source.cluster))
    → new ≡ with_config place config (with_records place records old) → TellsSource place v old new
tells_source place v old new pairs config records nothing own is records_are config_is new_is =
    let name = (viewed v).source.cluster in
    let rows_are : records ≡ flat_map (told_of State name) pairs = records_are ∙ ap (λ (s : viewed.Source). flat_map (told_of s.hop s.cluster) pairs) own in
    let said : config ≡ option_map (checked_config Small) (values (viewed v).shown.entries (config_key name)) =
    config_is ∙ ap (λ (s : viewed.Source). option_map (checked_config s.limit) (values (viewed v).shown.entries (config_key s.cluster))) own in
    record {
      source = told_by name pairs config;
      named = refl;
      is = told_sighted name v pairs config own is said;
      told = new_is ∙ ap (λ (sources : List SourceTold). record old { sources = sources })
          (changed-twice (λ (s : SourceTold). record s { rows = readings (map entry_of records) }) (λ (s : SourceTold). record s { config = config }) (λ (s : SourceTold). told_by name pairs config) place old.sources
          (λ s e. ap (λ (q : SourceTold). record q { config = config; rows = readings (map entry_of records) }) (nothing s e) ∙ ap (λ (l : List ReadRecord). record { name = name; config = config; rows = readings (map entry_of l) }) rows_are));
    }

-- the records of the view are told first
pub first_of_view : (place : ℕ) (v : View) (old : Told) (pairs : Pairs) (records : List ReadRecord) → ForSome (slice_get old.sources place) (λ s. s ≡ nothing_told (viewed v).source.cluster) → IsViewOf (viewed v).source.cluster v
    → IsListOf pairs (values (viewed v).shown.entries)
    → records ≡ flat_map (told_of (viewed v).source.hop (viewed v).source.cluster) pairs → ForSome (slice_get old.sources place) (λ s. AreFirst s records)
first_of_view place v old pairs records nothing own is records_are = λ s e.
    first_of_nothing (viewed v).source.cluster pairs records is.distinct (records_are ∙ ap (λ (s : viewed.Source). flat_map (told_of s.hop s.cluster) pairs) own) s (nothing s e)
