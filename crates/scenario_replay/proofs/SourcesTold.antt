-- The sources of tables, as they are told one after another.
use Rattle.std.proofs.Common.{◌≡◌, ℕ, zero, suc, ◌+◌, ◌<◌, ◌≤◌, List, [], ◌∷◌, ◌++◌, map, length, get_or, Bool, false, cond, Option, None, Some, slice_get, slice_index, append-nil, append_assoc, refl, ap, sym, ◌∙◌, subst, arith}
use Rattle.std.proofs.lemmas.List.{length-map, map-append}
use Rattle.std.specs.Option.{ForSome}
use Rattle.std.specs.Ordering.{nat_cmp, eq_by_cmp}
use Rattle.std.specs.Cmp.{eq_by_cmp_equiv}
use Rattle.std.specs.Cmp.Lexicographic.{slice_cmp, nat_list_cmp_total}
use Rattle.std.specs.FinMap.{from_entries_push, get-from_entries, nat_cmp-IsAntisymmetric, slice_cmp-IsAntisymmetric}
use Rattle.std.specs.FinMap.Entries.{find}
use Rattle.std.specs.List.{AllByRecursion, IsDistinct}
use Rattle.mesh_base.specs.Order.{same_bytes}
use Rattle.key_paths.specs.declared.hop.Hop.TheVariants.{State}
use Rattle.record_check.specs.declared.limit.Limit.TheVariants.{Small}
use Rattle.exporter.specs.State.{Export}
use Rattle.relist_merge.specs.Viewed as viewed
use Rattle.relist_merge.specs.declared.telling.ReadRecord.{ReadRecord}
use Rattle.shared_tables.specs.Told.{IsChange, IsRow, Readings, SourceTold, Told, changed_at, readings, rooms, source_told, told, with_change}
use Rattle.shared_tables.specs.declared.change.Row.{Row}
use Rattle.shared_tables.specs.declared.source.Source.{Source}
use Rattle.shared_tables.specs.declared.tables.Tables.{Tables}
use Rattle.store_api.specs.Contents.{Contents}
use Rattle.mesh_remote.specs.Shown.{IsOwnView}
use Rattle.scenario_replay.specs.Rows.{AreFirst, IsFirst, entry_of, first_told, row_of, with_records}
use Rattle.scenario_replay.specs.Shown.{AreShown}
use Rattle.mesh_world.specs.World as world
use Rattle.mesh_remote.specs.declared.remote.Remote.{Remote}

-- ---- a change at a place
module _ {X : Type 0} where
  pub length-changed : (f : X → X) (place : ℕ) (xs : List X) → length (changed_at f place xs) ≡ length xs
  length-changed f place [] = refl
  length-changed f zero (x ∷ xs) = refl
  length-changed f (suc place) (x ∷ xs) = ap suc (length-changed f place xs)

  -- what is changed to itself
  changed-same : (f : X → X) (place : ℕ) (xs : List X) → ForSome (slice_get xs place) (λ x. f x ≡ x) → changed_at f place xs ≡ xs
  changed-same f place [] same = refl
  changed-same f zero (x ∷ xs) same = ap (λ (y : X). y ∷ xs) (same x refl)
  changed-same f (suc place) (x ∷ xs) same = ap (λ (ys : List X). x ∷ ys) (changed-same f place xs same)

  pub changed-twice : (f g h : X → X) (place : ℕ) (xs : List X) → ForSome (slice_get xs place) (λ x. g (f x) ≡ h x) → changed_at g place (changed_at f place xs) ≡ changed_at h place xs
  changed-twice f g h place [] same = refl
  changed-twice f g h zero (x ∷ xs) same = ap (λ (y : X). y ∷ xs) (same x refl)
  changed-twice f g h (suc place) (x ∷ xs) same = ap (λ (ys : List X). x ∷ ys) (changed-twice f g h place xs same)

  pub one_of : (x y : X) → ◌≡◌ {A = Option X} (Some x) (Some y) → y ≡ x
  one_of x y e = cc

  -- what is at the place then
  pub changed-there : (f : X → X) (place : ℕ) (xs : List X) (P Q : X → Type 0) → ForSome (slice_get xs place) P → ((x : X) → P x → Q (f x)) → ForSome (slice_get (changed_at f place xs) place) Q
  changed-there f place [] P Q there so = λ x e. cc
  changed-there f zero (y ∷ xs) P Q there so = λ x e. subst Q (sym (one_of (f y) x e)) (so y (there y refl))
  changed-there f (suc place) (y ∷ xs) P Q there so = changed-there f place xs P Q there so

  -- what is said of it, whatever it is
  pub some_there : {A : Type 0} (place : ℕ) (xs : List X) → place < length xs → ForSome (slice_get xs place) (λ x. A) → A
  some_there place [] lt there = absurd (omega (arith, lt))
  some_there zero (x ∷ xs) lt there = there x refl
  some_there (suc place) (x ∷ xs) lt there = some_there place xs (omega (arith, lt)) there

  no_length : (xs : List X) → length xs ≡ 0 → xs ≡ []
  no_length [] none = refl
  no_length (x ∷ xs) none = absurd (omega (arith, none))

  -- what holds of all holds in the midst
  in_midst : (P : X → Type 0) (done rest : List X) (x : X) → AllByRecursion P (done ++ x ∷ rest) → P x
  in_midst P [] rest x all = all.0
  in_midst P (d ∷ done) rest x all = in_midst P done rest x all.1

-- ---- the records of a source
key_in_midst : (P : List ℕ → Type 0) (done rest : List ReadRecord) (r : ReadRecord) → AllByRecursion P (map (λ (q : ReadRecord). q.key) (done ++ r ∷ rest)) → P r.key
key_in_midst P [] rest r all = all.0
key_in_midst P (d ∷ done) rest r all = key_in_midst P done rest r all.1

not_among : (done rest : List ReadRecord) (r : ReadRecord) → IsDistinct same_bytes (map (λ (q : ReadRecord). q.key) (done ++ r ∷ rest)) → find (slice_cmp nat_cmp) r.key (map entry_of done) ≡ None
unfolding IsDistinct
not_among [] rest r apart = refl
not_among (d ∷ done) rest r apart =
    let other : eq_by_cmp (slice_cmp nat_cmp) r.key d.key ≡ false = (eq_by_cmp_equiv nat_list_cmp_total).symm r.key d.key ∙ key_in_midst (λ (y : List ℕ). same_bytes d.key y ≡ false) done rest r apart.0 in
    ap (λ (b : Bool). cond b (Some d.reading) (find (slice_cmp nat_cmp) r.key (map entry_of done))) other ∙ not_among done rest r apart.1

-- a record that is first told is a change of the source
pub change_first : (sources : List SourceTold) (source : ℕ) (r : ReadRecord) → ForSome (slice_get sources source) (λ s. IsFirst s r) → ForSome (slice_get sources source) (λ s. IsChange s (first_told source r))
change_first sources source r first = λ s e.
    let is = first s e in
    record {
      key = r.key;
      old = λ row none. cc;
      new = λ row some. subst (λ (q : Row). (q.key ≡ r.key) × IsRow s.name q) (sym (one_of (row_of r) row some)) (refl, is.row);
      held = is.absent;
    }

-- the records so far were told, and these follow
pub record ToldSoFar (source : ℕ) (records rest : List ReadRecord) (old now : Told) : Type 0 where
  pub done : List ReadRecord
  pub parts : done ++ rest ≡ records
  pub told : now ≡ with_records source done old

module _ (source : ℕ) (records : List ReadRecord) (t : Told) (first : ForSome (slice_get t.sources source) (λ s. AreFirst s records)) where
  -- none yet
  pub so_far-none : ToldSoFar source records records t t
  so_far-none = record {
    done = [];
    parts = refl;
    told = sym (ap (λ (sources : List SourceTold). record t { sources = sources })
        (changed-same (λ (s : SourceTold). record s { rows = readings (map entry_of []) }) source t.sources (λ s e. ap (λ (rows : Readings). record s { rows = rows }) (sym (first s e).none))));
  }

  module _ (rest : List ReadRecord) (r : ReadRecord) (now : Told) (so_far : ToldSoFar source records (r ∷ rest) t now) where
    -- the next one is told first
    pub so_far-first : ForSome (slice_get now.sources source) (λ s. IsFirst s r)
    so_far-first =
        let done = so_far.done in
        subst (λ (n : Told). ForSome (slice_get n.sources source) (λ s. IsFirst s r)) (sym so_far.told)
        (changed-there (λ (s : SourceTold). record s { rows = readings (map entry_of done) }) source t.sources (λ s. AreFirst s records) (λ s. IsFirst s r) first (λ s are. record {
          absent = get-from_entries nat_list_cmp_total (map entry_of done) r.key ∙ not_among done rest r (subst (λ (l : List ReadRecord). IsDistinct same_bytes (map (λ (q : ReadRecord). q.key) l)) (sym so_far.parts) are.apart);
          row = in_midst (λ (q : ReadRecord). IsRow s.name (row_of q)) done rest r (subst (AllByRecursion (λ (q : ReadRecord). IsRow s.name (row_of q))) (sym so_far.parts) are.rows);
        }))

    pub so_far-length : source < length t.sources → source < length now.sources
    so_far-length lt = subst (λ (n : Told). source < length n.sources) (sym so_far.told) (omega (arith, lt, length-changed (λ (s : SourceTold). record s { rows = readings (map entry_of so_far.done) }) source t.sources))

    -- and then one more is
    pub so_far-more : source < length t.sources → (next : Told) → next ≡ with_change (first_told source r) now → ToldSoFar source records rest t next
    so_far-more lt next is =
        let done = so_far.done in
        let apart = some_there source t.sources lt (λ s e. (first s e).apart) in
        let absent = not_among done rest r (subst (λ (l : List ReadRecord). IsDistinct same_bytes (map (λ (q : ReadRecord). q.key) l)) (sym so_far.parts) apart) in
        record {
          done = done ++ r ∷ [];
          parts = append_assoc done (r ∷ []) rest ∙ so_far.parts;
          told = is ∙ ap (with_change (first_told source r)) so_far.told ∙ ap (λ (sources : List SourceTold). record t { sources = sources })
              (changed-twice _ _ _ source t.sources (λ s e. ap (λ (rows : Readings). record s { rows = rows })
              (sym (from_entries_push nat_list_cmp_total (slice_cmp-IsAntisymmetric nat_cmp-IsAntisymmetric) (map entry_of done) r.key r.reading absent)
              ∙ ap readings (sym (map-append entry_of done (r ∷ []))))));
        }

  -- all are told
  pub so_far-all : (rest : List ReadRecord) (now : Told) → length rest ≡ 0 → ToldSoFar source records rest t now → now ≡ with_records source records t
  so_far-all rest now none so_far =
      so_far.told ∙ ap (λ (l : List ReadRecord). with_records source l t) (sym (append-nil so_far.done) ∙ ap (λ (l : List ReadRecord). so_far.done ++ l) (sym (no_length rest none)) ∙ so_far.parts)

-- there are as many sources then
pub length-records : (source : ℕ) (records : List ReadRecord) (t now : Told) → now ≡ with_records source records t → source < length t.sources → source < length now.sources
length-records source records t now is lt = subst (λ (n : Told). source < length n.sources) (sym is) (omega (arith, lt, length-changed (λ (s : SourceTold). record s { rows = readings (map entry_of records) }) source t.sources))

-- ---- room
pub as_many_rooms : (t : Tables) → length (rooms t) ≡ length (told t).sources
as_many_rooms t = length-map t.sources.items (λ (s : Source). s.room) ∙ sym (length-map t.sources.items source_told)

pub room_made : (n place : ℕ) (rooms : List ℕ) → place < length rooms → n ≤ slice_index (changed_at (λ (room : ℕ). room + n) place rooms) place
room_made n place [] lt = absurd (omega (arith, lt))
room_made n zero (room ∷ rooms) lt = omega arith
room_made n (suc place) (room ∷ rooms) lt = room_made n place rooms (omega (arith, lt))

-- ---- the agent views each in its own store
abbrev source_of : List ℕ → viewed.Source
source_of cluster = record { cluster = cluster; hop = State; limit = Small }

pub own_views : (stores : List Contents) (ws : List world.Remote) (remotes : List Remote) → AreShown stores ws remotes → AllByRecursion IsOwnView remotes
own_views stores ws [] shown = tt
own_views (c ∷ stores) (w ∷ ws) (r ∷ remotes) shown = (shown.0.agent.source ∙ ap (λ (e : Export). source_of e.cluster) (sym shown.0.exporter), own_views stores ws remotes shown.1)
own_views [] [] (r ∷ remotes) shown = absurd shown
own_views [] (w ∷ ws) (r ∷ remotes) shown = absurd shown
own_views (c ∷ stores) [] (r ∷ remotes) shown = absurd shown

pub own_at : (place : ℕ) (remotes : List Remote) (r : Remote) → r ≡ get_or remotes place r → place < length remotes → AllByRecursion IsOwnView remotes → IsOwnView r
own_at zero (q ∷ remotes) r is lt own = subst IsOwnView (sym is) own.0
own_at (suc place) (q ∷ remotes) r is lt own = own_at place remotes r is (omega (arith, lt)) own.1
own_at place [] r is lt own = absurd (omega (arith, lt))
