-- What is known of the tables stays known over what they are told.
use Rattle.std.proofs.Common.{◌≡◌, ℕ, zero, suc, ◌+◌, ◌<◌, ◌≤◌, List, [], ◌∷◌, ◌++◌, map, length, Bool, true, false, ◌&&◌, ◌||◌, ◌==◌, nat_eq, cond, Option, None, Some, slice_get, slice_index, codes, refl, ap, sym, ◌∙◌, subst, arith}
use Rattle.std.proofs.lemmas.List.{length-map}
use Rattle.std.proofs.lemmas.List.Folds.{list_any-append}
use Rattle.std.specs.List.{IsDistinct}
use Rattle.std.specs.Option.{ForSome}
use Rattle.std.specs.Ordering.{nat_cmp, eq_by_cmp}
use Rattle.std.specs.Cmp.{eq_by_cmp_equiv}
use Rattle.std.specs.Cmp.Lexicographic.{nat_list_cmp_total, pointwise, slice_cmp, texts_ties}
use Rattle.std.specs.FinMap.{get, get-empty, get-insert}
use Rattle.mesh_base.specs.Order.{same_bytes}
use Rattle.record_check.specs.declared.limit.Limit.TheVariants.{Small}
use Rattle.shared_tables.specs.RecordSets.{ConfigSaid}
use Rattle.shared_tables.specs.Told.{IsChange, IsRow, SourceTold, Told, changed_at, nothing_told, rooms, source_told, told, with_change, with_config, with_nothing}
use Rattle.shared_tables.specs.declared.change.RecordChange.{RecordChange}
use Rattle.shared_tables.specs.declared.change.Row.{Row}
use Rattle.shared_tables.specs.declared.source.Source.{Source}
use Rattle.shared_tables.specs.declared.tables.Tables.{Tables}
use Rattle.table_tests.specs.Mesh.{IsRowAt, Knows, is_told, names}

-- the row of a key that was not told before
abbrev pub first_told : ℕ → Row → RecordChange
first_told place row = record { source = place; old = None; new = Some row }

some_is : {X : Type 0} (x y : X) → ◌≡◌ {A = Option X} (Some x) (Some y) → y ≡ x
some_is x y e = cc

-- ---- a change at a place
module _ {X : Type 0} (f : X → X) where
  -- what it keeps of each, it keeps of all
  map-changed : {Y : Type 0} (g : X → Y) → ((x : X) → g (f x) ≡ g x) → (place : ℕ) (xs : List X) → map g (changed_at f place xs) ≡ map g xs
  map-changed g same place [] = refl
  map-changed g same zero (x ∷ xs) = ap (λ y. y ∷ map g xs) (same x)
  map-changed g same (suc place) (x ∷ xs) = ap (λ ys. g x ∷ ys) (map-changed g same place xs)

  -- what holds at a place, and of what is changed to
  changed-keeps : (P : X → Type 0) (place q : ℕ) (xs : List X) → ForSome (slice_get xs q) P → (place ≡ q → (x : X) → P x → P (f x)) → ForSome (slice_get (changed_at f place xs) q) P
  changed-keeps P place q [] there so = λ x e. cc
  changed-keeps P zero zero (y ∷ ys) there so = λ x e. subst P (sym (some_is (f y) x e)) (so refl y (there y refl))
  changed-keeps P zero (suc q) (y ∷ ys) there so = there
  changed-keeps P (suc place) zero (y ∷ ys) there so = there
  changed-keeps P (suc place) (suc q) (y ∷ ys) there so = changed-keeps P place q ys there (λ e. so (ap suc e))

place_within : {X : Type 0} (xs : List X) (place : ℕ) (x : X) → slice_get xs place ≡ Some x → place < length xs
place_within [] place x there = cc
place_within (y ∷ ys) zero x there = omega arith
place_within (y ∷ ys) (suc place) x there = omega (arith, place_within ys place x there)

name_at : (sources : List SourceTold) (place : ℕ) (name : List ℕ) → slice_get (map (λ (s : SourceTold). s.name) sources) place ≡ Some name → ForSome (slice_get sources place) (λ s. s.name ≡ name)
name_at [] place name named = λ s there. cc
name_at (s ∷ sources) zero name named = λ t there. ap (λ (q : SourceTold). q.name) (some_is s t there) ∙ sym (some_is s.name name named)
name_at (s ∷ sources) (suc place) name named = name_at sources place name named

-- ---- nothing was told
empty_at : (ns : List (List ℕ)) (place : ℕ) (key : List ℕ) → ForSome (slice_get (map nothing_told ns) place) (λ s. get s.rows key ≡ None)
empty_at [] place key = λ s there. cc
empty_at (n ∷ ns) zero key = λ s there. ap (λ (q : SourceTold). get q.rows key) (some_is (nothing_told n) s there) ∙ get-empty (slice_cmp nat_cmp) key
empty_at (n ∷ ns) (suc place) key = empty_at ns place key

-- no two of the names are the same
pub apart : (home : List ℕ) (sources : List (List ℕ)) → home ≡ codes "home" → sources ≡ names → IsDistinct same_bytes (home ∷ sources)
unfolding IsDistinct
apart home sources local named =
    subst (λ (n : List ℕ). IsDistinct same_bytes (n ∷ sources)) (sym local)
    (subst (λ (ns : List (List ℕ)). IsDistinct same_bytes (codes "home" ∷ ns)) (sym named) ((refl, (refl, tt)), ((refl, tt), (tt, tt))))

pub knows-nothing : (t : Told) (ns : List (List ℕ)) → ns ≡ names → t.limit ≡ Small → t.sources ≡ map nothing_told ns → Knows [] t
knows-nothing t ns are limit sources = record {
  limit = limit;
  named = ap (map (λ (s : SourceTold). s.name)) (sources ∙ ap (map nothing_told) are);
  others = λ place key new. subst (λ (ss : List SourceTold). ForSome (slice_get ss place) (λ s. get s.rows key ≡ None)) (sym sources) (empty_at ns place key);
}

-- ---- one more thing is told
or_left : (a b : Bool) → (a || b) ≡ false → a ≡ false
or_left true b e = e
or_left false b e = refl

or_right : (a b : Bool) → (a || b) ≡ false → b ≡ false
or_right true b e = cc
or_right false b e = e

and_true : (a b : Bool) → a ≡ true → (a && b) ≡ false → b ≡ false
and_true true b is e = e
and_true false b is e = cc

other_key : (key told : List ℕ) → pointwise nat_eq told key ≡ false → eq_by_cmp (slice_cmp nat_cmp) key told ≡ false
other_key key told new = (eq_by_cmp_equiv nat_list_cmp_total).symm key told ∙ sym (texts_ties told key) ∙ new

same_place : (p q : ℕ) → p ≡ q → (p == q) ≡ true
same_place p q e = grind arith

module _ (keys : List (ℕ × List ℕ)) (t : Told) (known : Knows keys t) where
  -- each place is one of the tables
  pub place_known : (place : ℕ) → place < 2 → place < length t.sources
  place_known place lt = omega (arith, lt, ap length known.named, length-map t.sources (λ (s : SourceTold). s.name))

  pub row_known : (place : ℕ) (row : Row) → IsRowAt place row → place < length t.sources
  row_known place row at = place_known place (place_within names place at.name at.named)

  -- a row of a key that was not told is a change
  pub row_is_change : (place : ℕ) (row : Row) → IsRowAt place row → is_told place row.key keys ≡ false → ForSome (slice_get t.sources place) (λ s. IsChange s (first_told place row))
  row_is_change place row at new = λ s found. record {
    key = row.key;
    old = λ r none. cc;
    new = λ r some. subst (λ (q : Row). (q.key ≡ row.key) × IsRow s.name q) (sym (some_is row r some))
        (refl, subst (λ (n : List ℕ). IsRow n row) (sym (name_at t.sources place at.name (ap (λ (ns : List (List ℕ)). slice_get ns place) known.named ∙ at.named) s found)) at.is);
    held = known.others place row.key new s found;
  }

  others-row : (place : ℕ) (row : Row) (q : ℕ) (key : List ℕ) → is_told q key (keys ++ (place, row.key) ∷ []) ≡ false
      → ForSome (slice_get (with_change (first_told place row) t).sources q) (λ s. get s.rows key ≡ None)
  others-row place row q key new =
      let both = sym (list_any-append (λ (told : ℕ × List ℕ). told.0 == q && pointwise nat_eq told.1 key) keys ((place, row.key) ∷ [])) ∙ new in
      let last = or_left (place == q && pointwise nat_eq row.key key) false (or_right (is_told q key keys) _ both) in
      changed-keeps _ (λ (s : SourceTold). get s.rows key ≡ None) place q t.sources (known.others q key (or_left _ _ both))
      (λ same s none. get-insert nat_list_cmp_total s.rows row.key row.reading key
      ∙ ap (λ (b : Bool). cond b (Some row.reading) (get s.rows key)) (other_key key row.key (and_true (place == q) _ (same_place place q same) last)) ∙ none)

  -- what is known when the row was told, and its key is among the told ones
  pub knows-row : (place : ℕ) (row : Row) (key : List ℕ) → key ≡ row.key → (more : List (ℕ × List ℕ)) → more ≡ keys ++ (place, key) ∷ [] → (new : Told) → new ≡ with_change (first_told place row) t → Knows more new
  knows-row place row key same more more_is new new_is =
      subst (λ (ks : List (ℕ × List ℕ)). Knows ks new) (sym (more_is ∙ ap (λ (k : List ℕ). keys ++ (place, k) ∷ []) same))
      (subst (Knows (keys ++ (place, row.key) ∷ [])) (sym new_is) (record {
        limit = known.limit;
        named = map-changed _ (λ (s : SourceTold). s.name) (λ s. refl) place t.sources ∙ known.named;
        others = others-row place row;
      }))

  pub knows-config : (place : ℕ) (config : ConfigSaid) (new : Told) → new ≡ with_config place config t → Knows keys new
  knows-config place config new new_is = subst (Knows keys) (sym new_is) (record {
    limit = known.limit;
    named = map-changed _ (λ (s : SourceTold). s.name) (λ s. refl) place t.sources ∙ known.named;
    others = λ q key untold. changed-keeps _ (λ (s : SourceTold). get s.rows key ≡ None) place q t.sources (known.others q key untold) (λ same s none. none);
  })

  pub knows-forgotten : (place : ℕ) (new : Told) → new ≡ with_nothing place t → Knows keys new
  knows-forgotten place new new_is = subst (Knows keys) (sym new_is) (record {
    limit = known.limit;
    named = map-changed _ (λ (s : SourceTold). s.name) (λ s. refl) place t.sources ∙ known.named;
    others = λ q key untold. changed-keeps _ (λ (s : SourceTold). get s.rows key ≡ None) place q t.sources (known.others q key untold) (λ same s none. get-empty (slice_cmp nat_cmp) key);
  })

-- ---- room
as_many_rooms : (t : Tables) → length (rooms t) ≡ length (told t).sources
as_many_rooms t = length-map t.sources.items (λ (s : Source). s.room) ∙ sym (length-map t.sources.items source_told)

room_at : (n place : ℕ) (rooms : List ℕ) → place < length rooms → n ≤ slice_index (changed_at (λ (room : ℕ). room + n) place rooms) place
room_at n place [] lt = absurd (omega (arith, lt))
room_at n zero (room ∷ rooms) lt = omega arith
room_at n (suc place) (room ∷ rooms) lt = room_at n place rooms (omega (arith, lt))

-- where room was made there is room
pub room_made : (n place : ℕ) (t : Tables) → place < length (told t).sources → n ≤ slice_index (changed_at (λ (room : ℕ). room + n) place (rooms t)) place
room_made n place t lt = room_at n place (rooms t) (omega (arith, lt, as_many_rooms t))
