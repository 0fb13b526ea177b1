-- What the crates above may cite of histories.
use Rattle.std.proofs.Common.{◌≡◌, ℕ, zero, suc, ◌+◌, ◌≤◌, ◌<◌, leb, List, [], ◌∷◌, ◌++◌, map, filter, length, get_or, Option, None, Some, Bool, true, false, cond, ◌&&◌, T, is_some, IsTrue, refl, ap, sym, subst, ◌∙◌, arith}
use Rattle.std.specs.List.{AllByRecursion}
use Rattle.std.specs.List.Sorted.{IsStrictlySortedBy}
use Rattle.std.specs.Ordering.{nat_cmp, is_lt}
use Rattle.std.specs.declared.cmp.Ordering.{Ordering}
use Rattle.std.specs.declared.cmp.Ordering.TheVariants.{Less, Equal, Greater}
use Rattle.std.specs.Cmp.Lexicographic.{slice_cmp, nat_list_cmp_total}
use Rattle.std.specs.Cmp.{eq_by_cmp_equiv}
use Rattle.std.specs.FinMap.{FinMap, keys, entries, entries_sorted, get, get-empty, get-insert, get-remove, retain_keys}
use Rattle.std.specs.FinMap.Entries.{is_sorted, below_all}
use Rattle.mesh_base.specs.Order.{same_bytes}
use Rattle.store_api.specs.Attached.{lease_after, lease_after_all, lease_at}
use Rattle.store_api.specs.Followed.{Part, changed_key, one_part, part_at, parts}
use Rattle.store_api.specs.Given.{IsGiven}
use Rattle.store_api.specs.History.{Begins, History, Pairing, changes_at, in_ranges, live_at, map_at, after_all, changed_map, after_change, after_changes, revision}
use Rattle.store_api.specs.Laws.{AttachedAreLive, GivenLater}
use Rattle.store_api.specs.Spans.{AreSpans, Record, Span, cursor_of}
use Rattle.store_api.specs.declared.change.Change.{Change}
use Rattle.store_api.specs.declared.change.Change.TheVariants as change
use Rattle.store_api.specs.declared.change.Delivery.{Delivery}
use Rattle.store_api.specs.declared.change.Delivery.TheVariants as delivery
use Rattle.store_api.specs.declared.change.Range.{Range}

-- ---- the keys of a finite map rise
less_of : (o : Ordering) → T (is_lt o) → o ≡ Less
less_of Less h = refl
less_of Equal h = absurd h
less_of Greater h = absurd h

both_of : (a b : Bool) → T (a && b) → T a × T b
both_of true b h = (tt, h)
both_of false b h = absurd h

module _ {K X : Type 0} (R : K → K → Ordering) where
  all_below : (k : K) (es : List (K × X)) → T (below_all R k es) → AllByRecursion (λ (q : K). R k q ≡ Less) (map (λ (e : K × X). e.0) es)
  all_below k [] h = tt
  all_below k (e ∷ es) h = let two = both_of (is_lt (R k e.0)) (below_all R k es) h in (less_of (R k e.0) two.0, all_below k es two.1)

  in_order : (es : List (K × X)) → T (is_sorted R es) → IsStrictlySortedBy R (map (λ (e : K × X). e.0) es)
  unfolding IsStrictlySortedBy
  in_order [] h = tt
  in_order (e ∷ es) h = let two = both_of (below_all R e.0 es) (is_sorted R es) h in (all_below e.0 es two.0, in_order es two.1)

  pub keys_rise : (m : FinMap R X) → IsStrictlySortedBy R (keys m)
  keys_rise m = in_order (entries m) (entries_sorted m)

-- ---- what is live
-- what a finite map has at a key after a change, and after changes
pub get-changed : (m : Pairing) (c : Change) (k : List ℕ) → get (changed_map m c) k ≡ after_change k (get m k) c
get-changed m (change.Put key value lease) k = get-insert nat_list_cmp_total m key value k ∙ ap (λ (b : Bool). cond b (Some value) (get m k)) ((eq_by_cmp_equiv nat_list_cmp_total).symm k key)
get-changed m (change.Delete key) k = get-remove nat_list_cmp_total m key k ∙ ap (λ (b : Bool). cond b None (get m k)) ((eq_by_cmp_equiv nat_list_cmp_total).symm k key)

pub get-after_all : (m : Pairing) (changes : List Change) (k : List ℕ) → get (after_all m changes) k ≡ after_changes k (get m k) changes
get-after_all m [] k = refl
get-after_all m (c ∷ changes) k = get-after_all (changed_map m c) changes k ∙ ap (λ (o : Option (List ℕ)). after_changes k o changes) (get-changed m c k)

-- the two readings of what is live
pub get-map_at : (h : History) (r : ℕ) (k : List ℕ) → get (map_at h r) k ≡ live_at h r k
get-map_at h zero k = get-empty (slice_cmp nat_cmp) k
get-map_at h (suc r) k = get-after_all (map_at h r) (changes_at h (suc r)) k ∙ ap (λ (o : Option (List ℕ)). after_changes k o (changes_at h (suc r))) (get-map_at h r k)

-- a lease is named only beside a value
abbrev pub IsBeside : Option ℕ → Option (List ℕ) → Type 0
IsBeside lease value = IsTrue (is_some lease) → IsTrue (is_some value)

beside_one : (k : List ℕ) (lease : Option ℕ) (value : Option (List ℕ)) (c : Change) → IsBeside lease value → IsBeside (lease_after k lease c) (after_change k value c)
beside_one k lease value (change.Put key v l) beside =
    elim (same_bytes key k) as (λ b. IsBeside (cond b l lease) (cond b (Some v) value)) [ true ↦ λ some. refl | false ↦ beside ]
beside_one k lease value (change.Delete key) beside =
    elim (same_bytes key k) as (λ b. IsBeside (cond b None lease) (cond b None value)) [ true ↦ λ some. some | false ↦ beside ]

pub beside_all : (k : List ℕ) (lease : Option ℕ) (value : Option (List ℕ)) (changes : List Change) → IsBeside lease value → IsBeside (lease_after_all k lease changes) (after_changes k value changes)
beside_all k lease value [] beside = beside
beside_all k lease value (c ∷ changes) beside = beside_all k (lease_after k lease c) (after_change k value c) changes (beside_one k lease value c beside)

-- a key is attached to a lease only while it is live
pub attached_live : AttachedAreLive
attached_live h zero k = λ some. some
attached_live h (suc r) k = beside_all k (lease_at h r k) (live_at h r k) (changes_at h (suc r)) (attached_live h r k)

-- ---- a longer history
get_or-front : {X : Type 0} (xs ys : List X) (i : ℕ) (d : X) → i < length xs → get_or (xs ++ ys) i d ≡ get_or xs i d
get_or-front [] ys i d lt = absurd (omega (arith, lt))
get_or-front (x ∷ xs) ys zero d lt = refl
get_or-front (x ∷ xs) ys (suc i) d lt = get_or-front xs ys i d (omega (arith, lt))

pub longer-le : {X : Type 0} (xs ys : List X) → length xs ≤ length (xs ++ ys)
longer-le [] ys = omega arith
longer-le (x ∷ xs) ys = omega (arith, longer-le xs ys)

module _ (h more : History) where
  pub changes-longer : (x : ℕ) → x ≤ length h + 1 → changes_at (h ++ more) x ≡ changes_at h x
  changes-longer zero le = refl
  changes-longer (suc zero) le = refl
  changes-longer (suc (suc i)) le = get_or-front h more i [] (omega (arith, le))

  map-longer : (r : ℕ) → r ≤ length h + 1 → map_at (h ++ more) r ≡ map_at h r
  map-longer zero le = refl
  map-longer (suc r) le =
      ap (λ (cs : List Change). after_all (map_at (h ++ more) r) cs) (changes-longer (suc r) le)
      ∙ ap (λ (m : Pairing). after_all m (changes_at h (suc r))) (map-longer r (omega (arith, le)))

  parts-longer : (inside : List ℕ → Bool) (a r : ℕ) → r ≤ length h + 1 → parts inside (h ++ more) a r ≡ parts inside h a r
  parts-longer inside a zero le = refl
  parts-longer inside a (suc r) le =
      ap (λ (ps : List Part). cond (leb (suc r) a) [] (ps ++ one_part (suc r) (part_at inside (h ++ more) (suc r)))) (parts-longer inside a r (omega (arith, le)))
      ∙ ap (λ (cs : List Change). cond (leb (suc r) a) [] (parts inside h a r ++ one_part (suc r) (filter (λ (c : Change). inside (changed_key c)) cs))) (changes-longer (suc r) le)

  given-longer : (ranges : List Range) (r : Record) (d : Delivery) → IsGiven ranges h r d → IsGiven ranges (h ++ more) r d
  given-longer ranges r (delivery.Listing l) is =
      (omega (arith, is.0, longer-le h more), is.1 ∙ sym (ap (λ (m : Pairing). entries (retain_keys m (in_ranges ranges))) (map-longer l.at is.0)))
  given-longer ranges r (delivery.Batch b) is =
      (is.0, is.1, omega (arith, is.2, longer-le h more), is.3 ∙ sym (parts-longer (in_ranges ranges) (cursor_of r.spans) b.upto is.2))
  given-longer ranges r delivery.Lost is = tt

-- what a history gave, each later one gives
pub given_in_later : GivenLater
given_in_later ranges history later begins r d is = subst (λ (l : History). IsGiven ranges l r d) (sym begins.1) (given-longer history begins.0 ranges r d is)

-- no earlier revision is the last one of a later history
pub later-revision : (history later : History) → Begins history later → revision history ≤ revision later
later-revision history later begins = let e : length later ≡ length (history ++ begins.0) = ap length begins.1 in omega (arith, longer-le history begins.0)

-- ---- spans in order
pub later_spans : (a b : ℕ) (spans : List Span) → a ≤ b → AreSpans a spans → AreSpans b spans
later_spans a b [] le are = tt
later_spans a b (s ∷ older) le are = (omega (arith, le, are.0), are.1, are.2)
