-- A listing, pair by pair, and as what is live.
use Rattle.std.proofs.Common.{◌≡◌, ℕ, List, [], ◌∷◌, map, Bool, true, false, cond, Option, None, Some, refl, ap, sym, ◌∙◌, inl, inr}
use Rattle.std.specs.Cmp.{eq_by_cmp_equiv}
use Rattle.std.specs.Cmp.Lexicographic.{nat_list_cmp_total, slice_cmp}
use Rattle.std.specs.FinMap.{entries, find, get, get-entries, get-retain_keys, keys, retain_keys}
use Rattle.std.specs.List.{IsDistinct, AllByRecursion}
use Rattle.std.specs.Map.{keys_of}
use Rattle.std.specs.Ordering.{nat_cmp, eq_by_cmp}
use Rattle.std.proofs.lemmas.Map.Keys.{IsDistinct-from_sorted}
use Rattle.std.proofs.lemmas.Map.Lookups.{exact_bytes}
use Rattle.mesh_base.specs.Order.{same_bytes}
use Rattle.store_api.specs.Followed.{in_at}
use Rattle.store_api.specs.History.{History, Pairing, in_ranges, listing_at, map_at}
use Rattle.store_api.specs.declared.change.Range.{Range}
use Rattle.store_api.proofs.CallerLemmas.{get-map_at, keys_rise}
use Rattle.relist_merge.specs.Deliveries.{listed}
use Rattle.relist_merge.specs.View.{Entry, IsListOf, edited, edited_all, over_of, put_of}
use Rattle.relist_merge.proofs.Numbers.{cases}
use Rattle.relist_merge.proofs.Changes.{same_key}

abbrev Listed : Type 0
Listed = List (List ℕ × List ℕ)

absent : (key k : List ℕ) (rest : Listed) → AllByRecursion (λ (y : List ℕ). same_bytes key y ≡ false) (keys_of rest) → same_bytes key k ≡ true → listed rest k ≡ None
absent key k [] all h = refl
absent key k (q ∷ rest) all h =
    elim (cases (same_bytes q.0 k)) [
      | inl t ↦
          let e : k ≡ q.0 = sym (same_key q.0 k t) in
          let here = sym (ap (same_bytes key) e) ∙ h in
          let off = all.0 in cc
      | inr m ↦ ap (λ (b : Bool). cond b (Some q.1) (listed rest k)) m ∙ absent key k rest all.1 h
    ]

listed-step : (k : List ℕ) (old : Option Entry) (p : List ℕ × List ℕ) (rest : Listed) → IsDistinct same_bytes (keys_of (p ∷ rest))
    → over_of (edited (put_of p) k old) (listed rest k) ≡ over_of old (listed (p ∷ rest) k)
unfolding IsDistinct
listed-step k old p rest distinct =
    elim (cases (same_bytes p.0 k)) [
      | inl t ↦
          ap (over_of (edited (put_of p) k old)) (absent p.0 k rest distinct.0 t) ∙ ap (λ (b : Bool). cond b (Some (record { value = p.1; fresh = true })) old) t
          ∙ sym (ap (λ (b : Bool). over_of old (cond b (Some p.1) (listed rest k))) t)
      | inr m ↦
          ap (λ (b : Bool). over_of (cond b (Some (record { value = p.1; fresh = true })) old) (listed rest k)) m
          ∙ sym (ap (λ (b : Bool). over_of old (cond b (Some p.1) (listed rest k))) m)
    ]

distinct-rest : (p : List ℕ × List ℕ) (rest : Listed) → IsDistinct same_bytes (keys_of (p ∷ rest)) → IsDistinct same_bytes (keys_of rest)
unfolding IsDistinct
distinct-rest p rest d = d.1

-- the puts of a listing, one after the other, are the listing over what was there
pub puts-listed : (pairs : Listed) (k : List ℕ) (old : Option Entry) → IsDistinct same_bytes (keys_of pairs) → edited_all (map put_of pairs) k old ≡ over_of old (listed pairs k)
puts-listed [] k old distinct = refl
puts-listed (p ∷ rest) k old distinct = puts-listed rest k (edited (put_of p) k old) (distinct-rest p rest distinct) ∙ listed-step k old p rest distinct

-- ---- the entries of a finite map
pub find-listed : (k : List ℕ) (es : Listed) → find (slice_cmp nat_cmp) k es ≡ listed es k
find-listed k [] = refl
find-listed k (e ∷ es) =
    ap (cond (eq_by_cmp (slice_cmp nat_cmp) k e.0) (Some e.1)) (find-listed k es)
    ∙ ap (λ (b : Bool). cond b (Some e.1) (listed es k)) ((eq_by_cmp_equiv nat_list_cmp_total).symm k e.0)

kept-keys : (m : Pairing) (p : List ℕ → Bool) (k : List ℕ) → get (retain_keys m p) k ≡ cond (p k) (get m k) None
kept-keys m p k = get-retain_keys m p k (λ x tie. ap p (sym (exact_bytes k x tie)))

-- what is live in some ranges, as a store lists it
pub listing-in_at : (ranges : List Range) (synced : (List ℕ → Option (List ℕ)) → Bool) (h : History) (r : ℕ)
    → IsListOf (listing_at ranges h r) (in_at (record { inside = in_ranges ranges; synced = synced }) h r)
listing-in_at ranges synced h r = record {
  distinct = IsDistinct-from_sorted (slice_cmp nat_cmp) (keys live) (keys_rise (slice_cmp nat_cmp) live);
  values = λ k. sym (find-listed k (entries live)) ∙ sym (get-entries live k) ∙ kept-keys (map_at h r) (in_ranges ranges) k ∙ ap (λ (o : Option (List ℕ)). cond (in_ranges ranges k) o None) (get-map_at h r k);
}
  where
    live : Pairing
    live = retain_keys (map_at h r) (in_ranges ranges)
