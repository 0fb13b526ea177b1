-- The finite map of what is live, and the listings of it.
use Rattle.std.proofs.Common.{◌≡◌, ℕ, List, [], ◌∷◌, map, filter, Option, None, Some, cond, refl, ap, sym, ◌∙◌, Bool, true, false, T, ◌&&◌}
use Rattle.std.proofs.lemmas.Map.Lookups.{exact_bytes}
use Rattle.std.specs.Ordering.{nat_cmp, is_eq}
use Rattle.std.specs.declared.cmp.Ordering.{Ordering}
use Rattle.std.specs.declared.cmp.Ordering.TheVariants.{Less, Equal, Greater}
use Rattle.std.specs.Cmp.Lexicographic.{slice_cmp, nat_list_cmp_total}
use Rattle.std.specs.BTreeMap.{BTreeMap, get, is_at}
use Rattle.std.specs.List.Sorted.{IsStrictlySortedBy}
use Rattle.std.specs.List.{AllByRecursion}
use Rattle.std.specs.FinMap as finite
use Rattle.std.specs.FinMap.{FinMap, same_map, slice_cmp-IsAntisymmetric, nat_cmp-IsAntisymmetric, get-from_sorted, entries-from_sorted, get-retain_keys}
use Rattle.std.specs.FinMap.Entries.{is_sorted, below_all, find}
use Rattle.std.specs.Map.{lookup, keys_of}
use Rattle.store_api.specs.declared.change.Range.{Range}
use Rattle.store_api.specs.declared.change.Pair.{Pair}
use Rattle.store_api.specs.History.{History, revision, map_at, in_ranges, entry_of, listing_at}
use Rattle.store_api.proofs.CallerLemmas.{get-map_at}
use Rattle.memory_store.specs.Kept.{IsListed, HasLive}

-- the keys of the entries whose keys pass
pub keys-filter : (p : List ℕ → Bool) (es : List (List ℕ × List ℕ)) → keys_of (filter (λ (e : List ℕ × List ℕ). p e.0) es) ≡ filter p (keys_of es)
keys-filter p [] = refl
keys-filter p (e ∷ es) = elim (p e.0) as (λ b. keys_of (cond b (e ∷ filter (λ (f : List ℕ × List ℕ). p f.0) es) (filter (λ (f : List ℕ × List ℕ). p f.0) es)) ≡ cond b (e.0 ∷ filter p (keys_of es)) (filter p (keys_of es))) [ true ↦ ap (λ (l : List (List ℕ)). e.0 ∷ l) (keys-filter p es) | _ ↦ keys-filter p es ]

equal_of : (r : Ordering) → is_eq r ≡ true → r ≡ Equal
equal_of Less h = cc
equal_of Equal h = refl
equal_of Greater h = cc

-- keys that compare equal are equal
pub same_key : (k q : List ℕ) → is_at (slice_cmp nat_cmp k) q ≡ true → k ≡ q
same_key k q same = exact_bytes k q (equal_of (slice_cmp nat_cmp k q) same)

and_T : (a b : Bool) → T a → T b → T (a && b)
and_T true b p q = q
and_T false b p q = p

below_of : (x : List ℕ) (es : List (List ℕ × List ℕ)) → AllByRecursion (λ (y : List ℕ). slice_cmp nat_cmp x y ≡ Less) (keys_of es) → T (below_all (slice_cmp nat_cmp) x es)
below_of x [] h = tt
below_of x (e ∷ es) h = let less = h.0 in rw less (below_of x es h.1)

sorted_of : (es : List (List ℕ × List ℕ)) → IsStrictlySortedBy (slice_cmp nat_cmp) (keys_of es) → T (is_sorted (slice_cmp nat_cmp) es)
unfolding IsStrictlySortedBy
sorted_of [] h = tt
sorted_of (e ∷ es) h = and_T (below_all (slice_cmp nat_cmp) e.0 es) (is_sorted (slice_cmp nat_cmp) es) (below_of e.0 es h.0) (sorted_of es h.1)

find_is : (q : List ℕ) (es : List (List ℕ × List ℕ)) → find (slice_cmp nat_cmp) q es ≡ lookup (is_at (slice_cmp nat_cmp q)) es
find_is q [] = refl
find_is q (e ∷ es) = ap (cond (is_at (slice_cmp nat_cmp q) e.0) (Some e.1)) (find_is q es)

-- entries in order are those of the map that answers alike
listed_entries : (m : FinMap (slice_cmp nat_cmp) (List ℕ)) (es : List (List ℕ × List ℕ)) → T (is_sorted (slice_cmp nat_cmp) es) → ((k : List ℕ) → lookup (is_at (slice_cmp nat_cmp k)) es ≡ finite.get m k) → es ≡ finite.entries m
listed_entries m es order alike =
    let same : finite.from_sorted es ≡ m = same_map nat_list_cmp_total (slice_cmp-IsAntisymmetric nat_cmp-IsAntisymmetric) _ _ (λ q. get-from_sorted (slice_cmp nat_cmp) es q order ∙ find_is q es ∙ alike q) in
    sym (entries-from_sorted (slice_cmp nat_cmp) es order) ∙ ap finite.entries same

pub is_listing : (ranges : List Range) (history : History) (live : BTreeMap (List ℕ) (List ℕ)) (pairs : List Pair)
    → IsListed ranges (get (slice_cmp nat_cmp) live) pairs → HasLive history live → map entry_of pairs ≡ listing_at ranges history (revision history)
is_listing ranges history live pairs listed lives =
    listed_entries (finite.retain_keys (map_at history (revision history)) (in_ranges ranges)) (map entry_of pairs) (sorted_of (map entry_of pairs) listed.order)
    (λ k. listed.alike k
    ∙ ap (λ (o : Option (List ℕ)). cond (in_ranges ranges k) o None) (lives k ∙ sym (get-map_at history (revision history) k))
    ∙ sym (get-retain_keys (map_at history (revision history)) (in_ranges ranges) k (λ x tie. ap (in_ranges ranges) (sym (exact_bytes k x tie)))))
