-- A map in byte order as a finite map.
use Rattle.std.proofs.Common.{◌≡◌, ℕ, List, [], ◌∷◌, Option, None, Some, cond, is_some, refl, sym, ap, subst, ◌∙◌, Bool, true, false, T, ◌&&◌}
use Rattle.std.specs.Bool.{IsTrue}
use Rattle.std.specs.Ordering.{nat_cmp, is_eq, eq_by_cmp}
use Rattle.std.proofs.lemmas.Map.Lookups.{exact_bytes}
use Rattle.std.specs.declared.cmp.Ordering.{Ordering}
use Rattle.std.specs.declared.cmp.Ordering.TheVariants.{Less, Equal, Greater}
use Rattle.std.specs.Cmp.{eq_by_cmp_equiv}
use Rattle.std.specs.Cmp.Lexicographic.{slice_cmp, nat_list_cmp_total}
use Rattle.std.specs.BTreeMap.{is_at}
use Rattle.std.specs.FinMap as finite
use Rattle.std.specs.FinMap.{from_entries, from_sorted, same_map, slice_cmp-IsAntisymmetric, nat_cmp-IsAntisymmetric, get-from_entries, get-from_sorted, entries-from_sorted, get-empty, get-insert, get-remove}
use Rattle.std.specs.FinMap.Entries.{is_sorted, below_all, find}
use Rattle.std.specs.List.{AllByRecursion}
use Rattle.std.specs.List.Sorted.{IsStrictlySortedBy}
use Rattle.std.specs.Map.{lookup, keys_of}
use Rattle.store_api.specs.History.{Pairing}

abbrev pub Entries : Type 0
Entries = List (List ℕ × List ℕ)

abbrev pub mapped : Entries → Pairing
mapped es = from_entries es

abbrev pub value_at : Entries → List ℕ → Option (List ℕ)
value_at es q = lookup (is_at (slice_cmp nat_cmp q)) es

find_is : (q : List ℕ) (es : Entries) → find (slice_cmp nat_cmp) q es ≡ value_at es q
find_is q [] = refl
find_is q (e ∷ es) = ap (cond (is_at (slice_cmp nat_cmp q) e.0) (Some e.1)) (find_is q es)

-- the finite map of entries has what they have
pub get_of : (es : Entries) (q : List ℕ) → finite.get (mapped es) q ≡ value_at es q
get_of es q = get-from_entries nat_list_cmp_total es q ∙ find_is q es

same : (m n : Pairing) → ((q : List ℕ) → finite.get m q ≡ finite.get n q) → m ≡ n
same m n is = same_map nat_list_cmp_total (slice_cmp-IsAntisymmetric nat_cmp-IsAntisymmetric) m n is

turned : (k q : List ℕ) → is_at (slice_cmp nat_cmp k) q ≡ eq_by_cmp (slice_cmp nat_cmp) q k
turned k q = (eq_by_cmp_equiv nat_list_cmp_total).symm k q

-- entries that were written at a key are the finite map with that key
pub set_in : (old new : Entries) (k v : List ℕ) → ((q : List ℕ) → value_at new q ≡ cond (is_at (slice_cmp nat_cmp k) q) (Some v) (value_at old q))
    → mapped new ≡ finite.insert (mapped old) k v
set_in old new k v is = same _ _ (λ q. get_of new q ∙ is q
    ∙ ap (λ (b : Bool). cond b (Some v) (value_at old q)) (turned k q)
    ∙ ap (cond (eq_by_cmp (slice_cmp nat_cmp) q k) (Some v)) (sym (get_of old q))
    ∙ sym (get-insert nat_list_cmp_total (mapped old) k v q))

pub removed_from : (old new : Entries) (k : List ℕ) → ((q : List ℕ) → value_at new q ≡ cond (is_at (slice_cmp nat_cmp k) q) None (value_at old q))
    → mapped new ≡ finite.remove (mapped old) k
removed_from old new k is = same _ _ (λ q. get_of new q ∙ is q
    ∙ ap (λ (b : Bool). cond b None (value_at old q)) (turned k q)
    ∙ ap (cond (eq_by_cmp (slice_cmp nat_cmp) q k) None) (sym (get_of old q))
    ∙ sym (get-remove nat_list_cmp_total (mapped old) k q))

equal_of : (r : Ordering) → is_eq r ≡ true → r ≡ Equal
equal_of Less h = cc
equal_of Equal h = refl
equal_of Greater h = cc

pub same_bytes_are : (k q : List ℕ) → is_eq (slice_cmp nat_cmp k q) ≡ true → k ≡ q
same_bytes_are k q is = exact_bytes k q (equal_of (slice_cmp nat_cmp k q) is)

and_T : (a b : Bool) → T a → T b → T (a && b)
and_T true b p q = q
and_T false b p q = p

below_of : (x : List ℕ) (es : Entries) → AllByRecursion (λ (y : List ℕ). slice_cmp nat_cmp x y ≡ Less) (keys_of es) → T (below_all (slice_cmp nat_cmp) x es)
below_of x [] h = tt
below_of x (e ∷ es) h = let less = h.0 in rw less (below_of x es h.1)

sorted_of : (es : Entries) → IsStrictlySortedBy (slice_cmp nat_cmp) (keys_of es) → T (is_sorted (slice_cmp nat_cmp) es)
unfolding IsStrictlySortedBy
sorted_of [] h = tt
sorted_of (e ∷ es) h = and_T (below_all (slice_cmp nat_cmp) e.0 es) (is_sorted (slice_cmp nat_cmp) es) (below_of e.0 es h.0) (sorted_of es h.1)

-- entries in order are those of their finite map
pub entries_of : (es : Entries) → IsStrictlySortedBy (slice_cmp nat_cmp) (keys_of es) → finite.entries (mapped es) ≡ es
entries_of es order =
    let sorted : T (is_sorted (slice_cmp nat_cmp) es) = sorted_of es order in
    ap finite.entries (same (mapped es) (from_sorted es) (λ q. get-from_entries nat_list_cmp_total es q ∙ sym (get-from_sorted (slice_cmp nat_cmp) es q sorted)))
    ∙ entries-from_sorted (slice_cmp nat_cmp) es sorted

-- a test of keys that every key passes is passed by those after a change too
abbrev pub AllInside : (List ℕ → Bool) → Pairing → Type 0
AllInside inside m = (q : List ℕ) → IsTrue (is_some (finite.get m q)) → IsTrue (inside q)

set_keeps : (m : Pairing) (k v : List ℕ) (inside : List ℕ → Bool) → IsTrue (inside k) → AllInside inside m → AllInside inside (finite.insert m k v)
set_keeps m k v inside here kept q has =
    elim (eq_by_cmp (slice_cmp nat_cmp) q k) as (λ b. eq_by_cmp (slice_cmp nat_cmp) q k ≡ b → is_some (cond b (Some v) (finite.get m q)) ≡ true → inside q ≡ true) [
      | true ↦ λ e _. ap inside (same_bytes_are q k e) ∙ here
      | false ↦ λ _ h. kept q h
    ] refl (sym (ap is_some (get-insert nat_list_cmp_total m k v q)) ∙ has)

removed_keeps : (m : Pairing) (k : List ℕ) (inside : List ℕ → Bool) → AllInside inside m → AllInside inside (finite.remove m k)
removed_keeps m k inside kept q has =
    elim (eq_by_cmp (slice_cmp nat_cmp) q k) as (λ b. is_some (cond b None (finite.get m q)) ≡ true → inside q ≡ true) [
      | true ↦ λ h. cc
      | false ↦ λ h. kept q h
    ] (sym (ap is_some (get-remove nat_list_cmp_total m k q)) ∙ has)

pub set_as : (old new : Pairing) (k v : List ℕ) (inside : List ℕ → Bool) → new ≡ finite.insert old k v → IsTrue (inside k) → AllInside inside old → AllInside inside new
set_as old new k v inside is here kept = subst (AllInside inside) (sym is) (set_keeps old k v inside here kept)

pub removed_as : (old new : Pairing) (k : List ℕ) (inside : List ℕ → Bool) → new ≡ finite.remove old k → AllInside inside old → AllInside inside new
removed_as old new k inside is kept = subst (AllInside inside) (sym is) (removed_keeps old k inside kept)

none_inside : (inside : List ℕ → Bool) → AllInside inside finite.empty
none_inside inside q has = let none : is_some (finite.get {X = List ℕ} {R = slice_cmp nat_cmp} finite.empty q) ≡ false = ap is_some (get-empty (slice_cmp nat_cmp) q) in cc

-- an empty map has no key
pub none_keeps : (new : Pairing) (inside : List ℕ → Bool) → new ≡ finite.empty → AllInside inside new
none_keeps new inside is = subst (AllInside inside) (sym is) (none_inside inside)
