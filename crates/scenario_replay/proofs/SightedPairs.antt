-- The sighted pairs as a finite map.
use Rattle.std.proofs.Common.{◌≡◌, ℕ, zero, suc, ◌+◌, ◌≤◌, leb, List, [], ◌∷◌, ◌++◌, ◌||◌, ◌&&◌, not, Bool, true, false, cond, Option, None, Some, is_some, refl, ap, sym, ◌∙◌, arith, inl, inr, true≢false}
use Rattle.std.proofs.lemmas.Bool.{cases_lt, le-leb}
use Rattle.std.proofs.lemmas.Map.Lookups.{exact_bytes}
use Rattle.std.specs.Ordering.{nat_cmp, eq_by_cmp}
use Rattle.std.specs.Cmp.Lexicographic.{slice_cmp, nat_list_cmp_total}
use Rattle.std.specs.FinMap as finite
use Rattle.std.specs.FinMap.{find, get-empty, get-entries, get-from_entries, get-retain_keys}
use Rattle.mesh_base.specs.Order.{same_bytes}
use Rattle.relist_merge.specs.Records.{AreWithin}
use Rattle.store_api.specs.Followed.{Followed, changed_key, in_at, touches}
use Rattle.store_api.specs.History.{History, Pairing, after_change, after_changes, changes_at, live_at, map_at}
use Rattle.store_api.specs.Sets.{in_set, seen_set}
use Rattle.store_api.specs.Spans.{Span, is_met, is_up, seen, some_from, speaks}
use Rattle.store_api.specs.declared.change.Change.{Change}
use Rattle.store_api.specs.declared.change.Change.TheVariants as change
use Rattle.store_api.proofs.CallerLemmas.{get-map_at}

-- ---- a span that does not speak of a key does not have it
neither : (a b : Bool) → a || b ≡ false → (a ≡ false) × (b ≡ false)
neither true b off = absurd (true≢false off)
neither false b off = (refl, off)

none_of : (o : Option (List ℕ)) → is_some o ≡ false → o ≡ None
none_of None off = refl
none_of (Some value) off = absurd (true≢false off)

-- a change of another key
untouched_by : (k : List ℕ) (old : Option (List ℕ)) (c : Change) → same_bytes (changed_key c) k ≡ false → after_change k old c ≡ old
untouched_by k old (change.Put key value lease) off = ap (λ (b : Bool). cond b (Some value) old) off
untouched_by k old (change.Delete key) off = ap (λ (b : Bool). cond b None old) off

untouched : (k : List ℕ) (old : Option (List ℕ)) (changes : List Change) → touches k changes ≡ false → after_changes k old changes ≡ old
untouched k old [] off = refl
untouched k old (c ∷ changes) off =
    let two = neither (same_bytes (changed_key c) k) (touches k changes) off in
    ap (λ (o : Option (List ℕ)). after_changes k o changes) (untouched_by k old c two.0) ∙ untouched k old changes two.1

module _ (h : History) (k : List ℕ) where
  abbrev touched : ℕ → Bool
  touched x = touches k (changes_at h x)

  -- no change of the key above a and up to r
  stays : (a r : ℕ) → a ≤ r → some_from touched (a + 1) r ≡ false → live_at h r k ≡ live_at h a k
  stays a zero le off = let e : zero ≡ a = omega (arith, le) in ap (λ (x : ℕ). live_at h x k) e
  stays a (suc r) le off =
      elim (cases_lt a (suc r)) [
        | inl lt ↦
            let two = neither (some_from touched (a + 1) r) (leb (a + 1) (suc r) && touched (suc r)) off in
            let last : touched (suc r) ≡ false = sym (ap (λ (b : Bool). b && touched (suc r)) (le-leb (a + 1) (suc r) (omega (arith, lt)))) ∙ two.1 in
            untouched k (live_at h r k) (changes_at h (suc r)) last ∙ stays a r (omega (arith, lt)) two.0
        | inr ge ↦ let e : suc r ≡ a = omega (arith, le, ge) in ap (λ (x : ℕ). live_at h x k) e
      ]

unspoken : (f : Followed) (h : History) (s : Span) (k : List ℕ) → s.start ≤ s.upto → speaks f h s k ≡ false → in_at f h s.upto k ≡ None
unspoken f h s k order off =
    let parted = neither (is_up f h s) (is_met f h s k) off in
    let met = neither (is_some (in_at f h s.start k)) (some_from (λ x. touches k (changes_at h x)) (s.start + 1) s.upto) parted.1 in
    ap (λ (o : Option (List ℕ)). cond (f.inside k) o None) (stays h k s.start s.upto order met.1) ∙ none_of (in_at f h s.start k) met.0

-- ---- look-ups
kept-keys : (m : Pairing) (p : List ℕ → Bool) (k : List ℕ) → finite.get (finite.retain_keys m p) k ≡ cond (p k) (finite.get m k) None
kept-keys m p k = get-retain_keys m p k (λ x tie. ap p (sym (exact_bytes k x tie)))

-- the followed pairs
pub get-in_set : (f : Followed) (h : History) (r : ℕ) (k : List ℕ) → finite.get (in_set f h r) k ≡ in_at f h r k
get-in_set f h r k = kept-keys (map_at h r) f.inside k ∙ ap (λ (o : Option (List ℕ)). cond (f.inside k) o None) (get-map_at h r k)

first_of_two : Option (List ℕ) → Option (List ℕ) → Option (List ℕ)
first_of_two None b = b
first_of_two (Some v) b = Some v

either_found : (b : Bool) (v : List ℕ) (o other : Option (List ℕ)) → cond b (Some v) (first_of_two o other) ≡ first_of_two (cond b (Some v) o) other
unfolding first_of_two
either_found true v o other = refl
either_found false v o other = refl

find-two : (k : List ℕ) (xs ys : List (List ℕ × List ℕ)) → find (slice_cmp nat_cmp) k (xs ++ ys) ≡ first_of_two (find (slice_cmp nat_cmp) k xs) (find (slice_cmp nat_cmp) k ys)
unfolding first_of_two
find-two k [] ys = refl
find-two k (x ∷ xs) ys =
    ap (cond (eq_by_cmp (slice_cmp nat_cmp) k x.0) (Some x.1)) (find-two k xs ys)
    ∙ either_found (eq_by_cmp (slice_cmp nat_cmp) k x.0) x.1 (find (slice_cmp nat_cmp) k xs) (find (slice_cmp nat_cmp) k ys)

-- what is found first is what the span speaks of
parted : (b : Bool) (now before : Option (List ℕ)) → (b ≡ false → now ≡ None) → first_of_two now (cond (not b) before None) ≡ cond b now before
unfolding first_of_two
parted true None before none = refl
parted true (Some v) before none = refl
parted false now before none = ap (λ (o : Option (List ℕ)). first_of_two o before) (none refl)

-- what was sighted of each key
pub get-seen_set : (f : Followed) (h : History) (last : ℕ) (spans : List Span) (k : List ℕ) → AreWithin last spans → finite.get (seen_set f h spans) k ≡ seen f h spans k
get-seen_set f h last [] k within = get-empty (slice_cmp nat_cmp) k
get-seen_set f h last (s ∷ older) k within =
    let before = finite.retain_keys (seen_set f h older) (λ q. not (speaks f h s q)) in
    let found : find (slice_cmp nat_cmp) k (finite.entries (in_set f h s.upto)) ≡ in_at f h s.upto k = sym (get-entries (in_set f h s.upto) k) ∙ get-in_set f h s.upto k in
    let found_before : find (slice_cmp nat_cmp) k (finite.entries before) ≡ cond (not (speaks f h s k)) (seen f h older k) None =
    sym (get-entries before k) ∙ kept-keys (seen_set f h older) (λ q. not (speaks f h s q)) k ∙ ap (λ (o : Option (List ℕ)). cond (not (speaks f h s k)) o None) (get-seen_set f h last older k within.2) in
    get-from_entries nat_list_cmp_total (finite.entries (in_set f h s.upto) ++ finite.entries before) k
    ∙ find-two k (finite.entries (in_set f h s.upto)) (finite.entries before)
    ∙ ap (λ (o : Option (List ℕ)). first_of_two o (find (slice_cmp nat_cmp) k (finite.entries before))) found
    ∙ ap (first_of_two (in_at f h s.upto k)) found_before
    ∙ parted (speaks f h s k) (in_at f h s.upto k) (seen f h older k) (unspoken f h s k within.0)
