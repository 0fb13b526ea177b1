-- Where a name stands in a list that has one name more.
use Rattle.std.specs.List.{list_any}
use Rattle.std.proofs.Common.{bytes_eq, is_some, ◌||◌, ◌≡◌, ℕ, ◌+◌, Bool, true, false, cond, List, [], ◌∷◌, ◌++◌, length, Option, Some, None, refl, ◌∙◌, subst, arith}
use Rattle.std.specs.List.{position, position_from}
use Rattle.std.specs.Ordering.{nat_cmp, is_eq}
use Rattle.std.specs.Cmp.Lexicographic.{slice_cmp}
use Rattle.std.proofs.lemmas.Iterator.Adapters.{position_from-zero}
use Rattle.std.proofs.lemmas.Map.Text.{is_eq-slice_cmp}
use Rattle.std.proofs.lemmas.Map.Lookups.{exact_bytes}
use Rattle.std.proofs.lemmas.Cmp.{eq_by_cmp_equiv}
use Rattle.std.specs.Cmp.Lexicographic.{nat_list_cmp_total}
use Rattle.std.specs.Cmp.{Equal-is}
use Rattle.std.proofs.lemmas.List.{length-map}
use Rattle.mesh_base.specs.Order.{same_bytes}
use Rattle.scenario_lang.specs.declared.scenario.Remote.{Remote}
use Rattle.scenario_lang.specs.Clusters.{names_of}

-- the first place, or else the second
or_else : Option ℕ → Option ℕ → Option ℕ
or_else (Some i) other = Some i
or_else None other = other

pushed : (p : List ℕ → Bool) (i : ℕ) (xs : List (List ℕ)) (x : List ℕ) → position_from p i (xs ++ x ∷ []) ≡ or_else (position_from p i xs) (cond (p x) (Some (i + length xs)) None)
unfolding or_else
pushed p i [] x = let e : i + 0 ≡ i = omega arith in rw e refl
pushed p i (y ∷ ys) x = let e : i + length (y ∷ ys) ≡ i + 1 + length ys = omega arith in by (p y) e (pushed p (i + 1) ys x)
  where
    by : (b : Bool) → i + length (y ∷ ys) ≡ i + 1 + length ys
        → position_from p (i + 1) (ys ++ x ∷ []) ≡ or_else (position_from p (i + 1) ys) (cond (p x) (Some (i + 1 + length ys)) None)
        → cond b (Some i) (position_from p (i + 1) (ys ++ x ∷ [])) ≡ or_else (cond b (Some i) (position_from p (i + 1) ys)) (cond (p x) (Some (i + length (y ∷ ys))) None)
    by true e more = refl
    by false e more = rw e more

position_pushed : (p : List ℕ → Bool) (xs : List (List ℕ)) (x : List ℕ) → position p (xs ++ x ∷ []) ≡ or_else (position p xs) (cond (p x) (Some (length xs)) None)
position_pushed p xs x =
    let e : 0 + length xs ≡ length xs = omega arith in
    let first : position p (xs ++ x ∷ []) ≡ position_from p 0 (xs ++ x ∷ []) = position_from-zero p (xs ++ x ∷ []) in
    let second : position p xs ≡ position_from p 0 xs = position_from-zero p xs in
    let both = pushed p 0 xs x in rw (first, second) (rw e at both)

-- a look-up finds a name where it stands, once the name has the last place
pub found_with : (names : List (List ℕ)) (name key : List ℕ) → key ≡ name → position (same_bytes name) names ≡ None → (q : List ℕ) (old : Option ℕ) → old ≡ position (same_bytes q) names
    → cond (is_eq (slice_cmp nat_cmp key q)) (Some (length names)) old ≡ position (same_bytes q) (names ++ name ∷ [])
unfolding or_else
found_with names name key copy fresh q old is =
    rw copy (let turned : same_bytes q name ≡ same_bytes name q = (eq_by_cmp_equiv nat_list_cmp_total).symm q name in
    rw (position_pushed (same_bytes q) names name, turned) (by (same_bytes name q) refl))
  where
    same : same_bytes name q ≡ true → name ≡ q
    same e = exact_bytes name q ((Equal-is (slice_cmp nat_cmp name q)).0 e)

    first : (o : Option ℕ) → o ≡ or_else o None
    first None = refl
    first (Some i) = refl

    by : (b : Bool) → same_bytes name q ≡ b → cond b (Some (length names)) old ≡ or_else (position (same_bytes q) names) (cond b (Some (length names)) None)
    by true e = let free : position (same_bytes q) names ≡ None = subst (λ (k : List ℕ). position (same_bytes k) names ≡ None) (same e) fresh in rw free refl
    by false e = is ∙ first (position (same_bytes q) names)

pub names_length : (remotes : List Remote) → length (names_of remotes) ≡ length remotes
names_length remotes = length-map remotes (λ r. r.name)

-- the test of equal bytes that slices have
pub same_is : (a b : List ℕ) → same_bytes a b ≡ bytes_eq a b
same_is = is_eq-slice_cmp

somewhere : (p : List ℕ → Bool) (i : ℕ) (xs : List (List ℕ)) → is_some (position_from p i xs) ≡ list_any p xs
somewhere p i [] = refl
somewhere p i (x ∷ xs) = by (p x) (somewhere p (i + 1) xs)
  where
    by : (b : Bool) → is_some (position_from p (i + 1) xs) ≡ list_any p xs → is_some (cond b (Some i) (position_from p (i + 1) xs)) ≡ b || list_any p xs
    by true more = refl
    by false more = more

-- a name that has a place is one of the names
pub placed : (p : List ℕ → Bool) (xs : List (List ℕ)) → is_some (position p xs) ≡ list_any p xs
placed p xs = let e : position p xs ≡ position_from p 0 xs = position_from-zero p xs in rw e (somewhere p 0 xs)

-- and one that is none of the names has no place
pub unplaced : (p : List ℕ → Bool) (xs : List (List ℕ)) → list_any p xs ≡ false → position p xs ≡ None
unplaced p xs none = by (position p xs) (placed p xs ∙ none)
  where
    by : (o : Option ℕ) → is_some o ≡ false → o ≡ None
    by None e = refl
    by (Some i) e = absurd (let h : true ≡ false = e in cc)
