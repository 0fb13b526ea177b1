-- The first rows, by place.
use Rattle.std.proofs.Common.{◌≡◌, ℕ, zero, suc, ◌+◌, ◌≤◌, ◌<◌, List, [], ◌∷◌, ◌++◌, ◌||◌, take, length, get_or, nat_eq, nat_lt, Bool, true, false, cond, Option, None, Some, is_some, position, refl, ap, sym, ◌∙◌, subst, arith, inl, inr}
use Rattle.std.specs.List.{list_any}
use Rattle.std.specs.Cmp.Lexicographic.{pointwise}
use Rattle.std.specs.Map.{keys_of, lookup}
use Rattle.std.proofs.lemmas.List.Quantifiers.{position-Some}
use Rattle.std.specs.List.{swap, swap_remove}
use Rattle.std.proofs.Common.{set, ◌-◌}
use Rattle.std.proofs.lemmas.List.{take-set, take-set-le, take_more_set, get_or-take, take-take}
use Rattle.std.proofs.lemmas.Map.Views.{exact_unsigned_eq}
use Rattle.std.specs.Cmp.{eq_by_cmp_equiv}
use Rattle.std.specs.Cmp.Lexicographic.{nat_list_eq_equiv, nat_list_cmp_total}
use Rattle.std.specs.List.{position_or_len}
use Rattle.indexmap.specs.IndexMap.{IndexMap, insert_entry, Updates}
use Rattle.std.proofs.lemmas.Option.{slice_get-get_or}
use Rattle.std.specs.Option.{IfSome}
use Rattle.std.proofs.Common.{slice_get}
use Rattle.std.proofs.lemmas.List.{get_or-set_same}
use Rattle.mesh_base.specs.Order.{same_bytes}
use Rattle.relist_merge.proofs.Changes.{same_key}
use Rattle.std.proofs.lemmas.List.Edits.{swap_is}
use Rattle.std.proofs.lemmas.List.Folds.{list_any_more}
use Rattle.std.proofs.Math.Seq.{take-set-lt}
use Rattle.std.proofs.Math.ListN.{length-set, length-take}
use Rattle.relist_merge.proofs.Numbers.{or_assoc, or_right}
use Rattle.std.proofs.lemmas.Bool.{cases_lt, lt-ltb, le-ltb}
use Rattle.relist_merge.specs.View.{edited, fresh_of, kept_of}
use Rattle.relist_merge.proofs.Numbers.{cases, or_cases, and_right}
use Rattle.relist_merge.specs.Shown.{is_fresh, entry_of, entry_in}
use Rattle.relist_merge.specs.declared.rows.Row.{Row}
use Rattle.relist_merge.specs.declared.reading.Reading.TheVariants.{Other}

-- for a place without a row
abbrev pub no_row : List ℕ × Row
no_row = ([], record { value = []; reading = Other })

pub same_test : (a b : Bool) → (a ≡ true → b ≡ true) → (b ≡ true → a ≡ true) → a ≡ b
same_test true true p q = refl
same_test true false p q = sym (p refl)
same_test false true p q = q refl
same_test false false p q = refl

module _ {X : Type 0} (p : X → Bool) (d : X) where
  pub any-has : (xs : List X) (n i : ℕ) → i < n → i < length xs → p (get_or xs i d) ≡ true → list_any p (take n xs) ≡ true
  any-has [] n i l m h = absurd (omega arith)
  any-has (x ∷ xs) zero i l m h = absurd (omega arith)
  any-has (x ∷ xs) (suc n) zero l m h = ap (λ (b : Bool). b || list_any p (take n xs)) h
  any-has (x ∷ xs) (suc n) (suc i) l m h = second (p x) (any-has xs n i (omega arith) (omega arith) h)
    where
      second : {b : Bool} (a : Bool) → b ≡ true → a || b ≡ true
      second true e = refl
      second false e = e

  pub any-find : (xs : List X) (n : ℕ) → list_any p (take n xs) ≡ true → (i : ℕ) × (i < n) × (i < length xs) × (p (get_or xs i d) ≡ true)
  any-find [] zero h = cc
  any-find [] (suc n) h = cc
  any-find (x ∷ xs) zero h = cc
  any-find (x ∷ xs) (suc n) h =
      elim (or_cases (p x) (list_any p (take n xs)) h) [
        | inl t ↦ (zero, omega arith, omega arith, t)
        | inr t ↦ let found = any-find xs n t in (suc found.0, omega (arith, found.1), omega (arith, found.2), found.3)
      ]

  pub any-place : (xs : List X) (n i : ℕ) → position p xs ≡ Some i → list_any p (take n xs) ≡ nat_lt i n
  any-place xs n i at =
      let facts = position-Some p xs i d at in
      elim (cases_lt i n) [
        | inl l ↦ any-has xs n i l facts.0 facts.1 ∙ sym (lt-ltb i n l)
        | inr le ↦ same_test _ _ (λ h. let found = any-find xs n h in let no = facts.2 found.0 (omega (arith, found.1)) in cc (no, found.3)) (λ h. let no = le-ltb i n le in cc)
      ]

module _ (test : List ℕ → Bool) where
  pub lookup-take : (n : ℕ) (es : List (List ℕ × Row)) → lookup test (take n es) ≡ cond (list_any test (take n (keys_of es))) (lookup test es) None
  lookup-take zero [] = refl
  lookup-take (suc n) [] = refl
  lookup-take zero (e ∷ es) = refl
  lookup-take (suc n) (e ∷ es) =
      elim (test e.0) as (λ b. cond b (Some e.1) (lookup test (take n es)) ≡ cond (b || list_any test (take n (keys_of es))) (cond b (Some e.1) (lookup test es)) None) [ true ↦ refl | false ↦ lookup-take n es ]

  pub lookup-some : (n : ℕ) (es : List (List ℕ × Row)) → list_any test (take n (keys_of es)) ≡ true → is_some (lookup test es) ≡ true
  lookup-some zero [] h = cc
  lookup-some (suc n) [] h = cc
  lookup-some zero (e ∷ es) h = cc
  lookup-some (suc n) (e ∷ es) h = go (test e.0) (lookup-some n es) h
    where
      go : (b : Bool) → (list_any test (take n (keys_of es)) ≡ true → is_some (lookup test es) ≡ true) → b || list_any test (take n (keys_of es)) ≡ true → is_some (cond b (Some e.1) (lookup test es)) ≡ true
      go true rest h = refl
      go false rest h = rest h

pub keys-take : (n : ℕ) (es : List (List ℕ × Row)) → keys_of (take n es) ≡ take n (keys_of es)
keys-take zero [] = refl
keys-take (suc n) [] = refl
keys-take zero (e ∷ es) = refl
keys-take (suc n) (e ∷ es) = ap (λ (ks : List (List ℕ)). e.0 ∷ ks) (keys-take n es)

take-twice : {X : Type 0} (n : ℕ) (xs : List X) → take n (take n xs) ≡ take n xs
take-twice zero [] = refl
take-twice (suc n) [] = refl
take-twice zero (x ∷ xs) = refl
take-twice (suc n) (x ∷ xs) = ap (λ l. x ∷ l) (take-twice n xs)

-- a key is fresh where the view has a fresh value for it
pub fresh-some : (n : ℕ) (es : List (List ℕ × Row)) (k : List ℕ) → is_some (fresh_of (entry_in n es k)) ≡ is_fresh n es k
fresh-some n es k = go (lookup (pointwise nat_eq k) es) (is_fresh n es k) (lookup-some (pointwise nat_eq k) n es)
  where
    go : (o : Option Row) (b : Bool) → (b ≡ true → is_some o ≡ true) → is_some (fresh_of (entry_of o b)) ≡ b
    go None true h = h refl
    go None false h = refl
    go (Some v) true h = refl
    go (Some v) false h = refl

-- what is left of the first rows alone
pub kept-rows : (n : ℕ) (es : List (List ℕ × Row)) (k : List ℕ) → entry_in n (take n es) k ≡ kept_of (entry_in n es k)
kept-rows n es k =
    ap (λ (o : Option Row). entry_of o (is_fresh n (take n es) k)) (lookup-take (pointwise nat_eq k) n es)
    ∙ ap (λ (ks : List (List ℕ)). entry_of (cond (is_fresh n es k) (lookup (pointwise nat_eq k) es) None) (list_any (pointwise nat_eq k) ks)) (ap (take n) (keys-take n es) ∙ take-twice n (keys_of es))
    ∙ go (lookup (pointwise nat_eq k) es) (is_fresh n es k)
  where
    go : (o : Option Row) (b : Bool) → entry_of (cond b o None) b ≡ kept_of (entry_of o b)
    go None true = refl
    go None false = refl
    go (Some v) true = refl
    go (Some v) false = refl

pub fresh-none : (test : List ℕ → Bool) (n : ℕ) (es : List (List ℕ × Row)) → is_some (lookup test es) ≡ false → list_any test (take n (keys_of es)) ≡ false
fresh-none test n es none = elim (cases (list_any test (take n (keys_of es)))) [ inl t ↦ let e = lookup-some test n es t in cc | inr f ↦ f ]

any-keys : (test : List ℕ → Bool) (es : List (List ℕ × Row)) → list_any test (keys_of es) ≡ list_any (λ (e : List ℕ × Row). test e.0) es
any-keys test [] = refl
any-keys test (e ∷ es) = ap (λ (b : Bool). test e.0 || b) (any-keys test es)

-- freshness by entries
pub fresh-entries : (test : List ℕ → Bool) (n : ℕ) (es : List (List ℕ × Row)) → list_any test (take n (keys_of es)) ≡ list_any (λ (e : List ℕ × Row). test e.0) (take n es)
fresh-entries test n es = ap (list_any test) (sym (keys-take n es)) ∙ any-keys test (take n es)

module _ {X : Type 0} (p : X → Bool) where
  any-append : (xs ys : List X) → list_any p (xs ++ ys) ≡ list_any p xs || list_any p ys
  any-append [] ys = refl
  any-append (x ∷ xs) ys = ap (λ (b : Bool). p x || b) (any-append xs ys) ∙ sym (or_assoc (p x) (list_any p xs) (list_any p ys))

  pub any-grow : (xs : List X) (i n : ℕ) (d : X) → n ≤ i → i < length xs → list_any p (take (n + 1) (swap xs i n)) ≡ list_any p (take n xs) || p (get_or xs i d)
  any-grow xs i n d le lt =
      let below : n < length xs = omega arith in
      let inner : n < length (set xs i (get_or xs n d)) = omega (arith, length-set {A = X}) in
      ap (λ (l : List X). list_any p (take (n + 1) l)) (sym (swap_is xs i n d lt below))
      ∙ ap (list_any p) (take_more_set (set xs i (get_or xs n d)) n (get_or xs i d) inner)
      ∙ ap (λ (l : List X). list_any p (l ++ get_or xs i d ∷ [])) (take-set-le n xs i (get_or xs n d) le)
      ∙ any-append (take n xs) (get_or xs i d ∷ [])
      ∙ ap (λ (b : Bool). list_any p (take n xs) || b) (or_right (p (get_or xs i d)))

  any-set : (xs : List X) (i : ℕ) (y d : X) → i < length xs → p (get_or xs i d) ≡ false → list_any p (set xs i y) ≡ list_any p xs || p y
  any-set [] i y d lt off = absurd (omega arith)
  any-set (x ∷ xs) zero y d lt off = turned (p y) (list_any p xs) ∙ ap (λ (b : Bool). (b || list_any p xs) || p y) (sym off)
    where
      turned : (a b : Bool) → a || b ≡ b || a
      turned true true = refl
      turned true false = refl
      turned false true = refl
      turned false false = refl
  any-set (x ∷ xs) (suc i) y d lt off = ap (λ (b : Bool). p x || b) (any-set xs i y d (omega arith) off) ∙ sym (or_assoc (p x) (list_any p xs) (p y))

  pub any-shrink : (xs : List X) (i last : ℕ) (d : X) → i ≤ last → last < length xs → p (get_or xs i d) ≡ false → list_any p (take last (swap xs i last)) ≡ list_any p (take (last + 1) xs)
  any-shrink xs i last d le lt off =
      ap (λ (l : List X). list_any p (take last l)) (sym (swap_is xs i last d (omega arith) lt))
      ∙ ap (list_any p) (take-set (set xs i (get_or xs last d)) last (get_or xs i d))
      ∙ elim (cases_lt i last) [
        | inl below ↦
            ap (list_any p) (take-set-lt last xs i (get_or xs last d) below)
            ∙ any-set (take last xs) i (get_or xs last d) d (omega (arith, length-take {A = X})) (ap p (get_or-take last xs i d below) ∙ off)
            ∙ sym (list_any_more p xs last d lt)
        | inr same ↦
            let e : i ≡ last = omega arith in
            ap (list_any p) (take-set-le last xs i (get_or xs last d) same)
            ∙ sym (or_right (list_any p (take last xs)))
            ∙ ap (λ (b : Bool). list_any p (take last xs) || b) (sym (ap (λ (j : ℕ). p (get_or xs j d)) (sym e) ∙ off))
            ∙ sym (list_any_more p xs last d lt)
      ]

pub take-removed : {X : Type 0} (xs : List X) (n i : ℕ) (x : X) → n ≤ i → i < length xs → take n (swap_remove xs i x) ≡ take n xs
take-removed xs n i x le lt =
    take-take n (length xs - 1) (set xs i (get_or xs (length xs - 1) x)) (omega arith) ∙ take-set-le n xs i (get_or xs (length xs - 1) x) le

key-at : (es : List (List ℕ × Row)) (i : ℕ) → get_or (keys_of es) i [] ≡ (get_or es i no_row).0
key-at [] i = refl
key-at (e ∷ es) zero = refl
key-at (e ∷ es) (suc i) = key-at es i

-- a stale row that becomes the last fresh one
pub fresh-grow : (k : List ℕ) (es rows : List (List ℕ × Row)) (n i : ℕ) → n ≤ i → i < length es → rows ≡ swap es i n
    → is_fresh (n + 1) rows k ≡ is_fresh n es k || pointwise nat_eq k (get_or (keys_of es) i [])
fresh-grow k es rows n i le lt is =
    ap (λ (l : List (List ℕ × Row)). is_fresh (n + 1) l k) is
    ∙ fresh-entries (pointwise nat_eq k) (n + 1) (swap es i n)
    ∙ any-grow (λ (e : List ℕ × Row). pointwise nat_eq k e.0) es i n no_row le lt
    ∙ ap (λ (b : Bool). b || pointwise nat_eq k (get_or es i no_row).0) (sym (fresh-entries (pointwise nat_eq k) n es))
    ∙ ap (λ (key : List ℕ). is_fresh n es k || pointwise nat_eq k key) (sym (key-at es i))

-- the two tests on keys are one
pub exact_key : (a b : List ℕ) → pointwise nat_eq a b ≡ true → a ≡ b
exact_key [] [] h = refl
exact_key [] (y ∷ ys) h = cc
exact_key (x ∷ xs) [] h = cc
exact_key (x ∷ xs) (y ∷ ys) h =
    let both = and_right (nat_eq x y) (pointwise nat_eq xs ys) h in
    let first = exact_unsigned_eq x y both.0 in let rest = exact_key xs ys both.1 in cc

pub same_keys : (a b : List ℕ) → pointwise nat_eq a b ≡ same_bytes a b
same_keys a b = same_test _ _
    (λ h. ap (λ (c : List ℕ). same_bytes a c) (sym (exact_key a b h)) ∙ (eq_by_cmp_equiv nat_list_cmp_total).refl a)
    (λ h. ap (λ (c : List ℕ). pointwise nat_eq a c) (sym (same_key a b h)) ∙ nat_list_eq_equiv.refl a)

length-keys : (es : List (List ℕ × Row)) → length (keys_of es) ≡ length es
length-keys [] = refl
length-keys (e ∷ es) = ap suc (length-keys es)

none_taken : (test : List ℕ → Bool) (ks : List (List ℕ)) → list_any test (take zero ks) ≡ false
none_taken test [] = refl
none_taken test (k ∷ ks) = refl

-- an insertion keeps the first keys
pub insert-keeps : (test : List ℕ → Bool) (n : ℕ) (es : List (List ℕ × Row)) (key : List ℕ) (value : Row) → n ≤ length es
    → list_any test (take n (keys_of (insert_entry (pointwise nat_eq) es key value))) ≡ list_any test (take n (keys_of es))
insert-keeps test zero es key value le = none_taken test (keys_of (insert_entry (pointwise nat_eq) es key value)) ∙ sym (none_taken test (keys_of es))
insert-keeps test (suc n) [] key value le = absurd (omega arith)
insert-keeps test (suc n) (e ∷ es) key value le =
    elim (cases (pointwise nat_eq key e.0)) [
      | inl t ↦ rw t refl
      | inr m ↦ rw m (ap (λ (b : Bool). test e.0 || b) (insert-keeps test n es key value (omega arith)))
    ]

-- and has the key at its place
pub insert-place : (es : List (List ℕ × Row)) (key : List ℕ) (value : Row) → get_or (keys_of (insert_entry (pointwise nat_eq) es key value)) (position_or_len (pointwise nat_eq key) (keys_of es)) [] ≡ key
insert-place [] key value = refl
insert-place (e ∷ es) key value =
    elim (cases (pointwise nat_eq key e.0)) [
      | inl t ↦ rw t (sym (exact_key key e.0 t))
      | inr m ↦ rw m (ap (λ (i : ℕ). get_or (e.0 ∷ keys_of (insert_entry (pointwise nat_eq) es key value)) i []) (one_more (position_or_len (pointwise nat_eq key) (keys_of es))) ∙ insert-place es key value)
    ]
  where
    one_more : (i : ℕ) → 1 + i ≡ suc i
    one_more i = omega arith

-- what a put makes of the entries
pub put-entry : (k key : List ℕ) (value : Row) (es rows : List (List ℕ × Row)) (n now : ℕ)
    → lookup (pointwise nat_eq k) rows ≡ cond (pointwise nat_eq key k) (Some value) (lookup (pointwise nat_eq k) es)
    → is_fresh now rows k ≡ is_fresh n es k || pointwise nat_eq k key
    → entry_in now rows k ≡ edited (key, Some value.value) k (entry_in n es k)
put-entry k key value es rows n now values fresh =
    ap (λ (o : Option Row). entry_of o (is_fresh now rows k)) values
    ∙ ap (entry_of (cond (pointwise nat_eq key k) (Some value) (lookup (pointwise nat_eq k) es))) (fresh ∙ ap (λ (b : Bool). is_fresh n es k || b) (nat_list_eq_equiv.symm k key))
    ∙ go (pointwise nat_eq key k) (lookup (pointwise nat_eq k) es) (is_fresh n es k)
    ∙ ap (λ (b : Bool). cond b (Some (record { value = value.value; fresh = true })) (entry_in n es k)) (same_keys key k)
  where
    go : (b : Bool) (o : Option Row) (f : Bool) → entry_of (cond b (Some value) o) (f || b) ≡ cond b (Some (record { value = value.value; fresh = true })) (entry_of o f)
    go true o true = refl
    go true o false = refl
    go false o f = ap (entry_of o) (or_right f)

-- and a removal
pub gone-entry : (k key : List ℕ) (es rows : List (List ℕ × Row)) (n now : ℕ)
    → lookup (pointwise nat_eq k) rows ≡ cond (pointwise nat_eq key k) None (lookup (pointwise nat_eq k) es)
    → (pointwise nat_eq key k ≡ false → is_fresh now rows k ≡ is_fresh n es k)
    → entry_in now rows k ≡ edited (key, None) k (entry_in n es k)
gone-entry k key es rows n now values fresh =
    ap (λ (o : Option Row). entry_of o (is_fresh now rows k)) values
    ∙ go (pointwise nat_eq key k) (lookup (pointwise nat_eq k) es) fresh
    ∙ ap (λ (b : Bool). cond b None (entry_in n es k)) (same_keys key k)
  where
    go : (b : Bool) (o : Option Row) → (b ≡ false → is_fresh now rows k ≡ is_fresh n es k) → entry_of (cond b None o) (is_fresh now rows k) ≡ cond b None (entry_of o (is_fresh n es k))
    go true o f = refl
    go false o f = ap (entry_of o) (f refl)

-- the place that an insertion gives
pub put-fresh : (k key : List ℕ) (value : Row) (es rows : List (List ℕ × Row)) (n place : ℕ) → n ≤ length es → rows ≡ insert_entry (pointwise nat_eq) es key value → place ≡ position_or_len (pointwise nat_eq key) (keys_of es)
    → is_fresh n rows k || pointwise nat_eq k (get_or (keys_of rows) place []) ≡ is_fresh n es k || pointwise nat_eq k key
put-fresh k key value es rows n place le is at =
    ap (λ (l : List (List ℕ × Row)). is_fresh n l k || pointwise nat_eq k (get_or (keys_of l) place [])) is
    ∙ ap (λ (b : Bool). b || pointwise nat_eq k (get_or (keys_of (insert_entry (pointwise nat_eq) es key value)) place [])) (insert-keeps (pointwise nat_eq k) n es key value le)
    ∙ ap (λ (i : ℕ). is_fresh n es k || pointwise nat_eq k (get_or (keys_of (insert_entry (pointwise nat_eq) es key value)) i [])) at
    ∙ ap (λ (q : List ℕ). is_fresh n es k || pointwise nat_eq k q) (insert-place es key value)

row-key : (key : List ℕ) (es : List (List ℕ × Row)) (i : ℕ) → position (pointwise nat_eq key) (keys_of es) ≡ Some i → (i < length es) × ((get_or es i no_row).0 ≡ key)
row-key key es i at =
    let facts = position-Some (pointwise nat_eq key) (keys_of es) i [] at in
    (subst (λ (n : ℕ). i < n) (length-keys es) facts.0, sym (key-at es i) ∙ sym (exact_key key (get_or (keys_of es) i []) facts.1))

module _ {S : Type 0} (mid new : IndexMap (List ℕ) Row S) (j : ℕ) (result : Option (List ℕ × Row)) (lt : j < length mid.entries) (is : result ≡ slice_get mid.entries j)
    (entries : IfSome result (λ p. new.entries ≡ swap_remove mid.entries j p)) (updates : IfSome result (λ p. Updates (pointwise nat_eq) mid new p.0 None)) where
  found : result ≡ Some (get_or mid.entries j no_row)
  found = is ∙ slice_get-get_or mid.entries j no_row lt

  removed-entries : new.entries ≡ swap_remove mid.entries j (get_or mid.entries j no_row)
  removed-entries = rw found at entries

  removed-values : (q : List ℕ) → lookup (pointwise nat_eq q) new.entries ≡ cond (pointwise nat_eq (get_or mid.entries j no_row).0 q) None (lookup (pointwise nat_eq q) mid.entries)
  removed-values = let u = rw found at updates in u.0

  -- the rows without a stale one
  pub row-stale : (k key : List ℕ) → position (pointwise nat_eq key) (keys_of mid.entries) ≡ Some j → lookup (pointwise nat_eq k) new.entries ≡ cond (pointwise nat_eq key k) None (lookup (pointwise nat_eq k) mid.entries)
  row-stale k key at = removed-values k ∙ ap (λ (q : List ℕ). cond (pointwise nat_eq q k) None (lookup (pointwise nat_eq k) mid.entries)) (row-key key mid.entries j at).1

  -- and without a fresh one
  pub row-fresh : (es : List (List ℕ × Row)) (k key : List ℕ) (n i : ℕ) → position (pointwise nat_eq key) (keys_of es) ≡ Some i → i < n → n ≤ length es → j ≡ n - 1 → mid.entries ≡ swap es i j
      → ((q : List ℕ) → lookup (pointwise nat_eq q) mid.entries ≡ lookup (pointwise nat_eq q) es) → lookup (pointwise nat_eq k) new.entries ≡ cond (pointwise nat_eq key k) None (lookup (pointwise nat_eq k) es)
  row-fresh es k key n i at below le last mid_is same =
      let row = row-key key es i at in
      let in_es : j < length es = omega arith in
      let moved : get_or mid.entries j no_row ≡ get_or es i no_row =
      ap (λ (l : List (List ℕ × Row)). get_or l j no_row) (mid_is ∙ sym (swap_is es i j no_row row.0 in_es))
      ∙ get_or-set_same (set es i (get_or es j no_row)) j (get_or es i no_row) no_row (omega (arith, length-set {A = List ℕ × Row})) in
      removed-values k ∙ ap (λ (q : List ℕ). cond (pointwise nat_eq q k) None (lookup (pointwise nat_eq k) mid.entries)) (ap (λ (e : List ℕ × Row). e.0) moved ∙ row.1)
      ∙ ap (cond (pointwise nat_eq key k) None) (same k)

  -- a stale row is gone
  pub gone-stale : (k key : List ℕ) (n : ℕ) → position (pointwise nat_eq key) (keys_of mid.entries) ≡ Some j → n ≤ j → entry_in n new.entries k ≡ edited (key, None) k (entry_in n mid.entries k)
  gone-stale k key n at le =
      let row = row-key key mid.entries j at in
      gone-entry k key mid.entries new.entries n n
      (removed-values k ∙ ap (λ (q : List ℕ). cond (pointwise nat_eq q k) None (lookup (pointwise nat_eq k) mid.entries)) row.1)
      (λ other. ap (λ (l : List (List ℕ × Row)). is_fresh n l k) removed-entries ∙ fresh-entries (pointwise nat_eq k) n (swap_remove mid.entries j (get_or mid.entries j no_row))
      ∙ ap (list_any (λ (e : List ℕ × Row). pointwise nat_eq k e.0)) (take-removed mid.entries n j (get_or mid.entries j no_row) le lt) ∙ sym (fresh-entries (pointwise nat_eq k) n mid.entries))

  -- a fresh row is gone, once it stood last of them
  pub gone-fresh : (es : List (List ℕ × Row)) (k key : List ℕ) (n i : ℕ) → position (pointwise nat_eq key) (keys_of es) ≡ Some i → i < n → n ≤ length es → j ≡ n - 1 → mid.entries ≡ swap es i j
      → ((q : List ℕ) → lookup (pointwise nat_eq q) mid.entries ≡ lookup (pointwise nat_eq q) es) → entry_in j new.entries k ≡ edited (key, None) k (entry_in n es k)
  gone-fresh es k key n i at below le last mid_is same =
      let row = row-key key es i at in
      let in_es : j < length es = omega arith in
      let n_is : j + 1 ≡ n = omega arith in
      let moved : get_or mid.entries j no_row ≡ get_or es i no_row =
      ap (λ (l : List (List ℕ × Row)). get_or l j no_row) (mid_is ∙ sym (swap_is es i j no_row row.0 in_es))
      ∙ get_or-set_same (set es i (get_or es j no_row)) j (get_or es i no_row) no_row (omega (arith, length-set {A = List ℕ × Row})) in
      gone-entry k key es new.entries n j
      (removed-values k ∙ ap (λ (q : List ℕ). cond (pointwise nat_eq q k) None (lookup (pointwise nat_eq k) mid.entries)) (ap (λ (e : List ℕ × Row). e.0) moved ∙ row.1)
      ∙ ap (cond (pointwise nat_eq key k) None) (same k))
      (λ other. ap (λ (l : List (List ℕ × Row)). is_fresh j l k) removed-entries ∙ fresh-entries (pointwise nat_eq k) j (swap_remove mid.entries j (get_or mid.entries j no_row))
      ∙ ap (list_any (λ (e : List ℕ × Row). pointwise nat_eq k e.0)) (take-removed mid.entries j j (get_or mid.entries j no_row) (omega arith) lt ∙ ap (take j) mid_is)
      ∙ any-shrink (λ (e : List ℕ × Row). pointwise nat_eq k e.0) es i j no_row (omega arith) in_es (ap (pointwise nat_eq k) row.1 ∙ nat_list_eq_equiv.symm k key ∙ other)
      ∙ ap (λ (m : ℕ). list_any (λ (e : List ℕ × Row). pointwise nat_eq k e.0) (take m es)) n_is
      ∙ sym (fresh-entries (pointwise nat_eq k) n es))

-- a key that isn't there
pub gone-absent : (k key : List ℕ) (n : ℕ) (es : List (List ℕ × Row)) → is_some (lookup (pointwise nat_eq key) es) ≡ false → entry_in n es k ≡ edited (key, None) k (entry_in n es k)
gone-absent k key n es none =
    elim (cases (pointwise nat_eq key k)) [
      | inl t ↦
          let e : lookup (pointwise nat_eq k) es ≡ None = none_of _ (ap (λ (q : List ℕ). is_some (lookup (pointwise nat_eq q) es)) (sym (exact_key key k t)) ∙ none) in
          ap (λ (o : Option Row). entry_of o (is_fresh n es k)) e ∙ sym (ap (λ (b : Bool). cond b None (entry_in n es k)) (sym (same_keys key k) ∙ t))
      | inr m ↦ sym (ap (λ (b : Bool). cond b None (entry_in n es k)) (sym (same_keys key k) ∙ m))
    ]
  where
    none_of : (o : Option Row) → is_some o ≡ false → o ≡ None
    none_of None h = refl
    none_of (Some v) h = cc
