-- What changes do to one key.
use Rattle.std.proofs.Common.{◌≡◌, ℕ, List, [], ◌∷◌, ◌||◌, Bool, true, false, cond, filter, map, Option, None, Some, refl, ap, sym, ◌∙◌, inl, inr}
use Rattle.std.proofs.lemmas.Map.Lookups.{exact_bytes}
use Rattle.std.specs.Ordering.{nat_cmp, is_eq}
use Rattle.std.specs.declared.cmp.Ordering.{Ordering}
use Rattle.std.specs.declared.cmp.Ordering.TheVariants.{Less, Equal, Greater}
use Rattle.std.specs.Cmp.Lexicographic.{slice_cmp}
use Rattle.mesh_base.specs.Order.{same_bytes}
use Rattle.store_api.specs.History.{after_change, after_changes}
use Rattle.store_api.specs.declared.change.Change.{Change}
use Rattle.store_api.specs.declared.change.Change.TheVariants as change
use Rattle.store_api.specs.Followed.{changed_key, touches}
use Rattle.relist_merge.specs.Deliveries.{edit_of}
use Rattle.relist_merge.specs.View.{Entry, value_of, fresh_of, edited, edited_all}
use Rattle.relist_merge.proofs.Numbers.{cases, or_cases}

equal_of : (r : Ordering) → is_eq r ≡ true → r ≡ Equal
equal_of Less h = cc
equal_of Equal h = refl
equal_of Greater h = cc

pub same_key : (a b : List ℕ) → same_bytes a b ≡ true → a ≡ b
same_key a b h = exact_bytes a b (equal_of (slice_cmp nat_cmp a b) h)

put_by : Change → Option (List ℕ)
put_by (change.Put key value lease) = Some value
put_by (change.Delete key) = None

after_is : (k : List ℕ) (old : Option (List ℕ)) (c : Change) → after_change k old c ≡ cond (same_bytes (changed_key c) k) (put_by c) old
unfolding put_by
after_is k old (change.Put key value lease) = refl
after_is k old (change.Delete key) = refl

after-not : (k : List ℕ) (old : Option (List ℕ)) (c : Change) → same_bytes (changed_key c) k ≡ false → after_change k old c ≡ old
after-not k old c h = after_is k old c ∙ ap (λ (b : Bool). cond b (put_by c) old) h

after-at : (k : List ℕ) (old : Option (List ℕ)) (c : Change) → same_bytes (changed_key c) k ≡ true → after_change k old c ≡ put_by c
after-at k old c h = after_is k old c ∙ ap (λ (b : Bool). cond b (put_by c) old) h

or_false : (a b : Bool) → a || b ≡ false → (a ≡ false) × (b ≡ false)
or_false true b h = cc
or_false false b h = (refl, h)

module _ (k : List ℕ) where
  pub untouched : (old : Option (List ℕ)) (changes : List Change) → touches k changes ≡ false → after_changes k old changes ≡ old
  untouched old [] h = refl
  untouched old (c ∷ changes) h =
      let both = or_false (same_bytes (changed_key c) k) (touches k changes) h in
      untouched (after_change k old c) changes both.1 ∙ after-not k old c both.0

  pub touched : (x y : Option (List ℕ)) (changes : List Change) → touches k changes ≡ true → after_changes k x changes ≡ after_changes k y changes
  touched x y [] h = cc
  touched x y (c ∷ changes) h =
      elim (or_cases (same_bytes (changed_key c) k) (touches k changes) h) [
        | inl t ↦ ap (λ (o : Option (List ℕ)). after_changes k o changes) (after-at k x c t ∙ sym (after-at k y c t))
        | inr t ↦ touched (after_change k x c) (after_change k y c) changes t
      ]

  value_one : (e : Option Entry) (c : Change) → value_of (edited (edit_of c) k e) ≡ after_change k (value_of e) c
  value_one e (change.Put key value lease) = elim (same_bytes key k) as (λ b. value_of (cond b (Some (record { value = value; fresh = true })) e) ≡ cond b (Some value) (value_of e)) [ true ↦ refl | false ↦ refl ]
  value_one e (change.Delete key) = elim (same_bytes key k) as (λ b. value_of (cond b None e) ≡ cond b None (value_of e)) [ true ↦ refl | false ↦ refl ]

  fresh_one : (e : Option Entry) (c : Change) → fresh_of (edited (edit_of c) k e) ≡ after_change k (fresh_of e) c
  fresh_one e (change.Put key value lease) = elim (same_bytes key k) as (λ b. fresh_of (cond b (Some (record { value = value; fresh = true })) e) ≡ cond b (Some value) (fresh_of e)) [ true ↦ refl | false ↦ refl ]
  fresh_one e (change.Delete key) = elim (same_bytes key k) as (λ b. fresh_of (cond b None e) ≡ cond b None (fresh_of e)) [ true ↦ refl | false ↦ refl ]

  pub value_after : (e : Option Entry) (changes : List Change) → value_of (edited_all (map edit_of changes) k e) ≡ after_changes k (value_of e) changes
  value_after e [] = refl
  value_after e (c ∷ changes) = value_after (edited (edit_of c) k e) changes ∙ ap (λ (o : Option (List ℕ)). after_changes k o changes) (value_one e c)

  pub fresh_after : (e : Option Entry) (changes : List Change) → fresh_of (edited_all (map edit_of changes) k e) ≡ after_changes k (fresh_of e) changes
  fresh_after e [] = refl
  fresh_after e (c ∷ changes) = fresh_after (edited (edit_of c) k e) changes ∙ ap (λ (o : Option (List ℕ)). after_changes k o changes) (fresh_one e c)

module _ (inside : List ℕ → Bool) (k : List ℕ) where
  kept : List Change → List Change
  kept changes = filter (λ (c : Change). inside (changed_key c)) changes

  other_key : (c : Change) → inside k ≡ true → inside (changed_key c) ≡ false → same_bytes (changed_key c) k ≡ false
  other_key c i o = elim (cases (same_bytes (changed_key c) k)) [ inl t ↦ let e = ap inside (same_key (changed_key c) k t) in cc | inr n ↦ n ]

  pub kept-touches : (changes : List Change) → inside k ≡ true → touches k (filter (λ (c : Change). inside (changed_key c)) changes) ≡ touches k changes
  kept-touches [] i = refl
  kept-touches (c ∷ changes) i =
      elim (cases (inside (changed_key c))) [
        | inl t ↦ rw t (ap (λ (b : Bool). same_bytes (changed_key c) k || b) (kept-touches changes i))
        | inr n ↦ rw (n, other_key c i n) (kept-touches changes i)
      ]

  pub kept-after : (old : Option (List ℕ)) (changes : List Change) → inside k ≡ true → after_changes k old (filter (λ (c : Change). inside (changed_key c)) changes) ≡ after_changes k old changes
  kept-after old [] i = refl
  kept-after old (c ∷ changes) i =
      elim (cases (inside (changed_key c))) [
        | inl t ↦ rw t (kept-after (after_change k old c) changes i)
        | inr n ↦ rw n (kept-after old changes i ∙ ap (λ (o : Option (List ℕ)). after_changes k o changes) (sym (after-not k old c (other_key c i n))))
      ]

  pub kept-none : (changes : List Change) → inside k ≡ false → touches k (filter (λ (c : Change). inside (changed_key c)) changes) ≡ false
  kept-none [] o = refl
  kept-none (c ∷ changes) o =
      elim (cases (inside (changed_key c))) [
        | inl t ↦
            let other : same_bytes (changed_key c) k ≡ false = elim (cases (same_bytes (changed_key c) k)) [ inl s ↦ let e = ap inside (same_key (changed_key c) k s) in cc | inr n ↦ n ] in
            rw (t, other) (kept-none changes o)
        | inr n ↦ rw n (kept-none changes o)
      ]
