-- The keys of each lease after a key is attached or detached.
use Rattle.std.proofs.Common.{◌≡◌, ℕ, ◌==◌, List, Option, None, Some, Bool, true, false, cond, refl, ap, sym, ◌∙◌, ◌⊎◌, inl, inr}
use Rattle.std.specs.Ordering.{nat_cmp}
use Rattle.std.specs.Cmp.Lexicographic.{slice_cmp}
use Rattle.std.specs.BTreeMap.{BTreeMap, get}
use Rattle.std.specs.BTreeSet.{BTreeSet}
use Rattle.mesh_base.specs.Order.{same_bytes}
use Rattle.store_api.specs.Attached.{is_lease}
use Rattle.memory_store.specs.Index.{HasKeys, is_under}
use Rattle.memory_store.proofs.Sets.{same_key}

pub cases : (b : Bool) → (b ≡ true) ⊎ (b ≡ false)
cases true = inl refl
cases false = inr refl

either_false : (b : Bool) → cond b false false ≡ false
either_false true = refl
either_false false = refl

module _ (leases later : BTreeMap (List ℕ) ℕ) (keys new : BTreeMap ℕ (BTreeSet (List ℕ))) (key : List ℕ) (has : HasKeys leases keys) where
  -- another key, and none
  same_elsewhere : (n : ℕ) (k : List ℕ) (was : Bool) (lease : Option ℕ) → same_bytes key k ≡ false → get (slice_cmp nat_cmp) later k ≡ cond (same_bytes key k) lease (get (slice_cmp nat_cmp) leases k)
      → is_under keys n k ≡ is_lease n (get (slice_cmp nat_cmp) later k)
  same_elsewhere n k was lease other put = has n k ∙ ap (is_lease n) (sym (put ∙ ap (λ (b : Bool). cond b lease (get (slice_cmp nat_cmp) leases k)) other))

  module _ (lease : ℕ) where
    forgot_at : (n : ℕ) (k : List ℕ) → get (slice_cmp nat_cmp) leases key ≡ Some lease → same_bytes key k ≡ true → cond (lease == n) false (is_under keys n k) ≡ false
    forgot_at n k was same =
        let here : is_under keys n k ≡ (lease == n) = has n k ∙ ap (λ (q : List ℕ). is_lease n (get (slice_cmp nat_cmp) leases q)) (sym (same_key key k same)) ∙ ap (is_lease n) was in
        ap (cond (lease == n) false) here ∙ elim (lease == n) as (λ b. cond b false b ≡ false) [ true ↦ refl | false ↦ refl ]

    pub forgotten : get (slice_cmp nat_cmp) leases key ≡ Some lease → ((k : List ℕ) → get (slice_cmp nat_cmp) later k ≡ cond (same_bytes key k) None (get (slice_cmp nat_cmp) leases k))
        → ((n : ℕ) (k : List ℕ) → is_under new n k ≡ cond (lease == n) (cond (same_bytes key k) false (is_under keys n k)) (is_under keys n k)) → HasKeys later new
    forgotten was gone is n k =
        is n k ∙ elim (cases (same_bytes key k)) [
          | inl t ↦
              ap (λ (b : Bool). cond (lease == n) (cond b false (is_under keys n k)) (is_under keys n k)) t ∙ forgot_at n k was t
              ∙ ap (is_lease n) (sym (gone k ∙ ap (λ (b : Bool). cond b None (get (slice_cmp nat_cmp) leases k)) t))
          | inr f ↦
              ap (λ (b : Bool). cond (lease == n) (cond b false (is_under keys n k)) (is_under keys n k)) f ∙ either (lease == n) (is_under keys n k)
              ∙ same_elsewhere n k true None f (gone k)
        ]
      where
        either : (b x : Bool) → cond b x x ≡ x
        either true x = refl
        either false x = refl

    added_at : (n : ℕ) (k : List ℕ) → get (slice_cmp nat_cmp) leases key ≡ None → same_bytes key k ≡ true → cond (lease == n) true (is_under keys n k) ≡ (lease == n)
    added_at n k was same =
        let here : is_under keys n k ≡ false = has n k ∙ ap (λ (q : List ℕ). is_lease n (get (slice_cmp nat_cmp) leases q)) (sym (same_key key k same)) ∙ ap (is_lease n) was in
        ap (cond (lease == n) true) here ∙ elim (lease == n) as (λ b. cond b true false ≡ b) [ true ↦ refl | false ↦ refl ]

    pub added : get (slice_cmp nat_cmp) leases key ≡ None → ((k : List ℕ) → get (slice_cmp nat_cmp) later k ≡ cond (same_bytes key k) (Some lease) (get (slice_cmp nat_cmp) leases k))
        → ((n : ℕ) (k : List ℕ) → is_under new n k ≡ cond (lease == n) (cond (same_bytes key k) true (is_under keys n k)) (is_under keys n k)) → HasKeys later new
    added was put is n k =
        is n k ∙ elim (cases (same_bytes key k)) [
          | inl t ↦
              ap (λ (b : Bool). cond (lease == n) (cond b true (is_under keys n k)) (is_under keys n k)) t ∙ added_at n k was t
              ∙ ap (is_lease n) (sym (put k ∙ ap (λ (b : Bool). cond b (Some lease) (get (slice_cmp nat_cmp) leases k)) t))
          | inr f ↦
              ap (λ (b : Bool). cond (lease == n) (cond b true (is_under keys n k)) (is_under keys n k)) f ∙ either (lease == n) (is_under keys n k)
              ∙ same_elsewhere n k true (Some lease) f (put k)
        ]
      where
        either : (b x : Bool) → cond b x x ≡ x
        either true x = refl
        either false x = refl

  -- a key that was attached to none
  pub none_forgotten : get (slice_cmp nat_cmp) leases key ≡ None → ((k : List ℕ) → get (slice_cmp nat_cmp) later k ≡ cond (same_bytes key k) None (get (slice_cmp nat_cmp) leases k)) → HasKeys later keys
  none_forgotten was gone n k =
      elim (cases (same_bytes key k)) [
        | inl t ↦
            has n k ∙ ap (λ (q : List ℕ). is_lease n (get (slice_cmp nat_cmp) leases q)) (sym (same_key key k t)) ∙ ap (is_lease n) (was ∙ sym (gone k ∙ ap (λ (b : Bool). cond b None (get (slice_cmp nat_cmp) leases k)) t))
        | inr f ↦ same_elsewhere n k true None f (gone k)
      ]
