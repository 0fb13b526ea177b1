use Rattle.std.proofs.Common.{◌≡◌, ◌<◌, ◌≤◌, ◌-◌, ℕ, List, [], ◌∷◌, length, map, take, drop, get_or, false, ◌∙◌, ap, subst, arith}
use Rattle.std.proofs.lemmas.List.{take_rest}
use Rattle.std.specs.List.{IsDistinct, AllByRecursion}
use Rattle.mesh_base.specs.Order.{same_bytes}
use Rattle.store_api.specs.History.{key_of}
use Rattle.store_api.specs.declared.change.Op.{Op}
use Rattle.store_tests.proofs.script.+are_distinct.Goals as goal

distinct_none : (ops : List Op) → length ops < 1 → IsDistinct same_bytes (map key_of ops)
unfolding IsDistinct
distinct_none [] less = tt
distinct_none (op ∷ ops) less = absurd (omega (arith, less))

distinct_more : (ops : List Op) (first : Op) (key : List ℕ) (rest : List Op) → 1 ≤ length ops → first ≡ get_or ops 0 first → key ≡ key_of first → rest ≡ drop 1 ops
    → AllByRecursion (λ (k : List ℕ). same_bytes key k ≡ false) (map key_of rest) → IsDistinct same_bytes (map key_of rest) → IsDistinct same_bytes (map key_of ops)
unfolding IsDistinct
distinct_more [] first key rest some is of left free distinct = absurd (omega (arith, some))
distinct_more (op ∷ ops) first key rest some is of left free distinct = (
  subst (λ (k : List ℕ). AllByRecursion (λ (j : List ℕ). same_bytes k j ≡ false) (map key_of ops)) (of ∙ ap key_of is)
      (subst (λ (os : List Op). AllByRecursion (λ (j : List ℕ). same_bytes key j ≡ false) (map key_of os)) left free),
  subst (λ (os : List Op). IsDistinct same_bytes (map key_of os)) left distinct,
)

pub returns-in-empty : goal.returns-in-empty
returns-in-empty t c = λ _. distinct_none c.args.ops.now c.in-empty.len_below

pub returns-then-is_free : goal.returns-then-is_free
returns-then-is_free t c = λ holds.
    distinct_more c.args.ops.now c.first-item.result c.key.result.now (take (length c.args.ops.now - 1) (drop 1 c.args.ops.now)) c.in-len1-up.len_at_least c.first-item.is c.key.ensures
    (take_rest c.args.ops.now 1) (c.is_free.ensures c.if-is_free.true) (c.are_distinct.ensures holds)
