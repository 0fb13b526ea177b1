-- The parts of a history that a watch delivers, one revision after another.
use Rattle.std.proofs.Common.{◌≡◌, ℕ, zero, suc, ◌+◌, ◌-◌, ◌<◌, ◌≤◌, leb, max, List, [], ◌∷◌, ◌++◌, length, filter, Bool, true, false, cond, refl, ap, ap₂, sym, ◌∙◌, append_assoc, arith, ◌⊎◌, inl, inr}
use Rattle.std.proofs.lemmas.Bool.{cases_lt, le-leb, lt-leb}
use Rattle.std.proofs.lemmas.List.{append-nil}
use Rattle.store_api.specs.Followed.{Part, one_part, part_at, parts}
use Rattle.store_api.specs.History.{History}
use Rattle.store_api.specs.declared.change.Change.{Change}

-- a change that passes, and one that does not
pub taken : (p : Change → Bool) (some rest all : List Change) (c : Change) → some ++ filter p (c ∷ rest) ≡ filter p all → p c ≡ true → (some ++ c ∷ []) ++ filter p rest ≡ filter p all
taken p some rest all c left keeps = append_assoc some (c ∷ []) (filter p rest) ∙ ap (λ (l : List Change). some ++ l) (sym (ap (λ (b : Bool). cond b (c ∷ filter p rest) (filter p rest)) keeps)) ∙ left

pub passed : (p : Change → Bool) (some rest all : List Change) (c : Change) → some ++ filter p (c ∷ rest) ≡ filter p all → p c ≡ false → some ++ filter p rest ≡ filter p all
passed p some rest all c left drops = ap (λ (l : List Change). some ++ l) (sym (ap (λ (b : Bool). cond b (c ∷ filter p rest) (filter p rest)) drops)) ∙ left

module _ (inside : List ℕ → Bool) (h : History) (a : ℕ) where
  -- at and below where it begins, and before the first revision, nothing is delivered
  pub parts_none : (r : ℕ) → (r ≤ a) ⊎ (r ≤ 1) → parts inside h a r ≡ []
  parts_none zero low = refl
  parts_none (suc zero) low = elim (leb 1 a) as (λ (b : Bool). cond b [] ([] ++ one_part 1 []) ≡ []) [ true ↦ refl | false ↦ refl ]
  parts_none (suc (suc r)) (inl le) = ap (λ (b : Bool). cond b [] (parts inside h a (suc r) ++ one_part (suc (suc r)) (part_at inside h (suc (suc r))))) (le-leb (suc (suc r)) a le)
  parts_none (suc (suc r)) (inr le) = absurd (omega arith)

  one_some : (n : ℕ) (changes : List Change) → 0 < length changes → one_part n changes ≡ record { number = n; changes = changes } ∷ []
  one_some n [] some = absurd (omega arith)
  one_some n (c ∷ changes) some = refl

  one_none : (n : ℕ) (changes : List Change) → length changes ≡ 0 → one_part n changes ≡ []
  one_none n [] none = refl
  one_none n (c ∷ changes) none = absurd (omega arith)

  module _ (r n : ℕ) (changes : List Change) (next : n ≡ suc r) (above : a ≤ r) (are : changes ≡ part_at inside h (suc r)) where
    parts_next : parts inside h a n ≡ parts inside h a r ++ one_part n changes
    parts_next =
        ap (parts inside h a) next
        ∙ ap (λ (b : Bool). cond b [] (parts inside h a r ++ one_part (suc r) (part_at inside h (suc r)))) (lt-leb (suc r) a (omega arith))
        ∙ ap (λ (l : List Part). parts inside h a r ++ l) (ap₂ one_part (sym next) (sym are))

    pub parts_some : 0 < length changes → parts inside h a n ≡ parts inside h a r ++ record { number = n; changes = changes } ∷ []
    parts_some some = parts_next ∙ ap (λ (l : List Part). parts inside h a r ++ l) (one_some n changes some)

    pub parts_more : length changes ≡ 0 → parts inside h a n ≡ parts inside h a r
    parts_more none = parts_next ∙ ap (λ (l : List Part). parts inside h a r ++ l) (one_none n changes none) ∙ append-nil (parts inside h a r)

  -- where it ends
  pub parts_all : (place upto : ℕ) → max upto 1 - 1 ≤ place → place + 1 ≤ max (max a 1) (max upto 1) → parts inside h a (place + 1) ≡ parts inside h a upto
  parts_all place upto behind within =
      elim (upto_above upto) [
        | inl low ↦ parts_none (place + 1) (low_place low) ∙ sym (parts_none upto low)
        | inr high ↦ ap (parts inside h a) (omega (arith, high))
      ]
    where
      upto_above : (upto : ℕ) → ((upto ≤ a) ⊎ (upto ≤ 1)) ⊎ (max a 1 < upto)
      upto_above upto =
          elim (cases_lt a upto) [
            | inl above ↦ elim (cases_lt 1 upto) [ inl two ↦ inr (omega arith) | inr one ↦ inl (inr one) ]
            | inr le ↦ inl (inl le)
          ]

      low_place : (upto ≤ a) ⊎ (upto ≤ 1) → (place + 1 ≤ a) ⊎ (place + 1 ≤ 1)
      low_place (inl low) = elim (cases_lt a (place + 1)) [ inl above ↦ inr (omega arith) | inr le ↦ inl le ]
      low_place (inr low) = elim (cases_lt a (place + 1)) [ inl above ↦ inr (omega arith) | inr le ↦ inl le ]
