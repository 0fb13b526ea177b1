-- Items written one after another, and keys that wait.
use Rattle.std.proofs.Common.{◌≡◌, ℕ, zero, suc, ◌-◌, List, [], ◌∷◌, length, drop, refl, true, false, cond, is_some, arith}
use Rattle.exporter.specs.State.{Export, after_item, after_items, waiting, with_key}

pub after_more : (n : ℕ) (s : Export) → after_item (after_items n s) ≡ after_items (suc n) s
after_more zero s = refl
after_more (suc n) s = after_more n (after_item s)

length_rest : {A : Type 0} (xs : List A) → length (drop 1 xs) ≡ length xs - 1
length_rest [] = refl
length_rest (x ∷ xs) = omega arith

-- how many items wait after some were written
pub left_after : (n : ℕ) (s : Export) → length (after_items n s).queue ≡ length s.queue - n
left_after zero s = omega arith
left_after (suc n) s = omega (arith, left_after n (after_item s), length_rest s.queue)

-- a key that waits more changes no cluster
pub waiting_cluster : (key : List ℕ) (s : Export) → (waiting key s).cluster ≡ s.cluster
waiting_cluster key s = elim (is_some s.lease) as (λ b. (cond b (record s { queue = with_key key s.queue }) s).cluster ≡ s.cluster) [ true ↦ refl | false ↦ refl ]
