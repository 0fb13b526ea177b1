-- What one revision more does to what is live and to what is attached.
use Rattle.std.proofs.Common.{◌≡◌, ℕ, zero, suc, ◌+◌, ◌≤◌, List, [], ◌∷◌, ◌++◌, length, Option, None, Some, true, false, cond, is_some, IsTrue, refl, ap, sym, ◌∙◌, arith}
use Rattle.std.proofs.lemmas.List.{get_or_append_left, get_or_push, length-append}
use Rattle.mesh_base.specs.Order.{same_bytes}
use Rattle.store_api.specs.Attached.{lease_after_all, lease_at, lease_of}
use Rattle.store_api.specs.History.{History, revision, changes_at, live_at, after_changes, with_revision, changes_of, committed}
use Rattle.store_api.specs.declared.change.Change.{Change}
use Rattle.store_api.specs.declared.change.Change.TheVariants as change
use Rattle.store_api.proofs.CallerLemmas.{attached_live}
use Rattle.exporter.specs.State.{record_op}
use Rattle.exporter.proofs.Maps.{same_bytes_are}

changes_longer : (h more : History) (r : ℕ) → r ≤ length h + 1 → changes_at (h ++ more) r ≡ changes_at h r
changes_longer h more zero le = refl
changes_longer h more (suc zero) le = refl
changes_longer h more (suc (suc i)) le = get_or_append_left h more [] i (omega arith)

live_longer : (h more : History) (r : ℕ) (k : List ℕ) → r ≤ length h + 1 → live_at (h ++ more) r k ≡ live_at h r k
live_longer h more zero k le = refl
live_longer h more (suc r) k le =
    ap (λ (cs : List Change). after_changes k (live_at (h ++ more) r k) cs) (changes_longer h more (suc r) le)
    ∙ ap (λ (o : Option (List ℕ)). after_changes k o (changes_at h (suc r))) (live_longer h more r k (omega arith))

lease_longer : (h more : History) (r : ℕ) (k : List ℕ) → r ≤ length h + 1 → lease_at (h ++ more) r k ≡ lease_at h r k
lease_longer h more zero k le = refl
lease_longer h more (suc r) k le =
    ap (λ (cs : List Change). lease_after_all k (lease_at (h ++ more) r k) cs) (changes_longer h more (suc r) le)
    ∙ ap (λ (o : Option ℕ). lease_after_all k o (changes_at h (suc r))) (lease_longer h more r k (omega arith))

abbrev pub live_now : History → List ℕ → Option (List ℕ)
live_now h k = live_at h (revision h) k

live_more : (h : History) (changes : List Change) (k : List ℕ) → live_now (h ++ changes ∷ []) k ≡ after_changes k (live_now h k) changes
live_more h changes k =
    let size : length (h ++ changes ∷ []) + 1 ≡ suc (suc (length h)) = omega (arith, length-append h (changes ∷ [])) in
    let one : suc (length h) ≡ revision h = omega arith in
    let now : live_at (h ++ changes ∷ []) (suc (length h)) k ≡ live_now h k = live_longer h (changes ∷ []) (suc (length h)) k (omega arith) ∙ ap (λ (r : ℕ). live_at h r k) one in
    ap (λ (r : ℕ). live_at (h ++ changes ∷ []) r k) size
    ∙ ap (λ (cs : List Change). after_changes k (live_at (h ++ changes ∷ []) (suc (length h)) k) cs) (get_or_push h changes [] (length h) refl)
    ∙ ap (λ (o : Option (List ℕ)). after_changes k o changes) now

lease_more : (h : History) (changes : List Change) (k : List ℕ) → lease_of (h ++ changes ∷ []) k ≡ lease_after_all k (lease_of h k) changes
lease_more h changes k =
    let size : length (h ++ changes ∷ []) + 1 ≡ suc (suc (length h)) = omega (arith, length-append h (changes ∷ [])) in
    let one : suc (length h) ≡ revision h = omega arith in
    let now : lease_at (h ++ changes ∷ []) (suc (length h)) k ≡ lease_of h k = lease_longer h (changes ∷ []) (suc (length h)) k (omega arith) ∙ ap (λ (r : ℕ). lease_at h r k) one in
    ap (λ (r : ℕ). lease_at (h ++ changes ∷ []) r k) size
    ∙ ap (λ (cs : List Change). lease_after_all k (lease_at (h ++ changes ∷ []) (suc (length h)) k) cs) (get_or_push h changes [] (length h) refl)
    ∙ ap (λ (o : Option ℕ). lease_after_all k o changes) now

-- after a revision of these changes, if there are any
pub live_with : (h : History) (changes : List Change) (k : List ℕ) → live_now (with_revision h changes) k ≡ after_changes k (live_now h k) changes
live_with h [] k = refl
live_with h (c ∷ changes) k = live_more h (c ∷ changes) k

pub lease_with : (h : History) (changes : List Change) (k : List ℕ) → lease_of (with_revision h changes) k ≡ lease_after_all k (lease_of h k) changes
lease_with h [] k = refl
lease_with h (c ∷ changes) k = lease_more h (c ∷ changes) k

-- the lease that a value is put under
abbrev pub lease_for : ℕ → Option (List ℕ) → Option ℕ
lease_for lease None = None
lease_for lease (Some value) = Some lease

no_lease : (lease : Option ℕ) (live : Option (List ℕ)) → (IsTrue (is_some lease) → IsTrue (is_some live)) → is_some live ≡ false → lease ≡ None
no_lease None live beside none = refl
no_lease (Some l) live beside none = let some : is_some live ≡ true = beside refl in cc

no_value : (live : Option (List ℕ)) → is_some live ≡ false → live ≡ None
no_value None none = refl
no_value (Some v) none = cc

gone : (key q : List ℕ) {A : Type 0} (at : List ℕ → Option A) → at key ≡ None → at q ≡ cond (same_bytes key q) None (at q)
gone key q at none = elim (same_bytes key q) as (λ b. same_bytes key q ≡ b → at q ≡ cond b None (at q)) [
  | true ↦ λ e. sym (ap at (same_bytes_are key q e)) ∙ none
  | false ↦ λ _. refl
] refl

-- a record is put under the lease or deleted
pub live_committed : (h : History) (key : List ℕ) (value : Option (List ℕ)) (lease : ℕ) (q : List ℕ)
    → live_now (committed h (record_op key value (Some lease) ∷ [])) q ≡ cond (same_bytes key q) value (live_now h q)
live_committed h key (Some value) lease q = live_with h (changes_of (live_now h) (record_op key (Some value) (Some lease) ∷ [])) q
live_committed h key None lease q = live_with h (changes_of (live_now h) (record_op key None (Some lease) ∷ [])) q
    ∙ elim (is_some (live_now h key)) as (λ b. is_some (live_now h key) ≡ b → after_changes q (live_now h q) (cond b (change.Delete key ∷ []) [] ++ []) ≡ cond (same_bytes key q) None (live_now h q)) [
      | true ↦ λ _. refl
      | false ↦ λ none. gone key q (live_now h) (no_value (live_now h key) none)
    ] refl

pub lease_committed : (h : History) (key : List ℕ) (value : Option (List ℕ)) (lease : ℕ) (q : List ℕ)
    → lease_of (committed h (record_op key value (Some lease) ∷ [])) q ≡ cond (same_bytes key q) (lease_for lease value) (lease_of h q)
lease_committed h key (Some value) lease q = lease_with h (changes_of (live_now h) (record_op key (Some value) (Some lease) ∷ [])) q
lease_committed h key None lease q = lease_with h (changes_of (live_now h) (record_op key None (Some lease) ∷ [])) q
    ∙ elim (is_some (live_now h key)) as (λ b. is_some (live_now h key) ≡ b → lease_after_all q (lease_of h q) (cond b (change.Delete key ∷ []) [] ++ []) ≡ cond (same_bytes key q) None (lease_of h q)) [
      | true ↦ λ _. refl
      | false ↦ λ none. gone key q (lease_of h) (no_lease (lease_of h key) (live_now h key) (attached_live h (revision h) key) none)
    ] refl
