-- A transaction keeps the form of a history.
use Rattle.std.proofs.Common.{◌≡◌, ℕ, zero, suc, ◌+◌, ◌<◌, ◌≤◌, List, [], ◌∷◌, ◌++◌, length, map, All, Bool, true, false, cond, ◌||◌, is_some, refl, ap, sym, ◌∙◌, subst, arith, ◌⊎◌, inl, inr}
use Rattle.std.proofs.Math.Path.{fun_ext}
use Rattle.std.proofs.lemmas.List.{get_or_push, length-append}
use Rattle.std.proofs.lemmas.List.Elements.{All-nil, All-cons}
use Rattle.std.specs.BTreeMap.{is_at}
use Rattle.std.specs.Cmp.{tied_itself}
use Rattle.std.specs.Cmp.Lexicographic.{slice_cmp, nat_list_cmp_total}
use Rattle.std.specs.List.{IsDistinct, AllByRecursion}
use Rattle.std.specs.List.Sorted.{IsStrictlySortedBy}
use Rattle.std.specs.Ordering.{nat_cmp, is_eq}
use Rattle.std.specs.declared.cmp.Ordering.{Ordering}
use Rattle.std.specs.declared.cmp.Ordering.TheVariants.{Less}
use Rattle.mesh_base.specs.Order.{same_bytes}
use Rattle.store_api.specs.Followed.{changed_key}
use Rattle.store_api.specs.History.{History, Pairs, revision, changes_at, live_at, key_of, change_of, changes_of, with_revision}
use Rattle.store_api.specs.declared.change.Change.{Change}
use Rattle.store_api.specs.declared.change.Change.TheVariants as change
use Rattle.store_api.specs.declared.change.Op.{Op}
use Rattle.store_api.specs.declared.change.Op.TheVariants as op
use Rattle.store_api.specs.Attached.{attached_keys, deletions, lapsed, lease_of}
use Rattle.store_api.proofs.CallerLemmas.{attached_live}
use Rattle.memory_store.specs.Formed.{IsFit, IsRevision, IsFormed, CommitsKeepForm, LapsesKeepForm}
use Rattle.memory_store.proofs.Expiry.{attached_member, attached_rise, is_member, is_some_lease}
use Rattle.memory_store.proofs.Logs.{changes_longer, live_longer}

cases : (b : Bool) → (b ≡ true) ⊎ (b ≡ false)
cases true = inl refl
cases false = inr refl

below_or_at : (a b : ℕ) → a ≤ b → (a < b) ⊎ (a ≡ b)
below_or_at zero zero le = inr refl
below_or_at zero (suc b) le = inl (omega arith)
below_or_at (suc a) zero le = absurd (omega arith)
below_or_at (suc a) (suc b) le = elim (below_or_at a b (omega arith)) [ inl lt ↦ inl (omega arith) | inr e ↦ inr (ap suc e) ]

module _ (live : Pairs) where
  -- what is added for a deletion
  deleted : (key : List ℕ) (rest : List Change) → (is_some (live key) ≡ true) → change_of live (op.Delete key) ++ rest ≡ change.Delete key ∷ rest
  deleted key rest is = ap (λ (b : Bool). cond b (change.Delete key ∷ []) [] ++ rest) is

  not_deleted : (key : List ℕ) (rest : List Change) → (is_some (live key) ≡ false) → change_of live (op.Delete key) ++ rest ≡ rest
  not_deleted key rest is = ap (λ (b : Bool). cond b (change.Delete key ∷ []) [] ++ rest) is

  Apart : List ℕ → List (List ℕ) → Type 0
  Apart k keys = AllByRecursion (λ (x : List ℕ). same_bytes k x ≡ false) keys

  keys_apart : (k : List ℕ) (ops : List Op) → Apart k (map key_of ops) → Apart k (map changed_key (changes_of live ops))
  unfolding Apart
  keys_apart k [] apart = tt
  keys_apart k (op.Put key value lease ∷ ops) apart = (apart.0, keys_apart k ops apart.1)
  keys_apart k (op.Delete key ∷ ops) apart =
      let rest = keys_apart k ops apart.1 in
      elim (cases (is_some (live key))) [
        | inl t ↦ subst (λ (cs : List Change). Apart k (map changed_key cs)) (sym (deleted key (changes_of live ops) t)) (apart.0, rest)
        | inr n ↦ subst (λ (cs : List Change). Apart k (map changed_key cs)) (sym (not_deleted key (changes_of live ops) n)) rest
      ]

  keys_distinct : (ops : List Op) → IsDistinct same_bytes (map key_of ops) → IsDistinct same_bytes (map changed_key (changes_of live ops))
  unfolding IsDistinct Apart
  keys_distinct [] distinct = tt
  keys_distinct (op.Put key value lease ∷ ops) distinct = (keys_apart key ops distinct.0, keys_distinct ops distinct.1)
  keys_distinct (op.Delete key ∷ ops) distinct =
      let rest = keys_distinct ops distinct.1 in
      elim (cases (is_some (live key))) [
        | inl t ↦ subst (λ (cs : List Change). IsDistinct same_bytes (map changed_key cs)) (sym (deleted key (changes_of live ops) t)) (keys_apart key ops distinct.0, rest)
        | inr n ↦ subst (λ (cs : List Change). IsDistinct same_bytes (map changed_key cs)) (sym (not_deleted key (changes_of live ops) n)) rest
      ]

  all_fit : (ops : List Op) → All (IsFit live) (changes_of live ops)
  all_fit [] = All-nil (IsFit live)
  all_fit (op.Put key value lease ∷ ops) = All-cons (IsFit live) (change.Put key value lease) (changes_of live ops) tt (all_fit ops)
  all_fit (op.Delete key ∷ ops) =
      elim (cases (is_some (live key))) [
        | inl t ↦ subst (All (IsFit live)) (sym (deleted key (changes_of live ops) t)) (All-cons (IsFit live) (change.Delete key) (changes_of live ops) t (all_fit ops))
        | inr n ↦ subst (All (IsFit live)) (sym (not_deleted key (changes_of live ops) n)) (all_fit ops)
      ]

longer : (h more : History) (r : ℕ) (changes : List Change) → r ≤ revision h → IsRevision (live_at h r) changes → IsRevision (live_at (h ++ more) r) changes
longer h more r changes le is = subst (λ (live : Pairs). IsRevision live changes) (sym (fun_ext (λ k. live_longer h more r k le))) is

module _ (h : History) (formed : IsFormed h) where
  pub with_one : (changes : List Change) → IsRevision (live_at h (revision h)) changes → IsFormed (h ++ changes ∷ [])
  with_one changes is = λ r one lt.
      let le : r ≤ revision h = omega (arith, length-append h (changes ∷ [])) in
      elim (below_or_at r (revision h) le) [
        | inl below ↦
            let within : r + 1 ≤ length h + 1 = omega arith in
            longer h (changes ∷ []) r (changes_at (h ++ changes ∷ []) (r + 1)) le (subst (IsRevision (live_at h r)) (sym (changes_longer h (changes ∷ []) (r + 1) within)) (formed r one below))
        | inr at ↦
            let next : r + 1 ≡ suc (suc (length h)) = omega arith in
            let last : changes_at (h ++ changes ∷ []) (r + 1) ≡ changes = ap (changes_at (h ++ changes ∷ [])) next ∙ get_or_push h changes [] (length h) refl in
            longer h (changes ∷ []) r (changes_at (h ++ changes ∷ []) (r + 1)) le (subst (IsRevision (live_at h r)) (sym last) (subst (λ (n : ℕ). IsRevision (live_at h n) changes) (sym at) is))
      ]

  with_changes : (changes : List Change) → (0 < length changes → IsRevision (live_at h (revision h)) changes) → IsFormed (with_revision h changes)
  with_changes [] is = formed
  with_changes (c ∷ changes) is = with_one (c ∷ changes) (is (omega arith))

pub commits_keep : CommitsKeepForm
commits_keep = λ h ops formed distinct.
    let live : Pairs = live_at h (revision h) in
    with_changes h formed (changes_of live ops) (λ some. record { some = some; distinct = keys_distinct live ops distinct; fit = all_fit live ops })

-- ---- a lapse
-- keys in order are distinct
less_apart : (k q : List ℕ) → slice_cmp nat_cmp k q ≡ Less → same_bytes k q ≡ false
less_apart k q less = ap is_eq less

all_apart : (k : List ℕ) (ks : List (List ℕ)) → AllByRecursion (λ (q : List ℕ). slice_cmp nat_cmp k q ≡ Less) ks → AllByRecursion (λ (q : List ℕ). same_bytes k q ≡ false) ks
all_apart k [] h = tt
all_apart k (q ∷ ks) h = (less_apart k q h.0, all_apart k ks h.1)

rising_distinct : (ks : List (List ℕ)) → IsStrictlySortedBy (slice_cmp nat_cmp) ks → IsDistinct same_bytes ks
unfolding IsDistinct IsStrictlySortedBy
rising_distinct [] h = tt
rising_distinct (k ∷ ks) h = (all_apart k ks h.0, rising_distinct ks h.1)

deleted_keys : (ks : List (List ℕ)) → map changed_key (deletions ks) ≡ ks
deleted_keys [] = refl
deleted_keys (k ∷ ks) = ap (λ (l : List (List ℕ)). k ∷ l) (deleted_keys ks)

-- deletions of live keys
all_live : (live : Pairs) (ks : List (List ℕ)) → ((k : List ℕ) → is_member k ks ≡ true → is_some (live k) ≡ true) → All (IsFit live) (deletions ks)
all_live live [] h = All-nil (IsFit live)
all_live live (k ∷ ks) h =
    All-cons (IsFit live) (change.Delete k) (deletions ks) (h k (ap (λ (o : Ordering). is_eq o || is_member k ks) (tied_itself nat_list_cmp_total k)))
    (all_live live ks (λ q member. h q (ap (λ (b : Bool). is_at (slice_cmp nat_cmp q) k || b) member ∙ or_true (is_at (slice_cmp nat_cmp q) k))))
  where
    or_true : (b : Bool) → b || true ≡ true
    or_true true = refl
    or_true false = refl

lapse_fits : (h : History) (lease : ℕ) → 0 < length (deletions (attached_keys h lease)) → IsRevision (live_at h (revision h)) (deletions (attached_keys h lease))
lapse_fits h lease some =
    record {
      some = some;
      distinct = subst (IsDistinct same_bytes) (sym (deleted_keys (attached_keys h lease))) (rising_distinct (attached_keys h lease) (attached_rise h lease));
      fit = all_live (live_at h (revision h)) (attached_keys h lease) (λ k member. attached_live h (revision h) k (is_some_lease lease (lease_of h k) (sym (attached_member h lease k) ∙ member)));
    }

lapse_keeps : (h : History) (lease : ℕ) → IsFormed h → IsFormed (lapsed h lease)
lapse_keeps h lease formed = with_changes h formed (deletions (attached_keys h lease)) (lapse_fits h lease)

pub lapses_keep : LapsesKeepForm
lapses_keep h [] formed = formed
lapses_keep h (lease ∷ leases) formed = lapses_keep (lapsed h lease) leases (lapse_keeps h lease formed)
