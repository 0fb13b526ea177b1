-- The history of the kept revisions, and what is live after one more of them.
use Rattle.std.proofs.Common.{◌≡◌, ℕ, zero, suc, ◌+◌, ◌<◌, ◌≤◌, List, [], ◌∷◌, ◌++◌, length, get_or, Option, refl, ap, sym, ◌∙◌, arith}
use Rattle.std.proofs.Math.Path.{fun_ext}
use Rattle.std.proofs.lemmas.List.{get_or_append_left, get_or_push, length-append, length-map, map-append}
use Rattle.std.specs.Ordering.{nat_cmp}
use Rattle.std.specs.Cmp.Lexicographic.{slice_cmp}
use Rattle.std.specs.BTreeMap.{BTreeMap, get}
use Rattle.store_api.specs.Attached.{lease_after_all, lease_at, lease_of}
use Rattle.store_api.specs.History.{History, revision, changes_at, live_at, after_changes, with_revision, changes_of, committed, Pairs}
use Rattle.store_api.specs.declared.change.Change.{Change}
use Rattle.store_api.specs.declared.change.Op.{Op}
use Rattle.memory_store.specs.declared.live.Current.{Current}
use Rattle.memory_store.specs.declared.live.Made.{Made}
use Rattle.memory_store.specs.Index.{HasKeys}
use Rattle.memory_store.specs.Kept.{HasLive, IsAfter, IsCurrentIn, history_in}

pub history_length : (history : List Made) → length (history_in history) ≡ length history
history_length history = length-map history (λ (made : Made). made.changes)

pub changes_is : (history : List Made) (i : ℕ) (made : Made) → i < length history → made ≡ get_or history i made → get_or (history_in history) i [] ≡ made.changes
changes_is [] i made lt is = absurd (omega arith)
changes_is (x ∷ history) zero made lt is = ap (λ (y : Made). y.changes) (sym is)
changes_is (x ∷ history) (suc i) made lt is = changes_is history i made (omega arith) is

pub history_pushed : (history : List Made) (made : Made) → history_in (history ++ made ∷ []) ≡ history_in history ++ made.changes ∷ []
history_pushed history made = map-append (λ (m : Made). m.changes) history (made ∷ [])

-- ---- a longer history has the same at its front
pub changes_longer : (h more : History) (r : ℕ) → r ≤ length h + 1 → changes_at (h ++ more) r ≡ changes_at h r
changes_longer h more zero le = refl
changes_longer h more (suc zero) le = refl
changes_longer h more (suc (suc i)) le = get_or_append_left h more [] i (omega arith)

pub live_longer : (h more : History) (r : ℕ) (k : List ℕ) → r ≤ length h + 1 → live_at (h ++ more) r k ≡ live_at h r k
live_longer h more zero k le = refl
live_longer h more (suc r) k le =
    ap (λ (cs : List Change). after_changes k (live_at (h ++ more) r k) cs) (changes_longer h more (suc r) le)
    ∙ ap (λ (o : Option (List ℕ)). after_changes k o (changes_at h (suc r))) (live_longer h more r k (omega arith))

pub lease_longer : (h more : History) (r : ℕ) (k : List ℕ) → r ≤ length h + 1 → lease_at (h ++ more) r k ≡ lease_at h r k
lease_longer h more zero k le = refl
lease_longer h more (suc r) k le =
    ap (λ (cs : List Change). lease_after_all k (lease_at (h ++ more) r k) cs) (changes_longer h more (suc r) le)
    ∙ ap (λ (o : Option ℕ). lease_after_all k o (changes_at h (suc r))) (lease_longer h more r k (omega arith))

-- ---- what is live after a revision more
module _ (h : History) (changes : List Change) (k : List ℕ) where
  size : length (h ++ changes ∷ []) + 1 ≡ suc (suc (length h))
  size = omega (arith, length-append h (changes ∷ []))

  one : suc (length h) ≡ revision h
  one = omega arith

  pub live_more : live_at (h ++ changes ∷ []) (revision (h ++ changes ∷ [])) k ≡ after_changes k (live_at h (revision h) k) changes
  live_more =
      ap (λ (r : ℕ). live_at (h ++ changes ∷ []) r k) size
      ∙ ap (λ (cs : List Change). after_changes k (live_at (h ++ changes ∷ []) (suc (length h)) k) cs) (get_or_push h changes [] (length h) refl)
      ∙ ap (λ (o : Option (List ℕ)). after_changes k o changes) (live_longer h (changes ∷ []) (suc (length h)) k (omega arith) ∙ ap (λ (r : ℕ). live_at h r k) one)

  pub lease_more : lease_of (h ++ changes ∷ []) k ≡ lease_after_all k (lease_of h k) changes
  lease_more =
      ap (λ (r : ℕ). lease_at (h ++ changes ∷ []) r k) size
      ∙ ap (λ (cs : List Change). lease_after_all k (lease_at (h ++ changes ∷ []) (suc (length h)) k) cs) (get_or_push h changes [] (length h) refl)
      ∙ ap (λ (o : Option ℕ). lease_after_all k o changes) (lease_longer h (changes ∷ []) (suc (length h)) k (omega arith) ∙ ap (λ (r : ℕ). lease_at h r k) one)

pub current_more : (h : History) (changes : List Change) (old new : Current) → IsCurrentIn h old → IsAfter changes old new → IsCurrentIn (h ++ changes ∷ []) new
current_more h changes old new current after = record {
  live = λ k. after.live k ∙ ap (λ (o : Option (List ℕ)). after_changes k o changes) (current.live k) ∙ sym (live_more h changes k);
  leases = λ k. after.leases k ∙ ap (λ (o : Option ℕ). lease_after_all k o changes) (current.leases k) ∙ sym (lease_more h changes k);
  keys = after.keys;
}

pub with_some : (h : History) (changes : List Change) → 0 < length changes → with_revision h changes ≡ h ++ changes ∷ []
with_some h [] some = absurd (omega arith)
with_some h (c ∷ changes) some = refl

pub with_none : (h : History) (changes : List Change) → length changes ≡ 0 → with_revision h changes ≡ h
with_none h [] none = refl
with_none h (c ∷ changes) none = absurd (omega arith)

-- ---- what is live at a revision
pub record IsCurrentAt (history : History) (r : ℕ) (current : Current) : Type 0 where
  pub live : (k : List ℕ) → get (slice_cmp nat_cmp) current.live k ≡ live_at history r k
  pub leases : (k : List ℕ) → get (slice_cmp nat_cmp) current.attached.leases k ≡ lease_at history r k
  pub keys : HasKeys current.attached.leases current.attached.keys

-- one revision of the list more
pub current_next : (history : List Made) (i next : ℕ) (made : Made) (given : List Change) (old new : Current) → i < length history → made ≡ get_or history i made → next ≡ suc i → given ≡ made.changes
    → IsCurrentAt (history_in history) (suc i) old → IsAfter given old new → IsCurrentAt (history_in history) (suc next) new
current_next history i next made given old new lt is step given_is current after =
    let h = history_in history in
    let changes : changes_at h (suc (suc i)) ≡ given = changes_is history i made lt is ∙ sym given_is in
    record {
      live = λ k. after.live k ∙ ap (λ (o : Option (List ℕ)). after_changes k o given) (current.live k) ∙ ap (after_changes k (live_at h (suc i) k)) (sym changes) ∙ ap (λ (n : ℕ). live_at h (suc n) k) (sym step);
      leases = λ k. after.leases k ∙ ap (λ (o : Option ℕ). lease_after_all k o given) (current.leases k) ∙ ap (lease_after_all k (lease_at h (suc i) k)) (sym changes) ∙ ap (λ (n : ℕ). lease_at h (suc n) k) (sym step);
      keys = after.keys;
    }

-- and all of them
pub current_all : (history : List Made) (i : ℕ) (current : Current) → i ≡ length history → IsCurrentAt (history_in history) (suc i) current → IsCurrentIn (history_in history) current
current_all history i current is at =
    let all : suc i ≡ revision (history_in history) = omega (arith, history_length history) in
    record {
      live = λ k. at.live k ∙ ap (λ (r : ℕ). live_at (history_in history) r k) all;
      leases = λ k. at.leases k ∙ ap (λ (r : ℕ). lease_at (history_in history) r k) all;
      keys = at.keys;
    }

-- ---- changes one by one: what is left gives what all give
pub record Leads (rest all : List Change) (old now : Current) : Type 0 where
  pub live : (k : List ℕ) → after_changes k (get (slice_cmp nat_cmp) now.live k) rest ≡ after_changes k (get (slice_cmp nat_cmp) old.live k) all
  pub leases : (k : List ℕ) → lease_after_all k (get (slice_cmp nat_cmp) now.attached.leases k) rest ≡ lease_after_all k (get (slice_cmp nat_cmp) old.attached.leases k) all
  pub keys : HasKeys now.attached.leases now.attached.keys

-- ---- a transaction
pub history_committed : (h : History) (changes : List Change) (live : BTreeMap (List ℕ) (List ℕ)) (ops : List Op) → changes ≡ changes_of (get (slice_cmp nat_cmp) live) ops → HasLive h live → with_revision h changes ≡ committed h ops
history_committed h changes live ops are lives = ap (with_revision h) (are ∙ ap (λ (live : Pairs). changes_of live ops) (fun_ext lives))

-- what the revision at a place changed
pub changes_here : (history : List Made) (i n : ℕ) (made : Made) → i < length history → made ≡ get_or history i made → n ≡ suc (suc i) → changes_at (history_in history) n ≡ made.changes
changes_here history i n made lt is step = ap (changes_at (history_in history)) step ∙ changes_is history i made lt is
