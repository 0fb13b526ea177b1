-- What was sighted in a history is sighted in each longer one.
use Rattle.std.proofs.Common.{◌≡◌, ℕ, zero, suc, ◌+◌, ◌≤◌, leb, List, [], ◌∷◌, ◌++◌, ◌||◌, ◌&&◌, Bool, true, false, cond, Option, None, is_some, length, refl, ap, ◌∙◌, arith}
use Rattle.std.proofs.Math.Path.{fun_ext}
use Rattle.store_api.specs.History.{History, after_changes}
use Rattle.store_api.specs.declared.change.Change.{Change}
use Rattle.store_api.specs.History.{Pairs, changes_at, live_at}
use Rattle.store_api.specs.Followed.{Followed, in_at, touches}
use Rattle.store_api.specs.Spans.{Span, some_from, is_up, is_met, speaks, seen, cursor_of}
use Rattle.store_api.proofs.CallerLemmas.{changes-longer}
use Rattle.relist_merge.specs.Records.{AreWithin, phase_in}
use Rattle.relist_merge.specs.declared.phase.Phase.TheVariants.{Held, CaughtUp}

module _ (h more : History) where
  live-longer : (r : ℕ) (k : List ℕ) → r ≤ length h + 1 → live_at (h ++ more) r k ≡ live_at h r k
  live-longer zero k le = refl
  live-longer (suc r) k le =
      ap (λ (cs : List Change). after_changes k (live_at (h ++ more) r k) cs) (changes-longer h more (suc r) le)
      ∙ ap (λ (o : Option (List ℕ)). after_changes k o (changes_at h (suc r))) (live-longer r k (omega arith))

  module _ (f : Followed) where
    -- the followed pairs
    pub in-longer : (r : ℕ) → r ≤ length h + 1 → in_at f (h ++ more) r ≡ in_at f h r
    in-longer r le = fun_ext (λ k. ap (λ (o : Option (List ℕ)). cond (f.inside k) o None) (live-longer r k le))

    same_some : (p q : ℕ → Bool) (a r : ℕ) → ((x : ℕ) → x ≤ r → p x ≡ q x) → some_from p a r ≡ some_from q a r
    same_some p q a zero same = ap (λ (b : Bool). leb a zero && b) (same zero (omega arith))
    same_some p q a (suc r) same =
        ap (λ (b : Bool). b || (leb a (suc r) && p (suc r))) (same_some p q a r (λ x le. same x (omega arith)))
        ∙ ap (λ (b : Bool). some_from q a r || (leb a (suc r) && b)) (same (suc r) (omega arith))

    up-longer : (s : Span) → s.upto ≤ length h + 1 → is_up f (h ++ more) s ≡ is_up f h s
    up-longer s le = same_some (λ x. f.synced (in_at f (h ++ more) x)) (λ x. f.synced (in_at f h x)) s.start s.upto (λ x u. ap f.synced (in-longer x (omega arith)))

    speaks-longer : (s : Span) (k : List ℕ) → s.start ≤ s.upto → s.upto ≤ length h + 1 → speaks f (h ++ more) s k ≡ speaks f h s k
    speaks-longer s k order le =
        ap (λ (b : Bool). b || is_met f (h ++ more) s k) (up-longer s le)
        ∙ ap (λ (b : Bool). is_up f h s || (b || some_from (λ x. touches k (changes_at (h ++ more) x)) (s.start + 1) s.upto)) (ap (λ (m : Pairs). is_some (m k)) (in-longer s.start (omega arith)))
        ∙ ap (λ (b : Bool). is_up f h s || (is_some (in_at f h s.start k) || b)) (same_some (λ x. touches k (changes_at (h ++ more) x)) (λ x. touches k (changes_at h x)) (s.start + 1) s.upto (λ x u. ap (touches k) (changes-longer h more x (omega arith))))

    -- the pairs sighted
    pub seen-longer : (spans : List Span) (k : List ℕ) → AreWithin (length h + 1) spans → seen f (h ++ more) spans k ≡ seen f h spans k
    seen-longer [] k within = refl
    seen-longer (s ∷ older) k within =
        ap (λ (b : Bool). cond b (in_at f (h ++ more) s.upto k) (seen f (h ++ more) older k)) (speaks-longer s k within.0 within.1)
        ∙ ap (λ (m : Pairs). cond (speaks f h s k) (m k) (seen f (h ++ more) older k)) (in-longer s.upto within.1)
        ∙ ap (cond (speaks f h s k) (in_at f h s.upto k)) (seen-longer older k within.2)

    -- and how the reader stands
    pub phase-longer : (is_open : Bool) (spans : List Span) → AreWithin (length h + 1) spans → phase_in f (h ++ more) is_open spans ≡ phase_in f h is_open spans
    phase-longer false spans within = refl
    phase-longer true [] within = refl
    phase-longer true (s ∷ older) within = ap (λ (b : Bool). cond b CaughtUp Held) (up-longer s within.1)

    -- the followed pairs where the last span ends
    pub cursor-longer : (spans : List Span) (k : List ℕ) → AreWithin (length h + 1) spans → in_at f (h ++ more) (cursor_of spans) k ≡ in_at f h (cursor_of spans) k
    cursor-longer [] k within = ap (λ (m : Pairs). m k) (in-longer zero (omega arith))
    cursor-longer (s ∷ older) k within = ap (λ (m : Pairs). m k) (in-longer s.upto within.1)
