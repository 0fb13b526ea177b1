-- What the program is at, at each place, and when it is at a world again.
use Rattle.std.proofs.Common.{◌≡◌, ℕ, zero, suc, ◌+◌, ◌<◌, List, [], ◌∷◌, length, drop, get_or, refl, ap, subst, arith}
use Rattle.std.proofs.Math.ListN.{set}
use Rattle.store_api.specs.Contents.{Contents}
use Rattle.mesh_remote.proofs.Remotes.{read_later}
use Rattle.store_api.specs.History.{Begins, History}
use Rattle.mesh_remote.specs.Shown.{IsShown}
use Rattle.scenario_replay.specs.Shown.{AreShown}
use Rattle.mesh_world.specs.World as world
use Rattle.mesh_remote.specs.declared.remote.Remote.{Remote}

-- as many remotes as the world has, and a store for each
pub as_many : (cs : List Contents) (ws : List world.Remote) (rs : List Remote) → AreShown cs ws rs → length ws ≡ length rs
as_many cs [] [] s = refl
as_many (c ∷ cs) (w ∷ ws) (r ∷ rs) s = ap suc (as_many cs ws rs s.1)
as_many [] (w ∷ ws) (r ∷ rs) s = absurd s
as_many [] [] (r ∷ rs) s = absurd s
as_many (c ∷ cs) [] (r ∷ rs) s = absurd s
as_many [] (w ∷ ws) [] s = absurd s
as_many (c ∷ cs) (w ∷ ws) [] s = absurd s

-- the remote at a place is shown
pub shown_at : (cs : List Contents) (ws : List world.Remote) (rs : List Remote) (i : ℕ) (c : Contents) (w : world.Remote) (r : Remote) → AreShown cs ws rs → i < length rs → IsShown (get_or cs i c).history (get_or ws i w) (get_or rs i r)
shown_at (x ∷ cs) (v ∷ ws) (s ∷ rs) zero c w r shown lt = shown.0
shown_at (x ∷ cs) (v ∷ ws) (s ∷ rs) (suc i) c w r shown lt = shown_at cs ws rs i c w r shown.1 (omega (arith, lt))
shown_at cs [] [] i c w r shown lt = absurd (omega (arith, lt))
shown_at [] (v ∷ ws) (s ∷ rs) i c w r shown lt = absurd shown
shown_at [] [] (s ∷ rs) i c w r shown lt = absurd shown
shown_at (x ∷ cs) [] (s ∷ rs) i c w r shown lt = absurd shown
shown_at [] (v ∷ ws) [] i c w r shown lt = absurd shown
shown_at (x ∷ cs) (v ∷ ws) [] i c w r shown lt = absurd shown

-- where one is changed, and shown again, all are
pub shown_set : (cs : List Contents) (ws : List world.Remote) (rs : List Remote) (i : ℕ) (c : Contents) (w : world.Remote) (r : Remote) → AreShown cs ws rs → IsShown c.history w r → AreShown (set cs i c) (set ws i w) (set rs i r)
shown_set (x ∷ cs) (v ∷ ws) (s ∷ rs) zero c w r shown new = (new, shown.1)
shown_set (x ∷ cs) (v ∷ ws) (s ∷ rs) (suc i) c w r shown new = (shown.0, shown_set cs ws rs i c w r shown.1 new)
shown_set cs [] [] i c w r shown new = tt
shown_set [] (v ∷ ws) (s ∷ rs) i c w r shown new = absurd shown
shown_set [] [] (s ∷ rs) i c w r shown new = absurd shown
shown_set (x ∷ cs) [] (s ∷ rs) i c w r shown new = absurd shown
shown_set [] (v ∷ ws) [] i c w r shown new = absurd shown
shown_set (x ∷ cs) (v ∷ ws) [] i c w r shown new = absurd shown

-- the stores of the remotes stand behind the local one
pub drop_set : {X : Type 0} (xs : List X) (i : ℕ) (x : X) → drop 1 (set xs (i + 1) x) ≡ set (drop 1 xs) i x
drop_set [] i x = refl
drop_set (y ∷ xs) i x = let e : i + 1 ≡ suc i = omega arith in rw e refl

pub drop_get : {X : Type 0} (xs : List X) (i : ℕ) (x : X) → get_or (drop 1 xs) i x ≡ get_or xs (i + 1) x
drop_get [] i x = refl
drop_get (y ∷ xs) i x = let e : i + 1 ≡ suc i = omega arith in rw e refl

-- what was shown over a history is shown over each that goes on where it ends
pub shown_over : (h later : History) (w : world.Remote) (r : Remote) → Begins h later → IsShown h w r → IsShown later w r
shown_over h later w r begins s = record {
  exporter = s.exporter;
  number = s.number;
  to_exporter = s.to_exporter;
  to_agent = s.to_agent;
  agent = read_later w.exporter.cluster h later w.reader r.agent begins s.agent;
}

-- one store goes on, and all remotes are shown as before
pub shown_later : (cs : List Contents) (ws : List world.Remote) (rs : List Remote) (i : ℕ) (d c : Contents) → AreShown cs ws rs → Begins (get_or cs i d).history c.history → AreShown (set cs i c) ws rs
shown_later (x ∷ cs) (v ∷ ws) (s ∷ rs) zero d c shown begins = (shown_over x.history c.history v s begins shown.0, shown.1)
shown_later (x ∷ cs) (v ∷ ws) (s ∷ rs) (suc i) d c shown begins = (shown.0, shown_later cs ws rs i d c shown.1 begins)
shown_later cs [] [] i d c shown begins = tt
shown_later [] (v ∷ ws) (s ∷ rs) i d c shown begins = absurd shown
shown_later [] [] (s ∷ rs) i d c shown begins = absurd shown
shown_later (x ∷ cs) [] (s ∷ rs) i d c shown begins = absurd shown
shown_later [] (v ∷ ws) [] i d c shown begins = absurd shown
shown_later (x ∷ cs) (v ∷ ws) [] i d c shown begins = absurd shown

-- the local store is no remote's
pub shown_from : (cs : List Contents) (ws : List world.Remote) (rs : List Remote) (place : ℕ) (d c : Contents) → AreShown (drop 1 cs) ws rs → Begins (get_or cs place d).history c.history → AreShown (drop 1 (set cs place c)) ws rs
shown_from [] ws rs place d c shown begins = shown
shown_from (x ∷ cs) ws rs zero d c shown begins = shown
shown_from (x ∷ cs) ws rs (suc i) d c shown begins = shown_later cs ws rs i d c shown begins

-- the same by other names
pub shown_as : (cs cs' : List Contents) (ws ws' : List world.Remote) (rs rs' : List Remote) → cs ≡ cs' → ws ≡ ws' → rs ≡ rs' → AreShown cs ws rs → AreShown cs' ws' rs'
shown_as cs cs' ws ws' rs rs' e f g shown =
    subst (λ (xs : List Contents). AreShown xs ws' rs') e (subst (λ (xs : List world.Remote). AreShown cs xs rs') f (subst (λ (xs : List Remote). AreShown cs ws xs) g shown))
