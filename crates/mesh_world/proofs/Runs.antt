-- How a run goes on, step by step.
use Rattle.std.proofs.Common.{◌≡◌, ◌+◌, List, [], ◌∷◌, ◌++◌, map, length, refl, ap, sym, ◌∙◌, arith, append_assoc}
use Rattle.std.proofs.lemmas.List.{length-append}
use Rattle.scenario_lang.specs.declared.scenario.Action.{Action}
use Rattle.store_api.specs.Meaning.{Meaning}
use Rattle.mesh_world.specs.Actions.{Does, act, act_all}
use Rattle.mesh_world.specs.Asking.{Outcome, Made, LostBefore, LostAfter, Step, done}
use Rattle.mesh_world.specs.Goes.{AreNext, Goes, Leads, losses}
use Rattle.mesh_world.specs.World.{World}

pub losses-append : (a b : List Outcome) → losses (a ++ b) ≡ losses a + losses b
losses-append [] b = omega arith
losses-append (Made number ∷ a) b = losses-append a b
losses-append (LostBefore ∷ a) b = rw (losses-append a b) (omega arith)
losses-append (LostAfter number ∷ a) b = rw (losses-append a b) (omega arith)

next-append : (a b : List Outcome) → AreNext a → AreNext b → AreNext (a ++ b)
next-append [] b first second = second
next-append (Made number ∷ a) b first second = (first.0, next-append a b first.1 second)
next-append (LostBefore ∷ a) b first second = next-append a b first second
next-append (LostAfter number ∷ a) b first second = (first.0, next-append a b first.1 second)

module _ {X : Type 0} where
  -- what is shown may be said with fewer words
  pub Goes-weaken : (does rest : Step X) (w : World) (before after : List Meaning) (P Q : World → Type 0) → ((n : World) → P n → Q n) → Goes does rest w before after P → Goes does rest w before after Q
  Goes-weaken does rest w before after P Q so g = record { used = g.used; new = g.new; goes = g.goes; stores = g.stores; lost = g.lost; asked = g.asked; tallies = g.tallies; in_turn = g.in_turn; shows = so g.new g.shows }

  -- nothing yet
  pub Goes-none : (does : Step X) (w : World) (stores : List Meaning) (P : World → Type 0) → w.stores ≡ map (λ (m : Meaning). m.contents) stores → P w → Goes does does w stores stores P
  Goes-none does w stores P shows p = record {
    used = [];
    new = w;
    goes = λ more. refl;
    stores = shows;
    lost = omega arith;
    asked = omega arith;
    tallies = record { lost = λ i. omega arith; asked = λ i. omega arith };
    in_turn = λ numbers. (tt, numbers);
    shows = p;
  }

  -- one after the other
  pub Goes-trans : (does mid rest : Step X) (w : World) (before now after : List Meaning) (P Q : World → Type 0) → (g : Goes does mid w before now P)
      → ((v : World) → v.stores ≡ map (λ (m : Meaning). m.contents) now → P v → Goes mid rest v now after Q) → Goes does rest w before after Q
  Goes-trans does mid rest w before now after P Q g more =
      let h = more g.new g.stores g.shows in
      record {
        used = g.used ++ h.used;
        new = h.new;
        goes = λ l. ap (does w) (append_assoc g.used h.used l) ∙ g.goes (h.used ++ l) ∙ h.goes l;
        stores = h.stores;
        lost = rw (losses-append g.used h.used) (omega (arith, g.lost, h.lost));
        asked = omega (arith, length-append g.used h.used, g.asked, h.asked);
        tallies = record { lost = λ i. omega (arith, g.tallies.lost i, h.tallies.lost i); asked = λ i. omega (arith, g.tallies.asked i, h.tallies.asked i) };
        in_turn = λ numbers. let first = g.in_turn numbers in let second = h.in_turn first.1 in (next-append g.used h.used first.0 second.0, second.1);
        shows = h.shows;
      }

  -- another way to say what is done first and what is left
  pub Goes-as : (does does' rest rest' : Step X) (w : World) (before after : List Meaning) (P : World → Type 0) → ((os : List Outcome) → does' w os ≡ does w os) → ((v : World) (os : List Outcome) → rest v os ≡ rest' v os) → Goes does rest w before after P → Goes does' rest' w before after P
  Goes-as does does' rest rest' w before after P first last g = record { used = g.used; new = g.new; goes = λ more. first (g.used ++ more) ∙ g.goes more ∙ last g.new more; stores = g.stores; lost = g.lost; asked = g.asked; tallies = g.tallies; in_turn = g.in_turn; shows = g.shows }

  -- without a call
  pub Goes-plain : (does rest : Step X) (w n : World) (stores : List Meaning) (P : World → Type 0) → ((more : List Outcome) → does w more ≡ rest n more) → n.stores ≡ map (λ (m : Meaning). m.contents) stores → n.lost ≡ w.lost → n.asked ≡ w.asked → P n → Goes does rest w stores stores P
  Goes-plain does rest w n stores P goes shows lost asked p = record {
    used = [];
    new = n;
    goes = goes;
    stores = shows;
    lost = omega (arith, ap length lost);
    asked = omega (arith, ap length asked);
    tallies = record { lost = λ i. rw lost (omega arith); asked = λ i. rw asked (omega arith) };
    in_turn = λ numbers. (tt, numbers);
    shows = p;
  }

-- an action, and then the others
pub Goes-act : (a : Action) (rest : List Action) (w : World) (before after : List Meaning) (P : World → Type 0) → Leads (act a) w before after P → Goes (act_all (a ∷ rest)) (act_all rest) w before after P
Goes-act a rest w before after P l = record {
  used = l.used;
  new = l.new;
  goes = λ more. ap (λ (p : World × List Outcome). act_all rest p.0 p.1) (l.goes more);
  stores = l.stores;
  lost = l.lost;
  asked = l.asked;
  tallies = l.tallies;
  in_turn = l.in_turn;
  shows = l.shows;
}

-- without a call
pub Leads-none : (does : Does) (w n : World) (stores : List Meaning) (P : World → Type 0) → ((more : List Outcome) → does w more ≡ (n, more)) → n.stores ≡ map (λ (m : Meaning). m.contents) stores → n.lost ≡ w.lost → n.asked ≡ w.asked → P n → Leads does w stores stores P
Leads-none does w n stores P goes shows lost asked p = Goes-plain does done w n stores P goes shows lost asked p

-- the same from another world, with the same counts of calls
pub Goes-from : {X : Type 0} (does does' rest : Step X) (w v : World) (before after : List Meaning) (P : World → Type 0) → v.lost ≡ w.lost → v.asked ≡ w.asked → ((os : List Outcome) → does w os ≡ does' v os) → Goes does' rest v before after P → Goes does rest w before after P
Goes-from does does' rest w v before after P lost asked same g = record {
  used = g.used;
  new = g.new;
  goes = λ more. same (g.used ++ more) ∙ g.goes more;
  stores = g.stores;
  lost = rw (sym lost) g.lost;
  asked = rw (sym asked) g.asked;
  tallies = record { lost = λ i. rw (sym lost) (g.tallies.lost i); asked = λ i. rw (sym asked) (g.tallies.asked i) };
  in_turn = g.in_turn;
  shows = g.shows;
}
