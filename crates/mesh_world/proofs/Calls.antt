-- One call on one of the stores.
use Rattle.std.proofs.Common.{◌≡◌, ◌≢◌, ℕ, ◌+◌, ◌<◌, ◌≤◌, ◌⊎◌, List, [], ◌∷◌, length, map, get_or, refl, ap, sym, ◌∙◌, subst, arith, true, false, if◌then◌else◌, inl, inr}
use Rattle.std.proofs.Math.ListN.{set}
use Rattle.std.proofs.Math.Seq.{map-set_same}
use Rattle.std.proofs.lemmas.List.{map-set, get_or-set_same, get_or-set_other, get_or-map, length-map}
use Rattle.std.proofs.lemmas.Bool.Decides.{eqb_tells}
use Rattle.std.proofs.lemmas.List.Elements.{All-get_or, All-set}
use Rattle.store_api.specs.Contents.{Contents, empty_contents}
use Rattle.store_api.specs.Calls.{Request, Ending, Answers, Refuses, WantsMemory, IsLost, Called, IsServed, Heard, Answered, Refused, Missed, Hears, plain}
use Rattle.store_api.specs.Meaning.{Meaning, Keeps, Counts, CountsNot, Finds, Call}
use Rattle.mesh_world.specs.Asking.{Number, Next, Given, Made, LostBefore, LostAfter, Step, answer_of, ask, ask_surely, counted, done, made_of, number_over}
use Rattle.mesh_world.specs.Goes.{Goes, NumberInTurn, Tallies, occurrences}
use Rattle.mesh_world.specs.World.{World, contents_at, at_store}

-- a world whose store at the place has these contents, and which is else as before but for the counts of
-- calls
pub record Beside (place : ℕ) (c : Contents) (w n : World) : Type 0 where
  pub local : n.local ≡ w.local
  pub stores : n.stores ≡ set w.stores place c
  pub remotes : n.remotes ≡ w.remotes
  pub reports : n.reports ≡ w.reports
  pub text : n.text ≡ w.text

module _ (stores : List Meaning) (place : ℕ) (d new : Meaning) (lt : place < length stores) where
  abbrev old : Meaning
  old = get_or stores place d

  f_new : (f : Meaning → ℕ) → get_or (map f (set stores place new)) place 0 ≡ f new
  f_new f = rw map-set (get_or-set_same (map f stores) place (f new) 0 (rw length-map lt))

  f_old : (f : Meaning → ℕ) → get_or (map f stores) place 0 ≡ f old
  f_old f = get_or-map f stores place d 0 lt

  f_other : (f : Meaning → ℕ) (i : ℕ) → i ≢ place → get_or (map f (set stores place new)) i 0 ≡ get_or (map f stores) i 0
  f_other f i other = rw map-set (get_or-set_other (map f stores) place i (f new) 0 other)

  -- what is counted by f rose with an occurrence
  raised : (f : Meaning → ℕ) (xs : List ℕ) → f old < f new → (i : ℕ) → occurrences i (place ∷ xs) + get_or (map f stores) i 0 ≤ occurrences i xs + get_or (map f (set stores place new)) i 0
  raised f xs more i = elim (eqb_tells place i) [ inl h ↦ rw h.0 (subst (λ (k : ℕ). 1 + occurrences k xs + get_or (map f stores) k 0 ≤ occurrences k xs + get_or (map f (set stores place new)) k 0) h.1 (rw (f_old f, f_new f) (omega arith))) | inr h ↦ rw h.0 (rw (f_other f i (λ e. h.1 (sym e))) (omega arith)) ]

  -- it fell nowhere
  kept : (f : Meaning → ℕ) (xs : List ℕ) → f old ≤ f new → (i : ℕ) → occurrences i xs + get_or (map f stores) i 0 ≤ occurrences i xs + get_or (map f (set stores place new)) i 0
  kept f xs more i = elim (eqb_tells place i) [ inl h ↦ subst (λ (k : ℕ). occurrences k xs + get_or (map f stores) k 0 ≤ occurrences k xs + get_or (map f (set stores place new)) k 0) h.1 (rw (f_old f, f_new f) (omega arith)) | inr h ↦ rw (f_other f i (λ e. h.1 (sym e))) (omega arith) ]

  -- it rose by one at most, with an occurrence
  capped : (f : Meaning → ℕ) (xs : List ℕ) → f new ≤ f old + 1 → (i : ℕ) → get_or (map f (set stores place new)) i 0 + occurrences i xs ≤ get_or (map f stores) i 0 + occurrences i (place ∷ xs)
  capped f xs more i = elim (eqb_tells place i) [ inl h ↦ rw h.0 (subst (λ (k : ℕ). get_or (map f (set stores place new)) k 0 + occurrences k xs ≤ get_or (map f stores) k 0 + (1 + occurrences k xs)) h.1 (rw (f_old f, f_new f) (omega arith))) | inr h ↦ rw h.0 (rw (f_other f i (λ e. h.1 (sym e))) (omega arith)) ]

  module _ (w : World) (shows : w.stores ≡ map (λ (m : Meaning). m.contents) stores) (quiet : old.quiet ≡ true) (keeps : Keeps old new) where
    pub old_contents : contents_at w place ≡ old.contents
    old_contents = rw shows (get_or-map (λ (m : Meaning). m.contents) stores place d empty_contents lt)

    -- the contents that the call found are the world's
    pub found_is : (found : Contents) → Finds old found → found ≡ contents_at w place
    found_is found finds = finds.alone quiet ∙ sym old_contents

    shows_new : (c : Contents) → new.contents ≡ c → set w.stores place c ≡ map (λ (m : Meaning). m.contents) (set stores place new)
    shows_new c e = rw shows (sym (map-set (λ (m : Meaning). m.contents) stores place new ∙ ap (set (map (λ (m : Meaning). m.contents) stores) place) e))

    shows_same : new.contents ≡ contents_at w place → w.stores ≡ map (λ (m : Meaning). m.contents) (set stores place new)
    shows_same e = shows ∙ sym (map-set_same (λ (m : Meaning). m.contents) stores place new d (e ∙ old_contents))

    w_is : new.contents ≡ contents_at w place → w.stores ≡ set w.stores place new.contents
    w_is e = shows_same e ∙ sym (shows_new new.contents refl)

    one_more : {c : Call} → Counts old new c → new.calls ≤ old.calls + 1
    one_more counts = omega (arith, counts.calls)

    one_at_most : {c : Call} → Counts old new c ⊎ CountsNot old new → new.calls ≤ old.calls + 1
    one_at_most (inl counts) = omega (arith, counts.calls)
    one_at_most (inr counts) = omega (arith, counts.calls)

    pub made_tallies : (n : World) → n.lost ≡ w.lost → n.asked ≡ place ∷ w.asked → new.calls ≤ old.calls + 1 → Tallies w n stores (set stores place new)
    made_tallies n lost asked most = record {
      lost = λ i. rw lost (kept (λ m. m.faults) w.lost keeps.faults i);
      asked = λ i. rw asked (capped (λ m. m.calls) w.asked most i);
    }

    lost_tallies : (n : World) → n.lost ≡ place ∷ w.lost → n.asked ≡ place ∷ w.asked → old.faults < new.faults → new.calls ≤ old.calls + 1 → Tallies w n stores (set stores place new)
    lost_tallies n lost asked cause most = record {
      lost = λ i. rw lost (raised (λ m. m.faults) w.lost cause i);
      asked = λ i. rw asked (capped (λ m. m.calls) w.asked most i);
    }

    -- stores that number in turn still do
    pub still_in_turn : NumberInTurn stores → NumberInTurn (set stores place new)
    still_in_turn numbers = All-set (λ (m : Meaning). m.numbers ≡ true) stores place new (keeps.numbers ∙ All-get_or (λ (m : Meaning). m.numbers ≡ true) stores place d lt numbers) numbers

    in_turn_here : NumberInTurn stores → old.numbers ≡ true
    in_turn_here numbers = All-get_or (λ (m : Meaning). m.numbers ≡ true) stores place d lt numbers

    -- the number that was picked, as an outcome has it
    abbrev pick : ℕ → Number
    pick n = if old.numbers then Next else Given n

    pick_next : (n : ℕ) → old.numbers ≡ true → pick n ≡ Next
    pick_next n numbers = rw numbers refl

    picks : (n : ℕ) (c : Contents) → (old.numbers ≡ true → n ≡ c.leases.last + 1) → number_over (pick n) c ≡ n
    picks n c in_order = elim old.numbers as (λ b. (b ≡ true → n ≡ c.leases.last + 1) → number_over (if b then Next else Given n) c ≡ n) [ true ↦ (λ order. sym (order refl)) | false ↦ (λ order. refl) ] in_order

    module _ {X : Type 0} (request : Request) (next : Heard → Step X) where
      abbrev here : Contents
      here = contents_at w place

      abbrev Asked : Heard → Type 0
      Asked heard = Goes (ask place request next) (next heard) w stores (set stores place new) (Beside place new.contents w)

      -- the store made the call or refused it, and this was heard
      made : (number : Number) (heard : Heard) → (old.numbers ≡ true → number ≡ Next) → new.contents ≡ made_of request number here → answer_of request number here ≡ heard → new.calls ≤ old.calls + 1 → Asked heard
      made number heard in_turn left answer most = record {
        used = Made number ∷ [];
        new = counted place (at_store place (made_of request number) w);
        goes = λ more. ap (λ (h : Heard). next h (counted place (at_store place (made_of request number) w)) more) answer;
        stores = shows_new _ left;
        lost = omega arith;
        asked = omega arith;
        tallies = made_tallies _ refl refl most;
        in_turn = λ numbers. ((in_turn (in_turn_here numbers), tt), still_in_turn numbers);
        shows = record { local = refl; stores = ap (set w.stores place) (sym left); remotes = refl; reports = refl; text = refl };
      }

      -- the store lost the call without an effect
      lost_before : old.faults < new.faults → new.contents ≡ here → new.calls ≤ old.calls + 1 → Asked Missed
      lost_before cause left most = record {
        used = LostBefore ∷ [];
        new = record w { asked = place ∷ w.asked; lost = place ∷ w.lost };
        goes = λ more. refl;
        stores = shows_same left;
        lost = omega arith;
        asked = omega arith;
        tallies = lost_tallies _ refl refl cause most;
        in_turn = λ numbers. (tt, still_in_turn numbers);
        shows = record { local = refl; stores = w_is left; remotes = refl; reports = refl; text = refl };
      }

      -- or with its effect
      lost_after : (number : Number) → (old.numbers ≡ true → number ≡ Next) → old.faults < new.faults → new.contents ≡ made_of request number here → new.calls ≤ old.calls + 1 → Asked Missed
      lost_after number in_turn cause left most = record {
        used = LostAfter number ∷ [];
        new = record (at_store place (made_of request number) w) { asked = place ∷ w.asked; lost = place ∷ w.lost };
        goes = λ more. refl;
        stores = shows_new _ left;
        lost = omega arith;
        asked = omega arith;
        tallies = lost_tallies _ refl refl cause most;
        in_turn = λ numbers. ((in_turn (in_turn_here numbers), tt), still_in_turn numbers);
        shows = record { local = refl; stores = ap (set w.stores place) (sym left); remotes = refl; reports = refl; text = refl };
      }

      -- a request that was served, over the contents that the world has
      module _ (number : ℕ) (found : Contents) (served : IsServed request number found new.contents) (is : found ≡ here) (in_order : old.numbers ≡ true → number ≡ found.leases.last + 1) where
        live : request.is_refused here ≡ false
        live = subst (λ (c : Contents). request.is_refused c ≡ false) is served.serves

        left : new.contents ≡ request.effect (number_over (pick number) here) here
        left = served.effect ∙ ap (request.effect number) is
            ∙ ap (λ (n : ℕ). request.effect n here) (sym (picks number here (λ numbers. in_order numbers ∙ ap (λ (c : Contents). c.leases.last + 1) is)))

        left_made : new.contents ≡ made_of request (pick number) here
        left_made = rw live left

        answered : answer_of request (pick number) here ≡ Answered new.contents
        answered = rw live (ap Answered (sym left))

      -- each call of which something was heard
      pub asks : (end : Ending) (heard : Heard) → Called request end old new → Hears end new.contents heard → Asked heard
      asks Answers heard call hears =
          let is = found_is call.found call.finds in
          made (pick call.picked) heard (pick_next call.picked) (left_made call.picked call.found call.says is call.in_order) (answered call.picked call.found call.says is call.in_order ∙ sym hears) (one_more call.counts)
      asks Refuses heard call hears =
          let is = found_is call.found call.finds in
          let dead : request.is_refused here ≡ true = subst (λ (c : Contents). request.is_refused c ≡ true) is call.says.0 in
          let same : new.contents ≡ here = call.says.1 ∙ is in
          made Next heard (λ numbers. refl) (rw dead same) (rw dead (ap Refused (sym same)) ∙ sym hears) (one_more call.counts)
      asks WantsMemory heard call hears = absurd hears
      asks IsLost heard call hears =
          let is = found_is call.found call.finds in
          let most = one_at_most call.counts in
          subst Asked (sym hears)
          (elim call.says [
            | inl none ↦ lost_before (call.cause refl) (none ∙ is) most
            | inr served ↦ lost_after (pick call.picked) (pick_next call.picked) (call.cause refl) (left_made call.picked call.found served is call.in_order) most
          ])

    -- a call that is neither lost nor refused
    pub asks_surely : (effect : Contents → Contents) → Called (plain effect) Answers old new → Goes (ask_surely place (plain effect)) done w stores (set stores place new) (Beside place new.contents w)
    asks_surely effect call =
        let left : new.contents ≡ effect (contents_at w place) = call.says.effect ∙ ap effect (found_is call.found call.finds) in
        record {
          used = Made Next ∷ [];
          new = counted place (at_store place effect w);
          goes = λ more. refl;
          stores = shows_new _ left;
          lost = omega arith;
          asked = omega arith;
          tallies = made_tallies _ refl refl (one_more call.counts);
          in_turn = λ numbers. ((refl, tt), still_in_turn numbers);
          shows = record { local = refl; stores = ap (set w.stores place) (sym left); remotes = refl; reports = refl; text = refl };
        }
