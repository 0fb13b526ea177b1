-- What the crates above may cite of calls and talks.
use Rattle.std.proofs.Common.{◌≡◌, ◌≢◌, [], ◌++◌, refl, sym, ap, subst, ◌∙◌, append_assoc, append-nil, arith}
use Rattle.store_api.specs.Calls.{Ending, Answers, Refuses, WantsMemory, IsLost, Request, Called, Crosses, Heard, Answered, Refused, Missed, HeardOf, Talk, Ends, Asks, Talked, Comes, on_store}
use Rattle.store_api.specs.History.{History, Begins}
use Rattle.store_api.specs.Meaning.{Meaning, Keeps}

pub begins_itself : (h : History) → Begins h h
begins_itself h = ([], sym (append-nil h))

pub begins_both : (a b c : History) → Begins a b → Begins b c → Begins a c
begins_both a b c first second = (first.0 ++ second.0, second.1 ∙ ap (λ (h : History). h ++ second.0) first.1 ∙ append_assoc a first.0 second.0)

-- what no call keeps, and what one call and others behind it keep
pub keeps_none : (m : Meaning) → Keeps m m
keeps_none m = record { history = begins_itself m.contents.history; faults = omega arith; quiet = refl; numbers = refl; writable = λ _. refl }

pub keeps_both : (old mid new : Meaning) → Keeps old mid → Keeps mid new → Keeps old new
keeps_both old mid new a b = record {
  history = begins_both old.contents.history mid.contents.history new.contents.history a.history b.history;
  faults = omega (arith, a.faults, b.faults);
  quiet = b.quiet ∙ a.quiet;
  numbers = b.numbers ∙ a.numbers;
  writable = λ k. b.writable k ∙ a.writable k;
}

module _ {V : Type 0} (meaning : V → Meaning) (between : V → V → Request → Ending → Type 0) where
  -- what is heard of a call that did not want memory
  pub heard_of : (request : Request) (end : Ending) (old new : V) → end ≢ WantsMemory → Crosses meaning between request end old new → (heard : Heard) × HeardOf meaning between request old new heard
  heard_of request Answers old new told call = (Answered (meaning new).contents, record { end = Answers; call = call; hears = refl })
  heard_of request Refuses old new told call = (Refused (meaning new).contents, record { end = Refuses; call = call; hears = refl })
  heard_of request WantsMemory old new told call = absurd (told refl)
  heard_of request IsLost old new told call = (Missed, record { end = IsLost; call = call; hears = refl })

  -- what all calls of a talk keep
  pub talked_keeps : {W X : Type 0} (talk : Talk W X) (old new : V) (x : X) → Talked (on_store meaning between) talk old new x → Keeps (meaning old) (meaning new)
  talked_keeps (Ends y) old new x talked = subst (λ (v : V). Keeps (meaning old) (meaning v)) (sym talked.0) (keeps_none (meaning old))
  talked_keeps (Asks way request next) old new x (heard, mid, call, rest) =
      let one : Called request call.end (meaning old) (meaning mid) = call.call.called in
      keeps_both (meaning old) (meaning mid) (meaning new) one.keeps (talked_keeps (next heard) mid new x rest)

module _ {W X V : Type 0} (calls : W → Request → V → V → Heard → Type 0) where
  -- no call so far
  pub comes_none : (talk : Talk W X) (old : V) → Comes calls talk old talk old
  comes_none talk old = record { on = λ new x talked. talked }

  -- one call more
  pub comes_more : (talk : Talk W X) (way : W) (request : Request) (next : Heard → Talk W X) (old mid new : V) (heard : Heard) → Comes calls talk old (Asks way request next) mid → calls way request mid new heard → Comes calls talk old (next heard) new
  comes_more talk way request next old mid new heard so_far call = record { on = λ last x talked. so_far.on last x (heard, new, call, talked) }

  -- the last call
  pub comes_last : (talk : Talk W X) (way : W) (request : Request) (next : Heard → Talk W X) (old mid new : V) (heard : Heard) (x : X) → Comes calls talk old (Asks way request next) mid → calls way request mid new heard → next heard ≡ Ends x → Talked calls talk old new x
  comes_last talk way request next old mid new heard x so_far call ends =
      so_far.on new x (heard, new, call, subst (λ (t : Talk W X). Talked calls t new new x) (sym ends) (refl, refl))
