-- A call on a link, in the words that are the same for every call of a store.
use Rattle.std.proofs.Common.{◌≡◌, ◌≤◌, ◌<◌, ◌+◌, cond, true, false, Ok, Err, refl, sym, ap, subst, ◌∙◌, inl, inr, arith}
use Rattle.store_api.specs.Calls.{Ending, Answers, Refuses, WantsMemory, IsLost, Request, Called, IsCounted, Says, ending_of}
use Rattle.store_api.specs.Contents.{Contents}
use Rattle.store_api.specs.Meaning.{Meaning, Counts, CountsNot, Finds, Keeps}
use Rattle.store_api.specs.declared.change.StoreFault.TheVariants.{Lost, Compacted, NoLease, Memory}
use Rattle.store_api.proofs.Calls.{begins_itself}
use Rattle.flaky_link.specs.Answers.{Answer}
use Rattle.flaky_link.specs.Link.{Link, after_call, failed, fate, is_worn, linked, met, passed}
use Rattle.flaky_link.specs.Through.{after_hidden, hidden}
use Rattle.flaky_link.specs.declared.state.Fate.{Fate}
use Rattle.flaky_link.specs.declared.state.Fate.TheVariants.{FailsBefore}

-- a call that passed is no failure of the link
passed_faults : (l : Link) → (passed l).faults ≡ l.faults
passed_faults l = elim (is_worn l) as (λ b. (cond b l (record l { plan = after_call l.plan })).faults ≡ l.faults) [ true ↦ refl | false ↦ refl ]

module _ (old new : Link) (before after : Meaning) where
  linked_counts : (found left : Contents) → Counts before after (record { found = found; left = left }) → Counts (linked old before) (linked new after) (record { found = found; left = left })
  linked_counts found left counts = record { calls = counts.calls; told = counts.told }

  linked_not : CountsNot before after → CountsNot (linked old before) (linked new after)
  linked_not not = record { calls = not.calls; told = not.told }

  linked_counted : (end : Ending) (found : Contents) → IsCounted end before after found → IsCounted end (linked old before) (linked new after) found
  linked_counted Answers found counts = linked_counts found after.contents counts
  linked_counted Refuses found counts = linked_counts found after.contents counts
  linked_counted WantsMemory found counts = linked_counts found after.contents counts
  linked_counted IsLost found counts = elim counts [ inl counted ↦ inl (linked_counts found after.contents counted) | inr not ↦ inr (linked_not not) ]

  linked_finds : (found : Contents) → Finds before found → Finds (linked old before) found
  linked_finds found finds = record { later = finds.later; compacted = finds.compacted; alone = finds.alone }

  linked_keeps : old.faults ≤ new.faults → Keeps before after → Keeps (linked old before) (linked new after)
  linked_keeps le keeps = record {
    history = keeps.history;
    faults = omega (arith, le, keeps.faults);
    quiet = keeps.quiet;
    numbers = keeps.numbers;
    writable = keeps.writable;
  }

  -- an end that is told as it is
  told_call : (request : Request) (end : Ending) → old.faults ≤ new.faults → Called request end before after → Called request end (linked old before) (linked new after)
  told_call request end le call = record {
    found = call.found;
    finds = linked_finds call.found call.finds;
    picked = call.picked;
    says = call.says;
    in_order = call.in_order;
    counts = linked_counted end call.found call.counts;
    cause = λ lost. omega (arith, le, call.cause lost);
    keeps = linked_keeps le call.keeps;
  }

  -- an end that is lost on the way back
  lost_call : (request : Request) (end : Ending) (call : Called request end before after) → old.faults < new.faults
      → Says request IsLost call.picked call.found after.contents → IsCounted IsLost before after call.found → Called request IsLost (linked old before) (linked new after)
  lost_call request end call lt says counts = record {
    found = call.found;
    finds = linked_finds call.found call.finds;
    picked = call.picked;
    says = says;
    in_order = call.in_order;
    counts = linked_counted IsLost call.found counts;
    cause = λ lost. omega (arith, lt, call.keeps.faults);
    keeps = linked_keeps (omega (arith, lt)) call.keeps;
  }

-- a call that passed ends as it did at the store
pub passed_call : (request : Request) (end : Ending) (old new : Link) (before after : Meaning) → new ≡ passed old → Called request end before after → Called request end (linked old before) (linked new after)
passed_call request end old new before after is call =
    let same : new.faults ≡ old.faults = ap (λ (l : Link). l.faults) is ∙ passed_faults old in
    told_call old new before after request end (omega (arith, same)) call

-- a call that did not reach the store
lost_before : (request : Request) (l : Link) (m : Meaning) → Called request IsLost (linked l m) (linked (failed l) m)
lost_before request l m = record {
  found = m.contents;
  finds = record { later = begins_itself m.contents.history; compacted = omega arith; alone = λ _. refl };
  picked = m.contents.leases.last + 1;
  says = inl refl;
  in_order = λ _. refl;
  counts = inr (record { calls = refl; told = refl });
  cause = λ _. omega arith;
  keeps = record { history = begins_itself m.contents.history; faults = omega arith; quiet = refl; numbers = refl; writable = λ k. refl };
}

pub unmade_call : (request : Request) (l new : Link) (m : Meaning) → FailsBefore ≡ fate l → new ≡ met (fate l) l → Called request IsLost (linked l m) (linked new m)
unmade_call request l new m fails e =
    let e' : new ≡ failed l = e ∙ ap (λ (f : Fate). met f l) (sym fails) in
    subst (λ (x : Link). Called request IsLost (linked l m) (linked x m)) (sym e') (lost_before request l m)

-- a call whose answer was lost, unless memory was wanted
hides : (T : Type 0) (request : Request) (old : Link) (before after : Meaning) (answer : Answer T) → Called request (ending_of T answer) before after → Called request (ending_of T (hidden T answer)) (linked old before) (linked (after_hidden T answer old) after)
hides T request old before after (Ok value) call = lost_call old (failed old) before after request Answers call (omega arith) (inr call.says) (inl call.counts)
hides T request old before after (Err Lost) call = lost_call old (failed old) before after request IsLost call (omega arith) call.says call.counts
hides T request old before after (Err (Compacted compacted)) call = lost_call old (failed old) before after request Refuses call (omega arith) (inl call.says.1) (inl call.counts)
hides T request old before after (Err (NoLease lease)) call = lost_call old (failed old) before after request Refuses call (omega arith) (inl call.says.1) (inl call.counts)
hides T request old before after (Err Memory) call = told_call old old before after request WantsMemory (omega arith) call

pub hidden_call : (T : Type 0) (request : Request) (old new : Link) (before after : Meaning) (answer result : Answer T) → new ≡ after_hidden T answer old → Called request (ending_of T answer) before after → result ≡ hidden T answer → Called request (ending_of T result) (linked old before) (linked new after)
hidden_call T request old new before after answer result is call told =
    subst (λ (l : Link). Called request (ending_of T result) (linked old before) (linked l after)) (sym is)
    (subst (λ (r : Answer T). Called request (ending_of T r) (linked old before) (linked (after_hidden T answer old) after)) (sym told) (hides T request old before after answer call))
