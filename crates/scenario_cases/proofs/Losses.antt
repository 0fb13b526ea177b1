-- A call that is lost before it reaches the store, or behind it.
use Rattle.std.proofs.Common.{◌≡◌, ◌≤◌, ◌+◌, ℕ, refl, arith, ◌⊎◌, inl, inr}
use Rattle.store_api.specs.Calls.{Ending, Answers, Refuses, WantsMemory, IsLost, Request, Called, IsCounted, IsServed, Says}
use Rattle.store_api.specs.Contents.{Contents}
use Rattle.store_api.specs.Meaning.{Meaning, Counts, CountsNot, Finds, Keeps, MayMake}
use Rattle.store_api.proofs.Calls.{begins_itself}
use Rattle.scenario_cases.specs.Losing.{losing}

pub lost_before : (effect : Contents → Contents) (old new : ℕ) (m : Meaning) → new ≡ old + 1 → MayMake (losing old m) (losing new m) effect
lost_before effect old new m one_more = record {
  found = m.contents;
  finds = record { later = begins_itself m.contents.history; compacted = omega arith; alone = λ _. refl };
  whole = inl refl;
  counts = inr (record { calls = refl; told = refl });
  cause = omega (arith, one_more);
}

-- the same, in the words of every call
pub unmade_call : (request : Request) (old new : ℕ) (m : Meaning) → new ≡ old + 1 → Called request IsLost (losing old m) (losing new m)
unmade_call request old new m one_more = record {
  found = m.contents;
  finds = record { later = begins_itself m.contents.history; compacted = omega arith; alone = λ _. refl };
  picked = m.contents.leases.last + 1;
  says = inl refl;
  in_order = λ _. refl;
  counts = inr (record { calls = refl; told = refl });
  cause = λ _. omega (arith, one_more);
  keeps = record { history = begins_itself m.contents.history; faults = omega (arith, one_more); quiet = refl; numbers = refl; writable = λ k. refl };
}

module _ (old new : ℕ) (before after : Meaning) where
  counts_too : (found left : Contents) → Counts before after (record { found = found; left = left }) → Counts (losing old before) (losing new after) (record { found = found; left = left })
  counts_too found left counts = record { calls = counts.calls; told = counts.told }

  counted_too : (end : Ending) (found : Contents) → IsCounted end before after found → IsCounted end (losing old before) (losing new after) found
  counted_too Answers found counts = counts_too found after.contents counts
  counted_too Refuses found counts = counts_too found after.contents counts
  counted_too WantsMemory found counts = counts_too found after.contents counts
  counted_too IsLost found counts = elim counts [ inl counted ↦ inl (counts_too found after.contents counted) | inr not ↦ inr (record { calls = not.calls; told = not.told }) ]

  keeps_too : old ≤ new → Keeps before after → Keeps (losing old before) (losing new after)
  keeps_too le keeps = record {
    history = keeps.history;
    faults = omega (arith, le, keeps.faults);
    quiet = keeps.quiet;
    numbers = keeps.numbers;
    writable = keeps.writable;
  }

  -- a call that is not lost on its way
  pub told_call : (request : Request) (end : Ending) → new ≡ old + 0 → Called request end before after → Called request end (losing old before) (losing new after)
  told_call request end same call = record {
    found = call.found;
    finds = record { later = call.finds.later; compacted = call.finds.compacted; alone = call.finds.alone };
    picked = call.picked;
    says = call.says;
    in_order = call.in_order;
    counts = counted_too end call.found call.counts;
    cause = λ lost. omega (arith, same, call.cause lost);
    keeps = keeps_too (omega (arith, same)) call.keeps;
  }

  -- whatever its end was, it was served or had no effect, and it counts or not
  says_lost : (request : Request) (end : Ending) (picked : ℕ) (found left : Contents) → Says request end picked found left → Says request IsLost picked found left
  says_lost request Answers picked found left says = inr says
  says_lost request Refuses picked found left says = inl says.1
  says_lost request WantsMemory picked found left says = inl says
  says_lost request IsLost picked found left says = says

  lost_counts : (end : Ending) (found : Contents) → IsCounted end before after found → IsCounted IsLost before after found
  lost_counts Answers found counts = inl counts
  lost_counts Refuses found counts = inl counts
  lost_counts WantsMemory found counts = inl counts
  lost_counts IsLost found counts = counts

  -- a call that is lost behind the store
  pub lost_call : (request : Request) (end : Ending) → new ≡ old + 1 → Called request end before after → Called request IsLost (losing old before) (losing new after)
  lost_call request end one_more call = record {
    found = call.found;
    finds = record { later = call.finds.later; compacted = call.finds.compacted; alone = call.finds.alone };
    picked = call.picked;
    says = says_lost request end call.picked call.found after.contents call.says;
    in_order = call.in_order;
    counts = counted_too IsLost call.found (lost_counts end call.found call.counts);
    cause = λ lost. omega (arith, one_more, call.keeps.faults);
    keeps = keeps_too (omega (arith, one_more)) call.keeps;
  }
