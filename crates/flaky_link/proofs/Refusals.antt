-- A call that the link refuses before it reaches the store.
use Rattle.std.proofs.Common.{◌≡◌, refl, sym, ap, subst, ◌∙◌, arith, Err, inl, inr}
use Rattle.store_api.specs.Contents.{Contents}
use Rattle.store_api.specs.Meaning.{Meaning}
use Rattle.store_api.proofs.Calls.{begins_itself}
use Rattle.store_api.specs.declared.change.StoreFault.TheVariants.{Lost}
use Rattle.flaky_link.specs.Answers.{IsCall}
use Rattle.flaky_link.specs.Link.{Link, fate, failed, linked, met}
use Rattle.flaky_link.specs.declared.state.Fate.{Fate}
use Rattle.flaky_link.specs.declared.state.Fate.TheVariants.{FailsBefore}

-- is lost, without an effect, and does not count as a call
lost_before : (T : Type 0) (effect : Contents → Contents) (l : Link) (m : Meaning) → IsCall T effect (linked l m) (linked (failed l) m) (Err Lost)
lost_before T effect l m = record {
  made = tt;
  lost = λ _. record {
    found = m.contents;
    finds = record { later = begins_itself m.contents.history; compacted = omega arith; alone = λ _. refl };
    whole = inl refl;
    counts = inr (record { calls = refl; told = refl });
    cause = omega arith;
  };
  refused = λ not_lost. absurd (not_lost refl);
  keeps = record { history = begins_itself m.contents.history; faults = omega arith; quiet = refl; numbers = refl; writable = λ k. refl };
}

pub never_made : (T : Type 0) (effect : Contents → Contents) (l new : Link) (m : Meaning) → FailsBefore ≡ fate l → new ≡ met (fate l) l → IsCall T effect (linked l m) (linked new m) (Err Lost)
never_made T effect l new m fails e =
    let e' : new ≡ failed l = e ∙ ap (λ (f : Fate). met f l) (sym fails) in
    subst (λ (x : Link). IsCall T effect (linked l m) (linked x m) (Err Lost)) (sym e') (lost_before T effect l m)
