use Rattle.std.proofs.Common.{◌≡◌, List, length, ap, refl, subst, sym, ◌∙◌, arith, rules}
use Rattle.std.proofs.lemmas.List.{with_items_is}
use Rattle.lease_clock.specs.declared.tournament.KeptLease.{KeptLease}
use Rattle.lease_clock.specs.Kept.{entries_of}
use Rattle.lease_clock.specs.Least.{IsKept}
use Rattle.lease_clock.proofs.Edits.{kept_push}
use Rattle.lease_clock.proofs.leases.Leases.grant.Goals as goal

pub invariant_of-self-2 : goal.invariant_of-self-2
invariant_of-self-2 c =
    let len : length c.settle_up.new.kept ≡ c.push.new.self.len = omega (arith, c.settle_up.auto.kept, c.deref_mut.ensures.len) in
    let same : entries_of c.settle_up.new.kept ≡ entries_of c.push.new.self.items = c.settle_up.ensures.entries ∙ ap entries_of c.deref_mut.ensures.value in
    subst (λ (items : List KeptLease). IsKept items c.in-Some.number) (sym (with_items_is c.push.new.self c.settle_up.new.kept len))
    (kept_push _ _ _ _ _ refl (search rules) (same ∙ ap entries_of c.in_ok-push.ensures.items) c.self.invariant c.settle_up.ensures.settled)
