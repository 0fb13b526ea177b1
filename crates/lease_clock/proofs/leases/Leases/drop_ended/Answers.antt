use Rattle.std.proofs.Common.{◌≡◌, List, filter, length, is_some, refl, ap, sym, subst, ◌∙◌, arith, rules}
use Rattle.std.proofs.lemmas.Fn.{filter_same}
use Rattle.std.proofs.lemmas.List.{with_items_is}
use Rattle.lease_clock.specs.declared.tournament.KeptLease.{KeptLease}
use Rattle.lease_clock.specs.Kept.{entries_of, leases_of}
use Rattle.lease_clock.specs.Least.{IsKept}
use Rattle.lease_clock.proofs.Edits.{drops, kept_drop, table_of}
use Rattle.lease_clock.proofs.leases.Leases.drop_ended.Goals as goal

pub invariant_of-self : goal.invariant_of-self
invariant_of-self c =
    let kept : c.retain.new.self.items ≡ filter (λ (kept : KeptLease). is_some kept.deadline) c.self.inside.kept.items = filter_same _ _ _ (λ x b f' called. (search rules, search rules)) _ _ c.retain.ensures.filtered in
    let len : length c.settle_all.new.kept ≡ c.retain.new.self.len = omega (arith, c.settle_all.auto.kept, c.deref_mut.ensures.len) in
    subst (λ (items : List KeptLease). IsKept items c.self.inside.last) (sym (with_items_is c.retain.new.self c.settle_all.new.kept len))
    (kept_drop c.self.inside.kept.items c.settle_all.new.kept c.self.inside.last (λ (kept : KeptLease). is_some kept.deadline) (λ x. refl)
    (c.settle_all.ensures.entries ∙ ap entries_of (c.deref_mut.ensures.value ∙ kept)) c.self.invariant c.settle_all.ensures.settled)

pub returns-then-self-len : goal.returns-then-self-len
returns-then-self-len c =
    let kept : c.retain.new.self.items ≡ filter (λ (kept : KeptLease). is_some kept.deadline) c.self.inside.kept.items = filter_same _ _ _ (λ x b f' called. (search rules, search rules)) _ _ c.retain.ensures.filtered in
    let len : length c.settle_all.new.kept ≡ c.retain.new.self.len = omega (arith, c.settle_all.auto.kept, c.deref_mut.ensures.len) in
    ap (table_of c.self.inside.clock c.self.inside.last) (
    ap (λ (items : List KeptLease). leases_of (entries_of items)) (with_items_is c.retain.new.self c.settle_all.new.kept len)
    ∙ drops c.self.inside.kept.items c.settle_all.new.kept c.self.inside.last (λ (kept : KeptLease). is_some kept.deadline) (λ x. refl)
    (c.settle_all.ensures.entries ∙ ap entries_of (c.deref_mut.ensures.value ∙ kept))
    ) ∙ c.self.view_is
