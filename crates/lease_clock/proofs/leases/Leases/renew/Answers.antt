use Rattle.std.proofs.Common.{◌≡◌, List, Some, length, ap, refl, subst, sym, ◌∙◌, arith}
use Rattle.std.proofs.lemmas.List.{with_items_is}
use Rattle.store_api.specs.Leases.{LeaseTable, deadline_at, deadline_of, is_live_lease, renewed}
use Rattle.lease_clock.specs.declared.tournament.KeptLease.{KeptLease}
use Rattle.lease_clock.specs.Kept.{Entry, IsPlace, entries_of, leases_of}
use Rattle.lease_clock.specs.Least.{IsKept, Moves}
use Rattle.lease_clock.proofs.Edits.{deadline_is, is_there, kept_move, renews, table_of}
use Rattle.lease_clock.proofs.Numbers.{nothing}
use Rattle.lease_clock.proofs.Places.{at_entry, placed}
use Rattle.lease_clock.proofs.leases.Leases.renew.Goals as goal

pub invariant_of-self : goal.invariant_of-self
invariant_of-self c =
    let items = c.self.inside.kept.items in
    let new = c.set_deadline.new.kept in
    let place = c.in_ok-place.place in
    let time = c.saturating_add-deadline.result in
    let len : length new ≡ c.self.inside.kept.len = omega (arith, c.set_deadline.auto.kept, c.deref_mut.ensures.len) in
    let moves : Moves items place (Some time) new = subst (λ (kept : List KeptLease). Moves kept place (Some time) new) c.deref_mut.ensures.value c.set_deadline.ensures in
    subst (λ (items : List KeptLease). IsKept items c.self.inside.last) (sym (with_items_is c.self.inside.kept new len)) (kept_move items new c.self.inside.last place (Some time) c.self.invariant moves)

pub returns-clause-live : goal.returns-clause-live
returns-clause-live c =
    let items = c.self.inside.kept.items in
    let new = c.set_deadline.new.kept in
    let place = c.in_ok-place.place in
    let time = c.saturating_add-deadline.result in
    let moves : Moves items place (Some time) new = subst (λ (kept : List KeptLease). Moves kept place (Some time) new) c.deref_mut.ensures.value c.set_deadline.ensures in
    let is_place : IsPlace (entries_of items) c.args.lease (Some place) = placed items c.deref.result.now c.self.inside.last c.args.lease (Some place) c.deref.ensures.value c.self.invariant.numbered c.in_ok-place.ensures in
    sym (is_there items new c.self.inside.last place (Some time) c.self.invariant moves c.args.lease c.self.inside.clock is_place)
    ∙ ap (λ (table : LeaseTable). is_live_lease table.live c.args.lease) c.self.view_is

pub returns-clause-deadline : goal.returns-clause-deadline
returns-clause-deadline c =
    let items = c.self.inside.kept.items in
    let new = c.set_deadline.new.kept in
    let place = c.in_ok-place.place in
    let time = c.saturating_add-deadline.result in
    let len : length new ≡ c.self.inside.kept.len = omega (arith, c.set_deadline.auto.kept, c.deref_mut.ensures.len) in
    let moves : Moves items place (Some time) new = subst (λ (kept : List KeptLease). Moves kept place (Some time) new) c.deref_mut.ensures.value c.set_deadline.ensures in
    let is_place : IsPlace (entries_of items) c.args.lease (Some place) = placed items c.deref.result.now c.self.inside.last c.args.lease (Some place) c.deref.ensures.value c.self.invariant.numbered c.in_ok-place.ensures in
    let entry = at_entry items place c.index.result.now nothing (omega (arith, is_place.0, Rattle.std.proofs.lemmas.List.length-map items Rattle.lease_clock.specs.Kept.entry_of)) in
    let from_now = c.saturating_add-deadline.ensures ∙ ap (deadline_at c.self.inside.clock) (ap (λ (kept : KeptLease). kept.seconds) c.index.ensures ∙ sym (ap (λ (entry : Entry). entry.seconds) entry)) in
    ap (λ (items : List KeptLease). deadline_of c.args.lease (table_of c.self.inside.clock c.self.inside.last (leases_of (entries_of items)))) (with_items_is c.self.inside.kept new len)
    ∙ deadline_is items new c.self.inside.last place (Some time) c.self.invariant moves c.args.lease c.self.inside.clock is_place time refl from_now

pub returns-clause-renewed : goal.returns-clause-renewed
returns-clause-renewed c =
    let items = c.self.inside.kept.items in
    let new = c.set_deadline.new.kept in
    let place = c.in_ok-place.place in
    let time = c.saturating_add-deadline.result in
    let len : length new ≡ c.self.inside.kept.len = omega (arith, c.set_deadline.auto.kept, c.deref_mut.ensures.len) in
    let moves : Moves items place (Some time) new = subst (λ (kept : List KeptLease). Moves kept place (Some time) new) c.deref_mut.ensures.value c.set_deadline.ensures in
    let is_place : IsPlace (entries_of items) c.args.lease (Some place) = placed items c.deref.result.now c.self.inside.last c.args.lease (Some place) c.deref.ensures.value c.self.invariant.numbered c.in_ok-place.ensures in
    let entry = at_entry items place c.index.result.now nothing (omega (arith, is_place.0, Rattle.std.proofs.lemmas.List.length-map items Rattle.lease_clock.specs.Kept.entry_of)) in
    let from_now = c.saturating_add-deadline.ensures ∙ ap (deadline_at c.self.inside.clock) (ap (λ (kept : KeptLease). kept.seconds) c.index.ensures ∙ sym (ap (λ (entry : Entry). entry.seconds) entry)) in
    ap (λ (items : List KeptLease). table_of c.self.inside.clock c.self.inside.last (leases_of (entries_of items))) (with_items_is c.self.inside.kept new len)
    ∙ ap (table_of c.self.inside.clock c.self.inside.last) (renews items new c.self.inside.last place (Some time) c.self.invariant moves c.args.lease c.self.inside.clock is_place time refl from_now)
    ∙ ap (renewed c.args.lease) c.self.view_is
