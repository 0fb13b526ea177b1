use Rattle.std.proofs.Common.{◌≡◌, List, None, Some, length, ap, refl, subst, sym, ◌∙◌, arith}
use Rattle.std.proofs.lemmas.List.{with_items_is}
use Rattle.store_api.specs.Leases.{Lease, LeaseTable, is_live_lease, revoked}
use Rattle.lease_clock.specs.declared.tournament.KeptLease.{KeptLease}
use Rattle.lease_clock.specs.Kept.{IsPlace, entries_of, leases_of}
use Rattle.lease_clock.specs.Least.{IsKept, Moves}
use Rattle.lease_clock.proofs.Edits.{is_there, kept_move, revokes, table_of}
use Rattle.lease_clock.proofs.Numbers.{none_gone}
use Rattle.lease_clock.proofs.Places.{placed}
use Rattle.lease_clock.proofs.leases.Leases.revoke.Goals as goal

pub returns-in_default-clause-revoked : goal.returns-in_default-clause-revoked
returns-in_default-clause-revoked c =
    let none : IsPlace (entries_of c.self.inside.kept.items) c.args.lease None = placed c.self.inside.kept.items c.deref.result.now c.self.inside.last c.args.lease None c.deref.ensures.value c.self.invariant.numbered c.in_default.ensures in
    let not_live = sym (ap (λ (table : LeaseTable). is_live_lease table.live c.args.lease) c.self.view_is) ∙ none in
    ap (λ (live : List Lease). record c.args.self.now { live = live }) (sym (none_gone _ _ not_live))

pub invariant_of-self : goal.invariant_of-self
invariant_of-self c =
    let items = c.self.inside.kept.items in
    let new = c.set_deadline.new.kept in
    let place = c.in-Some.place in
    let len : length new ≡ c.self.inside.kept.len = omega (arith, c.set_deadline.auto.kept, c.deref_mut.ensures.len) in
    let moves : Moves items place None new = subst (λ (kept : List KeptLease). Moves kept place None new) c.deref_mut.ensures.value c.set_deadline.ensures in
    subst (λ (items : List KeptLease). IsKept items c.self.inside.last) (sym (with_items_is c.self.inside.kept new len)) (kept_move items new c.self.inside.last place None c.self.invariant moves)

pub returns-clause-live : goal.returns-clause-live
returns-clause-live c =
    let items = c.self.inside.kept.items in
    let new = c.set_deadline.new.kept in
    let place = c.in-Some.place in
    let moves : Moves items place None new = subst (λ (kept : List KeptLease). Moves kept place None new) c.deref_mut.ensures.value c.set_deadline.ensures in
    let is_place : IsPlace (entries_of items) c.args.lease (Some place) = placed items c.deref.result.now c.self.inside.last c.args.lease (Some place) c.deref.ensures.value c.self.invariant.numbered c.in-Some.ensures in
    sym (is_there items new c.self.inside.last place None c.self.invariant moves c.args.lease c.self.inside.clock is_place)
    ∙ ap (λ (table : LeaseTable). is_live_lease table.live c.args.lease) c.self.view_is

pub returns-clause-revoked : goal.returns-clause-revoked
returns-clause-revoked c =
    let items = c.self.inside.kept.items in
    let new = c.set_deadline.new.kept in
    let place = c.in-Some.place in
    let len : length new ≡ c.self.inside.kept.len = omega (arith, c.set_deadline.auto.kept, c.deref_mut.ensures.len) in
    let moves : Moves items place None new = subst (λ (kept : List KeptLease). Moves kept place None new) c.deref_mut.ensures.value c.set_deadline.ensures in
    let is_place : IsPlace (entries_of items) c.args.lease (Some place) = placed items c.deref.result.now c.self.inside.last c.args.lease (Some place) c.deref.ensures.value c.self.invariant.numbered c.in-Some.ensures in
    c.drop_ended.ensures
    ∙ ap (λ (items : List KeptLease). table_of c.self.inside.clock c.self.inside.last (leases_of (entries_of items))) (with_items_is c.self.inside.kept new len)
    ∙ ap (table_of c.self.inside.clock c.self.inside.last) (revokes items new c.self.inside.last place None c.self.invariant moves c.args.lease c.self.inside.clock is_place refl)
    ∙ ap (revoked c.args.lease) c.self.view_is
