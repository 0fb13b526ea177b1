use Rattle.std.proofs.Common.{◌≡◌, None, Some, get_or, ap, sym, ◌∙◌, arith}
use Rattle.std.proofs.lemmas.List.{length-map}
use Rattle.store_api.specs.Leases.{deadline_of}
use Rattle.lease_clock.specs.declared.tournament.KeptLease.{KeptLease}
use Rattle.lease_clock.specs.Kept.{Entry, IsPlace, entries_of, entry_of, leases_of}
use Rattle.lease_clock.proofs.Numbers.{deadline_found, deadline_none, nothing}
use Rattle.lease_clock.proofs.Places.{at_entry, placed}
use Rattle.lease_clock.proofs.leases.Leases.deadline.Goals as goal

pub returns-in_err-place : goal.returns-in_err-place
returns-in_err-place c =
    let none : IsPlace (entries_of c.self.inside.kept.items) c.args.lease None = placed c.self.inside.kept.items c.deref.result.now c.self.inside.last c.args.lease None c.deref.ensures.value c.self.invariant.numbered c.in_err-place.ensures in
    c.from_residual.ensures ∙ sym (ap (deadline_of c.args.lease) (sym c.self.view_is) ∙ deadline_none c.args.lease (leases_of (entries_of c.self.inside.kept.items)) none)

pub returns : goal.returns
returns c =
    let items = c.self.inside.kept.items in
    let place = c.in_ok-place.place in
    let is_place : IsPlace (entries_of items) c.args.lease (Some place) = placed items c.deref.result.now c.self.inside.last c.args.lease (Some place) c.deref.ensures.value c.self.invariant.numbered c.in_ok-place.ensures in
    let entry = at_entry items place c.index.result.now nothing (omega (arith, is_place.0, length-map items entry_of)) in
    let is : c.index.result.now.deadline ≡ (get_or (entries_of items) place nothing).deadline = ap (λ (kept : KeptLease). kept.deadline) c.index.ensures ∙ ap (λ (e : Entry). e.deadline) (sym entry) in
    let found = deadline_found c.self.inside.last c.args.lease 0 place (entries_of items) nothing c.self.invariant.numbered is_place.0 (is_place.1 nothing).0 (is_place.1 nothing).1 in
    is ∙ sym found ∙ ap (deadline_of c.args.lease) c.self.view_is
