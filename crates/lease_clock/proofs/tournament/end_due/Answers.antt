use Rattle.std.proofs.Common.{◌<◌, ◌^◌, None, List, length, map, sym, subst, ap, ◌∙◌, arith}
use Rattle.std.proofs.lemmas.List.{length-map}
use Rattle.lease_clock.specs.Kept.{Entry, entries_of, entry_of, lease_of, leases_of}
use Rattle.lease_clock.specs.Lapses.{IsNumbered}
use Rattle.lease_clock.proofs.Numbers.{none_due_stay, numbered_with, one_less, others_stay, staying}
use Rattle.lease_clock.proofs.tournament.end_due.Goals as goal

pub loop-place-smaller : goal.loop-place-smaller
loop-place-smaller c =
    let kept = c.loop-place.kept in
    let fits : c.args.time < 2 ^ 64 = omega (arith, c.ranges.time) in
    let inside : c.in-Some.place < length (entries_of kept) = omega (arith, c.in-Some.ensures.0, length-map kept entry_of) in
    let less = one_less c.args.time fits c.in-Some.place (entries_of kept) inside c.in-Some.ensures.1 in
    omega (arith, less, ap (λ (es : List Entry). length (leases_of es)) c.set_deadline.ensures.entries)

pub loop-place-preserved : goal.loop-place-preserved
loop-place-preserved c =
    let kept = c.loop-place.kept in
    let fits : c.args.time < 2 ^ 64 = omega (arith, c.ranges.time) in
    let inside : c.in-Some.place < length (entries_of kept) = omega (arith, c.in-Some.ensures.0, length-map kept entry_of) in record {
      leases =
          ap (λ (es : List Entry). staying c.args.time (leases_of es)) c.set_deadline.ensures.entries
          ∙ others_stay c.args.time fits c.in-Some.place (entries_of kept) inside c.in-Some.ensures.1
          ∙ c.loop-place.invariant.leases;
      numbered = λ low last numbered.
          subst (λ (es : List Entry). IsNumbered low (map lease_of es) last) (sym c.set_deadline.ensures.entries)
          (numbered_with last low c.in-Some.place None (entries_of kept) (c.loop-place.invariant.numbered low last numbered));
      settled = c.set_deadline.ensures.settled;
    }

pub returns : goal.returns
returns c = record {
  leases = sym (none_due_stay c.args.time (leases_of (entries_of c.loop-place.kept)) c.in_default.ensures) ∙ c.loop-place.invariant.leases;
  numbered = c.loop-place.invariant.numbered;
  settled = c.loop-place.invariant.settled;
}
