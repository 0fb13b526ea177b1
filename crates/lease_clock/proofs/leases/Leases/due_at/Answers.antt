use Rattle.std.proofs.Common.{arith, ◌≡◌, ℕ, List, map, rules, ap, subst, ◌∙◌}
use Rattle.std.specs.BTreeSet.{BTreeSet, contains}
use Rattle.store_api.specs.Leases.{rank_cmp}
use Rattle.lease_clock.specs.declared.tournament.KeptLease.{KeptLease}
use Rattle.lease_clock.specs.Kept.{HasRanks, due_ranks, entries_of, leases_of}
use Rattle.lease_clock.specs.Least.{AddsDue}
use Rattle.lease_clock.proofs.DueRanks.{has_ranks}
use Rattle.lease_clock.proofs.Ranks.{keys_are}
use Rattle.lease_clock.proofs.leases.Leases.due_at.Goals as goal

pub returns : goal.returns
returns c =
    let items = c.self.inside.kept.items in
    let ranks = c.add_due.new.ranks in
    let numbers : c.in_ok-collect.field-0.items ≡ map (λ (r : ℕ × ℕ). r.1) ranks.keys = search rules in
    let adds : AddsDue items 0 c.args.time c.new-ranks.result ranks = subst (λ (kept : List KeptLease). AddsDue kept 0 c.args.time c.new-ranks.result ranks) c.deref.ensures.value c.in_ok-add_due.ensures in
    let has : HasRanks ranks (due_ranks c.args.time (leases_of (entries_of items))) = has_ranks c.args.time (omega (arith, c.ranges.time)) items c.new-ranks.result ranks (λ q. ap (λ (keys : List (ℕ × ℕ)). let set : BTreeSet (ℕ × ℕ) = record { keys = keys } in contains rank_cmp set q) c.new-ranks.ensures.empty) adds in
    rw (← c.self.view_is) (numbers ∙ ap (map (λ (r : ℕ × ℕ). r.1))
    (keys_are (record { now = c.args.time; live = leases_of (entries_of items); last = c.self.inside.last }) ranks c.iter.ensures.ordered has))
