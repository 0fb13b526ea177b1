use Rattle.std.proofs.Common.{ap, ◌∙◌}
use Rattle.store_api.specs.Leases.{LeaseTable, is_live_lease}
use Rattle.lease_clock.specs.Kept.{entries_of}
use Rattle.lease_clock.proofs.Places.{lives, placed}
use Rattle.lease_clock.proofs.leases.Leases.is_live.Goals as goal

pub returns : goal.returns
returns c =
    let place = placed c.self.inside.kept.items c.deref.result.now c.self.inside.last c.args.lease c.place_of.result c.deref.ensures.value c.self.invariant.numbered c.place_of.ensures in
    c.is_some.ensures ∙ lives (entries_of c.self.inside.kept.items) c.args.lease c.place_of.result place
    ∙ ap (λ (table : LeaseTable). is_live_lease table.live c.args.lease) c.self.view_is
