use Rattle.lease_clock.proofs.Numbers.{numbered_live}
use Rattle.lease_clock.proofs.leases.Leases.is_numbered.Goals as goal

pub returns : goal.returns
returns c = rw (← c.self.view_is) (numbered_live c.self.inside.last 0 _ c.self.invariant.numbered)
