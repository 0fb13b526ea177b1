use Rattle.std.proofs.Common.{◌-◌, length}
use Rattle.lease_clock.proofs.tournament.+add_due.Given as goal

abbrev pub decreases-add_due : goal.decreases-add_due
decreases-add_due l = length l.kept.now - l.place
