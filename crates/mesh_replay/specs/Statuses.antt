-- The numbers that the process ends with.
use Rattle.std.specs.Prelude.{ℕ}
use Rattle.scenario_replay.specs.declared.status.Status.{Status}
use Rattle.scenario_replay.specs.declared.status.Status.TheVariants as status

-- the number of each status; 3 is kept for the runs on threads, which are not served yet
abbrev pub status_number : Status → ℕ
status_number status.Done = 0
status_number status.Usage = 1
status_number (status.Scenario line kind) = 2
status_number status.ReadFault = 4
status_number status.WriteFault = 5
status_number status.Memory = 6
