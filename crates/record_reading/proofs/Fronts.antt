use Rattle.std.proofs.Common.{List, ◌++◌, Result, Ok}
use Rattle.record_values.specs.declared.fault.ReadFault.{ReadFault}
use Rattle.record_reading.specs.Judgement.{◌>>=◌}

-- what was read so far, put before what the rest gives
abbrev pub with_front : {X : Type 0} → List X → Result (List X) ReadFault → Result (List X) ReadFault
with_front front rest = rest >>= λ others. Ok (front ++ others)
