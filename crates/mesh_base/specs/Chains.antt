-- What a count without bytes stands for.
use Rattle.std.specs.Prelude.{ℕ, ◌+◌}
use Rattle.mesh_base.specs.declared.count.Chain.{Chain, fold-Chain}
use Rattle.mesh_base.specs.declared.count.Chain.TheOpen.{Chain-F}

abbrev pub height_step : Chain-F ℕ → ℕ
height_step Chain-F.Start = 0
height_step (Chain-F.After s) = s.value + 1

-- how often the count was raised
abbrev pub height : Chain → ℕ
height = fold-Chain ℕ height_step
