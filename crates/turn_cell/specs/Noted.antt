-- What a log without bytes stands for.
use Rattle.std.specs.Prelude.{[], ◌∷◌, ◌++◌}
use Rattle.turn_cell.specs.declared.log.Past.{Past, fold-Past}
use Rattle.turn_cell.specs.declared.log.Past.TheOpen.{Past-F}
use Rattle.turn_cell.specs.Logs.{Log}

module _ {E : Type 0} where
  abbrev pub noted_step : Past-F E (Log E) → Log E
  noted_step Past-F.Start = []
  noted_step (Past-F.Noted past owner entry) = past.value ++ (owner, entry.value) ∷ []

  -- the entries that were noted, the oldest first
  abbrev pub noted : Past E → Log E
  noted = fold-Past E (Log E) noted_step
