-- A store of which calls are lost on their way.
-- Source: etcd, "KV API guarantees" (a failed call was applied whole or not at all).
use Rattle.std.specs.Prelude.{ℕ, ◌+◌}
use Rattle.store_api.specs.Meaning.{Meaning}

-- what the store means to its callers where so many calls were lost before or behind it
abbrev pub losing : ℕ → Meaning → Meaning
losing lost store = record store { faults = lost + store.faults }
