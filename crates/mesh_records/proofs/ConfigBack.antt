-- A config that was written is read back.
use Rattle.std.proofs.Common.{◌≡◌, ◌<◌, ◌^◌, ◌==◌, true, false, Ok, refl, arith, nat_lt}
use Rattle.std.proofs.lemmas.Bool.{lt-ltb, ne_eqb}
use Rattle.record_values.specs.Values.{Config}
use Rattle.record_reading.specs.Config.{config_of}
use Rattle.mesh_records.specs.Trees.{config_tree}

pub config_reads_back : (c : Config) → c.id < 2 ^ 32 → 0 < c.max_connected → c.max_connected < 2 ^ 32 → config_of (config_tree c) ≡ Ok c
unfolding config_of config_tree
config_reads_back c id some most =
    let fits : nat_lt c.id (2 ^ 32) ≡ true = lt-ltb c.id (2 ^ 32) id in
    let fits2 : nat_lt c.max_connected (2 ^ 32) ≡ true = lt-ltb c.max_connected (2 ^ 32) most in
    let not_none : (c.max_connected == 0) ≡ false = ne_eqb c.max_connected 0 (λ e. omega arith) in
    rw (fits, fits2, not_none) refl
