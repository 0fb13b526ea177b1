-- Which sources are admitted.
-- Source: Cilium's ClusterMesh documentation (a cluster's number is unique in the mesh). Which of
-- several clusters with one number is admitted is this project's own.
use Rattle.std.specs.Prelude.{ℕ, List, ◌&&◌, ◌==◌, Bool, false, None, Some, Ok, Err, if◌then◌else◌}
use Rattle.std.specs.List.{list_any}
use Rattle.std.specs.Ordering.{nat_cmp, is_lt}
use Rattle.std.specs.Cmp.Lexicographic.{slice_cmp}
use Rattle.shared_tables.specs.declared.rows.Why.TheVariants as why
use Rattle.shared_tables.specs.declared.standing.Standing.{Standing}
use Rattle.shared_tables.specs.declared.standing.Standing.TheVariants.{NoConfig, Refused, Admitted}
use Rattle.shared_tables.specs.RecordSets.{RecordSet, ConfigSaid}

-- the config is valid and has the number
abbrev pub has_number : ℕ → ConfigSaid → Bool
has_number number None = false
has_number number (Some (Err fault)) = false
has_number number (Some (Ok config)) = config.id == number

-- a source whose name is before this one in byte order has a valid config with the number
abbrev pub is_taken : List RecordSet → List ℕ → ℕ → Bool
is_taken sets name number =
    list_any (λ (other : RecordSet). is_lt (slice_cmp nat_cmp other.name name) && has_number number other.config) sets

-- how a source with this name and this config stands among all, where the local cluster has the
-- number `local`
abbrev pub standing_of : ℕ → List RecordSet → List ℕ → ConfigSaid → Standing
standing_of local sets name None = NoConfig
standing_of local sets name (Some (Err fault)) = Refused (why.Fault fault)
standing_of local sets name (Some (Ok config)) =
    if config.id == local then Refused why.IdLocal
    else if is_taken sets name config.id then Refused why.IdTaken
    else Admitted config.id
