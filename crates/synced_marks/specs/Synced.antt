-- When the pairs of a cluster count as synced.
-- Source: Cilium's ClusterMesh documentation (a remote cluster whose config says so counts as synced
-- by the canaries that it writes behind the records of each kind).
use Rattle.std.specs.Prelude.{ℕ, List, not, ◌||◌, Bool, false, Option, None, Some, is_some, option_and_then}
use Rattle.std.specs.List.{list_all}
use Rattle.mesh_text.specs.declared.kind.Kind.{Kind}
use Rattle.store_api.specs.History.{Pairs}
use Rattle.key_paths.specs.declared.hop.Hop.{Hop}
use Rattle.key_paths.specs.Paths.{kinds, config_key, mark_key}
use Rattle.record_values.specs.Values.{Config}
use Rattle.record_check.specs.declared.limit.Limit.{Limit}
use Rattle.record_check.specs.Configs.{valid_config}

-- the mark of a kind is there
abbrev pub has_mark : List ℕ → Hop → Pairs → Kind → Bool
has_mark cluster hop pairs kind = is_some (pairs (mark_key cluster hop kind))

-- the marks of all four kinds are there
abbrev pub has_marks : List ℕ → Hop → Pairs → Bool
has_marks cluster hop pairs = list_all (has_mark cluster hop pairs) kinds

-- the cluster's config, where it is there and valid
abbrev pub config_in : List ℕ → Limit → Pairs → Option Config
config_in cluster limit pairs = option_and_then (valid_config limit) (pairs (config_key cluster))

-- there is a valid config, which says that there are no canaries, or all marks are there
abbrev pub is_synced_by : Option Config → Bool → Bool
is_synced_by None marks = false
is_synced_by (Some config) marks = not config.synced_canaries || marks

-- the pairs count as synced for the cluster at this hop
abbrev pub is_synced : List ℕ → Hop → Limit → Pairs → Bool
is_synced cluster hop limit pairs =
    is_synced_by (config_in cluster limit pairs) (has_marks cluster hop pairs)
