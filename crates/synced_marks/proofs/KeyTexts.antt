-- The keys of a cluster's marks and of its cut as the bytes of a key, and the value of a cut.
use Rattle.std.proofs.Common.{◌≡◌, ◌<◌, ◌^◌, ℕ, List, decimal, Some}
use Rattle.mesh_text.specs.Numbers.{number_of}
use Rattle.mesh_text.proofs.CallerLemmas.{number_of-decimal}
use Rattle.mesh_text.specs.declared.kind.Kind.{Kind}
use Rattle.key_paths.specs.declared.hop.Hop.{Hop}
use Rattle.key_paths.specs.declared.key.Key.TheVariants as key
use Rattle.key_paths.specs.Keys.{key_bytes}
use Rattle.key_paths.specs.Paths.{cut_key, mark_key}
use Rattle.key_paths.proofs.CallerLemmas.{key_bytes-mark, key_bytes-cut}

pub mark_bytes : (cluster : List ℕ) (hop : Hop) (kind : Kind) → key_bytes (key.Synced cluster hop kind) ≡ mark_key cluster hop kind
mark_bytes cluster hop kind = key_bytes-mark cluster hop kind

pub cut_bytes : (cluster : List ℕ) → key_bytes (key.Cut cluster) ≡ cut_key cluster
cut_bytes cluster = key_bytes-cut cluster

pub reads_decimal : (n : ℕ) → n < 2 ^ 64 → number_of (decimal n) ≡ Some n
reads_decimal n fits = number_of-decimal n fits
