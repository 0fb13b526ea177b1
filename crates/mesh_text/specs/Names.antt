-- Cluster names and part names, and which fault a text has that is none.
use Rattle.std.specs.Prelude.{ℕ, ◌-◌, Bool, not, ◌&&◌, ◌||◌, ◌==◌, nat_lt, nat_le, List, length, slice_index, position, Option, Some, None, if◌then◌else◌}
use Rattle.std.specs.List.{list_all}
use Rattle.std.specs.Char.{is_ascii_digit, is_ascii_lowercase}
use Rattle.mesh_text.specs.declared.names.NameFault.{NameFault}
use Rattle.mesh_text.specs.declared.names.NameFault.TheVariants as fault

-- a lower-case letter, a digit or `-`
abbrev pub is_cluster_byte : ℕ → Bool
is_cluster_byte c = is_ascii_lowercase c || is_ascii_digit c || c == 45

-- a lower-case letter, a digit, `-` or `.`
abbrev pub is_part_byte : ℕ → Bool
is_part_byte c = is_cluster_byte c || c == 46

-- 1 to 32 bytes of a cluster name, neither the first nor the last a `-` (Cilium: cluster name)
unfoldable pub is_cluster_name : List ℕ → Bool
is_cluster_name text =
    nat_le 1 (length text) && nat_le (length text) 32 && list_all is_cluster_byte text
    && not (slice_index text 0 == 45) && not (slice_index text (length text - 1) == 45)

-- 1 to 253 bytes of a part name (Kubernetes: the length of a DNS subdomain name)
unfoldable pub is_part_name : List ℕ → Bool
is_part_name text =
    nat_le 1 (length text) && nat_le (length text) 253 && list_all is_part_byte text

-- the first byte that does not pass, else what comes after
abbrev pub first_bad_byte : (ℕ → Bool) → List ℕ → Option NameFault → Option NameFault
first_bad_byte passes text later = bad_at (position (λ c. not (passes c)) text) later
  where
    bad_at : Option ℕ → Option NameFault → Option NameFault
    bad_at (Some at) later = Some (fault.BadByte at)
    bad_at None later = later

-- a `-` at the first place, else at the last
abbrev pub bad_end : List ℕ → Option NameFault
bad_end text =
    if slice_index text 0 == 45 then Some (fault.BadEnd 0)
    else if slice_index text (length text - 1) == 45 then Some (fault.BadEnd (length text - 1))
    else None

-- the first fault of a text as a cluster name, or none
unfoldable pub cluster_name_fault : List ℕ → Option NameFault
cluster_name_fault text =
    if length text == 0 then Some fault.Empty
    else if nat_lt 32 (length text) then Some (fault.TooLong (length text))
    else first_bad_byte is_cluster_byte text (bad_end text)

-- the first fault of a text as a part name, or none
unfoldable pub part_name_fault : List ℕ → Option NameFault
part_name_fault text =
    if length text == 0 then Some fault.Empty
    else if nat_lt 253 (length text) then Some (fault.TooLong (length text))
    else first_bad_byte is_part_byte text None
