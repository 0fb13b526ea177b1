-- The order of a service's backends, and what a protocol's name is.
use Rattle.std.specs.Prelude.{◌≡◌, ◌<◌, ℕ, List, length, map, Bool, true, ◌&&◌, nat_le}
use Rattle.std.specs.Ordering.{nat_cmp, ordering_then}
use Rattle.std.specs.declared.cmp.Ordering.{Ordering}
use Rattle.std.specs.Cmp.Lexicographic.{slice_cmp}
use Rattle.std.specs.Char.{is_ascii_alphanumeric}
use Rattle.std.specs.List.{AllByRecursion, list_all}
use Rattle.std.specs.List.Sorted.{IsStrictlySortedBy}
use Rattle.mesh_text.specs.declared.ip.Ip.{Ip}
use Rattle.mesh_text.specs.Laws.{IsIp, ip_cmp}
use Rattle.record_values.specs.Values.{BackendPort}

-- by address, and then by the bytes of the port's name
abbrev pub backend_order : BackendPort → BackendPort → Ordering
backend_order a b = ordering_then (ip_cmp a.ip b.ip) (slice_cmp nat_cmp a.port_name b.port_name)

-- in order of address and port name, no two equal in both
abbrev pub AreInOrder : List BackendPort → Type 0
AreInOrder backends = IsStrictlySortedBy backend_order backends

-- backends of one address, in the byte order of their port names
abbrev pub ArePortsOf : Ip → List BackendPort → Type 0
ArePortsOf ip ports = AllByRecursion (λ (b : BackendPort). b.ip ≡ ip) ports × IsStrictlySortedBy (slice_cmp nat_cmp) (map (λ (b : BackendPort). b.port_name) ports)

-- 1 to 16 ASCII letters or digits
abbrev pub is_protocol : List ℕ → Bool
is_protocol name = nat_le 1 (length name) && nat_le (length name) 16 && list_all is_ascii_alphanumeric name

-- an address of its family, a port of TCP or UDP, and a protocol's name
abbrev pub IsBackend : BackendPort → Type 0
IsBackend b = IsIp b.ip × (b.port < 65536) × (is_protocol b.protocol ≡ true)
