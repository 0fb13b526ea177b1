-- What reading and writing have to do with each other.
use Rattle.std.specs.Prelude.{◌≡◌, ℕ, ◌+◌, ◌^◌, ◌<◌, ◌≤◌, ◌↔◌, List, length, take, drop, replicate, IsTrue, Option, Some, None, option_map, decimal}
use Rattle.std.specs.List.{All}
use Rattle.std.specs.Ordering.{nat_cmp}
use Rattle.std.specs.declared.cmp.Ordering.{Ordering}
use Rattle.std.specs.declared.cmp.Ordering.TheVariants.{Less, Greater}
use Rattle.std.specs.Net.Text.{longest_zero_run}
use Rattle.mesh_text.specs.declared.ip.Ip.{Ip}
use Rattle.mesh_text.specs.declared.ip.Ip.TheVariants.{V4, V6}
use Rattle.mesh_text.specs.Numbers.{number_of}
use Rattle.mesh_text.specs.Names.{is_cluster_name, cluster_name_fault, is_part_name, part_name_fault}
use Rattle.mesh_text.specs.Escapes.{escaped, unescaped}
use Rattle.mesh_text.specs.Addresses.{ipv4_of, ipv6_of, address_of, address_text}

-- the number has the bits of its family
abbrev pub IsIp : Ip → Type 0
IsIp (V4 n) = n < 2 ^ 32
IsIp (V6 n) = n < 2 ^ 128

-- the canonical text of an address is an address text, and of this address
abbrev pub ReadsWrittenAddress : Type 0
ReadsWrittenAddress = (ip : Ip) → IsIp ip → address_of (address_text ip) ≡ Some ip

-- what is read has the bits of its family
abbrev pub ReadsAddressInRange : Type 0
ReadsAddressInRange = (text : List ℕ) (ip : Ip) → address_of text ≡ Some ip → IsIp ip

-- no text is an IPv4 text and an IPv6 text
abbrev pub NoTextOfBothFamilies : Type 0
NoTextOfBothFamilies = (text : List ℕ) (m n : ℕ) → ipv4_of text ≡ Some m
    → ¬ (ipv6_of text ≡ Some n)

-- the text that is printed for what is read of a text, if it is an address text
abbrev pub reprinted : List ℕ → Option (List ℕ)
reprinted text = option_map address_text (address_of text)

-- the canonical text is printed again for what is read of it
abbrev pub CanonicalTextStays : Type 0
CanonicalTextStays = (ip : Ip) → IsIp ip → reprinted (address_text ip) ≡ Some (address_text ip)

-- this many zero fields stand from this place on
abbrev pub IsZeroRun : List ℕ → ℕ → ℕ → Type 0
IsZeroRun fields start len = (start + len ≤ length fields)
    × (take len (drop start fields) ≡ replicate len 0)

-- RFC 5952, 4.2: no run of zero fields is longer than the one that `::` may stand for, and none
-- that is as long begins before it
abbrev pub FindsFirstLongestRun : List ℕ → Type 0
FindsFirstLongestRun fields =
    let run = longest_zero_run fields in
    IsZeroRun fields run.0 run.1
    × ((start len : ℕ) → IsZeroRun fields start len
    → (len ≤ run.1) × (len ≡ run.1 → run.0 ≤ start))

-- a number of 64 bits has one text, which is its decimal text
abbrev pub ReadsDecimalAlone : Type 0
ReadsDecimalAlone = (text : List ℕ) (n : ℕ)
    → (number_of text ≡ Some n) ↔ ((n < 2 ^ 64) × (text ≡ decimal n))

-- a text is a name exactly where it has no fault
abbrev pub FaultlessAreClusterNames : Type 0
FaultlessAreClusterNames = (text : List ℕ)
    → IsTrue (is_cluster_name text) ↔ (cluster_name_fault text ≡ None)

-- a text is a name exactly where it has no fault
abbrev pub FaultlessArePartNames : Type 0
FaultlessArePartNames = (text : List ℕ)
    → IsTrue (is_part_name text) ↔ (part_name_fault text ≡ None)

-- an escaped word stands for the bytes that were escaped
abbrev pub UnescapesEscaped : Type 0
UnescapesEscaped = (bytes : List ℕ) → All (λ b. b < 256) bytes
    → unescaped (escaped bytes) ≡ Some bytes

-- an escaped word has bytes, each of which is visible ASCII
abbrev pub EscapesVisibly : Type 0
EscapesVisibly = (bytes : List ℕ) → All (λ b. b < 256) bytes
    → (0 < length (escaped bytes)) × All (λ c. (0x21 ≤ c) × (c ≤ 0x7E)) (escaped bytes)

-- every IPv4 address before every IPv6 address, and the smaller number first
abbrev pub ip_cmp : Ip → Ip → Ordering
ip_cmp (V4 a) (V4 b) = nat_cmp a b
ip_cmp (V4 a) (V6 b) = Less
ip_cmp (V6 a) (V4 b) = Greater
ip_cmp (V6 a) (V6 b) = nat_cmp a b
