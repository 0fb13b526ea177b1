-- The text of an address is ASCII.
use Rattle.std.proofs.Common.{ℕ, zero, suc, ◌<◌, List, [], ◌∷◌, inl, inr, arith}
use Rattle.std.specs.List.{All}
use Rattle.std.specs.Str.{IsAscii, IsUtf8}
use Rattle.std.proofs.lemmas.List.Elements.{All-head, All-tail}
use Rattle.std.proofs.lemmas.Str.{IsUtf8-from_ascii}
use Rattle.mesh_text.specs.declared.ip.Ip.{Ip}
use Rattle.mesh_text.specs.Addresses.{address_text}
use Rattle.mesh_text.proofs.CallerLemmas.{IsAddressByte, address_text-bytes}

below_128 : (c : ℕ) → IsAddressByte c → c < 128
below_128 c (inl dot) = omega (arith, dot)
below_128 c (inr (inl digit)) = omega (arith, digit)
below_128 c (inr (inr letter)) = omega (arith, letter)

ascii : (bytes : List ℕ) → All IsAddressByte bytes → IsAscii bytes
ascii [] h i = omega arith
ascii (b ∷ bs) h zero = below_128 b (All-head IsAddressByte b bs h)
ascii (b ∷ bs) h (suc i) = ascii bs (All-tail IsAddressByte b bs h) i

pub address_utf8 : (ip : Ip) → IsUtf8 (address_text ip)
address_utf8 ip = IsUtf8-from_ascii (address_text ip) (ascii (address_text ip) (address_text-bytes ip))
