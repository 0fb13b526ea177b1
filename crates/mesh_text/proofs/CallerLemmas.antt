-- What the crates above may cite of texts, names and words.
use Rattle.std.proofs.Common.{◌≡◌, ℕ, ◌⊎◌, true, List, All, inl, inr, arith}
use Rattle.std.proofs.lemmas.Bool.{and_parts}
use Rattle.std.proofs.lemmas.List.Elements.{All-weaker}
use Rattle.std.proofs.NetLemmas.Alphabet.{IsDigitOrDot, IsHexOrColon, All-ipv4_text, All-hex_groups_text}
use Rattle.std.specs.List.{list_all}
use Rattle.mesh_text.specs.declared.ip.Ip.{Ip}
use Rattle.mesh_text.specs.declared.ip.Ip.TheVariants.{V4, V6}
use Rattle.mesh_text.specs.Addresses.{address_text, four_bytes, eight_fields}
use Rattle.mesh_text.specs.Names.{is_cluster_byte, is_part_byte, is_cluster_name, is_part_name}
use Rattle.mesh_text.proofs.AddressTexts.{AllSegments-eight_fields, bytes-four_bytes, ipv6_text-hex_groups}
pub use Rattle.mesh_text.proofs.Decimals.{number_of-decimal, number_of-sound}
pub use Rattle.mesh_text.proofs.NameGrammar.{cluster_name_from_no_fault, part_name_from_no_fault, no_fault-from_is_cluster_name, no_fault-from_is_part_name}
pub use Rattle.mesh_text.proofs.EscapedWords.{unescaped-escaped, escaped-visible, escaped-some}
pub use Rattle.mesh_text.proofs.AddressTexts.{address_of-address_text, IsIp-address_of}

-- `.`, `0` to `9` and `:`, which follows them in ASCII, or `a` to `f`
abbrev pub IsAddressByte : ℕ → Type 0
IsAddressByte c = (c ≡ 46) ⊎ IsHexOrColon c

digit_or_dot : (c : ℕ) → IsDigitOrDot c → IsAddressByte c
digit_or_dot c (inl digit) = inr (inl (omega arith))
digit_or_dot c (inr dot) = inl dot

pub address_text-bytes : (ip : Ip) → All IsAddressByte (address_text ip)
unfolding address_text
address_text-bytes (V4 n) = All-weaker IsDigitOrDot IsAddressByte digit_or_dot _ (All-ipv4_text (four_bytes n) (bytes-four_bytes n))
address_text-bytes (V6 n) =
    rw (← ipv6_text-hex_groups (eight_fields n))
    (All-weaker IsHexOrColon IsAddressByte (λ c h. inr h) _ (All-hex_groups_text (eight_fields n) (AllSegments-eight_fields n)))

pub cluster_name-bytes : (text : List ℕ) → is_cluster_name text ≡ true → list_all is_cluster_byte text ≡ true
unfolding is_cluster_name
cluster_name-bytes text h = (and_parts _ _ (and_parts _ _ (and_parts _ _ h).0).0).1

pub part_name-bytes : (text : List ℕ) → is_part_name text ≡ true → list_all is_part_byte text ≡ true
unfolding is_part_name
part_name-bytes text h = (and_parts _ _ h).1
