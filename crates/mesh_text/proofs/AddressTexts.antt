-- What std's parsers and printers of addresses give is what the grammar says.
use Rattle.std.proofs.Common.{◌≡◌, ℕ, zero, suc, ◌^◌, ◌<◌, true, false, List, [], ◌∷◌, length, get_or, Option, Some, None, All, option_map, refl, sym, ap, ◌∙◌, subst, arith, inl, inr, ne_eqb}
use Rattle.std.proofs.lemmas.Bool.{true≢false, or_from}
use Rattle.std.proofs.lemmas.List.Elements.{All-head, All-tail}
use Rattle.std.proofs.lemmas.Option.{none-some, same_Some}
use Rattle.std.proofs.NetLemmas.Options.{map_some}
use Rattle.std.proofs.lemmas.Int.Digits.{number_lt}
use Rattle.std.specs.Int.{w32, w128, from_be_bytes}
use Rattle.std.specs.declared.net.ipv4_addr.Ipv4Addr.{Ipv4Addr}
use Rattle.std.specs.declared.net.ipv6_addr.Ipv6Addr.{Ipv6Addr}
use Rattle.std.specs.Int.Digits.{number_from_digits}
use Rattle.std.specs.Net.Addr.{ipv4_octets, ipv6_segments, ipv4_bits, ipv6_bits, octets_of, IsIpv4OfBits, IsIpv6OfBits}
use Rattle.std.specs.Net.Grammar.{IsIpv4Text, IsIpv6Text, IsDotted, IsColonHex}
use Rattle.std.specs.Net.Text.{ipv4_text, hex_groups_text}
use Rattle.std.proofs.NetLemmas.Arrays.{eight_items}
use Rattle.std.proofs.NetLemmas.Texts.{AllSegments, IsDotted-ipv4_text, IsColonHex-hex_groups_text}
use Rattle.std.proofs.NetLemmas.Alphabet.{IsHexOrColon, All-hex_groups_text}
use Rattle.std.proofs.NetLemmas.Ipv6.{IsDotted-not_colon_hex}
use Rattle.mesh_text.specs.declared.ip.Ip.{Ip}
use Rattle.mesh_text.specs.declared.ip.Ip.TheVariants.{V4, V6}
use Rattle.mesh_text.specs.Laws.{IsIp}
use Rattle.mesh_text.specs.Addresses.{four_bytes, eight_fields, four_bytes_of, eight_fields_of, split_at, ipv4_of, ipv6_of, by_family, address_of, ipv6_text, address_text}
use Rattle.mesh_text.proofs.AddressNumbers.{joined-four_bytes, joined-from_be_bytes_4, joined-eight_fields, joined-from_be_bytes_16, four_bytes-to_be_bytes, segments_of-to_be_bytes}
use Rattle.mesh_text.proofs.Ipv4Texts.{four_bytes_of-complete, four_bytes_of-sound}
use Rattle.mesh_text.proofs.Ipv6Fields.{has_dot}
use Rattle.mesh_text.proofs.Ipv6Texts.{eight_fields_of-complete, eight_fields_of-sound, length-colon_hex, eight_fields_of-small}

-- reading IPv4

joined-bytes : (text bytes : List ℕ) → IsDotted text bytes → number_from_digits 256 bytes ≡ from_be_bytes w32 bytes
joined-bytes text bytes h = rw h.value (joined-from_be_bytes_4 h.a h.b h.c h.d)

pub ipv4_read : (text : List ℕ) (a : Ipv4Addr) → IsIpv4Text text a → ipv4_of text ≡ Some (ipv4_bits a)
unfolding ipv4_of ipv4_bits
ipv4_read text a h =
    ap (option_map (number_from_digits 256)) (four_bytes_of-complete text (ipv4_octets a) h) ∙ ap Some (joined-bytes text (ipv4_octets a) h)

pub ipv4_refused : (text : List ℕ) → ((a : Ipv4Addr) → IsIpv4Text text a → ⊥) → ipv4_of text ≡ None
unfolding ipv4_of
ipv4_refused text h = go (four_bytes_of (split_at 46 text)) refl
  where
    go : (bytes : Option (List ℕ)) → four_bytes_of (split_at 46 text) ≡ bytes → option_map (number_from_digits 256) (four_bytes_of (split_at 46 text)) ≡ None
    go None e = rw e refl
    go (Some bytes) e = absurd (h (record { octets = bytes }) (four_bytes_of-sound text bytes e))

-- reading IPv6

joined-segments : (fields : List ℕ) → length fields ≡ 8 → number_from_digits 65536 fields ≡ from_be_bytes w128 (octets_of fields)
joined-segments fields long =
    let at = λ (k : ℕ). get_or fields k 0 in
    let P : List ℕ → Type 0 = λ xs. number_from_digits 65536 xs ≡ from_be_bytes w128 (octets_of xs) in
    subst P (sym (eight_items fields long)) (joined-from_be_bytes_16 (at 0) (at 1) (at 2) (at 3) (at 4) (at 5) (at 6) (at 7))

pub ipv6_read : (text : List ℕ) (a : Ipv6Addr) → has_dot text ≡ false → IsIpv6Text text a → ipv6_of text ≡ Some (ipv6_bits a)
unfolding ipv6_of ipv6_bits
ipv6_read text a dots h =
    ap (option_map (number_from_digits 65536)) (eight_fields_of-complete text (ipv6_segments a) dots h)
    ∙ ap Some (joined-segments (ipv6_segments a) (length-colon_hex text (ipv6_segments a) h))

ipv6_of-unless : (text : List ℕ) → ((fields : List ℕ) → eight_fields_of text ≡ Some fields → ⊥) → ipv6_of text ≡ None
unfolding ipv6_of
ipv6_of-unless text h = go (eight_fields_of text) refl
  where
    go : (fields : Option (List ℕ)) → eight_fields_of text ≡ fields → option_map (number_from_digits 65536) (eight_fields_of text) ≡ None
    go None e = rw e refl
    go (Some fields) e = absurd (h fields e)

pub ipv6_refused : (text : List ℕ) → ((a : Ipv6Addr) → IsIpv6Text text a → ⊥) → ipv6_of text ≡ None
ipv6_refused text h = ipv6_of-unless text λ fields e. h (record { segments = fields }) (eight_fields_of-sound text fields e).0

pub ipv6_dotted : (text : List ℕ) → has_dot text ≡ true → ipv6_of text ≡ None
ipv6_dotted text dot = ipv6_of-unless text λ fields e. true≢false (sym dot ∙ (eight_fields_of-sound text fields e).1)

-- writing

pub ipv4_written : (a : Ipv4Addr) (n : ℕ) → IsIpv4OfBits a n → ipv4_text (ipv4_octets a) ≡ address_text (V4 n)
unfolding IsIpv4OfBits address_text
ipv4_written a n h = ap ipv4_text (h ∙ four_bytes-to_be_bytes n)

pub ipv6_text-hex_groups : (fields : List ℕ) → hex_groups_text fields ≡ ipv6_text fields
unfolding hex_groups_text ipv6_text
ipv6_text-hex_groups fields = refl

pub ipv6_written : (a : Ipv6Addr) (n : ℕ) → IsIpv6OfBits a n → hex_groups_text (ipv6_segments a) ≡ address_text (V6 n)
unfolding IsIpv6OfBits address_text
ipv6_written a n h = ap hex_groups_text (h ∙ segments_of-to_be_bytes n) ∙ ipv6_text-hex_groups (eight_fields n)

-- reading what was written

hex_or_colon-no_dot : (text : List ℕ) → All IsHexOrColon text → has_dot text ≡ false
hex_or_colon-no_dot [] all = refl
hex_or_colon-no_dot (c ∷ cs) all =
    let other : c ≡ 46 → ⊥ = λ same. elim (All-head IsHexOrColon c cs all) [ inl low ↦ omega arith | inr high ↦ omega arith ] in
    or_from _ _ (ne_eqb c 46 other) (hex_or_colon-no_dot cs (All-tail IsHexOrColon c cs all))

pub AllSegments-eight_fields : (n : ℕ) → AllSegments (eight_fields n)
AllSegments-eight_fields n zero = omega arith
AllSegments-eight_fields n (suc zero) = omega arith
AllSegments-eight_fields n (suc (suc zero)) = omega arith
AllSegments-eight_fields n (suc (suc (suc zero))) = omega arith
AllSegments-eight_fields n (suc (suc (suc (suc zero)))) = omega arith
AllSegments-eight_fields n (suc (suc (suc (suc (suc zero))))) = omega arith
AllSegments-eight_fields n (suc (suc (suc (suc (suc (suc zero)))))) = omega arith
AllSegments-eight_fields n (suc (suc (suc (suc (suc (suc (suc zero))))))) = omega arith
AllSegments-eight_fields n (suc (suc (suc (suc (suc (suc (suc (suc k)))))))) = omega arith

pub bytes-four_bytes : (n k : ℕ) → get_or (four_bytes n) k 0 < 2 ^ 8
bytes-four_bytes n zero = omega arith
bytes-four_bytes n (suc zero) = omega arith
bytes-four_bytes n (suc (suc zero)) = omega arith
bytes-four_bytes n (suc (suc (suc zero))) = omega arith
bytes-four_bytes n (suc (suc (suc (suc k)))) = omega arith

ipv4_of-written : (n : ℕ) → n < 2 ^ 32 → ipv4_of (ipv4_text (four_bytes n)) ≡ Some n
unfolding ipv4_of
ipv4_of-written n fits =
    let dotted = IsDotted-ipv4_text (four_bytes n) refl (bytes-four_bytes n) in
    ap (option_map (number_from_digits 256)) (four_bytes_of-complete _ (four_bytes n) dotted) ∙ ap Some (joined-four_bytes n fits)

ipv6_of-written : (n : ℕ) → n < 2 ^ 128 → ipv6_of (hex_groups_text (eight_fields n)) ≡ Some n
unfolding ipv6_of
ipv6_of-written n fits =
    let fields = eight_fields n in
    let text = hex_groups_text fields in
    let small = AllSegments-eight_fields n in
    let colon_hex = IsColonHex-hex_groups_text fields refl small in
    let dots = hex_or_colon-no_dot text (All-hex_groups_text fields small) in
    ap (option_map (number_from_digits 65536)) (eight_fields_of-complete text fields dots colon_hex) ∙ ap Some (joined-eight_fields n fits)

-- an IPv6 text is no IPv4 text
ipv4_of-no_ipv6 : (text fields : List ℕ) → IsColonHex text fields → ipv4_of text ≡ None
ipv4_of-no_ipv6 text fields h =
    ipv4_refused text λ a dotted. IsDotted-not_colon_hex text (ipv4_octets a) fields dotted h

pub address_of-address_text : (ip : Ip) → IsIp ip → address_of (address_text ip) ≡ Some ip
unfolding address_of address_text
address_of-address_text (V4 n) fits = rw (ipv4_of-written n fits) refl
address_of-address_text (V6 n) fits =
    let colon_hex = IsColonHex-hex_groups_text (eight_fields n) refl (AllSegments-eight_fields n) in
    rw (← ipv6_text-hex_groups (eight_fields n), ipv4_of-no_ipv6 _ (eight_fields n) colon_hex, ipv6_of-written n fits) refl

-- what is read has the bits of its family

ipv4_of-below : (text : List ℕ) (n : ℕ) → ipv4_of text ≡ Some n → n < 2 ^ 32
unfolding ipv4_of
ipv4_of-below text n e =
    map_some _ (four_bytes_of (split_at 46 text)) n e λ bytes found same.
    let h = four_bytes_of-sound text bytes found in
    let below : number_from_digits 256 (h.a ∷ h.b ∷ h.c ∷ h.d ∷ []) < 2 ^ 32 = omega (arith, h.fit) in
    rw (← same, h.value) below

ipv6_of-below : (text : List ℕ) (n : ℕ) → ipv6_of text ≡ Some n → n < 2 ^ 128
unfolding ipv6_of
ipv6_of-below text n e =
    map_some _ (eight_fields_of text) n e λ fields found same.
    let (small, long) = eight_fields_of-small text fields found in
    let below = number_lt 65536 fields small in
    rw (← same) (omega (arith, rw long at below))

pub IsIp-address_of : (text : List ℕ) (ip : Ip) → address_of text ≡ Some ip → IsIp ip
unfolding address_of
IsIp-address_of text ip e = go (ipv4_of text) (ipv6_of text) refl refl e
  where
    go : (four six : Option ℕ) → ipv4_of text ≡ four → ipv6_of text ≡ six → by_family four six ≡ Some ip → IsIp ip
    go (Some n) six is_four is_six found = rw (← same_Some _ _ found) (ipv4_of-below text n is_four)
    go None None is_four is_six found = absurd (none-some ip found)
    go None (Some n) is_four is_six found = rw (← same_Some _ _ found) (ipv6_of-below text n is_six)

pub ipv4_of-apart : (text : List ℕ) (m n : ℕ) → ipv4_of text ≡ Some m → ipv6_of text ≡ Some n → ⊥
unfolding ipv4_of ipv6_of
ipv4_of-apart text m n is_four is_six =
    map_some _ (four_bytes_of (split_at 46 text)) m is_four λ bytes found _.
    map_some _ (eight_fields_of text) n is_six λ fields found_six _.
    IsDotted-not_colon_hex text bytes fields (four_bytes_of-sound text bytes found) (eight_fields_of-sound text fields found_six).0
