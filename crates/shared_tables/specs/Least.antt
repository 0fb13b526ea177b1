-- The least number of a cluster that has an address.
use Rattle.std.specs.Prelude.{◌≡◌, ℕ, List, Bool, false, nat_lt, Option, None, Some}
use Rattle.std.specs.BTreeMap.{BTreeMap, get}
use Rattle.std.specs.List.{list_any}
use Rattle.mesh_text.specs.declared.ip.Ip.{Ip}
use Rattle.mesh_text.specs.contracts.ip.IpOrd.TheImpl as ip_order
use Rattle.shared_tables.specs.Merge.{Claim, is_before}

abbrev pub is_above : Option ℕ → ℕ → Bool
is_above None number = false
is_above (Some least) number = nat_lt least number

-- the map has a lesser number at the claim's address
abbrev pub has_lesser : BTreeMap Ip ℕ → Claim → Bool
has_lesser least c = is_above (get (ip_order.ghosts).cmp least c.1.ip) c.0

-- the map tells of every claim whether another has a lesser number at its address
abbrev pub TellsOf : List Claim → BTreeMap Ip ℕ → Type 0
TellsOf claims least = (c : Claim) → list_any (is_before c) claims ≡ has_lesser least c
