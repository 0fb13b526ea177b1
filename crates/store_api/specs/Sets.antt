-- The followed and the sighted pairs as finite maps in byte order.
use Rattle.std.specs.Prelude.{ℕ, not, List, [], ◌∷◌, ◌++◌}
use Rattle.std.specs.FinMap.{empty, entries, retain_keys, from_entries}
use Rattle.store_api.specs.History.{History, Pairing, map_at}
use Rattle.store_api.specs.Followed.{Followed}
use Rattle.store_api.specs.Spans.{Span, speaks}

-- the followed pairs that are live at revision r
abbrev pub in_set : Followed → History → ℕ → Pairing
in_set f history r = retain_keys (map_at history r) f.inside

-- what the last span has at its end, and of what older spans showed the keys that it does not speak of
abbrev pub seen_set : Followed → History → List Span → Pairing
seen_set f history [] = empty
seen_set f history (s ∷ older) = from_entries (entries (in_set f history s.upto) ++ entries (retain_keys (seen_set f history older) (λ k. not (speaks f history s k))))
