-- What a reader keeps between its turns, and which record of spans it stands for.
-- Source: etcd's API, Watch service (a watch goes on behind the last revision that was delivered).
use Rattle.std.specs.Prelude.{◌≡◌, ◌≢◌, ◌≤◌, ℕ, List, [], Bool, true, not}
use Rattle.store_api.specs.Spans.{Record, cursor_of}
use Rattle.store_api.specs.declared.change.Range.{Range}

-- the ranges that it follows, the last revision that it followed them to, or 0, and whether it
-- waits to list them
pub record Reader : Type 0 where
  pub ranges : List Range
  pub cursor : ℕ
  pub is_waiting : Bool

-- the reader stands where this record ends: it waits where that is closed, and its cursor may then
-- be further on, as after a delivery that nobody took
pub record Stands (reader : Reader) (r : Record) : Type 0 where
  pub waits : reader.is_waiting ≡ not r.is_open
  pub cursor : r.is_open ≡ true → reader.cursor ≡ cursor_of r.spans
  pub behind : cursor_of r.spans ≤ reader.cursor
  pub listed : r.is_open ≡ true → r.spans ≢ []
