-- What holds of every history.
-- Source: etcd, "Data model" (logical view), and its API's Lease service (a key that is deleted is
-- attached to no lease).
use Rattle.std.specs.Prelude.{◌≡◌, ℕ, List, IsTrue, is_some}
use Rattle.std.specs.FinMap.{get}
use Rattle.store_api.specs.Attached.{lease_at}
use Rattle.store_api.specs.Given.{IsGiven}
use Rattle.store_api.specs.History.{Begins, History, live_at, map_at}
use Rattle.store_api.specs.Spans.{Record}
use Rattle.store_api.specs.declared.change.Delivery.{Delivery}
use Rattle.store_api.specs.declared.change.Range.{Range}

-- the two readings of what is live agree at every key
abbrev pub ReadingsAgree : Type 0
ReadingsAgree = (history : History) (r : ℕ) (k : List ℕ) → get (map_at history r) k ≡ live_at history r k

-- a key is attached to a lease only while it is live
abbrev pub AttachedAreLive : Type 0
AttachedAreLive = (history : History) (r : ℕ) (k : List ℕ) → IsTrue (is_some (lease_at history r k)) → IsTrue (is_some (live_at history r k))

-- what a history gave a reader, each later one gives too
abbrev pub GivenLater : Type 0
GivenLater = (ranges : List Range) (history later : History) → Begins history later → (r : Record) (d : Delivery) → IsGiven ranges history r d → IsGiven ranges later r d
