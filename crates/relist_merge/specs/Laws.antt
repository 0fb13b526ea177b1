-- What holds of every view that takes the deliveries of a history.
-- Source: Cilium's ClusterMesh documentation (after a reconnection earlier entries stay until synced).
use Rattle.std.specs.Prelude.{◌≡◌, ℕ, suc, List, map, true}
use Rattle.store_api.specs.Followed.{Followed, in_at, part_at}
use Rattle.store_api.specs.History.{Begins, History}
use Rattle.store_api.specs.Spans.{Record, cursor_of, unread}
use Rattle.store_api.specs.Spans as reader
use Rattle.relist_merge.specs.Deliveries.{Delivery, delivered_all, edit_of}
use Rattle.relist_merge.specs.View.{Follows, IsListOf, ReadsAll, View, begun, fresh_part, is_caught_up, new_view, values, view_after_all, with_listing, with_revision}

-- a new view that takes deliveries of a history, one after the other, follows it along their spans
abbrev pub FollowsDeliveries : Type 0
FollowsDeliveries = (f : Followed) (history : History) (deliveries : List Delivery) → ReadsAll f history unread deliveries
    → Follows f history (delivered_all deliveries unread) (view_after_all f deliveries new_view)

-- what was followed is followed in every longer history, along the same spans
abbrev pub FollowsLonger : Type 0
FollowsLonger = (f : Followed) (history later : History) → Begins history later → (r : Record) (v : View)
    → Follows f history r v → Follows f later r v

-- a view is caught up exactly where its last span is open and was synced at some revision of it
abbrev pub CaughtUpWhereSynced : Type 0
CaughtUpWhereSynced = (f : Followed) (history : History) (r : Record) (v : View) → Follows f history r v
    → is_caught_up v.phase ≡ reader.is_caught_up f history r

-- a view that is caught up has exactly what is live at its cursor, and all of that is fresh
abbrev pub CaughtUpIsLive : Type 0
CaughtUpIsLive = (f : Followed) (history : History) (r : Record) (v : View) → Follows f history r v
    → is_caught_up v.phase ≡ true → (k : List ℕ)
    → (values v.entries k ≡ in_at f history (cursor_of r.spans) k) × (fresh_part v.entries k ≡ in_at f history (cursor_of r.spans) k)

-- between a listing and the `finish_sync` behind it, the fresh part is what is live at its revision
abbrev pub ListingIsFresh : Type 0
ListingIsFresh = (f : Followed) (history : History) (at : ℕ) (pairs : List (List ℕ × List ℕ)) (v : View)
    → IsListOf pairs (in_at f history at) → (k : List ℕ)
    → fresh_part (with_listing at pairs (begun v)).entries k ≡ in_at f history at k

-- and so between a revision and the `finish_sync` behind it, where it was what is live just before
abbrev pub RevisionIsFresh : Type 0
RevisionIsFresh = (f : Followed) (history : History) (r : ℕ) (v : View)
    → ((k : List ℕ) → fresh_part v.entries k ≡ in_at f history r k) → (k : List ℕ)
    → fresh_part (with_revision (suc r) (map edit_of (part_at f.inside history (suc r))) v).entries k ≡ in_at f history (suc r) k
