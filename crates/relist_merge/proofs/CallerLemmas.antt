-- What the crates above may cite of views.
use Rattle.std.proofs.Common.{◌≡◌, ℕ, ◌≤◌, List, [], ◌∷◌, ◌++◌, ◌||◌, ◌&&◌, map, Bool, true, false, cond, refl, ap, sym, ◌∙◌, subst, arith}
use Rattle.store_api.specs.Followed.{Followed, in_at}
use Rattle.store_api.specs.History.{History, Pairs, in_ranges, revision}
use Rattle.store_api.specs.Spans.{Record, Span, cursor_of, is_last_up, is_met, is_up, seen, unread}
use Rattle.store_api.specs.Spans as reader
use Rattle.store_api.specs.declared.change.Delivery as store
use Rattle.store_api.specs.declared.change.Delivery.TheVariants as given
use Rattle.store_api.specs.declared.change.Range.{Range}
use Rattle.relist_merge.specs.Deliveries.{Delivery, delivered, delivered_all, edits_of}
use Rattle.store_api.specs.Given.{IsGiven, gone_on}
use Rattle.store_api.proofs.CallerLemmas.{longer-le}
use Rattle.relist_merge.specs.Given.{delivery_from}
use Rattle.relist_merge.specs.Laws.{CaughtUpIsLive, CaughtUpWhereSynced, FollowsDeliveries, FollowsLonger}
use Rattle.relist_merge.specs.Records.{AreWithin, phase_in}
use Rattle.relist_merge.specs.View.{Follows, IsListOf, Reads, ReadsAll, View, is_caught_up, new_view, values, view_after, view_after_all}
use Rattle.relist_merge.proofs.Changes.{fresh_after}
use Rattle.relist_merge.proofs.Listings.{find-listed, listing-in_at, puts-listed}
use Rattle.relist_merge.proofs.Longer.{cursor-longer, phase-longer, seen-longer}
use Rattle.relist_merge.proofs.Sighted.{caught-phase, holds-first, in_at-next, over-fresh, sighted-by}
use Rattle.std.proofs.Common.{Option, suc}
use Rattle.std.specs.Cmp.Lexicographic.{nat_list_cmp_total}
use Rattle.std.specs.FinMap.{from_entries, get, get-from_entries, nat_cmp-IsAntisymmetric, same_map, slice_cmp-IsAntisymmetric}
use Rattle.store_api.specs.Followed.{part_at}
use Rattle.store_api.specs.History.{Pairing, after_changes}
use Rattle.relist_merge.specs.Deliveries.{listed}
use Rattle.relist_merge.specs.Laws.{ListingIsFresh, RevisionIsFresh}
use Rattle.relist_merge.specs.View.{fresh_of, stale_of}
use Rattle.relist_merge.proofs.Steps.{follows_next}

-- ---- a view over its deliveries
-- a new view follows no spans
pub follows_new : (f : Followed) (h : History) → Follows f h unread new_view
follows_new f h = record { formed = (tt, λ is. cc); sighted = sighted-by f h unread new_view (holds-first f h) }

follows_all : (f : Followed) (h : History) (deliveries : List Delivery) (r : Record) (v : View) → Follows f h r v → ReadsAll f h r deliveries → Follows f h (delivered_all deliveries r) (view_after_all f deliveries v)
follows_all f h [] r v follows reads = follows
follows_all f h (d ∷ more) r v follows reads = follows_all f h more (delivered d r) (view_after f d v) (follows_next f h r d v follows reads.0) reads.1

pub follows_deliveries : FollowsDeliveries
follows_deliveries f h deliveries reads = follows_all f h deliveries unread new_view (follows_new f h) reads

-- ---- a store's delivery
-- what a reader of the ranges is given is read from the history
pub given_reads : (ranges : List Range) (synced : Pairs → Bool) (h : History) (r : Record) (d : store.Delivery) → IsGiven ranges h r d → Reads (record { inside = in_ranges ranges; synced = synced }) h r (delivery_from d)
given_reads ranges synced h r (given.Listing l) is = (is.0, subst (λ (pairs : List (List ℕ × List ℕ)). IsListOf pairs (in_at (record { inside = in_ranges ranges; synced = synced }) h l.at)) (sym is.1) (listing-in_at ranges synced h l.at))
given_reads ranges synced h r (given.Batch b) is = (is.0, is.1, is.2, ap (map edits_of) is.3)
given_reads ranges synced h r given.Lost is = tt

gone_on-delivered : (d : store.Delivery) (r : Record) → gone_on d r ≡ delivered (delivery_from d) r
gone_on-delivered (given.Listing l) r = refl
gone_on-delivered (given.Batch b) r = refl
gone_on-delivered given.Lost r = refl

pub follows_given : (ranges : List Range) (synced : Pairs → Bool) (h : History) (r : Record) (d : store.Delivery) (v : View) → Follows (record { inside = in_ranges ranges; synced = synced }) h r v → IsGiven ranges h r d
    → Follows (record { inside = in_ranges ranges; synced = synced }) h (gone_on d r) (view_after (record { inside = in_ranges ranges; synced = synced }) (delivery_from d) v)
follows_given ranges synced h r d v follows is =
    let f : Followed = record { inside = in_ranges ranges; synced = synced } in
    subst (λ (q : Record). Follows f h q (view_after f (delivery_from d) v)) (sym (gone_on-delivered d r))
    (follows_next f h r (delivery_from d) v follows (given_reads ranges synced h r d is))

-- ---- a longer history
still-within : (spans : List Span) (a b : ℕ) → a ≤ b → AreWithin a spans → AreWithin b spans
still-within [] a b le within = within
still-within (s ∷ older) a b le within = (within.0, omega (arith, within.1), still-within older a b le within.2)

follows-longer : (f : Followed) (h more : History) (r : Record) (v : View) → Follows f h r v → Follows f (h ++ more) r v
follows-longer f h more r v follows =
    let within = follows.formed.0 in
    let is = follows.sighted in
    record {
      formed = (still-within r.spans (revision h) (revision (h ++ more)) (omega (arith, longer-le h more)) within, follows.formed.1);
      sighted = record {
        entries = λ k. is.entries k ∙ sym (seen-longer h more f r.spans k within);
        phase = is.phase ∙ sym (phase-longer h more f r.is_open r.spans within);
        cursor = is.cursor;
        fresh = λ o k. is.fresh o k ∙ sym (cursor-longer h more f r.spans k within);
      };
    }

-- what was followed is followed in every longer history, along the same spans
pub follows_later : FollowsLonger
follows_later f h later begins r v follows = subst (λ (l : History). Follows f l r v) (sym begins.1) (follows-longer f h begins.0 r v follows)

-- ---- what a view that follows shows
caught-of : (f : Followed) (h : History) (is_open : Bool) (spans : List Span) → is_caught_up (phase_in f h is_open spans) ≡ is_open && is_last_up f h spans
caught-of f h false spans = refl
caught-of f h true [] = refl
caught-of f h true (s ∷ older) = caught-phase (is_up f h s)

-- it is caught up exactly where the last span is open and was synced at some revision of it
pub follows_caught_up : CaughtUpWhereSynced
follows_caught_up f h r v follows = ap is_caught_up follows.sighted.phase ∙ caught-of f h r.is_open r.spans

first-true : (a b : Bool) → a && b ≡ true → a ≡ true
first-true true b is = refl
first-true false b is = is

seen-live : (f : Followed) (h : History) (is_open : Bool) (spans : List Span) (k : List ℕ) → is_open && is_last_up f h spans ≡ true → seen f h spans k ≡ in_at f h (cursor_of spans) k
seen-live f h false spans k is = cc
seen-live f h true [] k is = cc
seen-live f h true (s ∷ older) k is = ap (λ (b : Bool). cond (b || is_met f h s k) (in_at f h s.upto k) (seen f h older k)) is

-- then it has exactly what is live at its cursor, and all of that is fresh
pub follows_live : CaughtUpIsLive
follows_live f h r v follows caught k =
    let up : reader.is_caught_up f h r ≡ true = sym (follows_caught_up f h r v follows) ∙ caught in (
      follows.sighted.entries k ∙ seen-live f h r.is_open r.spans k up,
      follows.sighted.fresh (first-true r.is_open (is_last_up f h r.spans) up) k,
    )

-- a list of its pairs is one of what was sighted
pub follows_pairs : (f : Followed) (h : History) (r : Record) (v : View) (list : List (List ℕ × List ℕ)) → Follows f h r v → IsListOf list (values v.entries) → IsListOf list (seen f h r.spans)
follows_pairs f h r v list follows is = record { distinct = is.distinct; values = λ k. is.values k ∙ follows.sighted.entries k }

-- and where it is caught up, one of what is live at its cursor
pub follows_live_pairs : (f : Followed) (h : History) (r : Record) (v : View) (list : List (List ℕ × List ℕ)) → Follows f h r v → is_caught_up v.phase ≡ true → IsListOf list (values v.entries) → IsListOf list (in_at f h (cursor_of r.spans))
follows_live_pairs f h r v list follows caught is = record { distinct = is.distinct; values = λ k. is.values k ∙ (follows_live f h r v follows caught k).0 }

-- ---- before `finish_sync`
pub listing_is_fresh : ListingIsFresh
listing_is_fresh f h at pairs v is k = ap fresh_of (puts-listed pairs k (stale_of (v.entries k)) is.distinct) ∙ over-fresh (v.entries k) (listed pairs k) ∙ is.values k

pub revision_is_fresh : RevisionIsFresh
revision_is_fresh f h r v fresh k =
    fresh_after k (v.entries k) (part_at f.inside h (suc r))
    ∙ ap (λ (o : Option (List ℕ)). after_changes k o (part_at f.inside h (suc r))) (fresh k)
    ∙ in_at-next f h r k

-- ---- lists and finite maps
-- a list of some pairs makes the map that has them
pub list_map : (list : List (List ℕ × List ℕ)) (pairs : Pairs) (m : Pairing) → IsListOf list pairs → ((k : List ℕ) → get m k ≡ pairs k) → from_entries list ≡ m
list_map list pairs m is same = same_map nat_list_cmp_total (slice_cmp-IsAntisymmetric nat_cmp-IsAntisymmetric) (from_entries list) m (λ k. get-from_entries nat_list_cmp_total list k ∙ find-listed k list ∙ is.values k ∙ sym (same k))
