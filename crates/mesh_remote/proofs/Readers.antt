-- What a turn of the agent's reader through a link was, and what it made of the reader and of the view.
use Rattle.std.proofs.Common.{◌≡◌, ◌≤◌, ℕ, List, [], ◌∷◌, Bool, Result, Ok, Option, None, Some, refl, sym, ap, subst, ◌∙◌, arith}
use Rattle.key_paths.specs.declared.hop.Hop.TheVariants.{State}
use Rattle.key_paths.specs.Paths.{ranges_of}
use Rattle.record_check.specs.declared.limit.Limit.TheVariants.{Small}
use Rattle.mesh_base.specs.declared.memory.Memory.{Memory}
use Rattle.store_api.specs.Contents.{Contents}
use Rattle.store_api.specs.Followed.{Followed}
use Rattle.store_api.specs.Given.{IsGiven, IsGivenIf, gone_on, gone_on_if}
use Rattle.store_api.specs.History.{Begins, History, revision}
use Rattle.store_api.specs.Spans.{AreSpans, Record, Span, cursor_of}
use Rattle.store_api.specs.declared.change.Delivery.{Delivery}
use Rattle.store_api.specs.declared.change.Delivery.TheVariants as delivery
use Rattle.reflector.specs.Reader.{Reader, Stands}
use Rattle.reflector.specs.Turns.{after_turn, delivery_of, followed}
use Rattle.reflector.specs.declared.turns.Turn.{Turn}
use Rattle.reflector.specs.declared.turns.Turn.TheVariants as turn
use Rattle.relist_merge.specs.Given.{delivery_from}
use Rattle.relist_merge.specs.Records.{AreWithin}
use Rattle.relist_merge.specs.Sight.{viewed}
use Rattle.relist_merge.specs.View.{Follows, View, view_after}
use Rattle.relist_merge.specs.Viewed.{Source, Viewed}
use Rattle.relist_merge.specs.Viewed as view
use Rattle.relist_merge.proofs.CallerLemmas.{follows_later}
use Rattle.mesh_remote.specs.Reads.{IsRead}
use Rattle.mesh_world.specs.Sources.{state_of}
use Rattle.mesh_remote.specs.declared.agent.Agent.{Agent}

-- the reader keeps its ranges
pub same_ranges : (t : Turn) (reader : Reader) → (after_turn t reader).ranges ≡ reader.ranges
same_ranges (turn.Listed l) reader = refl
same_ranges (turn.Pulled b) reader = refl
same_ranges (turn.Compacted n) reader = refl
same_ranges turn.Lost reader = refl
same_ranges turn.NothingNew reader = refl

-- the ranges and the source of the view of a cluster's own store
abbrev pub source_of : List ℕ → Source
source_of cluster = record { cluster = cluster; hop = State; limit = Small }

-- what a view that takes a delivery ensures
abbrev pub Takes : Viewed → Viewed → Delivery → Type 0
Takes old new d =
    (history : History) (r : Record) → Follows (view.followed old.source) history r old.shown → IsGiven (ranges_of old.source.cluster old.source.hop) history r d → Follows (view.followed old.source) history (gone_on d r) new.shown

module _ (cluster : List ℕ) (h later : History) (begins : Begins h later) (r : Record) (old : Viewed) (source : old.source ≡ source_of cluster) (follows : Follows (state_of cluster) h r old.shown) where
  -- where nothing was handed on
  pub follows_none : (t : Turn) → delivery_of t ≡ None → Follows (state_of cluster) later (followed t r) old.shown
  follows_none t none = rw none (follows_later (state_of cluster) h later begins r old.shown follows)

  -- where a delivery was
  pub follows_some : (t : Turn) (d : Delivery) (new : Viewed) → delivery_of t ≡ Some d → IsGivenIf (ranges_of cluster State) later r (delivery_of t) → Takes old new d → Follows (state_of cluster) later (followed t r) new.shown
  follows_some t d new some reads takes =
      let now : Follows (state_of cluster) later r old.shown = follows_later (state_of cluster) h later begins r old.shown follows in
      let given : IsGiven (ranges_of cluster State) later r d = subst (λ (o : Option Delivery). IsGivenIf (ranges_of cluster State) later r o) some reads in
      let so = subst (λ (s : Source). (history : History) (q : Record) → Follows (view.followed s) history q old.shown → IsGiven (ranges_of s.cluster s.hop) history q d → Follows (view.followed s) history (gone_on d q) new.shown) source takes in
      let on : followed t r ≡ gone_on d r = ap (λ (o : Option Delivery). gone_on_if o r) some in
      subst (λ (q : Record). Follows (state_of cluster) later q new.shown) (sym on) (so later r now given)

-- the cursor of a reader that does not wait is not beyond the history that it follows
pub cursor_within : (last : ℕ) (spans : List Span) → AreWithin last spans → cursor_of spans ≤ last
cursor_within last [] within = omega arith
cursor_within last (s ∷ older) within = within.1

-- the agent's reader and view after a turn
pub read_on : (cluster : List ℕ) (h : History) (c : Contents) (t : Turn) (r : Record) (old new : Agent) → IsRead cluster h r old
    → new.reader ≡ after_turn t old.reader → Stands new.reader (followed t r) → AreSpans (revision c.history) (followed t r).spans
    → (viewed new.view).source ≡ (viewed old.view).source → Follows (state_of cluster) c.history (followed t r) (viewed new.view).shown
    → IsRead cluster c.history (followed t r) new
read_on cluster h c t r old new is reader stands spans source follows = record {
  ranges = ap (λ (x : Reader). x.ranges) reader ∙ same_ranges t old.reader ∙ is.ranges;
  stands = stands;
  spans = spans;
  source = source ∙ is.source;
  follows = follows;
}

-- what a lost connection leaves of a view: all its entries
pub lost_entries : (f : Followed) (d : Delivery) (old new : View) → d ≡ delivery.Lost → new ≡ view_after f (delivery_from d) old → new.entries ≡ old.entries
lost_entries f d old new lost is = ap (λ (v : View). v.entries) (is ∙ ap (λ (x : Delivery). view_after f (delivery_from x) old) lost)

pub ok_same : (a b : Bool) → ◌≡◌ {A = Result Bool Memory} (Ok a) (Ok b) → a ≡ b
ok_same a b e = cc
