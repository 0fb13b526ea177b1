-- The records that a reader can have, and the phase that each is in.
-- Source: Cilium's ClusterMesh documentation (after a reconnection earlier entries stay until synced).
use Rattle.std.specs.Prelude.{◌≡◌, ℕ, ◌≤◌, List, [], ◌∷◌, Bool, true, false, if◌then◌else◌}
use Rattle.store_api.specs.History.{History, revision}
use Rattle.store_api.specs.Followed.{Followed}
use Rattle.store_api.specs.Spans.{Span, Record, is_up}
use Rattle.relist_merge.specs.declared.phase.Phase.{Phase}
use Rattle.relist_merge.specs.declared.phase.Phase.TheVariants.{Waiting, Held, CaughtUp}

abbrev pub phase_in : Followed → History → Bool → List Span → Phase
phase_in f history false spans = Waiting
phase_in f history true [] = Waiting
phase_in f history true (s ∷ older) = if is_up f history s then CaughtUp else Held

-- closed, or open and not yet, or once synced in the open span
abbrev pub phase_of : Followed → History → Record → Phase
phase_of f history r = phase_in f history r.is_open r.spans

-- each span ends no earlier than it starts, and no later than at this revision
abbrev pub AreWithin : ℕ → List Span → Type 0
AreWithin last [] = Unit {0}
AreWithin last (s ∷ older) = (s.start ≤ s.upto) × (s.upto ≤ last) × AreWithin last older

-- a record of spans of this history, of which an open one has at least one
abbrev pub IsRecord : History → Record → Type 0
IsRecord history r = AreWithin (revision history) r.spans × (r.is_open ≡ true → r.spans ≡ [] → ⊥)
