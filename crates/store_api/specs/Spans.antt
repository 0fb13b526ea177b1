-- What a reader has sighted of a history, by the spans of it that the reader followed.
-- Source: etcd's API, Watch service (a watch from a revision delivers every change once, in order);
-- Cilium's ClusterMesh documentation (after a reconnection earlier entries stay until synced).
use Rattle.std.specs.Prelude.{ℕ, zero, suc, ◌+◌, ◌≤◌, leb, List, [], ◌∷◌, ◌||◌, ◌&&◌, Bool, false, if◌then◌else◌, None, is_some}
use Rattle.store_api.specs.History.{History, Pairs, changes_at}
use Rattle.store_api.specs.Followed.{Followed, in_at, touches}

-- a listing at `start`, followed without a gap by every change up to `upto`
pub record Span : Type 0 where
  pub start : ℕ
  pub upto : ℕ

-- a reader's record: its spans, the newest first, and whether that one is open
pub record Record : Type 0 where
  pub spans : List Span
  pub is_open : Bool

-- the spans lie in order up to this revision: each ends no earlier than it starts, and starts no
-- earlier than the one before it ended
abbrev pub AreSpans : ℕ → List Span → Type 0
AreSpans last [] = Unit {0}
AreSpans last (s ∷ older) = (s.upto ≤ last) × (s.start ≤ s.upto) × AreSpans s.start older

-- some number from a to r passes
abbrev pub some_from : (ℕ → Bool) → ℕ → ℕ → Bool
some_from p a zero = leb a zero && p zero
some_from p a (suc r) = some_from p a r || (leb a (suc r) && p (suc r))

-- the followed pairs were synced at some revision of the span
abbrev pub is_up : Followed → History → Span → Bool
is_up f history s = some_from (λ x. f.synced (in_at f history x)) s.start s.upto

-- the key was listed at the span's start, or changed in it
abbrev pub is_met : Followed → History → Span → List ℕ → Bool
is_met f history s k = is_some (in_at f history s.start k) || some_from (λ x. touches k (changes_at history x)) (s.start + 1) s.upto

-- being unlisted counts only in a span that was synced at some revision
abbrev pub speaks : Followed → History → Span → List ℕ → Bool
speaks f history s k = is_up f history s || is_met f history s k

-- the pairs sighted: what the last span that speaks of the key has at its end
abbrev pub seen : Followed → History → List Span → Pairs
seen f history [] k = None
seen f history (s ∷ older) k = if speaks f history s k then in_at f history s.upto k else seen f history older k

-- the end of the last span, or 0
abbrev pub cursor_of : List Span → ℕ
cursor_of [] = 0
cursor_of (s ∷ older) = s.upto

-- the last span was synced at some revision of it
abbrev pub is_last_up : Followed → History → List Span → Bool
is_last_up f history [] = false
is_last_up f history (s ∷ older) = is_up f history s

-- open, and once synced in the open span
abbrev pub is_caught_up : Followed → History → Record → Bool
is_caught_up f history r = r.is_open && is_last_up f history r.spans

-- a reader that has sighted nothing
abbrev pub unread : Record
unread = record { spans = []; is_open = false }
