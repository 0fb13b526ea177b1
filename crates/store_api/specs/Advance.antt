-- How a reader's record goes on: rules on numbers alone.
-- Source: etcd's API, KV service (Range tells its revision) and Watch service (a watch delivers every
-- change from its revision on; one that begins in compacted history is refused with that revision).
use Rattle.std.specs.Prelude.{ℕ, ◌+◌, leb, min, List, [], ◌∷◌, Bool, true, false, if◌then◌else◌}
use Rattle.store_api.specs.Spans.{Span, Record}

-- a listing at this revision
abbrev pub listed_at : ℕ → Record → Record
listed_at at r = record { spans = record { start = at; upto = at } ∷ r.spans; is_open = true }

abbrev pub moved_spans : ℕ → List Span → List Span
moved_spans upto [] = []
moved_spans upto (s ∷ older) = record s { upto = upto } ∷ older

-- every change up to this revision
abbrev pub moved_to : ℕ → Record → Record
moved_to upto r = record r { spans = moved_spans upto r.spans }

-- the connection was lost
abbrev pub closed : Record → Record
closed r = record r { is_open = false }

-- a watch from behind `end`: refused where that is compacted, else up to n revisions more
abbrev pub pulled : ℕ → ℕ → ℕ → ℕ → Record → Record
pulled n revision compacted end r = if leb (end + 1) compacted then closed r else moved_to (min (end + n) revision) r

abbrev pub turned_spans : ℕ → ℕ → ℕ → Bool → List Span → Record
turned_spans n revision compacted false spans = listed_at revision (record { spans = spans; is_open = false })
turned_spans n revision compacted true [] = listed_at revision (record { spans = []; is_open = true })
turned_spans n revision compacted true (s ∷ older) = pulled n revision compacted s.upto (record { spans = s ∷ older; is_open = true })

-- one turn of at most n revisions over contents with this revision and compacted number:
-- a closed reader lists, an open one watches on
abbrev pub turned : ℕ → ℕ → ℕ → Record → Record
turned n revision compacted r = turned_spans n revision compacted r.is_open r.spans
