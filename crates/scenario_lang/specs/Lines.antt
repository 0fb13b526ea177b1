-- What a text says, or its first fault.
use Rattle.std.specs.Prelude.{ℕ, ◌+◌, ◌-◌, ◌*◌, Bool, true, false, not, ◌&&◌, ◌||◌, ◌==◌, nat_lt, nat_le, List, [], ◌∷◌, ◌++◌, length, slice_get, Option, Some, None, Result, Ok, Err, if◌then◌else◌}
use Rattle.std.specs.List.{list_all, list_any}
use Rattle.mesh_base.specs.Order.{same_bytes}
use Rattle.key_paths.specs.declared.hop.Hop.{Hop}
use Rattle.key_paths.specs.declared.hop.Hop.TheVariants as hop
use Rattle.scenario_lang.specs.declared.draft.Draft.{Draft}
use Rattle.scenario_lang.specs.declared.entry.Entry.{Entry}
use Rattle.scenario_lang.specs.declared.entry.Entry.TheVariants as entry
use Rattle.scenario_lang.specs.declared.kinds.LineKind.{LineKind}
use Rattle.scenario_lang.specs.declared.kinds.LineKind.TheVariants as kind
use Rattle.scenario_lang.specs.declared.kinds.LineFault.{LineFault}
use Rattle.scenario_lang.specs.declared.kinds.Mode.{Mode}
use Rattle.scenario_lang.specs.declared.kinds.Mode.TheVariants as mode
use Rattle.scenario_lang.specs.declared.scenario.Action.{Action}
use Rattle.scenario_lang.specs.declared.scenario.Action.TheVariants as action
use Rattle.scenario_lang.specs.declared.scenario.Cluster.{Cluster}
use Rattle.scenario_lang.specs.declared.scenario.LinkName.{LinkName}
use Rattle.scenario_lang.specs.declared.scenario.LinkName.TheVariants as link_name
use Rattle.scenario_lang.specs.declared.scenario.Remote.{Remote}
use Rattle.scenario_lang.specs.declared.scenario.Scenario.{Scenario}
use Rattle.scenario_lang.specs.declared.verb.Place.TheVariants as place
use Rattle.scenario_lang.specs.declared.verb.Verb.{Verb}
use Rattle.scenario_lang.specs.Judgement.{◌>>=◌, refused_if, at_line}
use Rattle.scenario_lang.specs.Clusters.{names_of, is_local_name}
use Rattle.scenario_lang.specs.Split.{lines, words}
use Rattle.scenario_lang.specs.Table.{row, verb_of, may_follow}

-- what a scenario says, as plain data
abbrev pub Said : Type 0
Said = Scenario

-- What the lines so far say.

-- no line stands before
abbrev pub no_lines : Draft
no_lines = record { last = place.Start; local = None; lease = None; remotes = []; actions = []; unsettled = None }

abbrev pub after_action : ℕ → Draft → Action → Draft
after_action n draft a = record draft {
  last = place.Actions;
  actions = draft.actions ++ a ∷ [];
  unsettled = Some n;
}

-- the lines so far with this one, which has the number n
abbrev pub after : ℕ → Draft → Entry → Draft
after n draft entry.Mesh = record draft { last = place.Mesh }
after n draft (entry.Local cluster) = record draft { last = place.Local; local = Some cluster }
after n draft (entry.Lease seconds) = record draft { last = place.Lease; lease = Some seconds }
after n draft (entry.Remote remote) = record draft { last = place.Remotes; remotes = draft.remotes ++ remote ∷ [] }
after n draft (entry.Act a) = after_action n draft a

-- comments and empty lines say nothing
abbrev pub after_line : ℕ → Draft → Option Entry → Draft
after_line n draft None = draft
after_line n draft (Some e) = after n draft e

-- The faults of a line.

-- a remote has the name of the local cluster or of a remote before it
abbrev pub repeats : Draft → Entry → Bool
repeats draft (entry.Remote remote) = is_local_name remote.name draft.local || list_any (same_bytes remote.name) (names_of draft.remotes)
repeats draft _ = false

abbrev pub is_direct : Hop → Bool
is_direct hop.State = true
is_direct hop.Cache = false

-- a remote that is read from its own store has no worker of KVStoreMesh, and so none of its two links
abbrev pub lacks_link : Option Remote → LinkName → Bool
lacks_link (Some remote) link_name.Remote = is_direct remote.hop
lacks_link (Some remote) link_name.Local = is_direct remote.hop
lacks_link _ _ = false

abbrev pub is_on_threads : Mode → Bool
is_on_threads mode.Step = false
is_on_threads (mode.Run probes) = true

-- on threads the agent restarts before everything else, or after another restart
abbrev pub may_restart_after : Option Action → Bool
may_restart_after None = true
may_restart_after (Some action.RestartAgent) = true
may_restart_after (Some _) = false

abbrev pub last_action : List Action → Option Action
last_action actions = slice_get actions (length actions - 1)

-- a link that the remote does not have; on threads, a `report` or a restart between other actions
abbrev pub breaks_mode : Mode → Draft → Entry → Bool
breaks_mode how draft (entry.Act (action.Link remote link up)) = lacks_link (slice_get draft.remotes remote) link
breaks_mode how draft (entry.Act (action.Fail remote link skip moment)) = lacks_link (slice_get draft.remotes remote) link
breaks_mode how draft (entry.Act action.Report) = is_on_threads how
breaks_mode how draft (entry.Act action.RestartAgent) = is_on_threads how && not (may_restart_after (last_action draft.actions))
breaks_mode how draft _ = false

abbrev pub most_remotes : Mode → ℕ
most_remotes mode.Step = 255
most_remotes (mode.Run probes) = 32

-- one remote more than there may be
abbrev pub exceeds : Mode → Draft → Entry → Bool
exceeds how draft (entry.Remote remote) = nat_le (most_remotes how) (length draft.remotes)
exceeds how draft _ = false

-- a line whose words are right: the first of these faults counts
abbrev pub entry_said : Mode → Draft → Entry → Result Entry LineKind
entry_said how draft said = do
  _ ← refused_if (repeats draft said) kind.Repeated
  _ ← refused_if (breaks_mode how draft said) kind.Mode
  _ ← refused_if (exceeds how draft said) kind.TooManyRemotes
  Ok said

-- a line with this first word and these words behind it: the first of these faults counts
unfoldable pub row_said : Mode → Draft → Verb → List (List ℕ) → Result Entry LineKind
row_said how draft v ws = do
  _ ← refused_if (not ((row v).line.fits ws)) kind.Words
  _ ← refused_if (not (may_follow draft.last (row v).place)) kind.Header
  said ← (row v).line.says draft ws
  entry_said how draft said

abbrev pub verb_said : Mode → Draft → Option Verb → List (List ℕ) → Result Entry LineKind
verb_said how draft None ws = Err kind.Words
verb_said how draft (Some v) ws = row_said how draft v ws

abbrev pub begins_comment : List ℕ → Bool
begins_comment [] = false
begins_comment (c ∷ cs) = c == 35

abbrev pub counted : {E : Type 0} → Result Entry E → Result (Option Entry) E
counted said = said >>= λ e. Ok (Some e)

-- a line without words, and one whose first word begins with `#`, say nothing
unfoldable pub words_said : Mode → Draft → List (List ℕ) → Result (Option Entry) LineKind
words_said how draft [] = Ok None
words_said how draft (w ∷ ws) = if begins_comment w then Ok None else counted (verb_said how draft (verb_of w) ws)

abbrev pub is_printable : ℕ → Bool
is_printable c = nat_le 32 c && nat_le c 126

-- a line: the first of these faults counts
unfoldable pub line_said : Mode → Draft → List ℕ → Result (Option Entry) LineKind
line_said how draft line = do
  _ ← refused_if (nat_lt 65536 (length line)) kind.TooLong
  _ ← refused_if (not (list_all is_printable line)) kind.Words
  words_said how draft (words line)

-- What stands at the end of the text.

-- behind the last newline stands nothing
abbrev pub rest_said : List ℕ → Result (Unit {0}) LineKind
rest_said rest = do
  _ ← refused_if (nat_lt 65536 (length rest)) kind.TooLong
  refused_if (nat_lt 0 (length rest)) kind.Words

-- all lines stand; where `mesh` and `local` do not, the line that is missing is the one behind the last
abbrev pub complete : ℕ → Draft → Option Cluster → Result Said LineFault
complete n draft None = Err (record { line = n; kind = kind.Header })
complete n draft (Some local) = Ok (record { local = local; lease = draft.lease; remotes = draft.remotes; actions = draft.actions })

-- on threads, the last action is a `settle`
abbrev pub settled : Mode → Option ℕ → Result (Unit {0}) LineFault
settled (mode.Run probes) (Some n) = Err (record { line = n; kind = kind.Mode })
settled _ _ = Ok tt

-- The text.

-- the lines from the one with the number n on, the last of which is what no newline ends
unfoldable pub lines_said : Mode → Draft → ℕ → List (List ℕ) → Result Said LineFault
lines_said how draft n [] = complete n draft draft.local
lines_said how draft n (rest ∷ []) = do
  _ ← at_line n (rest_said rest)
  said ← complete n draft draft.local
  _ ← settled how draft.unsettled
  Ok said
lines_said how draft n (line ∷ next ∷ more) = do
  said ← at_line n (line_said how draft line)
  lines_said how (after_line n draft said) (n + 1) (next ∷ more)

-- heavy lines, of which each costs as much as the whole text is long
abbrev pub is_heavy : Action → Bool
is_heavy (action.Start remote) = true
is_heavy (action.Compact store revision) = true
is_heavy (action.Link remote link up) = not up
is_heavy (action.Fail remote link skip moment) = true
is_heavy action.RestartAgent = true
is_heavy action.Report = true
is_heavy _ = false

abbrev pub heavy_lines : List Action → ℕ
heavy_lines [] = 0
heavy_lines (a ∷ actions) = (if is_heavy a then 1 else 0) + heavy_lines actions

abbrev pub weight : Said → ℕ → ℕ
weight said bytes = (1 + heavy_lines said.actions) * bytes

-- a fault of the whole text
abbrev pub refused_whole : Bool → LineKind → Result (Unit {0}) LineFault
refused_whole test fault = at_line 0 (refused_if test fault)

-- the scenario that a text is in this mode, or its first fault
unfoldable pub scenario_of : Mode → List ℕ → Result Said LineFault
scenario_of how text = do
  _ ← refused_whole (nat_lt 16777216 (length text)) kind.TooLong
  said ← lines_said how no_lines 1 (lines text)
  _ ← refused_whole (nat_lt 67108864 (weight said (length text))) kind.TooHeavy
  Ok said
