-- Every scenario that is read is valid.
use Rattle.std.proofs.Common.{◌≡◌, ◌+◌, ◌≤◌, ◌||◌, ℕ, Bool, true, false, not, cond, nat_lt, List, [], ◌∷◌, ◌++◌, length, Option, Some, None, IfSome, Result, Ok, Err, refl, sym, ap, ◌∙◌, subst, arith, append_assoc}
use Rattle.std.specs.List.{All, IsDistinct, list_all, list_any}
use Rattle.std.specs.Cmp.Lexicographic.{nat_list_cmp_total}
use Rattle.std.proofs.lemmas.Bool.{leb-false}
use Rattle.std.proofs.lemmas.Cmp.{eq_by_cmp_equiv}
use Rattle.std.proofs.lemmas.List.{map_push}
use Rattle.std.proofs.lemmas.List.Elements.{All-nil, All-push}
use Rattle.std.proofs.lemmas.List.Folds.{list_any-append}
use Rattle.std.proofs.lemmas.Map.Keys.{IsDistinct-push}
use Rattle.mesh_base.specs.Order.{same_bytes}
use Rattle.scenario_lang.specs.declared.draft.Draft.{Draft}
use Rattle.scenario_lang.specs.declared.entry.Entry.{Entry}
use Rattle.scenario_lang.specs.declared.entry.Entry.TheVariants as entry
use Rattle.scenario_lang.specs.declared.kinds.LineKind.{LineKind}
use Rattle.scenario_lang.specs.declared.kinds.LineKind.TheVariants as kind
use Rattle.scenario_lang.specs.declared.kinds.Mode.{Mode}
use Rattle.scenario_lang.specs.declared.scenario.Action.{Action}
use Rattle.scenario_lang.specs.declared.scenario.Action.TheVariants as action
use Rattle.scenario_lang.specs.declared.scenario.Cluster.{Cluster}
use Rattle.scenario_lang.specs.declared.scenario.Remote.{Remote}
use Rattle.scenario_lang.specs.declared.verb.Place.{Place}
use Rattle.scenario_lang.specs.declared.verb.Place.TheVariants as place
use Rattle.scenario_lang.specs.declared.verb.Verb.{Verb}
use Rattle.scenario_lang.specs.Clusters.{names_of, is_local_name}
use Rattle.scenario_lang.specs.Judgement.{◌>>=◌, at_line, refused_if}
use Rattle.scenario_lang.specs.Split.{lines, words}
use Rattle.scenario_lang.specs.Table.{row, verb_of, may_follow}
use Rattle.scenario_lang.specs.Lines.{Said, no_lines, after, after_line, repeats, breaks_mode, exceeds, most_remotes, entry_said, row_said, verb_said, begins_comment, counted, words_said, is_printable, line_said, rest_said, complete, settled, lines_said, weight, refused_whole, scenario_of}
use Rattle.scenario_lang.specs.Valid.{IsValid, IsActionOf, HasItsLink, IsClusterNumber, IsToBillion}
use Rattle.scenario_lang.proofs.Shapely.{ok_bind, passed, given, ok_same}
use Rattle.scenario_lang.proofs.Rows.{IsEntryAt, row_holds}

abbrev local_names : Option Cluster → List (List ℕ)
local_names None = []
local_names (Some c) = c.name ∷ []

-- before the local line there is no remote
abbrev is_early : Place → Bool
is_early place.Start = true
is_early place.Mesh = true
is_early _ = false

abbrev is_action_place : Place → Bool
is_action_place place.Actions = true
is_action_place _ = false

-- what holds of the lines so far
record IsSound (how : Mode) (d : Draft) : Type 0 where
  early : is_early d.last ≡ true → d.remotes ≡ []
  acting : is_action_place d.last ≡ false → d.actions ≡ []
  apart : IsDistinct same_bytes (local_names d.local ++ names_of d.remotes)
  few : length d.remotes ≤ most_remotes how
  local : IfSome d.local (λ c. IsClusterNumber c.number)
  remotes : All (λ r. IsClusterNumber r.number) d.remotes
  lease : IfSome d.lease IsToBillion
  actions : All (IsActionOf (length d.remotes)) d.actions
  links : All (HasItsLink d.remotes) d.actions

sound_none : (how : Mode) → IsSound how no_lines
unfolding IsDistinct
sound_none how = record { early = λ _. refl; acting = λ _. refl; apart = tt; few = omega arith; local = tt; remotes = All-nil (λ r. IsClusterNumber r.number); lease = tt; actions = All-nil (IsActionOf 0); links = All-nil (HasItsLink []) }

early_mesh : (l : Place) → may_follow l place.Mesh ≡ true → is_early l ≡ true
early_mesh place.Start e = refl
early_mesh place.Mesh e = refl
early_mesh place.Local e = absurd (let h : false ≡ true = e in cc)
early_mesh place.Lease e = absurd (let h : false ≡ true = e in cc)
early_mesh place.Remotes e = absurd (let h : false ≡ true = e in cc)
early_mesh place.Actions e = absurd (let h : false ≡ true = e in cc)

early_local : (l : Place) → may_follow l place.Local ≡ true → is_early l ≡ true
early_local place.Start e = refl
early_local place.Mesh e = refl
early_local place.Local e = absurd (let h : false ≡ true = e in cc)
early_local place.Lease e = absurd (let h : false ≡ true = e in cc)
early_local place.Remotes e = absurd (let h : false ≡ true = e in cc)
early_local place.Actions e = absurd (let h : false ≡ true = e in cc)

late : {A : Type 0} → false ≡ true → A
late e = absurd (let h : false ≡ true = e in cc)

not_acting : (l p : Place) → may_follow l p ≡ true → is_action_place p ≡ false → is_action_place l ≡ false
not_acting place.Start p e h = refl
not_acting place.Mesh p e h = refl
not_acting place.Local p e h = refl
not_acting place.Lease p e h = refl
not_acting place.Remotes p e h = refl
not_acting place.Actions place.Start e h = absurd (let g : false ≡ true = e in cc)
not_acting place.Actions place.Mesh e h = absurd (let g : false ≡ true = e in cc)
not_acting place.Actions place.Local e h = absurd (let g : false ≡ true = e in cc)
not_acting place.Actions place.Lease e h = absurd (let g : false ≡ true = e in cc)
not_acting place.Actions place.Remotes e h = absurd (let g : false ≡ true = e in cc)
not_acting place.Actions place.Actions e h = absurd (let g : true ≡ false = h in cc)

-- before a line that is no action there is no action
no_actions : (how : Mode) (d : Draft) (p q : Place) → IsSound how d → may_follow d.last p ≡ true → p ≡ q → is_action_place q ≡ false → d.actions ≡ []
no_actions how d p q s follows is other = s.acting (not_acting d.last q (subst (λ k. may_follow d.last k ≡ true) is follows) other)

-- a link that is named is one that the remote has
linked : (how : Mode) (d : Draft) (a : Action) → breaks_mode how d (entry.Act a) ≡ false → HasItsLink d.remotes a
linked how d (action.Link remote link up) e = e
linked how d (action.Fail remote link skip moment) e = e
linked how d _ e = tt

local_named : (name : List ℕ) (o : Option Cluster) → is_local_name name o ≡ list_any (same_bytes name) (local_names o)
local_named name None = refl
local_named name (Some c) = by (same_bytes name c.name)
  where
    by : (b : Bool) → b ≡ b || false
    by true = refl
    by false = refl

-- a remote with a new name
remote_apart : (local : Option Cluster) (remotes : List Remote) (r : Remote) → IsDistinct same_bytes (local_names local ++ names_of remotes)
    → is_local_name r.name local || list_any (same_bytes r.name) (names_of remotes) ≡ false → IsDistinct same_bytes (local_names local ++ names_of (remotes ++ r ∷ []))
remote_apart local remotes r apart single =
    let same : local_names local ++ names_of (remotes ++ r ∷ []) ≡ (local_names local ++ names_of remotes) ++ r.name ∷ []
    = ap (λ (ns : List (List ℕ)). local_names local ++ ns) (map_push (λ (x : Remote). x.name) remotes r) ∙ sym (append_assoc (local_names local) (names_of remotes) (r.name ∷ [])) in
    let new : list_any (same_bytes r.name) (local_names local ++ names_of remotes) ≡ false = list_any-append (same_bytes r.name) (local_names local) (names_of remotes) ∙ (rw (local_named r.name local) at single) in
    subst (IsDistinct same_bytes) (sym same) (IsDistinct-push (eq_by_cmp_equiv nat_list_cmp_total) (local_names local ++ names_of remotes) r.name apart new)

pushed_length : (remotes : List Remote) (r : Remote) → length (remotes ++ r ∷ []) ≡ length remotes + 1
pushed_length [] r = refl
pushed_length (x ∷ xs) r = let e = pushed_length xs r in omega arith

sound_after : (how : Mode) (n : ℕ) (d : Draft) (e : Entry) (p : Place) → IsSound how d → may_follow d.last p ≡ true → IsEntryAt p (length d.remotes) e
    → repeats d e ≡ false → breaks_mode how d e ≡ false → exceeds how d e ≡ false → IsSound how (after n d e)
unfolding IsDistinct
sound_after how n d entry.Mesh p s follows is single works few =
    record {
      early = λ _. s.early (early_mesh d.last (subst (λ q. may_follow d.last q ≡ true) is follows));
      acting = λ _. no_actions how d p place.Mesh s follows is refl;
      apart = s.apart;
      few = s.few;
      local = s.local;
      remotes = s.remotes;
      lease = s.lease;
      actions = s.actions;
      links = s.links;
    }
sound_after how n d (entry.Local c) p s follows is single works few =
    let none : d.remotes ≡ [] = s.early (early_local d.last (subst (λ q. may_follow d.last q ≡ true) is.0 follows)) in
    record {
      early = late;
      acting = λ _. no_actions how d p place.Local s follows is.0 refl;
      apart = subst (λ (rs : List Remote). IsDistinct same_bytes (c.name ∷ names_of rs)) (sym none) (tt, tt);
      few = s.few;
      local = is.1;
      remotes = s.remotes;
      lease = s.lease;
      actions = s.actions;
      links = s.links;
    }
sound_after how n d (entry.Lease seconds) p s follows is single works few =
    record {
      early = late;
      acting = λ _. no_actions how d p place.Lease s follows is.0 refl;
      apart = s.apart;
      few = s.few;
      local = s.local;
      remotes = s.remotes;
      lease = is.1;
      actions = s.actions;
      links = s.links;
    }
sound_after how n d (entry.Remote r) p s follows is single works few =
    let more = pushed_length d.remotes r in
    let none : d.actions ≡ [] = no_actions how d p place.Remotes s follows is.0 refl in
    let remotes = d.remotes ++ r ∷ [] in
    record {
      early = late;
      acting = λ _. none;
      apart = remote_apart d.local d.remotes r s.apart single;
      few = let h = leb-false (most_remotes how) (length d.remotes) few in omega (arith, more, h);
      local = s.local;
      remotes = All-push (λ (x : Remote). IsClusterNumber x.number) d.remotes r s.remotes is.1;
      lease = s.lease;
      actions = subst (All (IsActionOf (length remotes))) (sym none) (All-nil (IsActionOf (length remotes)));
      links = subst (All (HasItsLink remotes)) (sym none) (All-nil (HasItsLink remotes));
    }
sound_after how n d (entry.Act a) p s follows is single works few =
    record {
      early = late;
      acting = λ h. absurd (let g : true ≡ false = h in cc);
      apart = s.apart;
      few = s.few;
      local = s.local;
      remotes = s.remotes;
      lease = s.lease;
      actions = All-push (IsActionOf (length d.remotes)) d.actions a s.actions is;
      links = All-push (HasItsLink d.remotes) d.actions a s.links (linked how d a works);
    }

-- what a line that says something has
record IsJudged (how : Mode) (d : Draft) (e : Entry) : Type 0 where
  at : Place
  follows : may_follow d.last at ≡ true
  is : IsEntryAt at (length d.remotes) e
  single : repeats d e ≡ false
  works : breaks_mode how d e ≡ false
  few : exceeds how d e ≡ false

not_false : (b : Bool) → not b ≡ false → b ≡ true
not_false true e = refl
not_false false e = absurd (let h : true ≡ false = e in cc)

row_judged : (how : Mode) (d : Draft) (v : Verb) (ws : List (List ℕ)) (e : Entry) → row_said how d v ws ≡ Ok e → IsJudged how d e
unfolding row_said
row_judged how d v ws e is =
    let rest = λ (x : Entry). entry_said how d x in
    let says = (row v).line.says d ws in
    let a = passed (not ((row v).line.fits ws)) kind.Words (λ _. refused_if (not (may_follow d.last (row v).place)) kind.Header >>= λ _. says >>= rest) e is in
    let b = passed (not (may_follow d.last (row v).place)) kind.Header (λ _. says >>= rest) e a.1 in
    let c = ok_bind says rest e b.1 in
    let g = passed (repeats d c.0) kind.Repeated (λ _. refused_if (breaks_mode how d c.0) kind.Mode >>= λ _. refused_if (exceeds how d c.0) kind.TooManyRemotes >>= λ _. Ok c.0) e c.2 in
    let h = passed (breaks_mode how d c.0) kind.Mode (λ _. refused_if (exceeds how d c.0) kind.TooManyRemotes >>= λ _. Ok c.0) e g.1 in
    let i = passed (exceeds how d c.0) kind.TooManyRemotes (λ _. Ok c.0) e h.1 in
    let same : c.0 ≡ e = ok_same c.0 e i.1 in
    let facts = (row_holds v).words d ws c.0 c.1 in
    subst (IsJudged how d) same (record { at = (row v).place; follows = not_false _ b.0; is = facts; single = g.0; works = h.0; few = i.0 })

some_same : (x y : Entry) → given (Some x) ≡ given (Some y) → x ≡ y
some_same x y e = cc

words_judged : (how : Mode) (d : Draft) (ws : List (List ℕ)) (e : Entry) → words_said how d ws ≡ Ok (Some e) → IsJudged how d e
unfolding words_said
words_judged how d [] e is = absurd (let h : given None ≡ Ok (Some e) = is in cc)
words_judged how d (w ∷ ws) e is = by (begins_comment w) is
  where
    named : (o : Option Verb) (x : Entry) → verb_said how d o ws ≡ Ok x → IsJudged how d x
    named None x h = absurd (let g : Err kind.Words ≡ Ok x = h in cc)
    named (Some v) x h = row_judged how d v ws x h

    by : (b : Bool) → cond b (Ok None) (counted (verb_said how d (verb_of w) ws)) ≡ Ok (Some e) → IsJudged how d e
    by true h = absurd (let g : given None ≡ Ok (Some e) = h in cc)
    by false h = let a = ok_bind (verb_said how d (verb_of w) ws) (λ x. Ok (Some x)) (Some e) h in subst (IsJudged how d) (some_same a.0 e a.2) (named (verb_of w) a.0 a.1)

line_judged : (how : Mode) (d : Draft) (line : List ℕ) (e : Entry) → line_said how d line ≡ Ok (Some e) → IsJudged how d e
unfolding line_said
line_judged how d line e is =
    let a = passed (nat_lt 65536 (length line)) kind.TooLong (λ _. refused_if (not (list_all is_printable line)) kind.Words >>= λ _. words_said how d (words line)) (Some e) is in
    let b = passed (not (list_all is_printable line)) kind.Words (λ _. words_said how d (words line)) (Some e) a.1 in
    words_judged how d (words line) e b.1

sound_line : (how : Mode) (n : ℕ) (d : Draft) (line : List ℕ) (said : Option Entry) → IsSound how d → line_said how d line ≡ Ok said → IsSound how (after_line n d said)
sound_line how n d line None s is = s
sound_line how n d line (Some e) s is = let j = line_judged how d line e is in sound_after how n d e j.at s j.follows j.is j.single j.works j.few

in_line : {A : Type 0} (n : ℕ) (r : Result A LineKind) (x : A) → at_line n r ≡ Ok x → r ≡ Ok x
in_line n (Ok y) x e = cc
in_line n (Err k) x e = absurd (cc)

whole_valid : (how : Mode) (n : ℕ) (d : Draft) (o : Option Cluster) (said : Said) → d.local ≡ o → IsSound how d → complete n d o ≡ Ok said → IsValid how said
whole_valid how n d None said is s e = absurd (cc)
whole_valid how n d (Some c) said is s e =
    let same : (let x : Said = record { local = c; lease = d.lease; remotes = d.remotes; actions = d.actions } in x) ≡ said = cc in
    subst (IsValid how) same (record {
      apart = subst (λ l. IsDistinct same_bytes (local_names l ++ names_of d.remotes)) is s.apart;
      few = s.few;
      local = subst (λ l. IfSome l (λ x. IsClusterNumber x.number)) is s.local;
      remotes = s.remotes;
      lease = s.lease;
      actions = s.actions;
      links = s.links;
    })

lines_valid : (how : Mode) (n : ℕ) (d : Draft) (pieces : List (List ℕ)) (said : Said) → IsSound how d → lines_said how d n pieces ≡ Ok said → IsValid how said
unfolding lines_said
lines_valid how n d [] said s e = whole_valid how n d d.local said refl s e
lines_valid how n d (rest ∷ []) said s e =
    let a = ok_bind (at_line n (rest_said rest)) (λ _. complete n d d.local >>= λ x. settled how d.unsettled >>= λ _. Ok x) said e in
    let b = ok_bind (complete n d d.local) (λ x. settled how d.unsettled >>= λ _. Ok x) said a.2 in
    let c = ok_bind (settled how d.unsettled) (λ _. Ok b.0) said b.2 in
    let same : b.0 ≡ said = (let h = c.2 in cc) in
    subst (IsValid how) same (whole_valid how n d d.local b.0 refl s b.1)
lines_valid how n d (line ∷ next ∷ more) said s e =
    let a = ok_bind (at_line n (line_said how d line)) (λ x. lines_said how (after_line n d x) (n + 1) (next ∷ more)) said e in
    lines_valid how (n + 1) (after_line n d a.0) (next ∷ more) said (sound_line how n d line a.0 s (in_line n (line_said how d line) a.0 a.1)) a.2

-- what the lines of a text say
pub text_valid : (how : Mode) (pieces : List (List ℕ)) (said : Said) → lines_said how no_lines 1 pieces ≡ Ok said → IsValid how said
text_valid how pieces said e = lines_valid how 1 no_lines pieces said (sound_none how) e

pub scenario_valid : (how : Mode) (text : List ℕ) (said : Said) → scenario_of how text ≡ Ok said → IsValid how said
unfolding scenario_of
scenario_valid how text said e =
    let a = ok_bind (refused_whole (nat_lt 16777216 (length text)) kind.TooLong) (λ _. lines_said how no_lines 1 (lines text) >>= λ x. refused_whole (nat_lt 67108864 (weight x (length text))) kind.TooHeavy >>= λ _. Ok x) said e in
    let b = ok_bind (lines_said how no_lines 1 (lines text)) (λ x. refused_whole (nat_lt 67108864 (weight x (length text))) kind.TooHeavy >>= λ _. Ok x) said a.2 in
    let c = ok_bind (refused_whole (nat_lt 67108864 (weight b.0 (length text))) kind.TooHeavy) (λ _. Ok b.0) said b.2 in
    let same : b.0 ≡ said = (let h = c.2 in cc) in
    subst (IsValid how) same (lines_valid how 1 no_lines (lines text) b.0 (sound_none how) b.1)
