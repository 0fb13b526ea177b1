-- The marks are written behind the records that were declared at the start.
use Rattle.std.proofs.Common.{◌≡◌, ℕ, List, [], ◌∷◌, ◌++◌, map, take, drop, Bool, true, false, ◌||◌, cond, is_some, refl, sym, ap, ◌∙◌, append_assoc, append-nil}
use Rattle.std.specs.FinMap.{contains_key, contains_key-keys, insert, keys, remove}
use Rattle.std.specs.Cmp.{eq_by_cmp_equiv}
use Rattle.std.specs.Cmp.Lexicographic.{slice_cmp, nat_list_cmp_total}
use Rattle.std.specs.Ordering.{nat_cmp, eq_by_cmp}
use Rattle.std.specs.List.{list_any}
use Rattle.mesh_base.specs.Order.{same_bytes}
use Rattle.mesh_text.specs.declared.kind.Kind.{Kind}
use Rattle.key_paths.specs.Paths.{kinds}
use Rattle.exporter.specs.declared.item.Item.{Item}
use Rattle.exporter.specs.declared.item.Item.TheVariants as item
use Rattle.exporter.specs.State.{Export, is_record, with_key, waiting, record_item, mark_item, after_withdraw}
use Rattle.exporter.specs.Runs.{Step, Declares, Withdraws, Writes, Loses, Others, Lapses, Run, after_step, after_steps, started, written, written_by, MarksComeLast}

-- the queue grew at its back
abbrev Grows : List Item → List Item → Type 0
Grows old new = (more : List Item) × (new ≡ old ++ more)

key_grows : (key : List ℕ) (queue : List Item) → Grows queue (with_key key queue)
key_grows key queue = elim (list_any (is_record key) queue) as (λ b. Grows queue (cond b queue (queue ++ item.Record key ∷ []))) [
  | true ↦ ([], sym (append-nil queue))
  | false ↦ (item.Record key ∷ [], refl)
]

waiting_grows : (key : List ℕ) (s : Export) → Grows s.queue (waiting key s).queue
waiting_grows key s = elim (is_some s.lease) as (λ b. Grows s.queue (cond b (record s { queue = with_key key s.queue }) s).queue) [
  | true ↦ key_grows key s.queue
  | false ↦ ([], sym (append-nil s.queue))
]

withdraw_grows : (key : List ℕ) (s : Export) → Grows s.queue (after_withdraw key s).queue
withdraw_grows key s = elim (contains_key s.declared key) as (λ b. Grows s.queue (cond b (waiting key (record s { declared = remove s.declared key })) s).queue) [
  | true ↦ waiting_grows key (record s { declared = remove s.declared key })
  | false ↦ ([], sym (append-nil s.queue))
]

front_rest : (queue : List Item) → queue ≡ take 1 queue ++ drop 1 queue
front_rest [] = refl
front_rest (x ∷ queue) = refl

-- what was written, and what waits then, is what waited, and more behind it
one_step : (step : Step) (r : Run) → (more : List Item) × (written_by step r ++ (after_step step r).exporter.queue ≡ r.exporter.queue ++ more)
one_step (Declares key value) r = waiting_grows key (record r.exporter { declared = insert r.exporter.declared key value })
one_step (Withdraws key) r = withdraw_grows key r.exporter
one_step Writes r = ([], sym (front_rest r.exporter.queue) ∙ sym (append-nil r.exporter.queue))
one_step Loses r = ([], sym (append-nil r.exporter.queue))
one_step (Others changes) r = ([], sym (append-nil r.exporter.queue))
one_step (Lapses lease) r = ([], sym (append-nil r.exporter.queue))

pub all_steps : (steps : List Step) (r : Run) → (more : List Item) × (written steps r ++ (after_steps steps r).exporter.queue ≡ r.exporter.queue ++ more)
all_steps [] r = ([], sym (append-nil r.exporter.queue))
all_steps (step ∷ steps) r =
    let here : (more : List Item) × (written_by step r ++ (after_step step r).exporter.queue ≡ r.exporter.queue ++ more) = one_step step r in
    let later : (more : List Item) × (written steps (after_step step r) ++ (after_steps steps (after_step step r)).exporter.queue ≡ (after_step step r).exporter.queue ++ more) = all_steps steps (after_step step r) in (
      here.0 ++ later.0,
      append_assoc (written_by step r) (written steps (after_step step r)) (after_steps steps (after_step step r)).exporter.queue
          ∙ ap (λ (q : List Item). written_by step r ++ q) later.1
          ∙ sym (append_assoc (written_by step r) (after_step step r).exporter.queue later.0)
          ∙ ap (λ (q : List Item). q ++ later.0) here.1
          ∙ append_assoc r.exporter.queue here.0 later.0,
    )

abbrev is_mark : Item → Bool
is_mark item.Config = false
is_mark (item.Record key) = false
is_mark (item.Mark kind) = true

either : (a b c d : Bool) → a || b ≡ true → a ≡ c → (b ≡ true → d ≡ true) → c || d ≡ true
either true b c d h e f = ap (λ (x : Bool). x || d) (sym e)
either false b true d h e f = refl
either false b false d h e f = f h

-- items before the first mark are all written when a mark is in front
all_written : (test : Item → Bool) (first : List Item) (done : List Item) (kind : Kind) (rest more : List Item) → list_any is_mark first ≡ false
    → done ++ item.Mark kind ∷ rest ≡ first ++ more → list_any test first ≡ true → list_any test done ≡ true
all_written test [] done kind rest more none is h = cc
all_written test (item.Mark k ∷ first) done kind rest more none is h = cc
all_written test (item.Config ∷ first) [] kind rest more none is h = cc
all_written test (item.Record k ∷ first) [] kind rest more none is h = cc
all_written test (item.Config ∷ first) (d ∷ done) kind rest more none is h =
    let head : d ≡ item.Config = cc in
    let tail : done ++ item.Mark kind ∷ rest ≡ first ++ more = cc in
    either (test item.Config) (list_any test first) (test d) (list_any test done) h (ap test (sym head)) (all_written test first done kind rest more none tail)
all_written test (item.Record k ∷ first) (d ∷ done) kind rest more none is h =
    let head : d ≡ item.Record k = cc in
    let tail : done ++ item.Mark kind ∷ rest ≡ first ++ more = cc in
    either (test (item.Record k)) (list_any test first) (test d) (list_any test done) h (ap test (sym head)) (all_written test first done kind rest more none tail)

no_marks : (ks : List (List ℕ)) → list_any is_mark (map record_item ks) ≡ false
no_marks [] = refl
no_marks (k ∷ ks) = no_marks ks

among : (key : List ℕ) (ks : List (List ℕ)) → list_any (eq_by_cmp (slice_cmp nat_cmp) key) ks ≡ list_any (is_record key) (map record_item ks)
among key [] = refl
among key (k ∷ ks) = ap (λ (b : Bool). b || list_any (eq_by_cmp (slice_cmp nat_cmp) key) ks) ((eq_by_cmp_equiv nat_list_cmp_total).symm key k) ∙ ap (λ (b : Bool). same_bytes k key || b) (among key ks)

pub marks_come_last : MarksComeLast
marks_come_last s lease history steps kind rest front key has =
    let r : Run = started s lease history in
    let grown : (more : List Item) × (written steps r ++ (after_steps steps r).exporter.queue ≡ r.exporter.queue ++ more) = all_steps steps r in
    let records : List Item = item.Config ∷ map record_item (keys s.declared) in
    let is : written steps r ++ item.Mark kind ∷ rest ≡ records ++ (map mark_item kinds ++ grown.0) =
    sym (ap (λ (q : List Item). written steps r ++ q) front) ∙ grown.1 ∙ append_assoc records (map mark_item kinds) grown.0 in
    all_written (is_record key) records (written steps r) kind rest (map mark_item kinds ++ grown.0) (no_marks (keys s.declared)) is
    (sym (among key (keys s.declared)) ∙ sym (contains_key-keys s.declared key) ∙ has)
