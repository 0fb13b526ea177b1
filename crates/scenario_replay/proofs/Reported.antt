-- A report of what was sighted, and its text.
use Rattle.std.proofs.Common.{◌≡◌, ℕ, ◌+◌, ◌<◌, List, [], ◌∷◌, ◌++◌, length, drop, get_or, not, refl, ap, sym, ◌∙◌, subst, arith}
use Rattle.exporter.specs.State.{Export}
use Rattle.key_paths.specs.declared.hop.Hop.TheVariants.{State}
use Rattle.record_check.specs.declared.limit.Limit.{Limit}
use Rattle.record_check.specs.declared.limit.Limit.TheVariants.{Small}
use Rattle.relist_merge.specs.Sight.{viewed}
use Rattle.relist_merge.specs.View.{is_caught_up}
use Rattle.relist_merge.proofs.CallerLemmas.{follows_caught_up}
use Rattle.report_text.specs.Laws.{OrderIsNotPrinted}
use Rattle.report_text.specs.Text.{report_text}
use Rattle.report_text.specs.declared.head.Head.TheVariants as head
use Rattle.shared_tables.specs.Merge.{IsMerge}
use Rattle.shared_tables.specs.RecordSets.{RecordSet}
use Rattle.shared_tables.specs.Rows.{SameRows}
use Rattle.shared_tables.specs.declared.rows.Report.{Report}
use Rattle.shared_tables.specs.declared.rows.SourceRow.{SourceRow}
use Rattle.shared_tables.proofs.CallerLemmas.{SameRows-refl}
use Rattle.store_api.specs.Contents.{Contents}
use Rattle.store_api.specs.History.{History}
use Rattle.mesh_world.specs.Actions.{changes, reported}
use Rattle.mesh_remote.specs.Shown.{IsShown}
use Rattle.scenario_replay.specs.Shown.{AreShown, MakesPlainly}
use Rattle.mesh_world.specs.Sources.{IsReportOf, of_each, report_of, sets_in, sighted_set, source_row, state_of}
use Rattle.mesh_world.specs.World.{World}
use Rattle.mesh_world.specs.World as world
use Rattle.mesh_remote.specs.declared.remote.Remote.{Remote}
use Rattle.scenario_replay.specs.declared.replay.Replay.{Replay}
use Rattle.scenario_replay.specs.declared.sighting.Sighting.{Sighting}

-- ---- how far a remote was followed
abbrev pub IsRowOf : Remote → SourceRow → Type 0
IsRowOf r row = (history : History) (w : world.Remote) → IsShown history w r → row ≡ source_row w.exporter.cluster history w.reader

abbrev row_seen : Remote → SourceRow
row_seen r = record { cluster = r.exporter.cluster; hop = State; held = not (is_caught_up (viewed r.agent.view).shown.phase); revision = (viewed r.agent.view).shown.cursor }

-- what the agent's view says is what was followed
pub row_followed : (r : Remote) (row : SourceRow) → row ≡ row_seen r → IsRowOf r row
row_followed r row is history w shown =
    let named : r.exporter.cluster ≡ w.exporter.cluster = ap (λ (e : Export). e.cluster) shown.exporter in
    let caught = follows_caught_up (state_of w.exporter.cluster) history w.reader (viewed r.agent.view).shown shown.agent.follows in
    let at = shown.agent.follows.sighted.cursor in
    is ∙ (λ i. record { cluster = named i; hop = State; held = not (caught i); revision = at i })

-- the rows are those of a front of the remotes
abbrev pub AreRowsOf : List Remote → List SourceRow → Type 0
AreRowsOf remotes [] = Unit {0}
AreRowsOf (r ∷ remotes) (row ∷ rows) = IsRowOf r row × AreRowsOf remotes rows
AreRowsOf [] (row ∷ rows) = ⊥

pub more_rows : (remotes : List Remote) (rows : List SourceRow) (r : Remote) (row : SourceRow) → r ≡ get_or remotes (length rows) r → length rows < length remotes → AreRowsOf remotes rows → IsRowOf r row → AreRowsOf remotes (rows ++ row ∷ [])
more_rows (q ∷ remotes) [] r row is lt are new = (subst (λ (p : Remote). IsRowOf p row) is new, tt)
more_rows (q ∷ remotes) (x ∷ rows) r row is lt are new = (are.0, more_rows remotes rows r row is (omega (arith, lt)) are.1 new)
more_rows [] [] r row is lt are new = absurd (omega (arith, lt))
more_rows [] (x ∷ rows) r row is lt are new = absurd are

pub all_rows : (remotes : List Remote) (rows : List SourceRow) (stores : List Contents) (ws : List world.Remote) → length rows ≡ length remotes → AreRowsOf remotes rows → AreShown stores ws remotes → rows ≡ of_each source_row stores ws
all_rows [] [] stores [] many are shown = refl
all_rows (r ∷ remotes) (row ∷ rows) (c ∷ stores) (w ∷ ws) many are shown = λ i. are.0 c.history w shown.0 i ∷ all_rows remotes rows stores ws (omega (arith, many)) are.1 shown.1 i
all_rows [] (row ∷ rows) stores ws many are shown = absurd are
all_rows (r ∷ remotes) [] stores ws many are shown = absurd (omega (arith, many))
all_rows [] [] [] (w ∷ ws) many are shown = absurd shown
all_rows [] [] (c ∷ stores) (w ∷ ws) many are shown = absurd shown
all_rows (r ∷ remotes) (row ∷ rows) [] [] many are shown = absurd shown
all_rows (r ∷ remotes) (row ∷ rows) [] (w ∷ ws) many are shown = absurd shown
all_rows (r ∷ remotes) (row ∷ rows) (c ∷ stores) [] many are shown = absurd shown

-- ---- the report of tables that were told so
pub merge_as : (limit : Limit) (local number : ℕ) (told_sets shown : List RecordSet) (report : Report) → IsMerge limit local told_sets report → limit ≡ Small → local ≡ number → told_sets ≡ shown → IsMerge Small number shown report
merge_as limit local number told_sets shown report is small same sets_are =
    subst (λ (s : List RecordSet). IsMerge Small number s report) sets_are
    (subst (λ (n : ℕ). IsMerge Small n told_sets report) same
    (subst (λ (l : Limit). IsMerge l local told_sets report) small is))

pub report_told : (number : ℕ) (shown : List RecordSet) (followed rows : List SourceRow) (report : Report) → IsMerge Small number shown report → rows ≡ followed
    → IsReportOf number followed shown (record report { sources = rows })
report_told number shown followed rows report merge rows_are = record {
  sources = rows_are;
  rows = record { sources = refl; nodes = merge.nodes; identities = merge.identities; addresses = merge.addresses; backends = merge.backends; chosen = merge.chosen; rejects = merge.rejects };
}

-- ---- its text
same_if : {X : Type 0} (xs ys : List X) → xs ≡ ys → SameRows xs ys
same_if {X} xs ys e = subst (λ (l : List X). SameRows xs l) e (SameRows-refl xs)

-- the rows in any order have the text of the world's report
text_of_report : (w : World) (report : Report) (number : ℕ) → OrderIsNotPrinted → IsReportOf w.local (of_each source_row (drop 1 w.stores) w.remotes) (sets_in w) report
    → report_text head.Report number report ≡ report_text head.Report number (report_of w)
text_of_report w report number order is = sym (order head.Report number (report_of w) report (record {
  sources = same_if _ _ (sym is.sources);
  nodes = is.rows.nodes;
  identities = is.rows.identities;
  addresses = is.rows.addresses;
  backends = is.rows.backends;
  chosen = same_if _ _ (sym is.rows.chosen);
  rejects = is.rows.rejects;
}))

-- the text with one report more
pub one_report_more : (old : Replay) (sighting : Sighting) (report : Report) (number : ℕ) (text more : List ℕ) → number ≡ old.reports + 1 → more ≡ report_text head.Report number report → text ≡ old.text ++ more → OrderIsNotPrinted
    → ((stores : List Contents) (ws : List world.Remote) → AreShown stores ws old.remotes.items → IsReportOf old.number (of_each source_row stores ws) (of_each sighted_set stores ws) report)
    → MakesPlainly (changes reported) old (record old { sighting = sighting; reports = number; text = text })
one_report_more old sighting report number text more counted printed put order is stores w has =
    let shown = subst (λ (n : ℕ). IsReportOf n (of_each source_row (drop 1 w.stores) w.remotes) (sets_in w) report) has.local (is (drop 1 w.stores) w.remotes has.shown) in
    let reports_are : number ≡ w.reports + 1 = counted ∙ ap (λ (n : ℕ). n + 1) has.reports in
    record {
      used = [];
      new = reported w;
      goes = λ os. refl;
      stores = has.contents;
      lost = omega arith;
      asked = omega arith;
      tallies = record { lost = λ i. omega arith; asked = λ i. omega arith };
      in_turn = λ numbers. (tt, numbers);
      shows = record {
        many = has.many;
        opens = has.opens;
        few = has.few;
        apart = has.apart;
        local = has.local;
        contents = has.contents;
        shown = has.shown;
        reports = reports_are;
        text = put ∙ ap (λ (l : List ℕ). l ++ more) has.text
            ∙ ap (λ (l : List ℕ). w.text ++ l) (printed ∙ text_of_report w report number order shown ∙ ap (λ (n : ℕ). report_text head.Report n (report_of w)) reports_are);
      };
    }
