-- The tables of what was sighted, as they are kept from report to report.
use Rattle.std.proofs.Common.{◌≡◌, ℕ, zero, suc, ◌<◌, List, [], ◌∷◌, map, length, get_or, Bool, true, false, slice_get, refl, ap, sym, ◌∙◌, subst, arith}
use Rattle.std.proofs.Math.ListN.{set}
use Rattle.std.proofs.lemmas.List.{set-get_or}
use Rattle.std.specs.List.{AllByRecursion}
use Rattle.std.specs.Option.{ForSome}
use Rattle.exporter.specs.State.{Export}
use Rattle.key_paths.specs.declared.hop.Hop.TheVariants.{State}
use Rattle.record_check.specs.declared.limit.Limit.TheVariants.{Small}
use Rattle.relist_merge.specs.Sight.{viewed}
use Rattle.relist_merge.specs.View.{Entries, values}
use Rattle.relist_merge.specs.Viewed as viewed
use Rattle.shared_tables.specs.Merge.{IsMerge}
use Rattle.shared_tables.specs.Told.{SourceTold, Told, changed_at, nothing_told, set_told, sets, told, with_nothing}
use Rattle.shared_tables.specs.declared.rows.Report.{Report}
use Rattle.shared_tables.specs.declared.tables.Tables.{Tables}
use Rattle.store_api.specs.Contents.{Contents}
use Rattle.mesh_remote.specs.Shown.{IsOwnView, IsViewOf}
use Rattle.scenario_replay.specs.Rows.{AreMarked, AreSources, HasEntriesOf, HasTables, IsSource, IsToldOf, TellsSource}
use Rattle.scenario_replay.specs.Shown.{AreShown}
use Rattle.mesh_world.specs.Sources.{of_each, sighted_set}
use Rattle.mesh_world.specs.World as world
use Rattle.relist_merge.specs.declared.view.View.{View}
use Rattle.mesh_remote.specs.declared.remote.Remote.{Remote}
use Rattle.scenario_replay.specs.declared.sighting.Sighting.{Sighting}
use Rattle.scenario_replay.proofs.Reported.{merge_as}
use Rattle.scenario_replay.proofs.SourcesTold.{changed-there, changed-twice, length-changed, one_of, own_at, some_there}

abbrev cluster_of : Remote → List ℕ
cluster_of r = r.exporter.cluster

-- ---- as many of each
pub sources_many : (ts : List Bool) (rs : List Remote) (ss : List SourceTold) → AreSources ts rs ss → (length ts ≡ length rs) × (length ss ≡ length rs)
sources_many [] [] [] are = (refl, refl)
sources_many (t ∷ ts) (r ∷ rs) (s ∷ ss) are = let more = sources_many ts rs ss are.1 in (ap suc more.0, ap suc more.1)
sources_many [] [] (s ∷ ss) are = absurd are
sources_many [] (r ∷ rs) ss are = absurd are
sources_many (t ∷ ts) [] ss are = absurd are
sources_many (t ∷ ts) (r ∷ rs) [] are = absurd are

-- ---- the beginning: none is marked
new_sources : (rs : List Remote) → AllByRecursion IsOwnView rs → AreSources (map (λ (r : Remote). false) rs) rs (map nothing_told (map cluster_of rs))
new_sources [] own = tt
new_sources (r ∷ rs) own = (record { view = own.0; told = λ e. cc }, new_sources rs own.1)

pub tables_new : (local : List ℕ) (number : ℕ) (names : List (List ℕ)) (rs : List Remote) (sighting : Sighting) → told sighting.tables ≡ record { local = local; number = number; limit = Small; sources = map nothing_told names } → names ≡ map cluster_of rs
    → sighting.told.items ≡ map (λ (r : Remote). false) rs → AllByRecursion IsOwnView rs → HasTables number rs sighting
tables_new local number names rs sighting is named none own = record {
  number_is = ap (λ (t : Told). t.number) is;
  limit = ap (λ (t : Told). t.limit) is;
  sources = subst (AreSources sighting.told.items rs) (sym (ap (λ (t : Told). t.sources) is ∙ ap (map nothing_told) named))
      (subst (λ (ts : List Bool). AreSources ts rs (map nothing_told (map cluster_of rs))) (sym none) (new_sources rs own));
}

-- ---- a remote of which the agent has sighted what it did
source_kept : (t : Bool) (old new : View) (s : SourceTold) → HasEntriesOf old new → IsSource t old s → IsSource t new s
source_kept t old new s same is = record {
  view = same.source ∙ is.view;
  told = λ e name history reader own sights. is.told e name history reader (sym same.source ∙ own)
      (record { within = sights.within; entries = λ k. ap (λ (es : Entries). values es k) (sym same.entries) ∙ sights.entries k });
}

kept_sources : (ts : List Bool) (rs : List Remote) (ss : List SourceTold) (place : ℕ) (r d : Remote) → HasEntriesOf (get_or rs place d).agent.view r.agent.view → AreSources ts rs ss → AreSources ts (set rs place r) ss
kept_sources [] [] [] place r d same are = tt
kept_sources (t ∷ ts) (q ∷ rs) (s ∷ ss) zero r d same are = (source_kept t q.agent.view r.agent.view s same are.0, are.1)
kept_sources (t ∷ ts) (q ∷ rs) (s ∷ ss) (suc place) r d same are = (are.0, kept_sources ts rs ss place r d same are.1)
kept_sources [] [] (s ∷ ss) place r d same are = absurd are
kept_sources [] (q ∷ rs) ss place r d same are = absurd are
kept_sources (t ∷ ts) [] ss place r d same are = absurd are
kept_sources (t ∷ ts) (q ∷ rs) [] place r d same are = absurd are

pub same_tables : (number : ℕ) (rs : List Remote) (sighting : Sighting) (place : ℕ) (old new : Remote) → old ≡ get_or rs place old → HasEntriesOf old.agent.view new.agent.view → HasTables number rs sighting → HasTables number (set rs place new) sighting
same_tables number rs sighting place old new is same has = record {
  number_is = has.number_is;
  limit = has.limit;
  sources = kept_sources sighting.told.items rs (told sighting.tables).sources place new old (subst (λ (r : Remote). HasEntriesOf r.agent.view new.agent.view) is same) has.sources;
}

-- it views what it did
pub kept_tables : (number : ℕ) (rs : List Remote) (sighting : Sighting) (place : ℕ) (old new : Remote) → old ≡ get_or rs place old → new.agent.view ≡ old.agent.view → HasTables number rs sighting → HasTables number (set rs place new) sighting
kept_tables number rs sighting place old new is same =
    same_tables number rs sighting place old new is (record { source = ap (λ (v : View). (viewed v).source) same; entries = ap (λ (v : View). (viewed v).shown.entries) same })

-- ---- a remote of which it may have sighted more
changed_sources : (ts : List Bool) (rs : List Remote) (ss : List SourceTold) (place : ℕ) (r d : Remote) → (viewed r.agent.view).source ≡ (viewed (get_or rs place d).agent.view).source → AreSources ts rs ss → AreSources (set ts place false) (set rs place r) ss
changed_sources [] [] [] place r d same are = tt
changed_sources (t ∷ ts) (q ∷ rs) (s ∷ ss) zero r d same are = (record { view = same ∙ are.0.view; told = λ e. cc }, are.1)
changed_sources (t ∷ ts) (q ∷ rs) (s ∷ ss) (suc place) r d same are = (are.0, changed_sources ts rs ss place r d same are.1)
changed_sources [] [] (s ∷ ss) place r d same are = absurd are
changed_sources [] (q ∷ rs) ss place r d same are = absurd are
changed_sources (t ∷ ts) [] ss place r d same are = absurd are
changed_sources (t ∷ ts) (q ∷ rs) [] place r d same are = absurd are

pub changed_tables : (number : ℕ) (rs : List Remote) (sighting forgot : Sighting) (place : ℕ) (old new : Remote) → forgot.tables ≡ sighting.tables → forgot.told.items ≡ set sighting.told.items place false
    → old ≡ get_or rs place old → (viewed new.agent.view).source ≡ (viewed old.agent.view).source → HasTables number rs sighting → HasTables number (set rs place new) forgot
changed_tables number rs sighting forgot place old new tables marks is same has = record {
  number_is = ap (λ (t : Tables). (told t).number) tables ∙ has.number_is;
  limit = ap (λ (t : Tables). (told t).limit) tables ∙ has.limit;
  sources = subst (λ (t : Tables). AreSources forgot.told.items (set rs place new) (told t).sources) (sym tables)
      (subst (λ (ts : List Bool). AreSources ts (set rs place new) (told sighting.tables).sources) (sym marks)
      (changed_sources sighting.told.items rs (told sighting.tables).sources place new old (same ∙ ap (λ (r : Remote). (viewed r.agent.view).source) is) has.sources));
}

-- what an agent that began new views is what it viewed
pub same_view : (place : ℕ) (rs : List Remote) (old new : Remote) → old ≡ get_or rs place old → place < length rs → AllByRecursion IsOwnView rs → new.exporter ≡ old.exporter → IsOwnView new → (viewed new.agent.view).source ≡ (viewed old.agent.view).source
same_view place rs old new is lt all exporter own =
    own ∙ ap (λ (e : Export). record { cluster = e.cluster; hop = State; limit = Small }) exporter ∙ sym (own_at place rs old is lt all)

pub all_set : (rs : List Remote) (place : ℕ) (r : Remote) → IsOwnView r → AllByRecursion IsOwnView rs → AllByRecursion IsOwnView (set rs place r)
all_set [] place r own all = tt
all_set (q ∷ rs) zero r own all = (own, all.1)
all_set (q ∷ rs) (suc place) r own all = (all.0, all_set rs place r own all.1)

-- ---- a remote that the tables are told
-- the source at its place is that of its cluster
pub name_at : (ts : List Bool) (rs : List Remote) (ss : List SourceTold) (place : ℕ) (r : Remote) → r ≡ get_or rs place r → place < length rs → AreSources ts rs ss → ForSome (slice_get ss place) (λ s. IsViewOf s.name r.agent.view)
name_at (t ∷ ts) (q ∷ rs) (s ∷ ss) zero r is lt are = λ x e. subst (λ (y : SourceTold). IsViewOf y.name r.agent.view) (sym (one_of s x e)) (subst (λ (p : Remote). IsViewOf s.name p.agent.view) (sym is) are.0.view)
name_at (t ∷ ts) (q ∷ rs) (s ∷ ss) (suc place) r is lt are = name_at ts rs ss place r is (omega (arith, lt)) are.1
name_at ts [] ss place r is lt are = absurd (omega (arith, lt))
name_at [] (q ∷ rs) ss place r is lt are = absurd are
name_at (t ∷ ts) (q ∷ rs) [] place r is lt are = absurd are

-- the agent views it in its own store
pub own_view : (number : ℕ) (rs : List Remote) (sighting : Sighting) (place : ℕ) (r : Remote) → r ≡ get_or rs place r → place < length rs → HasTables number rs sighting → IsViewOf (viewed r.agent.view).source.cluster r.agent.view
own_view number rs sighting place r is lt has =
    let ss = (told sighting.tables).sources in
    let many = sources_many sighting.told.items rs ss has.sources in
    some_there place ss (omega (arith, lt, many.1)) (λ s e. let view = name_at sighting.told.items rs ss place r is lt has.sources s e in view ∙ ap (λ (v : viewed.Source). record { cluster = v.cluster; hop = State; limit = Small }) (sym view))

-- once it is forgotten, nothing is told of it
pub nothing_at : (number : ℕ) (rs : List Remote) (sighting : Sighting) (place : ℕ) (r : Remote) (mid : Told) → mid ≡ with_nothing place (told sighting.tables) → r ≡ get_or rs place r → place < length rs → HasTables number rs sighting
    → ForSome (slice_get mid.sources place) (λ s. s ≡ nothing_told (viewed r.agent.view).source.cluster)
nothing_at number rs sighting place r mid mid_is is lt has =
    subst (λ (t : Told). ForSome (slice_get t.sources place) (λ s. s ≡ nothing_told (viewed r.agent.view).source.cluster)) (sym mid_is)
    (changed-there (λ (s : SourceTold). nothing_told s.name) place (told sighting.tables).sources (λ s. IsViewOf s.name r.agent.view) (λ s. s ≡ nothing_told (viewed r.agent.view).source.cluster)
    (name_at sighting.told.items rs (told sighting.tables).sources place r is lt has.sources) (λ s view. ap (λ (v : viewed.Source). nothing_told v.cluster) (sym view)))

-- as many sources are left
pub still_there : (number : ℕ) (rs : List Remote) (sighting : Sighting) (place : ℕ) (mid : Told) → mid ≡ with_nothing place (told sighting.tables) → place < length rs → HasTables number rs sighting → place < length mid.sources
still_there number rs sighting place mid mid_is lt has =
    subst (λ (t : Told). place < length t.sources) (sym mid_is)
    (omega (arith, lt, (sources_many sighting.told.items rs (told sighting.tables).sources has.sources).1, length-changed (λ (s : SourceTold). nothing_told s.name) place (told sighting.tables).sources))

told_sources : (ts : List Bool) (rs : List Remote) (ss : List SourceTold) (place : ℕ) (r : Remote) (source : SourceTold) → r ≡ get_or rs place r → place < length rs → IsToldOf r.agent.view source → source.name ≡ (viewed r.agent.view).source.cluster
    → AreSources ts rs ss → AreSources (set ts place true) rs (changed_at (λ (s : SourceTold). source) place ss)
told_sources (t ∷ ts) (q ∷ rs) (s ∷ ss) zero r source is lt told named are =
    let view : IsViewOf s.name r.agent.view = subst (λ (p : Remote). IsViewOf s.name p.agent.view) (sym is) are.0.view in
    let name : source.name ≡ s.name = named ∙ ap (λ (v : viewed.Source). v.cluster) view in
    (subst (λ (p : Remote). IsSource true p.agent.view source) is (record { view = subst (λ (n : List ℕ). IsViewOf n r.agent.view) (sym name) view; told = λ e. told }), are.1)
told_sources (t ∷ ts) (q ∷ rs) (s ∷ ss) (suc place) r source is lt told named are = (are.0, told_sources ts rs ss place r source is (omega (arith, lt)) told named are.1)
told_sources ts [] ss place r source is lt told named are = absurd (omega (arith, lt))
told_sources [] (q ∷ rs) ss place r source is lt told named are = absurd are
told_sources (t ∷ ts) (q ∷ rs) [] place r source is lt told named are = absurd are

pub tables_told : (number : ℕ) (rs : List Remote) (old new : Sighting) (place : ℕ) (r : Remote) (mid : Told) → mid ≡ with_nothing place (told old.tables) → TellsSource place r.agent.view mid (told new.tables) → new.told.items ≡ set old.told.items place true
    → r ≡ get_or rs place r → place < length rs → HasTables number rs old → HasTables number rs new
tables_told number rs old new place r mid mid_is tells marks is lt has =
    let all : told new.tables ≡ record (told old.tables) { sources = changed_at (λ (s : SourceTold). tells.source) place (told old.tables).sources } =
    tells.told ∙ ap (λ (t : Told). record t { sources = changed_at (λ (s : SourceTold). tells.source) place t.sources }) mid_is
    ∙ ap (λ (ss : List SourceTold). record (told old.tables) { sources = ss }) (changed-twice (λ (s : SourceTold). nothing_told s.name) (λ (s : SourceTold). tells.source) (λ (s : SourceTold). tells.source) place (told old.tables).sources (λ s e. refl)) in
    record {
      number_is = ap (λ (t : Told). t.number) all ∙ has.number_is;
      limit = ap (λ (t : Told). t.limit) all ∙ has.limit;
      sources = subst (λ (t : Told). AreSources new.told.items rs t.sources) (sym all)
          (subst (λ (ts : List Bool). AreSources ts rs (changed_at (λ (s : SourceTold). tells.source) place (told old.tables).sources)) (sym marks)
          (told_sources old.told.items rs (told old.tables).sources place r tells.source is lt tells.is tells.named has.sources));
    }

-- a remote that is marked is marked again
pub marked_again : (ts : List Bool) (place : ℕ) (d t : Bool) → t ≡ get_or ts place d → t ≡ true → ts ≡ set ts place true
marked_again ts place d t is e = sym (ap (set ts place) (sym e ∙ is) ∙ set-get_or ts place d)

-- ---- all remotes are told
pub marked_more : (n : ℕ) (ts : List Bool) → n < length ts → AreMarked n ts → AreMarked (suc n) (set ts n true)
marked_more n [] lt marked = absurd (omega (arith, lt))
marked_more zero (t ∷ ts) lt marked = (refl, tt)
marked_more (suc n) (t ∷ ts) lt marked = (marked.0, marked_more n ts (omega (arith, lt)) marked.1)

sets_sighted : (ts : List Bool) (rs : List Remote) (ss : List SourceTold) (stores : List Contents) (ws : List world.Remote) → AreMarked (length rs) ts → AreSources ts rs ss → AreShown stores ws rs
    → map set_told ss ≡ of_each sighted_set stores ws
sets_sighted [] [] [] stores [] marked are shown = refl
sets_sighted (t ∷ ts) (r ∷ rs) (s ∷ ss) (c ∷ stores) (w ∷ ws) marked are shown = λ i. are.0.told marked.0 w.exporter.cluster c.history w.reader shown.0.agent.source (record { within = shown.0.agent.follows.formed.0; entries = shown.0.agent.follows.sighted.entries }) i ∷ sets_sighted ts rs ss stores ws marked.1 are.1 shown.1 i
sets_sighted [] [] (s ∷ ss) stores ws marked are shown = absurd are
sets_sighted [] (r ∷ rs) ss stores ws marked are shown = absurd are
sets_sighted (t ∷ ts) [] ss stores ws marked are shown = absurd are
sets_sighted (t ∷ ts) (r ∷ rs) [] stores ws marked are shown = absurd are
sets_sighted [] [] [] [] (w ∷ ws) marked are shown = absurd shown
sets_sighted [] [] [] (c ∷ stores) (w ∷ ws) marked are shown = absurd shown
sets_sighted (t ∷ ts) (r ∷ rs) (s ∷ ss) [] [] marked are shown = absurd shown
sets_sighted (t ∷ ts) (r ∷ rs) (s ∷ ss) [] (w ∷ ws) marked are shown = absurd shown
sets_sighted (t ∷ ts) (r ∷ rs) (s ∷ ss) (c ∷ stores) [] marked are shown = absurd shown

-- what they report then
pub merge_sighted : (number : ℕ) (rs : List Remote) (sighting : Sighting) (stores : List Contents) (ws : List world.Remote) (report : Report) → IsMerge (told sighting.tables).limit (told sighting.tables).number (sets (told sighting.tables)) report
    → AreMarked (length rs) sighting.told.items → HasTables number rs sighting → AreShown stores ws rs → IsMerge Small number (of_each sighted_set stores ws) report
merge_sighted number rs sighting stores ws report is marked has shown =
    merge_as (told sighting.tables).limit (told sighting.tables).number number (sets (told sighting.tables)) (of_each sighted_set stores ws) report is has.limit has.number_is
    (sets_sighted sighting.told.items rs (told sighting.tables).sources stores ws marked has.sources shown)
