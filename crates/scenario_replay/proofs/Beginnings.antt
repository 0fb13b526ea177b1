-- The beginning of a scenario.
use Rattle.std.proofs.Common.{◌≡◌, ℕ, suc, ◌≤◌, List, [], ◌∷◌, ◌++◌, length, map, drop, Option, None, Some, refl, ap, sym, ◌∙◌, subst, arith, IfSome}
use Rattle.std.specs.List.{All, AllByRecursion, IsDistinct}
use Rattle.std.proofs.lemmas.List.{length-drop, length-map}
use Rattle.mesh_base.specs.Order.{same_bytes}
use Rattle.exporter.specs.State.{Export}
use Rattle.key_paths.specs.declared.hop.Hop.TheVariants.{State}
use Rattle.record_check.specs.declared.limit.Limit.TheVariants.{Small}
use Rattle.scenario_lang.specs.Lines.{Said}
use Rattle.scenario_lang.specs.Valid.{IsToBillion, IsValid}
use Rattle.scenario_lang.specs.declared.kinds.Mode.TheVariants as mode
use Rattle.scenario_lang.specs.declared.scenario.Remote as said
use Rattle.store_api.specs.Contents.{Contents}
use Rattle.store_api.specs.History.{History}
use Rattle.store_api.specs.Meaning.{Meaning}
use Rattle.mesh_world.specs.Goes.{IsOpen}
use Rattle.mesh_world.specs.Runs.{contents_of}
use Rattle.mesh_remote.specs.Shown.{IsOwnView}
use Rattle.mesh_remote.specs.Shown.{IsShown}
use Rattle.scenario_replay.specs.Shown.{AreNew, AreShown, HasWorld}
use Rattle.mesh_world.specs.World.{first_world, new_remote, seconds_by, seconds_of}
use Rattle.mesh_remote.specs.declared.remote.Remote.{Remote}
use Rattle.scenario_replay.specs.declared.replay.Replay.{Replay}
use Rattle.scenario_replay.proofs.Changes.{cluster_of}

some_by : (lease : Option ℕ) → IfSome lease IsToBillion → 1 ≤ seconds_by lease
some_by None h = omega arith
some_by (Some seconds) h = h.0

pub some_seconds : (scenario : Said) → IsValid mode.Step scenario → 1 ≤ seconds_of scenario
some_seconds scenario valid = some_by scenario.lease valid.lease

pub new_many : (seconds : ℕ) (ss : List said.Remote) (rs : List Remote) → AreNew seconds ss rs → length rs ≡ length ss
new_many seconds [] [] new = refl
new_many seconds (s ∷ ss) (r ∷ rs) new = ap suc (new_many seconds ss rs new.1)
new_many seconds [] (r ∷ rs) new = absurd new
new_many seconds (s ∷ ss) [] new = absurd new

name_of : said.Remote → List ℕ
name_of r = r.name

new_names : (seconds : ℕ) (ss : List said.Remote) (rs : List Remote) → AreNew seconds ss rs → map cluster_of rs ≡ map (λ (r : said.Remote). r.name) ss
new_names seconds [] [] new = refl
new_names seconds (s ∷ ss) (r ∷ rs) new =
    ap (λ (x : List ℕ). x ∷ map cluster_of rs) (ap (λ (e : Export). e.cluster) (new.0 []).exporter) ∙ ap (λ (xs : List (List ℕ)). s.name ∷ xs) (new_names seconds ss rs new.1)
new_names seconds [] (r ∷ rs) new = absurd new
new_names seconds (s ∷ ss) [] new = absurd new

new_shown : (seconds : ℕ) (cs : List Contents) (ss : List said.Remote) (rs : List Remote) → length ss ≤ length cs → AreNew seconds ss rs → AreShown cs (map (λ (r : said.Remote). new_remote r.name r.number seconds) ss) rs
new_shown seconds cs [] [] le new = tt
new_shown seconds (c ∷ cs) (s ∷ ss) (r ∷ rs) le new = (new.0 c.history, new_shown seconds cs ss rs (omega (arith, le)) new.1)
new_shown seconds [] (s ∷ ss) (r ∷ rs) le new = absurd (omega (arith, le))
new_shown seconds cs [] (r ∷ rs) le new = absurd new
new_shown seconds cs (s ∷ ss) [] le new = absurd new

-- the agent views each in its own store
pub new_own : (seconds : ℕ) (ss : List said.Remote) (rs : List Remote) → AreNew seconds ss rs → AllByRecursion IsOwnView rs
new_own seconds [] [] new = tt
new_own seconds (s ∷ ss) (r ∷ rs) new =
    let shown = new.0 [] in
    (shown.agent.source ∙ ap (λ (e : Export). record { cluster = e.cluster; hop = State; limit = Small }) (sym shown.exporter), new_own seconds ss rs new.1)
new_own seconds [] (r ∷ rs) new = absurd new
new_own seconds (s ∷ ss) [] new = absurd new

-- no two have one name, and none has the local cluster's
pub new_apart : (scenario : Said) (local : List ℕ) (seconds : ℕ) (rs : List Remote) → IsValid mode.Step scenario → AreNew seconds scenario.remotes rs → local ≡ scenario.local.name → IsDistinct same_bytes (local ∷ map cluster_of rs)
new_apart scenario local seconds rs valid new same =
    subst (λ (x : List ℕ). IsDistinct same_bytes (x ∷ map cluster_of rs)) (sym same)
    (subst (λ (xs : List (List ℕ)). IsDistinct same_bytes (scenario.local.name ∷ xs)) (sym (new_names seconds scenario.remotes rs new)) valid.apart)

-- one remote more
pub new_push : (seconds : ℕ) (ss : List said.Remote) (rs : List Remote) (s : said.Remote) (r : Remote) → AreNew seconds ss rs → ((history : History) → IsShown history (new_remote s.name s.number seconds) r) → AreNew seconds (ss ++ s ∷ []) (rs ++ r ∷ [])
new_push seconds [] [] s r new one = (one, tt)
new_push seconds (x ∷ ss) (y ∷ rs) s r new one = (new.0, new_push seconds ss rs s r new.1 one)
new_push seconds [] (y ∷ rs) s r new one = absurd new
new_push seconds (x ∷ ss) [] s r new one = absurd new

-- nobody has written or read anything
pub has_first : (scenario : Said) (replay : Replay) (stores : List Meaning) → IsValid mode.Step scenario → AreNew (seconds_of scenario) scenario.remotes replay.remotes.items
    → replay.local ≡ scenario.local.name → replay.number ≡ scenario.local.number → replay.reports ≡ 0 → replay.text ≡ []
    → length stores ≡ 256 → All IsOpen stores → HasWorld (first_world scenario (contents_of stores)) replay stores
has_first scenario replay stores valid new local number reports text many opens =
    let all : length (contents_of stores) ≡ 256 = length-map stores (λ (m : Meaning). m.contents) ∙ many in
    record {
      many = many;
      opens = opens;
      few = omega (arith, valid.few, new_many (seconds_of scenario) scenario.remotes replay.remotes.items new);
      apart = new_apart scenario replay.local (seconds_of scenario) replay.remotes.items valid new local;
      local = number;
      contents = refl;
      shown = new_shown (seconds_of scenario) (drop 1 (contents_of stores)) scenario.remotes replay.remotes.items (omega (arith, valid.few, all, length-drop 1 (contents_of stores))) new;
      reports = reports;
      text = text;
    }
