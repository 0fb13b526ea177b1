-- Runs of scenarios over stores, and what holds of each.
use Rattle.std.specs.Prelude.{◌≡◌, ℕ, ◌-◌, ◌^◌, ◌<◌, List, map, true}
use Rattle.relist_merge.specs.Records.{IsRecord}
use Rattle.store_api.specs.Advance.{turned}
use Rattle.store_api.specs.Contents.{Contents}
use Rattle.store_api.specs.Followed.{Followed, in_at}
use Rattle.store_api.specs.History.{History, revision}
use Rattle.store_api.specs.Meaning.{Meaning}
use Rattle.store_api.specs.Spans.{Record, cursor_of, is_caught_up}
use Rattle.scenario_lang.specs.Lines.{Said}
use Rattle.mesh_world.specs.Actions.{act_all}
use Rattle.mesh_world.specs.Goes.{Leads, faults_at}
use Rattle.mesh_world.specs.World.{first_world}

abbrev pub contents_of : List Meaning → List Contents
contents_of stores = map (λ (m : Meaning). m.contents) stores

-- The text is that of the world that the scenario leads to from the stores' first contents, by outcomes of
-- the calls on the stores, all of them used; the stores have that world's contents, and the calls tally.
abbrev pub Reports : Said → List Meaning → List Meaning → List ℕ → Type 0
Reports said before after text = Leads (act_all said.actions) (first_world said (contents_of before)) before after (λ w. w.text ≡ text)

-- no store's count of faults rose
abbrev pub NoneFailed : List Meaning → List Meaning → Type 0
NoneFailed before after = (i : ℕ) → faults_at after i ≡ faults_at before i

-- a turn without a limit, which was not refused, of a reader with a record of this history
pub record EndsWhole (f : Followed) (history : History) (next : Record) : Type 0 where
  pub cursor : cursor_of next.spans ≡ revision history
  pub caught_up : f.synced (in_at f history (revision history)) ≡ true → is_caught_up f history next ≡ true

-- such a turn ends at the history's revision, where that has a number, and is caught up there where the
-- source is synced at it
abbrev pub TurnsEndWhole : Type 0
TurnsEndWhole = (f : Followed) (history : History) (compacted : ℕ) (r : Record)
    → IsRecord history r → revision history < 2 ^ 64
    → (turned (2 ^ 64 - 1) (revision history) compacted r).is_open ≡ true
    → EndsWhole f history (turned (2 ^ 64 - 1) (revision history) compacted r)
