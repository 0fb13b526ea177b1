-- What the agent keeps of a record of spans, and what a turn makes of it.
use Rattle.std.specs.Prelude.{◌≡◌, ℕ, List}
use Rattle.key_paths.specs.declared.hop.Hop.TheVariants.{State}
use Rattle.key_paths.specs.Paths.{ranges_of}
use Rattle.record_check.specs.declared.limit.Limit.TheVariants.{Small}
use Rattle.reflector.specs.Reader.{Stands}
use Rattle.reflector.specs.Talks.{turn_talk}
use Rattle.relist_merge.specs.Sight.{viewed}
use Rattle.relist_merge.specs.View.{Follows}
use Rattle.store_api.specs.History.{History, revision}
use Rattle.store_api.specs.Spans.{AreSpans, Record}
use Rattle.mesh_world.specs.Sources.{state_of}
use Rattle.mesh_world.specs.Ways.{Held, Way}
use Rattle.mesh_remote.specs.declared.agent.Agent.{Agent}

-- the agent's reader and view of the cluster stand where this record of the history ends
pub record IsRead (cluster : List ℕ) (history : History) (r : Record) (a : Agent) : Type 0 where
  pub ranges : a.reader.ranges ≡ ranges_of cluster State
  pub stands : Stands a.reader r
  pub spans : AreSpans (revision history) r.spans
  pub source : (viewed a.view).source ≡ record { cluster = cluster; hop = State; limit = Small }
  pub follows : Follows (state_of cluster) history r (viewed a.view).shown

-- the turn of this record was held over the link, and the agent stands where the record is that came of
-- it
pub record Turned (most : ℕ) (cluster : List ℕ) (r : Record) (a : Agent) (old new : Way) : Type 0 where
  pub came : Record
  pub held : Held (turn_talk most r) old new came
  pub reads : IsRead cluster new.1.contents.history came a

-- so it is from each record that the agent stood for
abbrev pub Turns : ℕ → Agent → Agent → Way → Way → Type 0
Turns most a a' old new = (cluster : List ℕ) (r : Record) → IsRead cluster old.1.contents.history r a → Turned most cluster r a' old new
