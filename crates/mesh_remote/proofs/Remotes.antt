-- A remote of the program, and that of a world, after a call on its store.
use Rattle.std.proofs.Common.{◌≡◌, ℕ, ◌≤◌, List, Bool, true, false, not, refl, sym, ap, subst, ◌∙◌}
use Rattle.exporter.specs.State.{Export}
use Rattle.exporter.specs.Talks.{Came, ExportTalk}
use Rattle.flaky_link.specs.Link.{Link}
use Rattle.reflector.specs.Talks.{turn_talk}
use Rattle.relist_merge.specs.Sight.{viewed}
use Rattle.relist_merge.proofs.CallerLemmas.{follows_later}
use Rattle.store_api.proofs.CallerLemmas.{later-revision, later_spans}
use Rattle.store_api.proofs.Calls.{talked_keeps}
use Rattle.store_api.specs.History.{Begins, History, revision}
use Rattle.store_api.specs.Meaning.{Meaning}
use Rattle.store_api.specs.Spans.{Record}
use Rattle.scenario_lang.specs.declared.scenario.LinkName.TheVariants as link
use Rattle.mesh_world.specs.Actions.{came_to}
use Rattle.mesh_remote.specs.Reads.{IsRead, Turns}
use Rattle.mesh_remote.specs.Shown.{IsShown, Spoke}
use Rattle.mesh_world.specs.Sources.{state_of}
use Rattle.mesh_world.specs.Ways.{CameTo, CrossedWay, Held, Way, meaning_of}
use Rattle.mesh_world.specs.World as world
use Rattle.mesh_remote.specs.declared.agent.Agent.{Agent}
use Rattle.mesh_remote.specs.declared.remote.Remote.{Remote}
use Rattle.mesh_remote.proofs.Readers.{cursor_within}
use Rattle.mesh_remote.proofs.Ways.{IsOfSame}

-- what was read is read of every later history
pub read_later : (cluster : List ℕ) (h later : History) (r : Record) (a : Agent) → Begins h later → IsRead cluster h r a → IsRead cluster later r a
read_later cluster h later r a begins is = record {
  ranges = is.ranges;
  stands = is.stands;
  spans = later_spans (revision h) (revision later) r.spans (later-revision h later begins) is.spans;
  source = is.source;
  follows = follows_later (state_of cluster) h later begins r (viewed a.view).shown is.follows;
}

-- a reader that does not wait is not ahead of its store
pub there_for : (cluster : List ℕ) (h : History) (r : Record) (a : Agent) → IsRead cluster h r a → a.reader.is_waiting ≡ false → a.reader.cursor ≤ revision h
there_for cluster h r a is runs = rw (is.stands.cursor (opens r.is_open (sym is.stands.waits ∙ runs))) (cursor_within (revision h) r.spans is.follows.formed.0)
  where
    opens : (b : Bool) → not b ≡ false → b ≡ true
    opens true e = refl
    opens false e = cc

module _ (before after : Meaning) (w : world.Remote) (old new : Remote) (shown : IsShown before.contents.history w old) where
  -- the exporter and its link alone were changed
  pub shown_exporter : (e : Export) (left : Link) → Begins before.contents.history after.contents.history → IsOfSame w.exporter e → new.exporter ≡ e → new.to_exporter ≡ left → new.number ≡ old.number → new.to_agent ≡ old.to_agent → new.agent ≡ old.agent
      → IsShown after.contents.history (record w { exporter = e; to_exporter = left }) new
  shown_exporter e left begins same exporter to_exporter number to_agent agent = record {
    exporter = exporter;
    number = number ∙ shown.number ∙ sym same.number;
    to_exporter = to_exporter;
    to_agent = to_agent ∙ shown.to_agent;
    agent = subst (λ (cluster : List ℕ). IsRead cluster after.contents.history w.reader new.agent) (sym same.cluster)
        (subst (λ (a : Agent). IsRead w.exporter.cluster after.contents.history w.reader a) (sym agent) (read_later w.exporter.cluster before.contents.history after.contents.history w.reader old.agent begins shown.agent));
  }

  -- a talk through the exporter's link
  pub spoke_exporter : (talk : Export → ExportTalk) → ((s : Export) (came : Came) (first last : Way) → Held (talk s) first last came → IsOfSame s came.exporter)
      → CameTo (talk old.exporter) new.exporter (old.to_exporter, before) (new.to_exporter, after) → new.number ≡ old.number → new.to_agent ≡ old.to_agent → new.agent ≡ old.agent
      → Spoke link.Exporter (λ v. talk v.exporter) came_to w new before after
  spoke_exporter talk same came_to_it number to_agent agent =
      let came : Came = record { exporter = new.exporter; fault = came_to_it.fault } in
      let first : Way = (w.to_exporter, before) in
      let last : Way = (new.to_exporter, after) in
      let held : Held (talk w.exporter) first last came =
      subst (λ (s : Export). Held (talk s) first last came) shown.exporter (subst (λ (l : Link). Held (talk old.exporter) (l, before) last came) shown.to_exporter came_to_it.held) in
      let kept = same w.exporter came first last held in
      record {
        left = new.to_exporter;
        came = came;
        held = held;
        name = kept.cluster;
        shown = shown_exporter new.exporter new.to_exporter (talked_keeps meaning_of CrossedWay (talk w.exporter) first last came held).history kept refl refl number to_agent agent;
      }

  -- a turn through the agent's link
  pub spoke_agent : (most : ℕ) → Turns most old.agent new.agent (old.to_agent, before) (new.to_agent, after) → new.exporter ≡ old.exporter → new.number ≡ old.number → new.to_exporter ≡ old.to_exporter
      → Spoke link.Agent (λ v. turn_talk most v.reader) (λ read. world.with_reader (λ r. read)) w new before after
  spoke_agent most turns exporter number to_exporter =
      let turned = turns w.exporter.cluster w.reader shown.agent in
      record {
        left = new.to_agent;
        came = turned.came;
        held = subst (λ (l : Link). Held (turn_talk most w.reader) (l, before) (new.to_agent, after) turned.came) shown.to_agent turned.held;
        name = ap (λ (s : Export). s.cluster) (exporter ∙ shown.exporter);
        shown = record {
          exporter = exporter ∙ shown.exporter;
          number = number ∙ shown.number;
          to_exporter = to_exporter ∙ shown.to_exporter;
          to_agent = refl;
          agent = turned.reads;
        };
      }
