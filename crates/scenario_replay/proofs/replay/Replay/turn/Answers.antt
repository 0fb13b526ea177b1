use Rattle.std.proofs.Common.{Ok, ap, ◌<◌, ◌≤◌, ℕ, List, length, refl, subst, sym, arith}
use Rattle.std.proofs.lemmas.List.{length-set}
use Rattle.std.specs.Vec.{with_item}
use Rattle.reflector.specs.Talks.{turn_talk}
use Rattle.scenario_lang.specs.declared.scenario.LinkName.TheVariants as link
use Rattle.shared_tables.specs.Told.{told}
use Rattle.scenario_replay.specs.Rows.{HasTables}
use Rattle.mesh_world.specs.World.{with_reader}
use Rattle.mesh_remote.specs.declared.remote.Remote.{Remote}
use Rattle.scenario_replay.proofs.Spoken.{makes_spoken}
use Rattle.scenario_replay.proofs.Sightings.{changed_tables, same_tables, sources_many}
use Rattle.scenario_replay.proofs.Worlds.{shown_some}
use Rattle.scenario_replay.proofs.replay.Replay.turn.Goals as goal

pub forget-requires : goal.forget-requires
forget-requires g c = omega (arith, c.requires.remote, (sources_many c.args.self.now.sighting.told.items c.args.self.now.remotes.items (told c.args.self.now.sighting.tables).sources c.requires.told.sources).0)

pub turn-requires-clause-shown : goal.turn-requires-clause-shown
turn-requires-clause-shown g c =
    shown_some g.S.Store.meaning c.args.stores.now c.args.self.now c.args.remote c.index-stores-remote.result c.index_mut.result.now c.requires.remote c.index_mut.ensures.value c.requires.world

pub tell-requires-clause-few : goal.tell-requires-clause-few
tell-requires-clause-few g c =
    subst (λ (rs : List Remote). length rs ≤ 255) (sym c.as_slice.ensures.value)
    (subst (λ (n : ℕ). n ≤ 255) (sym (length-set c.args.self.now.remotes.items c.args.remote c.turn.new.self)) c.requires.world.1.few)

pub tell-requires-clause-place : goal.tell-requires-clause-place
tell-requires-clause-place g c =
    subst (λ (rs : List Remote). c.args.remote < length rs) (sym c.as_slice.ensures.value)
    (subst (λ (n : ℕ). c.args.remote < n) (sym (length-set c.args.self.now.remotes.items c.args.remote c.turn.new.self)) c.requires.remote)

pub tell-requires-clause-tables : goal.tell-requires-clause-tables
tell-requires-clause-tables g c = (
  c.args.self.now.number,
  subst (λ (rs : List Remote). HasTables c.args.self.now.number rs c.forget.new.self) (sym c.as_slice.ensures.value)
      (changed_tables c.args.self.now.number c.args.self.now.remotes.items c.args.self.now.sighting c.forget.new.self c.args.remote c.index_mut.result.now c.turn.new.self c.forget.ensures.tables c.forget.ensures.told c.index_mut.ensures.value c.turn.ensures.source c.requires.told),
)

pub returns-in_ok-tell-clause-done : goal.returns-in_ok-tell-clause-done
returns-in_ok-tell-clause-done g c =
    makes_spoken g.S.Store.meaning c.args.stores.now c.args.remote c.index-stores-remote.result c.turn.new.store c.args.self.now
    (record c.args.self.now { remotes = with_item c.args.self.now.remotes c.args.remote c.turn.new.self; sighting = c.tell.new.self })
    c.index_mut.result.now c.turn.new.self c.requires.remote c.index_mut.ensures.value
    (record { local = refl; number = refl; remotes = refl; reports = refl; text = refl }) link.Agent (λ l r. refl) (λ r. turn_talk c.args.most r.reader) (λ read. with_reader (λ r. read)) c.in_ok-turn.ensures.speaks

pub returns-in_ok-tell-clause-told : goal.returns-in_ok-tell-clause-told
returns-in_ok-tell-clause-told g c =
    subst (λ (rs : List Remote). HasTables c.args.self.now.number rs c.tell.new.self) c.as_slice.ensures.value
    (c.in_ok-tell.ensures.tables c.args.self.now.number
    (subst (λ (rs : List Remote). HasTables c.args.self.now.number rs c.forget.new.self) (sym c.as_slice.ensures.value)
    (changed_tables c.args.self.now.number c.args.self.now.remotes.items c.args.self.now.sighting c.forget.new.self c.args.remote c.index_mut.result.now c.turn.new.self c.forget.ensures.tables c.forget.ensures.told c.index_mut.ensures.value c.turn.ensures.source c.requires.told)))

pub returns-else-lists-clause-done : goal.returns-else-lists-clause-done
returns-else-lists-clause-done g c =
    makes_spoken g.S.Store.meaning c.args.stores.now c.args.remote c.index-stores-remote.result c.turn.new.store c.args.self.now
    (record c.args.self.now { remotes = with_item c.args.self.now.remotes c.args.remote c.turn.new.self; sighting = c.forget.new.self })
    c.index_mut.result.now c.turn.new.self c.requires.remote c.index_mut.ensures.value
    (record { local = refl; number = refl; remotes = refl; reports = refl; text = refl }) link.Agent (λ l r. refl) (λ r. turn_talk c.args.most r.reader) (λ read. with_reader (λ r. read)) c.in_ok-turn.ensures.speaks

pub returns-else-lists-clause-told : goal.returns-else-lists-clause-told
returns-else-lists-clause-told g c =
    changed_tables c.args.self.now.number c.args.self.now.remotes.items c.args.self.now.sighting c.forget.new.self c.args.remote c.index_mut.result.now c.turn.new.self c.forget.ensures.tables c.forget.ensures.told c.index_mut.ensures.value c.turn.ensures.source c.requires.told

pub returns-then-not-branch-clause-done : goal.returns-then-not-branch-clause-done
returns-then-not-branch-clause-done g c =
    makes_spoken g.S.Store.meaning c.args.stores.now c.args.remote c.index-stores-remote.result c.turn.new.store c.args.self.now
    (record c.args.self.now { remotes = with_item c.args.self.now.remotes c.args.remote c.turn.new.self })
    c.index_mut.result.now c.turn.new.self c.requires.remote c.index_mut.ensures.value
    (record { local = refl; number = refl; remotes = refl; reports = refl; text = refl }) link.Agent (λ l r. refl) (λ r. turn_talk c.args.most r.reader) (λ read. with_reader (λ r. read)) c.in_ok-turn.ensures.speaks

pub returns-then-not-branch-clause-told : goal.returns-then-not-branch-clause-told
returns-then-not-branch-clause-told g c =
    same_tables c.args.self.now.number c.args.self.now.remotes.items c.args.self.now.sighting c.args.remote c.index_mut.result.now c.turn.new.self c.index_mut.ensures.value
    (record { source = c.turn.ensures.source; entries = c.in_ok-turn.ensures.nothing (ap Ok c.if-not-branch.true) }) c.requires.told
