use Rattle.std.proofs.Common.{ap, ◌≡◌, List, refl, subst, sym, true}
use Rattle.indexmap.proofs.MapLemmas.{OnOk-map}
use Rattle.exporter.specs.State.{after_stop}
use Rattle.mesh_text.specs.declared.ip.Ip.{Ip}
use Rattle.key_paths.specs.Keys.{key_bytes}
use Rattle.mesh_records.specs.Written.{text_of}
use Rattle.scenario_lang.specs.declared.scenario.Action.{Action}
use Rattle.scenario_lang.specs.declared.scenario.Action.TheVariants as action
use Rattle.scenario_lang.specs.Valid.{IsActionOf}
use Rattle.mesh_world.specs.Actions.{act, is_change, when_of, with_failure, with_way}
use Rattle.mesh_world.specs.Records.{address_key, address_of, declaring, declaring_node, identity_key, identity_of, node_key_of, node_record, withdrawing, withdrawn_key}
use Rattle.mesh_remote.specs.Shown.{Changes}
use Rattle.scenario_replay.specs.Shown.{MakesPlainly}
use Rattle.mesh_world.specs.World.{with_exporter, with_link}
use Rattle.mesh_world.specs.World as world
use Rattle.scenario_replay.specs.declared.replay.Replay.{Replay}
use Rattle.scenario_replay.proofs.Changes.{changed, declare_keeps, link_keeps, with_remote, withdraw_keeps}
use Rattle.mesh_remote.specs.declared.agent.Agent.{Agent}
use Rattle.scenario_replay.proofs.Sightings.{kept_tables}
use Rattle.scenario_replay.proofs.replay.Replay.change.Goals as goal

-- what an action does that is this one
as_is : (a b : Action) (old new : Replay) → a ≡ b → MakesPlainly (act b) old new → is_change a ≡ true → MakesPlainly (act a) old new
as_is a b old new is makes change = subst (λ (x : Action). MakesPlainly (act x) old new) (sym is) makes

pub returns-in-Node-clause-done : goal.returns-in-Node-clause-done
returns-in-Node-clause-done c =
    let a = action.Node c.in-Node.remote c.in-Node.name c.in-Node.addresses in
    let f : world.Remote → world.Remote = with_exporter (declaring_node c.in-Node.name c.in-Node.addresses) in
    let old = c.args.self.now in
    let new = with_remote old c.in-Node.remote c.declare_node.new.self in
    let lt = subst (IsActionOf _) c.in-Node.is c.requires.action in
    OnOk-map c.declare_node.result _ _
    (λ (so : Changes (with_exporter (declaring_node c.in-Node.name c.as_slice.result.now)) c.index_mut.result.now c.declare_node.new.self).
    as_is c.args.action.now a old new c.in-Node.is
    (changed (act a) c.in-Node.remote f old c.index_mut.result.now c.declare_node.new.self (λ w more. refl) (λ w. declare_keeps (key_bytes (node_key_of w.exporter.cluster c.in-Node.name)) (text_of (node_record w.exporter.cluster w.exporter.number c.in-Node.name c.in-Node.addresses)) w.exporter) lt c.index_mut.ensures.value
    (subst (λ (ips : List Ip). Changes (with_exporter (declaring_node c.in-Node.name ips)) c.index_mut.result.now c.declare_node.new.self) c.as_slice.ensures so)))
    c.declare_node.ensures.changes

pub returns-in-Identity-clause-done : goal.returns-in-Identity-clause-done
returns-in-Identity-clause-done c =
    let a = action.Identity c.in-Identity.remote c.in-Identity.identity c.in-Identity.labels in
    let f : world.Remote → world.Remote = with_exporter (declaring (identity_key c.in-Identity.identity) (identity_of c.in-Identity.labels)) in
    let old = c.args.self.now in
    let new = with_remote old c.in-Identity.remote c.declare_identity.new.self in
    let lt = subst (IsActionOf _) c.in-Identity.is c.requires.action in
    OnOk-map c.declare_identity.result _ _
    (λ (so : Changes f c.index_mut-in-Identity.result.now c.declare_identity.new.self).
    as_is c.args.action.now a old new c.in-Identity.is
    (changed (act a) c.in-Identity.remote f old c.index_mut-in-Identity.result.now c.declare_identity.new.self (λ w more. refl) (λ w. declare_keeps (key_bytes (identity_key c.in-Identity.identity)) (text_of (identity_of c.in-Identity.labels)) w.exporter) lt c.index_mut-in-Identity.ensures.value so))
    c.declare_identity.ensures.changes

pub returns-in-Address-clause-done : goal.returns-in-Address-clause-done
returns-in-Address-clause-done c =
    let a = action.Address c.in-Address.remote c.in-Address.ip c.in-Address.identity c.in-Address.host c.in-Address.pod in
    let f : world.Remote → world.Remote = with_exporter (declaring (address_key c.in-Address.ip) (address_of c.in-Address.ip c.in-Address.identity c.in-Address.host c.in-Address.pod)) in
    let old = c.args.self.now in
    let new = with_remote old c.in-Address.remote c.declare_address.new.self in
    let lt = subst (IsActionOf _) c.in-Address.is c.requires.action in
    OnOk-map c.declare_address.result _ _
    (λ (so : Changes f c.index_mut-in-Address.result.now c.declare_address.new.self).
    as_is c.args.action.now a old new c.in-Address.is
    (changed (act a) c.in-Address.remote f old c.index_mut-in-Address.result.now c.declare_address.new.self (λ w more. refl) (λ w. declare_keeps (key_bytes (address_key c.in-Address.ip)) (text_of (address_of c.in-Address.ip c.in-Address.identity c.in-Address.host c.in-Address.pod)) w.exporter) lt c.index_mut-in-Address.ensures.value so))
    c.declare_address.ensures.changes

pub returns-in-Withdraw-clause-done : goal.returns-in-Withdraw-clause-done
returns-in-Withdraw-clause-done c =
    let a = action.Withdraw c.in-Withdraw.remote c.in-Withdraw.record in
    let f : world.Remote → world.Remote = with_exporter (withdrawing c.in-Withdraw.record) in
    let old = c.args.self.now in
    let new = with_remote old c.in-Withdraw.remote c.withdraw.new.self in
    let lt = subst (IsActionOf _) c.in-Withdraw.is c.requires.action in
    OnOk-map c.withdraw.result _ _
    (λ (so : Changes f c.index_mut-in-Withdraw.result.now c.withdraw.new.self).
    as_is c.args.action.now a old new c.in-Withdraw.is
    (changed (act a) c.in-Withdraw.remote f old c.index_mut-in-Withdraw.result.now c.withdraw.new.self (λ w more. refl) (λ w. withdraw_keeps (key_bytes (withdrawn_key w.exporter.cluster c.in-Withdraw.record)) w.exporter) lt c.index_mut-in-Withdraw.ensures.value so))
    c.withdraw.ensures.changes

pub returns-in-Stop-clause-done : goal.returns-in-Stop-clause-done
returns-in-Stop-clause-done c =
    let a = action.Stop c.in-Stop.remote in
    let f : world.Remote → world.Remote = with_exporter after_stop in
    let old = c.args.self.now in
    let new = with_remote old c.in-Stop.remote c.stop.new.self in
    let lt = subst (IsActionOf _) c.in-Stop.is c.requires.action in
    as_is c.args.action.now a old new c.in-Stop.is
    (changed (act a) c.in-Stop.remote f old c.index_mut-in-Stop.result.now c.stop.new.self (λ w more. refl) (λ w. refl) lt c.index_mut-in-Stop.ensures.value c.stop.ensures.changes)

pub returns-in-Link-clause-done : goal.returns-in-Link-clause-done
returns-in-Link-clause-done c =
    let a = action.Link c.in-Link.remote c.in-Link.link c.in-Link.up in
    let f : world.Remote → world.Remote = with_link c.in-Link.link (with_way c.in-Link.up) in
    let old = c.args.self.now in
    let new = with_remote old c.in-Link.remote c.set_link.new.self in
    let lt = subst (IsActionOf _) c.in-Link.is c.requires.action in
    as_is c.args.action.now a old new c.in-Link.is
    (changed (act a) c.in-Link.remote f old c.index_mut-in-Link.result.now c.set_link.new.self (λ w more. refl) (link_keeps c.in-Link.link (with_way c.in-Link.up)) lt c.index_mut-in-Link.ensures.value c.set_link.ensures.changes)

pub returns-in-Fail-clause-done : goal.returns-in-Fail-clause-done
returns-in-Fail-clause-done c =
    let a = action.Fail c.in-Fail.remote c.in-Fail.link c.in-Fail.skip c.in-Fail.moment in
    let f : world.Remote → world.Remote = with_link c.in-Fail.link (with_failure c.in-Fail.skip (when_of c.in-Fail.moment)) in
    let old = c.args.self.now in
    let new = with_remote old c.in-Fail.remote c.fail.new.self in
    let lt = subst (IsActionOf _) c.in-Fail.is c.requires.action in
    OnOk-map c.fail.result _ _
    (λ (so : Changes f c.index_mut-in-Fail.result.now c.fail.new.self).
    as_is c.args.action.now a old new c.in-Fail.is
    (changed (act a) c.in-Fail.remote f old c.index_mut-in-Fail.result.now c.fail.new.self (λ w more. refl) (link_keeps c.in-Fail.link (with_failure c.in-Fail.skip (when_of c.in-Fail.moment))) lt.0 c.index_mut-in-Fail.ensures.value so))
    c.fail.ensures.changes

pub returns-in-Node-clause-told : goal.returns-in-Node-clause-told
returns-in-Node-clause-told c = kept_tables c.args.self.now.number c.args.self.now.remotes.items c.args.self.now.sighting c.in-Node.remote c.index_mut.result.now c.declare_node.new.self c.index_mut.ensures.value (ap (λ (a : Agent). a.view) c.declare_node.ensures.agent) c.requires.told

pub returns-in-Identity-clause-told : goal.returns-in-Identity-clause-told
returns-in-Identity-clause-told c = kept_tables c.args.self.now.number c.args.self.now.remotes.items c.args.self.now.sighting c.in-Identity.remote c.index_mut-in-Identity.result.now c.declare_identity.new.self c.index_mut-in-Identity.ensures.value (ap (λ (a : Agent). a.view) c.declare_identity.ensures.agent) c.requires.told

pub returns-in-Address-clause-told : goal.returns-in-Address-clause-told
returns-in-Address-clause-told c = kept_tables c.args.self.now.number c.args.self.now.remotes.items c.args.self.now.sighting c.in-Address.remote c.index_mut-in-Address.result.now c.declare_address.new.self c.index_mut-in-Address.ensures.value (ap (λ (a : Agent). a.view) c.declare_address.ensures.agent) c.requires.told

pub returns-in-Withdraw-clause-told : goal.returns-in-Withdraw-clause-told
returns-in-Withdraw-clause-told c = kept_tables c.args.self.now.number c.args.self.now.remotes.items c.args.self.now.sighting c.in-Withdraw.remote c.index_mut-in-Withdraw.result.now c.withdraw.new.self c.index_mut-in-Withdraw.ensures.value (ap (λ (a : Agent). a.view) c.withdraw.ensures.agent) c.requires.told

pub returns-in-Stop-clause-told : goal.returns-in-Stop-clause-told
returns-in-Stop-clause-told c = kept_tables c.args.self.now.number c.args.self.now.remotes.items c.args.self.now.sighting c.in-Stop.remote c.index_mut-in-Stop.result.now c.stop.new.self c.index_mut-in-Stop.ensures.value (ap (λ (a : Agent). a.view) c.stop.ensures.agent) c.requires.told

pub returns-in-Link-clause-told : goal.returns-in-Link-clause-told
returns-in-Link-clause-told c = kept_tables c.args.self.now.number c.args.self.now.remotes.items c.args.self.now.sighting c.in-Link.remote c.index_mut-in-Link.result.now c.set_link.new.self c.index_mut-in-Link.ensures.value (ap (λ (a : Agent). a.view) c.set_link.ensures.agent) c.requires.told

pub returns-in-Fail-clause-told : goal.returns-in-Fail-clause-told
returns-in-Fail-clause-told c = kept_tables c.args.self.now.number c.args.self.now.remotes.items c.args.self.now.sighting c.in-Fail.remote c.index_mut-in-Fail.result.now c.fail.new.self c.index_mut-in-Fail.ensures.value (ap (λ (a : Agent). a.view) c.fail.ensures.agent) c.requires.told
