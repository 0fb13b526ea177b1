use Rattle.std.proofs.Common.{◌∙◌, List, sym, subst, refl, false}
use Rattle.flaky_link.specs.Link.{linked}
use Rattle.reflector.specs.Talks.{turn_talk}
use Rattle.reflector.specs.Turns.{delivery_of, followed}
use Rattle.relist_merge.specs.Sight.{viewed}
use Rattle.relist_merge.specs.Viewed as view
use Rattle.store_api.specs.Given.{IsGivenIf}
use Rattle.store_api.specs.declared.change.Range.{Range}
use Rattle.mesh_remote.proofs.Readers.{follows_none, follows_some, lost_entries, ok_same, read_on}
use Rattle.mesh_remote.proofs.Ways.{held}
use Rattle.mesh_remote.proofs.agent.Agent.turn_over.Goals as goal

pub returns-in-None-clause-turns : goal.returns-in-None-clause-turns
returns-in-None-clause-turns g c = λ cluster r is.
    let e = c.in_ok-turn.ensures in
    let t = c.in_ok-turn.turn in
    let old = linked c.args.link.now.state.now (g.S.Store.meaning c.args.link.now.store.now) in
    let new = linked c.turn.new.store.state.now (g.S.Store.meaning c.turn.new.store.store.now) in
    record {
      came = followed t r;
      held = held _ _ (λ v. (v.state.now, g.S.Store.meaning v.store.now)) (λ request first last heard x. record { end = x.end; call = record { crossed = x.call.crossed; called = x.call.called }; hears = x.hears })
          (turn_talk c.args.most r) c.args.link.now c.turn.new.store (followed t r) (e.talk r is.stands);
      reads =
          read_on cluster old.contents.history new.contents t r c.args.self.now (record { reader = c.turn.new.self; view = c.args.self.now.view }) is e.reader (e.stands r is.stands) (e.in_order r is.stands is.spans) refl
          (follows_none cluster old.contents.history new.contents.history e.keeps.history r (viewed c.args.self.now.view) is.source is.follows t (sym c.delivery.ensures ∙ c.in-None.is));
    }

pub returns-in_ok-follow-in-Some-clause-turns : goal.returns-in_ok-follow-in-Some-clause-turns
returns-in_ok-follow-in-Some-clause-turns g c = λ cluster r is.
    let e = c.in_ok-turn.ensures in
    let t = c.in_ok-turn.turn in
    let old = linked c.args.link.now.state.now (g.S.Store.meaning c.args.link.now.store.now) in
    let new = linked c.turn.new.store.state.now (g.S.Store.meaning c.turn.new.store.store.now) in
    record {
      came = followed t r;
      held = held _ _ (λ v. (v.state.now, g.S.Store.meaning v.store.now)) (λ request first last heard x. record { end = x.end; call = record { crossed = x.call.crossed; called = x.call.called }; hears = x.hears })
          (turn_talk c.args.most r) c.args.link.now c.turn.new.store (followed t r) (e.talk r is.stands);
      reads =
          read_on cluster old.contents.history new.contents t r c.args.self.now (record { reader = c.turn.new.self; view = c.follow.new.self }) is e.reader (e.stands r is.stands) (e.in_order r is.stands is.spans) c.follow.ensures.source
          (follows_some cluster old.contents.history new.contents.history e.keeps.history r (viewed c.args.self.now.view) is.source is.follows t c.in-Some.delivery (viewed c.follow.new.self) (sym c.delivery.ensures ∙ c.in-Some.is)
          (subst (λ (ranges : List Range). IsGivenIf ranges new.contents.history r (delivery_of t)) is.ranges (e.reads r is.stands)) c.in_ok-follow-in-Some.ensures.follows);
    }

pub returns-in_ok-follow-in-Some-clause-nothing : goal.returns-in_ok-follow-in-Some-clause-nothing
returns-in_ok-follow-in-Some-clause-nothing g c = λ not_read.
    lost_entries (view.followed (viewed c.args.self.now.view).source) c.in-Some.delivery (viewed c.args.self.now.view).shown (viewed c.follow.new.self).shown (c.is_read-reads.ensures (ok_same _ false not_read)) c.in_ok-follow-in-Some.ensures.view
