use Rattle.std.proofs.Common.{sym, subst, true}
use Rattle.store_api.specs.Advance.{closed}
use Rattle.reflector.specs.Reader.{Reader, Stands}
use Rattle.reflector.specs.Turns.{followed}
use Rattle.reflector.proofs.Turning.{stands_turned, order_turned, reads_turned, untaken_turned}
use Rattle.reflector.proofs.Talking.{talked_turn}
use Rattle.reflector.proofs.reader.Reflector.turn.Goals as goal

pub returns-clause-stands : goal.returns-clause-stands
returns-clause-stands g c r stands =
    let after = stands_turned c.args.most (g.S.Store.meaning c.ask.new.store).contents c.args.self.now c.in_ok-turn.turn r c.in_ok-turn.ensures.answer stands in
    subst (λ (reader : Reader). Stands reader (followed c.in_ok-turn.turn r)) (sym c.advance.ensures) after

pub returns-clause-reads : goal.returns-clause-reads
returns-clause-reads g c r stands = reads_turned c.args.most (g.S.Store.meaning c.ask.new.store).contents c.args.self.now c.in_ok-turn.turn r c.in_ok-turn.ensures.answer stands

pub returns-clause-in_order : goal.returns-clause-in_order
returns-clause-in_order g c r stands are =
    order_turned c.args.most (g.S.Store.meaning c.args.store.now).contents.history (g.S.Store.meaning c.ask.new.store).contents c.args.self.now c.in_ok-turn.turn r c.in_ok-turn.ensures.answer stands c.ask.ensures.keeps.history are

pub returns-clause-untaken : goal.returns-clause-untaken
returns-clause-untaken g c r stands are =
    let after = untaken_turned c.args.most (g.S.Store.meaning c.args.store.now).contents.history (g.S.Store.meaning c.ask.new.store).contents c.args.self.now c.in_ok-turn.turn r c.in_ok-turn.ensures.answer stands c.ask.ensures.keeps.history are in
    subst (λ (reader : Reader). Stands (record reader { is_waiting = true }) (closed r)) (sym c.advance.ensures) after

pub returns-clause-talk : goal.returns-clause-talk
returns-clause-talk g c r stands = talked_turn g.S.Store.meaning g.S.Store.crossed c.args.most c.args.self.now r c.in_ok-turn.turn c.args.store.now c.ask.new.store c.in_ok-turn.ensures.answer stands c.in_ok-turn.ensures.call
