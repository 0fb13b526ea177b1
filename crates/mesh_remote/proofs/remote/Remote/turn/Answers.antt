use Rattle.std.proofs.Common.{refl}
use Rattle.std.proofs.lemmas.Result.{on_ok_weaker}
use Rattle.mesh_remote.proofs.Remotes.{spoke_agent, there_for}
use Rattle.mesh_remote.proofs.remote.Remote.turn.Goals as goal

pub turn-requires-clause-there : goal.turn-requires-clause-there
turn-requires-clause-there g c = λ runs. let w = c.requires.shown.0 in there_for w.exporter.cluster (g.S.Store.meaning c.args.store.now).contents.history w.reader c.args.self.now.agent c.requires.shown.1.agent runs

pub returns-clause-speaks : goal.returns-clause-speaks
returns-clause-speaks g c = on_ok_weaker c.turn.result
    (λ turns w shown. spoke_agent (g.S.Store.meaning c.args.store.now) (g.S.Store.meaning c.turn.new.store) w c.args.self.now _ shown c.args.most turns refl refl refl)
    c.turn.ensures.turns
