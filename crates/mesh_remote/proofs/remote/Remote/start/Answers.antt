use Rattle.std.proofs.Common.{refl}
use Rattle.std.proofs.lemmas.Result.{on_ok_weaker}
use Rattle.exporter.specs.Talks.{start_talk}
use Rattle.mesh_remote.proofs.Remotes.{spoke_exporter}
use Rattle.mesh_remote.proofs.Ways.{start_same}
use Rattle.mesh_remote.proofs.remote.Remote.start.Goals as goal

pub returns-clause-speaks : goal.returns-clause-speaks
returns-clause-speaks g c = on_ok_weaker c.start.result
    (λ came w shown. spoke_exporter (g.S.Store.meaning c.args.store.now) (g.S.Store.meaning c.start.new.store) w c.args.self.now _ shown start_talk start_same came refl refl refl)
    c.start.ensures.came
