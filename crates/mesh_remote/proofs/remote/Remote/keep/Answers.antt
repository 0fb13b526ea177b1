use Rattle.std.proofs.Common.{refl}
use Rattle.std.proofs.lemmas.Result.{on_ok_weaker}
use Rattle.exporter.specs.Talks.{keep_talk}
use Rattle.mesh_remote.proofs.Remotes.{spoke_exporter}
use Rattle.mesh_remote.proofs.Ways.{keep_same}
use Rattle.mesh_remote.proofs.remote.Remote.keep.Goals as goal

pub returns-clause-speaks : goal.returns-clause-speaks
returns-clause-speaks g c = on_ok_weaker c.keep.result
    (λ came w shown. spoke_exporter (g.S.Store.meaning c.args.store.now) (g.S.Store.meaning c.keep.new.store) w c.args.self.now _ shown keep_talk keep_same came refl refl refl)
    c.keep.ensures.came
