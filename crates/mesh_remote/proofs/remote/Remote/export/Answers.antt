use Rattle.std.proofs.Common.{refl}
use Rattle.std.proofs.lemmas.Result.{on_ok_weaker}
use Rattle.exporter.specs.State.{turns}
use Rattle.exporter.specs.Talks.{export_talk}
use Rattle.mesh_remote.proofs.Remotes.{spoke_exporter}
use Rattle.mesh_remote.proofs.Ways.{export_same}
use Rattle.mesh_remote.proofs.remote.Remote.export.Goals as goal

pub returns-clause-speaks : goal.returns-clause-speaks
returns-clause-speaks g c = on_ok_weaker c.export.result
    (λ came w shown. spoke_exporter (g.S.Store.meaning c.args.store.now) (g.S.Store.meaning c.export.new.store) w c.args.self.now _ shown (λ s. export_talk (turns c.args.most s) s) (λ s. export_same (turns c.args.most s) s) came refl refl refl)
    c.export.ensures.came
