use Rattle.std.proofs.Common.{◌≡◌, ◌<◌, length, sym, ap, ◌∙◌, subst}
use Rattle.record_check.specs.declared.limit.Limit.TheVariants.{Small}
use Rattle.relist_merge.specs.Viewed as viewed
use Rattle.shared_tables.specs.Told.{Told, told, with_config}
use Rattle.scenario_replay.proofs.SetsTold.{config_read, first_of_view, tells_source}
use Rattle.scenario_replay.proofs.SourcesTold.{length-records}
use Rattle.scenario_replay.proofs.sighting.tell_source.Goals as goal

pub tell_records-requires-clause-first : goal.tell_records-requires-clause-first
tell_records-requires-clause-first g c =
    let list = c.in_ok-records.ensures in
    first_of_view c.args.source c.args.view.now (told c.args.tables.now) list.0 c.in_ok-records.records c.requires.nothing c.requires.own list.1 list.2

pub reserve_readmit-requires-clause-source : goal.reserve_readmit-requires-clause-source
reserve_readmit-requires-clause-source g c = length-records c.args.source c.in_ok-records.records (told c.args.tables.now) (told c.tell_records.new.tables) c.in_ok-tell_records.ensures c.requires.source

pub reserve_readmit-requires-clause-config : goal.reserve_readmit-requires-clause-config
reserve_readmit-requires-clause-config g c =
    let small : (told c.tell_records.new.tables).limit ≡ Small = ap (λ (t : Told). t.limit) c.in_ok-tell_records.ensures ∙ c.requires.limit in
    config_read _ _ c.in_ok-config.config _ (ap (λ (s : viewed.Source). s.limit) c.requires.own ∙ sym small) c.in_ok-config.ensures

pub readmit-requires-clause-source : goal.readmit-requires-clause-source
readmit-requires-clause-source g c =
    subst (λ (t : Told). c.args.source < length t.sources) (sym c.reserve_readmit.ensures.told)
    (length-records c.args.source c.in_ok-records.records (told c.args.tables.now) (told c.tell_records.new.tables) c.in_ok-tell_records.ensures c.requires.source)

pub readmit-requires-clause-config : goal.readmit-requires-clause-config
readmit-requires-clause-config g c =
    let small : (told c.reserve_readmit.new.self).limit ≡ Small = ap (λ (t : Told). t.limit) (c.reserve_readmit.ensures.told ∙ c.in_ok-tell_records.ensures) ∙ c.requires.limit in
    config_read _ _ c.in_ok-config.config _ (ap (λ (s : viewed.Source). s.limit) c.requires.own ∙ sym small) c.in_ok-config.ensures

pub returns : goal.returns
returns g c =
    let list = c.in_ok-records.ensures in
    tells_source c.args.source c.args.view.now (told c.args.tables.now) (told c.readmit.new.self) list.0 c.in_ok-config.config c.in_ok-records.records c.requires.nothing c.requires.own list.1 list.2 c.in_ok-config.ensures
    (c.readmit.ensures.told ∙ ap (with_config c.args.source c.in_ok-config.config) (c.reserve_readmit.ensures.told ∙ c.in_ok-tell_records.ensures))
