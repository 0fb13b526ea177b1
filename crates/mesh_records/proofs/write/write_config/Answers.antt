use Rattle.std.proofs.Common.{refl, lit≤}
use Rattle.record_reading.specs.Config.{config_of}
use Rattle.mesh_records.specs.Trees.{config_tree}
use Rattle.mesh_records.proofs.ConfigBack.{config_reads_back}
use Rattle.mesh_records.proofs.Written.{text_written, read_again}
use Rattle.mesh_records.proofs.write.write_config.Goals as goal

pub returns-clause-text : goal.returns-clause-text
unfolding config_tree
returns-clause-text c = text_written _ (config_tree c.args.config.now) _ c.in_ok-value.ensures.tree refl c.in_ok-bytes.ensures.text

pub returns-clause-reads_back : goal.returns-clause-reads_back
unfolding config_tree
returns-clause-reads_back c =
    let fits = c.in_ok-value.ensures.fits in
    read_again config_of _ (config_tree c.args.config.now) _ c.args.config.now c.in_ok-value.ensures.tree (lit≤ tt) refl
    (config_reads_back c.args.config.now fits.0 fits.1 fits.2) c.in_ok-bytes.ensures.reads_back
