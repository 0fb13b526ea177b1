use Rattle.exporter.proofs.Exact.{exports_exactly}
use Rattle.exporter.proofs.laws.exports_exactly.Goals as goal

pub returns : goal.returns
returns c = exports_exactly
