use Rattle.std.proofs.Common.{sym}
use Rattle.key_paths.proofs.Sound.{key_of-sound}
use Rattle.key_paths.proofs.Complete.{key_of-key_bytes}
use Rattle.key_paths.proofs.laws.reads_written_keys.Goals as goal

pub returns-clause-reads : goal.returns-clause-reads
returns-clause-reads c = key_of-key_bytes

pub returns-clause-writes : goal.returns-clause-writes
returns-clause-writes c bytes key h = sym (key_of-sound bytes key h).1
