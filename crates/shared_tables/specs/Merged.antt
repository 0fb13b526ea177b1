-- What a walk over the pairs of all sources has found.
use Rattle.std.specs.Prelude.{List, [], ◌++◌, flat_map}
use Rattle.shared_tables.specs.declared.merged.Merged.{Merged}
use Rattle.shared_tables.specs.declared.rows.RejectRow.{RejectRow}
use Rattle.shared_tables.specs.declared.source.Source.{Source}
use Rattle.shared_tables.specs.Merge.{Entry, node_row, identity_row, claim, service_rows}
use Rattle.shared_tables.specs.RecordSets.{RecordSet}

-- a source's record set, with its pairs in the order in which they are kept
abbrev pub arrived : Source → RecordSet
arrived s = record { name = s.name; config = s.config; pairs = s.rows.entries }

abbrev pub nothing_merged : Merged
nothing_merged = record { nodes = []; identities = []; claims = []; backends = []; rejects = [] }

-- the rows of these valid records and these reject rows are put behind the others
abbrev pub with_rows : Merged → List Entry → List RejectRow → Merged
with_rows m entries rejects = record {
  nodes = m.nodes ++ flat_map node_row entries;
  identities = m.identities ++ flat_map identity_row entries;
  claims = m.claims ++ flat_map claim entries;
  backends = m.backends ++ flat_map service_rows entries;
  rejects = m.rejects ++ rejects;
}

-- the rows of a valid record are put behind the others
abbrev pub with_entry : Merged → Entry → Merged
with_entry m e = record m {
  nodes = m.nodes ++ node_row e;
  identities = m.identities ++ identity_row e;
  claims = m.claims ++ claim e;
  backends = m.backends ++ service_rows e;
}
