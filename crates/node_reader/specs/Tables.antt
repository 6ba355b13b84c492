-- What contracts see of tables.
use Rattle.spec_node_counts.specs.Nodes as nodes
use Rattle.node_reader.specs.declared.table.Table.{Table}

abbrev pub table_of : Table → nodes.Table
table_of t = record { terms = t.bank; starts = t.starts.items; bounds = t.bounds.items }
