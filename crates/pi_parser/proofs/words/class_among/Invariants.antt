use Rattle.std.proofs.Common.{◌≡◌, drop}
use Rattle.spec_protocol_grammar.specs.Classes.{class_among}
use Rattle.pi_parser.specs.Tables.{table_of}
use Rattle.pi_parser.proofs.words.class_among.Given as goal

-- the other entries give the text the class that the whole table gives it
abbrev pub invariant-entries : goal.invariant-entries
invariant-entries l = class_among (table_of (drop l.entry-index l.table)) l.text ≡ class_among (table_of l.table) l.text
