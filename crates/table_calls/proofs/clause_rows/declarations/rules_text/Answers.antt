use Rattle.pi_tree.specs.Protocols.{protocol_of}
use Rattle.table_calls.proofs.clause_rows.Rules.{all_shown}
use Rattle.table_calls.proofs.clause_rows.declarations.rules_text.Goals as goal

pub add_destructors-requires : goal.add_destructors-requires
add_destructors-requires c = all_shown (protocol_of c.args.protocol.now) c.requires
