use Rattle.std.proofs.Common.{map}
use Rattle.spec_translation.specs.Conversion.{rule_term}
use Rattle.clause_form.proofs.Copying.{NameTerms-grows}
use Rattle.pi_tree.specs.Rules.{rule_of}
use Rattle.pi_tree.specs.Protocols.{protocol_of}
use Rattle.destructor_rules.proofs.Sides.{left_room, right_room}
use Rattle.term_tree.proofs.BankLaws.{Grows_trans}
use Rattle.destructor_rules.proofs.renaming.sides.Goals as goal

pub rule_terms-requires-clause-room : goal.rule_terms-requires-clause-room
rule_terms-requires-clause-room g c = left_room c.args.base (rule_of c.args.rule.now) c.requires.room

pub rule_term-requires-clause-room : goal.rule_term-requires-clause-room
rule_term-requires-clause-room g c = right_room c.args.base (rule_of c.args.rule.now) c.requires.room

pub returns-clause-left : goal.returns-clause-left
returns-clause-left g c =
    NameTerms-grows (g.B.Bank.trees c.rule_terms.new.bank) (g.B.Bank.trees c.rule_term.new.bank) c.in_ok-left.left (map (rule_term (protocol_of c.args.protocol.now) c.args.base) c.args.rule.now.left) c.rule_term.ensures.grows c.in_ok-left.ensures.names

pub returns-in_err-right-clause-grows : goal.returns-in_err-right-clause-grows
returns-in_err-right-clause-grows g c = Grows_trans (g.B.Bank.trees c.args.bank.now) (g.B.Bank.trees c.rule_terms.new.bank) (g.B.Bank.trees c.rule_term.new.bank) c.rule_terms.ensures.grows c.rule_term.ensures.grows

pub returns-clause-grows : goal.returns-clause-grows
returns-clause-grows g c = Grows_trans (g.B.Bank.trees c.args.bank.now) (g.B.Bank.trees c.rule_terms.new.bank) (g.B.Bank.trees c.rule_term.new.bank) c.rule_terms.ensures.grows c.rule_term.ensures.grows
