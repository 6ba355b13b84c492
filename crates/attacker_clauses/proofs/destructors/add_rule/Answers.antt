use Rattle.std.proofs.Common.{[], ◌∷◌, map}
use Rattle.spec_translation.specs.Conversion.{rule_term}
use Rattle.spec_translation.specs.Attacker.{rule_applied}
use Rattle.term_tree.specs.Bank.{tree_at}
use Rattle.term_tree.proofs.BankLaws.{Grows_refl, Grows_trans}
use Rattle.pi_tree.specs.Rules.{rule_of}
use Rattle.pi_tree.specs.Protocols.{protocol_of}
use Rattle.attacker_clauses.proofs.Raws.{known_clause, shown_terms, rule_listed}
use Rattle.attacker_clauses.proofs.Adding.{last_added}
use Rattle.attacker_clauses.proofs.destructors.add_rule.Goals as goal

pub returns-clause-adds : goal.returns-clause-adds
returns-clause-adds g c =
    let old = g.B.Bank.trees c.args.bank.now in
    let made = g.B.Bank.trees c.rename_rule.new.bank in
    let P = protocol_of c.args.protocol.now in
    let rule = rule_of c.args.rule.now in
    let left = shown_terms made made c.in_ok-left.left c.left.inside.items.items c.deref.result.now (map (rule_term P 0) rule.left) (Grows_refl made) c.deref.ensures.value c.left.view_is c.in_ok-left.ensures.left in
    last_added old made (g.B.Bank.trees c.add_known.new.bank) c.args.list.now c.add_known.new.list (known_clause c.args.at.phase (map (tree_at made) c.deref.result.now) (tree_at made c.in_ok-left.right) ∷ []) (rule_applied P c.args.at.phase rule ∷ [])
    c.add_known.result c.rename_rule.ensures.grows (rule_listed P c.args.at.phase rule (map (tree_at made) c.deref.result.now) (tree_at made c.in_ok-left.right) left c.in_ok-left.ensures.right.is) c.add_known.ensures.adds

pub returns-clause-grows : goal.returns-clause-grows
returns-clause-grows g c = Grows_trans (g.B.Bank.trees c.args.bank.now) (g.B.Bank.trees c.rename_rule.new.bank) (g.B.Bank.trees c.add_known.new.bank) c.rename_rule.ensures.grows c.add_known.ensures.grows
