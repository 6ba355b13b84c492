use Rattle.std.proofs.Common.{◌≡◌, ◌∙◌, map, ap}
use Rattle.pi_tree.specs.Rules.{rule_of}
use Rattle.clause_terms.proofs.Rows.{all_at}
use Rattle.attacker_clauses.specs.Conditions.{CanBeRenamed}
use Rattle.term_tree.proofs.BankLaws.{Grows_trans}
use Rattle.attacker_clauses.proofs.destructors.add_rules.Goals as goal

pub add_rule-requires : goal.add_rule-requires
add_rule-requires g c =
    let seen : map rule_of c.deref-rule-items.result.now ≡ c.args.rules.now = ap (map rule_of) c.deref-rule-items.ensures.value ∙ c.rules.view_is in
    all_at CanBeRenamed rule_of c.deref-rule-items.result.now c.args.rules.now c.loop-rule.rule-index c.rule-item.result seen c.requires c.loop-rule-test.true c.rule-item.is

pub returns-in_err-add_rule-clause-grows : goal.returns-in_err-add_rule-clause-grows
returns-in_err-add_rule-clause-grows g c = Grows_trans (g.B.Bank.trees c.args.bank.now) (g.B.Bank.trees c.loop-rule.bank) (g.B.Bank.trees c.add_rule.new.bank) c.loop-rule.invariant.grows c.add_rule.ensures.grows
