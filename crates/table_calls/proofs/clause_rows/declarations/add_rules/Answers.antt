use Rattle.std.proofs.Common.{◌≡◌, ◌∙◌, map, ap}
use Rattle.pi_tree.specs.Rules.{rule_of}
use Rattle.clause_terms.proofs.Rows.{all_at}
use Rattle.table_calls.specs.Declaring.{CanBeShown}
use Rattle.table_calls.proofs.clause_rows.declarations.add_rules.Goals as goal

pub add_rule-requires : goal.add_rule-requires
add_rule-requires c =
    let seen : map rule_of c.deref-rule-items.result.now ≡ c.args.rules.now = ap (map rule_of) c.deref-rule-items.ensures.value ∙ c.rules.view_is in
    all_at CanBeShown rule_of c.deref-rule-items.result.now c.args.rules.now c.loop-rule.rule-index c.rule-item.result seen c.requires c.loop-rule-test.true c.rule-item.is
