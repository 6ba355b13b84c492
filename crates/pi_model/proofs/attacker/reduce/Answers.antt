use Rattle.std.proofs.Common.{◌≡◌, Some, map, length, option_map, sym, ap, ◌∙◌, arith}
use Rattle.spec_calculus.specs.Refusals.{first_arity}
use Rattle.pi_tree.specs.Protocols.{protocol_of}
use Rattle.pi_tree.specs.Rules.{rule_of}
use Rattle.pi_tree.specs.Values.{value_of}
use Rattle.pi_configurations.specs.Configurations.{configuration_of}
use Rattle.pi_model.proofs.Causes.{reduce-no_rule, reduce-large, reduce-possible}
use Rattle.pi_model.proofs.attacker.reduce.Goals as goal

pub returns-in-None-2-clause-refused : goal.returns-in-None-2-clause-refused
returns-in-None-2-clause-refused c =
    reduce-no_rule (protocol_of c.args.run.now.protocol.now) (configuration_of c.args.run.now.conf.now) c.args.destructor c.args.rule c.args.numbers.now (map value_of c.deref.result.now)
    (map rule_of c.rules_of-rules.result.now) c.rules_of-rules.ensures
    (ap (first_arity (map rule_of c.rules_of-rules.result.now)) (sym (let counted : c.len.result ≡ length c.args.numbers.now = omega (arith, ap length c.numbers.view_is) in counted)) ∙ sym c.first_arity.ensures ∙ c.if-not-first_arity.false)
    (sym c.in_ok-known_values.ensures ∙ c.in-Some.is ∙ ap Some (sym (ap (map value_of) c.deref.ensures.value ∙ c.values.view_is)))
    (sym c.in_ok-value_by_rule.ensures ∙ ap (option_map value_of) c.in-None-2.is)

pub returns-then-is_large-clause-refused : goal.returns-then-is_large-clause-refused
returns-then-is_large-clause-refused c =
    reduce-large (protocol_of c.args.run.now.protocol.now) (configuration_of c.args.run.now.conf.now) c.args.destructor c.args.rule c.args.numbers.now (map value_of c.deref.result.now) (value_of c.in-Some-2.value)
    (map rule_of c.rules_of-rules.result.now) c.rules_of-rules.ensures
    (ap (first_arity (map rule_of c.rules_of-rules.result.now)) (sym (let counted : c.len.result ≡ length c.args.numbers.now = omega (arith, ap length c.numbers.view_is) in counted)) ∙ sym c.first_arity.ensures ∙ c.if-not-first_arity.false)
    (sym c.in_ok-known_values.ensures ∙ c.in-Some.is ∙ ap Some (sym (ap (map value_of) c.deref.ensures.value ∙ c.values.view_is)))
    (sym c.in_ok-value_by_rule.ensures ∙ ap (option_map value_of) c.in-Some-2.is) (sym c.is_large.ensures ∙ c.if-is_large.true)

pub returns-clause-possible : goal.returns-clause-possible
returns-clause-possible c =
    reduce-possible (protocol_of c.args.run.now.protocol.now) (configuration_of c.args.run.now.conf.now) c.args.destructor c.args.rule c.args.numbers.now (map value_of c.deref.result.now) (value_of c.in-Some-2.value)
    (map rule_of c.rules_of-rules.result.now) c.rules_of-rules.ensures
    (ap (first_arity (map rule_of c.rules_of-rules.result.now)) (sym (let counted : c.len.result ≡ length c.args.numbers.now = omega (arith, ap length c.numbers.view_is) in counted)) ∙ sym c.first_arity.ensures ∙ c.if-not-first_arity.false)
    (sym c.in_ok-known_values.ensures ∙ c.in-Some.is ∙ ap Some (sym (ap (map value_of) c.deref.ensures.value ∙ c.values.view_is)))
    (sym c.in_ok-value_by_rule.ensures ∙ ap (option_map value_of) c.in-Some-2.is) (sym c.is_large.ensures ∙ c.if-is_large.false)
