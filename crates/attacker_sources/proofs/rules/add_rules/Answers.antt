use Rattle.std.proofs.Common.{◌≡◌, ◌∙◌, ℕ, [], ◌∷◌, ◌+◌, map, take, refl, ap}
use Rattle.std.specs.List.{enumerate_from}
use Rattle.spec_calculus.specs.Syntax.{Rule}
use Rattle.spec_translation.specs.Attacker.{rule_applied}
use Rattle.spec_attack_runs.specs.Source.{Reduces}
use Rattle.spec_attack_runs.specs.Gathered.{Deed, rule_deeds}
use Rattle.pi_tree.specs.declared.destructors.Dtor as declared
use Rattle.pi_tree.specs.Rules.{rule_of, destructor_of}
use Rattle.pi_tree.specs.Protocols.{protocol_of}
use Rattle.clause_terms.proofs.Rows.{all_at}
use Rattle.attacker_clauses.specs.Conditions.{CanBeRenamed}
use Rattle.clause_sources.specs.Bound.{numbered_in_bound}
use Rattle.clause_sources.proofs.Telling.{none_told}
use Rattle.attacker_sources.proofs.Numbering.{mapped_more, all_numbered}
use Rattle.attacker_sources.proofs.Adding.{told_as, told_on}
use Rattle.attacker_sources.proofs.rules.add_rules.Goals as goal

pub raw_rule-requires : goal.raw_rule-requires
raw_rule-requires g c =
    let rules = (destructor_of c.args.numbered.1.now).rules in
    let seen : map rule_of c.deref-rule-items.result.now ≡ rules = ap (map rule_of) c.deref-rule-items.ensures.value ∙ ap (λ (d : declared.Dtor). d.rules) c.dtor.view_is in
    all_at CanBeRenamed rule_of c.deref-rule-items.result.now rules c.each.index c.rule-item.result seen c.requires.renamed c.each-test.true c.rule-item.is

pub each-init : goal.each-init
each-init g c = record { bank = refl; tells = none_told c.args.sources.now }

pub each-preserved : goal.each-preserved
each-preserved g c =
    let items = c.deref-rule-items.result.now in
    let i = c.each.index in
    let P = protocol_of c.args.protocol.now in
    let made : ℕ × Rule → Deed = λ rule. (Reduces c.args.numbered.0 rule.0, rule_applied P c.args.at.phase rule.1) in
    record {
      bank = c.add_sources.ensures.bank ∙ (c.raw_rule.ensures.bank ∙ c.each.invariant.bank);
      tells = told_on c.args.sources.now c.each.sources c.add_sources.new.sources (map made (enumerate_from 1 (map rule_of (take i items)))) (made (i + 1, rule_of c.rule-item.result) ∷ [])
          (map made (enumerate_from 1 (map rule_of (take (i + 1) items)))) c.each.invariant.tells
          (told_as c.each.sources c.add_sources.new.sources ((Reduces c.args.numbered.0 (i + 1), numbered_in_bound c.in_ok-raw.raw) ∷ []) (made (i + 1, rule_of c.rule-item.result) ∷ [])
          (ap (λ raw. (Reduces c.args.numbered.0 (i + 1), numbered_in_bound raw) ∷ []) c.in_ok-raw.ensures.raw) c.in_ok-add_sources.ensures.tells)
          (mapped_more rule_of made items i c.rule-item.result c.each-test.true c.rule-item.is);
    }

pub returns-clause-tells : goal.returns-clause-tells
returns-clause-tells g c =
    let items = c.deref-rule-items.result.now in
    let P = protocol_of c.args.protocol.now in
    let made : ℕ × Rule → Deed = λ rule. (Reduces c.args.numbered.0 rule.0, rule_applied P c.args.at.phase rule.1) in
    let rules = (destructor_of c.args.numbered.1.now).rules in
    told_as c.args.sources.now c.each.sources (map made (enumerate_from 1 (map rule_of (take c.each.index items)))) (rule_deeds P c.args.at.phase (c.args.numbered.0, destructor_of c.args.numbered.1.now))
    (ap (map made) (all_numbered rule_of items rules c.each.index c.each-test.false (ap (map rule_of) c.deref-rule-items.ensures.value ∙ ap (λ (d : declared.Dtor). d.rules) c.dtor.view_is))) c.each.invariant.tells
