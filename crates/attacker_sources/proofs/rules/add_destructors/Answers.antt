use Rattle.std.proofs.Common.{◌≡◌, ◌∙◌, ◌<◌, ◌^◌, ◌+◌, flat_map, map, take, length, refl, ap}
use Rattle.std.specs.List.{enumerate_from}
use Rattle.spec_calculus.specs.Syntax.{Destructor}
use Rattle.spec_attack_runs.specs.Gathered.{rule_deeds}
use Rattle.pi_tree.specs.declared.protocols.Protocol as declared
use Rattle.pi_tree.specs.Rules.{destructor_of}
use Rattle.pi_tree.specs.Protocols.{protocol_of}
use Rattle.clause_terms.proofs.Rows.{all_at}
use Rattle.attacker_clauses.specs.Conditions.{CanAllBeRenamed}
use Rattle.clause_sources.proofs.Telling.{none_told}
use Rattle.attacker_sources.proofs.Numbering.{joined_more, all_numbered}
use Rattle.attacker_sources.proofs.Adding.{told_as, told_on}
use Rattle.attacker_sources.proofs.rules.add_destructors.Goals as goal

pub add_rules-requires-clause-renamed : goal.add_rules-requires-clause-renamed
add_rules-requires-clause-renamed g c =
    let seen : map destructor_of c.deref-dtor-items.result.now ≡ c.args.protocol.now.dtors = ap (map destructor_of) c.deref-dtor-items.ensures.value ∙ ap (λ (p : declared.Protocol). p.dtors) c.protocol.view_is in
    all_at CanAllBeRenamed destructor_of c.deref-dtor-items.result.now c.args.protocol.now.dtors c.each.index c.dtor-item.result seen c.requires.rules c.each-test.true c.dtor-item.is

pub add_rules-requires-clause-few : goal.add_rules-requires-clause-few
add_rules-requires-clause-few g c =
    let seen : map destructor_of c.deref-dtor-items.result.now ≡ c.args.protocol.now.dtors = ap (map destructor_of) c.deref-dtor-items.ensures.value ∙ ap (λ (p : declared.Protocol). p.dtors) c.protocol.view_is in
    all_at (λ (d : Destructor). length d.rules < 2 ^ 32) destructor_of c.deref-dtor-items.result.now c.args.protocol.now.dtors c.each.index c.dtor-item.result seen c.requires.few.rules c.each-test.true c.dtor-item.is

pub each-init : goal.each-init
each-init g c = record { bank = refl; tells = none_told c.args.sources.now }

pub each-preserved : goal.each-preserved
each-preserved g c =
    let items = c.deref-dtor-items.result.now in
    let i = c.each.index in
    let made = rule_deeds (protocol_of c.args.protocol.now) c.args.at.phase in
    record {
      bank = c.add_rules.ensures.bank ∙ c.each.invariant.bank;
      tells = told_on c.args.sources.now c.each.sources c.add_rules.new.sources (flat_map made (enumerate_from 1 (map destructor_of (take i items)))) (made (i + 1, destructor_of c.dtor-item.result))
          (flat_map made (enumerate_from 1 (map destructor_of (take (i + 1) items)))) c.each.invariant.tells c.in_ok-add_rules.ensures.tells
          (joined_more destructor_of made items i c.dtor-item.result c.each-test.true c.dtor-item.is);
    }

pub returns-clause-tells : goal.returns-clause-tells
returns-clause-tells g c =
    let items = c.deref-dtor-items.result.now in
    let made = rule_deeds (protocol_of c.args.protocol.now) c.args.at.phase in
    let seen : map destructor_of items ≡ c.args.protocol.now.dtors = ap (map destructor_of) c.deref-dtor-items.ensures.value ∙ ap (λ (p : declared.Protocol). p.dtors) c.protocol.view_is in
    told_as c.args.sources.now c.each.sources (flat_map made (enumerate_from 1 (map destructor_of (take c.each.index items)))) (flat_map made (enumerate_from 1 (protocol_of c.args.protocol.now).destructors))
    (ap (flat_map made) (all_numbered destructor_of items c.args.protocol.now.dtors c.each.index c.each-test.false seen)) c.each.invariant.tells
