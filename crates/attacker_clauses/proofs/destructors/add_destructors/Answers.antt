use Rattle.std.proofs.Common.{◌≡◌, ◌∙◌, map, ap}
use Rattle.pi_tree.specs.declared.protocols.Protocol as declared
use Rattle.pi_tree.specs.Rules.{destructor_of}
use Rattle.clause_terms.proofs.Rows.{all_at}
use Rattle.attacker_clauses.specs.Conditions.{CanAllBeRenamed}
use Rattle.term_tree.proofs.BankLaws.{Grows_trans}
use Rattle.attacker_clauses.proofs.destructors.add_destructors.Goals as goal

pub add_rules-requires : goal.add_rules-requires
add_rules-requires g c =
    let seen : map destructor_of c.deref-destructor-items.result.now ≡ c.args.protocol.now.dtors = ap (map destructor_of) c.deref-destructor-items.ensures.value ∙ ap (λ (p : declared.Protocol). p.dtors) c.protocol.view_is in
    all_at CanAllBeRenamed destructor_of c.deref-destructor-items.result.now c.args.protocol.now.dtors c.loop-destructor.destructor-index c.destructor-item.result seen c.requires c.loop-destructor-test.true c.destructor-item.is

pub returns-in_err-add_rules-clause-grows : goal.returns-in_err-add_rules-clause-grows
returns-in_err-add_rules-clause-grows g c = Grows_trans (g.B.Bank.trees c.args.bank.now) (g.B.Bank.trees c.loop-destructor.bank) (g.B.Bank.trees c.add_rules.new.bank) c.loop-destructor.invariant.grows c.add_rules.ensures.grows
