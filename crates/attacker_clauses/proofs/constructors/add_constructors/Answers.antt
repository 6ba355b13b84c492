use Rattle.std.proofs.Common.{[], ◌∷◌, ◌+◌, filter_map, map, take}
use Rattle.std.specs.List.{enumerate_from}
use Rattle.spec_translation.specs.Attacker.{constructor_applied}
use Rattle.pi_tree.specs.Names.{declared_of}
use Rattle.attacker_clauses.proofs.Numbering.{numbered_more}
use Rattle.attacker_clauses.proofs.Adding.{added_on}
use Rattle.term_tree.proofs.BankLaws.{Grows_trans}
use Rattle.attacker_clauses.proofs.constructors.add_constructors.Goals as goal

pub loop-index-preserved : goal.loop-index-preserved
loop-index-preserved g c =
    let items = c.deref-declared-items.result.now in
    added_on (g.B.Bank.trees c.args.bank.now) (g.B.Bank.trees c.loop-index.bank) (g.B.Bank.trees c.add_constructor.new.bank) c.args.list.now c.loop-index.list c.add_constructor.new.list
    (filter_map (constructor_applied c.args.at.phase) (enumerate_from 1 (map declared_of (take c.loop-index.index items)))) (filter_map (constructor_applied c.args.at.phase) ((c.loop-index.index + 1, declared_of c.declared-item.result) ∷ []))
    (filter_map (constructor_applied c.args.at.phase) (enumerate_from 1 (map declared_of (take (c.loop-index.index + 1) items))))
    c.loop-index.invariant c.add_constructor.ensures.grows c.in_ok-add_constructor.ensures.adds
    (numbered_more declared_of (constructor_applied c.args.at.phase) items c.loop-index.index c.declared-item.result c.loop-index-test.true c.declared-item.is)

pub returns-in_err-add_constructor-clause-grows : goal.returns-in_err-add_constructor-clause-grows
returns-in_err-add_constructor-clause-grows g c = Grows_trans (g.B.Bank.trees c.args.bank.now) (g.B.Bank.trees c.loop-index.bank) (g.B.Bank.trees c.add_constructor.new.bank) c.loop-index.invariant.grows c.add_constructor.ensures.grows
