use Rattle.std.proofs.Common.{List, sym, subst, arith}
use Rattle.std.proofs.lemmas.Grind.{common_steps}
use Rattle.std.specs.List.{AllByRecursion}
use Rattle.spec_terms.specs.Term.{Term}
use Rattle.cert_stages.specs.Answers.{numbered_at, AreRight}
use Rattle.cert_stages.specs.Unsolved.{IsUnsolvedOne}
use Rattle.cert_stages.proofs.Passing.{all_go_on, all_fail, all_end}
use Rattle.cert_checker.proofs.pairing.close_all.Goals as goal

pub close_one-requires-clause-right : goal.close_one-requires-clause-right
close_one-requires-clause-right g c = subst (λ (all : List Term). AreRight c.args.checker.now.numbers.now (numbered_at all c.args.checker.now.clauses.now)) (sym c.each.invariant.same) c.requires.right

pub close_one-requires-clause-each : goal.close_one-requires-clause-each
close_one-requires-clause-each g c = subst (λ (all : List Term). AllByRecursion (IsUnsolvedOne all c.args.checker.now.clauses.now c.args.checker.now.numbers.now) c.args.unsolved.now) (sym c.each.invariant.same) c.requires.each

pub each-preserved : goal.each-preserved
each-preserved g c =
    all_go_on (g.B.Bank.trees c.args.bank.now) c.args.checker.now.clauses.now c.args.checker.now.numbers.now c.args.checker.now.rows.now c.args.from c.each.solved c.each.next c.in-All.left (g.B.Bank.trees c.each.bank) (g.B.Bank.trees c.close_one.new.bank) c.in_ok-left.field-0
    c.each.invariant (omega arith) c.close_one.ensures.bank c.in-All.is c.in_ok-left.ensures.closed

pub returns-in-Except-clause-closed : goal.returns-in-Except-clause-closed
returns-in-Except-clause-closed g c =
    all_fail (g.B.Bank.trees c.args.bank.now) c.args.checker.now.clauses.now c.args.checker.now.numbers.now c.args.checker.now.rows.now c.args.from c.each.solved c.each.next c.in-Except.pair (g.B.Bank.trees c.each.bank) c.in_ok-left.field-0
    c.each.invariant (omega arith) c.in-Except.is c.in_ok-left.ensures.closed

pub returns-clause-closed : goal.returns-clause-closed
returns-clause-closed g c = all_end (g.B.Bank.trees c.args.bank.now) c.args.checker.now.clauses.now c.args.checker.now.numbers.now c.args.checker.now.rows.now c.args.from c.each.solved c.each.next (g.B.Bank.trees c.each.bank) c.each.invariant (omega arith)

pub returns-in-Except-clause-bank : goal.returns-in-Except-clause-bank
returns-in-Except-clause-bank g c = grind (arith, common_steps)
