use Rattle.std.proofs.Common.{List, subst, arith}
use Rattle.std.specs.Prelude.{IfOk}
use Rattle.spec_certificates.specs.Certificate.{Pair}
use Rattle.clause_form.specs.Fit.{clauses_at}
use Rattle.cert_stages.specs.Answers.{IsClosedSo}
use Rattle.cert_stages.proofs.Numbers.{number_positive, number_zero}
use Rattle.cert_stages.proofs.Passing.{clause_within, passed_none, resting_pairs}
use Rattle.cert_stages.proofs.closing.close_one.Goals as goal

pub number_at-requires : goal.number_at-requires
number_at-requires g c = omega (arith, c.requires.solved, c.requires.as_many)

pub returns-then-number_at-gt0-clause-closed : goal.returns-then-number_at-gt0-clause-closed
returns-then-number_at-gt0-clause-closed g c =
    let cs = c.args.checker.now.clauses.now in
    let numbers = c.args.checker.now.numbers.now in
    let chooses = number_positive numbers c.args.solved c.number_at.result c.number_at.ensures c.if-number_at-gt0.true in
    passed_none (g.B.Bank.trees c.args.bank.now) cs numbers c.args.checker.now.rows.now c.args.from c.args.solved chooses.0 (clause_within cs c.args.solved c.requires.solved) c.requires.solved c.requires.right chooses.1

pub returns-clause-closed : goal.returns-clause-closed
returns-clause-closed g c =
    let all = g.B.Bank.trees c.args.bank.now in
    let cs = c.args.checker.now.clauses.now in
    let numbers = c.args.checker.now.numbers.now in
    let rests = number_zero numbers c.args.solved c.number_at.result c.number_at.ensures c.if-number_at-gt0.false in
    subst (λ (ps : List Pair). IfOk c.close_solved.result (λ o. IsClosedSo (clauses_at all cs) ps c.args.checker.now.rows.now c.args.from o))
    (resting_pairs all cs numbers c.args.solved (clause_within cs c.args.solved c.requires.solved) c.requires.solved rests) c.close_solved.ensures.closed
