use Rattle.std.proofs.Common.{◌≡◌, ◌∙◌, List, get_or, ap, sym, subst, arith}
use Rattle.std.specs.List.{AllByRecursion}
use Rattle.std.proofs.lemmas.Option.{slice_get-get_or}
use Rattle.spec_terms.specs.Term.{Term}
use Rattle.spec_terms.proofs.Replace.{some_same}
use Rattle.spec_fingerprints.specs.Fingerprints.{fingerprint_of}
use Rattle.clause_form.specs.Seen.{clause_at, IdClause}
use Rattle.clause_form.proofs.Fit.{fit_in}
use Rattle.cert_stages.specs.Answers.{numbered_at, AreRight}
use Rattle.cert_stages.specs.Unsolved.{IsUnsolvedOne}
use Rattle.cert_stages.proofs.UnsolvedOnes.{no_unsolved_one, is_unsolved_one}
use Rattle.cert_stages.proofs.Passing.{with_begins, with_goes_on, with_fails, with_ends}
use Rattle.cert_stages.proofs.closing.close_solved.Goals as goal

pub conclusion_fingerprint-requires : goal.conclusion_fingerprint-requires
conclusion_fingerprint-requires g c = fit_in (g.B.Bank.trees c.args.bank.now) c.args.checker.now.clauses.now c.args.solved c.index-checker-solved.result c.requires.fit c.requires.solved

pub close_met-requires-clause-print : goal.close_met-requires-clause-print
close_met-requires-clause-print g c = λ d there.
    (let cs = c.args.checker.now.clauses.now in
    let same : get_or cs c.args.solved c.index-checker-solved.result ≡ d = some_same (sym (slice_get-get_or cs c.args.solved c.index-checker-solved.result c.requires.solved) ∙ there) in
    c.conclusion_fingerprint.ensures ∙ (ap (λ (x : IdClause). fingerprint_of (clause_at (g.B.Bank.trees c.args.bank.now) x).conclusion) same ∙ ap (λ (all : List Term). fingerprint_of (clause_at all d).conclusion) (sym c.each.invariant.same)))

pub each-init : goal.each-init
each-init g c = with_begins (g.B.Bank.trees c.args.bank.now) c.args.checker.now.clauses.now c.args.checker.now.numbers.now c.args.checker.now.rows.now c.args.from c.args.solved c.args.unsolved.now c.requires.places c.requires.as_many

pub close_met-requires-clause-right : goal.close_met-requires-clause-right
close_met-requires-clause-right g c = subst (λ (all : List Term). AreRight c.args.checker.now.numbers.now (numbered_at all c.args.checker.now.clauses.now)) (sym c.each.invariant.same) c.requires.right

pub close_met-requires-clause-unsolved : goal.close_met-requires-clause-unsolved
close_met-requires-clause-unsolved g c =
    let cs = c.args.checker.now.clauses.now in
    let numbers = c.args.checker.now.numbers.now in
    let each = subst (λ (all : List Term). AllByRecursion (IsUnsolvedOne all cs numbers) c.args.unsolved.now) (sym c.each.invariant.same) c.requires.each in
    is_unsolved_one (g.B.Bank.trees c.each.bank) cs numbers c.args.unsolved.now c.each.one-index no_unsolved_one each c.each-test.true

pub each-preserved : goal.each-preserved
each-preserved g c =
    with_goes_on (g.B.Bank.trees c.args.bank.now) c.args.checker.now.clauses.now c.args.checker.now.numbers.now c.args.checker.now.rows.now c.args.from c.args.solved c.args.unsolved.now c.each.one-index c.each.next (g.B.Bank.trees c.each.bank) c.each.invariant
    no_unsolved_one c.each-test.true c.in_ok-left.field-0 c.in_ok-left.ensures.closed c.in-All.left (g.B.Bank.trees c.close_met.new.bank) c.close_met.ensures.bank c.in-All.is

pub returns-in-Except-clause-closed : goal.returns-in-Except-clause-closed
returns-in-Except-clause-closed g c =
    with_fails (g.B.Bank.trees c.args.bank.now) c.args.checker.now.clauses.now c.args.checker.now.numbers.now c.args.checker.now.rows.now c.args.from c.args.solved c.args.unsolved.now c.each.one-index c.each.next (g.B.Bank.trees c.each.bank) c.each.invariant
    no_unsolved_one c.each-test.true c.in_ok-left.field-0 c.in_ok-left.ensures.closed c.in-Except.pair c.in-Except.is

pub returns-clause-closed : goal.returns-clause-closed
returns-clause-closed g c =
    with_ends (g.B.Bank.trees c.args.bank.now) c.args.checker.now.clauses.now c.args.checker.now.numbers.now c.args.checker.now.rows.now c.args.from c.args.solved c.args.unsolved.now c.each.one-index c.each.next (g.B.Bank.trees c.each.bank) c.each.invariant (omega arith)
