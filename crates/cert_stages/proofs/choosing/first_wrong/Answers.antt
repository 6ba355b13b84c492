use Rattle.std.proofs.Common.{◌∙◌, ◌+◌, ◌≤◌, drop, length, sym, subst, rules, arith}
use Rattle.std.proofs.lemmas.Bool.{false≢true}
use Rattle.std.proofs.lemmas.List.{length-map}
use Rattle.spec_derivations.specs.Choice.{IsRight}
use Rattle.clause_form.specs.Seen.{clause_at}
use Rattle.clause_form.specs.Fit.{clauses_at}
use Rattle.clause_form.proofs.Walks.{clause_known_at}
use Rattle.cert_stages.specs.Answers.{numbered_at}
use Rattle.cert_stages.proofs.Numbers.{looking_begins, looking_goes_on, looking_fails, looking_ends}
use Rattle.cert_stages.proofs.Fitting.{clause_at_index}
use Rattle.cert_stages.proofs.UnsolvedOnes.{number_there}
use Rattle.cert_stages.proofs.Walking.{with_number, clause_next, none_ahead}
use Rattle.cert_stages.proofs.choosing.first_wrong.Goals as goal

pub each-init : goal.each-init
each-init g c = looking_begins c.args.checker.now.numbers.now (numbered_at (g.B.Bank.trees c.args.bank.now) c.args.checker.now.clauses.now)

pub is_right-requires : goal.is_right-requires
is_right-requires g c = clause_known_at (g.B.Bank.trees c.args.bank.now) c.args.checker.now.clauses.now c.each.k c.clause-item.result c.clause-item.is c.requires.known c.each-test.true

pub number_at-number-requires : goal.number_at-number-requires
number_at-number-requires g c = omega (arith, c.requires.as_many, c.each-test.true)

pub returns-then-not-is_right : goal.returns-then-not-is_right
returns-then-not-is_right g c =
    let all = g.B.Bank.trees c.args.bank.now in
    let cs = c.args.checker.now.clauses.now in
    let numbers = c.args.checker.now.numbers.now in
    let seen = clause_at all c.clause-item.result in
    let ahead = clause_next (clauses_at all cs) c.each.k seen (clause_at_index all cs c.each.k c.clause-item.result c.clause-item.is c.each-test.true) in
    let there = number_there numbers c.each.k c.number_at-number.result seen c.number_at-number.ensures in
    looking_fails numbers (numbered_at all cs) (drop c.each.k (numbered_at all cs)) _ (with_number (c.each.k + 1) seen) ahead
    (λ right. false≢true (sym c.if-not-is_right.true ∙ c.is_right.ensures.1 (subst (IsRight seen) there right))) c.each.invariant

pub each-preserved : goal.each-preserved
each-preserved g c =
    let all = g.B.Bank.trees c.args.bank.now in
    let cs = c.args.checker.now.clauses.now in
    let numbers = c.args.checker.now.numbers.now in
    let seen = clause_at all c.clause-item.result in
    let ahead = clause_next (clauses_at all cs) c.each.k seen (clause_at_index all cs c.each.k c.clause-item.result c.clause-item.is c.each-test.true) in
    let there = number_there numbers c.each.k c.number_at-number.result seen c.number_at-number.ensures in
    looking_goes_on numbers (numbered_at all cs) (drop c.each.k (numbered_at all cs)) _ (with_number (c.each.k + 1) seen) ahead (subst (IsRight seen) (sym there) (c.is_right.ensures.0 (search rules))) c.each.invariant

pub returns : goal.returns
returns g c =
    let all = g.B.Bank.trees c.args.bank.now in
    let cs = c.args.checker.now.clauses.now in
    let past : length (clauses_at all cs) ≤ c.each.k = omega (arith, c.each-test.false, length-map cs (clause_at all)) in
    looking_ends c.args.checker.now.numbers.now (numbered_at all cs) (drop c.each.k (numbered_at all cs)) (none_ahead 1 (clauses_at all cs) c.each.k past) c.each.invariant
