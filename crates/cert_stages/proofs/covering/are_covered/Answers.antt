use Rattle.std.proofs.Common.{◌≡◌, ◌∙◌, ◌+◌, ◌≤◌, true, false, length, drop, sym, rules, arith}
use Rattle.std.proofs.lemmas.Bool.{false≢true}
use Rattle.std.proofs.lemmas.List.{length-map}
use Rattle.spec_certificates.specs.Certificate.{CoverRowHolds, numbered_from}
use Rattle.clause_form.specs.Seen.{clause_at}
use Rattle.clause_form.specs.Fit.{clauses_at}
use Rattle.cert_stages.proofs.Walking.{with_number, clause_next, none_ahead, walk_begins, walk_goes_on, walk_fails, walk_ends}
use Rattle.clause_form.proofs.Fit.{clause_fit_at}
use Rattle.cert_stages.proofs.Fitting.{clause_at_index}
use Rattle.cert_stages.proofs.covering.are_covered.Goals as goal

pub next_covers-requires-clause-known : goal.next_covers-requires-clause-known
next_covers-requires-clause-known g c = (clause_fit_at (g.B.Bank.trees c.args.bank.now) c.args.clauses.now c.each.k c.index-clauses-k.result c.index-clauses-k.is c.requires.clauses c.each-test.true).known

pub next_covers-requires-clause-small : goal.next_covers-requires-clause-small
next_covers-requires-clause-small g c = (clause_fit_at (g.B.Bank.trees c.args.bank.now) c.args.clauses.now c.each.k c.index-clauses-k.result c.index-clauses-k.is c.requires.clauses c.each-test.true).small

pub overflow_add-next : goal.overflow_add-next
overflow_add-next g c =
    let yes : c.in_ok-next_covers.field-0 ≡ true = search rules in
    let within = c.in_ok-next_covers.ensures.within yes in
    omega (arith, within)

pub each-init : goal.each-init
each-init g c =
    let all = g.B.Bank.trees c.args.bank.now in
    walk_begins (CoverRowHolds (clauses_at all c.args.checker.now.clauses.now)) (numbered_from 1 (clauses_at all c.args.clauses.now)) c.args.checker.now.rows.now c.args.from

pub returns-then-not-branch : goal.returns-then-not-branch
returns-then-not-branch g c =
    let all = g.B.Bank.trees c.args.bank.now in
    let cs = c.args.clauses.now in
    let seen = clause_at all c.index-clauses-k.result in
    let ahead = clause_next (clauses_at all cs) c.each.k seen (clause_at_index all cs c.each.k c.index-clauses-k.result c.index-clauses-k.is c.each-test.true) in
    let no : c.in_ok-next_covers.field-0 ≡ false = search rules in
    walk_fails (CoverRowHolds (clauses_at all c.args.checker.now.clauses.now)) (numbered_from 1 (clauses_at all cs)) c.args.checker.now.rows.now c.args.from
    (drop c.each.k (numbered_from 1 (clauses_at all cs))) (drop (c.each.k + 1) (numbered_from 1 (clauses_at all cs))) c.each.next (with_number (c.each.k + 1) seen) ahead
    (λ x. false≢true (sym no ∙ c.in_ok-next_covers.ensures.covers.1 x)) c.each.invariant

pub each-preserved : goal.each-preserved
each-preserved g c =
    let all = g.B.Bank.trees c.args.bank.now in
    let cs = c.args.clauses.now in
    let seen = clause_at all c.index-clauses-k.result in
    let ahead = clause_next (clauses_at all cs) c.each.k seen (clause_at_index all cs c.each.k c.index-clauses-k.result c.index-clauses-k.is c.each-test.true) in
    let yes : c.in_ok-next_covers.field-0 ≡ true = search rules in
    walk_goes_on (CoverRowHolds (clauses_at all c.args.checker.now.clauses.now)) (numbered_from 1 (clauses_at all cs)) c.args.checker.now.rows.now c.args.from
    (drop c.each.k (numbered_from 1 (clauses_at all cs))) (drop (c.each.k + 1) (numbered_from 1 (clauses_at all cs))) c.each.next (with_number (c.each.k + 1) seen) ahead
    (c.in_ok-next_covers.ensures.covers.0 yes) c.each.invariant

pub returns : goal.returns
returns g c =
    let all = g.B.Bank.trees c.args.bank.now in
    let cs = c.args.clauses.now in
    let past : length (clauses_at all cs) ≤ c.each.k = omega (arith, c.each-test.false, length-map cs (clause_at all)) in
    walk_ends (CoverRowHolds (clauses_at all c.args.checker.now.clauses.now)) (numbered_from 1 (clauses_at all cs)) c.args.checker.now.rows.now c.args.from
    (drop c.each.k (numbered_from 1 (clauses_at all cs))) c.each.next (none_ahead 1 (clauses_at all cs) c.each.k past) c.each.invariant
