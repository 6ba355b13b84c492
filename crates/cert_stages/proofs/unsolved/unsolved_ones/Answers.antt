use Rattle.std.proofs.Common.{◌≡◌, ◌∙◌, suc, ◌+◌, ◌<◌, Some, length, get_or, ap, sym, subst, arith}
use Rattle.std.proofs.lemmas.Option.{get_or_from_slice_get}
use Rattle.clause_form.specs.Seen.{clause_at, IdClause}
use Rattle.clause_form.proofs.Fit.{clause_fit_at}
use Rattle.clause_resolve.specs.Apart.{IsHypothesisAt}
use Rattle.cert_stages.proofs.Passing.{hypothesis_at}
use Rattle.cert_stages.proofs.UnsolvedOnes.{AreFoundTo, finding_begins, finding_passes, finding_adds, finding_ends, unsolved_here}
use Rattle.cert_stages.proofs.unsolved.unsolved_ones.Goals as goal
use Rattle.cert_stages.proofs.unsolved.unsolved_ones.Goals.{in-Some+in_ok-push-in-Some, in-None}

pub each-init : goal.each-init
each-init g c = finding_begins (g.B.Bank.trees c.args.bank.now) c.args.checker.now.clauses.now c.args.checker.now.numbers.now c.new-found.result.items c.new-found.ensures.items

pub number_at-number-requires : goal.number_at-number-requires
number_at-number-requires g c = omega (arith, c.requires.as_many, c.each-test.true)

pub unsolved_one-requires-clause-known : goal.unsolved_one-requires-clause-known
unsolved_one-requires-clause-known g c = (clause_fit_at (g.B.Bank.trees c.args.bank.now) c.args.checker.now.clauses.now c.each.place c.clause-item.result c.clause-item.is c.requires.fit c.each-test.true).known

pub unsolved_one-requires-clause-there : goal.unsolved_one-requires-clause-there
unsolved_one-requires-clause-there g c =
    let all = g.B.Bank.trees c.args.bank.now in
    let next : c.number_at-number.result ≡ suc c.in-Some.at = omega (arith, c.in-Some.ensures) in
    subst (λ (d : IdClause). IsHypothesisAt (clause_at all d) c.in-Some.at) (sym c.clause-item.is)
    (hypothesis_at all c.args.checker.now.clauses.now c.args.checker.now.numbers.now c.each.place c.in-Some.at c.clause-item.result c.each-test.true c.requires.right (c.number_at-number.ensures ∙ ap Some next))

pub each-preserved : goal.each-preserved
each-preserved g c =
    let all = g.B.Bank.trees c.args.bank.now in
    let cs = c.args.checker.now.clauses.now in
    let numbers = c.args.checker.now.numbers.now in
    let place = c.each.place in
    let number = c.number_at-number.result in
    let is : number ≡ get_or numbers place number = sym (get_or_from_slice_get numbers place number number c.number_at-number.ensures) in
    let within : place < length numbers = omega (arith, c.requires.as_many, c.each-test.true) in
    elim c.match-checked_sub.branch as (λ _. AreFoundTo all cs numbers c.match-checked_sub.found.items (place + 1)) [
      | in-Some+in_ok-push-in-Some w ↦
          let one = w.unsolved_one.result in
          let next : number ≡ suc w.in-Some.at = omega (arith, w.in-Some.ensures) in
          let stands : one.place ≡ place = ap (λ p. p.0) w.unsolved_one.ensures.places in
          let chosen : one.at ≡ w.in-Some.at = ap (λ p. p.1) w.unsolved_one.ensures.places in
          let here = unsolved_here all cs numbers place number w.in-Some.at c.clause-item.result one c.each-test.true c.clause-item.is c.number_at-number.ensures next w.unsolved_one.ensures.places w.unsolved_one.ensures.print in
          subst (λ f. AreFoundTo all cs numbers f.items (place + 1)) (sym w.found-is)
          (finding_adds all cs numbers c.each.found.items place number c.each.invariant is within one w.push.new.self.items (next ∙ ap suc (sym chosen)) stands here w.in_ok-push-in-Some.ensures.items)
      | in-None w ↦
          subst (λ f. AreFoundTo all cs numbers f.items (place + 1)) (sym w.found-is)
          (finding_passes all cs numbers c.each.found.items place number c.each.invariant is within (omega (arith, w.in-None.ensures)))
    ]

pub returns-clause-places : goal.returns-clause-places
returns-clause-places g c = finding_ends (g.B.Bank.trees c.args.bank.now) c.args.checker.now.clauses.now c.args.checker.now.numbers.now c.each.found.items c.each.place (omega (arith, c.requires.as_many, c.each-test.false)) c.each.invariant

pub returns-clause-each : goal.returns-clause-each
returns-clause-each g c = c.each.invariant.each
