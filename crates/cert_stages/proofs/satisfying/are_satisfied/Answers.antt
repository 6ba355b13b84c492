use Rattle.std.proofs.Common.{◌≡◌, ◌∙◌, ℕ, ◌+◌, ◌≤◌, Bool, true, false, Some, List, length, drop, ap, sym, subst, rules, arith}
use Rattle.std.specs.Prelude.{◌&&◌, nat_eq, slice_get, filter}
use Rattle.std.proofs.lemmas.List.{length-map}
use Rattle.std.proofs.lemmas.Bool.{false≢true}
use Rattle.spec_terms.specs.Term.{Term}
use Rattle.spec_clauses.specs.Fact.{Clause}
use Rattle.spec_translation.specs.Satisfied.{is_bad}
use Rattle.spec_certificates.specs.Certificate.{Numbered, GoalHolds}
use Rattle.spec_certificates.specs.Ruling.{resting_bad}
use Rattle.pi_tree.specs.Protocols.{protocol_of}
use Rattle.clause_form.specs.Seen.{clause_at}
use Rattle.clause_form.specs.Fit.{clauses_at}
use Rattle.cert_stages.specs.Answers.{numbered_at, rests_by}
use Rattle.cert_stages.proofs.UnsolvedOnes.{number_there}
use Rattle.cert_stages.proofs.Walking.{IsWalked, with_number, clause_next, none_ahead, walk_goes_on, walk_fails, walk_ends, sought_ahead, passed_over}
use Rattle.clause_form.proofs.Fit.{clause_fit_at}
use Rattle.cert_stages.proofs.Fitting.{clause_at_index}
use Rattle.cert_stages.proofs.satisfying.are_satisfied.Goals as goal
use Rattle.cert_stages.proofs.satisfying.are_satisfied.Goals.{then-is_due+in_ok-next_satisfies+else-not-branch, else-is_due}

abbrev due : List ℕ → Numbered → Bool
due numbers d = rests_by numbers d && is_bad d.clause.conclusion

due_there : (numbers : List ℕ) (k number : ℕ) (c : Clause Term) → slice_get numbers k ≡ Some number → due numbers (with_number (k + 1) c) ≡ nat_eq number 0 && is_bad c.conclusion
due_there numbers k number c e = ap (λ (n : ℕ). nat_eq n 0 && is_bad c.conclusion) (number_there numbers k number c e)

pub number_at-number-requires : goal.number_at-number-requires
number_at-number-requires g c = omega (arith, c.requires.as_many, c.each-test.true)

pub next_satisfies-requires-clause-known : goal.next_satisfies-requires-clause-known
next_satisfies-requires-clause-known g c = (clause_fit_at (g.B.Bank.trees c.args.bank.now) c.args.checker.now.clauses.now c.each.k c.clause-item.result c.clause-item.is c.requires.fit c.each-test.true).known

pub overflow_add-next : goal.overflow_add-next
overflow_add-next g c =
    let yes : c.in_ok-next_satisfies.field-0 ≡ true = search rules in
    let within = c.in_ok-next_satisfies.ensures.within yes in
    omega (arith, within)

pub returns-then-not-branch : goal.returns-then-not-branch
returns-then-not-branch g c = λ q asked.
    let P = protocol_of c.args.checker.now.protocol.now in
    let all = g.B.Bank.trees c.args.bank.now in
    let cs = c.args.checker.now.clauses.now in
    let numbers = c.args.checker.now.numbers.now in
    let rows = c.args.checker.now.goals.now in
    let seen = clause_at all c.clause-item.result in
    let ahead = clause_next (clauses_at all cs) c.each.k seen (clause_at_index all cs c.each.k c.clause-item.result c.clause-item.is c.each-test.true) in
    let there = due_there numbers c.each.k c.number_at-number.result seen c.number_at-number.ensures in
    let passes : due numbers (with_number (c.each.k + 1) seen) ≡ true = there ∙ (sym c.is_due.ensures ∙ c.if-is_due.true) in
    let no : c.in_ok-next_satisfies.field-0 ≡ false = search rules in
    walk_fails (GoalHolds P q) (resting_bad (rests_by numbers) (numbered_at all cs)) rows 0 (resting_bad (rests_by numbers) (drop c.each.k (numbered_at all cs))) (resting_bad (rests_by numbers) (drop (c.each.k + 1) (numbered_at all cs))) c.each.next (with_number (c.each.k + 1) seen)
    (sought_ahead (due numbers) (drop c.each.k (numbered_at all cs)) (drop (c.each.k + 1) (numbered_at all cs)) (with_number (c.each.k + 1) seen) ahead passes)
    (λ x. false≢true (sym no ∙ (c.in_ok-next_satisfies.ensures.satisfies q asked).1 x)) (c.each.invariant q asked)

pub each-preserved : goal.each-preserved
each-preserved g c = λ q asked.
    let P = protocol_of c.args.checker.now.protocol.now in
    let all = g.B.Bank.trees c.args.bank.now in
    let cs = c.args.checker.now.clauses.now in
    let numbers = c.args.checker.now.numbers.now in
    let rows = c.args.checker.now.goals.now in
    let seen = clause_at all c.clause-item.result in
    let whole = resting_bad (rests_by numbers) (numbered_at all cs) in
    let behind = resting_bad (rests_by numbers) (drop (c.each.k + 1) (numbered_at all cs)) in
    let ahead = clause_next (clauses_at all cs) c.each.k seen (clause_at_index all cs c.each.k c.clause-item.result c.clause-item.is c.each-test.true) in
    let there = due_there numbers c.each.k c.number_at-number.result seen c.number_at-number.ensures in
    elim c.if-is_due.branch as (λ _. IsWalked (GoalHolds P q) whole rows 0 behind c.if-is_due.next) [
      | then-is_due+in_ok-next_satisfies+else-not-branch w ↦
          let yes : w.in_ok-next_satisfies.field-0 ≡ true = search rules in
          subst (λ n. IsWalked (GoalHolds P q) whole rows 0 behind n) (sym w.next-is)
          (walk_goes_on (GoalHolds P q) whole rows 0 (resting_bad (rests_by numbers) (drop c.each.k (numbered_at all cs))) behind c.each.next (with_number (c.each.k + 1) seen)
          (sought_ahead (due numbers) (drop c.each.k (numbered_at all cs)) (drop (c.each.k + 1) (numbered_at all cs)) (with_number (c.each.k + 1) seen) ahead (there ∙ (sym c.is_due.ensures ∙ w.if-is_due.true)))
          ((w.in_ok-next_satisfies.ensures.satisfies q asked).0 yes) (c.each.invariant q asked))
      | else-is_due w ↦
          subst (λ n. IsWalked (GoalHolds P q) whole rows 0 behind n) (sym w.next-is)
          (subst (λ a. IsWalked (GoalHolds P q) whole rows 0 a c.each.next) (passed_over (due numbers) (drop c.each.k (numbered_at all cs)) (drop (c.each.k + 1) (numbered_at all cs)) (with_number (c.each.k + 1) seen) ahead (there ∙ (sym c.is_due.ensures ∙ w.if-is_due.false))) (c.each.invariant q asked))
    ]

pub returns : goal.returns
returns g c = λ q asked.
    let P = protocol_of c.args.checker.now.protocol.now in
    let all = g.B.Bank.trees c.args.bank.now in
    let cs = c.args.checker.now.clauses.now in
    let numbers = c.args.checker.now.numbers.now in
    let past : length (clauses_at all cs) ≤ c.each.k = omega (arith, c.each-test.false, length-map cs (clause_at all)) in
    walk_ends (GoalHolds P q) (resting_bad (rests_by numbers) (numbered_at all cs)) c.args.checker.now.goals.now 0 (resting_bad (rests_by numbers) (drop c.each.k (numbered_at all cs))) c.each.next
    (ap (filter (due numbers)) (none_ahead 1 (clauses_at all cs) c.each.k past)) (c.each.invariant q asked)
