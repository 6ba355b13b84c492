use Rattle.std.proofs.Common.{ap, sym, subst, arith}
use Rattle.std.proofs.lemmas.Grind.{common_steps}
use Rattle.std.proofs.lemmas.Bool.{MatchBool-at_true, MatchBool-at_false}
use Rattle.clause_form.specs.Facts.{fact_of}
use Rattle.clause_form.specs.Seen.{IsClauseIn, IdClause}
use Rattle.clause_resolve.proofs.SpendingLaws.{standing}
use Rattle.clause_resolve.proofs.Answering.{unanswered, answered_result, together_known, pair_below, pair_keeps}
use Rattle.term_tree.proofs.BankLaws.{Grows_refl}
use Rattle.clause_resolve.proofs.resolving.resolve_apart.Goals as goal

pub returns-then-clash-clause-answer : goal.returns-then-clash-clause-answer
returns-then-clash-clause-answer g c = λ chosen unsolved apart.
    unanswered (g.B.Bank.trees c.args.bank.now) c.args.solved.now _ unsolved c.args.apart.now (ap (λ (k : IdClause). k.conclusion) c.solved.view_is) apart c.requires.solved_low (λ s e. c.clash.ensures c.if-clash.true s s e)

pub returns-then-not-branch-clause-answer : goal.returns-then-not-branch-clause-answer
returns-then-not-branch-clause-answer g c = λ chosen unsolved apart.
    unanswered (g.B.Bank.trees c.args.bank.now) c.args.solved.now _ unsolved c.args.apart.now (ap (λ (k : IdClause). k.conclusion) c.solved.view_is) apart c.requires.solved_low (MatchBool-at_false _ _ c.if-not-branch.true c.in_ok-unify_facts.ensures.outcome)

pub found_under-requires-clause-known : goal.found_under-requires-clause-known
found_under-requires-clause-known g c =
    let all = g.B.Bank.trees c.args.bank.now in
    subst (λ (k : IdClause). IsClauseIn all k) (sym c.in_ok-clause.ensures) (together_known all c.args.solved.now c.args.apart.now.rest c.requires.solved c.requires.apart.rest)

pub found_under-requires-clause-low : goal.found_under-requires-clause-low
found_under-requires-clause-low g c =
    pair_below (g.B.Bank.trees c.args.bank.now) c.args.solved.now.diffs c.args.apart.now.rest.diffs c.in_ok-clause.clause.diffs c.requires.solved_low.diffs c.requires.apart.low.diffs (ap (λ (k : IdClause). k.diffs) c.in_ok-clause.ensures)

pub found_under-requires-clause-kept : goal.found_under-requires-clause-kept
found_under-requires-clause-kept g c =
    pair_keeps (g.B.Bank.trees c.args.bank.now) c.unify_facts.new.binds.pairs _ (fact_of c.args.apart.now.selected) c.args.solved.now (ap (λ (k : IdClause). k.conclusion) c.solved.view_is) c.unify_facts.ensures.ready c.requires.solved_low c.requires.apart.low.fact
    (MatchBool-at_true _ _ c.if-not-branch.false c.in_ok-unify_facts.ensures.outcome)

pub returns-clause-answer : goal.returns-clause-answer
returns-clause-answer g c = λ chosen unsolved apart.
    let all = g.B.Bank.trees c.args.bank.now in
    answered_result all (g.B.Bank.trees c.found_under.new.bank) c.args.solved.now c.in_ok-clause.clause _ unsolved c.args.apart.now (standing all c.unify_facts.new.binds.pairs) c.found_under.result (ap (λ (k : IdClause). k.conclusion) c.solved.view_is) c.in_ok-clause.ensures c.requires.solved_low
    (MatchBool-at_true _ _ c.if-not-branch.false c.in_ok-unify_facts.ensures.outcome) c.found_under.ensures.found apart

pub returns-then-clash-clause-grows : goal.returns-then-clash-clause-grows
returns-then-clash-clause-grows g c = Grows_refl (g.B.Bank.trees c.args.bank.now)

pub returns-in_err-binds-clause-grows : goal.returns-in_err-binds-clause-grows
returns-in_err-binds-clause-grows g c = Grows_refl (g.B.Bank.trees c.args.bank.now)

pub returns-in_err-unify_facts-clause-grows : goal.returns-in_err-unify_facts-clause-grows
returns-in_err-unify_facts-clause-grows g c = Grows_refl (g.B.Bank.trees c.args.bank.now)

pub returns-then-not-branch-clause-grows : goal.returns-then-not-branch-clause-grows
returns-then-not-branch-clause-grows g c = Grows_refl (g.B.Bank.trees c.args.bank.now)

pub returns-in_err-clause-clause-grows : goal.returns-in_err-clause-clause-grows
returns-in_err-clause-clause-grows g c = Grows_refl (g.B.Bank.trees c.args.bank.now)

pub unify_facts-requires-clause-ready : goal.unify_facts-requires-clause-ready
unify_facts-requires-clause-ready g c = c.in_ok-binds.ensures.ready (g.B.Bank.trees c.args.bank.now)

pub unify_facts-requires-clause-left : goal.unify_facts-requires-clause-left
unify_facts-requires-clause-left g c = grind (arith, common_steps)
