use Rattle.std.proofs.Common.{List, length, sym, subst}
use borrow.Author.Tests.{ltb-true}
use Rattle.clause_form.specs.Seen.{IdClause}
use Rattle.clause_form.specs.Fit.{IsFit}
use Rattle.attack_candidates.specs.declared.found.Goal.{Goal}
use Rattle.attack_candidates.specs.Sound.{AreFitGoals}
use Rattle.attack_candidates.proofs.Keeping.{goal_fit}
use Rattle.attack_candidates.proofs.searching.try_goal.Goals as goal

pub try_clause-requires-clause-clause : goal.try_clause-requires-clause-clause
try_clause-requires-clause-clause c =
    let all = c.args.bank.now in
    let goals = c.deref.result.now in
    let found = c.in-Some.ensures.lookup in
    let within = ltb-true c.args.place (length goals) (sym found.0) in
    subst (λ (x : IdClause). IsFit all x) (sym c.in_ok-clause.ensures)
    (goal_fit all goals c.args.place c.in-Some.goal.now found.1 (subst (λ (gs : List Goal). AreFitGoals all gs) (sym c.deref.ensures.value) c.requires.sound.goals) within)
