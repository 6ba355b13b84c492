use Rattle.std.proofs.Common.{◌≡◌, ◌+◌, ◌<◌, subst}
use Rattle.std.specs.Prelude.{MatchResult}
use Rattle.std.proofs.lemmas.Result.{err_from_is_err_and}
use Rattle.spec_trees.specs.Tree.{bind, size}
use Rattle.spec_terms.specs.Term.{Term}
use Rattle.term_tree.specs.Bank.{tree_at, Names}
use Rattle.term_tree.proofs.BankLaws.{Grows_refl}
use Rattle.clause_resolve.specs.Stops.{StopsAt}
use Rattle.clause_resolve.specs.Low.{bound_from}
use Rattle.clause_resolve.specs.Lifting.{lifted_by}
use Rattle.clause_resolve.proofs.Stopping.{stops_as}
use Rattle.clause_resolve.proofs.SpendingLaws.{standing}
use Rattle.clause_resolve.proofs.LiftingLaws.{lifted_own, variable_lifted, symbol_short}
use Rattle.clause_resolve.proofs.lifting.lifted_variable.Goals as goal

pub returns-then-number-first-clause-outcome : goal.returns-then-number-first-clause-outcome
returns-then-number-first-clause-outcome g c =
    let all = g.B.Bank.trees c.args.bank.now in
    let new = g.B.Bank.trees c.applied.new.bank in
    subst (λ (t : Term). MatchResult c.applied.result (λ made. Names new made t × (c.applied.new.left + size t ≡ c.args.left.now)) (λ stop. StopsAt stop (c.args.left.now < size t)))
    (lifted_own (standing all c.args.lift.binds.now.pairs) c.args.lift.first bound_from c.args.number (tree_at all c.args.id) c.requires.is c.if-number-first.true) c.applied.ensures.outcome

pub returns-in_err-spend-clause-outcome : goal.returns-in_err-spend-clause-outcome
returns-in_err-spend-clause-outcome g c =
    let all = g.B.Bank.trees c.args.bank.now in
    let p = err_from_is_err_and c.from_residual.result c.from_residual.ensures.1 in
    rw (p.1, p.2) (stops_as c.in_err-spend.field-0.0 _ _ (symbol_short (bind (lifted_by all c.args.lift) (tree_at all c.args.id)) c.args.left.now) c.in_err-spend.ensures.outcome)

pub returns-clause-outcome : goal.returns-clause-outcome
returns-clause-outcome g c =
    let all = g.B.Bank.trees c.args.bank.now in
    variable_lifted all (g.B.Bank.trees c.var.new.self) (standing all c.args.lift.binds.now.pairs) c.args.lift.first bound_from c.args.number c.lifted_number.result c.args.id c.in_ok-made.made c.args.left.now c.spend.new.left
    c.requires.is c.if-number-first.false c.lifted_number.ensures c.in_ok-made.ensures.names c.in_ok-spend.ensures.outcome

pub returns-in_err-spend-clause-grows : goal.returns-in_err-spend-clause-grows
returns-in_err-spend-clause-grows g c = Grows_refl (g.B.Bank.trees c.args.bank.now)
