use Rattle.std.proofs.Common.{IfOk, subst}
use Rattle.spec_terms.specs.Binding.{resolved}
use Rattle.spec_terms.specs.Term.{Term}
use Rattle.term_tree.specs.Bank.{tree_at, Names}
use Rattle.term_tree.proofs.BankLaws.{Grows_refl}
use Rattle.unify_match.specs.Seen.{seen}
use Rattle.unified_visits.proofs.Lifting.{lifted_own, lifted_bound}
use Rattle.unified_visits.proofs.constrained.lifted_variable.Goals as goal

pub returns-then-number-first-clause-names : goal.returns-then-number-first-clause-names
returns-then-number-first-clause-names g c =
    let all = g.B.Bank.trees c.args.bank.now in
    subst (λ (t : Term). IfOk c.apply_unlimited.result (λ made. Names (g.B.Bank.trees c.apply_unlimited.new.bank) made t))
    (lifted_own (resolved (seen all c.args.lift.binds.now.pairs)) c.args.lift.first c.args.lift.next c.args.number (tree_at all c.args.id) c.requires.is c.if-number-first.true) c.apply_unlimited.ensures.names

pub returns-clause-names : goal.returns-clause-names
returns-clause-names g c =
    let all = g.B.Bank.trees c.args.bank.now in
    subst (λ (t : Term). IfOk c.var.result (λ made. Names (g.B.Bank.trees c.var.new.self) made t))
    (lifted_bound (resolved (seen all c.args.lift.binds.now.pairs)) c.args.lift.first c.args.lift.next c.args.number c.in_ok-made.made (tree_at all c.args.id) c.requires.is c.if-number-first.false c.in_ok-made.ensures) c.var.ensures.names

pub returns-in_err-made-clause-grows : goal.returns-in_err-made-clause-grows
returns-in_err-made-clause-grows g c = Grows_refl (g.B.Bank.trees c.args.bank.now)
