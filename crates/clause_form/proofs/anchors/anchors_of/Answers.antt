use Rattle.std.proofs.Common.{◌≡◌, ℕ, List, [], IfOk, subst}
use Rattle.spec_terms.specs.Term.{Term}
use Rattle.spec_clauses.specs.Fact.{Clause}
use Rattle.clause_form.specs.Facts.{clause_of}
use Rattle.clause_form.specs.Seen.{clause_at}
use Rattle.clause_form.proofs.Anchoring.{anchors_then, anchors_else}
use Rattle.clause_form.proofs.anchors.anchors_of.Goals as goal

pub returns-then-passes_on : goal.returns-then-passes_on
returns-then-passes_on g c =
    let clause : Clause Term = clause_at (g.B.Bank.trees c.args.bank.now) (clause_of c.args.concl.now c.args.hyps.now []) in
    subst (λ (v : List ℕ). IfOk c.firm_variables_of.result (λ numbers. numbers.items ≡ v)) (anchors_then clause c.passes_on.result c.passes_on.ensures c.if-passes_on.true) c.firm_variables_of.ensures

pub returns : goal.returns
returns g c =
    let clause : Clause Term = clause_at (g.B.Bank.trees c.args.bank.now) (clause_of c.args.concl.now c.args.hyps.now []) in
    subst (λ (v : List ℕ). IfOk c.variables_elsewhere.result (λ numbers. numbers.items ≡ v)) (anchors_else clause c.passes_on.result c.passes_on.ensures c.if-passes_on.false) c.variables_elsewhere.ensures
