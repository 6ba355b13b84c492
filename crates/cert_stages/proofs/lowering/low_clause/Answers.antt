use Rattle.std.proofs.Common.{subst}
use Rattle.term_tree.proofs.BankLaws.{Grows_refl}
use Rattle.clause_form.specs.declared.normal.Normal.{Normal}
use Rattle.clause_form.specs.Normals.{IfClause}
use Rattle.clause_form.specs.Fit.{IsLowWithinLimit}
use Rattle.cert_stages.proofs.Lowered.{no_tautology, normed}
use Rattle.cert_stages.proofs.lowering.low_clause.Goals as goal

pub unreachable-requires : goal.unreachable-requires
unreachable-requires g c = no_tautology (g.B.Bank.trees c.args.bank.now) (g.B.Bank.trees c.norm.new.bank) c.args.clause.now c.in_ok-copied.copied c.in_ok-norm.field-0 c.in_ok-copied.ensures c.requires.normal c.in-Tautology.is c.in_ok-norm.ensures.names

pub returns-clause-names : goal.returns-clause-names
returns-clause-names g c = normed (g.B.Bank.trees c.args.bank.now) (g.B.Bank.trees c.norm.new.bank) c.args.clause.now c.in_ok-copied.copied c.in-Clause.made c.in_ok-norm.field-0 c.in_ok-copied.ensures c.requires.normal c.in-Clause.is c.in_ok-norm.ensures.names

pub returns-clause-low : goal.returns-clause-low
returns-clause-low g c =
    let now = g.B.Bank.trees c.norm.new.bank in
    subst (λ (n : Normal). IfClause n (IsLowWithinLimit now)) c.in-Clause.is c.in_ok-norm.ensures.low

pub returns-in_err-copied-clause-grows : goal.returns-in_err-copied-clause-grows
returns-in_err-copied-clause-grows g c = Grows_refl (g.B.Bank.trees c.args.bank.now)
