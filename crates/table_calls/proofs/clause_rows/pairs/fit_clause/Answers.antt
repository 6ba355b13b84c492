use Rattle.std.proofs.Common.{subst}
use Rattle.term_tree.proofs.BankLaws.{Grows_refl}
use Rattle.clause_form.specs.declared.normal.Normal.{Normal}
use Rattle.clause_form.specs.Normals.{IfClause}
use Rattle.clause_form.specs.Fit.{IsLowWithinLimit}
use Rattle.table_calls.proofs.clause_rows.pairs.fit_clause.Goals as goal

pub fit_of-requires-clause-low : goal.fit_of-requires-clause-low
fit_of-requires-clause-low c = subst (λ (n : Normal). IfClause n (IsLowWithinLimit c.norm.new.bank)) c.in-Clause.is c.in_ok-norm.ensures.low

pub returns-then-not-branch-clause-grows : goal.returns-then-not-branch-clause-grows
returns-then-not-branch-clause-grows c = Grows_refl c.args.bank.now

pub returns-in_err-is_normal-clause-grows : goal.returns-in_err-is_normal-clause-grows
returns-in_err-is_normal-clause-grows c = Grows_refl c.args.bank.now

pub returns-in_err-copied-clause-grows : goal.returns-in_err-copied-clause-grows
returns-in_err-copied-clause-grows c = Grows_refl c.args.bank.now
