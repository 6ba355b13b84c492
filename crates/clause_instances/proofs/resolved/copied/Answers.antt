use Rattle.std.proofs.Common.{subst}
use Rattle.term_tree.proofs.BankLaws.{Grows_trans}
use Rattle.clause_form.specs.declared.normal.Normal.{Normal}
use Rattle.clause_form.specs.Normals.{IfClause}
use Rattle.clause_form.specs.Fit.{IsLowWithinLimit}
use Rattle.clause_instances.proofs.Owning.{never_tautology, own_norm}
use Rattle.clause_instances.proofs.resolved.copied.Goals as goal

pub unreachable-requires : goal.unreachable-requires
unreachable-requires c = never_tautology c.copy_into.new.bank c.norm.new.bank c.in_ok-clause.clause c.args.plain.now c.in_ok-norm.field-0 c.in_ok-clause.ensures.names c.requires c.in-Tautology.is c.in_ok-norm.ensures.names

pub returns-clause-names : goal.returns-clause-names
returns-clause-names c = own_norm c.copy_into.new.bank c.norm.new.bank c.in_ok-clause.clause c.in-Clause.made c.args.plain.now c.in_ok-norm.field-0 c.in_ok-clause.ensures.names c.requires c.in-Clause.is c.in_ok-norm.ensures.names

pub returns-clause-low : goal.returns-clause-low
returns-clause-low c = subst (λ (n : Normal). IfClause n (IsLowWithinLimit c.norm.new.bank)) c.in-Clause.is c.in_ok-norm.ensures.low

pub returns-clause-grows : goal.returns-clause-grows
returns-clause-grows c = Grows_trans c.args.bank.now c.copy_into.new.bank c.norm.new.bank c.copy_into.ensures.grows c.norm.ensures.grows
