use Rattle.std.proofs.Common.{IfOk, Some, None, sym, subst}
use Rattle.spec_clauses.specs.Diff.{Side}
use Rattle.fact_placing.specs.Matched.{NamesSide}
use Rattle.fact_placing.proofs.Values.{value_known, value_matched}
use Rattle.fact_placing.proofs.copied.copied_variable.Goals as goal

pub copied_own-requires : goal.copied_own-requires
copied_own-requires g c =
    value_known (g.B.Bank.trees c.args.from.now.bank.now) c.args.from.now.binds.now.pairs c.args.from.now.first c.args.number c.in-Some.value c.requires c.in-Some.ensures

pub returns-in-Some-clause-names : goal.returns-in-Some-clause-names
returns-in-Some-clause-names g c =
    let is = value_matched (g.B.Bank.trees c.args.from.now.bank.now) c.args.from.now.binds.now.pairs c.args.from.now.first c.args.number (Some c.in-Some.value) c.in-Some.ensures in
    subst (λ (s : Side). IfOk c.copied_own.result (λ made. NamesSide (g.T.Bank.trees c.copied_own.new.into) c.args.from.now.next made s)) (sym is) c.copied_own.ensures.names

pub returns-in-None-clause-names : goal.returns-in-None-clause-names
returns-in-None-clause-names g c =
    let is = value_matched (g.B.Bank.trees c.args.from.now.bank.now) c.args.from.now.binds.now.pairs c.args.from.now.first c.args.number None c.in-None.ensures in
    subst (λ (s : Side). IfOk c.same_variable.result (λ made. NamesSide (g.T.Bank.trees c.same_variable.new.into) c.args.from.now.next made s)) (sym is) c.same_variable.ensures.names
