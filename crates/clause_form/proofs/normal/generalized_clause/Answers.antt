use Rattle.std.proofs.Common.{◌∙◌, map, sym}
use Rattle.clause_diffs.specs.Diffs.{diffs_at}
use Rattle.clause_form.specs.Facts.{fact_of}
use Rattle.clause_form.specs.Seen.{fact_at}
use Rattle.clause_form.proofs.Norming.{general_then, general_else, named_as}
use Rattle.clause_form.proofs.normal.generalized_clause.Goals as goal

pub returns-then-is_general-clause-names : goal.returns-then-is_general-clause-names
returns-then-is_general-clause-names g c =
    let all = g.B.Bank.trees c.args.bank.now in
    let is = general_then (map (fact_at all) (map fact_of c.args.hyps.now)) (diffs_at all c.args.diffs.now) (fact_at all (fact_of c.args.concl.now)) (sym c.is_general.ensures ∙ c.if-is_general.true) in
    named_as (g.B.Bank.trees c.numbered_clause.new.bank) c.numbered_clause.result _ _ (sym is) c.numbered_clause.ensures.names

pub returns-clause-names : goal.returns-clause-names
returns-clause-names g c =
    let all = g.B.Bank.trees c.args.bank.now in
    let is = general_else (map (fact_at all) (map fact_of c.args.hyps.now)) (diffs_at all c.args.diffs.now) (fact_at all (fact_of c.args.concl.now)) (sym c.is_general.ensures ∙ c.if-is_general.false) in
    named_as (g.B.Bank.trees c.numbered_clause-2.new.bank) c.numbered_clause-2.result _ _ (sym is) c.numbered_clause-2.ensures.names
