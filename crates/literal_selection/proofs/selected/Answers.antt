use Rattle.std.proofs.Common.{◌≡◌, ◌∙◌, Some, None, map, ap, sym, rules}
use Rattle.spec_clauses.specs.Selection.{select}
use Rattle.clause_form.specs.Facts.{fact_of}
use Rattle.clause_form.specs.Seen.{fact_at}
use Rattle.literal_selection.specs.Best.{remembered}
use Rattle.literal_selection.proofs.Choosing.{place_told, none_where_solved}
use Rattle.literal_selection.proofs.selected.Goals as goal

pub returns-in-Some-clause-none : goal.returns-in-Some-clause-none
returns-in-Some-clause-none g c =
    let all = g.B.Bank.trees c.args.bank.now in
    let hs = map (fact_at all) c.args.clause.now.hypotheses in
    let hyps_are : map fact_of c.deref.result.now ≡ c.args.clause.now.hypotheses = search rules in
    none_where_solved hs (Some c.in-Some.best.place) (place_told (select hs) (Some c.in-Some.best) (sym c.in-Some.is ∙ (c.best_of.ensures ∙ ap (λ l. remembered 0 (select (map (fact_at all) l))) hyps_are)))

pub returns-in-None-clause-none : goal.returns-in-None-clause-none
returns-in-None-clause-none g c =
    let all = g.B.Bank.trees c.args.bank.now in
    let hs = map (fact_at all) c.args.clause.now.hypotheses in
    let hyps_are : map fact_of c.deref.result.now ≡ c.args.clause.now.hypotheses = search rules in
    none_where_solved hs None (place_told (select hs) None (sym c.in-None.is ∙ (c.best_of.ensures ∙ ap (λ l. remembered 0 (select (map (fact_at all) l))) hyps_are)))
