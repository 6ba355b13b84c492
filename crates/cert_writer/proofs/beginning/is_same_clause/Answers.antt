use Rattle.std.proofs.Common.{◌≡◌, ◌∙◌, ap, map, sym, rules, arith}
use Rattle.std.proofs.lemmas.Grind.{common_steps}
use Rattle.clause_diffs.specs.Diffs.{diffs_at}
use Rattle.clause_form.specs.Facts.{fact_of}
use Rattle.clause_form.specs.Seen.{fact_at}
use Rattle.cert_writer.proofs.SameLists.{same_told}
use Rattle.cert_writer.proofs.beginning.is_same_clause.Goals as goal

pub returns : goal.returns
returns g c = λ e.
    let all = g.B.Bank.trees c.args.bank.now in
    let left = c.args.left.now in
    let right = c.args.right.now in
    let left_concl : fact_of c.left-inside.inside.0.1.1.0 ≡ left.conclusion = search rules in
    let right_concl : fact_of c.right-inside.inside.0.1.1.0 ≡ right.conclusion = search rules in
    let left_diffs : c.deref.result.now ≡ left.diffs = search rules in
    let right_diffs : c.deref-2.result.now ≡ right.diffs = search rules in
    let left_hyps : map fact_of c.deref-3.result.now ≡ left.hypotheses = search rules in
    let right_hyps : map fact_of c.deref-4.result.now ≡ right.hypotheses = search rules in
    let hyps : map (fact_at all) left.hypotheses ≡ map (fact_at all) right.hypotheses =
    sym (ap (map (fact_at all)) left_hyps) ∙ (c.are_same_facts.ensures e ∙ ap (map (fact_at all)) right_hyps) in
    let diffs : diffs_at all left.diffs ≡ diffs_at all right.diffs =
    sym (ap (diffs_at all) left_diffs) ∙ (c.are_same_diffs.ensures c.if-not-are_same_diffs.false ∙ ap (diffs_at all) right_diffs) in
    let told = same_told (fact_at all (fact_of c.left-inside.inside.0.1.1.0)) (fact_at all (fact_of c.right-inside.inside.0.1.1.0)) (sym c.same_fact.ensures ∙ c.if-not-same_fact.false) in
    let concl : fact_at all left.conclusion ≡ fact_at all right.conclusion = sym (ap (fact_at all) left_concl) ∙ (told ∙ ap (fact_at all) right_concl) in
    λ i. record { hypotheses = hyps i; diffs = diffs i; conclusion = concl i }

pub are_same_facts-requires-clause-lefts : goal.are_same_facts-requires-clause-lefts
are_same_facts-requires-clause-lefts g c = grind (arith, common_steps)

pub are_same_facts-requires-clause-rights : goal.are_same_facts-requires-clause-rights
are_same_facts-requires-clause-rights g c = grind (arith, common_steps)
