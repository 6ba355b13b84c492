use Rattle.std.proofs.Common.{◌≡◌, ◌∙◌, ap, map, List, sym, subst}
use Rattle.term_tree.specs.declared.bank.Id.{Id}
use Rattle.clause_form.specs.Facts.{fact_of}
use Rattle.multiset_subsume.proofs.Refuting.{no_row_crowded}
use Rattle.spec_clauses.specs.Fact as horn
use Rattle.clause_form.specs.Seen.{AreFactsIn, IdClause}
use Rattle.multiset_subsume.proofs.quick.shows_no_row.Goals as goal

pub returns : goal.returns
returns g c = λ e.
    let all = g.B.Bank.trees c.args.bank.now in
    let general : IdClause = record { hypotheses = map fact_of c.deref.result.now; diffs = c.args.general.now.diffs; conclusion = fact_of c.general-inside.inside.0.1.1.0 } in
    let special : IdClause = record { hypotheses = map fact_of c.deref-2.result.now; diffs = c.args.special.now.diffs; conclusion = fact_of c.special-inside.inside.0.1.1.0 } in
    let hyps : map fact_of c.deref.result.now ≡ c.args.general.now.hypotheses = ap (map fact_of) c.deref.ensures.value ∙ ((λ i. (c.general-inside.view_is i).hyps) ∙ (λ i. (c.general.view_is i).hypotheses)) in
    let concl : fact_of c.general-inside.inside.0.1.1.0 ≡ c.args.general.now.conclusion = (λ i. fact_of (c.general-inside.view_is i).concl) ∙ (λ i. (c.general.view_is i).conclusion) in
    let general_is : general ≡ c.args.general.now = λ i. record { hypotheses = hyps i; diffs = c.args.general.now.diffs; conclusion = concl i } in
    let special_hyps : map fact_of c.deref-2.result.now ≡ c.args.special.now.hypotheses = ap (map fact_of) c.deref-2.ensures.value ∙ ((λ i. (c.special-inside.view_is i).hyps) ∙ (λ i. (c.special.view_is i).hypotheses)) in
    let special_concl : fact_of c.special-inside.inside.0.1.1.0 ≡ c.args.special.now.conclusion = (λ i. fact_of (c.special-inside.view_is i).concl) ∙ (λ i. (c.special.view_is i).conclusion) in
    let special_is : special ≡ c.args.special.now = λ i. record { hypotheses = special_hyps i; diffs = c.args.special.now.diffs; conclusion = special_concl i } in
    no_row_crowded all c.args.general.now c.args.special.now general special general_is special_is (c.too_many.ensures e)

pub too_many-requires-clause-facts : goal.too_many-requires-clause-facts
too_many-requires-clause-facts g c =
    let hyps : map fact_of c.deref.result.now ≡ c.args.general.now.hypotheses = ap (map fact_of) c.deref.ensures.value ∙ ((λ i. (c.general-inside.view_is i).hyps) ∙ (λ i. (c.general.view_is i).hypotheses)) in
    subst (λ (hs : List (horn.Fact Id)). AreFactsIn (g.B.Bank.trees c.args.bank.now) hs) (sym hyps) c.requires.general.hypotheses

pub too_many-requires-clause-hyps : goal.too_many-requires-clause-hyps
too_many-requires-clause-hyps g c =
    let hyps : map fact_of c.deref-2.result.now ≡ c.args.special.now.hypotheses = ap (map fact_of) c.deref-2.ensures.value ∙ ((λ i. (c.special-inside.view_is i).hyps) ∙ (λ i. (c.special.view_is i).hypotheses)) in
    subst (λ (hs : List (horn.Fact Id)). AreFactsIn (g.B.Bank.trees c.args.bank.now) hs) (sym hyps) c.requires.special.hypotheses
