use Rattle.std.proofs.Common.{◌≡◌, ◌∙◌, ap, List, sym, subst, map, Bor}
use Rattle.spec_clauses.specs.Fact as horn
use Rattle.term_tree.specs.declared.bank.Id.{Id}
use Rattle.clause_form.specs.Facts.{fact_of}
use Rattle.fact_placing.specs.declared.board.Ending.{Ending}
use Rattle.fact_placing.specs.Boards.{IsBoard}
use Rattle.fact_placing.proofs.Listing.{unref}
use Rattle.multiset_subsume.proofs.Along.{is_board, is_ending, rows_told, linked_with}
use Rattle.clause_form.specs.declared.facts.Fact.{Fact}
use Rattle.clause_form.specs.Seen.{IsFactIn, AreFactsIn, IdClause}
use Rattle.multiset_subsume.proofs.holding.row_holds.Goals as goal

pub holds_matched-requires-clause-board : goal.holds_matched-requires-clause-board
holds_matched-requires-clause-board g c =
    let all = g.B.Bank.trees c.args.bank.now in
    let same : map fact_of c.deref-3.result.now ≡ c.args.special.now.hypotheses = ap (map fact_of) c.deref-3.ensures.value ∙ ((λ i. (c.special-inside.view_is i).hyps) ∙ (λ i. (c.special.view_is i).hypotheses)) in
    subst (λ (hs : List (horn.Fact Id)). IsBoard all hs) (sym same) (is_board all c.args.special.now c.requires.special c.requires.small)

pub holds_matched-requires-clause-ending : goal.holds_matched-requires-clause-ending
holds_matched-requires-clause-ending g c =
    let all = g.B.Bank.trees c.args.bank.now in
    let diffs_are : c.deref-5.result.now ≡ c.args.general.now.diffs = c.deref-5.ensures.value ∙ ((λ i. (c.general-inside.view_is i).diffs) ∙ (λ i. (c.general.view_is i).diffs)) in
    let kept_are : c.deref-6.result.now ≡ c.args.special.now.diffs = c.deref-6.ensures.value ∙ ((λ i. (c.special-inside.view_is i).diffs) ∙ (λ i. (c.special.view_is i).diffs)) in
    let ending : Ending = record { loose = c.deref-4.result; diffs = c.deref-5.result; kept_in = c.deref-6.result } in
    is_ending all c.args.general.now c.args.special.now ending c.requires.general c.requires.special c.requires.normal diffs_are kept_are

pub holds_matched-requires-clause-linked : goal.holds_matched-requires-clause-linked
holds_matched-requires-clause-linked g c =
    let all = g.B.Bank.trees c.args.bank.now in
    let general : IdClause = record { hypotheses = map fact_of c.deref.result.now; diffs = c.args.general.now.diffs; conclusion = fact_of c.general-inside.inside.0.1.1.0 } in
    let hyps : map fact_of c.deref.result.now ≡ c.args.general.now.hypotheses = ap (map fact_of) c.deref.ensures.value ∙ ((λ i. (c.general-inside.view_is i).hyps) ∙ (λ i. (c.general.view_is i).hypotheses)) in
    let concl : fact_of c.general-inside.inside.0.1.1.0 ≡ c.args.general.now.conclusion = (λ i. fact_of (c.general-inside.view_is i).concl) ∙ (λ i. (c.general.view_is i).conclusion) in
    let e : general ≡ c.args.general.now = λ i. record { hypotheses = hyps i; diffs = c.args.general.now.diffs; conclusion = concl i } in
    let diffs_are : c.deref-5.result.now ≡ c.args.general.now.diffs = c.deref-5.ensures.value ∙ ((λ i. (c.general-inside.view_is i).diffs) ∙ (λ i. (c.general.view_is i).diffs)) in
    let ending : Ending = record { loose = c.deref-4.result; diffs = c.deref-5.result; kept_in = c.deref-6.result } in
    linked_with all c.args.general.now general (fact_of c.special-inside.inside.0.1.1.0) (map unref c.deref-7.result.now) (map unref c.in_ok-facts.facts.items) (map fact_of c.deref-2.result.now) c.in_ok-loose.loose.items ending
    e c.requires.normal c.in_ok-facts.ensures (ap (map unref) c.deref-7.ensures.value) c.in_ok-loose.ensures (ap (map fact_of) (c.deref-2.ensures.value ∙ sym c.deref.ensures.value)) c.deref-4.ensures.value diffs_are

pub returns : goal.returns
returns g c =
    let all = g.B.Bank.trees c.args.bank.now in
    let general : IdClause = record { hypotheses = map fact_of c.deref.result.now; diffs = c.args.general.now.diffs; conclusion = fact_of c.general-inside.inside.0.1.1.0 } in
    let special : IdClause = record { hypotheses = map fact_of c.deref-3.result.now; diffs = c.args.special.now.diffs; conclusion = fact_of c.special-inside.inside.0.1.1.0 } in
    let hyps : map fact_of c.deref.result.now ≡ c.args.general.now.hypotheses = ap (map fact_of) c.deref.ensures.value ∙ ((λ i. (c.general-inside.view_is i).hyps) ∙ (λ i. (c.general.view_is i).hypotheses)) in
    let concl : fact_of c.general-inside.inside.0.1.1.0 ≡ c.args.general.now.conclusion = (λ i. fact_of (c.general-inside.view_is i).concl) ∙ (λ i. (c.general.view_is i).conclusion) in
    let general_is : general ≡ c.args.general.now = λ i. record { hypotheses = hyps i; diffs = c.args.general.now.diffs; conclusion = concl i } in
    let special_hyps : map fact_of c.deref-3.result.now ≡ c.args.special.now.hypotheses = ap (map fact_of) c.deref-3.ensures.value ∙ ((λ i. (c.special-inside.view_is i).hyps) ∙ (λ i. (c.special.view_is i).hypotheses)) in
    let special_concl : fact_of c.special-inside.inside.0.1.1.0 ≡ c.args.special.now.conclusion = (λ i. fact_of (c.special-inside.view_is i).concl) ∙ (λ i. (c.special.view_is i).conclusion) in
    let special_is : special ≡ c.args.special.now = λ i. record { hypotheses = special_hyps i; diffs = c.args.special.now.diffs; conclusion = special_concl i } in
    let row_is : c.deref-8.result.now ≡ c.args.row.now = c.deref-8.ensures.value ∙ c.row.view_is in
    let diffs_are : c.deref-5.result.now ≡ c.args.general.now.diffs = c.deref-5.ensures.value ∙ ((λ i. (c.general-inside.view_is i).diffs) ∙ (λ i. (c.general.view_is i).diffs)) in
    let kept_are : c.deref-6.result.now ≡ c.args.special.now.diffs = c.deref-6.ensures.value ∙ ((λ i. (c.special-inside.view_is i).diffs) ∙ (λ i. (c.special.view_is i).diffs)) in
    let ending : Ending = record { loose = c.deref-4.result; diffs = c.deref-5.result; kept_in = c.deref-6.result } in
    rows_told all c.args.general.now c.args.special.now general special (map unref c.deref-7.result.now) (map unref c.in_ok-facts.facts.items) (map fact_of c.deref-2.result.now) c.in_ok-loose.loose.items ending c.args.row.now c.deref-8.result.now c.holds_matched.result
    general_is special_is c.in_ok-facts.ensures (ap (map unref) c.deref-7.ensures.value) c.in_ok-loose.ensures (ap (map fact_of) (c.deref-2.ensures.value ∙ sym c.deref.ensures.value)) c.deref-4.ensures.value diffs_are kept_are row_is c.holds_matched.ensures

pub firm_of-requires : goal.firm_of-requires
firm_of-requires g c =
    let hyps : map fact_of c.deref.result.now ≡ c.args.general.now.hypotheses = ap (map fact_of) c.deref.ensures.value ∙ ((λ i. (c.general-inside.view_is i).hyps) ∙ (λ i. (c.general.view_is i).hypotheses)) in
    subst (λ (hs : List (horn.Fact Id)). AreFactsIn (g.B.Bank.trees c.args.bank.now) hs) (sym hyps) c.requires.general.hypotheses

pub loose_of-requires : goal.loose_of-requires
loose_of-requires g c =
    let hyps : map fact_of c.deref-2.result.now ≡ c.args.general.now.hypotheses = ap (map fact_of) c.deref-2.ensures.value ∙ ((λ i. (c.general-inside.view_is i).hyps) ∙ (λ i. (c.general.view_is i).hypotheses)) in
    subst (λ (hs : List (horn.Fact Id)). AreFactsIn (g.B.Bank.trees c.args.bank.now) hs) (sym hyps) c.requires.general.hypotheses

pub holds_matched-requires-clause-general : goal.holds_matched-requires-clause-general
holds_matched-requires-clause-general g c =
    let concl : fact_of c.general-inside.inside.0.1.1.0 ≡ c.args.general.now.conclusion = (λ i. fact_of (c.general-inside.view_is i).concl) ∙ (λ i. (c.general.view_is i).conclusion) in
    subst (λ (f : horn.Fact Id). IsFactIn (g.B.Bank.trees c.args.bank.now) f) (sym concl) c.requires.general.conclusion

pub holds_matched-requires-clause-special : goal.holds_matched-requires-clause-special
holds_matched-requires-clause-special g c =
    let concl : fact_of c.special-inside.inside.0.1.1.0 ≡ c.args.special.now.conclusion = (λ i. fact_of (c.special-inside.view_is i).concl) ∙ (λ i. (c.special.view_is i).conclusion) in
    subst (λ (f : horn.Fact Id). IsFactIn (g.B.Bank.trees c.args.bank.now) f) (sym concl) c.requires.special.conclusion

pub holds_matched-requires-clause-facts : goal.holds_matched-requires-clause-facts
holds_matched-requires-clause-facts g c = subst (λ (fs : List (Bor Fact)). AreFactsIn (g.B.Bank.trees c.args.bank.now) (map unref fs)) (sym c.deref-7.ensures.value) c.in_ok-facts.ensures.known
