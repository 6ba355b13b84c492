use Rattle.std.proofs.Common.{◌≡◌, ◌∙◌, ap, List, sym, subst, map, refl, Ok, None, [], arith}
use Rattle.std.proofs.lemmas.Grind.{common_steps}
use Rattle.spec_clauses.specs.Fact as horn
use Rattle.spec_placements.specs.Placing.{NoFactMatch}
use Rattle.term_tree.specs.declared.bank.Id.{Id}
use Rattle.unify_match.specs.Seen.{seen}
use Rattle.clause_form.specs.Facts.{fact_of}
use Rattle.clause_form.specs.Seen.{fact_at, clause_at, IsFactIn, AreFactsIn, IdClause}
use Rattle.fact_placing.specs.declared.board.Ending.{Ending}
use Rattle.fact_placing.specs.Boards.{IsBoard, IsBegun}
use Rattle.fact_placing.proofs.Listing.{unref}
use Rattle.multiset_subsume.proofs.Along.{is_board, is_ending, linked_with, at_some}
use Rattle.multiset_subsume.proofs.Parting.{at_none}
use Rattle.multiset_subsume.proofs.FirstRows.{first_with, firsts_told, subsumes_told}
use Rattle.multiset_subsume.proofs.Refuting.{no_row_apart}
use Rattle.multiset_subsume.proofs.covering.cover_row.Goals as goal

pub returns-then-shows_no_row-clause-subsumes : goal.returns-then-shows_no_row-clause-subsumes
returns-then-shows_no_row-clause-subsumes g c =
    let all = g.B.Bank.trees c.args.bank.now in
    subsumes_told (clause_at all c.args.general.now) (clause_at all c.args.special.now) (Ok None) c.requires.normal (c.if-shows_no_row.ensures refl)

pub begun-requires-clause-board : goal.begun-requires-clause-board
begun-requires-clause-board g c =
    let all = g.B.Bank.trees c.args.bank.now in
    let same : map fact_of c.deref.result.now ≡ c.args.special.now.hypotheses = ap (map fact_of) c.deref.ensures.value ∙ ((λ i. (c.special-inside.view_is i).hyps) ∙ (λ i. (c.special.view_is i).hypotheses)) in
    subst (λ (hs : List (horn.Fact Id)). IsBoard all hs) (sym same) (is_board all c.args.special.now c.requires.special c.requires.small)

pub begun-requires-clause-general : goal.begun-requires-clause-general
begun-requires-clause-general g c =
    let concl : fact_of c.general-inside.inside.0.1.1.0 ≡ c.args.general.now.conclusion = (λ i. fact_of (c.general-inside.view_is i).concl) ∙ (λ i. (c.general.view_is i).conclusion) in
    subst (λ (f : horn.Fact Id). IsFactIn (g.B.Bank.trees c.args.bank.now) f) (sym concl) c.requires.general.conclusion

pub begun-requires-clause-special : goal.begun-requires-clause-special
begun-requires-clause-special g c =
    let concl : fact_of c.special-inside.inside.0.1.1.0 ≡ c.args.special.now.conclusion = (λ i. fact_of (c.special-inside.view_is i).concl) ∙ (λ i. (c.special.view_is i).conclusion) in
    subst (λ (f : horn.Fact Id). IsFactIn (g.B.Bank.trees c.args.bank.now) f) (sym concl) c.requires.special.conclusion

pub returns-in-None-clause-row : goal.returns-in-None-clause-row
returns-in-None-clause-row g c =
    let all = g.B.Bank.trees c.args.bank.now in
    let general : IdClause = record { hypotheses = c.args.general.now.hypotheses; diffs = c.args.general.now.diffs; conclusion = fact_of c.general-inside.inside.0.1.1.0 } in
    let special : IdClause = record { hypotheses = map fact_of c.deref.result.now; diffs = c.args.special.now.diffs; conclusion = fact_of c.special-inside.inside.0.1.1.0 } in
    let concl : fact_of c.general-inside.inside.0.1.1.0 ≡ c.args.general.now.conclusion = (λ i. fact_of (c.general-inside.view_is i).concl) ∙ (λ i. (c.general.view_is i).conclusion) in
    let general_is : general ≡ c.args.general.now = λ i. record { hypotheses = c.args.general.now.hypotheses; diffs = c.args.general.now.diffs; conclusion = concl i } in
    let special_hyps : map fact_of c.deref.result.now ≡ c.args.special.now.hypotheses = ap (map fact_of) c.deref.ensures.value ∙ ((λ i. (c.special-inside.view_is i).hyps) ∙ (λ i. (c.special.view_is i).hypotheses)) in
    let special_concl : fact_of c.special-inside.inside.0.1.1.0 ≡ c.args.special.now.conclusion = (λ i. fact_of (c.special-inside.view_is i).concl) ∙ (λ i. (c.special.view_is i).conclusion) in
    let special_is : special ≡ c.args.special.now = λ i. record { hypotheses = special_hyps i; diffs = c.args.special.now.diffs; conclusion = special_concl i } in
    let none : NoFactMatch [] (fact_at all (fact_of c.general-inside.inside.0.1.1.0)) (fact_at all (fact_of c.special-inside.inside.0.1.1.0)) = at_none _ c.in_ok-begun.field-0 (λ placing. IsBegun all (map fact_of c.deref.result.now) (fact_of c.general-inside.inside.0.1.1.0) (fact_of c.special-inside.inside.0.1.1.0) placing.binds.pairs placing.taken.items) c.in-None.is c.in_ok-begun.ensures in
    no_row_apart all c.args.general.now c.args.special.now general special general_is special_is (λ s e. none s tt e)

pub returns-in-None-clause-subsumes : goal.returns-in-None-clause-subsumes
returns-in-None-clause-subsumes g c =
    let all = g.B.Bank.trees c.args.bank.now in
    subsumes_told (clause_at all c.args.general.now) (clause_at all c.args.special.now) (Ok None) c.requires.normal (returns-in-None-clause-row g c)

pub firm_of-requires : goal.firm_of-requires
firm_of-requires g c =
    let hyps : map fact_of c.deref-in-Some.result.now ≡ c.args.general.now.hypotheses = ap (map fact_of) c.deref-in-Some.ensures.value ∙ ((λ i. (c.general-inside.view_is i).hyps) ∙ (λ i. (c.general.view_is i).hypotheses)) in
    subst (λ (hs : List (horn.Fact Id)). AreFactsIn (g.B.Bank.trees c.args.bank.now) hs) (sym hyps) c.requires.general.hypotheses

pub loose_of-requires : goal.loose_of-requires
loose_of-requires g c =
    let hyps : map fact_of c.deref-in-Some-2.result.now ≡ c.args.general.now.hypotheses = ap (map fact_of) c.deref-in-Some-2.ensures.value ∙ ((λ i. (c.general-inside.view_is i).hyps) ∙ (λ i. (c.general.view_is i).hypotheses)) in
    subst (λ (hs : List (horn.Fact Id)). AreFactsIn (g.B.Bank.trees c.args.bank.now) hs) (sym hyps) c.requires.general.hypotheses

pub first_row-requires-clause-board : goal.first_row-requires-clause-board
first_row-requires-clause-board g c =
    let all = g.B.Bank.trees c.args.bank.now in
    let same : map fact_of c.deref.result.now ≡ c.args.special.now.hypotheses = ap (map fact_of) c.deref.ensures.value ∙ ((λ i. (c.special-inside.view_is i).hyps) ∙ (λ i. (c.special.view_is i).hypotheses)) in
    subst (λ (hs : List (horn.Fact Id)). IsBoard all hs) (sym same) (is_board all c.args.special.now c.requires.special c.requires.small)

pub first_row-requires-clause-ending : goal.first_row-requires-clause-ending
first_row-requires-clause-ending g c =
    let all = g.B.Bank.trees c.args.bank.now in
    let diffs_are : c.deref-2.result.now ≡ c.args.general.now.diffs = c.deref-2.ensures.value ∙ ((λ i. (c.general-inside.view_is i).diffs) ∙ (λ i. (c.general.view_is i).diffs)) in
    let kept_are : c.deref-3.result.now ≡ c.args.special.now.diffs = c.deref-3.ensures.value ∙ ((λ i. (c.special-inside.view_is i).diffs) ∙ (λ i. (c.special.view_is i).diffs)) in
    let ending : Ending = record { loose = c.deref-in-Some-3.result; diffs = c.deref-2.result; kept_in = c.deref-3.result } in
    is_ending all c.args.general.now c.args.special.now ending c.requires.general c.requires.special c.requires.normal diffs_are kept_are

pub first_row-requires-clause-linked : goal.first_row-requires-clause-linked
first_row-requires-clause-linked g c =
    let all = g.B.Bank.trees c.args.bank.now in
    let general : IdClause = record { hypotheses = map fact_of c.deref-in-Some.result.now; diffs = c.args.general.now.diffs; conclusion = fact_of c.general-inside.inside.0.1.1.0 } in
    let hyps : map fact_of c.deref-in-Some.result.now ≡ c.args.general.now.hypotheses = ap (map fact_of) c.deref-in-Some.ensures.value ∙ ((λ i. (c.general-inside.view_is i).hyps) ∙ (λ i. (c.general.view_is i).hypotheses)) in
    let concl : fact_of c.general-inside.inside.0.1.1.0 ≡ c.args.general.now.conclusion = (λ i. fact_of (c.general-inside.view_is i).concl) ∙ (λ i. (c.general.view_is i).conclusion) in
    let e : general ≡ c.args.general.now = λ i. record { hypotheses = hyps i; diffs = c.args.general.now.diffs; conclusion = concl i } in
    let begun : IsBegun all (map fact_of c.deref.result.now) (fact_of c.general-inside.inside.0.1.1.0) (fact_of c.special-inside.inside.0.1.1.0) c.in-Some.placing.binds.pairs c.in-Some.placing.taken.items = at_some _ c.in_ok-begun.field-0 c.in-Some.placing (λ placing. IsBegun all (map fact_of c.deref.result.now) (fact_of c.general-inside.inside.0.1.1.0) (fact_of c.special-inside.inside.0.1.1.0) placing.binds.pairs placing.taken.items) c.in-Some.is c.in_ok-begun.ensures in
    let diffs_are : c.deref-2.result.now ≡ c.args.general.now.diffs = c.deref-2.ensures.value ∙ ((λ i. (c.general-inside.view_is i).diffs) ∙ (λ i. (c.general.view_is i).diffs)) in
    let ending : Ending = record { loose = c.deref-in-Some-3.result; diffs = c.deref-2.result; kept_in = c.deref-3.result } in
    linked_with all c.args.general.now general (fact_of c.special-inside.inside.0.1.1.0) (map unref c.deref-in-Some-4.result.now) (map unref c.in_ok-facts-in-Some.facts.items) (map fact_of c.deref-in-Some-2.result.now) c.in_ok-loose-in-Some.loose.items ending
    e c.requires.normal c.in_ok-facts-in-Some.ensures (ap (map unref) c.deref-in-Some-4.ensures.value) c.in_ok-loose-in-Some.ensures (ap (map fact_of) (c.deref-in-Some-2.ensures.value ∙ sym c.deref-in-Some.ensures.value)) c.deref-in-Some-3.ensures.value diffs_are
    (seen all c.in-Some.placing.binds.pairs) begun.matched

pub returns-in_ok-loose-in-Some-clause-row : goal.returns-in_ok-loose-in-Some-clause-row
returns-in_ok-loose-in-Some-clause-row g c =
    let all = g.B.Bank.trees c.args.bank.now in
    let general : IdClause = record { hypotheses = map fact_of c.deref-in-Some.result.now; diffs = c.args.general.now.diffs; conclusion = fact_of c.general-inside.inside.0.1.1.0 } in
    let special : IdClause = record { hypotheses = map fact_of c.deref.result.now; diffs = c.args.special.now.diffs; conclusion = fact_of c.special-inside.inside.0.1.1.0 } in
    let hyps : map fact_of c.deref-in-Some.result.now ≡ c.args.general.now.hypotheses = ap (map fact_of) c.deref-in-Some.ensures.value ∙ ((λ i. (c.general-inside.view_is i).hyps) ∙ (λ i. (c.general.view_is i).hypotheses)) in
    let concl : fact_of c.general-inside.inside.0.1.1.0 ≡ c.args.general.now.conclusion = (λ i. fact_of (c.general-inside.view_is i).concl) ∙ (λ i. (c.general.view_is i).conclusion) in
    let general_is : general ≡ c.args.general.now = λ i. record { hypotheses = hyps i; diffs = c.args.general.now.diffs; conclusion = concl i } in
    let special_hyps : map fact_of c.deref.result.now ≡ c.args.special.now.hypotheses = ap (map fact_of) c.deref.ensures.value ∙ ((λ i. (c.special-inside.view_is i).hyps) ∙ (λ i. (c.special.view_is i).hypotheses)) in
    let special_concl : fact_of c.special-inside.inside.0.1.1.0 ≡ c.args.special.now.conclusion = (λ i. fact_of (c.special-inside.view_is i).concl) ∙ (λ i. (c.special.view_is i).conclusion) in
    let special_is : special ≡ c.args.special.now = λ i. record { hypotheses = special_hyps i; diffs = c.args.special.now.diffs; conclusion = special_concl i } in
    let begun : IsBegun all (map fact_of c.deref.result.now) (fact_of c.general-inside.inside.0.1.1.0) (fact_of c.special-inside.inside.0.1.1.0) c.in-Some.placing.binds.pairs c.in-Some.placing.taken.items = at_some _ c.in_ok-begun.field-0 c.in-Some.placing (λ placing. IsBegun all (map fact_of c.deref.result.now) (fact_of c.general-inside.inside.0.1.1.0) (fact_of c.special-inside.inside.0.1.1.0) placing.binds.pairs placing.taken.items) c.in-Some.is c.in_ok-begun.ensures in
    let diffs_are : c.deref-2.result.now ≡ c.args.general.now.diffs = c.deref-2.ensures.value ∙ ((λ i. (c.general-inside.view_is i).diffs) ∙ (λ i. (c.general.view_is i).diffs)) in
    let kept_are : c.deref-3.result.now ≡ c.args.special.now.diffs = c.deref-3.ensures.value ∙ ((λ i. (c.special-inside.view_is i).diffs) ∙ (λ i. (c.special.view_is i).diffs)) in
    let ending : Ending = record { loose = c.deref-in-Some-3.result; diffs = c.deref-2.result; kept_in = c.deref-3.result } in
    firsts_told all c.args.general.now c.args.special.now general special (map unref c.deref-in-Some-4.result.now) (map unref c.in_ok-facts-in-Some.facts.items) (map fact_of c.deref-in-Some-2.result.now) c.in_ok-loose-in-Some.loose.items ending c.first_row.result
    general_is special_is c.in_ok-facts-in-Some.ensures (ap (map unref) c.deref-in-Some-4.ensures.value) c.in_ok-loose-in-Some.ensures (ap (map fact_of) (c.deref-in-Some-2.ensures.value ∙ sym c.deref-in-Some.ensures.value)) c.deref-in-Some-3.ensures.value diffs_are kept_are
    (first_with all (map fact_of c.deref.result.now) ending (map unref c.deref-in-Some-4.result.now) (fact_of c.general-inside.inside.0.1.1.0) (fact_of c.special-inside.inside.0.1.1.0) c.in-Some.placing.binds.pairs c.in-Some.placing.taken.items c.first_row.result begun c.first_row.ensures)

pub returns-in_ok-loose-in-Some-clause-subsumes : goal.returns-in_ok-loose-in-Some-clause-subsumes
returns-in_ok-loose-in-Some-clause-subsumes g c =
    let all = g.B.Bank.trees c.args.bank.now in
    subsumes_told (clause_at all c.args.general.now) (clause_at all c.args.special.now) c.first_row.result c.requires.normal (returns-in_ok-loose-in-Some-clause-row g c)

pub first_row-requires-clause-placing : goal.first_row-requires-clause-placing
first_row-requires-clause-placing g c = grind (arith, common_steps)

pub first_row-requires-clause-facts : goal.first_row-requires-clause-facts
first_row-requires-clause-facts g c = grind (arith, common_steps)
