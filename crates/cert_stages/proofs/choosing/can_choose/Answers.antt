use Rattle.std.proofs.Common.{◌≡◌, ◌∙◌, ◌<◌, ◌≤◌, List, length, map, get_or, ap, sym, subst, rules, arith}
use Rattle.std.proofs.lemmas.List.{length-map}
use Rattle.std.proofs.lemmas.Option.{slice_get_past}
use Rattle.spec_clauses.specs.Fact.{Fact}
use Rattle.term_tree.specs.declared.bank.Id.{Id}
use Rattle.clause_form.specs.Facts.{fact_of}
use Rattle.clause_form.specs.Seen.{fact_at, clause_at, AreFactsIn}
use Rattle.clause_form.proofs.Walks.{fact_known_at}
use Rattle.fact_fingerprint.proofs.Telling.{fact_there}
use Rattle.cert_stages.proofs.Numbers.{nothing_there, right_there, selectable_there}
use Rattle.cert_stages.proofs.choosing.can_choose.Goals as goal

pub is_selectable-requires : goal.is_selectable-requires
is_selectable-requires g c =
    let all = g.B.Bank.trees c.args.bank.now in
    let are : map fact_of c.deref.result.now ≡ c.args.clause.now.hypotheses = search rules in
    let within : c.args.at < length c.deref.result.now = search rules in
    let same : c.in-Some.fact.now ≡ get_or c.deref.result.now c.args.at c.in-Some.fact.now = search rules in
    fact_known_at all c.deref.result.now c.args.at c.in-Some.fact.now same (subst (λ (l : List (Fact Id)). AreFactsIn all l) (sym are) c.requires.hypotheses) within

pub returns-in-None : goal.returns-in-None
returns-in-None g c =
    let all = g.B.Bank.trees c.args.bank.now in
    let seen = clause_at all c.args.clause.now in
    let are : map fact_of c.deref.result.now ≡ c.args.clause.now.hypotheses = search rules in
    let past : length c.deref.result.now ≤ c.args.at = search rules in
    let none = slice_get_past seen.hypotheses c.args.at (omega (arith, past, length-map c.args.clause.now.hypotheses (fact_at all), ap length are, length-map c.deref.result.now fact_of)) in
    (λ t. cc, λ right. absurd (nothing_there seen c.args.at none right))

pub returns-in-Some : goal.returns-in-Some
returns-in-Some g c =
    let all = g.B.Bank.trees c.args.bank.now in
    let seen = clause_at all c.args.clause.now in
    let fact = c.in-Some.fact.now in
    let are : map fact_of c.deref.result.now ≡ c.args.clause.now.hypotheses = search rules in
    let within : c.args.at < length c.deref.result.now = search rules in
    let same : fact ≡ get_or c.deref.result.now c.args.at fact = search rules in
    let there = fact_there all c.args.clause.now c.deref.result.now are c.args.at fact within same in (
      (λ t. right_there seen c.args.at (fact_at all (fact_of fact)) there (sym c.is_selectable.ensures ∙ t)),
      (λ right. c.is_selectable.ensures ∙ selectable_there seen c.args.at (fact_at all (fact_of fact)) there right),
    )
