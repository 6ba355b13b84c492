use Rattle.std.proofs.Common.{◌≡◌, ◌∙◌, sym, ap, rules}
use Rattle.spec_clauses.specs.Fact.{terms_of}
use Rattle.spec_clauses.specs.Head.{head_of}
use Rattle.clause_form.specs.Facts.{fact_of}
use Rattle.clause_form.specs.Heads.{head_seen}
use Rattle.fact_placing.proofs.FactTerms.{terms_told}
use Rattle.fact_placing.proofs.matching.match_fact.Goals as goal

pub returns-clause-outcome : goal.returns-clause-outcome
returns-clause-outcome g c =
    let generals : c.as_slice.result.now ≡ terms_of (fact_of c.args.general.now) = c.as_slice.ensures ∙ c.terms-generals.ensures in
    let specials : c.as_slice-2.result.now ≡ terms_of (fact_of c.args.special.now) = c.as_slice-2.ensures ∙ c.terms-specials.ensures in
    let same : c.head.result ≡ c.head-2.result = search rules in
    let heads : head_of (fact_of c.args.general.now) ≡ head_of (fact_of c.args.special.now) = sym c.head.ensures ∙ (ap head_seen same ∙ c.head-2.ensures) in
    terms_told (g.B.Bank.trees c.args.bank.now) c.args.binds.now.pairs _ c.match_lists.result (fact_of c.args.general.now) (fact_of c.args.special.now) _ _ generals specials heads c.match_lists.ensures.outcome
