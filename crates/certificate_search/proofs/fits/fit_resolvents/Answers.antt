use Rattle.std.proofs.Common.{◌≡◌, map, length, ap, arith, rules}
use Rattle.std.proofs.lemmas.List.{length-map}
use Rattle.clause_form.specs.Facts.{fact_of}
use Rattle.clause_form.specs.Seen.{fact_at, clause_at}
use Rattle.certificate_search.proofs.Fitting.{found_fit}
use Rattle.certificate_search.proofs.fits.fit_resolvents.Goals as goal

pub resolvents_at-requires-clause-there : goal.resolvents_at-requires-clause-there
resolvents_at-requires-clause-there c =
    let hyps_are : map fact_of c.as_slice-facts.result.now ≡ c.args.other.now.hypotheses = search rules in
    omega (arith, c.if-at-facts.false, length-map c.args.other.now.hypotheses (fact_at c.args.bank.now), ap length hyps_are, length-map c.as_slice-facts.result.now fact_of)

pub returns-clause-fit : goal.returns-clause-fit
returns-clause-fit c =
    let old = c.args.bank.now in
    let found = c.in_ok-found in
    found_fit c.resolvents_at.new.bank c.args.at (clause_at old c.args.resting.now) (clause_at old c.args.other.now) found.found found.ensures.answer found.ensures.low
