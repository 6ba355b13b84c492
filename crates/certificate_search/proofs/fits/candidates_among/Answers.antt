use Rattle.clause_form.proofs.Walks.{fact_known_at}
use Rattle.certificate_search.proofs.fits.candidates_among.Goals as goal

pub candidate-requires : goal.candidate-requires
candidate-requires c = fact_known_at c.args.bank.now c.args.facts.now c.each.fact-index c.fact-item.result c.fact-item.is c.requires c.each-test.true
