use Rattle.spec_placements.proofs.Leading.{leads_nowhere, leads_first_nowhere, leads_on, leads_first_on, leads_no_further, leads_to_end, leads_first_to_end}
use Rattle.spec_placements.proofs.positions_lead_on.Goals as goal

pub returns-clause-nowhere : goal.returns-clause-nowhere
returns-clause-nowhere c = λ hs ending start. (leads_nowhere hs ending start, leads_first_nowhere hs ending start)

pub returns-clause-on : goal.returns-clause-on
returns-clause-on c = λ hs ending start bs new taken done g h rest p. leads_on hs ending start bs taken done g rest p new h

pub returns-clause-first : goal.returns-clause-first
returns-clause-first c = λ hs ending start bs new taken done g h rest p. leads_first_on hs ending start bs taken done g rest p new h

pub returns-clause-no_further : goal.returns-clause-no_further
returns-clause-no_further c = λ hs ending start bs taken done row g rest p. leads_no_further hs ending start bs taken done g rest p row

pub returns-clause-end : goal.returns-clause-end
returns-clause-end c = leads_to_end

pub returns-clause-first_end : goal.returns-clause-first_end
returns-clause-first_end c = leads_first_to_end
