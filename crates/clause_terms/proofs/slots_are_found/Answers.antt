use Rattle.clause_terms.proofs.Standings.{id_in-found, id_in-known}
use Rattle.clause_terms.proofs.slots_are_found.Goals as goal

pub returns-clause-found : goal.returns-clause-found
returns-clause-found c = id_in-found

pub returns-clause-known : goal.returns-clause-known
returns-clause-known c = id_in-known
