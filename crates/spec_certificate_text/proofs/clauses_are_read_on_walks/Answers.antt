use Rattle.spec_certificate_text.specs.Clauses.{read_clause}
use Rattle.spec_certificate_text.specs.Walks as walks
use Rattle.spec_certificate_text.specs.Walks.{spelled_term, spelled_side, no_counts}
use Rattle.spec_certificate_text.proofs.KeptStates.{same_found, clause_alike}
use Rattle.spec_certificate_text.proofs.clauses_are_read_on_walks.Goals as goal

pub returns : goal.returns
returns c = λ P state bytes at. same_found state (read_clause P bytes at) (walks.read_clause (spelled_term P) (spelled_side P) no_counts P state bytes at) (clause_alike state P bytes at)
