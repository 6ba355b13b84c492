use Rattle.clause_terms.proofs.Standings.{IsScopeIn-grows, scope_at-grows}
use Rattle.clause_terms.proofs.scopes_outlast_growth.Goals as goal

pub returns : goal.returns
returns c = λ a b scope grows known. (IsScopeIn-grows a b scope grows known, scope_at-grows a b scope grows known)
