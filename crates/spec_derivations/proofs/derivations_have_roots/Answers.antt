use Rattle.std.proofs.Common.{◌≡◌, true, List}
use Rattle.spec_terms.specs.Term.{Term}
use Rattle.spec_clauses.specs.Fact.{Fact, Att, Mess, Tab, Ev, Mev, Bad, Clause}
use Rattle.spec_clauses.specs.Inclusion.{Has}
use Rattle.spec_derivations.specs.Derivation.{is_required_event, Derive}
use Rattle.spec_derivations.proofs.Forest.{root, required_allowed}
use Rattle.spec_derivations.proofs.derivations_have_roots.Goals as goal

pub returns-clause-concluded : goal.returns-clause-concluded
returns-clause-concluded c = λ clauses events f plain d. let r = root d plain in (r.clause, r.above, r.is_rule, r.instance, r.derivation)

event_allowed : (clauses : List (Clause Term)) (events fs : List (Fact Term)) (f : Fact Term) → Derive clauses events fs → is_required_event f ≡ true → Has fs f → Has events f
event_allowed clauses events fs (Att phase t) d e h = cc
event_allowed clauses events fs (Mess phase t u) d e h = cc
event_allowed clauses events fs (Tab n ts) d e h = cc
event_allowed clauses events fs (Ev n ts) d e h = cc
event_allowed clauses events fs (Mev n ts) d e h = required_allowed d h.1
event_allowed clauses events fs (Bad ts) d e h = cc

pub returns-clause-allowed : goal.returns-clause-allowed
returns-clause-allowed c = event_allowed
