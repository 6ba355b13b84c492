use Rattle.spec_clauses.specs.Inclusion.{Has}
use Rattle.spec_derivations.proofs.Forest.{join, less, grows}
use Rattle.spec_derivations.proofs.derivations_are_joined_and_grow.Goals as goal

pub returns-clause-both : goal.returns-clause-both
returns-clause-both c = λ clauses events fs gs a b. (join (Has clauses) events a b).derivation

pub returns-clause-fewer : goal.returns-clause-fewer
returns-clause-fewer c = λ clauses events fs gs w d. (less (Has clauses) events gs w d).derivation

pub returns-clause-grown : goal.returns-clause-grown
returns-clause-grown c = λ clauses others events more fs rules allows d. grows events more rules allows d
