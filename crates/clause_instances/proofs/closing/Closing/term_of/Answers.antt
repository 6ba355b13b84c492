use Rattle.std.proofs.Common.{arith}
use Rattle.std.proofs.lemmas.Grind.{common_steps}
use Rattle.clause_diffs.proofs.Walks.{known_at}
use Rattle.clause_instances.proofs.Closes.{closed_variable}
use Rattle.clause_instances.proofs.closing.Closing.term_of.Goals as goal

pub returns-then-place-len-clause-known : goal.returns-then-place-len-clause-known
returns-then-place-len-clause-known c = λ all known. grind (arith, common_steps, known_at all c.args.self.now.terms c.place-place.result record { index = 0 } known)

pub returns-then-place-len-clause-is : goal.returns-then-place-len-clause-is
returns-then-place-len-clause-is c = λ all s closes. grind (arith, common_steps, closed_variable all c.args.self.now s c.args.number record { index = 0 } closes)
