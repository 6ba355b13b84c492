use Rattle.std.proofs.Common.{subst, arith}
use Rattle.std.proofs.lemmas.Grind.{common_steps}
use Rattle.pi_tree.specs.Protocols.{protocol_of}
use Rattle.clause_translate.specs.declared.whole.Translated.{Translated}
use Rattle.clause_translate.specs.Whole.{Translates}
use Rattle.query_verify.proofs.Answering.{point_answer}
use Rattle.query_verify.proofs.deciding.asked.Goals as goal

pub returns-in-Large-clause-answers : goal.returns-in-Large-clause-answers
returns-in-Large-clause-answers g c =
    let P = protocol_of c.args.protocol.now in
    point_answer P c.args.query c.args.budget c.in-Large.point (subst (λ (t : Translated). Translates P c.args.query (g.B.Bank.trees c.translate.new.bank) t) c.in-Large.is c.in_ok-point.ensures.translates)

pub returns-in-Clauses-clause-grows : goal.returns-in-Clauses-clause-grows
returns-in-Clauses-clause-grows g c = grind (arith, common_steps)

pub decided-requires-clause-given : goal.decided-requires-clause-given
decided-requires-clause-given g c = grind (arith, common_steps)
