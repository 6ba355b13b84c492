-- Where the translation is too large there is no log; else what is told can be explained.
use Rattle.std.proofs.Common.{subst}
use Rattle.pi_tree.specs.Protocols.{protocol_of}
use Rattle.clause_translate.specs.declared.whole.Translated.{Translated}
use Rattle.clause_translate.specs.Whole.{Translates}
use Rattle.query_verify.proofs.Normed.{never_large}
use Rattle.hx.proofs.Telling.{point_told}
use Rattle.hx.proofs.logging.told_in.Goals as goal

pub returns-in-Large-clause-told : goal.returns-in-Large-clause-told
returns-in-Large-clause-told g c =
    let P = protocol_of c.args.protocol.now in
    point_told P c.args.query c.in-Large.point (subst (λ (t : Translated). Translates P c.args.query (g.B.Bank.trees c.translate.new.bank) t) c.in-Large.is c.in_ok-point.ensures.translates)

pub returns-in_ok-log-in-Clauses-clause-ready : goal.returns-in_ok-log-in-Clauses-clause-ready
returns-in_ok-log-in-Clauses-clause-ready g c =
    let P = protocol_of c.args.protocol.now in
    let all = g.B.Bank.trees c.translate.new.bank in
    let given = subst (λ (t : Translated). Translates P c.args.query all t) c.in-Clauses.is c.in_ok-point.ensures.translates in
    (never_large P c.args.query all c.in-Clauses.given (λ q a b one two. c.one_translation.ensures P q a b one two) given, c.in_ok-log-in-Clauses.ensures.ready)
