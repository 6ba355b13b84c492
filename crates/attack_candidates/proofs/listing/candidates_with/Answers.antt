-- Where there are candidates, no visit is too large.
use Rattle.std.proofs.Common.{subst}
use Rattle.pi_tree.specs.Protocols.{protocol_of}
use Rattle.clause_translate.specs.declared.whole.Translated.{Translated}
use Rattle.clause_translate.specs.Whole.{Translates}
use Rattle.attack_candidates.proofs.Ending.{never_large}
use Rattle.attack_candidates.proofs.listing.candidates_with.Goals as goal

pub returns-in_ok-made-in-Clauses-clause-small : goal.returns-in_ok-made-in-Clauses-clause-small
returns-in_ok-made-in-Clauses-clause-small c =
    let P = protocol_of c.args.protocol.now in
    let all = c.translate.new.bank in
    let given = subst (λ (t : Translated). Translates P c.args.query all t) c.in-Clauses.is c.in_ok-translate.ensures.translates in
    never_large P c.args.query all c.in-Clauses.given (λ q a b one two. c.one_translation.ensures P q a b one two) given
