-- The clauses of a translation can be saturated, and the entries of their log are fit, however it ends.
use Rattle.pi_tree.specs.Protocols.{protocol_of}
use Rattle.query_derive.proofs.Deciding.{small_query}
use Rattle.clause_form.proofs.Fit.{named_fit, AreFit-grow}
use Rattle.attack_candidates.proofs.Ending.{named_some, ended_fit}
use Rattle.attack_candidates.proofs.listing.candidates_from.Goals as goal

pub saturate-requires-clause-some : goal.saturate-requires-clause-some
saturate-requires-clause-some c =
    let t = c.requires.given in
    let last = c.translations_have_one_goal.ensures.last (protocol_of c.args.asked.protocol.now) t.query t.list t.translates in
    named_some c.args.bank.now c.args.given.now t.list last.0 last.1 t.names last.2

pub saturate-requires-clause-fit : goal.saturate-requires-clause-fit
saturate-requires-clause-fit c =
    let P = protocol_of c.args.asked.protocol.now in
    let t = c.requires.given in
    let limits = c.requires.limits in
    named_fit c.args.bank.now c.args.given.now t.list t.names t.low (λ d has. c.translations_are_normal.ensures.normal P t.query t.list d t.translates has)
    (λ d has. c.translations_are_within_the_limit.ensures.all P t.query t.list d limits (small_query P c.args.asked.query t.query limits t.is) t.translates has)

pub candidates_in-requires-clause-given : goal.candidates_in-requires-clause-given
candidates_in-requires-clause-given c =
    let P = protocol_of c.args.asked.protocol.now in
    let t = c.requires.given in
    let limits = c.requires.limits in
    AreFit-grow c.args.bank.now c.saturate.new.bank c.args.given.now c.saturate.ensures.grows
    (named_fit c.args.bank.now c.args.given.now t.list t.names t.low (λ d has. c.translations_are_normal.ensures.normal P t.query t.list d t.translates has)
    (λ d has. c.translations_are_within_the_limit.ensures.all P t.query t.list d limits (small_query P c.args.asked.query t.query limits t.is) t.translates has))

pub candidates_in-requires-clause-log : goal.candidates_in-requires-clause-log
candidates_in-requires-clause-log c =
    let P = protocol_of c.args.asked.protocol.now in
    let t = c.requires.given in
    let limits = c.requires.limits in
    ended_fit c.args.bank.now c.saturate.new.bank c.args.given.now c.args.asked.budget c.in_ok-saturated.saturated
    (named_fit c.args.bank.now c.args.given.now t.list t.names t.low (λ d has. c.translations_are_normal.ensures.normal P t.query t.list d t.translates has)
    (λ d has. c.translations_are_within_the_limit.ensures.all P t.query t.list d limits (small_query P c.args.asked.query t.query limits t.is) t.translates has)) c.in_ok-saturated.ensures.log
