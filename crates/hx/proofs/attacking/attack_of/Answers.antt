-- What is found is the verdict where that settles the query, and else what the search comes to.
use Rattle.std.proofs.Common.{◌∙◌, sym}
use Rattle.pi_tree.specs.Protocols.{protocol_of}
use Rattle.hx.proofs.Found.{told_violates, searched_violates, told_holds}
use Rattle.hx.proofs.attacking.attack_of.Goals as goal

pub returns-then-is_settled-clause-told : goal.returns-then-is_settled-clause-told
returns-then-is_settled-clause-told c = λ q there. (c.in_ok-answer.ensures q there, sym c.is_settled.ensures ∙ c.if-is_settled.true)

pub returns-then-is_settled-clause-violates : goal.returns-then-is_settled-clause-violates
returns-then-is_settled-clause-violates c = told_violates (protocol_of c.args.question.now.protocol.now) c.args.question.now.query c.args.question.now.budget c.in_ok-answer.answer c.in_ok-answer.ensures

pub returns-then-is_settled-clause-holds : goal.returns-then-is_settled-clause-holds
returns-then-is_settled-clause-holds c = told_holds (protocol_of c.args.question.now.protocol.now) c.args.question.now.query c.args.question.now.budget c.in_ok-answer.answer c.requires.readable c.proved_queries_hold.ensures c.in_ok-answer.ensures

pub returns-clause-told : goal.returns-clause-told
returns-clause-told c = λ q there. record { answer = c.in_ok-answer.answer; is = c.in_ok-answer.ensures q there; unsettled = sym c.is_settled.ensures ∙ c.if-is_settled.false }

pub returns-clause-violates : goal.returns-clause-violates
returns-clause-violates c = searched_violates (protocol_of c.args.question.now.protocol.now) c.args.question.now.query c.in_ok-found.found c.in_ok-found.ensures

pub returns-clause-holds : goal.returns-clause-holds
returns-clause-holds c = λ proved q there. cc
