use Rattle.std.proofs.Common.{map, subst, arith}
use Rattle.std.proofs.lemmas.Grind.{common_steps}
use Rattle.clause_form.specs.Seen.{clause_at}
use Rattle.log_entries.specs.declared.log.Saturated.{Saturated}
use Rattle.log_entries.specs.Logs.{IsLogOf}
use Rattle.query_verify.specs.Asked.{protocol_at}
use Rattle.query_verify.proofs.Answering.{spent_answer, pair_answer}
use Rattle.query_verify.proofs.deciding.ended.Goals as goal

pub returns-in_ok-entry-in-Spent-clause-answers : goal.returns-in_ok-entry-in-Spent-clause-answers
returns-in_ok-entry-in-Spent-clause-answers g c =
    let all = g.B.Bank.trees c.args.bank.now in
    let budget = c.args.question.now.budget in
    spent_answer (protocol_at c.args.question.now) c.args.question.now.query budget all c.args.given.now c.in-Spent.log c.in-Spent.due c.in_ok-entries-in-Spent.entries c.in_ok-entry-in-Spent.entry c.requires.given
    (subst (λ (s : Saturated). IsLogOf all (map (clause_at all) c.args.given.now) budget s) c.in-Spent.is c.requires.log) c.in_ok-entries-in-Spent.ensures c.in_ok-entry-in-Spent.ensures

pub returns-in_ok-entries-in-Large-clause-answers : goal.returns-in_ok-entries-in-Large-clause-answers
returns-in_ok-entries-in-Large-clause-answers g c =
    let all = g.B.Bank.trees c.args.bank.now in
    let budget = c.args.question.now.budget in
    pair_answer (protocol_at c.args.question.now) c.args.question.now.query budget all c.args.given.now c.in-Large.log c.in-Large.solved c.in-Large.unsolved c.in_ok-entries-in-Large.entries c.requires.given
    (subst (λ (s : Saturated). IsLogOf all (map (clause_at all) c.args.given.now) budget s) c.in-Large.is c.requires.log) c.in_ok-entries-in-Large.ensures

pub closed-requires-clause-kept : goal.closed-requires-clause-kept
closed-requires-clause-kept g c = c.none_known-known.ensures.known (g.B.Bank.trees c.args.bank.now)

pub closed-requires-clause-log : goal.closed-requires-clause-log
closed-requires-clause-log g c = grind (arith, common_steps)
