use Rattle.std.proofs.Common.{◌∙◌, map, ap, subst, arith}
use Rattle.std.proofs.lemmas.Grind.{common_steps}
use Rattle.clause_form.specs.Seen.{clause_at}
use Rattle.clause_saturate.specs.declared.common.End.{End}
use Rattle.log_entries.specs.Logs.{IsLogOf}
use Rattle.log_entries.specs.Plain.{plain_entry}
use Rattle.clause_saturate.specs.Common.{saturated, log_of}
use Rattle.query_verify.specs.Asked.{protocol_at}
use Rattle.query_verify.proofs.Answering.{spent_answer, pair_answer}
use Rattle.query_verify.proofs.sharing.told.Goals as goal

pub returns-in_ok-entry-in-Spent-clause-answers : goal.returns-in_ok-entry-in-Spent-clause-answers
returns-in_ok-entry-in-Spent-clause-answers g c =
    let all = g.B.Bank.trees c.args.bank.now in
    let budget = c.args.question.now.budget in
    let log = log_of c.args.sharing.now.common in
    spent_answer (protocol_at c.args.question.now) c.args.question.now.query budget all c.args.given.now log c.in-Spent.due c.in_ok-entries-in-Spent.entries c.in_ok-entry-in-Spent.entry c.requires.given
    (subst (λ (end : End). IsLogOf all (map (clause_at all) c.args.given.now) budget (saturated log end)) c.in-Spent.is c.requires.log) (c.in_ok-entries-in-Spent.ensures ∙ ap (map (plain_entry all)) c.log-in-Spent.ensures) c.in_ok-entry-in-Spent.ensures

pub returns-in_ok-entries-in-Large-clause-answers : goal.returns-in_ok-entries-in-Large-clause-answers
returns-in_ok-entries-in-Large-clause-answers g c =
    let all = g.B.Bank.trees c.args.bank.now in
    let budget = c.args.question.now.budget in
    let log = log_of c.args.sharing.now.common in
    pair_answer (protocol_at c.args.question.now) c.args.question.now.query budget all c.args.given.now log c.in-Large.solved c.in-Large.unsolved c.in_ok-entries-in-Large.entries c.requires.given
    (subst (λ (end : End). IsLogOf all (map (clause_at all) c.args.given.now) budget (saturated log end)) c.in-Large.is c.requires.log) (c.in_ok-entries-in-Large.ensures ∙ ap (map (plain_entry all)) c.log-in-Large.ensures)

pub closed-requires-clause-log : goal.closed-requires-clause-log
closed-requires-clause-log g c = grind (arith, common_steps)
