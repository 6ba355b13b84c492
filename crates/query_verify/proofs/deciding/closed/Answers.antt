use Rattle.std.proofs.Common.{◌∙◌, map, ap, arith}
use Rattle.std.proofs.lemmas.Grind.{common_steps}
use Rattle.std.proofs.lemmas.Result.{IfOk-weaker}
use Rattle.clause_form.specs.Seen.{clause_at}
use Rattle.log_entries.specs.Plain.{plain_entry}
use Rattle.query_verify.specs.Asked.{protocol_at, Answers, TellsUnmet}
use Rattle.query_verify.proofs.Telling.{plain_tells, tell_length}
use Rattle.query_verify.proofs.Answering.{proved_answer, unmet_answer}
use Rattle.query_verify.proofs.Fitting.{small_query}
use Rattle.query_verify.proofs.Normed.{log_normed, translated_normed, never_large}
use Rattle.query_verify.proofs.deciding.closed.Goals as goal

pub certify_with-requires-clause-few : goal.certify_with-requires-clause-few
certify_with-requires-clause-few g c =
    let many = tell_length (g.B.Bank.trees c.args.bank.now) c.args.log.now c.requires.log.log c.requires.log.tell in
    omega (arith, many, c.requires.log.is_log.within, c.requires.question.budget)

pub returns-in-Cert-clause-answers : goal.returns-in-Cert-clause-answers
returns-in-Cert-clause-answers g c =
    proved_answer (protocol_at c.args.question.now) c.args.question.now.query c.args.question.now.budget (g.B.Bank.trees c.args.bank.now) c.args.given.now c.args.log.now c.in_ok-cert.field-0 c.in-Cert.cert
    c.in_ok-cert.ensures.verdict c.in-Cert.is c.requires.log

pub unsatisfied-requires-clause-small : goal.unsatisfied-requires-clause-small
unsatisfied-requires-clause-small g c =
    let P = protocol_at c.args.question.now in
    never_large P c.args.question.now.query (g.B.Bank.trees c.args.bank.now) c.args.given.now (λ q a b one two. c.one_translation.ensures P q a b one two) c.requires.given

pub unsatisfied-requires-clause-normed : goal.unsatisfied-requires-clause-normed
unsatisfied-requires-clause-normed g c =
    let P = protocol_at c.args.question.now in
    let all = g.B.Bank.trees c.args.bank.now in
    let t = c.requires.given in
    let limits = c.requires.question.limits in
    let are = translated_normed P c.args.question.now.query all c.args.given.now t (λ d has. c.translations_are_normal.ensures.normal P t.query t.list d t.translates has)
    (λ d has. c.translations_are_within_the_limit.ensures.all P t.query t.list d limits (small_query P c.args.question.now.query t.query limits t.is) t.translates has) in
    let read = c.in_ok-entries-in-Unsatisfied.ensures ∙ ap (λ a. map (plain_entry a) c.args.log.now) c.certify_with.ensures.bank in
    log_normed (map (clause_at all) c.args.given.now) c.args.question.now.budget c.requires.log.log c.in_ok-entries-in-Unsatisfied.entries are c.requires.log.is_log
    (plain_tells all c.args.log.now c.requires.log.log c.in_ok-entries-in-Unsatisfied.entries c.requires.log.tell read)

pub returns-in_ok-entries-in-Unsatisfied-clause-answers : goal.returns-in_ok-entries-in-Unsatisfied-clause-answers
returns-in_ok-entries-in-Unsatisfied-clause-answers g c =
    IfOk-weaker c.unsatisfied.result (λ answer. TellsUnmet c.args.question.now c.in_ok-entries-in-Unsatisfied.entries c.in-Unsatisfied.number answer) (λ answer. Answers c.args.question.now answer)
    (λ answer told. unmet_answer c.args.question.now (g.B.Bank.trees c.args.bank.now) (g.B.Bank.trees c.certify_with.new.bank) c.args.given.now c.args.log.now c.in_ok-cert.field-0 c.in-Unsatisfied.number c.in_ok-entries-in-Unsatisfied.entries answer
    c.in_ok-cert.ensures.verdict c.in-Unsatisfied.is c.requires.log c.certify_with.ensures.bank c.in_ok-entries-in-Unsatisfied.ensures told) c.unsatisfied.ensures

pub certify_with-requires-clause-translation : goal.certify_with-requires-clause-translation
certify_with-requires-clause-translation g c = grind (arith, common_steps)

pub read_log-requires : goal.read_log-requires
read_log-requires g c = grind (arith, common_steps)
