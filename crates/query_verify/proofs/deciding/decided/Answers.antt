use Rattle.std.proofs.Common.{List, sym, subst, arith}
use Rattle.std.proofs.lemmas.Grind.{common_steps}
use Rattle.spec_terms.specs.Term.{Term}
use Rattle.spec_clauses.specs.Fact.{Clause}
use Rattle.clause_form.proofs.Fit.{named_fit}
use Rattle.log_entries.specs.Logs.{IsLogOf}
use Rattle.query_verify.specs.Asked.{protocol_at}
use Rattle.query_verify.proofs.Fitting.{small_query, named_some, same_later, translates_later}
use Rattle.query_verify.proofs.deciding.decided.Goals as goal

pub saturate-requires-clause-some : goal.saturate-requires-clause-some
saturate-requires-clause-some g c =
    let t = c.requires.given in
    let last = c.translations_have_one_goal.ensures.last (protocol_at c.args.question.now) t.query t.list t.translates in
    named_some (g.B.Bank.trees c.args.bank.now) c.args.given.now t.list last.0 last.1 t.names last.2

pub saturate-requires-clause-fit : goal.saturate-requires-clause-fit
saturate-requires-clause-fit g c =
    let P = protocol_at c.args.question.now in
    let t = c.requires.given in
    let limits = c.requires.question.limits in
    named_fit (g.B.Bank.trees c.args.bank.now) c.args.given.now t.list t.names t.low (λ d has. c.translations_are_normal.ensures.normal P t.query t.list d t.translates has)
    (λ d has. c.translations_are_within_the_limit.ensures.all P t.query t.list d limits (small_query P c.args.question.now.query t.query limits t.is) t.translates has)

pub ended-answer-requires-clause-given : goal.ended-answer-requires-clause-given
ended-answer-requires-clause-given g c =
    translates_later (protocol_at c.args.question.now) c.args.question.now.query (g.B.Bank.trees c.args.bank.now) (g.B.Bank.trees c.saturate.new.bank) c.args.given.now c.saturate.ensures.grows c.requires.given

pub ended-answer-requires-clause-log : goal.ended-answer-requires-clause-log
ended-answer-requires-clause-log g c =
    let old = g.B.Bank.trees c.args.bank.now in
    let new = g.B.Bank.trees c.saturate.new.bank in
    subst (λ (cs : List (Clause Term)). IsLogOf new cs c.args.question.now.budget c.in_ok-saturated.saturated) (sym (same_later old new c.args.given.now c.saturate.ensures.grows c.requires.given.names.known)) c.in_ok-saturated.ensures.log

pub returns-clause-grows : goal.returns-clause-grows
returns-clause-grows g c = grind (arith, common_steps)
