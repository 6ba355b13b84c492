-- A closed log is told with its first entry that is unmet, which can be explained.
use Rattle.std.proofs.Common.{◌≡◌, ◌∙◌, map, ap, refl}
use Rattle.clause_form.specs.Seen.{clause_at}
use Rattle.log_entries.specs.Plain.{plain_entry}
use Rattle.query_verify.proofs.Fitting.{small_query}
use Rattle.query_verify.proofs.Normed.{log_normed, translated_normed}
use Rattle.query_verify.proofs.Telling.{plain_tells}
use Rattle.hx.specs.Logged.{protocol_at}
use Rattle.hx.proofs.Telling.{closed_told, can_explain}
use Rattle.hx.proofs.logging.closed.Goals as goal

pub returns-clause-told : goal.returns-clause-told
returns-clause-told g c =
    let all = g.B.Bank.trees c.args.bank.now in
    let read : c.in_ok-entries.entries ≡ map (plain_entry all) c.args.log.now = c.in_ok-entries.ensures ∙ ap (λ a. map (plain_entry a) c.args.log.now) c.first_unmet.ensures.bank in
    closed_told c.args.asked.now all c.args.given.now c.requires.asked c.requires.given c.args.log.now c.in_ok-unmet.unmet _ c.requires.log c.in_ok-unmet.ensures.found read refl refl refl refl

pub returns-clause-ready : goal.returns-clause-ready
returns-clause-ready g c =
    let P = protocol_at c.args.asked.now in
    let all = g.B.Bank.trees c.args.bank.now in
    let t = c.requires.given in
    let limits = c.requires.asked.limits in
    let are = translated_normed P c.args.asked.now.query all c.args.given.now t (λ d has. c.translations_are_normal.ensures.normal P t.query t.list d t.translates has)
    (λ d has. c.translations_are_within_the_limit.ensures.all P t.query t.list d limits (small_query P c.args.asked.now.query t.query limits t.is) t.translates has) in
    let read : c.in_ok-entries.entries ≡ map (plain_entry all) c.args.log.now = c.in_ok-entries.ensures ∙ ap (λ a. map (plain_entry a) c.args.log.now) c.first_unmet.ensures.bank in
    can_explain c.in_ok-entries.entries c.in_ok-unmet.unmet
    (log_normed (map (clause_at all) c.args.given.now) c.args.asked.now.budget c.requires.log.log c.in_ok-entries.entries are c.requires.log.is_log
    (plain_tells all c.args.log.now c.requires.log.log c.in_ok-entries.entries c.requires.log.tell read))
