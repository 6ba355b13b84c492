use Rattle.std.proofs.Common.{◌∙◌, ap, sym, subst}
use Rattle.pi_tree.specs.Protocols.{protocol_of}
use Rattle.call_outcomes.specs.Outcome.{Refused, Report}
use Rattle.call_outcomes.specs.Seen.{report_refusal_by}
use Rattle.choice_check.specs.declared.reading.Misspelling.{Misspelling}
use Rattle.choice_check.specs.Checking.{IsOutcomeOfReport}
use Rattle.choice_check.specs.Reading.{IsUnread}
use Rattle.choice_check.proofs.OneAnswer.{told_refused}
use Rattle.choice_check.proofs.checking.check_split.Goals as goal

pub returns-in-Err-Misspelled-clause-answers : goal.returns-in-Err-Misspelled-clause-answers
returns-in-Err-Misspelled-clause-answers c =
    let P = protocol_of c.args.protocol.now in
    let fault = c.in-Err-Misspelled.fault in
    let told = subst (IsUnread P c.args.bytes.now) c.in-Err-Misspelled.field-0-is c.in-Err-Misspelled.ensures.unread in
    let is = c.refused.ensures ∙ ap (λ (f : Misspelling). Refused (Report f.line (report_refusal_by f.code))) c.in-Err-Misspelled.fault-is in
    subst (IsOutcomeOfReport P c.args.bytes.now) (sym is) (told_refused P c.args.bytes.now fault c.requires.fits told)
