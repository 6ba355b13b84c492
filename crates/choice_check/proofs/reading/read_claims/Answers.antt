use Rattle.std.proofs.Common.{◌∙◌, List, ℕ, map, ap, subst}
use Rattle.spec_node_reading.specs.Reports.{SpellsReport}
use Rattle.pi_tree.specs.Protocols.{protocol_of}
use Rattle.cert_text.specs.Seen.{shared_claim_of}
use Rattle.choice_check.proofs.Limits.{few_names, short_queries}
use Rattle.choice_check.proofs.Told.{choice_alone}
use Rattle.choice_check.proofs.reading.read_claims.Goals as goal

pub read_shared_report-requires : goal.read_shared_report-requires
read_shared_report-requires c = few_names (protocol_of c.args.protocol.now) c.requires.loaded.limits

pub returns-in-Some-clause-unread : goal.returns-in-Some-clause-unread
returns-in-Some-clause-unread c =
    let P = protocol_of c.args.protocol.now in
    let claims = map shared_claim_of c.in-Ok.claims in
    let spelled = subst (λ (text : List ℕ). SpellsReport P text claims) (c.deref.ensures.value ∙ ap (λ s. s.plain) c.requires.is) c.in-Ok.ensures.spelled in
    choice_alone P c.args.bytes.now
    (λ text others place code is spells. (c.the_first_fault_of_a_report_in_either_format_is_told.ensures.spelled P text others c.requires.loaded.names (short_queries P c.requires.loaded.limits) spells).none place code is.stands)
    claims c.choice_fault.result spelled c.choice_fault.ensures
