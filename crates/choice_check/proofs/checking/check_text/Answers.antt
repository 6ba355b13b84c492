use Rattle.pi_tree.specs.Protocols.{protocol_of}
use Rattle.choice_check.proofs.Limits.{short_queries}
use Rattle.choice_check.proofs.OneAnswer.{ReportLaws, checks_where_ok}
use Rattle.choice_check.proofs.checking.check_text.Goals as goal

pub returns : goal.returns
returns c =
    let P = protocol_of c.args.protocol.now in
    let laws : ReportLaws P = record {
      faultless = λ text claims place code is spells. (c.the_first_fault_of_a_report_in_either_format_is_told.ensures.spelled P text claims c.requires.names (short_queries P c.requires.limits) spells).none place code is.stands;
      first = c.first_faults_are_one.ensures.report P;
      one = λ text claims others a b. c.reports_are_one.ensures P text claims others c.requires.names a b;
    } in
    checks_where_ok P laws c.args.bytes.now c.check_split.result c.check_split.ensures.answers c.check_split.ensures.holds
