use Rattle.verifier_cli.proofs.ReadBack.{WayBack, read_back}
use Rattle.verifier_cli.proofs.read_back.verdicts_are_read_back.Goals as goal

pub returns : goal.returns
returns c =
    let laws : WayBack = record {
      names = c.spelled_protocols_have_names.ensures;
      limits = c.within_limits.ensures;
      stand = c.proved_certificates_may_stand.ensures;
      written = c.written_certificates_are_spelled.ensures;
      accepted = c.first_certificates_are_accepted.ensures;
      one_ruling = c.one_ruling.ensures;
    } in
    read_back laws
