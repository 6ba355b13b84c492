use Rattle.spec_certificates.proofs.Selected.{selected_rule}
use Rattle.spec_certificates.proofs.selected_numbers_rule_alike.Goals as goal

pub returns : goal.returns
returns c = selected_rule
