use Rattle.spec_abstraction.proofs.Holding.{translations_hold_all}
use Rattle.spec_abstraction.proofs.translations_hold_all.Goals as goal

pub returns : goal.returns
returns c = translations_hold_all
