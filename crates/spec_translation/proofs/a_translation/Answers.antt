use Rattle.spec_translation.proofs.Existence.{a_translation}
use Rattle.spec_translation.proofs.a_translation.Goals as goal

pub returns : goal.returns
returns c = a_translation
