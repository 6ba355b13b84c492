use Rattle.spec_translation.proofs.OneTranslation.{one_translation}
use Rattle.spec_translation.proofs.one_translation.Goals as goal

pub returns : goal.returns
returns c = one_translation
