use Rattle.spec_run_text.proofs.Lines.{texts_are_exact}
use Rattle.spec_run_text.proofs.texts_are_exact.Goals as goal

pub returns : goal.returns
returns c = texts_are_exact
