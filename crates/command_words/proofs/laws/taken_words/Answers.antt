use Rattle.command_words.proofs.Complete.{taken_is}
use Rattle.command_words.proofs.laws.taken_words.Goals as goal

pub returns : goal.returns
returns c = taken_is
