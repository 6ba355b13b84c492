use Rattle.std.proofs.Common.{refl}
use Rattle.clap.proofs.OnLiterals.{clap_on_literals}
use Rattle.command_words.proofs.laws.help_refused.Goals as goal

pub returns : goal.returns
unfolding clap_on_literals
returns c = record {
  word = λ program rest. refl;
  long = λ program rest. refl;
  short = λ program rest. refl;
  version = λ program rest. refl;
}
