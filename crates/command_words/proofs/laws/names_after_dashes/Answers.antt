use Rattle.std.proofs.Common.{refl}
use Rattle.clap.proofs.OnLiterals.{clap_on_literals}
use Rattle.command_words.proofs.laws.names_after_dashes.Goals as goal

pub returns : goal.returns
unfolding clap_on_literals
returns c = record { verify = λ program file. refl; check = λ program file report. refl; replay = λ program file run. refl }
