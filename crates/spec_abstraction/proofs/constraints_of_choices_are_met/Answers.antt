use Rattle.spec_abstraction.specs.Trace.{trace_of}
use Rattle.spec_abstraction.proofs.Failing.{choices_met}
use Rattle.spec_abstraction.proofs.OneToOne.{runs_are_one_to_one}
use Rattle.spec_abstraction.proofs.constraints_of_choices_are_met.Goals as goal

pub returns : goal.returns
returns c = λ P steps d environment pattern expression rules reached lacks none_matches.
    choices_met P (trace_of P steps).made (runs_are_one_to_one P steps d reached) environment lacks rules.proper pattern expression none_matches
