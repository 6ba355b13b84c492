use Rattle.fact_classes.proofs.Classing.{classes_apart}
use Rattle.fact_classes.proofs.facts_of_two_classes_never_meet.Goals as goal

pub returns : goal.returns
returns c = classes_apart
