use Rattle.spec_calculus.specs.Standing.{Lacks}
use Rattle.spec_calculus.proofs.Items.{each-contains}
use Rattle.spec_abstraction.specs.Trace.{trace_of}
use Rattle.spec_abstraction.specs.OneToOne.{is_foreign}
use Rattle.spec_abstraction.proofs.Entries.{runs_have_entries}
use Rattle.spec_abstraction.proofs.OneToOne.{runs_are_one_to_one}
use Rattle.spec_abstraction.proofs.abstraction_is_one_to_one.Goals as goal

pub returns-clause-values : goal.returns-clause-values
returns-clause-values c = runs_are_one_to_one

pub returns-clause-known : goal.returns-clause-known
returns-clause-known c = λ P steps d v w reached has also same.
    let lacks = (runs_have_entries P steps d reached).known in
    let foreign = is_foreign (trace_of P steps).made in
    runs_are_one_to_one P steps d reached v w (each-contains (Lacks foreign) d.known v lacks has) (each-contains (Lacks foreign) d.known w lacks also) same
