-- What contracts see of a step.
use Rattle.spec_calculus.specs.Runs as calculus
use Rattle.pi_model.specs.declared.steps.Step.{Step}
use Rattle.pi_model.specs.declared.steps.Step.TheVariants.{Build, Reduce, Part, Fresh, Split, Copy, Make, Pass, Hear, Say, Take, Fail, Mark, Next, Insert, Get, Miss}

abbrev pub step_of : Step → calculus.Step
step_of (Build constructor arguments) = calculus.Build constructor arguments
step_of (Reduce destructor rule arguments) = calculus.Reduce destructor rule arguments
step_of (Part value part) = calculus.Part value part
step_of Fresh = calculus.Fresh
step_of (Split thread) = calculus.Split thread
step_of (Copy thread) = calculus.Copy thread
step_of (Make thread) = calculus.Make thread
step_of (Pass sender receiver) = calculus.Pass sender receiver
step_of (Hear thread) = calculus.Hear thread
step_of (Say thread value) = calculus.Say thread value
step_of (Take thread label) = calculus.Take thread label
step_of (Fail thread) = calculus.Fail thread
step_of (Mark thread) = calculus.Mark thread
step_of Next = calculus.Next
step_of (Insert thread) = calculus.Put thread
step_of (Get thread entry) = calculus.Fetch thread entry
step_of (Miss thread) = calculus.Miss thread
