-- What each step keeps, each run keeps.
use Rattle.std.proofs.Common.{List, [], ◌∷◌, IfSome}
use Rattle.spec_calculus.specs.Syntax.{Protocol}
use Rattle.spec_calculus.specs.Runs.{Configuration, Step, after_step, after_steps}
use Rattle.spec_calculus.proofs.Items.{if_some-is, if_some-then}

pub steps_keep : (P : Protocol) (I : Configuration → Type 0) → ((c : Configuration) (step : Step) → I c → IfSome (after_step P c step) I) → (steps : List Step) (c : Configuration) → I c → IfSome (after_steps P c steps) I
steps_keep P I kept [] c h = h
steps_keep P I kept (step ∷ steps) c h =
    if_some-then I (λ d. after_steps P d steps) (after_step P c step) (λ d is. steps_keep P I kept steps d (if_some-is I (after_step P c step) d (kept c step h) is))
