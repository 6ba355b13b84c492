-- Where a thread stands, as contracts see it.
use Rattle.std.specs.Prelude.{ℕ, Option, Some}
use Rattle.spec_calculus.specs.Syntax.{Process, Protocol}
use Rattle.spec_calculus.specs.Values.{Environment}
use Rattle.spec_calculus.specs.Runs.{Configuration, acting}
use Rattle.pi_tree.specs.Processes.{process_of}
use Rattle.attack_compiling.specs.declared.standing.Stand.{Stand}

-- the point, what is bound, and the process that is there
abbrev pub Standing : Type 0
Standing = ℕ × Environment × Process

abbrev pub stand_of : Stand → Standing
stand_of stand = (stand.point, stand.environment.now, process_of stand.process.now)

-- where the thread stands, if there is one that has not ended
abbrev pub stand_at : Protocol → Configuration → ℕ → Option Standing
stand_at P c i = acting P c i (λ point environment process. Some (point, environment, process))
