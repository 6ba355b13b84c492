-- Numbers of points and variables, and where a process stands.
use Rattle.std.specs.Prelude.{◌+◌, ◌*◌, ◌≤◌}
use Rattle.std.specs.Global.{Box}
use Rattle.spec_calculus.specs.Syntax as calculus
use Rattle.spec_protocol_scope.specs.Processes as own
use Rattle.pi_tree.specs.declared.syntax.Process.{Process}
use Rattle.pi_tree.specs.Processes.{process_of}
use Rattle.scope_declarations.specs.Within.{most_bound}
use Rattle.scope_check.specs.declared.numbers.Numbers.{Numbers}

-- the variables of one pattern more may come before the next point
abbrev pub HaveRoom : Numbers → Type 0
HaveRoom n = n.variable + 2 * most_bound ≤ 1 + n.point * most_bound

abbrev pub numbers_of : Numbers → own.Numbers
numbers_of n = record { point = n.point; variable = n.variable }

-- a process with the numbers behind it
abbrev pub numbered_of : (read : Box Process × Numbers) → calculus.Process × own.Numbers
numbered_of read = (process_of read.0.value, numbers_of read.1)
