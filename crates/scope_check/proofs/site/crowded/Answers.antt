-- A macro use that is right.
use Rattle.scope_declarations.specs.Scope.{scope_of}
use Rattle.scope_check.proofs.Macros.{crowded_use}
use Rattle.scope_check.proofs.site.crowded.Goals as goal

pub returns-in-Ok : goal.returns-in-Ok
returns-in-Ok c = rw c.in-Macro.is (crowded_use (scope_of c.args.scope.now) c.args.macros.now c.in-Macro.token c.in-Ok.field-0 c.in-Ok.ensures.found.0 c.in-Ok.ensures.found.1)
