-- none of the later macros is named so
use Rattle.std.proofs.Common.{◌≡◌, ◌≤◌, length, take}
use Rattle.scope_declarations.specs.Scope.{scope_of}
use Rattle.scope_check.specs.Forms.{macros_of}
use Rattle.scope_check.proofs.site.used_macro.Given as goal

abbrev pub invariant-loop-at : goal.invariant-loop-at
invariant-loop-at l = record {
  within : l.at ≤ length l.macros;
  rest : macros_of (scope_of l.scope) (take l.at l.macros) l.word ≡ macros_of (scope_of l.scope) l.macros l.word;
}

abbrev pub decreases-loop-at : goal.decreases-loop-at
decreases-loop-at l = l.at
