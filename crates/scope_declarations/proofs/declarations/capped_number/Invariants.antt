-- what the digits so far spell
use Rattle.std.proofs.Common.{◌≡◌, ◌+◌, min, take}
use Rattle.spec_protocol_scope.specs.Names.{decimal}
use Rattle.scope_declarations.proofs.declarations.capped_number.Given as goal

abbrev pub invariant-loop-digit : goal.invariant-loop-digit
invariant-loop-digit l = l.number ≡ min (decimal (take l.digit-index l.digits)) (l.most + 1)
