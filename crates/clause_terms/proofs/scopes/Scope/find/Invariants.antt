use Rattle.std.proofs.Common.{◌≡◌, map, drop}
use Rattle.pi_tree.specs.Slots.{name_of}
use Rattle.clause_terms.specs.Scopes.{id_in}
use Rattle.clause_terms.specs.Slots.{held_of}
use Rattle.clause_terms.proofs.scopes.Scope.find.Given as goal

abbrev pub invariant-loop-standing : goal.invariant-loop-standing
invariant-loop-standing l = id_in (map held_of (drop l.standing-index l.standing-items)) (name_of l.slot) ≡ id_in (map held_of l.standing-items) (name_of l.slot)
