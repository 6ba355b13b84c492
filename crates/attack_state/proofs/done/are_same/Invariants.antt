use Rattle.std.proofs.Common.{◌≡◌, length, drop}
use Rattle.attack_state.specs.States.{same_ids}
use Rattle.attack_state.proofs.done.are_same.Given as goal

abbrev pub invariant-each : goal.invariant-each
invariant-each l = record {
  lengths : length l.left ≡ length l.right;
  rest : same_ids (drop l.index l.left) (drop l.index l.right) ≡ same_ids l.left l.right;
}
