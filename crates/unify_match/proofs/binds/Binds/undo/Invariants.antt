use Rattle.std.proofs.Common.{◌≡◌, ◌-◌, ◌≤◌, length, drop}
use Rattle.unify_match.proofs.binds.Binds.undo.Given as goal

abbrev pub invariant-loop-self : goal.invariant-loop-self
invariant-loop-self l = record {
  above : l.level ≤ length l.self.pairs;
  shorter : length l.self.pairs ≤ length l.fn.self.pairs;
  pairs : l.self.pairs ≡ drop (length l.fn.self.pairs - length l.self.pairs) l.fn.self.pairs;
  room : l.fn.self.room ≤ l.self.room;
}

abbrev pub decreases-loop-self : goal.decreases-loop-self
decreases-loop-self l = length l.self.pairs
