use Rattle.std.proofs.Common.{◌≡◌, take, flat_map}
use Rattle.clause_form.specs.Standing.{noted}
use Rattle.clause_diffs.proofs.Counting.{leaves_at}
use Rattle.clause_form.proofs.standing.note_in_terms.Given as goal

abbrev pub invariant-loop-term : goal.invariant-loop-term
invariant-loop-term g l = l.table ≡ noted l.fn.table (flat_map (leaves_at (g.B.Bank.trees l.bank)) (take l.term-index l.terms))
