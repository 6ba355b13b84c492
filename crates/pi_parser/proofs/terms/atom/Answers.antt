-- A level deeper, at the last level, and where no event begins.
use Rattle.std.proofs.Common.{arith}
use Rattle.pi_parser.proofs.Levels.{atom_bottom, atom_deeper, atom_refused}
use Rattle.pi_parser.proofs.terms.atom.Goals as goal

pub returns-clause-read : goal.returns-clause-read
returns-clause-read c = grind (arith, atom_deeper)

pub returns-then-left-eq0-clause-read : goal.returns-then-left-eq0-clause-read
returns-then-left-eq0-clause-read c = grind (arith, atom_bottom)

pub returns-in_err-arguments-clause-read : goal.returns-in_err-arguments-clause-read
returns-in_err-arguments-clause-read c = grind (arith, atom_deeper)

pub returns-then-not-is_at-clause-read : goal.returns-then-not-is_at-clause-read
returns-then-not-is_at-clause-read c = grind (arith, atom_refused)
