use Rattle.std.proofs.Common.{◌-◌, ◌∷◌, length}
use Rattle.spec_protocol_grammar.specs.declared.class.Class.TheVariants as w
use Rattle.spec_protocol_grammar.specs.Reading.{name_at}
use Rattle.pi_parser.proofs.Lists.{IsGoing}
use Rattle.pi_parser.proofs.declarations.names.Given as goal

-- the names so far are read, and reading goes on
abbrev pub invariant-names : goal.invariant-names
invariant-names l = IsGoing w.Comma name_at l.classes l.at (l.at ∷ l.others.items) l.behind

abbrev pub decreases-names : goal.decreases-names
decreases-names l = length l.classes - l.behind
