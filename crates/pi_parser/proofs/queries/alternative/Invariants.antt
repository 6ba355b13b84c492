use Rattle.std.proofs.Common.{◌-◌, ◌∷◌, map, length}
use Rattle.spec_protocol_grammar.specs.declared.class.Class.TheVariants as w
use Rattle.spec_protocol_grammar.specs.Reading.{happening_at}
use Rattle.pi_parser.specs.Gives.{most_of}
use Rattle.pi_parser.specs.Terms.{atom_of}
use Rattle.pi_parser.proofs.Lists.{IsGoing}
use Rattle.pi_parser.proofs.queries.alternative.Given as goal

-- the events so far are read, and reading goes on
abbrev pub invariant-events : goal.invariant-events
invariant-events l = IsGoing w.And (happening_at (most_of l.classes)) l.classes l.at (map atom_of (l.atom ∷ l.others.items)) l.behind

abbrev pub decreases-events : goal.decreases-events
decreases-events l = length l.classes - l.behind
