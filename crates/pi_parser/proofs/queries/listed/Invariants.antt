use Rattle.std.proofs.Common.{◌-◌, map, length}
use Rattle.spec_protocol_grammar.specs.declared.class.Class.TheVariants as w
use Rattle.spec_protocol_grammar.specs.Reading.{alternative_at}
use Rattle.pi_parser.specs.Gives.{most_of}
use Rattle.pi_parser.specs.Files.{alternative_of}
use Rattle.pi_parser.proofs.Lists.{IsGoing}
use Rattle.pi_parser.proofs.queries.listed.Given as goal

-- the alternatives so far are read, and reading goes on
abbrev pub invariant-alternatives : goal.invariant-alternatives
invariant-alternatives l = IsGoing w.Or (alternative_at (most_of l.classes)) l.classes l.at (map alternative_of l.items.items) l.behind

abbrev pub decreases-alternatives : goal.decreases-alternatives
decreases-alternatives l = length l.classes - l.behind
