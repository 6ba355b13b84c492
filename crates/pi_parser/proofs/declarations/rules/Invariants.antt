use Rattle.std.proofs.Common.{◌-◌, ◌∷◌, map, length}
use Rattle.spec_protocol_grammar.specs.declared.class.Class.TheVariants as w
use Rattle.spec_protocol_grammar.specs.Reading.{rule_at}
use Rattle.pi_parser.specs.Gives.{most_of}
use Rattle.pi_parser.specs.Files.{rule_of}
use Rattle.pi_parser.proofs.Lists.{IsGoing}
use Rattle.pi_parser.proofs.declarations.rules.Given as goal

-- the rules so far are read, and reading goes on
abbrev pub invariant-rules : goal.invariant-rules
invariant-rules l = IsGoing w.Semicolon (rule_at (most_of l.classes)) l.classes l.at (map rule_of (l.first ∷ l.others.items)) l.behind

abbrev pub decreases-rules : goal.decreases-rules
decreases-rules l = length l.classes - l.behind
