use Rattle.std.proofs.Common.{◌+◌, ◌-◌, ◌*◌, map, length}
use Rattle.spec_protocol_grammar.specs.declared.class.Class.TheVariants as w
use Rattle.spec_protocol_grammar.specs.Reading.{pattern_at}
use Rattle.pi_parser.specs.Gives.{most_of}
use Rattle.pi_parser.specs.Patterns.{pattern_of}
use Rattle.pi_parser.proofs.Lists.{IsGoing}
use Rattle.pi_parser.proofs.patterns.+pattern.Given as goal

abbrev pub decreases-arguments : goal.decreases-arguments
decreases-arguments l = 4 * l.left + 2

abbrev pub decreases-grouped : goal.decreases-grouped
decreases-grouped l = 4 * l.left + 3

abbrev pub decreases-named : goal.decreases-named
decreases-named l = 4 * l.left + 3

abbrev pub decreases-pattern : goal.decreases-pattern
decreases-pattern l = 4 * l.left

abbrev pub decreases-patterns : goal.decreases-patterns
decreases-patterns l = 4 * l.left + 1

-- the patterns so far are read, and reading goes on
abbrev pub invariant-patterns-loop-alloc : goal.invariant-patterns-loop-alloc
invariant-patterns-loop-alloc l = IsGoing w.Comma (pattern_at (most_of l.classes) l.left) l.classes l.at (map pattern_of l.items.items) l.behind

abbrev pub decreases-patterns-loop-alloc : goal.decreases-patterns-loop-alloc
decreases-patterns-loop-alloc l = length l.classes - l.behind
