use Rattle.std.proofs.Common.{◌+◌, ◌-◌, ◌*◌, map, length}
use Rattle.spec_protocol_grammar.specs.declared.class.Class.TheVariants as w
use Rattle.spec_protocol_grammar.specs.Reading.{term_at}
use Rattle.pi_parser.specs.Gives.{most_of}
use Rattle.pi_parser.specs.Terms.{term_of}
use Rattle.pi_parser.proofs.Lists.{IsGoing}
use Rattle.pi_parser.proofs.terms.+term.Given as goal

abbrev pub decreases-arguments : goal.decreases-arguments
decreases-arguments l = 4 * l.left + 2

abbrev pub decreases-grouped : goal.decreases-grouped
decreases-grouped l = 4 * l.left + 3

abbrev pub decreases-named : goal.decreases-named
decreases-named l = 4 * l.left + 3

abbrev pub decreases-term : goal.decreases-term
decreases-term l = 4 * l.left

abbrev pub decreases-terms : goal.decreases-terms
decreases-terms l = 4 * l.left + 1

-- the terms so far are read, and reading goes on
abbrev pub invariant-terms-loop-alloc : goal.invariant-terms-loop-alloc
invariant-terms-loop-alloc l = IsGoing w.Comma (term_at (most_of l.classes) l.left) l.classes l.at (map term_of l.items.items) l.behind

abbrev pub decreases-terms-loop-alloc : goal.decreases-terms-loop-alloc
decreases-terms-loop-alloc l = length l.classes - l.behind
