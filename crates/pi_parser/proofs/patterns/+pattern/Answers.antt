-- One more part of a list, and a list in parentheses.
use Rattle.std.proofs.Common.{arith, rules, ◌≡◌, ◌<◌, true, [], ◌∷◌, ◌++◌, length}
use Rattle.std.proofs.lemmas.Grind.{common_steps}
use Rattle.spec_protocol_grammar.specs.declared.class.Class.TheVariants as w
use Rattle.spec_protocol_grammar.specs.Classes.{words, same}
use Rattle.spec_protocol_grammar.specs.Reading.{pattern_at}
use Rattle.pi_parser.specs.Gives.{most_of}
use Rattle.pi_parser.specs.Patterns.{pattern_of}
use Rattle.pi_parser.proofs.Levels.{pattern_deeper, pattern_other, pattern_bottom}
use Rattle.pi_parser.proofs.Lists.{going_begins, going_continues, arguments_shut, arguments_fault, arguments_none, arguments_unclosed, first_faults, going_ends, going_faults}
use Rattle.pi_parser.proofs.patterns.+pattern.Goals as goal

pub patterns-loop-alloc-init : goal.patterns-loop-alloc-init
patterns-loop-alloc-init t c =
    let items : c.push.new.self.items ≡ c.in_ok-first.first ∷ [] = grind (arith, common_steps) in
    going_begins pattern_of w.Comma (pattern_at (most_of c.args.classes.now) c.args.left) c.args.classes.now c.args.at c.in_ok-first.behind c.in_ok-first.first c.push.new.self.items
    items c.in_ok-first.ensures.read c.in_ok-first.ensures.within.0 c.in_ok-first.ensures.within.1

pub patterns-loop-alloc-preserved : goal.patterns-loop-alloc-preserved
patterns-loop-alloc-preserved t c =
    let items : c.push-in-loop-alloc.new.self.items ≡ c.loop-alloc.items.items ++ (c.in_ok-next.next ∷ []) = grind (arith, common_steps) in
    let test : same w.Comma (words c.args.classes.now c.loop-alloc.behind).class ≡ true = search rules in
    let near : c.loop-alloc.behind < length c.args.classes.now = grind (arith, common_steps) in
    going_continues pattern_of w.Comma (pattern_at (most_of c.args.classes.now) c.args.left) c.args.classes.now c.args.at c.loop-alloc.behind c.in_ok-next.end c.loop-alloc.items.items c.in_ok-next.next
    c.push-in-loop-alloc.new.self.items items c.loop-alloc.invariant test near c.in_ok-next.ensures.read c.in_ok-next.ensures.within.0 c.in_ok-next.ensures.within.1

pub arguments-returns-in_ok-close-clause-read : goal.arguments-returns-in_ok-close-clause-read
arguments-returns-in_ok-close-clause-read t c =
    let opened : same w.Open (words c.args.classes.now c.args.at).class ≡ true = search rules in
    arguments_shut (most_of c.args.classes.now) (pattern_at (most_of c.args.classes.now) c.args.left) (words c.args.classes.now) c.args.at c.in_ok-items.items c.in_ok-items.behind c.in_ok-close.close
    opened c.in_ok-items.ensures.read c.in_ok-close.ensures.found.1 c.in_ok-close.ensures.found.0

pub pattern-named-requires : goal.pattern-named-requires
pattern-named-requires t c = grind (arith, common_steps)

pub pattern-grouped-requires : goal.pattern-grouped-requires
pattern-grouped-requires t c = grind (arith, common_steps)

pub pattern-equal-requires-clause-room : goal.pattern-equal-requires-clause-room
pattern-equal-requires-clause-room t c = grind (arith, common_steps)

pub grouped-returns-clause-read : goal.grouped-returns-clause-read
grouped-returns-clause-read t c = grind (arith, common_steps)

pub named-returns-clause-read : goal.named-returns-clause-read
named-returns-clause-read t c = grind (arith, common_steps)

pub pattern-returns-in_default : goal.pattern-returns-in_default
pattern-returns-in_default t c = grind (arith, pattern_deeper, pattern_other)

pub patterns-returns-clause-read : goal.patterns-returns-clause-read
patterns-returns-clause-read t c = grind (arith, going_ends)

pub patterns-returns-in_err-first-clause-read : goal.patterns-returns-in_err-first-clause-read
patterns-returns-in_err-first-clause-read t c = grind (arith, first_faults)

pub patterns-returns-in_err-next-clause-read : goal.patterns-returns-in_err-next-clause-read
patterns-returns-in_err-next-clause-read t c = grind (arith, going_faults)

pub arguments-returns-in_err-items-clause-read : goal.arguments-returns-in_err-items-clause-read
arguments-returns-in_err-items-clause-read t c = grind (arith, arguments_fault)

pub arguments-returns-in_err-close-clause-read : goal.arguments-returns-in_err-close-clause-read
arguments-returns-in_err-close-clause-read t c = grind (arith, arguments_unclosed)

pub arguments-returns-else-is_at-clause-read : goal.arguments-returns-else-is_at-clause-read
arguments-returns-else-is_at-clause-read t c = grind (arith, arguments_none)

pub patterns-pattern-requires-in-loop-alloc : goal.patterns-pattern-requires-in-loop-alloc
patterns-pattern-requires-in-loop-alloc t c = grind (arith, common_steps)

pub pattern-returns-then-left-eq0-clause-read : goal.pattern-returns-then-left-eq0-clause-read
pattern-returns-then-left-eq0-clause-read t c = grind (arith, pattern_bottom)

pub pattern-returns-in-Name-clause-read : goal.pattern-returns-in-Name-clause-read
pattern-returns-in-Name-clause-read t c = grind (arith, pattern_deeper)

pub pattern-returns-in-Equals-clause-read : goal.pattern-returns-in-Equals-clause-read
pattern-returns-in-Equals-clause-read t c = grind (arith, pattern_deeper)

pub pattern-returns-in-Open-clause-read : goal.pattern-returns-in-Open-clause-read
pattern-returns-in-Open-clause-read t c = grind (arith, pattern_deeper)
