-- One more part of a list, and a list in parentheses.
use Rattle.std.proofs.Common.{arith, rules, ◌≡◌, ◌<◌, true, [], ◌∷◌, ◌++◌, length}
use Rattle.std.proofs.lemmas.Grind.{common_steps}
use Rattle.spec_protocol_grammar.specs.declared.class.Class.TheVariants as w
use Rattle.spec_protocol_grammar.specs.Classes.{words, same}
use Rattle.spec_protocol_grammar.specs.Reading.{term_at}
use Rattle.pi_parser.specs.Gives.{most_of}
use Rattle.pi_parser.specs.Terms.{term_of}
use Rattle.pi_parser.proofs.Levels.{term_deeper, term_other, term_bottom}
use Rattle.pi_parser.proofs.Lists.{going_begins, going_continues, arguments_shut, arguments_fault, arguments_none, arguments_unclosed, first_faults, going_ends, going_faults}
use Rattle.pi_parser.proofs.terms.+term.Goals as goal

pub terms-loop-alloc-init : goal.terms-loop-alloc-init
terms-loop-alloc-init t c =
    let items : c.push.new.self.items ≡ c.in_ok-first.first ∷ [] = grind (arith, common_steps) in
    going_begins term_of w.Comma (term_at (most_of c.args.classes.now) c.args.left) c.args.classes.now c.args.at c.in_ok-first.behind c.in_ok-first.first c.push.new.self.items
    items c.in_ok-first.ensures.read c.in_ok-first.ensures.within.0 c.in_ok-first.ensures.within.1

pub terms-loop-alloc-preserved : goal.terms-loop-alloc-preserved
terms-loop-alloc-preserved t c =
    let items : c.push-in-loop-alloc.new.self.items ≡ c.loop-alloc.items.items ++ (c.in_ok-next.next ∷ []) = grind (arith, common_steps) in
    let test : same w.Comma (words c.args.classes.now c.loop-alloc.behind).class ≡ true = search rules in
    let near : c.loop-alloc.behind < length c.args.classes.now = grind (arith, common_steps) in
    going_continues term_of w.Comma (term_at (most_of c.args.classes.now) c.args.left) c.args.classes.now c.args.at c.loop-alloc.behind c.in_ok-next.end c.loop-alloc.items.items c.in_ok-next.next
    c.push-in-loop-alloc.new.self.items items c.loop-alloc.invariant test near c.in_ok-next.ensures.read c.in_ok-next.ensures.within.0 c.in_ok-next.ensures.within.1

pub arguments-returns-in_ok-close-clause-read : goal.arguments-returns-in_ok-close-clause-read
arguments-returns-in_ok-close-clause-read t c =
    let opened : same w.Open (words c.args.classes.now c.args.at).class ≡ true = search rules in
    arguments_shut (most_of c.args.classes.now) (term_at (most_of c.args.classes.now) c.args.left) (words c.args.classes.now) c.args.at c.in_ok-items.items c.in_ok-items.behind c.in_ok-close.close
    opened c.in_ok-items.ensures.read c.in_ok-close.ensures.found.1 c.in_ok-close.ensures.found.0

pub term-named-requires : goal.term-named-requires
term-named-requires t c = grind (arith, common_steps)

pub term-grouped-requires : goal.term-grouped-requires
term-grouped-requires t c = grind (arith, common_steps)

pub grouped-returns-clause-read : goal.grouped-returns-clause-read
grouped-returns-clause-read t c = grind (arith, common_steps)

pub named-returns-clause-read : goal.named-returns-clause-read
named-returns-clause-read t c = grind (arith, common_steps)

pub term-returns-in_default : goal.term-returns-in_default
term-returns-in_default t c = grind (arith, term_deeper, term_other)

pub terms-returns-clause-read : goal.terms-returns-clause-read
terms-returns-clause-read t c = grind (arith, going_ends)

pub terms-returns-in_err-first-clause-read : goal.terms-returns-in_err-first-clause-read
terms-returns-in_err-first-clause-read t c = grind (arith, first_faults)

pub terms-returns-in_err-next-clause-read : goal.terms-returns-in_err-next-clause-read
terms-returns-in_err-next-clause-read t c = grind (arith, going_faults)

pub arguments-returns-in_err-items-clause-read : goal.arguments-returns-in_err-items-clause-read
arguments-returns-in_err-items-clause-read t c = grind (arith, arguments_fault)

pub arguments-returns-in_err-close-clause-read : goal.arguments-returns-in_err-close-clause-read
arguments-returns-in_err-close-clause-read t c = grind (arith, arguments_unclosed)

pub arguments-returns-else-is_at-clause-read : goal.arguments-returns-else-is_at-clause-read
arguments-returns-else-is_at-clause-read t c = grind (arith, arguments_none)

pub terms-term-requires-in-loop-alloc : goal.terms-term-requires-in-loop-alloc
terms-term-requires-in-loop-alloc t c = grind (arith, common_steps)

pub term-returns-then-left-eq0-clause-read : goal.term-returns-then-left-eq0-clause-read
term-returns-then-left-eq0-clause-read t c = grind (arith, term_bottom)

pub term-returns-in-Name-clause-read : goal.term-returns-in-Name-clause-read
term-returns-in-Name-clause-read t c = grind (arith, term_deeper)

pub term-returns-in-Open-clause-read : goal.term-returns-in-Open-clause-read
term-returns-in-Open-clause-read t c = grind (arith, term_deeper)
