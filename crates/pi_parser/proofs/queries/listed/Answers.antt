-- One more part of a list.
use Rattle.std.proofs.Common.{arith, rules, ◌≡◌, ◌<◌, true, [], ◌∷◌, ◌++◌, length}
use Rattle.std.proofs.lemmas.Grind.{common_steps}
use Rattle.spec_protocol_grammar.specs.declared.class.Class.TheVariants as w
use Rattle.spec_protocol_grammar.specs.Classes.{words, same}
use Rattle.spec_protocol_grammar.specs.Reading.{alternative_at}
use Rattle.pi_parser.specs.Gives.{most_of}
use Rattle.pi_parser.specs.Files.{alternative_of}
use Rattle.pi_parser.proofs.Lists.{going_begins, going_continues, first_faults, going_ends, going_faults}
use Rattle.pi_parser.proofs.queries.listed.Goals as goal

pub alternatives-init : goal.alternatives-init
alternatives-init c =
    let items : c.push.new.self.items ≡ c.in_ok-first.first ∷ [] = grind (arith, common_steps) in
    going_begins alternative_of w.Or (alternative_at (most_of c.args.classes.now)) c.args.classes.now c.args.at c.in_ok-first.behind c.in_ok-first.first c.push.new.self.items
    items c.in_ok-first.ensures.read c.in_ok-first.ensures.within.0 c.in_ok-first.ensures.within.1

pub alternatives-preserved : goal.alternatives-preserved
alternatives-preserved c =
    let items : c.push-in-alternatives.new.self.items ≡ c.alternatives.items.items ++ (c.in_ok-next.next ∷ []) = grind (arith, common_steps) in
    let test : same w.Or (words c.args.classes.now c.alternatives.behind).class ≡ true = search rules in
    let near : c.alternatives.behind < length c.args.classes.now = grind (arith, common_steps) in
    going_continues alternative_of w.Or (alternative_at (most_of c.args.classes.now)) c.args.classes.now c.args.at c.alternatives.behind c.in_ok-next.end c.alternatives.items.items c.in_ok-next.next
    c.push-in-alternatives.new.self.items items c.alternatives.invariant test near c.in_ok-next.ensures.read c.in_ok-next.ensures.within.0 c.in_ok-next.ensures.within.1

pub returns-in_err-first-clause-read : goal.returns-in_err-first-clause-read
returns-in_err-first-clause-read c = grind (arith, first_faults)

pub returns-in_err-next-clause-read : goal.returns-in_err-next-clause-read
returns-in_err-next-clause-read c = grind (arith, going_faults)

pub returns-clause-read : goal.returns-clause-read
returns-clause-read c = grind (arith, going_ends)

pub alternative-requires-in-alternatives : goal.alternative-requires-in-alternatives
alternative-requires-in-alternatives c = grind (arith, common_steps)
