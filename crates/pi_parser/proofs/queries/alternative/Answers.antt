-- One more part of a list.
use Rattle.std.proofs.Common.{rules, ◌≡◌, ◌<◌, true, false, map, [], ◌∷◌, ◌++◌, length, arith}
use Rattle.std.proofs.lemmas.Grind.{common_steps}
use Rattle.spec_protocol_grammar.specs.declared.class.Class.TheVariants as w
use Rattle.spec_protocol_grammar.specs.Classes.{words, same}
use Rattle.spec_protocol_grammar.specs.Reading.{happening_at, list_at, alternative_at}
use Rattle.pi_parser.specs.Gives.{most_of, HasFault}
use Rattle.pi_parser.specs.Terms.{atom_of}
use Rattle.pi_parser.proofs.Lists.{going_begins, going_continues, list_faults, step_fault, list_ends, list_first_faults}
use Rattle.pi_parser.proofs.queries.alternative.Goals as goal

pub events-init : goal.events-init
events-init c =
    let items : c.in_ok-atom.atom ∷ c.new-others.result.items ≡ c.in_ok-atom.atom ∷ [] = search rules in
    going_begins atom_of w.And (happening_at (most_of c.args.classes.now)) c.args.classes.now c.args.at c.in_ok-atom.behind c.in_ok-atom.atom (c.in_ok-atom.atom ∷ c.new-others.result.items)
    items c.in_ok-atom.ensures.read c.in_ok-atom.ensures.within.0 c.in_ok-atom.ensures.within.1

pub events-preserved : goal.events-preserved
events-preserved c =
    let items : c.in_ok-atom.atom ∷ c.push.new.self.items ≡ (c.in_ok-atom.atom ∷ c.events.others.items) ++ (c.in_ok-next.next ∷ []) = grind (arith, common_steps) in
    let test : same w.And (words c.args.classes.now c.events.behind).class ≡ true = search rules in
    let near : c.events.behind < length c.args.classes.now = grind (arith, common_steps) in
    going_continues atom_of w.And (happening_at (most_of c.args.classes.now)) c.args.classes.now c.args.at c.events.behind c.in_ok-next.end (c.in_ok-atom.atom ∷ c.events.others.items) c.in_ok-next.next
    (c.in_ok-atom.atom ∷ c.push.new.self.items) items c.events.invariant test near c.in_ok-next.ensures.read c.in_ok-next.ensures.within.0 c.in_ok-next.ensures.within.1

pub returns-in_err-next-clause-read : goal.returns-in_err-next-clause-read
unfolding alternative_at
returns-in_err-next-clause-read c =
    let test : same w.And (words c.args.classes.now c.events.behind).class ≡ true = search rules in
    let near : c.events.behind < length c.args.classes.now = grind (arith, common_steps) in
    let fault : HasFault c.in_err-next.field-0.0 (list_at (most_of c.args.classes.now) w.And (happening_at (most_of c.args.classes.now)) (words c.args.classes.now) c.args.at) =
    list_faults w.And (happening_at (most_of c.args.classes.now)) c.args.classes.now c.args.at c.events.behind (atom_of c.in_ok-atom.atom ∷ map atom_of c.events.others.items) c.in_err-next.field-0.0 c.events.invariant test near c.in_err-next.ensures.read in
    grind (arith, fault, step_fault)

pub returns-in_err-atom-clause-read : goal.returns-in_err-atom-clause-read
unfolding alternative_at
returns-in_err-atom-clause-read c = grind (arith, list_first_faults, step_fault)

pub returns-clause-read : goal.returns-clause-read
unfolding alternative_at
returns-clause-read c =
    let test : same w.And (words c.args.classes.now c.events.behind).class ≡ false = search rules in
    rw (list_ends w.And (happening_at (most_of c.args.classes.now)) c.args.classes.now c.args.at c.events.behind (atom_of c.in_ok-atom.atom) (map atom_of c.events.others.items) c.events.invariant test)

pub happening-requires-in-events : goal.happening-requires-in-events
happening-requires-in-events c = grind (arith, common_steps)
