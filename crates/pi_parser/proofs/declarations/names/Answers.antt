-- One more name.
use Rattle.std.proofs.Common.{arith, rules, ◌≡◌, ◌<◌, ◌+◌, true, [], ◌∷◌, ◌++◌, length}
use Rattle.std.proofs.lemmas.Grind.{common_steps}
use Rattle.spec_protocol_grammar.specs.declared.class.Class.TheVariants as w
use Rattle.spec_protocol_grammar.specs.Classes.{words, same}
use Rattle.spec_protocol_grammar.specs.Reading.{Found, name_at}
use Rattle.pi_parser.proofs.Lists.{going_starts, going_on, names_fault, list_first_faults, step_fault}
use Rattle.pi_parser.proofs.declarations.names.Goals as goal

pub names-init : goal.names-init
names-init c =
    let items : c.args.at ∷ c.new-others.result.items ≡ c.args.at ∷ [] = search rules in
    let read : name_at (words c.args.classes.now) c.args.at ≡ Found c.args.at c.in_ok-behind.behind = search rules in
    going_starts w.Comma name_at c.args.classes.now c.args.at c.in_ok-behind.behind c.args.at (c.args.at ∷ c.new-others.result.items) items read
    c.in_ok-behind.ensures.within.0 c.in_ok-behind.ensures.within.1

pub names-preserved : goal.names-preserved
names-preserved c =
    let items : c.args.at ∷ c.push.new.self.items ≡ (c.args.at ∷ c.names.others.items) ++ ((c.names.behind + 1) ∷ []) = search rules in
    let test : same w.Comma (words c.args.classes.now c.names.behind).class ≡ true = search rules in
    let near : c.names.behind < length c.args.classes.now = grind (arith, common_steps) in
    let read : name_at (words c.args.classes.now) (c.names.behind + 1) ≡ Found (c.names.behind + 1) c.in_ok-end.end = search rules in
    going_on w.Comma name_at c.args.classes.now c.args.at c.names.behind c.in_ok-end.end (c.args.at ∷ c.names.others.items) (c.names.behind + 1)
    (c.args.at ∷ c.push.new.self.items) items c.names.invariant test near read c.in_ok-end.ensures.within.0 c.in_ok-end.ensures.within.1

pub returns-in_err-end-clause-read : goal.returns-in_err-end-clause-read
returns-in_err-end-clause-read c = grind (arith, names_fault)

pub mark-requires-in-names-clause-within : goal.mark-requires-in-names-clause-within
mark-requires-in-names-clause-within c = grind (arith, common_steps)

pub returns-in_err-behind-clause-read : goal.returns-in_err-behind-clause-read
returns-in_err-behind-clause-read c = grind (arith, list_first_faults, step_fault)

pub returns-in_err-end-2-clause-read : goal.returns-in_err-end-2-clause-read
returns-in_err-end-2-clause-read c = grind (arith, common_steps)
