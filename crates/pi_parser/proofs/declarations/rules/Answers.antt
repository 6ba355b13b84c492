-- One more part of a list.
use Rattle.std.proofs.Common.{rules, ◌≡◌, ◌<◌, true, false, map, [], ◌∷◌, ◌++◌, length, arith}
use Rattle.std.proofs.lemmas.Grind.{common_steps}
use Rattle.spec_protocol_grammar.specs.declared.class.Class.TheVariants as w
use Rattle.spec_protocol_grammar.specs.Classes.{words, same}
use Rattle.spec_protocol_grammar.specs.Reading.{rule_at, list_at}
use Rattle.pi_parser.specs.Gives.{most_of, HasFault}
use Rattle.pi_parser.specs.Files.{rule_of}
use Rattle.pi_parser.proofs.Lists.{going_begins, going_continues, list_faults, step_fault, list_ends, list_first_faults}
use Rattle.pi_parser.proofs.declarations.rules.Goals as goal

pub rules-init : goal.rules-init
rules-init c =
    let items : c.in_ok-first.first ∷ c.new-others.result.items ≡ c.in_ok-first.first ∷ [] = search rules in
    going_begins rule_of w.Semicolon (rule_at (most_of c.args.classes.now)) c.args.classes.now c.args.at c.in_ok-first.behind c.in_ok-first.first (c.in_ok-first.first ∷ c.new-others.result.items)
    items c.in_ok-first.ensures.read c.in_ok-first.ensures.within.0 c.in_ok-first.ensures.within.1

pub rules-preserved : goal.rules-preserved
rules-preserved c =
    let items : c.in_ok-first.first ∷ c.push.new.self.items ≡ (c.in_ok-first.first ∷ c.rules.others.items) ++ (c.in_ok-next.next ∷ []) = grind (arith, common_steps) in
    let test : same w.Semicolon (words c.args.classes.now c.rules.behind).class ≡ true = search rules in
    let near : c.rules.behind < length c.args.classes.now = grind (arith, common_steps) in
    going_continues rule_of w.Semicolon (rule_at (most_of c.args.classes.now)) c.args.classes.now c.args.at c.rules.behind c.in_ok-next.end (c.in_ok-first.first ∷ c.rules.others.items) c.in_ok-next.next
    (c.in_ok-first.first ∷ c.push.new.self.items) items c.rules.invariant test near c.in_ok-next.ensures.read c.in_ok-next.ensures.within.0 c.in_ok-next.ensures.within.1

pub returns-in_err-next-clause-read : goal.returns-in_err-next-clause-read
returns-in_err-next-clause-read c =
    let test : same w.Semicolon (words c.args.classes.now c.rules.behind).class ≡ true = search rules in
    let near : c.rules.behind < length c.args.classes.now = grind (arith, common_steps) in
    let fault : HasFault c.in_err-next.field-0.0 (list_at (most_of c.args.classes.now) w.Semicolon (rule_at (most_of c.args.classes.now)) (words c.args.classes.now) c.args.at) =
    list_faults w.Semicolon (rule_at (most_of c.args.classes.now)) c.args.classes.now c.args.at c.rules.behind (rule_of c.in_ok-first.first ∷ map rule_of c.rules.others.items) c.in_err-next.field-0.0 c.rules.invariant test near c.in_err-next.ensures.read in
    grind (arith, fault, step_fault)

pub returns-in_err-first-clause-read : goal.returns-in_err-first-clause-read
returns-in_err-first-clause-read c = grind (arith, list_first_faults)

pub returns-clause-read : goal.returns-clause-read
returns-clause-read c =
    let test : same w.Semicolon (words c.args.classes.now c.rules.behind).class ≡ false = search rules in
    list_ends w.Semicolon (rule_at (most_of c.args.classes.now)) c.args.classes.now c.args.at c.rules.behind (rule_of c.in_ok-first.first) (map rule_of c.rules.others.items) c.rules.invariant test

pub rule-requires-in-rules : goal.rule-requires-in-rules
rule-requires-in-rules c = grind (arith, common_steps)
