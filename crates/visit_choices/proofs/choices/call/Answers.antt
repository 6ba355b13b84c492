use Rattle.std.proofs.Common.{◌≡◌, ◌-◌, ◌/◌, ◌%◌, Bool, List, ◌∷◌, length, sym, subst, arith}
use Rattle.std.specs.Prelude.{MatchBool}
use Rattle.pi_tree.specs.Patterns.{pattern_of}
use Rattle.pi_tree.specs.Rules.{rule_of}
use Rattle.spec_calculus.specs.Matching.{rules_of}
use Rattle.spec_calculus.specs.Syntax.{Calls, Rule, Ruled}
use Rattle.spec_translation.specs.Visit.{Visit}
use Rattle.spec_choice_walks.specs.Instructions.{Instruction, Apply, joined_last, choices_by}
use Rattle.unified_visits.specs.Places.{protocol_at}
use Rattle.visit_choices.specs.RuledRows.{IsRowOf, IsApart}
use Rattle.unified_visits.specs.Short.{IsFitRule}
use Rattle.visit_choices.specs.Walks.{IsAlong}
use Rattle.visit_choices.specs.Ways.{AreCut}
use Rattle.unified_visits.proofs.Lists.{all_at}
use Rattle.unified_visits.proofs.Named.{if_ok}
use Rattle.visit_choices.proofs.Walking.{split_number, rule_read, rules_counted, both_ways, within_row, along_called, along_cut}
use Rattle.visit_choices.proofs.choices.call.Goals as goal

pub bounds-rules-walk : goal.bounds-rules-walk
bounds-rules-walk g c =
    let P = protocol_at c.args.choosing.now.place.now in
    let walk = c.args.walk.now in
    let has = c.requires.stands in
    let all = rules_of P c.args.destructor in
    let counted = rules_counted c.rules_of-rules.result.now all c.rules_of-rules.ensures in
    let parts = split_number (length all) (choices_by P has.1) walk.left (length c.rules_of-rules.result.now) walk.number has.3.left counted has.3.within in
    omega (arith, parts.within, counted)

pub nonzero_div-walk : goal.nonzero_div-walk
nonzero_div-walk g c =
    let P = protocol_at c.args.choosing.now.place.now in
    let walk = c.args.walk.now in
    let has = c.requires.stands in
    let all = rules_of P c.args.destructor in
    let counted = rules_counted c.rules_of-rules.result.now all c.rules_of-rules.ensures in
    let parts = split_number (length all) (choices_by P has.1) walk.left (length c.rules_of-rules.result.now) walk.number has.3.left counted has.3.within in
    omega (arith, parts.within, counted)

pub nonzero_div-rule : goal.nonzero_div-rule
nonzero_div-rule g c =
    let P = protocol_at c.args.choosing.now.place.now in
    let walk = c.args.walk.now in
    let has = c.requires.stands in
    let all = rules_of P c.args.destructor in
    let counted = rules_counted c.rules_of-rules.result.now all c.rules_of-rules.ensures in
    let parts = split_number (length all) (choices_by P has.1) walk.left (length c.rules_of-rules.result.now) walk.number has.3.left counted has.3.within in
    omega (arith, parts.same, parts.some)

pub apply_rule-requires-clause-known : goal.apply_rule-requires-clause-known
apply_rule-requires-clause-known g c = let has = c.requires.stands in (has.0, has.3.parts, has.3.row)

pub apply_rule-requires-clause-room : goal.apply_rule-requires-clause-room
apply_rule-requires-clause-room g c = omega (arith, c.requires.stands.3.fit.room)

pub apply_rule-requires-clause-within : goal.apply_rule-requires-clause-within
apply_rule-requires-clause-within g c =
    let has = c.requires.stands in
    within_row (protocol_at c.args.choosing.now.place.now) c.args.choosing.now.visit.now has.0 (g.B.Bank.trees c.args.bank.now) c.args.walk.now (Calls c.args.destructor) c.args.count has.1 has.2 has.3

pub apply_rule-requires-clause-rule : goal.apply_rule-requires-clause-rule
apply_rule-requires-clause-rule g c =
    let P = protocol_at c.args.choosing.now.place.now in
    let walk = c.args.walk.now in
    let has = c.requires.stands in
    let rules = c.rules_of-rules.result.now in
    let all = rules_of P c.args.destructor in
    let counted = rules_counted rules all c.rules_of-rules.ensures in
    let parts = split_number (length all) (choices_by P has.1) walk.left (length rules) walk.number has.3.left counted has.3.within in
    let index = walk.number / (walk.left / length rules) in
    let rule = rule_of c.index-rules-walk.result in
    let is = rule_read rules all index c.index-rules-walk.result c.rules_of-rules.ensures (omega (arith, parts.within, counted)) c.index-rules-walk.is in
    subst (λ (r : Rule). IsFitRule r) (sym is) (all_at IsFitRule all index rule (c.args.choosing.now.place.now.rules c.args.destructor) parts.within)

pub apply_rule-requires-clause-full : goal.apply_rule-requires-clause-full
apply_rule-requires-clause-full g c =
    let P = protocol_at c.args.choosing.now.place.now in
    let walk = c.args.walk.now in
    let has = c.requires.stands in
    let rules = c.rules_of-rules.result.now in
    let all = rules_of P c.args.destructor in
    let counted = rules_counted rules all c.rules_of-rules.ensures in
    let parts = split_number (length all) (choices_by P has.1) walk.left (length rules) walk.number has.3.left counted has.3.within in
    let index = walk.number / (walk.left / length rules) in
    let rule = rule_of c.index-rules-walk.result in
    let is = rule_read rules all index c.index-rules-walk.result c.rules_of-rules.ensures (omega (arith, parts.within, counted)) c.index-rules-walk.is in
    subst (λ (r : Rule). length r.left ≡ c.args.count) (sym is) (all_at (λ (r : Rule). length r.left ≡ c.args.count) all index rule has.3.fit.each.0 parts.within)

pub returns-clause-along : goal.returns-clause-along
returns-clause-along g c =
    let old = g.B.Bank.trees c.args.bank.now in
    let new = g.B.Bank.trees c.apply_rule.new.bank in
    let P = protocol_at c.args.choosing.now.place.now in
    let w = c.args.choosing.now.visit.now in
    let pattern = pattern_of c.args.choosing.now.pattern.now in
    let d = c.args.destructor in
    let count = c.args.count in
    let walk = c.args.walk.now in
    let rules = c.rules_of-rules.result.now in
    let all = rules_of P d in
    let left = walk.left / length rules in
    let number = walk.number % left in
    let index = walk.number / left in
    let next = c.apply_rule.new.row in
    let rule = rule_of c.index-rules-walk.result in
    let counted = rules_counted rules all c.rules_of-rules.ensures in
    if_ok c.apply_rule.result
    (λ (applies : Bool). (v : Visit) → (parts : List Ruled) → IsRowOf P w v parts old walk.row → MatchBool applies (IsRowOf P w v (joined_last (Calls rule) count parts) new next) (IsApart P w v (joined_last (Calls rule) count parts)))
    (λ (applies : Bool). (v : Visit) → (later : List Instruction) → (rs : List Ruled) → IsAlong P w v (Apply (Calls d) count ∷ later) rs old walk → MatchBool applies (IsAlong P w v later rs new (record { row = next; left = left; number = number })) (AreCut P v pattern rs (left - number)))
    (λ applies told. λ v later rs was.
    let parts = split_number (length all) (choices_by P later) walk.left (length rules) walk.number was.left counted was.within in
    let is = rule_read rules all index c.index-rules-walk.result c.rules_of-rules.ensures (omega (arith, parts.within, counted)) c.index-rules-walk.is in
    let fit = subst (λ (r : Rule). IsFitRule r) (sym is) (all_at IsFitRule all index rule (c.args.choosing.now.place.now.rules d) parts.within) in
    both_ways applies (IsRowOf P w v (joined_last (Calls rule) count was.parts) new next) (IsApart P w v (joined_last (Calls rule) count was.parts)) (IsAlong P w v later rs new (record { row = next; left = left; number = number })) (AreCut P v pattern rs (left - number))
    (λ row. along_called P w v old walk d count later rs was left number index rule parts is new next row fit) (λ apart. along_cut P w v old walk d count later rs was left number index rule parts is pattern apart) (told v was.parts was.row)) c.apply_rule.ensures.parts
