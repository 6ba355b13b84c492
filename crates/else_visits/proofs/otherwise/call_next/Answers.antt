use Rattle.std.proofs.Common.{◌/◌, ◌%◌, List, ◌∷◌, length, sym, subst, arith}
use Rattle.pi_tree.specs.Rules.{rule_of}
use Rattle.spec_calculus.specs.Matching.{rules_of}
use Rattle.spec_calculus.specs.Syntax.{Calls, Rule, Ruled}
use Rattle.spec_translation.specs.Visit.{Visit}
use Rattle.spec_choice_walks.specs.Instructions.{Instruction, Apply, joined_last, choices_by}
use Rattle.unified_visits.specs.Places.{protocol_at}
use Rattle.unified_visits.specs.Short.{IsFitRule}
use Rattle.else_visits.specs.Sides.{AreSidesOf, IsAlongSides}
use Rattle.unified_visits.proofs.Lists.{all_at}
use Rattle.visit_choices.proofs.Walking.{split_number, rule_read, rules_counted}
use Rattle.else_visits.proofs.SideWalking.{on_ok, within_sides, sides_on_called}
use Rattle.else_visits.proofs.otherwise.call_next.Goals as goal

pub bounds-rules-walk : goal.bounds-rules-walk
bounds-rules-walk g c =
    let P = protocol_at c.args.choosing.now.place.now in
    let walk = c.args.walk.now in
    let has = c.requires.stands in
    let all = rules_of P c.args.destructor in
    let counted = rules_counted c.rules_of-rules.result.now all c.rules_of-rules.ensures in
    let parts = split_number (length all) (choices_by P has.1) walk.left (length c.rules_of-rules.result.now) walk.number has.3.left counted has.3.within in
    omega (arith, parts.within, counted)

pub nonzero_div-walk : goal.nonzero_div-walk
nonzero_div-walk g c =
    let P = protocol_at c.args.choosing.now.place.now in
    let walk = c.args.walk.now in
    let has = c.requires.stands in
    let all = rules_of P c.args.destructor in
    let counted = rules_counted c.rules_of-rules.result.now all c.rules_of-rules.ensures in
    let parts = split_number (length all) (choices_by P has.1) walk.left (length c.rules_of-rules.result.now) walk.number has.3.left counted has.3.within in
    omega (arith, parts.within, counted)

pub nonzero_div-rule : goal.nonzero_div-rule
nonzero_div-rule g c =
    let P = protocol_at c.args.choosing.now.place.now in
    let walk = c.args.walk.now in
    let has = c.requires.stands in
    let all = rules_of P c.args.destructor in
    let counted = rules_counted c.rules_of-rules.result.now all c.rules_of-rules.ensures in
    let parts = split_number (length all) (choices_by P has.1) walk.left (length c.rules_of-rules.result.now) walk.number has.3.left counted has.3.within in
    omega (arith, parts.same, parts.some)

pub call_side-requires-clause-known : goal.call_side-requires-clause-known
call_side-requires-clause-known g c = let has = c.requires.stands in (has.0, has.3.parts, has.3.sides)

pub call_side-requires-clause-room : goal.call_side-requires-clause-room
call_side-requires-clause-room g c = omega (arith, c.requires.stands.3.fit.room)

pub call_side-requires-clause-within : goal.call_side-requires-clause-within
call_side-requires-clause-within g c =
    let has = c.requires.stands in
    within_sides (protocol_at c.args.choosing.now.place.now) c.args.choosing.now.visit.now has.0 (g.B.Bank.trees c.args.bank.now) c.args.walk.now (Calls c.args.destructor) c.args.count has.1 has.2 has.3

pub call_side-requires-clause-rule : goal.call_side-requires-clause-rule
call_side-requires-clause-rule g c =
    let P = protocol_at c.args.choosing.now.place.now in
    let walk = c.args.walk.now in
    let has = c.requires.stands in
    let rules = c.rules_of-rules.result.now in
    let all = rules_of P c.args.destructor in
    let counted = rules_counted rules all c.rules_of-rules.ensures in
    let parts = split_number (length all) (choices_by P has.1) walk.left (length rules) walk.number has.3.left counted has.3.within in
    let index = walk.number / (walk.left / length rules) in
    let rule = rule_of c.index-rules-walk.result in
    let is = rule_read rules all index c.index-rules-walk.result c.rules_of-rules.ensures (omega (arith, parts.within, counted)) c.index-rules-walk.is in
    subst (λ (r : Rule). IsFitRule r) (sym is) (all_at IsFitRule all index rule (c.args.choosing.now.place.now.rules c.args.destructor) parts.within)

pub returns-clause-along : goal.returns-clause-along
returns-clause-along g c =
    let old = g.B.Bank.trees c.args.bank.now in
    let new = g.B.Bank.trees c.call_side.new.bank in
    let P = protocol_at c.args.choosing.now.place.now in
    let w = c.args.choosing.now.visit.now in
    let d = c.args.destructor in
    let count = c.args.count in
    let walk = c.args.walk.now in
    let rules = c.rules_of-rules.result.now in
    let all = rules_of P d in
    let left = walk.left / length rules in
    let number = walk.number % left in
    let index = walk.number / left in
    let next = c.call_side.new.sides in
    let rule = rule_of c.index-rules-walk.result in
    let counted = rules_counted rules all c.rules_of-rules.ensures in
    on_ok c.call_side.result ((v : Visit) → (parts : List Ruled) → AreSidesOf P w v parts old walk.sides → AreSidesOf P w v (joined_last (Calls rule) count parts) new next)
    ((v : Visit) → (later : List Instruction) → (ruled : Ruled) → IsAlongSides P w v (Apply (Calls d) count ∷ later) ruled old walk → IsAlongSides P w v later ruled new (record { sides = next; left = left; number = number }))
    (λ told. λ v later ruled was.
    let parts = split_number (length all) (choices_by P later) walk.left (length rules) walk.number was.left counted was.within in
    let is = rule_read rules all index c.index-rules-walk.result c.rules_of-rules.ensures (omega (arith, parts.within, counted)) c.index-rules-walk.is in
    let fit = subst (λ (r : Rule). IsFitRule r) (sym is) (all_at IsFitRule all index rule (c.args.choosing.now.place.now.rules d) parts.within) in
    sides_on_called P w v old walk d count later ruled was left number index rule parts is new next (told v was.parts was.sides) fit) c.call_side.ensures.parts
