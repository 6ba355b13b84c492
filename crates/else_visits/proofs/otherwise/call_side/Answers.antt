use Rattle.std.proofs.Common.{List, [], ◌∷◌, ◌++◌, map, ap, subst, ◌∙◌, arith}
use Rattle.pi_tree.specs.Rules.{rule_of}
use Rattle.spec_translation.specs.Conversion.{rule_term}
use Rattle.term_tree.specs.Bank.{Names}
use Rattle.term_tree.specs.declared.bank.Id.{Id}
use Rattle.clause_diffs.specs.Diffs.{NameTerms}
use Rattle.unified_visits.specs.Places.{protocol_at}
use Rattle.unified_visits.proofs.Below.{width_few}
use Rattle.else_visits.proofs.SideRows.{sides_called}
use Rattle.else_visits.proofs.otherwise.call_side.Goals as goal

pub overflow_add-sides : goal.overflow_add-sides
overflow_add-sides g c = omega (arith, c.take_last.ensures.next, c.rule_width.ensures, width_few (rule_of c.args.rule.now) c.requires.rule, c.requires.room)

pub returns-clause-parts : goal.returns-clause-parts
returns-clause-parts g c =
    let old = g.B.Bank.trees c.args.bank.now in
    let new = g.B.Bank.trees c.rename_rule.new.bank in
    let P = protocol_at c.args.choosing.now.place.now in
    let rule = rule_of c.args.rule.now in
    let value = c.in_ok-lefts.value in
    let arguments = c.in_ok-arguments.arguments.items in
    let lefts = c.in_ok-lefts.lefts in
    λ v parts before.
    sides_called P c.args.choosing.now.visit.now v old new parts c.args.sides.now _ rule c.args.count arguments lefts value c.rename_rule.ensures.grows before c.in_ok-arguments.ensures.taken
    (subst (λ k. NameTerms new lefts (map (rule_term P k) rule.left)) c.take_last.ensures.next c.in_ok-lefts.ensures.left) (subst (λ k. Names new value (rule_term P k rule.right)) c.take_last.ensures.next c.in_ok-lefts.ensures.right)
    (c.in_ok-push.ensures.items ∙ ap (λ (l : List Id). l ++ value ∷ []) c.in_ok-arguments.ensures.ids)
    (c.in_ok-append.ensures.items ∙ ap (λ (l : List Id). l ++ arguments) (ap (λ x. x.items) c.take_last.ensures.left))
    (c.in_ok-append-2.ensures.items ∙ (ap (λ (l : List Id). l ++ c.lefts.inside.items.items) (ap (λ x. x.items) c.take_last.ensures.right) ∙ ap (λ (l : List Id). c.args.sides.now.right.items ++ l) c.lefts.view_is))
    (omega (arith, c.take_last.ensures.next, c.rule_width.ensures))

pub returns-in_err-lefts-clause-grows : goal.returns-in_err-lefts-clause-grows
returns-in_err-lefts-clause-grows g c = c.rename_rule.ensures.grows

pub returns-in_err-append-clause-grows : goal.returns-in_err-append-clause-grows
returns-in_err-append-clause-grows g c = c.rename_rule.ensures.grows

pub returns-in_err-append-2-clause-grows : goal.returns-in_err-append-2-clause-grows
returns-in_err-append-2-clause-grows g c = c.rename_rule.ensures.grows

pub returns-in_err-push-clause-grows : goal.returns-in_err-push-clause-grows
returns-in_err-push-clause-grows g c = c.rename_rule.ensures.grows

pub returns-clause-grows : goal.returns-clause-grows
returns-clause-grows g c = c.rename_rule.ensures.grows
