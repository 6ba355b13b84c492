use Rattle.std.proofs.Common.{◌≡◌, ◌∙◌, sym, subst, IfOk}
use Rattle.pi_tree.specs.Expressions.{expression_of}
use Rattle.pi_tree.specs.Protocols.{protocol_of}
use Rattle.spec_calculus.specs.Limits.{is_large}
use Rattle.spec_calculus.proofs.PartValues.{parts_evaluated}
use Rattle.term_values.proofs.Ruled.{rules_there, nothing_tried}
use Rattle.term_values.proofs.trials.some_large_tried.Goals as goal

pub returns-then-has_rules : goal.returns-then-has_rules
returns-then-has_rules c =
    let P = protocol_of c.args.context.now.protocol.now in
    let e = expression_of c.args.expression.now in
    subst (λ tried. IfOk c.some_large_part.result (λ b. b ≡ tried))
    (sym (parts_evaluated P c.args.context.now.environment.now is_large e (rules_there P e (sym c.has_rules.ensures ∙ c.if-has_rules.true))))
    c.some_large_part.ensures

pub returns-else-has_rules : goal.returns-else-has_rules
returns-else-has_rules c =
    let P = protocol_of c.args.context.now.protocol.now in
    let e = expression_of c.args.expression.now in
    sym (nothing_tried P c.args.context.now.environment.now is_large e (sym c.has_rules.ensures ∙ c.if-has_rules.false))
