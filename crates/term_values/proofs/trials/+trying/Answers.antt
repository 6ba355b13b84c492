use Rattle.std.proofs.Common.{◌≡◌, ◌∙◌, ap, sym, map, take, arith}
use Rattle.std.proofs.lemmas.Grind.{common_steps}
use Rattle.std.specs.List.{list_any}
use Rattle.std.proofs.lemmas.Result.{IfOk-weaker}
use Rattle.spec_calculus.specs.Syntax.{Constructor, Tuple}
use Rattle.pi_tree.specs.Expressions.{expression_of}
use Rattle.pi_tree.specs.Protocols.{protocol_of}
use Rattle.term_values.specs.Trying.{has_value, large_value, IsTried, IsRowTried, called_tried}
use Rattle.term_values.proofs.Trying.{tried_node, tried_call, step_tried, whole_tried}
use Rattle.term_values.proofs.trials.+trying.Goals as goal

pub try_choices-returns-in-App : goal.try_choices-returns-in-App
try_choices-returns-in-App t c =
    let P = protocol_of c.args.context.now.protocol.now in
    let environment = c.args.context.now.environment.now in
    IfOk-weaker c.try_each.result (λ found. IsRowTried P environment found c.in-App.arguments) (λ found. IsTried P environment found (expression_of c.args.expression.now))
    (λ found row. tried_node P environment (Constructor c.in-App.field-0) c.in-App.arguments (expression_of c.args.expression.now) found (ap expression_of c.in-App.is) row)
    c.try_each.ensures

pub try_choices-returns-in-Tuple : goal.try_choices-returns-in-Tuple
try_choices-returns-in-Tuple t c =
    let P = protocol_of c.args.context.now.protocol.now in
    let environment = c.args.context.now.environment.now in
    IfOk-weaker c.try_each-in-Tuple.result (λ found. IsRowTried P environment found c.in-Tuple.parts) (λ found. IsTried P environment found (expression_of c.args.expression.now))
    (λ found row. tried_node P environment Tuple c.in-Tuple.parts (expression_of c.args.expression.now) found (ap expression_of c.in-Tuple.is) row)
    c.try_each-in-Tuple.ensures

pub try_choices-returns-in_ok-of_arguments-in-Call : goal.try_choices-returns-in_ok-of_arguments-in-Call
try_choices-returns-in_ok-of_arguments-in-Call t c =
    let P = protocol_of c.args.context.now.protocol.now in
    let environment = c.args.context.now.environment.now in
    let e = expression_of c.args.expression.now in
    let found = c.in_ok-of_arguments-in-Call.of_arguments in
    IfOk-weaker c.called.result (λ whole. whole ≡ called_tried found (list_any (large_value P environment) c.in-Call.arguments) (large_value P environment e) (has_value P environment e)) (λ whole. IsTried P environment whole e)
    (λ whole made. tried_call P environment c.in-Call.field-0 c.in-Call.arguments e found whole (ap expression_of c.in-Call.is) c.in_ok-of_arguments-in-Call.ensures made)
    c.called.ensures

pub try_each-loop-index-preserved : goal.try_each-loop-index-preserved
try_each-loop-index-preserved t c =
    step_tried (protocol_of c.args.context.now.protocol.now) c.args.context.now.environment.now c.deref-expression-items.result.now c.loop-index.index c.expression-item.result
    (take c.loop-index.index c.deref.result.now) c.loop-index.so_far c.in_ok-found.found c.in_ok-so_far.so_far (omega arith) c.expression-item.is
    (ap (take c.loop-index.index) (c.deref.ensures.value ∙ sym c.deref-expression-items.ensures.value))
    c.loop-index.invariant c.in_ok-found.ensures c.in_ok-so_far.ensures

pub try_each-returns : goal.try_each-returns
try_each-returns t c =
    whole_tried (protocol_of c.args.context.now.protocol.now) c.args.context.now.environment.now c.deref-expression-items.result.now c.loop-index.index c.args.expressions.now c.loop-index.so_far
    (omega arith) (ap (λ items. map expression_of items) c.deref-expression-items.ensures.value ∙ c.expressions.view_is) c.loop-index.invariant

pub try_each-slice_bounds-with_next-end : goal.try_each-slice_bounds-with_next-end
try_each-slice_bounds-with_next-end t c = grind (arith, common_steps)
