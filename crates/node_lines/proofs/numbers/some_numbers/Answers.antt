use Rattle.std.proofs.Common.{◌∷◌, [], ◌∙◌, sym, ap, subst, rules}
use Rattle.std.specs.List.{AllByRecursion}
use Rattle.spec_calculus.proofs.Items.{each-append}
use Rattle.spec_node_tables.specs.Order.{IsNumberOf}
use Rattle.spec_certificate_text.specs.Outcomes.{Found}
use Rattle.fact_reader.specs.Reads.{left_of}
use Rattle.node_lines.proofs.Loops.{lines_on, lines_fault, lines_end, lines_over}
use Rattle.node_lines.proofs.numbers.some_numbers.Goals as goal

pub returns-then-front-ne32-clause-read : goal.returns-then-front-ne32-clause-read
returns-then-front-ne32-clause-read c = lines_end _ _ _ _ _ _ _ _ c.loop-round.invariant.read c.front.ensures.is c.if-front-ne32.true

pub returns-in_err-next-clause-read : goal.returns-in_err-next-clause-read
returns-in_err-next-clause-read c =
    let fault = lines_fault _ _ _ _ _ _ _ _ _ c.in_err-next.field-0.0 c.loop-round.invariant.read c.loop-round-test.true c.front.ensures.is c.if-front-ne32.false (c.in_err-next.ensures.read c.loop-round.items.items) in search (rules, fault)

pub loop-round-preserved : goal.loop-round-preserved
loop-round-preserved c = record {
  read = lines_on _ _ _ _ _ _ _ _ _ _ _ _ c.loop-round.invariant.read c.loop-round-test.true c.front.ensures.is c.if-front-ne32.false
      (c.in_ok-next.ensures.read c.loop-round.items.items ∙ ap (λ ns. Found ns c.spaced_number.new.cursor.at (left_of c.spaced_number.new.cursor)) (sym c.in_ok-push.ensures.items));
  same = c.in_ok-next.ensures.same ∙ c.loop-round.invariant.same;
  within = subst (AllByRecursion (IsNumberOf c.args.nodes)) (sym c.in_ok-push.ensures.items) (each-append (IsNumberOf c.args.nodes) c.loop-round.items.items (c.in_ok-next.next ∷ []) c.loop-round.invariant.within (c.in_ok-next.ensures.within, tt));
}

pub returns-then-front-eq32-clause-read : goal.returns-then-front-eq32-clause-read
returns-then-front-eq32-clause-read c = lines_over _ _ _ _ _ _ _ _ _ c.loop-round.invariant.read c.loop-round-test.false c.front-2.ensures.is c.if-front-eq32.true

pub returns-clause-read : goal.returns-clause-read
returns-clause-read c = lines_end _ _ _ _ _ _ _ _ c.loop-round.invariant.read c.front-2.ensures.is c.if-front-eq32.false
