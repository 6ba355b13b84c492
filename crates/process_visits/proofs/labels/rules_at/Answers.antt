use Rattle.std.proofs.Common.{Vec, Global, ◌∙◌, ◌+◌, ◌/◌, ◌%◌, ℕ, length, map, drop, ap, sym, arith}
use Rattle.std.proofs.lemmas.Grind.{common_steps}
use Rattle.spec_calculus.specs.Matching.{rules_of}
use Rattle.term_values.specs.Instructions.{instruction_of}
use Rattle.unified_visits.specs.Places.{protocol_at}
use Rattle.visit_choices.specs.Walks.{instructions_of}
use Rattle.visit_choices.proofs.Walking.{rules_counted}
use Rattle.process_visits.proofs.Labelling.{none_taken, taken_same, call_split, call_taken, other_taken, end_taken}
use Rattle.process_visits.proofs.labels.rules_at.Goals.{in-None, in-Some+in_ok-push-in-Some}
use Rattle.process_visits.proofs.labels.rules_at.Goals as goal

pub each-init : goal.each-init
each-init c =
    let choosing = c.args.choosing.now in
    none_taken (protocol_at choosing.place.now) (instructions_of choosing) c.args.number choosing.count c.new-rules.result.items c.new-rules.ensures.items c.requires.count.is c.requires.count.few c.requires.within

pub nonzero_div-left : goal.nonzero_div-left
nonzero_div-left c =
    let choosing = c.args.choosing.now in
    let P = protocol_at choosing.place.now in
    let found = c.rules_of-found.result.now in
    let counted = rules_counted found (rules_of P c.in-Some.destructor) c.rules_of-found.ensures in
    let parts = call_split P (instructions_of choosing) choosing.instructions.now c.each.instruction-index c.instruction-item.result c.args.number c.each.left c.each.rest c.each.rules.items c.each-test.true c.instruction-item.is c.each.invariant
    c.in-Some.destructor (length found) (sym c.destructor_of.ensures ∙ c.in-Some.is) counted in
    omega (arith, parts.within, counted)

pub returns : goal.returns
returns c =
    let choosing = c.args.choosing.now in
    end_taken (protocol_at choosing.place.now) (instructions_of choosing) choosing.instructions.now c.each.instruction-index c.args.number c.each.left c.each.rest c.each.rules.items c.each-test.false c.each.invariant

pub each-preserved : goal.each-preserved
each-preserved c =
    let choosing = c.args.choosing.now in
    let P = protocol_at choosing.place.now in
    let whole = instructions_of choosing in
    let all = choosing.instructions.now in
    let i = c.each.instruction-index in
    let later = map instruction_of (drop (i + 1) all) in
    let now = c.match-destructor_of in
    elim now.branch [
      | in-None w ↦
          taken_same P whole later c.args.number c.each.left c.each.rest now.left now.rest c.each.rules.items now.rules.items w.left-is w.rest-is (ap (λ (v : Vec ℕ Global). v.items) w.rules-is)
          (other_taken P whole all i c.instruction-item.result c.args.number c.each.left c.each.rest c.each.rules.items c.each-test.true c.instruction-item.is c.each.invariant (sym c.destructor_of.ensures ∙ w.in-None.is))
      | in-Some+in_ok-push-in-Some w ↦
          let found = w.rules_of-found.result.now in
          let counted = rules_counted found (rules_of P w.in-Some.destructor) w.rules_of-found.ensures in
          let left = c.each.left / length found in
          taken_same P whole later c.args.number left (c.each.rest % left) now.left now.rest w.push.new.self.items now.rules.items w.left-is w.rest-is (ap (λ (v : Vec ℕ Global). v.items) w.rules-is)
          (call_taken P whole all i c.instruction-item.result c.args.number c.each.left c.each.rest c.each.rules.items c.each-test.true c.instruction-item.is c.each.invariant w.in-Some.destructor (length found) (sym c.destructor_of.ensures ∙ w.in-Some.is) counted
          w.push.new.self.items w.in_ok-push-in-Some.ensures.items)
    ]

pub nonzero_rem-rest : goal.nonzero_rem-rest
nonzero_rem-rest c = grind (arith, common_steps)

pub nonzero_div-rule : goal.nonzero_div-rule
nonzero_div-rule c = grind (arith, common_steps)
