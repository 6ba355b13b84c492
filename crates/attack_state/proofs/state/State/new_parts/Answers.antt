use Rattle.std.proofs.Common.{◌≡◌, ◌∙◌, ◌+◌, Bool, List, length, map, sym, ap, subst, arith}
use Rattle.std.proofs.lemmas.Grind.{common_steps}
use Rattle.std.proofs.lemmas.Result.{IfOk-weaker}
use borrow.Author.Tests.{ltb-true, ltb-false}
use Rattle.spec_calculus.specs.Runs.{Configuration, Step}
use Rattle.spec_attack_runs.specs.Compiling.{all_stepped, parts_of}
use Rattle.pi_tree.specs.Protocols.{protocol_of}
use Rattle.pi_tree.specs.Values.{value_of}
use Rattle.attack_state.specs.declared.state.State.{State}
use Rattle.attack_state.specs.Outcomes.{Does}
use Rattle.attack_state.specs.Parts.{part_step, Adds, with_parts}
use Rattle.attack_state.proofs.Outcomes.{does_same}
use Rattle.attack_state.proofs.Parting.{parts_there, parts_nowhere, known_there, known_nowhere, added_all, added_many, parts_stuck}
use Rattle.attack_state.proofs.state.State.new_parts.Goals as goal

pub returns-in_default-clause-does : goal.returns-in_default-clause-does
returns-in_default-clause-does c = λ all st is.
    let P = protocol_of c.args.protocol.now in
    let known = c.args.self.now.conf.known in
    let items = c.deref.result.now in
    let seen = ap (map value_of) c.deref.ensures.value ∙ ap (λ (s : State). s.conf.known) c.self.view_is in
    let none = known_nowhere items known c.args.before seen (ltb-false c.args.before (length items) (sym c.in_default.ensures.lookup.0)) in
    record {
      next = st;
      gives = ap (λ (steps : List Step). all_stepped P steps st) (parts_nowhere P c.args.before st known (ap (λ (x : Configuration). x.known) is.configuration) none);
      is = is;
    }

pub returns-then-not-branch-clause-does : goal.returns-then-not-branch-clause-does
returns-then-not-branch-clause-does c = λ all st is next h.
    let P = protocol_of c.args.protocol.now in
    let before = c.args.before in
    let known = c.args.self.now.conf.known in
    let items = c.deref.result.now in
    let v = value_of c.in-Some.value.now in
    let found = c.in-Some.ensures.lookup in
    let seen = ap (map value_of) c.deref.ensures.value ∙ ap (λ (s : State). s.conf.known) c.self.view_is in
    let there = known_there items known before c.in-Some.value.now seen (ltb-true before (length items) (sym found.0)) found.1 in
    let none = c.new-parts.result.items in
    let told = subst (λ (b : Bool). Adds (parts_of P (before + 1) (before + 1 + length none + 1) v) none c.add_parts.new.parts.items b) c.if-not-branch.true c.in_ok-add_parts.ensures.adds in
    let many = added_many P before v none c.add_parts.new.parts.items c.new-parts.ensures.items told in
    parts_stuck P before st (parts_of P (before + 1) (before + 2) v) (parts_there P before st known v (ap (λ (x : Configuration). x.known) is.configuration) there) many next h

pub returns-clause-does : goal.returns-clause-does
returns-clause-does c = λ all st is.
    let P = protocol_of c.args.protocol.now in
    let before = c.args.before in
    let known = c.args.self.now.conf.known in
    let items = c.deref.result.now in
    let v = value_of c.in-Some.value.now in
    let found = c.in-Some.ensures.lookup in
    let seen = ap (map value_of) c.deref.ensures.value ∙ ap (λ (s : State). s.conf.known) c.self.view_is in
    let there = known_there items known before c.in-Some.value.now seen (ltb-true before (length items) (sym found.0)) found.1 in
    let none = c.new-parts.result.items in
    let parts = c.deref-2.result.now in
    let told = subst (λ (b : Bool). Adds (parts_of P (before + 1) (before + 1 + length none + 1) v) none c.add_parts.new.parts.items b) c.if-not-branch.false c.in_ok-add_parts.ensures.adds in
    let added = added_all P before v none c.add_parts.new.parts.items c.new-parts.ensures.items told in
    let steps = parts_there P before st known v (ap (λ (x : Configuration). x.known) is.configuration) there ∙ (sym added ∙ ap (map part_step) (sym c.deref-2.ensures.value)) in
    let same : with_parts P before st ≡ all_stepped P (map part_step parts) st = ap (λ (steps : List Step). all_stepped P steps st) steps in
    let f = all_stepped P (map part_step parts) in
    IfOk-weaker c.all_parts.result (Does f st all c.all_parts.new.self) (Does (with_parts P before) st all c.all_parts.new.self) (λ b. does_same f (with_parts P before) st all c.all_parts.new.self same b) (c.all_parts.ensures.does all st is)

pub overflow_add-place : goal.overflow_add-place
overflow_add-place c = grind (arith, common_steps)

pub overflow_cast-place : goal.overflow_cast-place
overflow_cast-place c = grind (arith, common_steps)

pub add_parts-requires-clause-room : goal.add_parts-requires-clause-room
add_parts-requires-clause-room c = grind (arith, common_steps)
