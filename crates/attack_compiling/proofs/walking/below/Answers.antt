use Rattle.std.proofs.Common.{◌≡◌, suc, ◌+◌, Some, length, sym, ap, ◌∙◌, arith}
use Rattle.std.proofs.lemmas.Grind.{common_steps}
use borrow.Author.Tests.{ltb-true}
use Rattle.spec_calculus.specs.Points.{nodes}
use Rattle.pi_tree.specs.Processes.{process_of}
use Rattle.pi_tree.specs.declared.syntax.Process.{Process}
use Rattle.attack_compiling.specs.Walks.{walk_of, below_at}
use Rattle.attack_compiling.proofs.Ways.{message_spot, copy_spot, some_node}
use Rattle.attack_compiling.proofs.walking.below.Goals as goal

pub overflow_add-next : goal.overflow_add-next
overflow_add-next c = let some = some_node (process_of c.args.walk.now.process.now) in omega (arith, some, c.requires.points, c.requires.small)

pub returns-in-Some : goal.returns-in-Some
returns-in-Some c =
    let route = c.args.route.now in
    let walk = c.args.walk.now in
    let found = c.in-Some.ensures.lookup in
    let within = ltb-true walk.messages (length route.messages.now) (sym found.0) in
    let counted : length (nodes (process_of walk.process.now)) ≡ suc (length (nodes (process_of c.deref.result.now))) =
    ap (λ (q : Process). length (nodes (process_of q))) c.in-Input.is ∙ ap (λ (q : Process). suc (length (nodes (process_of q)))) (sym c.deref.ensures) in
    record {
      on_way = record { received = omega (arith, within); copied = c.requires.copied; points = omega (arith, counted, c.requires.points); small = c.requires.small };
      further = omega arith;
      is = λ all. ap (λ (q : Process). below_at (process_of q) walk.point (walk_of all route walk) c.args.other) c.in-Input.is
          ∙ (message_spot all route walk (process_of c.in-Input.process.value) walk.point c.in-Some.field-0.now found.1 within
          ∙ ap (λ (q : Process). Some (process_of q, walk.point + 1, walk_of all route (record walk { messages = walk.messages + 1 }))) (sym c.deref.ensures));
    }

pub returns-in-Some-get : goal.returns-in-Some-get
returns-in-Some-get c =
    let route = c.args.route.now in
    let walk = c.args.walk.now in
    let found = c.in-Some-get.ensures.lookup in
    let within = ltb-true walk.sessions (length route.sessions.now) (sym found.0) in
    let counted : length (nodes (process_of walk.process.now)) ≡ suc (length (nodes (process_of c.deref-in-Some-get.result.now))) =
    ap (λ (q : Process). length (nodes (process_of q))) c.in-Copies.is ∙ ap (λ (q : Process). suc (length (nodes (process_of q)))) (sym c.deref-in-Some-get.ensures) in
    record {
      on_way = record { received = c.requires.received; copied = omega (arith, within); points = omega (arith, counted, c.requires.points); small = c.requires.small };
      further = omega arith;
      is = λ all. ap (λ (q : Process). below_at (process_of q) walk.point (walk_of all route walk) c.args.other) c.in-Copies.is
          ∙ (copy_spot all route walk (process_of c.in-Copies.process.value) walk.point c.args.other c.in-Some-get.field-0.now found.1 within
          ∙ ap (λ (q : Process). Some (process_of q, walk.point + 1, walk_of all route (record walk { sessions = walk.sessions + 1; thread = c.args.other }))) (sym c.deref-in-Some-get.ensures));
    }

pub returns-else-way-after : goal.returns-else-way-after
returns-else-way-after c = grind (arith, common_steps)

pub returns-then-way-after : goal.returns-then-way-after
returns-then-way-after c = grind (arith, common_steps)

pub overflow_add-after : goal.overflow_add-after
overflow_add-after c = grind (arith, common_steps)

pub branch-route-requires-in-Get-clause-points : goal.branch-route-requires-in-Get-clause-points
branch-route-requires-in-Get-clause-points c = grind (arith, common_steps)

pub branch-route-requires-clause-points : goal.branch-route-requires-clause-points
branch-route-requires-clause-points c = grind (arith, common_steps)

pub returns-in-Output : goal.returns-in-Output
returns-in-Output c = grind (arith, common_steps)

pub returns-in-Get : goal.returns-in-Get
returns-in-Get c = grind (arith, common_steps)

pub returns-in-None-get : goal.returns-in-None-get
returns-in-None-get c = grind (arith, common_steps)

pub returns-in-None : goal.returns-in-None
returns-in-None c = grind (arith, common_steps)
