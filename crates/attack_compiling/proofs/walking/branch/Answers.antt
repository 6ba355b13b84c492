use Rattle.std.proofs.Common.{◌≡◌, ℕ, ◌+◌, Some, List, length, sym, ap, ◌∙◌, arith}
use Rattle.std.proofs.lemmas.List.{length-take, length-drop}
use Rattle.spec_calculus.specs.Points.{nodes}
use Rattle.term_tree.specs.declared.bank.Id.{Id}
use Rattle.clause_sources.specs.Seen.{choice_of}
use Rattle.clause_sources.specs.declared.source.Choice.{Choice}
use Rattle.pi_tree.specs.Processes.{process_of}
use Rattle.attack_compiling.specs.Walks.{walk_of}
use Rattle.attack_compiling.proofs.Ways.{taken_spot, else_spot, no_choice_spot}
use Rattle.attack_compiling.proofs.walking.branch.Goals as goal

pub overflow_add-result-in-Some-Taken : goal.overflow_add-result-in-Some-Taken
overflow_add-result-in-Some-Taken c = omega (arith, c.in-Some-Taken.ensures.counted)

pub overflow_add-result-in-Some-Else-3 : goal.overflow_add-result-in-Some-Else-3
overflow_add-result-in-Some-Else-3 c = omega (arith, c.in-Some-Else.ensures.counted)

pub returns-in-None : goal.returns-in-None
returns-in-None c = λ all.
    no_choice_spot all c.args.route.now c.args.walk.now (process_of c.args.process.now) (process_of c.args.otherwise.now) c.args.taken c.args.walk.now.point c.in-None.ensures.choice

pub returns-in-Some-Taken : goal.returns-in-Some-Taken
returns-in-Some-Taken c =
    let route = c.args.route.now in
    let walk = c.args.walk.now in
    let process = process_of c.args.process.now in
    let counted = ap length c.next_messages.ensures in
    record {
      on_way = record {
        received = omega (arith, counted, length-take {A = Id}, length-drop {A = Id});
        copied = c.requires.on_way.copied;
        points = omega arith;
        small = c.requires.on_way.small;
      };
      further = omega arith;
      is = λ all. taken_spot all route walk process (process_of c.args.otherwise.now) c.args.taken walk.point c.in-Some-Taken.field-0-0
          (ap (λ (o : Choice). Some (choice_of o)) (sym c.in-Some-Taken.field-0-is) ∙ c.in-Some-Taken.ensures.choice)
          ∙ ap (λ (l : List Id). Some (process, walk.point + 1, walk_of all route (record walk { messages = walk.messages + length l; choices = walk.choices + 1 }))) (sym c.next_messages.ensures);
    }

pub returns-in-Some-Else : goal.returns-in-Some-Else
returns-in-Some-Else c =
    let route = c.args.route.now in
    let walk = c.args.walk.now in
    let process = process_of c.args.process.now in
    let otherwise = process_of c.args.otherwise.now in
    let counted : c.count_nodes.result ≡ length (nodes process) = omega (arith, c.count_nodes.ensures, c.requires.points, c.requires.on_way.small) in
    record {
      on_way = record { received = c.requires.on_way.received; copied = c.requires.on_way.copied; points = omega (arith, counted); small = c.requires.on_way.small };
      further = omega arith;
      is = λ all. else_spot all route walk process otherwise c.args.taken walk.point (ap (λ (o : Choice). Some (choice_of o)) (sym c.in-Some-Else.field-0-is) ∙ c.in-Some-Else.ensures.choice)
          ∙ ap (λ (n : ℕ). Some (otherwise, walk.point + 1 + n, walk_of all route (record walk { choices = walk.choices + 1 }))) (sym counted);
    }
