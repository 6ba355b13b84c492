use Rattle.std.proofs.Common.{◌≡◌, ◌∙◌, ℕ, Bool, List, ◌+◌, map, take, drop, get_or, sym, ap, subst, arith}
use Rattle.std.proofs.lemmas.Grind.{common_steps}
use Rattle.std.proofs.lemmas.List.{get_or_default}
use Rattle.spec_calculus.specs.Runs.{Step}
use Rattle.spec_attack_runs.specs.Compiling.{stepped, all_stepped}
use Rattle.pi_tree.specs.Protocols.{protocol_of}
use Rattle.attack_state.specs.Outcomes.{Does, GoesOn}
use Rattle.attack_state.specs.Parts.{part_step}
use Rattle.attack_state.proofs.Behind.{stuck_within}
use Rattle.attack_state.proofs.Parting.{parted, parted_more}
use Rattle.attack_state.proofs.Stepping.{stepped_more}
use Rattle.attack_state.proofs.state.State.all_parts.Goals as goal

pub returns-then-not-branch-clause-does : goal.returns-then-not-branch-clause-does
returns-then-not-branch-clause-does c = λ all st is next h.
    let P = protocol_of c.args.protocol.now in
    let parts = c.args.parts.now in
    let i = c.each.place-index in
    let x : ℕ × ℕ = get_or parts i (0, 0) in
    let at : x ≡ get_or parts i x = get_or_default parts i (0, 0) x c.each-test.true in
    let so_far = c.each.invariant.so_far all st is in
    let stuck = subst (λ (b : Bool). Does (stepped P (part_step x)) so_far.next all c.one_step.new.self b) c.if-not-branch.true (c.in_ok-one_step.ensures.does all so_far.next so_far.is) in
    stuck_within P (map part_step (take i parts)) (map part_step (drop (i + 1) parts)) (part_step x) st so_far.next so_far.gives stuck next (ap (λ (l : List Step). all_stepped P l st) (sym (parted parts i x at c.each-test.true)) ∙ h)

pub each-preserved : goal.each-preserved
each-preserved c =
    let P = protocol_of c.args.protocol.now in
    let parts = c.args.parts.now in
    let i = c.each.place-index in
    let x : ℕ × ℕ = get_or parts i (0, 0) in
    let at : x ≡ get_or parts i x = get_or_default parts i (0, 0) x c.each-test.true in
    record {
      run = subst (λ (b : Bool). GoesOn P c.one_step.new.self b) c.if-not-branch.false c.in_ok-one_step.ensures.run;
      so_far = λ all st is.
          let so_far = c.each.invariant.so_far all st is in
          let one = subst (λ (b : Bool). Does (stepped P (part_step x)) so_far.next all c.one_step.new.self b) c.if-not-branch.false (c.in_ok-one_step.ensures.does all so_far.next so_far.is) in
          record {
            next = one.next;
            gives = ap (λ (l : List Step). all_stepped P l st) (parted_more parts i x at c.each-test.true) ∙ stepped_more P (map part_step (take i parts)) (part_step x) st so_far.next one.next so_far.gives one.gives;
            is = one.is;
          };
    }

pub returns-clause-does : goal.returns-clause-does
returns-clause-does c = grind (arith, common_steps)
