use Rattle.std.proofs.Common.{◌≡◌, Some, true, nat_eq, sym, ap, ◌∙◌, rules, eq-eqb, arith}
use Rattle.std.proofs.lemmas.Grind.{common_steps}
use Rattle.term_tree.proofs.BankLaws.{Grows_trans}
use Rattle.pi_tree.specs.Processes.{process_of}
use Rattle.spec_attack_runs.specs.Source.{Way}
use Rattle.spec_attack_runs.specs.Walking.{Walk, start_walk, walked}
use Rattle.attack_compiling.specs.declared.walking.Passed.TheVariants as went
use Rattle.attack_compiling.specs.Walks.{protocol_at, way_of, walk_of, once_at}
use Rattle.attack_compiling.proofs.Once.{passed_stuck, passed_done, passed_run}
use Rattle.attack_compiling.proofs.Ways.{walk-grows, way_known-grows}
use Rattle.attack_compiling.proofs.WalksOn.{points_apart, stuck_here, ends_here, goes_as}
use Rattle.attack_compiling.proofs.walking.walk_to.Goals as goal

pub returns-in_default-clause-walks : goal.returns-in_default-clause-walks
returns-in_default-clause-walks c = λ st is.
    let route = c.args.route.now in
    let P = protocol_at route in
    let walk = c.each.walk in
    let w = walk_of c.each.bank route walk in
    let process = process_of walk.process.now in
    let so_far = c.each.invariant.so_far st is in
    let stuck : c.in_ok-other.field-0 ≡ went.Stuck = search rules in
    stuck_here P (walked P P.main 1 (start_walk (way_of c.args.bank.now route)) st) process walk.point w so_far.next so_far.same
    (passed_stuck (once_at P process walk.point w) so_far.next c.once.new.bank c.once.new.state c.in_ok-other.field-0 stuck (c.in_ok-other.ensures.passes so_far.next so_far.is))

pub returns-then-walk-way-clause-walks : goal.returns-then-walk-way-clause-walks
returns-then-walk-way-clause-walks c = λ st is.
    let route = c.args.route.now in
    let P = protocol_at route in
    let walk = c.each.walk in
    let w = walk_of c.each.bank route walk in
    let process = process_of walk.process.now in
    let so_far = c.each.invariant.so_far st is in
    let passed = passed_done (once_at P process walk.point w) so_far.next c.once.new.bank c.once.new.state c.in_ok-other.field-0 c.in-Done.other c.in-Done.is (c.in_ok-other.ensures.passes so_far.next so_far.is) in
    let here : walk.point ≡ route.way.now.point = c.if-walk-way.true ∙ ap (λ (x : Way). x.point) c.way.view_is in
    let last : nat_eq walk.point route.way.now.point ≡ true = eq-eqb walk.point route.way.now.point here in
    record {
      next = passed.next;
      gives = ends_here P (walked P P.main 1 (start_walk (way_of c.args.bank.now route)) st) process walk.point w so_far.next so_far.same passed.node passed.next passed.gives last;
      is = passed.is;
    }

pub each-preserved : goal.each-preserved
each-preserved c =
    let route = c.args.route.now in
    let P = protocol_at route in
    let walk = c.each.walk in
    let old = c.each.bank in
    let new = c.once.new.bank in
    let w = walk_of old route walk in
    let process = process_of walk.process.now in
    record {
      run = passed_run P c.once.new.state c.in_ok-other.field-0 c.in-Done.other c.in-Done.is c.in_ok-other.ensures.run;
      grows = Grows_trans c.args.bank.now old new c.each.invariant.grows c.in_ok-other.ensures.grows;
      known = way_known-grows old new route c.in_ok-other.ensures.grows c.each.invariant.known;
      on_way = c.in-Some.ensures.on_way;
      so_far = λ st is.
          let so_far = c.each.invariant.so_far st is in
          let passed = passed_done (once_at P process walk.point w) so_far.next new c.once.new.state c.in_ok-other.field-0 c.in-Done.other c.in-Done.is (c.in_ok-other.ensures.passes so_far.next so_far.is) in
          let away = points_apart walk.point route.way.now.point (λ e. c.if-walk-way.false (e ∙ sym (ap (λ (x : Way). x.point) c.way.view_is))) in
          let next = c.in-Some.next in
          record {
            next = passed.next;
            is = passed.is;
            same = goes_as P (walked P P.main 1 (start_walk (way_of c.args.bank.now route)) st) process walk.point w so_far.next so_far.same passed.node passed.next c.in-Done.other
                (Some (process_of next.process.now, next.point, walk_of old route next)) passed.gives passed.other_is away (c.in-Some.ensures.is old)
                ∙ ap (λ (x : Walk). walked P (process_of next.process.now) next.point x passed.next) (sym (walk-grows old new route next c.in_ok-other.ensures.grows c.each.invariant.known));
          };
    }

pub returns-in_default-below-clause-walks : goal.returns-in_default-below-clause-walks
returns-in_default-below-clause-walks c = grind (arith, common_steps)

pub returns-then-walk-way-clause-run : goal.returns-then-walk-way-clause-run
returns-then-walk-way-clause-run c = grind (arith, common_steps)

pub returns-in_default-below-clause-grows : goal.returns-in_default-below-clause-grows
returns-in_default-below-clause-grows c = grind (arith, common_steps)

pub returns-in_err-other-clause-grows : goal.returns-in_err-other-clause-grows
returns-in_err-other-clause-grows c = grind (arith, common_steps)

pub returns-then-walk-way-clause-grows : goal.returns-then-walk-way-clause-grows
returns-then-walk-way-clause-grows c = grind (arith, common_steps)

pub returns-in_default-clause-grows : goal.returns-in_default-clause-grows
returns-in_default-clause-grows c = grind (arith, common_steps)

pub each-init : goal.each-init
each-init c = grind (arith, common_steps)
