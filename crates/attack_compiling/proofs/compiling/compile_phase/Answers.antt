use Rattle.std.proofs.Common.{◌≡◌, ◌<◌, Bool, List, [], ◌∷◌, length, get_or, ap, subst, rules, arith}
use Rattle.std.proofs.lemmas.Grind.{common_steps}
use Rattle.term_tree.proofs.BankLaws.{Grows_trans}
use Rattle.pi_tree.specs.Protocols.{protocol_of}
use Rattle.clause_instances.specs.declared.instance.Instance.{Instance as MadeInstance}
use Rattle.spec_attack_runs.specs.Source.{Source}
use Rattle.attack_state.specs.Outcomes.{GoesOn}
use Rattle.attack_compiling.specs.Compiled.{compile_in}
use Rattle.attack_compiling.proofs.Acted.{done_where, stuck_where}
use Rattle.attack_compiling.proofs.InPhases.{instance-grow, known-grow, instance_at, nothing_after, compiled_more, compiled_stop, compiled_end}
use Rattle.attack_compiling.proofs.compiling.compile_phase.Goals as goal

pub returns-then-not-branch-clause-does : goal.returns-then-not-branch-clause-does
returns-then-not-branch-clause-does c = λ st all is named.
    let P = protocol_of c.args.compilation.now.protocol.now in
    let before = c.args.bank.now in
    let sources : List Source = c.args.compilation.now.sources.now in
    let ids : List MadeInstance = c.args.compilation.now.instances.now in
    let x = c.instance-item.result in
    let i = c.each.instance-index in
    let items : c.deref-instance-items.result.now ≡ ids = search rules in
    let found : x ≡ get_or ids i x = subst (λ (l : List MadeInstance). x ≡ get_or l i x) items c.instance-item.is in
    let within : i < length ids = omega (arith, c.each-test.true, ap length items) in
    let so_far = c.each.invariant.so_far st all is named in
    let at = instance_at before sources ids all i x found within named in
    compiled_stop P c.args.phase all c.each.bank c.compile_at.new.bank st i at.one at.rest c.each.state so_far
    (stuck_where (compile_in P c.args.phase (at.one ∷ [])) so_far.next c.compile_at.new.bank c.compile_at.new.state c.in_ok-compile_at.field-0 c.if-not-branch.true
    (c.in_ok-compile_at.ensures.does so_far.next at.one so_far.is (instance-grow before c.each.bank sources x at.one c.each.invariant.grows at.names)))

pub each-preserved : goal.each-preserved
each-preserved c =
    let P = protocol_of c.args.compilation.now.protocol.now in
    let before = c.args.bank.now in
    let sources : List Source = c.args.compilation.now.sources.now in
    let ids : List MadeInstance = c.args.compilation.now.instances.now in
    let x = c.instance-item.result in
    let i = c.each.instance-index in
    let items : c.deref-instance-items.result.now ≡ ids = search rules in
    let found : x ≡ get_or ids i x = subst (λ (l : List MadeInstance). x ≡ get_or l i x) items c.instance-item.is in
    let within : i < length ids = omega (arith, c.each-test.true, ap length items) in
    let new = c.compile_at.new.bank in
    record {
      run = subst (λ (b : Bool). GoesOn P c.compile_at.new.state b) c.if-not-branch.false c.in_ok-compile_at.ensures.run;
      grows = Grows_trans before c.each.bank new c.each.invariant.grows c.in_ok-compile_at.ensures.grows;
      known = known-grow c.each.bank new ids c.in_ok-compile_at.ensures.grows c.each.invariant.known;
      so_far = λ st all is named.
          let so_far = c.each.invariant.so_far st all is named in
          let at = instance_at before sources ids all i x found within named in
          compiled_more P c.args.phase all c.each.bank new st i at.one at.rest c.each.state so_far c.compile_at.new.state
          (done_where (compile_in P c.args.phase (at.one ∷ [])) so_far.next new c.compile_at.new.state c.in_ok-compile_at.field-0 c.if-not-branch.false
          (c.in_ok-compile_at.ensures.does so_far.next at.one so_far.is (instance-grow before c.each.bank sources x at.one c.each.invariant.grows at.names)));
    }

pub returns-clause-does : goal.returns-clause-does
returns-clause-does c = λ st all is named.
    let P = protocol_of c.args.compilation.now.protocol.now in
    let ids : List MadeInstance = c.args.compilation.now.instances.now in
    let items : c.deref-instance-items.result.now ≡ ids = search rules in
    let i = c.each.instance-index in
    compiled_end P c.args.phase all c.each.bank st i c.each.state (nothing_after c.args.bank.now c.args.compilation.now.sources.now ids all i (omega (arith, c.each-test.false, ap length items)) named) (c.each.invariant.so_far st all is named)

pub returns-in_err-compile_at-clause-grows : goal.returns-in_err-compile_at-clause-grows
returns-in_err-compile_at-clause-grows c = grind (arith, common_steps)

pub returns-then-not-branch-clause-grows : goal.returns-then-not-branch-clause-grows
returns-then-not-branch-clause-grows c = grind (arith, common_steps)

pub compile_at-requires-clause-known : goal.compile_at-requires-clause-known
compile_at-requires-clause-known c = grind (arith, common_steps)

pub each-init : goal.each-init
each-init c = grind (arith, common_steps)
