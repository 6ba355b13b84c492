use Rattle.std.proofs.Common.{◌+◌, ◌<◌, ◌≤◌, Bool, subst, arith}
use Rattle.spec_calculus.specs.Points.{greatest_phase}
use Rattle.term_tree.proofs.BankLaws.{Grows_refl, Grows_trans}
use Rattle.pi_tree.specs.Protocols.{protocol_of}
use Rattle.spec_attack_runs.specs.Compiling.{start_state}
use Rattle.attack_state.specs.Outcomes.{GoesOn}
use Rattle.attack_compiling.specs.Compiled.{compile_in}
use Rattle.attack_compiling.proofs.Acted.{done_where, stuck_where}
use Rattle.attack_compiling.proofs.InPhases.{instances-grow, known-grow, phases_start, phases_more, phases_stop, phases_done, compiles_to, compiles_nowhere}
use Rattle.attack_compiling.proofs.compiling.compiled.Goals as goal

pub each-init : goal.each-init
each-init c =
    let P = protocol_of c.args.compilation.now.protocol.now in
    let bank = c.args.bank.now in
    record {
      run = c.in_ok-state.ensures.run;
      grows = Grows_refl bank;
      known = c.requires.known;
      so_far = λ all named. phases_start P all (start_state P) bank c.in_ok-state.state (c.in_ok-state.ensures.state bank);
    }

pub returns-then-not-branch-clause-compiled : goal.returns-then-not-branch-clause-compiled
returns-then-not-branch-clause-compiled c = λ all named.
    let P = protocol_of c.args.compilation.now.protocol.now in
    let k = c.each.phase in
    let so_far = c.each.invariant.so_far all named in
    let less : k < greatest_phase P.main + 1 = omega arith in
    compiles_nowhere P all (phases_stop P all (start_state P) c.each.bank c.compile_phase.new.bank k c.each.state so_far less
    (stuck_where (compile_in P k all) so_far.next c.compile_phase.new.bank c.compile_phase.new.state c.in_ok-compile_phase.field-0 c.if-not-branch.true
    (c.in_ok-compile_phase.ensures.does so_far.next all so_far.is (instances-grow c.args.bank.now c.each.bank c.args.compilation.now.sources.now c.args.compilation.now.instances.now all c.each.invariant.grows named))))

pub each-preserved : goal.each-preserved
each-preserved c =
    let P = protocol_of c.args.compilation.now.protocol.now in
    let k = c.each.phase in
    let new = c.compile_phase.new.bank in
    record {
      run = subst (λ (b : Bool). GoesOn P c.compile_phase.new.state b) c.if-not-branch.false c.in_ok-compile_phase.ensures.run;
      grows = Grows_trans c.args.bank.now c.each.bank new c.each.invariant.grows c.in_ok-compile_phase.ensures.grows;
      known = known-grow c.each.bank new c.args.compilation.now.instances.now c.in_ok-compile_phase.ensures.grows c.each.invariant.known;
      so_far = λ all named.
          let so_far = c.each.invariant.so_far all named in
          let less : k < greatest_phase P.main + 1 = omega arith in
          phases_more P all (start_state P) c.each.bank new k c.each.state so_far c.compile_phase.new.state less
          (done_where (compile_in P k all) so_far.next new c.compile_phase.new.state c.in_ok-compile_phase.field-0 c.if-not-branch.false
          (c.in_ok-compile_phase.ensures.does so_far.next all so_far.is (instances-grow c.args.bank.now c.each.bank c.args.compilation.now.sources.now c.args.compilation.now.instances.now all c.each.invariant.grows named)));
    }

pub returns-clause-compiled : goal.returns-clause-compiled
returns-clause-compiled c = λ all named.
    let P = protocol_of c.args.compilation.now.protocol.now in
    let k = c.each.phase in
    let so_far = c.each.invariant.so_far all named in
    let past : greatest_phase P.main + 1 ≤ k = omega arith in
    compiles_to P all c.each.bank c.each.state so_far.next (phases_done P all (start_state P) c.each.bank c.each.bank k c.each.state so_far past) so_far.is c.each.invariant.run.few
