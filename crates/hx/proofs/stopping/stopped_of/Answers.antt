-- The instances are compiled phase by phase, up to the first that can't be.
use Rattle.std.proofs.Common.{◌+◌, ◌<◌, ◌≤◌, Option, List, subst, arith}
use Rattle.spec_calculus.specs.Points.{greatest_phase}
use Rattle.term_tree.proofs.BankLaws.{Grows_refl, Grows_trans}
use Rattle.pi_tree.specs.Protocols.{protocol_of}
use Rattle.clause_instances.specs.declared.instance.Instance.{Instance as MadeInstance}
use Rattle.spec_attack_runs.specs.Source.{Source}
use Rattle.attack_compiling.proofs.InPhases.{instances-grow, known-grow}
use Rattle.hx.specs.declared.stopping.Stopped.{Stopped}
use Rattle.hx.specs.Stops.{StopsIn, RunsOn}
use Rattle.hx.proofs.Placed.{phases_begin, phases_on, phases_stopped, phases_past}
use Rattle.hx.proofs.stopping.stopped_of.Goals as goal

pub each-init : goal.each-init
each-init c = record {
  run = c.requires.run;
  grows = Grows_refl c.args.bank.now;
  known = c.requires.known;
  so_far = λ all named. phases_begin (protocol_of c.args.compilation.now.protocol.now) all c.args.bank.now c.args.progress.now.compiled.items c.args.progress.now.state c.requires.none (c.requires.start c.args.bank.now);
}

pub returns-in_err-stopped_in-clause-grows : goal.returns-in_err-stopped_in-clause-grows
returns-in_err-stopped_in-clause-grows c = Grows_trans c.args.bank.now c.each.bank c.stopped_in.new.bank c.each.invariant.grows c.in_err-stopped_in.ensures.grows

pub returns-in-Some-clause-grows : goal.returns-in-Some-clause-grows
returns-in-Some-clause-grows c = Grows_trans c.args.bank.now c.each.bank c.stopped_in.new.bank c.each.invariant.grows c.in_ok-stopped_in.ensures.grows

pub returns-in-Some-clause-stops : goal.returns-in-Some-clause-stops
returns-in-Some-clause-stops c = λ all named.
    let P = protocol_of c.args.compilation.now.protocol.now in
    let sources : List Source = c.args.compilation.now.sources.now in
    let ids : List MadeInstance = c.args.compilation.now.instances.now in
    let k = c.each.phase in
    let less : k < greatest_phase P.main + 1 = omega arith in
    let so_far = c.each.invariant.so_far all named in
    phases_stopped P all c.each.bank k c.each.progress.compiled.items c.each.progress.state so_far c.stopped_in.new.progress c.in-Some.stopped less
    (subst (λ (o : Option Stopped). StopsIn P k all c.stopped_in.new.bank so_far.next c.each.progress.compiled.items c.stopped_in.new.progress o) c.in-Some.is
    (c.in_ok-stopped_in.ensures.stops so_far.next all so_far.is (instances-grow c.args.bank.now c.each.bank sources ids all c.each.invariant.grows named)))

pub each-preserved : goal.each-preserved
each-preserved c =
    let P = protocol_of c.args.compilation.now.protocol.now in
    let sources : List Source = c.args.compilation.now.sources.now in
    let ids : List MadeInstance = c.args.compilation.now.instances.now in
    let k = c.each.phase in
    let less : k < greatest_phase P.main + 1 = omega arith in
    let new = c.stopped_in.new.bank in
    record {
      run = subst (λ (o : Option Stopped). RunsOn P c.stopped_in.new.progress o) c.in-None.is c.in_ok-stopped_in.ensures.run;
      grows = Grows_trans c.args.bank.now c.each.bank new c.each.invariant.grows c.in_ok-stopped_in.ensures.grows;
      known = known-grow c.each.bank new ids c.in_ok-stopped_in.ensures.grows c.each.invariant.known;
      so_far = λ all named.
          let so_far = c.each.invariant.so_far all named in
          phases_on P all c.each.bank k c.each.progress.compiled.items c.each.progress.state so_far new c.stopped_in.new.progress less
          (subst (λ (o : Option Stopped). StopsIn P k all new so_far.next c.each.progress.compiled.items c.stopped_in.new.progress o) c.in-None.is
          (c.in_ok-stopped_in.ensures.stops so_far.next all so_far.is (instances-grow c.args.bank.now c.each.bank sources ids all c.each.invariant.grows named)));
    }

pub returns-clause-stops : goal.returns-clause-stops
returns-clause-stops c = λ all named.
    let P = protocol_of c.args.compilation.now.protocol.now in
    let k = c.each.phase in
    let past : greatest_phase P.main + 1 ≤ k = omega arith in
    phases_past P all c.each.bank k c.each.progress.compiled.items c.each.progress.state (c.each.invariant.so_far all named) past c.each.invariant.run.few
