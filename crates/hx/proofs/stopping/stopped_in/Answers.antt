-- The instances of a phase are compiled one after another, up to the first that can't be.
use Rattle.std.proofs.Common.{◌<◌, ◌≤◌, Option, List, length, refl, ap, subst, arith}
use Rattle.term_tree.proofs.BankLaws.{Grows_refl, Grows_trans}
use Rattle.pi_tree.specs.Protocols.{protocol_of}
use Rattle.clause_instances.specs.declared.instance.Instance.{Instance as MadeInstance}
use Rattle.spec_attack_runs.specs.Source.{Source}
use Rattle.attack_compiling.proofs.Acted.{ahead_some}
use Rattle.attack_compiling.proofs.InPhases.{instances-grow, known-grow, nothing_after}
use Rattle.hx.specs.declared.stopping.Stopped.{Stopped}
use Rattle.hx.specs.Stops.{PlacesOne, RunsOn}
use Rattle.hx.proofs.Placed.{one_there, placed_start, placed_more, placed_stop, placed_end}
use Rattle.hx.proofs.stopping.stopped_in.Goals as goal

pub each-init : goal.each-init
each-init c = record {
  run = c.requires.run;
  grows = Grows_refl c.args.bank.now;
  known = c.requires.known;
  so_far = λ st all is named. placed_start (protocol_of c.args.compilation.now.protocol.now) c.args.phase all c.args.progress.now.compiled.items st c.args.bank.now c.args.progress.now.state is;
}

pub returns-in-Some-clause-stops : goal.returns-in-Some-clause-stops
returns-in-Some-clause-stops c = λ st all is named.
    let P = protocol_of c.args.compilation.now.protocol.now in
    let before = c.args.bank.now in
    let sources : List Source = c.args.compilation.now.sources.now in
    let ids : List MadeInstance = c.args.compilation.now.instances.now in
    let i = c.each.index in
    let within : i < length ids = omega (arith, ap length c.instances.view_is) in
    let so_far = c.each.invariant.so_far st all is named in
    let at = one_there before sources ids all i within named in
    placed_stop P c.args.phase all c.args.progress.now.compiled.items st c.each.bank i at.one (ahead_some all i at.one at.at) c.each.progress.compiled.items c.each.progress.state so_far c.each.progress c.placed.new.progress c.in-Some.stopped refl refl at.at
    (subst (λ (o : Option Stopped). PlacesOne P c.args.phase at.one c.placed.new.bank so_far.next c.each.progress c.placed.new.progress i o) c.in-Some.is
    (c.in_ok-placed.ensures.places so_far.next all at.one so_far.is (instances-grow before c.each.bank sources ids all c.each.invariant.grows named) at.at))

pub each-preserved : goal.each-preserved
each-preserved c =
    let P = protocol_of c.args.compilation.now.protocol.now in
    let before = c.args.bank.now in
    let sources : List Source = c.args.compilation.now.sources.now in
    let ids : List MadeInstance = c.args.compilation.now.instances.now in
    let i = c.each.index in
    let within : i < length ids = omega (arith, ap length c.instances.view_is) in
    let new = c.placed.new.bank in
    record {
      run = subst (λ (o : Option Stopped). RunsOn P c.placed.new.progress o) c.in-None.is c.in_ok-placed.ensures.run;
      grows = Grows_trans before c.each.bank new c.each.invariant.grows c.in_ok-placed.ensures.grows;
      known = known-grow c.each.bank new ids c.in_ok-placed.ensures.grows c.each.invariant.known;
      so_far = λ st all is named.
          let so_far = c.each.invariant.so_far st all is named in
          let at = one_there before sources ids all i within named in
          placed_more P c.args.phase all c.args.progress.now.compiled.items st c.each.bank i at.one (ahead_some all i at.one at.at) c.each.progress.compiled.items c.each.progress.state so_far new c.each.progress c.placed.new.progress refl at.at
          (subst (λ (o : Option Stopped). PlacesOne P c.args.phase at.one new so_far.next c.each.progress c.placed.new.progress i o) c.in-None.is
          (c.in_ok-placed.ensures.places so_far.next all at.one so_far.is (instances-grow before c.each.bank sources ids all c.each.invariant.grows named) at.at));
    }

pub returns-clause-stops : goal.returns-clause-stops
returns-clause-stops c = λ st all is named.
    let ids : List MadeInstance = c.args.compilation.now.instances.now in
    let i = c.each.index in
    let past : length ids ≤ i = omega (arith, ap length c.instances.view_is) in
    placed_end (protocol_of c.args.compilation.now.protocol.now) c.args.phase all c.args.progress.now.compiled.items st c.each.bank i c.each.progress
    (nothing_after c.args.bank.now c.args.compilation.now.sources.now ids all i past named) (c.each.invariant.so_far st all is named)
