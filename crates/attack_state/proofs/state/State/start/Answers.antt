use Rattle.std.proofs.Common.{◌≡◌, length, ap, arith}
use Rattle.spec_calculus.specs.Runs.{Configuration}
use Rattle.pi_tree.specs.Protocols.{protocol_of}
use Rattle.attack_state.proofs.Few.{start_few}
use Rattle.attack_state.proofs.state.State.start.Goals as goal

pub returns-clause-run : goal.returns-clause-run
returns-clause-run c =
    let known = ap (λ (x : Configuration). length x.known) c.in_ok-conf.ensures.start in
    let threads = ap (λ (x : Configuration). length x.threads) c.in_ok-conf.ensures.start in
    let entries = ap (λ (x : Configuration). length x.entries) c.in_ok-conf.ensures.start in
    let steps : length c.new.result.items ≡ 0 = ap length c.new.ensures.items in
    record {
      of_protocol = c.in_ok-conf.ensures.of_protocol;
      counted = omega (arith, c.in_ok-conf.ensures.steps, steps);
      few = omega (arith, steps);
      known = c.in_ok-reach.ensures;
      few_known = omega (arith, known, steps, start_few (protocol_of c.args.protocol.now));
      few_threads = omega (arith, threads, steps);
      few_entries = omega (arith, entries, steps);
      room = c.requires.frees;
      points = c.requires.points;
    }

pub returns-clause-state : goal.returns-clause-state
returns-clause-state c = grind arith
