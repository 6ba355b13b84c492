use Rattle.std.proofs.Common.{◌∙◌, ◌+◌, ◌∷◌, refl}
use Rattle.spec_translation.specs.Attacker.{kept_known}
use Rattle.spec_attack_runs.specs.Gathered.{idle, deeds_in, deeds_after}
use Rattle.pi_tree.specs.Protocols.{protocol_of}
use Rattle.clause_sources.proofs.Telling.{none_told}
use Rattle.attacker_sources.proofs.Adding.{told_on}
use Rattle.attacker_sources.proofs.Later.{one_phase_more}
use Rattle.attacker_sources.proofs.phases.add_later_phases.Goals as goal

pub each-init : goal.each-init
each-init g c = record { bank = refl; tells = none_told c.args.sources.now }

pub each-preserved : goal.each-preserved
each-preserved g c =
    let P = protocol_of c.args.protocol.now in
    let k = c.each.phase in
    record {
      bank = c.add_next_phase.ensures.bank ∙ c.each.invariant.bank;
      tells = told_on c.args.sources.now c.each.sources c.add_next_phase.new.sources (deeds_after P 0 k) (idle (kept_known k) ∷ deeds_in P (k + 1)) (deeds_after P 0 (k + 1))
          c.each.invariant.tells c.in_ok-add_next_phase.ensures.tells (one_phase_more P k);
    }
