use Rattle.std.proofs.Common.{◌+◌, [], ◌∷◌}
use Rattle.spec_translation.specs.Attacker.{kept_known}
use Rattle.spec_attack_runs.specs.Gathered.{idle, deeds_in}
use Rattle.pi_tree.specs.Protocols.{protocol_of}
use Rattle.attacker_sources.proofs.Adding.{told_after}
use Rattle.attacker_sources.proofs.phases.add_next_phase.Goals as goal

pub returns-clause-tells : goal.returns-clause-tells
returns-clause-tells g c =
    let k = c.args.at.phase in
    told_after c.args.sources.now c.add_kept.new.sources c.add_phase.new.sources (idle (kept_known k) ∷ []) (deeds_in (protocol_of c.args.protocol.now) (k + 1)) c.add_phase.result c.in_ok-add_kept.ensures.tells c.add_phase.ensures.tells
