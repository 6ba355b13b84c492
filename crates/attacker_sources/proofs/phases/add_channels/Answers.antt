use Rattle.std.proofs.Common.{[], ◌∷◌, ap}
use Rattle.spec_translation.specs.Attacker.{message_heard, message_sent}
use Rattle.spec_attack_runs.specs.Gathered.{idle}
use Rattle.clause_sources.specs.Bound.{numbered_in_bound}
use Rattle.attacker_sources.proofs.Adding.{told_as, last_told, told_after}
use Rattle.attacker_sources.proofs.phases.add_channels.Goals as goal

pub returns-clause-tells : goal.returns-clause-tells
returns-clause-tells g c =
    let k = c.args.at.phase in
    told_after c.args.sources.now c.add_sources.new.sources c.add_sources-2.new.sources (idle (message_heard k) ∷ []) (idle (message_sent k) ∷ []) c.add_sources-2.result
    (told_as c.args.sources.now c.add_sources.new.sources (idle (numbered_in_bound c.in_ok-hears.hears) ∷ []) (idle (message_heard k) ∷ []) (ap (λ raw. idle (numbered_in_bound raw) ∷ []) c.in_ok-hears.ensures) c.in_ok-add_sources.ensures.tells)
    (last_told c.add_sources.new.sources c.add_sources-2.new.sources (idle (numbered_in_bound c.in_ok-sends.sends) ∷ []) (idle (message_sent k) ∷ []) c.add_sources-2.result (ap (λ raw. idle (numbered_in_bound raw) ∷ []) c.in_ok-sends.ensures) c.add_sources-2.ensures.tells)
