use Rattle.std.proofs.Common.{[], ◌∷◌, ap}
use Rattle.spec_translation.specs.Attacker.{kept_known}
use Rattle.spec_attack_runs.specs.Gathered.{idle}
use Rattle.clause_sources.specs.Bound.{numbered_in_bound}
use Rattle.attacker_sources.proofs.Adding.{last_told}
use Rattle.attacker_sources.proofs.Known.{kept_told}
use Rattle.attacker_sources.proofs.phases.add_kept.Goals as goal

pub returns-clause-tells : goal.returns-clause-tells
returns-clause-tells g c =
    last_told c.args.sources.now c.add_sources.new.sources (idle (numbered_in_bound c.in_ok-raw.raw) ∷ []) (idle (kept_known c.args.at.phase) ∷ []) c.add_sources.result
    (kept_told c.args.at.phase (numbered_in_bound c.in_ok-raw.raw) c.in_ok-parts.parts (ap numbered_in_bound c.in_ok-raw.ensures) c.in_ok-parts.ensures) c.add_sources.ensures.tells
