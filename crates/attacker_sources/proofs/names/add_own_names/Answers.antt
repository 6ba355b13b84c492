use Rattle.std.proofs.Common.{[], ◌∷◌, ap}
use Rattle.spec_translation.specs.Attacker.{fresh_known}
use Rattle.spec_attack_runs.specs.Gathered.{idle}
use Rattle.clause_sources.specs.Bound.{numbered_in_bound}
use Rattle.attacker_sources.proofs.Adding.{last_told}
use Rattle.attacker_sources.proofs.Known.{own_told}
use Rattle.attacker_sources.proofs.names.add_own_names.Goals as goal

pub returns-clause-tells : goal.returns-clause-tells
returns-clause-tells g c =
    last_told c.args.sources.now c.add_sources.new.sources (idle (numbered_in_bound c.in_ok-raw.raw) ∷ []) (idle fresh_known ∷ []) c.add_sources.result
    (own_told (numbered_in_bound c.in_ok-raw.raw) c.in_ok-none.none c.in_ok-arguments.arguments (ap numbered_in_bound c.in_ok-raw.ensures) c.in_ok-none.ensures c.in_ok-arguments.ensures) c.add_sources.ensures.tells
