use Rattle.std.proofs.Common.{◌≡◌, true, false, [], ◌∷◌, map, filter_map, rules, ap}
use Rattle.spec_translation.specs.Attacker.{name_known}
use Rattle.spec_attack_runs.specs.Gathered.{idle}
use Rattle.pi_tree.specs.Names.{declared_of}
use Rattle.clause_sources.specs.Bound.{numbered_in_bound}
use Rattle.clause_sources.proofs.Telling.{none_told}
use Rattle.attacker_sources.proofs.Adding.{told_as, last_told}
use Rattle.attacker_sources.proofs.Known.{name_told, name_hidden}
use Rattle.attacker_sources.proofs.names.add_name.Goals as goal

pub returns-then-not-declared-clause-tells : goal.returns-then-not-declared-clause-tells
returns-then-not-declared-clause-tells g c =
    let d = declared_of c.args.declared.now in
    let hidden : d.public ≡ false = search rules in
    told_as c.args.sources.now c.args.sources.now [] (map idle (filter_map name_known ((c.args.number, d) ∷ []))) (name_hidden c.args.number d hidden) (none_told c.args.sources.now)

pub returns-clause-tells : goal.returns-clause-tells
returns-clause-tells g c =
    let d = declared_of c.args.declared.now in
    let public : d.public ≡ true = search rules in
    last_told c.args.sources.now c.add_sources.new.sources (idle (numbered_in_bound c.in_ok-raw.raw) ∷ []) (map idle (filter_map name_known ((c.args.number, d) ∷ []))) c.add_sources.result
    (name_told c.args.number d (numbered_in_bound c.in_ok-raw.raw) c.in_ok-none.none c.in_ok-arguments.arguments public (ap numbered_in_bound c.in_ok-raw.ensures) c.in_ok-none.ensures c.in_ok-arguments.ensures) c.add_sources.ensures.tells
