use Rattle.std.proofs.Common.{[], ◌∷◌, ◌++◌, flat_map, filter_map}
use Rattle.std.specs.List.{enumerate_from}
use Rattle.spec_translation.specs.Attacker.{message_heard, message_sent}
use Rattle.spec_attack_runs.specs.Gathered.{idle, rule_deeds}
use Rattle.pi_tree.specs.Protocols.{protocol_of}
use Rattle.attacker_sources.specs.Deeds.{constructor_deed}
use Rattle.attacker_sources.proofs.Adding.{told_after}
use Rattle.attacker_sources.proofs.phases.add_phase.Goals as goal

pub returns-clause-tells : goal.returns-clause-tells
returns-clause-tells g c =
    let P = protocol_of c.args.protocol.now in
    let k = c.args.at.phase in
    let constructors = filter_map (constructor_deed k) (enumerate_from 1 P.constructors) in
    let rules = flat_map (rule_deeds P k) (enumerate_from 1 P.destructors) in
    let channels = idle (message_heard k) ∷ idle (message_sent k) ∷ [] in
    told_after c.args.sources.now c.add_constructors.new.sources c.add_channels.new.sources constructors (rules ++ channels) c.add_channels.result c.in_ok-add_constructors.ensures.tells
    (told_after c.add_constructors.new.sources c.add_destructors.new.sources c.add_channels.new.sources rules channels c.add_channels.result c.in_ok-add_destructors.ensures.tells c.add_channels.ensures.tells)
