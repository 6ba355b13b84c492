use Rattle.std.proofs.Common.{◌∙◌, [], ◌∷◌, ◌++◌, map, flat_map, filter_map, ap}
use Rattle.std.specs.List.{enumerate_from}
use Rattle.spec_calculus.specs.Points.{greatest_phase}
use Rattle.spec_translation.specs.Attacker.{name_known, fresh_known}
use Rattle.spec_attack_runs.specs.Source.{sources_of}
use Rattle.spec_attack_runs.specs.Gathered.{idle, deeds_in, deeds_after, attacker_deeds}
use Rattle.pi_tree.specs.Protocols.{protocol_of}
use Rattle.attacker_clauses.proofs.Rules.{all_renamed}
use Rattle.clause_sources.proofs.Telling.{told_twice}
use Rattle.attacker_sources.proofs.Few.{few_rules, few_constructors}
use Rattle.attacker_sources.proofs.whole.attacker_sources.Goals as goal

pub add_phase-requires-clause-constructors : goal.add_phase-requires-clause-constructors
add_phase-requires-clause-constructors g c = few_constructors (protocol_of c.args.protocol.now) c.requires.limits

pub add_phase-requires-clause-rules : goal.add_phase-requires-clause-rules
add_phase-requires-clause-rules g c = all_renamed (protocol_of c.args.protocol.now) c.requires.rules c.requires.limits c.requires.scoped

pub add_phase-requires-clause-few : goal.add_phase-requires-clause-few
add_phase-requires-clause-few g c = few_rules (protocol_of c.args.protocol.now) c.requires.limits

pub add_later_phases-requires-clause-constructors : goal.add_later_phases-requires-clause-constructors
add_later_phases-requires-clause-constructors g c = few_constructors (protocol_of c.args.protocol.now) c.requires.limits

pub add_later_phases-requires-clause-rules : goal.add_later_phases-requires-clause-rules
add_later_phases-requires-clause-rules g c = all_renamed (protocol_of c.args.protocol.now) c.requires.rules c.requires.limits c.requires.scoped

pub add_later_phases-requires-clause-few : goal.add_later_phases-requires-clause-few
add_later_phases-requires-clause-few g c = few_rules (protocol_of c.args.protocol.now) c.requires.limits

pub returns-clause-tells : goal.returns-clause-tells
returns-clause-tells g c =
    let P = protocol_of c.args.protocol.now in
    let names = map idle (filter_map name_known (enumerate_from 1 P.frees)) in
    let later = deeds_after P 0 (greatest_phase P.main) in
    let done = told_twice c.add_own_names.new.sources c.add_phase.new.sources c.add_later_phases.new.sources (deeds_in P 0) later c.in_ok-add_phase.ensures.tells c.in_ok-add_later_phases.ensures.tells in
    let others = told_twice c.add_names.new.sources c.add_own_names.new.sources c.add_later_phases.new.sources (idle fresh_known ∷ []) (deeds_in P 0 ++ later) c.in_ok-add_own_names.ensures.tells done in
    let whole = told_twice c.new-sources.result c.add_names.new.sources c.add_later_phases.new.sources names (idle fresh_known ∷ (deeds_in P 0 ++ later)) c.in_ok-add_names.ensures.tells others in
    whole ∙ ap (λ l. l ++ flat_map (λ deed. sources_of deed.0 deed.1) (attacker_deeds P)) c.new-sources.ensures
