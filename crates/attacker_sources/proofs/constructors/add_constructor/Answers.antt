use Rattle.std.proofs.Common.{◌∙◌, [], ◌∷◌, filter_map, sym, ap}
use Rattle.spec_attack_runs.specs.Source.{Builds}
use Rattle.pi_tree.specs.Names.{declared_of}
use Rattle.clause_sources.specs.Bound.{numbered_in_bound}
use Rattle.clause_sources.proofs.Telling.{none_told}
use Rattle.attacker_sources.specs.Deeds.{constructor_deed}
use Rattle.attacker_sources.proofs.Adding.{told_as, last_told}
use Rattle.attacker_sources.proofs.Known.{constructor_told, constructor_hidden}
use Rattle.attacker_sources.proofs.constructors.add_constructor.Goals as goal

pub returns-then-not-is_applied-clause-tells : goal.returns-then-not-is_applied-clause-tells
returns-then-not-is_applied-clause-tells g c =
    let d = declared_of c.args.declared.now in
    told_as c.args.sources.now c.args.sources.now [] (filter_map (constructor_deed c.args.at.phase) ((c.args.number, d) ∷ []))
    (constructor_hidden c.args.at.phase c.args.number d (sym c.is_applied.ensures ∙ c.if-not-is_applied.true)) (none_told c.args.sources.now)

pub returns-clause-tells : goal.returns-clause-tells
returns-clause-tells g c =
    let d = declared_of c.args.declared.now in
    last_told c.args.sources.now c.add_sources.new.sources ((Builds c.args.number, numbered_in_bound c.in_ok-raw.raw) ∷ []) (filter_map (constructor_deed c.args.at.phase) ((c.args.number, d) ∷ [])) c.add_sources.result
    (constructor_told c.args.at.phase c.args.number d (numbered_in_bound c.in_ok-raw.raw) c.in_ok-parts.parts c.in_ok-arguments.arguments (sym c.is_applied.ensures ∙ c.if-not-is_applied.false) (ap numbered_in_bound c.in_ok-raw.ensures) c.in_ok-parts.ensures c.in_ok-arguments.ensures)
    c.add_sources.ensures.tells
