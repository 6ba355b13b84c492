use Rattle.std.proofs.Common.{◌∙◌, Some, option_map, ap, sym}
use Rattle.spec_attack_runs.specs.Instance.{kept_variables}
use Rattle.clause_form.specs.Seen.{clause_at}
use Rattle.clause_instances.proofs.Keeping.{kept_are, part_there, part_known}
use Rattle.clause_instances.proofs.given.kept_within.Goals as goal

pub kept_variables-requires : goal.kept_variables-requires
kept_variables-requires c = part_known c.args.scratch.now c.in_ok-parts.parts c.args.number c.in-Some.part.now c.in_ok-parts.ensures.known (sym c.in-Some.ensures)

pub returns : goal.returns
returns c =
    let all = c.args.scratch.now in
    let there = part_there all c.args.raw.now c.in_ok-parts.parts c.args.number c.in-Some.part.now c.in_ok-parts.ensures (sym c.in-Some.ensures) in
    ap Some (kept_are (clause_at all c.in-Some.part.now) c.in_ok-kept-in-Some.kept.items c.in_ok-kept-in-Some.ensures) ∙ sym (ap (option_map kept_variables) there)
