use Rattle.std.proofs.Common.{option_map, ap, sym}
use Rattle.spec_calculus.specs.Points.{numbered}
use Rattle.spec_attack_runs.specs.Instance.{kept_variables, telling_parts}
use Rattle.clause_form.specs.Seen.{clause_at}
use Rattle.clause_instances.proofs.Descending.{part_in, part_kept}
use Rattle.clause_instances.proofs.resolved.kept_of.Goals as goal

pub returns-in-None-clause-kept : goal.returns-in-None-clause-kept
returns-in-None-clause-kept c = let none = rw c.in-None.is at c.in_ok-telling_part.ensures.part in sym (ap (option_map kept_variables) none)

pub kept_variables-requires : goal.kept_variables-requires
kept_variables-requires c =
    let names = rw c.in-Some.is at c.in_ok-telling_part.ensures.part in
    part_in c.telling_part.new.bank c.in-Some.part (numbered (telling_parts (clause_at c.args.bank.now c.args.raw.now)) c.args.number) names

pub returns-in_ok-kept-in-Some-clause-kept : goal.returns-in_ok-kept-in-Some-clause-kept
returns-in_ok-kept-in-Some-clause-kept c =
    let names = rw c.in-Some.is at c.in_ok-telling_part.ensures.part in
    part_kept c.telling_part.new.bank c.in-Some.part (numbered (telling_parts (clause_at c.args.bank.now c.args.raw.now)) c.args.number) c.in_ok-kept-in-Some.kept.items names c.in_ok-kept-in-Some.ensures
