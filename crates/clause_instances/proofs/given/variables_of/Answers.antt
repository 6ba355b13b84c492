use Rattle.std.proofs.Common.{◌∙◌, ◌++◌, arith}
use Rattle.std.proofs.lemmas.Grind.{common_steps}
use Rattle.spec_attack_runs.specs.Source.{source_variables, part_of}
use Rattle.term_tree.proofs.BankLaws.{Grows-length}
use Rattle.clause_instances.proofs.Keeping.{before_own}
use Rattle.clause_instances.proofs.given.variables_of.Goals as goal

pub back-requires : goal.back-requires
back-requires c = omega (arith, c.mark-mark.ensures, Grows-length c.args.scratch.now c.kept_of-kept.new.scratch c.kept_of-kept.ensures.grows)

pub returns-in_ok-add_source_variables-in-Some-clause-variables : goal.returns-in_ok-add_source_variables-in-Some-clause-variables
returns-in_ok-add_source_variables-in-Some-clause-variables c =
    let kept = rw c.in-Some.is at c.in_ok-kept.ensures.kept in
    before_own (part_of c.args.source.now) c.args.source.now c.in-Some.variables.items c.add_source_variables.new.numbers.items kept
    (c.in_ok-add_source_variables-in-Some.ensures ∙ (λ i. c.in-Some.variables.items ++ source_variables (record { raw = c.raw.ensures i; part = 1; action = c.action.ensures i })))

pub returns-in_err-add_source_variables-in-Some-clause-scratch : goal.returns-in_err-add_source_variables-in-Some-clause-scratch
returns-in_err-add_source_variables-in-Some-clause-scratch c = grind (arith, common_steps)

pub returns-in_ok-add_source_variables-in-Some-clause-scratch : goal.returns-in_ok-add_source_variables-in-Some-clause-scratch
returns-in_ok-add_source_variables-in-Some-clause-scratch c = grind (arith, common_steps)

pub returns-in-None-clause-scratch : goal.returns-in-None-clause-scratch
returns-in-None-clause-scratch c = grind (arith, common_steps)

pub returns-in_err-kept-clause-scratch : goal.returns-in_err-kept-clause-scratch
returns-in_err-kept-clause-scratch c = grind (arith, common_steps)
