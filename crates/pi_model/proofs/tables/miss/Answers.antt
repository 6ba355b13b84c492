use Rattle.std.proofs.Common.{◌+◌, ◌||◌, sym, ap, subst, ◌∙◌, arith}
use Rattle.std.proofs.lemmas.Grind.{common_steps}
use Rattle.std.specs.List.{list_any}
use Rattle.spec_calculus.specs.Values.{values_of}
use Rattle.spec_calculus.specs.Limits.{is_large, terms_at}
use Rattle.spec_calculus.specs.Points.{point_after}
use Rattle.spec_calculus.specs.Runs as calculus
use Rattle.pi_tree.specs.Processes.{condition_of, process_of}
use Rattle.pi_tree.specs.Protocols.{protocol_of}
use Rattle.pi_configurations.specs.Configurations.{configuration_of}
use Rattle.pi_configurations.specs.Moves.{advanced}
use Rattle.pi_configurations.proofs.Points.{of_points}
use Rattle.pi_model.specs.Plans.{Stands, IsPossible}
use Rattle.pi_model.proofs.TableSteps.{miss-possible, of_miss}
use Rattle.pi_model.proofs.tables.miss.Goals as goal

pub returns-else-large-clause-possible : goal.returns-else-large-clause-possible
returns-else-large-clause-possible c =
    let at = c.in_ok-at.at in
    subst (λ after. IsPossible (protocol_of c.args.run.now.protocol.now) (configuration_of c.args.run.now.conf.now) (calculus.Miss c.args.number) (advanced (configuration_of c.args.run.now.conf.now) c.args.number after))
    (sym (c.point_after.ensures ∙ ap (λ q. point_after (at.point + 1) (process_of q)) c.deref.ensures))
    (miss-possible (protocol_of c.args.run.now.protocol.now) (configuration_of c.args.run.now.conf.now) c.args.number at.point at.environment.now
    c.in-Get.table c.in-Get.patterns (condition_of c.in-Get.condition) (process_of c.in-Get.next.value) (process_of c.in-Get.field-4.value)
    (subst (λ q. Stands (protocol_of c.args.run.now.protocol.now) (configuration_of c.args.run.now.conf.now) c.args.number at.point at.environment.now (process_of q)) c.in-Get.is c.in_ok-at.ensures.stands)
    c.in_ok-some_taken-in-Get.field-0 c.in_ok-large-in-Get.large c.in_ok-some_taken-in-Get.ensures c.if-branch.false c.in_ok-large-in-Get.ensures
    (ap (λ q. list_any is_large (values_of at.environment.now (terms_at (process_of q))) || c.in_ok-large-in-Get.large) (sym c.in-Get.is)
    ∙ (ap (λ b. b || c.in_ok-large-in-Get.large) (sym c.some_large_at.ensures ∙ c.if-some_large_at.false) ∙ c.if-large.false)))

pub overflow_add-at : goal.overflow_add-at
overflow_add-at c = grind (arith, common_steps, of_miss, of_points)

pub point_after-requires : goal.point_after-requires
point_after-requires c = grind (arith, common_steps, of_miss, of_points)

pub returns-then-some_large_at-clause-refused : goal.returns-then-some_large_at-clause-refused
returns-then-some_large_at-clause-refused c = grind (arith, common_steps)
