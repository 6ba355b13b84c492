use Rattle.std.proofs.Common.{◌≡◌, ◌+◌, Result, Ok, Err, Some, OnOk, OnErr, sym, subst, arith}
use Rattle.std.proofs.lemmas.Grind.{common_steps}
use Rattle.spec_calculus.specs.Syntax.{Protocol}
use Rattle.spec_calculus.specs.Runs.{Step, after_step}
use Rattle.pi_tree.specs.Protocols.{protocol_of}
use Rattle.pi_configurations.specs.declared.configurations.Conf.{Conf}
use Rattle.pi_configurations.specs.Configurations.{IsConfigurationOf, configuration_of}
use Rattle.pi_model.specs.declared.errors.ApplyError.{ApplyError}
use Rattle.pi_model.specs.Steps.{step_of}
use Rattle.pi_model.proofs.Keeping.{of_keeping, step-of_protocol}
use Rattle.pi_model.proofs.Told.{of_told}
use Rattle.pi_model.proofs.application.apply.Goals as goal

pub returns-clause-possible : goal.returns-clause-possible
returns-clause-possible c = grind (arith, common_steps, of_keeping, of_told)

-- on each answer the configuration is one of the protocol
stays_one : (P : Protocol) (before now : Conf) (step : Step) (r : Result (Unit {0}) ApplyError) → IsConfigurationOf P before → OnOk r (after_step P (configuration_of before) step ≡ Some (configuration_of now)) → OnErr r (now ≡ before) → OnOk r (now.steps ≡ before.steps + 1) → IsConfigurationOf P now
stays_one P before now step (Ok x) h after same counted = step-of_protocol P before now step h after counted
stays_one P before now step (Err x) h after same counted = subst (IsConfigurationOf P) (sym same) h

pub returns-clause-of_protocol : goal.returns-clause-of_protocol
returns-clause-of_protocol c =
    let told = c.apply_counted.ensures in
    stays_one (protocol_of c.args.protocol.now) _ _ (step_of c.args.step.now) _ c.requires.of_protocol told.after told.unchanged told.steps
