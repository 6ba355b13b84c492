use Rattle.std.proofs.Common.{◌≡◌, Result, IfOk, IfErr, sym, subst}
use Rattle.spec_calculus.specs.Syntax.{Protocol}
use Rattle.spec_calculus.specs.Runs.{Configuration}
use Rattle.pi_tree.specs.Protocols.{protocol_of}
use Rattle.pi_configurations.specs.declared.changes.Change.{Change}
use Rattle.pi_model.specs.declared.errors.ApplyError.{ApplyError}
use Rattle.pi_model.specs.declared.steps.Step.{Step}
use Rattle.pi_configurations.specs.Changes.{changed}
use Rattle.pi_configurations.specs.Configurations.{configuration_of}
use Rattle.pi_model.specs.Plans.{IsPossible, IsErrorOf}
use Rattle.pi_model.specs.Steps.{step_of}
use Rattle.pi_model.proofs.application.plan.Goals as goal

-- what is said of a form is said of the step that has it
of_form-possible : (P : Protocol) (c : Configuration) (step form : Step) (r : Result Change ApplyError) → step ≡ form → IfOk r (λ change. IsPossible P c (step_of form) (changed change c)) → IfOk r (λ change. IsPossible P c (step_of step) (changed change c))
of_form-possible P c step form r e h = subst (λ (s : Step). IfOk r (λ change. IsPossible P c (step_of s) (changed change c))) (sym e) h

of_form-refused : (P : Protocol) (c : Configuration) (step form : Step) (r : Result Change ApplyError) → step ≡ form → IfErr r (λ e. IsErrorOf P c (step_of form) e) → IfErr r (λ e. IsErrorOf P c (step_of step) e)
of_form-refused P c step form r e h = subst (λ (s : Step). IfErr r (λ x. IsErrorOf P c (step_of s) x)) (sym e) h

pub returns-in-Build-clause-possible : goal.returns-in-Build-clause-possible
returns-in-Build-clause-possible c = of_form-possible (protocol_of c.args.protocol.now) (configuration_of c.args.conf.now) _ _ c.build.result c.in-Build.is c.build.ensures.possible

pub returns-in-Build-clause-refused : goal.returns-in-Build-clause-refused
returns-in-Build-clause-refused c = of_form-refused (protocol_of c.args.protocol.now) (configuration_of c.args.conf.now) _ _ c.build.result c.in-Build.is c.build.ensures.refused

pub returns-in-Reduce-clause-possible : goal.returns-in-Reduce-clause-possible
returns-in-Reduce-clause-possible c = of_form-possible (protocol_of c.args.protocol.now) (configuration_of c.args.conf.now) _ _ c.reduce.result c.in-Reduce.is c.reduce.ensures.possible

pub returns-in-Reduce-clause-refused : goal.returns-in-Reduce-clause-refused
returns-in-Reduce-clause-refused c = of_form-refused (protocol_of c.args.protocol.now) (configuration_of c.args.conf.now) _ _ c.reduce.result c.in-Reduce.is c.reduce.ensures.refused

pub returns-in-Part-clause-possible : goal.returns-in-Part-clause-possible
returns-in-Part-clause-possible c = of_form-possible (protocol_of c.args.protocol.now) (configuration_of c.args.conf.now) _ _ c.part.result c.in-Part.is c.part.ensures.possible

pub returns-in-Part-clause-refused : goal.returns-in-Part-clause-refused
returns-in-Part-clause-refused c = of_form-refused (protocol_of c.args.protocol.now) (configuration_of c.args.conf.now) _ _ c.part.result c.in-Part.is c.part.ensures.refused

pub returns-in-Split-clause-possible : goal.returns-in-Split-clause-possible
returns-in-Split-clause-possible c = of_form-possible (protocol_of c.args.protocol.now) (configuration_of c.args.conf.now) _ _ c.split.result c.in-Split.is c.split.ensures.possible

pub returns-in-Split-clause-refused : goal.returns-in-Split-clause-refused
returns-in-Split-clause-refused c = of_form-refused (protocol_of c.args.protocol.now) (configuration_of c.args.conf.now) _ _ c.split.result c.in-Split.is c.split.ensures.refused

pub returns-in-Copy-clause-possible : goal.returns-in-Copy-clause-possible
returns-in-Copy-clause-possible c = of_form-possible (protocol_of c.args.protocol.now) (configuration_of c.args.conf.now) _ _ c.copy.result c.in-Copy.is c.copy.ensures.possible

pub returns-in-Copy-clause-refused : goal.returns-in-Copy-clause-refused
returns-in-Copy-clause-refused c = of_form-refused (protocol_of c.args.protocol.now) (configuration_of c.args.conf.now) _ _ c.copy.result c.in-Copy.is c.copy.ensures.refused

pub returns-in-Make-clause-possible : goal.returns-in-Make-clause-possible
returns-in-Make-clause-possible c = of_form-possible (protocol_of c.args.protocol.now) (configuration_of c.args.conf.now) _ _ c.make.result c.in-Make.is c.make.ensures.possible

pub returns-in-Make-clause-refused : goal.returns-in-Make-clause-refused
returns-in-Make-clause-refused c = of_form-refused (protocol_of c.args.protocol.now) (configuration_of c.args.conf.now) _ _ c.make.result c.in-Make.is c.make.ensures.refused

pub returns-in-Pass-clause-possible : goal.returns-in-Pass-clause-possible
returns-in-Pass-clause-possible c = of_form-possible (protocol_of c.args.protocol.now) (configuration_of c.args.conf.now) _ _ c.pass.result c.in-Pass.is c.pass.ensures.possible

pub returns-in-Pass-clause-refused : goal.returns-in-Pass-clause-refused
returns-in-Pass-clause-refused c = of_form-refused (protocol_of c.args.protocol.now) (configuration_of c.args.conf.now) _ _ c.pass.result c.in-Pass.is c.pass.ensures.refused

pub returns-in-Hear-clause-possible : goal.returns-in-Hear-clause-possible
returns-in-Hear-clause-possible c = of_form-possible (protocol_of c.args.protocol.now) (configuration_of c.args.conf.now) _ _ c.hear.result c.in-Hear.is c.hear.ensures.possible

pub returns-in-Hear-clause-refused : goal.returns-in-Hear-clause-refused
returns-in-Hear-clause-refused c = of_form-refused (protocol_of c.args.protocol.now) (configuration_of c.args.conf.now) _ _ c.hear.result c.in-Hear.is c.hear.ensures.refused

pub returns-in-Say-clause-possible : goal.returns-in-Say-clause-possible
returns-in-Say-clause-possible c = of_form-possible (protocol_of c.args.protocol.now) (configuration_of c.args.conf.now) _ _ c.say.result c.in-Say.is c.say.ensures.possible

pub returns-in-Say-clause-refused : goal.returns-in-Say-clause-refused
returns-in-Say-clause-refused c = of_form-refused (protocol_of c.args.protocol.now) (configuration_of c.args.conf.now) _ _ c.say.result c.in-Say.is c.say.ensures.refused

pub returns-in-Take-clause-possible : goal.returns-in-Take-clause-possible
returns-in-Take-clause-possible c = of_form-possible (protocol_of c.args.protocol.now) (configuration_of c.args.conf.now) _ _ c.take.result c.in-Take.is c.take.ensures.possible

pub returns-in-Take-clause-refused : goal.returns-in-Take-clause-refused
returns-in-Take-clause-refused c = of_form-refused (protocol_of c.args.protocol.now) (configuration_of c.args.conf.now) _ _ c.take.result c.in-Take.is c.take.ensures.refused

pub returns-in-Fail-clause-possible : goal.returns-in-Fail-clause-possible
returns-in-Fail-clause-possible c = of_form-possible (protocol_of c.args.protocol.now) (configuration_of c.args.conf.now) _ _ c.fail.result c.in-Fail.is c.fail.ensures.possible

pub returns-in-Fail-clause-refused : goal.returns-in-Fail-clause-refused
returns-in-Fail-clause-refused c = of_form-refused (protocol_of c.args.protocol.now) (configuration_of c.args.conf.now) _ _ c.fail.result c.in-Fail.is c.fail.ensures.refused

pub returns-in-Mark-clause-possible : goal.returns-in-Mark-clause-possible
returns-in-Mark-clause-possible c = of_form-possible (protocol_of c.args.protocol.now) (configuration_of c.args.conf.now) _ _ c.mark.result c.in-Mark.is c.mark.ensures.possible

pub returns-in-Mark-clause-refused : goal.returns-in-Mark-clause-refused
returns-in-Mark-clause-refused c = of_form-refused (protocol_of c.args.protocol.now) (configuration_of c.args.conf.now) _ _ c.mark.result c.in-Mark.is c.mark.ensures.refused

pub returns-in-Next-clause-possible : goal.returns-in-Next-clause-possible
returns-in-Next-clause-possible c = of_form-possible (protocol_of c.args.protocol.now) (configuration_of c.args.conf.now) _ _ c.next.result c.in-Next.is c.next.ensures.possible

pub returns-in-Next-clause-refused : goal.returns-in-Next-clause-refused
returns-in-Next-clause-refused c = of_form-refused (protocol_of c.args.protocol.now) (configuration_of c.args.conf.now) _ _ c.next.result c.in-Next.is c.next.ensures.refused

pub returns-in-Insert-clause-possible : goal.returns-in-Insert-clause-possible
returns-in-Insert-clause-possible c = of_form-possible (protocol_of c.args.protocol.now) (configuration_of c.args.conf.now) _ _ c.put.result c.in-Insert.is c.put.ensures.possible

pub returns-in-Insert-clause-refused : goal.returns-in-Insert-clause-refused
returns-in-Insert-clause-refused c = of_form-refused (protocol_of c.args.protocol.now) (configuration_of c.args.conf.now) _ _ c.put.result c.in-Insert.is c.put.ensures.refused

pub returns-in-Get-clause-possible : goal.returns-in-Get-clause-possible
returns-in-Get-clause-possible c = of_form-possible (protocol_of c.args.protocol.now) (configuration_of c.args.conf.now) _ _ c.fetch.result c.in-Get.is c.fetch.ensures.possible

pub returns-in-Get-clause-refused : goal.returns-in-Get-clause-refused
returns-in-Get-clause-refused c = of_form-refused (protocol_of c.args.protocol.now) (configuration_of c.args.conf.now) _ _ c.fetch.result c.in-Get.is c.fetch.ensures.refused

pub returns-in-Miss-clause-possible : goal.returns-in-Miss-clause-possible
returns-in-Miss-clause-possible c = of_form-possible (protocol_of c.args.protocol.now) (configuration_of c.args.conf.now) _ _ c.miss.result c.in-Miss.is c.miss.ensures.possible

pub returns-in-Miss-clause-refused : goal.returns-in-Miss-clause-refused
returns-in-Miss-clause-refused c = of_form-refused (protocol_of c.args.protocol.now) (configuration_of c.args.conf.now) _ _ c.miss.result c.in-Miss.is c.miss.ensures.refused
