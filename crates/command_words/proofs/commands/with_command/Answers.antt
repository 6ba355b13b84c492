use Rattle.std.proofs.Common.{◌≡◌, ◌∙◌, false, Result, ap, subst}
use Rattle.std.specs.Prelude.{IfOk}
use Rattle.std.specs.declared.alloc.AllocError.{AllocError}
use Rattle.std.proofs.lemmas.Result.{IfOk-weaker}
use Rattle.clap.specs.Words.{AddsSubcommand, app_of, shape_of, with_subcommand}
use Rattle.clap.specs.declared.builder.command.Command.{Command}
use Rattle.clap.specs.declared.builder.command.Command.TheViews.{out-Command as fields_of}
use Rattle.command_words.proofs.commands.with_command.Goals as goal

pub returns-in-Ok : goal.returns-in-Ok
returns-in-Ok c = λ s is local.
    let command = c.in-Ok.command in
    let shape : shape_of command ≡ s = subst (λ (r : Result Command AllocError). IfOk r (λ x. shape_of x ≡ s)) c.in-Ok.is is in
    let free : (fields_of command).has_globals ≡ false = subst (λ (r : Result Command AllocError). IfOk r (λ x. (fields_of x).has_globals ≡ false)) c.in-Ok.is local in
    IfOk-weaker c.subcommand.result (λ r. AddsSubcommand c.args.program command r) (λ r. app_of r ≡ with_subcommand (app_of c.args.program) s)
    (λ r added. added.shape free ∙ ap (with_subcommand (app_of c.args.program)) shape) c.subcommand.ensures
