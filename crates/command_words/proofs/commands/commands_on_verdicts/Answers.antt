use Rattle.std.proofs.Common.{◌≡◌, ◌∙◌, true, ap, codes, subst}
use Rattle.std.specs.Prelude.{IfOk}
use Rattle.clap.specs.Words.{App, app_of, new_app, with_subcommand}
use Rattle.clap.specs.Simple.{app_of_fields, on_top}
use Rattle.command_words.specs.Commands.{check_shape, verify_shape}
use Rattle.command_words.proofs.commands.commands_on_verdicts.Goals as goal

abbrev bare_app : App
bare_app = on_top (λ s. record s { subcommand_required = true }) (new_app (codes "hv"))

pub returns : goal.returns
returns c =
    let bare : app_of c.subcommand_required-bare.result ≡ bare_app =
    ap app_of_fields c.subcommand_required-bare.ensures ∙ ap (on_top (λ s. record s { subcommand_required = true })) c.new.ensures.app in
    let verifying = c.in_ok-verifying.ensures verify_shape c.verify.ensures.shape c.verify.ensures.local in
    let so_far : app_of c.in_ok-verifying.verifying ≡ with_subcommand bare_app verify_shape = verifying ∙ ap (λ a. with_subcommand a verify_shape) bare in
    subst (λ (a : App). IfOk c.with_command-2.result (λ x. app_of x ≡ with_subcommand a check_shape)) so_far
    (c.with_command-2.ensures check_shape c.check.ensures.shape c.check.ensures.local)
