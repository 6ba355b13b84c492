use Rattle.std.proofs.Common.{◌≡◌, ◌∙◌, ap, subst}
use Rattle.std.specs.Prelude.{IfOk}
use Rattle.clap.specs.Words.{App, app_of, with_subcommand}
use Rattle.command_words.specs.Commands.{list_shape, replay_shape, ring_shape, verdicts_app}
use Rattle.command_words.proofs.commands.program.Goals as goal

pub returns : goal.returns
returns c =
    let listed = c.in_ok-listing.ensures list_shape c.list.ensures.shape c.list.ensures.local in
    let replayed = c.in_ok-replaying.ensures replay_shape c.replay.ensures.shape c.replay.ensures.local in
    let so_far : app_of c.in_ok-replaying.replaying ≡ with_subcommand (with_subcommand verdicts_app list_shape) replay_shape =
    replayed ∙ ap (λ a. with_subcommand a replay_shape) (listed ∙ ap (λ a. with_subcommand a list_shape) c.in_ok-verdicts.ensures) in
    subst (λ (a : App). IfOk c.with_command-3.result (λ x. app_of x ≡ with_subcommand a ring_shape)) so_far
    (c.with_command-3.ensures ring_shape c.ring.ensures.shape c.ring.ensures.local)
