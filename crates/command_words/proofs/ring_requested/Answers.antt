use Rattle.std.proofs.Common.{codes, refl, ◌∙◌}
use Rattle.clap.specs.Words.{found_of}
use Rattle.command_words.proofs.Reading.{number_read}
use Rattle.command_words.proofs.ring_requested.Goals as goal

pub returns-in_err-get_one : goal.returns-in_err-get_one
returns-in_err-get_one c =
    let stages = number_read (found_of c.args.given.now) (codes "stages") c.get_one.result c.get_one.ensures.none c.get_one.ensures.value in
    let none = stages ∙ c.in_err-get_one.was in
    rw (c.from_residual.ensures, none) refl

pub returns : goal.returns
returns c =
    let stages = number_read (found_of c.args.given.now) (codes "stages") c.get_one.result c.get_one.ensures.none c.get_one.ensures.value in
    let given = stages ∙ c.in_ok-get_one.was in
    rw given refl
