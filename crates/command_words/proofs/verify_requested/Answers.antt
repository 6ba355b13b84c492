use Rattle.std.proofs.Common.{codes, refl, ◌∙◌}
use Rattle.clap.specs.Words.{found_of}
use Rattle.command_words.proofs.Reading.{number_read, text_read}
use Rattle.command_words.proofs.verify_requested.Goals as goal

pub returns-in_err-get_str : goal.returns-in_err-get_str
returns-in_err-get_str c =
    let file = text_read (found_of c.args.given.now) (codes "file") _ _ c.get_str.ensures (c.in_err-get_str.was) in
    rw (c.from_residual.ensures, file) refl

pub returns-in_err-get_one : goal.returns-in_err-get_one
returns-in_err-get_one c =
    let file = text_read (found_of c.args.given.now) (codes "file") _ _ c.get_str.ensures (c.in_ok-get_str.was) in
    let budget = number_read (found_of c.args.given.now) (codes "budget") c.get_one.result c.get_one.ensures.none c.get_one.ensures.value in
    let none = budget ∙ c.in_err-get_one.was in
    rw (c.from_residual-in_err-get_one.ensures, file, none) refl

pub returns-in_err-get_one-2 : goal.returns-in_err-get_one-2
returns-in_err-get_one-2 c =
    let file = text_read (found_of c.args.given.now) (codes "file") _ _ c.get_str.ensures (c.in_ok-get_str.was) in
    let budget = number_read (found_of c.args.given.now) (codes "budget") c.get_one.result c.get_one.ensures.none c.get_one.ensures.value in
    let given = budget ∙ c.in_ok-get_one.was in
    let format = number_read (found_of c.args.given.now) (codes "format") c.get_one-2.result c.get_one-2.ensures.none c.get_one-2.ensures.value in
    let none = format ∙ c.in_err-get_one-2.was in
    rw (c.from_residual-in_err-get_one-2.ensures, file, given, none) refl

pub returns : goal.returns
returns c =
    let file = text_read (found_of c.args.given.now) (codes "file") _ _ c.get_str.ensures (c.in_ok-get_str.was) in
    let budget = number_read (found_of c.args.given.now) (codes "budget") c.get_one.result c.get_one.ensures.none c.get_one.ensures.value in
    let given = budget ∙ c.in_ok-get_one.was in
    let format = number_read (found_of c.args.given.now) (codes "format") c.get_one-2.result c.get_one-2.ensures.none c.get_one-2.ensures.value in
    let chosen = format ∙ c.in_ok-get_one-2.was in
    rw (file, given, chosen) refl
