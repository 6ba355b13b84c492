use Rattle.std.proofs.Common.{codes, refl}
use Rattle.clap.specs.Words.{found_of}
use Rattle.command_words.proofs.Reading.{text_read}
use Rattle.command_words.proofs.check_requested.Goals as goal

pub returns-in_err-get_str : goal.returns-in_err-get_str
returns-in_err-get_str c =
    let file = text_read (found_of c.args.given.now) (codes "file") _ _ c.get_str.ensures (c.in_err-get_str.was) in
    rw (c.from_residual.ensures, file) refl

pub returns-in_err-get_str-2 : goal.returns-in_err-get_str-2
returns-in_err-get_str-2 c =
    let file = text_read (found_of c.args.given.now) (codes "file") _ _ c.get_str.ensures (c.in_ok-get_str.was) in
    let report = text_read (found_of c.args.given.now) (codes "report") _ _ c.get_str-2.ensures (c.in_err-get_str-2.was) in
    rw (c.from_residual-in_err-get_str-2.ensures, file, report) refl

pub returns : goal.returns
returns c =
    let file = text_read (found_of c.args.given.now) (codes "file") _ _ c.get_str.ensures (c.in_ok-get_str.was) in
    let report = text_read (found_of c.args.given.now) (codes "report") _ _ c.get_str-2.ensures (c.in_ok-get_str-2.was) in
    rw (file, report) refl
