use Rattle.std.proofs.Common.{◌≡◌, ◌<◌, ◌≤◌, length, get_or, refl, rules}
use Rattle.std.proofs.lemmas.Option.{slice_get_read}
use Rattle.cert_stages.proofs.Numbers.{said_there, said_nowhere}
use Rattle.cert_stages.proofs.choosing.said_of.Goals as goal

pub returns-in-None : goal.returns-in-None
returns-in-None c =
    let past : length c.args.said.now ≤ c.args.place = search rules in
    said_nowhere c.args.said.now c.args.place past

pub returns-in-Some : goal.returns-in-Some
returns-in-Some c =
    let within : c.args.place < length c.args.said.now = search rules in
    let same : c.in-Some.number.now ≡ get_or c.args.said.now c.args.place c.in-Some.number.now = search rules in
    said_there c.args.said.now c.args.place c.in-Some.number.now (slice_get_read c.args.said.now (length c.args.said.now) c.args.place c.in-Some.number.now refl within same)
