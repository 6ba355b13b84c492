use Rattle.std.proofs.Common.{◌≡◌, ◌<◌, length, get_or, refl, subst, arith}
use Rattle.std.proofs.lemmas.Option.{slice_get_read, slice_get-get_or}
use Rattle.protocol_text.specs.declared.questions.Subject.{Subject}
use Rattle.protocol_text.specs.declared.questions.Subject.TheVariants.{Event}
use Rattle.hx.specs.Noted.{AreNoted}
use Rattle.hx.proofs.Noting.{none_noted, one_more_noted}
use Rattle.hx.proofs.impossible.note_proved.Goals as goal

pub loop-index-init : goal.loop-index-init
loop-index-init c = none_noted c.args.subjects.now c.args.answers.now c.args.found.now

pub loop-index-preserved : goal.loop-index-preserved
loop-index-preserved c =
    let within : c.loop-index.index < length c.args.subjects.now = omega arith in
    let answered : c.loop-index.index < length c.args.answers.now = omega arith in
    let subject : Subject = get_or c.args.subjects.now c.loop-index.index (Event 0) in
    one_more_noted c.args.subjects.now c.args.answers.now c.loop-index.index subject c.index-answers-index.result c.args.found.now c.loop-index.found c.note.new.found
    (slice_get-get_or c.args.subjects.now c.loop-index.index (Event 0) within)
    (slice_get_read c.args.answers.now (length c.args.answers.now) c.loop-index.index c.index-answers-index.result refl answered c.index-answers-index.is) c.loop-index.invariant c.in_ok-note.ensures

pub returns : goal.returns
returns c =
    let all : c.loop-index.index ≡ length c.args.subjects.now = omega arith in
    subst (λ n. AreNoted n c.args.subjects.now c.args.answers.now c.args.found.now c.loop-index.found) all c.loop-index.invariant
