use Rattle.std.proofs.Common.{◌∙◌, [], ◌∷◌, List, map, get_or, ap, subst}
use Rattle.std.proofs.lemmas.List.{map-append, take_all, get_or_default}
use Rattle.pi_tree.specs.Queries.{query_of}
use Rattle.pi_tree.specs.Protocols.{protocol_of}
use Rattle.protocol_text.specs.declared.questions.Subject.{Subject}
use Rattle.protocol_text.specs.declared.questions.Subject.TheVariants.{Event}
use Rattle.protocol_text.specs.Asking.{AreQuestions}
use Rattle.protocol_text.proofs.Proper.{one_more_question}
use Rattle.protocol_text.proofs.questions.questions.Goals as goal

pub question-requires : goal.question-requires
question-requires c =
    let subjects = c.args.subjects.now in
    let index = c.loop-subject.subject-index in
    let subject : Subject = get_or subjects index (Event 0) in
    record { there = c.requires.there subject (index, c.loop-subject-test.true, get_or_default subjects index subject (Event 0) c.loop-subject-test.true) }

pub loop-subject-preserved : goal.loop-subject-preserved
loop-subject-preserved c =
    let subjects = c.args.subjects.now in
    let index = c.loop-subject.subject-index in
    let subject : Subject = get_or subjects index (Event 0) in
    one_more_question (protocol_of c.args.protocol.now) c.args.subjects.now c.loop-subject.subject-index (map query_of c.loop-subject.items.items) (map query_of c.push.new.self.items) subject (query_of c.in_ok-query.query)
    c.loop-subject-test.true (get_or_default subjects index (Event 0) subject c.loop-subject-test.true) (ap (map query_of) c.in_ok-push.ensures.items ∙ map-append query_of c.loop-subject.items.items (c.in_ok-query.query ∷ [])) c.loop-subject.invariant c.in_ok-query.ensures

pub returns : goal.returns
returns c = subst (λ (subjects : List Subject). AreQuestions (protocol_of c.args.protocol.now) subjects (map query_of c.loop-subject.items.items)) (take_all c.loop-subject.subject-index c.args.subjects.now c.loop-subject-test.false) c.loop-subject.invariant
