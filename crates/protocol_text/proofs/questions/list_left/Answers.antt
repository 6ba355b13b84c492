use Rattle.std.proofs.Common.{◌∙◌, length, sym}
use Rattle.pi_tree.specs.Queries.{query_of}
use Rattle.pi_tree.specs.Protocols.{protocol_of}
use Rattle.protocol_text.proofs.SubjectLists.{one_more_left, no_more_left}
use Rattle.protocol_text.proofs.questions.list_left.Goals as goal

pub returns-in_ok-push : goal.returns-in_ok-push
returns-in_ok-push c =
    let P = protocol_of c.args.protocol.now in
    one_more_left P c.args.all.now.items c.push.new.self.items (length P.events) c.args.index (query_of c.query.result.now) c.in_ok-push.ensures.items c.query.ensures (sym c.has_alternatives.ensures ∙ c.if-has_alternatives.true) c.requires.before

pub returns-else-has_alternatives : goal.returns-else-has_alternatives
returns-else-has_alternatives c =
    let P = protocol_of c.args.protocol.now in
    no_more_left P c.args.all.now.items (length P.events) c.args.index (query_of c.query.result.now) c.query.ensures (sym c.has_alternatives.ensures ∙ c.if-has_alternatives.false) c.requires.before
