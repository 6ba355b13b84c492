use Rattle.std.proofs.Common.{◌≡◌, ◌∙◌, ◌<◌, ◌≤◌, [], ◌++◌, length, map, get_or, ap, sym, rc_value, arith}
use Rattle.std.proofs.lemmas.List.{length-map, get_or-map}
use Rattle.spec_terms.specs.Term.{Term}
use Rattle.spec_clauses.specs.Fact.{Clause}
use Rattle.spec_certificate_text.specs.Text.{clause_text}
use Rattle.pi_tree.specs.Protocols.{protocol_of}
use Rattle.call_outcomes.proofs.Lines.{clause_put, clauses_put}
use Rattle.call_outcomes.proofs.text.put_clauses.Goals as goal

pub each-preserved : goal.each-preserved
each-preserved c =
    let P = protocol_of c.args.protocol.now in
    let held = c.deref-clause-items.result.now in
    let i = c.each.clause-index in
    let x = c.clause-item.result in
    let within : i < length (map rc_value held) = omega (arith, c.each-test.true, length-map held rc_value) in
    let at : rc_value x ≡ get_or (map rc_value held) i (rc_value x) = ap rc_value c.clause-item.is ∙ sym (get_or-map rc_value held i x (rc_value x) c.each-test.true) in
    let text = c.in_ok-put_clause.ensures.text ∙ ap (λ (d : Clause Term). c.each.out.items ++ clause_text P d []) c.deref.ensures in
    clause_put P (map rc_value held) i (rc_value x) c.args.out.now.items c.each.out.items c.put_clause.new.out.items c.push.new.self.items c.each.invariant within at text c.in_ok-push.ensures.items

pub returns : goal.returns
returns c =
    let held = c.deref-clause-items.result.now in
    let past : length (map rc_value held) ≤ c.each.clause-index = omega (arith, c.each-test.false, length-map held rc_value) in
    clauses_put (protocol_of c.args.protocol.now) (map rc_value held) c.args.clauses.now c.each.clause-index c.args.out.now.items c.each.out.items (ap (map rc_value) c.deref-clause-items.ensures.value ∙ c.clauses.view_is) c.each.invariant past
