use Rattle.std.proofs.Common.{◌∙◌, ◌<◌, ◌≤◌, length, sym, subst, arith}
use Rattle.std.proofs.lemmas.Grind.{common_steps}
use Rattle.pi_tree.specs.Protocols.{protocol_of}
use Rattle.clause_translate.specs.Whole.{IsCommonTo}
use Rattle.cert_writer.specs.Known.{IsKnown}
use Rattle.query_verify.proofs.Each.{one_more, all_answered}
use Rattle.query_verify.proofs.sharing.shared_verdicts.Goals as goal

pub decided_by-requires-clause-given : goal.decided_by-requires-clause-given
decided_by-requires-clause-given g c = subst (λ trees. IsCommonTo (protocol_of c.args.asking.now.protocol.now) trees c.args.given.now) (sym c.each.invariant.bank) c.requires.given

pub decided_by-requires-clause-common : goal.decided_by-requires-clause-common
decided_by-requires-clause-common g c = c.each.invariant.common

pub decided_by-requires-clause-kept : goal.decided_by-requires-clause-kept
decided_by-requires-clause-kept g c = c.each.invariant.kept

pub returns-in_err-answer-clause-bank : goal.returns-in_err-answer-clause-bank
returns-in_err-answer-clause-bank g c = c.decided_by.ensures.bank ∙ c.each.invariant.bank

pub returns-in_err-push-clause-bank : goal.returns-in_err-push-clause-bank
returns-in_err-push-clause-bank g c = c.decided_by.ensures.bank ∙ c.each.invariant.bank

pub each-preserved : goal.each-preserved
each-preserved g c =
    let P = protocol_of c.args.asking.now.protocol.now in
    let within : c.each.index < length P.queries = omega (arith, c.each-test.true, c.count-index-end.ensures) in
    record {
      bank = c.decided_by.ensures.bank ∙ c.each.invariant.bank;
      common = c.decided_by.ensures.common;
      kept = subst (λ trees. IsKnown trees c.decided_by.new.sharing.known) (sym c.decided_by.ensures.bank) c.in_ok-answer.ensures.kept;
      answered = one_more P c.args.asking.now.budget P.queries c.each.index c.each.items.items c.push.new.self.items c.in_ok-answer.answer within c.in_ok-push.ensures.items c.each.invariant.answered c.in_ok-answer.ensures.answers;
    }

pub returns-clause-answers : goal.returns-clause-answers
returns-clause-answers g c =
    let P = protocol_of c.args.asking.now.protocol.now in
    let past : length P.queries ≤ c.each.index = omega (arith, c.each-test.false, c.count-index-end.ensures, c.requires.limits.queries) in
    all_answered P c.args.asking.now.budget P.queries c.each.index c.each.items.items past c.each.invariant.answered

pub returns-clause-bank : goal.returns-clause-bank
returns-clause-bank g c = c.each.invariant.bank

pub each-init : goal.each-init
each-init g c = grind (arith, common_steps)
