use Rattle.std.proofs.Common.{◌≡◌, ◌∙◌, List, IfOk, sym, subst, rules, arith}
use Rattle.spec_terms.specs.Term.{Term}
use Rattle.spec_clauses.specs.Fact.{Clause}
use Rattle.spec_certificates.specs.Certificate.{CoverRowHolds, numbered_from}
use Rattle.spec_certificates.specs.Ruling.{IsRuledBy}
use Rattle.pi_tree.specs.Protocols.{protocol_of}
use Rattle.query_derive.specs.GoalRows.{OfQuery}
use Rattle.clause_translate.specs.Whole.{IsKept}
use Rattle.clause_translate.specs.declared.whole.Translated.{Translated}
use Rattle.cert_stages.specs.Answers.{numbered_at, AreRight, IsShownSo}
use Rattle.cert_stages.specs.Checked.{cert_in}
use Rattle.cert_checker.specs.Reached.{HasRights, IsTranslatedTo}
use Rattle.cert_checker.specs.Rulings.{ruling_of}
use Rattle.clause_form.specs.Fit.{AreFit, clauses_at}
use Rattle.clause_form.specs.Seen.{IdClause}
use Rattle.clause_form.proofs.Fit.{AreFit-grow, clauses_grow}
use Rattle.term_tree.proofs.BankLaws.{Grows-length}
use Rattle.clause_resolve.proofs.Answering.{as_before}
use Rattle.query_derive.proofs.Searching.{if_ok_map}
use Rattle.cert_checker.proofs.Reaching.{given_fit, given_reached, large_rules}
use Rattle.cert_checker.proofs.checking.check_right.Goals as goal

pub are_covered-covered-requires-clause-fit : goal.are_covered-covered-requires-clause-fit
are_covered-covered-requires-clause-fit g c = AreFit-grow (g.B.Bank.trees c.args.bank.now) (g.B.Bank.trees c.translate.new.bank) c.args.checker.now.clauses.now c.translate.ensures.grows c.requires.fit

pub are_covered-covered-requires-clause-clauses : goal.are_covered-covered-requires-clause-clauses
are_covered-covered-requires-clause-clauses g c =
    let all = g.B.Bank.trees c.translate.new.bank in
    let same : c.as_slice-translated.result.now ≡ c.in-Clauses.given = search rules in
    subst (λ (cs : List IdClause). AreFit all cs) (sym same) (given_fit (protocol_of c.args.checker.now.protocol.now) c.args.checker.now.query all _ c.in_ok-point.ensures.translates c.in-Clauses.given c.in-Clauses.is c.requires.asked.limits)

pub back-requires : goal.back-requires
back-requires g c = omega (arith, c.mark-mark.ensures, Grows-length (g.B.Bank.trees c.args.bank.now) (g.B.Bank.trees c.translate.new.bank) c.translate.ensures.grows)

pub judge-requires-clause-right : goal.judge-requires-clause-right
judge-requires-clause-right g c =
    let back = as_before (g.B.Bank.trees c.args.bank.now) (g.B.Bank.trees c.translate.new.bank) (g.B.Bank.trees c.back.new.self) _ c.translate.ensures.grows c.mark-mark.ensures c.back.ensures in
    subst (λ (all : List Term). AreRight c.args.checker.now.numbers.now (numbered_at all c.args.checker.now.clauses.now)) (sym back) c.requires.right

pub judge-requires-clause-fit : goal.judge-requires-clause-fit
judge-requires-clause-fit g c =
    let back = as_before (g.B.Bank.trees c.args.bank.now) (g.B.Bank.trees c.translate.new.bank) (g.B.Bank.trees c.back.new.self) _ c.translate.ensures.grows c.mark-mark.ensures c.back.ensures in
    subst (λ (all : List Term). AreFit all c.args.checker.now.clauses.now) (sym back) c.requires.fit

pub returns-in-Large-clause-ruled : goal.returns-in-Large-clause-ruled
returns-in-Large-clause-ruled g c = λ q asked shaped.
    large_rules (protocol_of c.args.checker.now.protocol.now) c.args.checker.now.query (g.B.Bank.trees c.translate.new.bank) _ c.in_ok-point.ensures.translates c.in-Large.point c.in-Large.is q asked c.args.checker.now.numbers.now (cert_in (g.B.Bank.trees c.args.bank.now) c.args.checker.now) shaped

pub returns-in-Large-clause-bank : goal.returns-in-Large-clause-bank
returns-in-Large-clause-bank g c = subst (λ (found : Translated). IsKept (g.B.Bank.trees c.args.bank.now) (g.B.Bank.trees c.translate.new.bank) found) c.in-Large.is c.in_ok-point.ensures.large

pub returns-in_ok-shown-in-Clauses-clause-ruled : goal.returns-in_ok-shown-in-Clauses-clause-ruled
returns-in_ok-shown-in-Clauses-clause-ruled g c =
    let P = protocol_of c.args.checker.now.protocol.now in
    let number = c.args.checker.now.query in
    let numbers = c.args.checker.now.numbers.now in
    let old = g.B.Bank.trees c.args.bank.now in
    let cert = cert_in old c.args.checker.now in
    let all = g.B.Bank.trees c.translate.new.bank in
    let cs = c.args.checker.now.clauses.now in
    let given = clauses_at all c.in-Clauses.given in
    let listed : c.as_slice-translated.result.now ≡ c.in-Clauses.given = search rules in
    let seen = clauses_grow old all cs c.translate.ensures.grows c.requires.fit in
    let back = as_before old all (g.B.Bank.trees c.back.new.self) _ c.translate.ensures.grows c.mark-mark.ensures c.back.ensures in
    let of_given = subst (λ (made : List IdClause). IsShownSo (CoverRowHolds (clauses_at all cs)) (numbered_from 1 (clauses_at all made)) cert.rows 0 c.in_ok-shown-in-Clauses.shown) listed c.in_ok-shown-in-Clauses.ensures in
    let shown = subst (λ (clauses : List (Clause Term)). IsShownSo (CoverRowHolds clauses) (numbered_from 1 given) cert.rows 0 c.in_ok-shown-in-Clauses.shown) seen of_given in
    if_ok_map c.judge.result (λ ruling. OfQuery P number (λ q. IsTranslatedTo numbers P q cert given → IsRuledBy numbers P q cert (ruling_of ruling)))
    (λ ruling. OfQuery P number (λ q. HasRights numbers q cert → IsRuledBy numbers P q cert (ruling_of ruling)))
    (λ ruling ruled q asked shaped. ruled q asked (given_reached P number all _ c.in_ok-point.ensures.translates c.in-Clauses.given c.in-Clauses.is q asked numbers cert shaped))
    (subst (λ (ts : List Term). let it = cert_in ts c.args.checker.now in (made : List (Clause Term)) → IsShownSo (CoverRowHolds it.clauses) (numbered_from 1 made) it.rows 0 c.in_ok-shown-in-Clauses.shown
    → IfOk c.judge.result (λ ruling. OfQuery P number (λ q. IsTranslatedTo numbers P q it made → IsRuledBy numbers P q it (ruling_of ruling)))) back c.judge.ensures.ruled given shown)

pub returns-in_ok-shown-in-Clauses-clause-bank : goal.returns-in_ok-shown-in-Clauses-clause-bank
returns-in_ok-shown-in-Clauses-clause-bank g c = c.judge.ensures.bank ∙ as_before (g.B.Bank.trees c.args.bank.now) (g.B.Bank.trees c.translate.new.bank) (g.B.Bank.trees c.back.new.self) _ c.translate.ensures.grows c.mark-mark.ensures c.back.ensures

pub returns-in_err-shown-in-Clauses-clause-bank : goal.returns-in_err-shown-in-Clauses-clause-bank
returns-in_err-shown-in-Clauses-clause-bank g c = as_before (g.B.Bank.trees c.args.bank.now) (g.B.Bank.trees c.translate.new.bank) (g.B.Bank.trees c.back.new.self) _ c.translate.ensures.grows c.mark-mark.ensures c.back.ensures
