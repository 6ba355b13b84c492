use Rattle.std.proofs.Common.{◌≡◌, ◌∙◌, List, IfOk, length, ap, sym, subst, rules, arith}
use Rattle.std.proofs.lemmas.List.{length-map}
use Rattle.spec_terms.specs.Term.{Term}
use Rattle.spec_clauses.specs.Fact.{Clause}
use Rattle.spec_certificates.specs.Certificate.{Certificate, numbered_from}
use Rattle.spec_certificates.specs.Ruling.{IsRuledBy}
use Rattle.pi_tree.specs.Protocols.{protocol_of}
use Rattle.query_derive.specs.GoalRows.{OfQuery}
use Rattle.term_tree.proofs.BankLaws.{Grows_same, Grows_trans}
use Rattle.clause_form.specs.Fit.{AreFit, clauses_at}
use Rattle.clause_form.specs.Seen.{clause_at, IdClause}
use Rattle.cert_stages.specs.Answers.{AreRight}
use Rattle.cert_checker.specs.Reached.{HasRights}
use Rattle.cert_checker.specs.Rulings.{ruling_of}
use Rattle.cert_stages.proofs.Lowered.{lowered_fit}
use Rattle.cert_checker.proofs.checking.check_lowered.Goals as goal

pub check_right-requires-clause-fit : goal.check_right-requires-clause-fit
check_right-requires-clause-fit g c =
    let mid = g.B.Bank.trees c.low_clauses.new.bank in
    let same : c.deref.result.now ≡ c.in_ok-low.low = search rules in
    subst (λ (cs : List IdClause). AreFit mid cs) (sym same) (lowered_fit (g.B.Bank.trees c.args.bank.now) mid c.in_ok-low.low c.args.checker.now.clauses.now c.requires.normal c.in_ok-low.ensures.names c.in_ok-low.ensures.low)

pub check_right-requires-clause-as_many : goal.check_right-requires-clause-as_many
check_right-requires-clause-as_many g c =
    let old = g.B.Bank.trees c.args.bank.now in
    let mid = g.B.Bank.trees c.low_clauses.new.bank in
    let same : c.deref.result.now ≡ c.in_ok-low.low = search rules in
    omega (arith, c.requires.as_many, ap length same, ap length c.in_ok-low.ensures.names.are, length-map c.in_ok-low.low (clause_at mid), length-map c.args.checker.now.clauses.now (clause_at old))

pub check_right-requires-clause-right : goal.check_right-requires-clause-right
check_right-requires-clause-right g c =
    let mid = g.B.Bank.trees c.low_clauses.new.bank in
    let same : c.deref.result.now ≡ c.in_ok-low.low = search rules in
    subst (λ (clauses : List (Clause Term)). AreRight c.args.checker.now.numbers.now (numbered_from 1 clauses)) (sym (ap (clauses_at mid) same ∙ c.in_ok-low.ensures.names.are)) c.requires.right

pub returns-clause-ruled : goal.returns-clause-ruled
returns-clause-ruled g c =
    let mid = g.B.Bank.trees c.low_clauses.new.bank in
    let checker = c.args.checker.now in
    let P = protocol_of checker.protocol.now in
    let same : c.deref.result.now ≡ c.in_ok-low.low = search rules in
    subst (λ (clauses : List (Clause Term)). let cert : Certificate = record { clauses = clauses; rows = checker.rows.now; goals = checker.goals.now } in IfOk c.check_right.result (λ ruling. OfQuery P checker.query (λ q. HasRights checker.numbers.now q cert → IsRuledBy checker.numbers.now P q cert (ruling_of ruling))))
    (ap (clauses_at mid) same ∙ c.in_ok-low.ensures.names.are) c.check_right.ensures.ruled

pub returns-clause-grows : goal.returns-clause-grows
returns-clause-grows g c =
    let old = g.B.Bank.trees c.args.bank.now in
    let mid = g.B.Bank.trees c.low_clauses.new.bank in
    let new = g.B.Bank.trees c.check_right.new.bank in
    Grows_trans old mid new c.low_clauses.ensures.grows (Grows_same mid new c.check_right.ensures.bank)
