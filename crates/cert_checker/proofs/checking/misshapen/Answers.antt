use Rattle.std.proofs.Common.{◌≡◌, ℕ, Option, None, List, sym, subst}
use Rattle.spec_terms.specs.Term.{Term}
use Rattle.spec_certificates.specs.Certificate.{bad_arguments}
use Rattle.pi_tree.specs.Protocols.{protocol_of}
use Rattle.query_derive.specs.GoalRows.{OfQuery}
use Rattle.query_derive.proofs.Searching.{if_ok_map}
use Rattle.clause_form.specs.Seen.{AreClausesIn}
use Rattle.cert_stages.specs.Answers.{numbered_at}
use Rattle.cert_stages.specs.Shaping.{AreShaped}
use Rattle.cert_stages.specs.Lowering.{AreNormalIn}
use Rattle.cert_stages.proofs.Fitting.{shaped_normal}
use Rattle.cert_checker.proofs.checking.misshapen.Goals as goal

pub first_misshapen-requires : goal.first_misshapen-requires
first_misshapen-requires g c = subst (λ (all : List Term). AreClausesIn all c.args.claim.now.clauses.now) (sym c.goal_arguments.ensures.bank) c.requires.known

pub returns-clause-told : goal.returns-clause-told
returns-clause-told g c =
    let old = g.B.Bank.trees c.args.bank.now in
    let mid = g.B.Bank.trees c.goal_arguments.new.bank in
    let cs = c.args.claim.now.clauses.now in
    let arguments = c.in_ok-arguments.arguments in
    if_ok_map c.first_misshapen.result (λ found. AreShaped arguments (numbered_at mid cs) found) (λ found. OfQuery (protocol_of c.args.claim.now.protocol.now) c.args.claim.now.query (λ q. AreShaped (bad_arguments q) (numbered_at old cs) found))
    (λ found told q asked.
    subst (λ n. AreShaped n (numbered_at old cs) found) (c.in_ok-arguments.ensures.count q asked)
    (subst (λ (all : List Term). AreShaped arguments (numbered_at all cs) found) c.goal_arguments.ensures.bank told)) c.first_misshapen.ensures

pub returns-clause-normal : goal.returns-clause-normal
returns-clause-normal g c =
    let mid = g.B.Bank.trees c.goal_arguments.new.bank in
    let cs = c.args.claim.now.clauses.now in
    let arguments = c.in_ok-arguments.arguments in
    let known = subst (λ (all : List Term). AreClausesIn all cs) (sym c.goal_arguments.ensures.bank) c.requires.known in
    if_ok_map c.first_misshapen.result (λ found. AreShaped arguments (numbered_at mid cs) found) (λ found. found ≡ None → AreNormalIn (g.B.Bank.trees c.args.bank.now) cs)
    (λ found told none.
    subst (λ (all : List Term). AreNormalIn all cs) c.goal_arguments.ensures.bank
    (shaped_normal mid arguments 1 cs known (subst (λ (o : Option ℕ). AreShaped arguments (numbered_at mid cs) o) none told))) c.first_misshapen.ensures
