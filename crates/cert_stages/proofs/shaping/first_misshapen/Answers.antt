use Rattle.std.proofs.Common.{◌∙◌, ◌+◌, ◌≤◌, drop, length, sym, rules, arith}
use Rattle.std.proofs.lemmas.Bool.{false≢true}
use Rattle.std.proofs.lemmas.List.{length-map}
use Rattle.clause_form.specs.Seen.{clause_at}
use Rattle.clause_form.specs.Fit.{clauses_at}
use Rattle.clause_form.proofs.Walks.{clause_known_at}
use Rattle.cert_stages.specs.Answers.{numbered_at}
use Rattle.cert_stages.proofs.Fitting.{clause_at_index}
use Rattle.cert_stages.proofs.Walking.{with_number, clause_next, none_ahead, look_begins, look_goes_on, look_fails, look_ends}
use Rattle.cert_stages.proofs.shaping.first_misshapen.Goals as goal

pub each-init : goal.each-init
each-init g c = look_begins c.args.arguments (numbered_at (g.B.Bank.trees c.args.bank.now) c.args.clauses.now)

pub is_shaped-requires : goal.is_shaped-requires
is_shaped-requires g c = clause_known_at (g.B.Bank.trees c.args.bank.now) c.args.clauses.now c.each.k c.index-clauses-k.result c.index-clauses-k.is c.requires c.each-test.true

pub returns-then-not-branch : goal.returns-then-not-branch
returns-then-not-branch g c =
    let all = g.B.Bank.trees c.args.bank.now in
    let cs = c.args.clauses.now in
    let ahead = clause_next (clauses_at all cs) c.each.k (clause_at all c.index-clauses-k.result) (clause_at_index all cs c.each.k c.index-clauses-k.result c.index-clauses-k.is c.each-test.true) in
    look_fails c.args.arguments (numbered_at all cs) (drop c.each.k (numbered_at all cs)) _ (with_number (c.each.k + 1) (clause_at all c.index-clauses-k.result)) ahead (λ shape. false≢true (sym c.if-not-branch.true ∙ c.in_ok-is_shaped.ensures.1 shape)) c.each.invariant

pub each-preserved : goal.each-preserved
each-preserved g c =
    let all = g.B.Bank.trees c.args.bank.now in
    let cs = c.args.clauses.now in
    let ahead = clause_next (clauses_at all cs) c.each.k (clause_at all c.index-clauses-k.result) (clause_at_index all cs c.each.k c.index-clauses-k.result c.index-clauses-k.is c.each-test.true) in
    look_goes_on c.args.arguments (numbered_at all cs) (drop c.each.k (numbered_at all cs)) _ (with_number (c.each.k + 1) (clause_at all c.index-clauses-k.result)) ahead (c.in_ok-is_shaped.ensures.0 (search rules)) c.each.invariant

pub returns : goal.returns
returns g c =
    let all = g.B.Bank.trees c.args.bank.now in
    let cs = c.args.clauses.now in
    let past : length (clauses_at all cs) ≤ c.each.k = omega (arith, c.each-test.false, length-map cs (clause_at all)) in
    look_ends c.args.arguments (numbered_at all cs) (drop c.each.k (numbered_at all cs)) (none_ahead 1 (clauses_at all cs) c.each.k past) c.each.invariant
