use Rattle.std.proofs.Common.{◌∙◌, ◌≤◌, length, ap, arith}
use Rattle.std.proofs.lemmas.List.{length-map}
use Rattle.clause_form.specs.Fit.{clauses_at}
use Rattle.clause_form.specs.Seen.{clause_at}
use Rattle.cert_stages.specs.Numbers.{number_for}
use Rattle.cert_stages.proofs.Numbers.{numbered_on, numbered_all}
use Rattle.cert_stages.proofs.Fitting.{clause_at_index}
use Rattle.cert_stages.proofs.Lowered.{normal_at}
use Rattle.cert_stages.proofs.choosing.numbers_for.Goals as goal

pub number_for-requires : goal.number_for-requires
number_for-requires g c = normal_at (g.B.Bank.trees c.args.bank.now) c.args.clauses.now c.each.k c.index-clauses-k.result c.index-clauses-k.is c.requires c.each-test.true

pub each-preserved : goal.each-preserved
each-preserved g c =
    let all = g.B.Bank.trees c.args.bank.now in
    let cs = c.args.clauses.now in
    numbered_on (clauses_at all cs) c.args.said.now c.each.k c.each.numbers.items c.each.invariant (clause_at all c.index-clauses-k.result) c.push.new.self.items c.number_for.result (clause_at_index all cs c.each.k c.index-clauses-k.result c.index-clauses-k.is c.each-test.true) (c.number_for.ensures ∙ ap (number_for (clause_at all c.index-clauses-k.result)) c.said_of.ensures) c.in_ok-push.ensures.items

pub returns : goal.returns
returns g c =
    let all = g.B.Bank.trees c.args.bank.now in
    let cs = c.args.clauses.now in
    let past : length (clauses_at all cs) ≤ c.each.k = omega (arith, c.each-test.false, length-map cs (clause_at all)) in
    numbered_all (clauses_at all cs) c.args.said.now c.each.k c.each.numbers.items c.each.invariant past
