use Rattle.std.proofs.Common.{◌-◌, Some, None, arith}
use Rattle.spec_saturation.specs.Key.{key}
use Rattle.clause_form.specs.Seen.{clause_at}
use Rattle.clause_form.proofs.Fit.{clause_fit_at}
use Rattle.log_walks.proofs.Fitting.{walked_fit, walked_listed, walked_within}
use Rattle.log_walks.proofs.Giving.{given_count, given_number}
use Rattle.log_walks.proofs.Stepping.{given_step, given_next, given_done, given_made}
use Rattle.log_walks.proofs.saturating.offer_given.Goals as goal

pub offer-requires-clause-entries : goal.offer-requires-clause-entries
offer-requires-clause-entries g c = walked_fit (g.B.Bank.trees c.args.bank.now) g.task c.each.walk (key 0 0 c.each.k) c.each.invariant.walked

pub offer-requires-clause-listed : goal.offer-requires-clause-listed
offer-requires-clause-listed g c = walked_listed (g.B.Bank.trees c.args.bank.now) g.task c.each.walk (key 0 0 c.each.k) c.each.invariant.walked

pub offer-requires-clause-clause : goal.offer-requires-clause-clause
offer-requires-clause-clause g c = clause_fit_at (g.B.Bank.trees c.args.bank.now) c.args.given.now (c.each.k - 1) c.index-given-k.result c.index-given-k.is c.requires.1.1.0 (omega arith)

pub offer-requires-clause-within : goal.offer-requires-clause-within
offer-requires-clause-within g c = walked_within (g.B.Bank.trees c.args.bank.now) g.task c.each.walk (key 0 0 c.each.k) c.each.invariant.walked

pub returns-in-Some : goal.returns-in-Some
returns-in-Some g c =
    let all = g.B.Bank.trees c.args.bank.now in
    let size = given_count all c.args.given.now g.task c.requires.1.0 in
    given_step all g.task c.each.walk c.offer.new.walk c.each.k (clause_at all c.index-given-k.result) (Some c.in-Some.due) c.each.invariant.walked (omega (arith, size)) (given_number all c.args.given.now g.task c.each.k c.index-given-k.result c.requires.1.0 c.index-given-k.is c.each.invariant.some (omega arith)) c.in_ok-due.ensures.kept c.in_ok-due.ensures.listed
    (given_made all c.each.walk c.offer.new.walk c.each.k (clause_at all c.index-given-k.result) c.in_ok-due.field-0 (Some c.in-Some.due) c.in-Some.is c.in_ok-due.ensures.made)

pub each-preserved : goal.each-preserved
each-preserved g c =
    let all = g.B.Bank.trees c.args.bank.now in
    let size = given_count all c.args.given.now g.task c.requires.1.0 in
    record {
      some = omega arith;
      within = omega arith;
      walked = given_next all g.task c.offer.new.walk c.each.k (given_step all g.task c.each.walk c.offer.new.walk c.each.k (clause_at all c.index-given-k.result) None c.each.invariant.walked (omega (arith, size)) (given_number all c.args.given.now g.task c.each.k c.index-given-k.result c.requires.1.0 c.index-given-k.is c.each.invariant.some (omega arith)) c.in_ok-due.ensures.kept c.in_ok-due.ensures.listed
          (given_made all c.each.walk c.offer.new.walk c.each.k (clause_at all c.index-given-k.result) c.in_ok-due.field-0 None c.in-None.is c.in_ok-due.ensures.made));
    }

pub returns : goal.returns
returns g c =
    let all = g.B.Bank.trees c.args.bank.now in
    let size = given_count all c.args.given.now g.task c.requires.1.0 in
    given_done all g.task c.each.walk c.each.k (omega (arith, size, c.each.invariant.within)) c.each.invariant.walked
