use Rattle.std.proofs.Common.{refl, inl, arith}
use Rattle.clause_form.proofs.Fit.{resolvents_fit, clause_fit_at}
use Rattle.log_walks.proofs.Fitting.{walked_fit, walked_listed, walked_within}
use Rattle.log_walks.proofs.Pairing.{offering_begins, offering_walked, offering_step, offering_due, offering_ends, step_made, offer_kept, more_on}
use Rattle.log_walks.proofs.pairs.offer_resolvents.Goals as goal

pub each-init : goal.each-init
each-init g c =
    let all = g.B.Bank.trees c.args.bank.now in
    let made = c.requires.1.1 in
    record {
      within = omega arith;
      fit = resolvents_fit all c.args.clauses.now made.gives.give.0 made.resolvents made.gives.give.2 made.name made.low;
      offering = offering_begins all g.task c.args.walk.now c.args.pair c.args.clauses.now made c.requires.1.0;
      kept = inl refl;
    }

pub offer-requires-clause-entries : goal.offer-requires-clause-entries
offer-requires-clause-entries g c =
    let all = g.B.Bank.trees c.args.bank.now in
    walked_fit all g.task c.each.walk _ (offering_walked all g.task c.each.walk c.args.pair c.args.clauses.now c.each.k c.each.invariant.offering)

pub offer-requires-clause-listed : goal.offer-requires-clause-listed
offer-requires-clause-listed g c =
    let all = g.B.Bank.trees c.args.bank.now in
    walked_listed all g.task c.each.walk _ (offering_walked all g.task c.each.walk c.args.pair c.args.clauses.now c.each.k c.each.invariant.offering)

pub offer-requires-clause-clause : goal.offer-requires-clause-clause
offer-requires-clause-clause g c = clause_fit_at (g.B.Bank.trees c.args.bank.now) c.args.clauses.now c.each.k c.index-clauses-k.result c.index-clauses-k.is c.each.invariant.fit c.each-test.true

pub offer-requires-clause-within : goal.offer-requires-clause-within
offer-requires-clause-within g c =
    let all = g.B.Bank.trees c.args.bank.now in
    walked_within all g.task c.each.walk _ (offering_walked all g.task c.each.walk c.args.pair c.args.clauses.now c.each.k c.each.invariant.offering)

pub returns-in-Some-clause-offered : goal.returns-in-Some-clause-offered
returns-in-Some-clause-offered g c =
    let all = g.B.Bank.trees c.args.bank.now in
    offering_due all g.task c.each.walk c.offer.new.walk c.args.pair c.args.clauses.now c.each.k c.index-clauses-k.result c.in-Some.due c.each.invariant.offering c.index-clauses-k.is c.each-test.true
    (step_made all c.each.walk c.offer.new.walk c.args.pair c.each.k c.index-clauses-k.result c.in_ok-due.field-0 _ c.in-Some.is c.in_ok-due.ensures.made)

pub returns-in-Some-clause-entries : goal.returns-in-Some-clause-entries
returns-in-Some-clause-entries g c =
    let all = g.B.Bank.trees c.args.bank.now in
    more_on c.args.walk.now.items.items c.each.walk.items.items c.offer.new.walk.items.items c.each.invariant.kept
    (offer_kept all g.task c.each.walk c.offer.new.walk c.args.pair c.args.clauses.now c.each.k c.index-clauses-k.result c.in_ok-due.field-0 c.each.invariant.offering c.in_ok-due.ensures.made)

pub each-preserved : goal.each-preserved
each-preserved g c =
    let all = g.B.Bank.trees c.args.bank.now in
    record {
      within = omega arith;
      fit = c.each.invariant.fit;
      offering = offering_step all g.task c.each.walk c.offer.new.walk c.args.pair c.args.clauses.now c.each.k c.index-clauses-k.result c.each.invariant.offering c.index-clauses-k.is c.each-test.true c.in_ok-due.ensures.kept c.in_ok-due.ensures.listed
          (step_made all c.each.walk c.offer.new.walk c.args.pair c.each.k c.index-clauses-k.result c.in_ok-due.field-0 _ c.in-None.is c.in_ok-due.ensures.made);
      kept = more_on c.args.walk.now.items.items c.each.walk.items.items c.offer.new.walk.items.items c.each.invariant.kept
          (offer_kept all g.task c.each.walk c.offer.new.walk c.args.pair c.args.clauses.now c.each.k c.index-clauses-k.result c.in_ok-due.field-0 c.each.invariant.offering c.in_ok-due.ensures.made);
    }

pub returns-clause-offered : goal.returns-clause-offered
returns-clause-offered g c =
    let all = g.B.Bank.trees c.args.bank.now in
    offering_ends all g.task c.each.walk c.args.pair c.args.clauses.now c.each.k c.each.invariant.offering (omega (arith, c.each.invariant.within))
