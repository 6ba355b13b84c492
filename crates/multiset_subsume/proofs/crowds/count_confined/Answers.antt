use Rattle.std.proofs.Common.{map, arith}
use Rattle.std.proofs.lemmas.Grind.{common_steps}
use Rattle.clause_form.specs.Facts.{fact_of}
use Rattle.unify_match.specs.Seen.{seen}
use Rattle.clause_form.specs.Seen.{fact_at}
use Rattle.spec_placements.specs.Crowds.{IsConfined}
use Rattle.fact_placing.specs.Boards.{facts_at}
use Rattle.fact_placing.proofs.Putting.{known_ref}
use Rattle.multiset_subsume.proofs.Keeping.{as_before-trans, as_back, placing_as}
use Rattle.fact_placing.proofs.Listing.{unref}
use Rattle.multiset_subsume.proofs.Confining.{confined_on}
use Rattle.multiset_subsume.proofs.crowds.count_confined.Goals as goal

pub fits_only-requires-clause-fact : goal.fits_only-requires-clause-fact
fits_only-requires-clause-fact g c = known_ref (g.B.Bank.trees c.args.board.now.bank.now) c.args.unplaced.now c.each.fact-index c.fact-item.result c.fact-item.is c.requires.facts c.each-test.true

pub each-preserved : goal.each-preserved
each-preserved g c =
    let all = g.B.Bank.trees c.args.board.now.bank.now in
    let hyps = map fact_of c.args.board.now.hyps.now in
    let f = c.fact-item.result in
    let old = c.args.placing.now.binds.pairs in
    let taken = c.args.placing.now.taken.items in
    record {
      same = as_before-trans old c.each.placing.binds.pairs c.fits_only.new.placing.binds.pairs taken c.each.placing.taken.items c.fits_only.new.placing.taken.items c.each.invariant.same c.fits_only.ensures.same;
      few = omega (arith, c.each.invariant.few, c.one_if.ensures.at_most);
      confined = confined_on all hyps old taken c.args.area.now c.args.unplaced.now c.each.fact-index c.each.count c.one_if.result f c.in_ok-fits_only.field-0 c.each-test.true c.fact-item.is
          (λ e. as_back (λ pairs flags. IsConfined (seen all pairs) flags (facts_at all hyps) c.args.area.now (fact_at all (unref f))) old c.each.placing.binds.pairs taken c.each.placing.taken.items c.each.invariant.same (c.in_ok-fits_only.ensures.confined e))
          c.one_if.ensures.is c.each.invariant.confined;
    }

pub fits_only-requires-clause-placing : goal.fits_only-requires-clause-placing
fits_only-requires-clause-placing g c = placing_as (g.B.Bank.trees c.args.board.now.bank.now) (map fact_of c.args.board.now.hyps.now) c.args.placing.now.binds.pairs c.each.placing.binds.pairs c.args.placing.now.taken.items c.each.placing.taken.items c.each.invariant.same c.requires.placing

pub returns-clause-confined : goal.returns-clause-confined
returns-clause-confined g c = grind (arith, common_steps)
