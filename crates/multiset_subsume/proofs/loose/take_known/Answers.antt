use Rattle.std.proofs.Common.{◌≡◌, ◌∙◌, ◌≤◌, Bool, List, [], ◌∷◌, Some, true, false, ap, sym, subst, refl, map, length, set, get_or, arith}
use Rattle.std.specs.Prelude.{slice_get}
use Rattle.std.proofs.lemmas.Bool.{false≢true}
use Rattle.std.proofs.lemmas.Grind.{common_steps}
use borrow.Author.Count.{below_more}
use Rattle.spec_clauses.specs.Fact.{Att}
use Rattle.term_tree.specs.Bank.{tree_at}
use Rattle.clause_form.specs.Facts.{fact_of}
use Rattle.clause_form.specs.Seen.{fact_at}
use Rattle.clause_form.proofs.Walks.{fact_known_at}
use Rattle.spec_placements.specs.LooseParts.{Removes}
use Rattle.spec_placements.proofs.Removing.{removes_one, lacking}
use Rattle.fact_placing.specs.Boards.{facts_at}
use Rattle.fact_placing.proofs.Putting.{there_at, length_at, same_there}
use Rattle.multiset_subsume.proofs.Removal.{lacks}
use Rattle.multiset_subsume.proofs.loose.take_known.Goals as goal

pub is_free-requires-clause-fact : goal.is_free-requires-clause-fact
is_free-requires-clause-fact g c = fact_known_at (g.B.Bank.trees c.args.bank.now) c.args.hyps.now c.each.p c.index-hyps-p.result c.index-hyps-p.is c.requires.hyps c.each-test.true

pub returns-then-is_free : goal.returns-then-is_free
returns-then-is_free g c =
    let all = g.B.Bank.trees c.args.bank.now in
    let H = facts_at all (map fact_of c.args.hyps.now) in
    let y = Att c.args.phase (tree_at all c.args.term) in
    let is = c.if-is_free.ensures.0 refl in
    let same = c.each.invariant.same in
    let free : get_or c.args.taken.now c.each.p false ≡ false = subst (λ (flags : List Bool). get_or flags c.each.p false ≡ false) same is.0 in
    let stands = there_at all c.args.hyps.now c.each.p c.index-hyps-p.result c.index-hyps-p.is c.each-test.true ∙ ap Some is.1 in
    subst (λ (flags : List Bool). Removes H c.args.taken.now flags (y ∷ [])) (ap (λ (flags : List Bool). set flags c.each.p true) (sym same)) (removes_one H c.args.taken.now c.each.p y c.requires.flags free stands)

pub each-preserved : goal.each-preserved
each-preserved g c =
    let all = g.B.Bank.trees c.args.bank.now in
    let H = facts_at all (map fact_of c.args.hyps.now) in
    let y = Att c.args.phase (tree_at all c.args.term) in
    let there = there_at all c.args.hyps.now c.each.p c.index-hyps-p.result c.index-hyps-p.is c.each-test.true in
    let here : get_or c.args.taken.now c.each.p false ≡ false → slice_get H c.each.p ≡ Some y → ⊥ = λ free stands. false≢true (c.if-is_free.ensures.1 (subst (λ (flags : List Bool). get_or flags c.each.p false ≡ false) (sym c.each.invariant.same) free, same_there H c.each.p (fact_at all (fact_of c.index-hyps-p.result)) y there stands)) in
    record {
      same = c.each.invariant.same;
      before = below_more (λ k. get_or c.args.taken.now k false ≡ false → slice_get H k ≡ Some y → ⊥) c.each.p c.each.invariant.before here;
    }

pub returns : goal.returns
returns g c =
    let all = g.B.Bank.trees c.args.bank.now in
    let H = facts_at all (map fact_of c.args.hyps.now) in
    let y = Att c.args.phase (tree_at all c.args.term) in
    let past : length H ≤ c.each.p = omega (arith, length_at all c.args.hyps.now, c.each-test.false) in
    lacking H c.args.taken.now y c.requires.flags (lacks H c.args.taken.now y c.each.p past c.each.invariant.before)

pub bounds-taken-p : goal.bounds-taken-p
bounds-taken-p g c = grind (arith, common_steps)

pub bounds-taken-p-then-is_free : goal.bounds-taken-p-then-is_free
bounds-taken-p-then-is_free g c = grind (arith, common_steps)
