use Rattle.std.proofs.Common.{List, sym, subst, map, MatchBool}
use Rattle.spec_clauses.specs.Fact.{Fact}
use Rattle.spec_terms.specs.Term.{Term}
use Rattle.clause_form.specs.Facts.{fact_of}
use Rattle.unify_match.proofs.SeenLemmas.{AreInBank-at}
use Rattle.spec_placements.specs.LooseParts.{Removes, HasNoRoom}
use Rattle.spec_placements.proofs.Removing.{removes_nothing}
use Rattle.fact_placing.specs.Boards.{facts_at}
use Rattle.multiset_subsume.proofs.Removal.{bound_part, unbound_part}
use Rattle.multiset_subsume.proofs.loose.take_bound.Goals as goal

pub returns-in-None : goal.returns-in-None
returns-in-None g c =
    let all = g.B.Bank.trees c.args.bank.now in
    let H = facts_at all (map fact_of c.args.hyps.now) in
    subst (λ (ys : List (Fact Term)). Removes H c.args.taken.now c.args.taken.now ys) (sym (unbound_part all c.args.binds.now.pairs c.args.loose (sym c.in-None.ensures))) (removes_nothing H c.args.taken.now)

pub take_parts-requires-clause-term : goal.take_parts-requires-clause-term
take_parts-requires-clause-term g c = AreInBank-at (g.B.Bank.trees c.args.bank.now) c.args.binds.now.pairs c.args.loose.variable c.in-Some.term c.requires.bindings.known (sym c.in-Some.ensures)

pub returns-in-Some : goal.returns-in-Some
returns-in-Some g c =
    let all = g.B.Bank.trees c.args.bank.now in
    let H = facts_at all (map fact_of c.args.hyps.now) in
    subst (λ (ys : List (Fact Term)). MatchBool c.take_parts.result (Removes H c.args.taken.now c.take_parts.new.taken ys) (HasNoRoom H c.args.taken.now ys)) (sym (bound_part all c.args.binds.now.pairs c.args.loose c.in-Some.term (sym c.in-Some.ensures))) c.take_parts.ensures
