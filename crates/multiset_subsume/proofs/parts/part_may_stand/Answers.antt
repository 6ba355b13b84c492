use Rattle.std.proofs.Common.{◌≡◌, List, map, subst, sym, Bor}
use Rattle.spec_clauses.specs.Inclusion.{IsWithin}
use Rattle.unify_match.specs.Seen.{seen}
use Rattle.clause_form.specs.declared.facts.Fact.{Fact}
use Rattle.clause_form.specs.Facts.{fact_of}
use Rattle.clause_form.specs.Seen.{AreFactsIn}
use Rattle.spec_placements.specs.Placing.{CanPlace, HoldsFrom}
use Rattle.fact_placing.specs.Boards.{facts_at}
use Rattle.fact_placing.proofs.Listing.{unref}
use Rattle.multiset_subsume.proofs.Parting.{within_known, nothing_left, part_placed, at_none}
use Rattle.multiset_subsume.proofs.parts.part_may_stand.Goals as goal

pub can_place-requires-clause-facts : goal.can_place-requires-clause-facts
can_place-requires-clause-facts g c =
    let all = g.B.Bank.trees c.args.board.now.bank.now in
    let same : c.deref.result.now ≡ c.in_ok-part.part.items = c.deref.ensures.value in
    subst (λ (fs : List (Bor Fact)). AreFactsIn all (map unref fs)) (sym same) (within_known all (map unref c.in_ok-part.part.items) (map unref c.args.facts.now) c.in_ok-part.ensures c.requires.facts)

pub can_place-requires-clause-linked : goal.can_place-requires-clause-linked
can_place-requires-clause-linked g c = tt

pub can_place-requires-clause-ending : goal.can_place-requires-clause-ending
can_place-requires-clause-ending g c = record { diffs = tt; kept_in = tt; numbered = tt }

pub returns-clause-refused : goal.returns-clause-refused
returns-clause-refused g c e can =
    let all = g.B.Bank.trees c.args.board.now.bank.now in
    let hyps = map fact_of c.args.board.now.hyps.now in
    let pairs = c.args.placing.now.binds.pairs in
    let taken = c.args.placing.now.taken.items in
    let facts = map unref c.args.facts.now in
    let part = map unref c.deref.result.now in
    let same : c.deref.result.now ≡ c.in_ok-part.part.items = c.deref.ensures.value in
    let within : IsWithin part facts = subst (λ (fs : List (Bor Fact)). IsWithin (map unref fs) facts) (sym same) c.in_ok-part.ensures in
    at_none (CanPlace (seen all pairs) taken (facts_at all hyps) (facts_at all part) nothing_left → ⊥) c.in_ok-can_place.field-0 (λ row. HoldsFrom (seen all pairs) taken (facts_at all hyps) (facts_at all part) nothing_left row.items) c.in-None.is c.in_ok-can_place.ensures.outcome
    (part_placed all hyps c.args.board.now.ending pairs taken facts part within can)

pub returns-in-Some-clause-same : goal.returns-in-Some-clause-same
returns-in-Some-clause-same g c = c.can_place.ensures.same

pub returns-clause-same : goal.returns-clause-same
returns-clause-same g c = c.can_place.ensures.same
