use Rattle.std.proofs.Common.{◌≡◌, ap, sym, subst, List, length, map, arith, rules}
use Rattle.std.proofs.lemmas.Bool.{MatchBool-at_true, MatchBool-at_false}
use Rattle.std.proofs.lemmas.List.{length-map}
use Rattle.spec_clauses.specs.Fact.{Fact}
use Rattle.term_tree.specs.declared.bank.Id.{Id}
use Rattle.term_tree.proofs.BankLaws.{Grows_refl}
use Rattle.clause_form.specs.Facts.{fact_of}
use Rattle.clause_form.specs.Seen.{AreFactsIn, IsClauseIn, IdClause}
use Rattle.clause_form.proofs.Walks.{fact_known_at}
use Rattle.clause_resolve.specs.Low.{AreLowFacts}
use Rattle.clause_resolve.proofs.Low.{low_terms}
use Rattle.clause_resolve.proofs.Answering.{other_pair_below, other_pair_keeps}
use Rattle.clause_resolve.proofs.Shifting.{selected_within, hypotheses_low, fact_low_at, fact_below}
use Rattle.clause_resolve.proofs.SpendingLaws.{standing}
use Rattle.clause_resolve.proofs.Swapping.{together_without_known, moved_result, moved_unanswered}
use Rattle.clause_resolve.proofs.resolving.resolve_moved.Goals as goal

pub bounds-facts-at : goal.bounds-facts-at
bounds-facts-at g c =
    let hyps_are : map fact_of c.as_slice-facts.result.now ≡ c.args.unsolved.now.hypotheses = search rules in
    selected_within (g.B.Bank.trees c.args.bank.now) c.args.unsolved.now c.as_slice-facts.result.now c.args.at hyps_are c.requires.there

pub offset_bounds-facts-at : goal.offset_bounds-facts-at
offset_bounds-facts-at g c =
    let hyps_are : map fact_of c.as_slice-facts.result.now ≡ c.args.unsolved.now.hypotheses = search rules in
    let within = selected_within (g.B.Bank.trees c.args.bank.now) c.args.unsolved.now c.as_slice-facts.result.now c.args.at hyps_are c.requires.there in
    omega (arith, c.as_slice-facts.type_inv)

pub unify_facts-requires-clause-right : goal.unify_facts-requires-clause-right
unify_facts-requires-clause-right g c =
    let all = g.B.Bank.trees c.args.bank.now in
    let hyps_are : map fact_of c.as_slice-facts.result.now ≡ c.args.unsolved.now.hypotheses = search rules in
    fact_known_at all c.as_slice-facts.result.now c.args.at c.index-facts-at.result c.index-facts-at.is (subst (λ (l : List (Fact Id)). AreFactsIn all l) (sym hyps_are) c.requires.unsolved.hypotheses)
    (selected_within all c.args.unsolved.now c.as_slice-facts.result.now c.args.at hyps_are c.requires.there)

pub unify_facts-requires-clause-ready : goal.unify_facts-requires-clause-ready
unify_facts-requires-clause-ready g c = c.in_ok-binds.ensures.ready (g.B.Bank.trees c.args.bank.now)

pub joined_without-requires : goal.joined_without-requires
joined_without-requires g c =
    let hyps_are : map fact_of c.as_slice-facts.result.now ≡ c.args.unsolved.now.hypotheses = search rules in
    omega (arith, selected_within (g.B.Bank.trees c.args.bank.now) c.args.unsolved.now c.as_slice-facts.result.now c.args.at hyps_are c.requires.there, ap (λ l. length l) hyps_are, length-map c.as_slice-facts.result.now fact_of)

pub found_under-requires-clause-known : goal.found_under-requires-clause-known
found_under-requires-clause-known g c =
    let all = g.B.Bank.trees c.args.bank.now in
    subst (λ (k : IdClause). IsClauseIn all k) (sym c.in_ok-clause.ensures) (together_without_known all c.args.moved.now c.args.unsolved.now c.args.at c.requires.moved c.requires.unsolved)

pub found_under-requires-clause-low : goal.found_under-requires-clause-low
found_under-requires-clause-low g c =
    other_pair_below (g.B.Bank.trees c.args.bank.now) c.args.moved.now.diffs c.args.unsolved.now.diffs c.in_ok-clause.clause.diffs c.requires.moved_low.diffs c.requires.unsolved_low.diffs (ap (λ (k : IdClause). k.diffs) c.in_ok-clause.ensures)

pub found_under-requires-clause-kept : goal.found_under-requires-clause-kept
found_under-requires-clause-kept g c =
    let all = g.B.Bank.trees c.args.bank.now in
    let hyps_are : map fact_of c.as_slice-facts.result.now ≡ c.args.unsolved.now.hypotheses = search rules in
    let low = fact_low_at all c.as_slice-facts.result.now c.args.at c.index-facts-at.result c.index-facts-at.is (subst (λ (l : List (Fact Id)). AreLowFacts all l) (sym hyps_are) (hypotheses_low all c.args.unsolved.now c.requires.unsolved c.requires.unsolved_low))
    (selected_within all c.args.unsolved.now c.as_slice-facts.result.now c.args.at hyps_are c.requires.there) in
    other_pair_keeps all c.unify_facts.new.binds.pairs _ (fact_of c.index-facts-at.result) c.args.moved.now (ap (λ (k : IdClause). k.conclusion) c.moved.view_is) c.unify_facts.ensures.ready c.requires.moved_low.fact (fact_below all (fact_of c.index-facts-at.result) low)
    (MatchBool-at_true _ _ c.if-not-branch.false c.in_ok-unify_facts.ensures.outcome)

pub returns-clause-answer : goal.returns-clause-answer
returns-clause-answer g c = λ solved is_moved.
    let all = g.B.Bank.trees c.args.bank.now in
    let hyps_are : map fact_of c.as_slice-facts.result.now ≡ c.args.unsolved.now.hypotheses = search rules in
    moved_result all (g.B.Bank.trees c.found_under.new.bank) solved c.args.moved.now c.args.unsolved.now c.in_ok-clause.clause c.args.at _ c.as_slice-facts.result.now c.index-facts-at.result (standing all c.unify_facts.new.binds.pairs) c.found_under.result
    (ap (λ (k : IdClause). k.conclusion) c.moved.view_is) hyps_are (selected_within all c.args.unsolved.now c.as_slice-facts.result.now c.args.at hyps_are c.requires.there) c.index-facts-at.is c.in_ok-clause.ensures (low_terms all c.args.unsolved.now c.requires.unsolved_low) c.requires.there
    (MatchBool-at_true _ _ c.if-not-branch.false c.in_ok-unify_facts.ensures.outcome) c.found_under.ensures.found is_moved

pub returns-then-not-branch-clause-answer : goal.returns-then-not-branch-clause-answer
returns-then-not-branch-clause-answer g c = λ solved is_moved.
    let all = g.B.Bank.trees c.args.bank.now in
    let hyps_are : map fact_of c.as_slice-facts.result.now ≡ c.args.unsolved.now.hypotheses = search rules in
    moved_unanswered all solved c.args.moved.now c.args.unsolved.now c.args.at _ c.as_slice-facts.result.now c.index-facts-at.result (ap (λ (k : IdClause). k.conclusion) c.moved.view_is) hyps_are
    (selected_within all c.args.unsolved.now c.as_slice-facts.result.now c.args.at hyps_are c.requires.there) c.index-facts-at.is (low_terms all c.args.unsolved.now c.requires.unsolved_low) c.requires.there (MatchBool-at_false _ _ c.if-not-branch.true c.in_ok-unify_facts.ensures.outcome) is_moved

pub returns-in_err-binds-clause-grows : goal.returns-in_err-binds-clause-grows
returns-in_err-binds-clause-grows g c = Grows_refl (g.B.Bank.trees c.args.bank.now)

pub returns-in_err-unify_facts-clause-grows : goal.returns-in_err-unify_facts-clause-grows
returns-in_err-unify_facts-clause-grows g c = Grows_refl (g.B.Bank.trees c.args.bank.now)

pub returns-then-not-branch-clause-grows : goal.returns-then-not-branch-clause-grows
returns-then-not-branch-clause-grows g c = Grows_refl (g.B.Bank.trees c.args.bank.now)

pub returns-in_err-clause-clause-grows : goal.returns-in_err-clause-clause-grows
returns-in_err-clause-clause-grows g c = Grows_refl (g.B.Bank.trees c.args.bank.now)
