-- Whether a row holds, once all facts are put along it.
use Rattle.std.proofs.Common.{◌≡◌, ◌↔◌, ◌∙◌, inl, inr, ℕ, pred, ◌≤◌, Bool, true, false, IsTrue, List, [], ◌∷◌, length, map, replicate, refl, ap, sym, subst, arith, Result, Ok, Err, Option, Some, IfOk, MatchBool, MatchOption}
use Rattle.std.specs.List.{AllByRecursion}
use Rattle.std.specs.declared.alloc.AllocError.{AllocError}
use Rattle.std.proofs.lemmas.Bool.{false≢true}
use Rattle.std.proofs.lemmas.List.{length-map}
use Rattle.std.proofs.lemmas.List.Folds.{flat_map-map}
use Rattle.spec_terms.specs.Term.{Term}
use Rattle.spec_terms.specs.Binding.{Binding, bound_to, replaced_once}
use Rattle.spec_clauses.specs.Fact as horn
use Rattle.spec_clauses.specs.Fact.{Att, Mess, Tab, Ev, Mev, Bad, total, fact_size, clause_size}
use Rattle.spec_clauses.specs.Diff.{numbered_diff}
use Rattle.spec_clauses.specs.Norm.{IsNormal}
use Rattle.spec_clauses.specs.Limits.{IsWithinLimit}
use Rattle.spec_clauses.specs.Inclusion.{IsWithin}
use Rattle.spec_clauses.specs.Subsumption.{firm, RowHolds}
use Rattle.spec_clauses.proofs.NormKeeps.{own_norm, normal-numbered}
use Rattle.term_tree.specs.declared.bank.Id.{Id}
use Rattle.unify_match.specs.declared.bound.Bound.{Bound}
use Rattle.unify_match.specs.Seen.{seen}
use Rattle.clause_diffs.specs.Diffs.{DiffOf, diffs_at, AreDiffsIn}
use Rattle.clause_form.specs.Seen.{fact_at, clause_at, IsClauseIn, NameFacts, IdClause}
use Rattle.spec_placements.specs.Takes.{left}
use Rattle.spec_placements.specs.Placing as asking
use Rattle.spec_placements.specs.Placing.{ending_of, AreKept, FactMatched, HoldsFrom, AreLinked, loose_variables, linked_variables}
use Rattle.spec_placements.specs.LooseParts.{flat_of, bound_parts, Removes, HasNoRoom}
use Rattle.spec_placements.proofs.Holding.{inner_row, holds_from, from_holds}
use Rattle.spec_placements.proofs.Linked.{rules_link, linked_first, linked_loose, linked_diffs}
use Rattle.spec_placements.proofs.Removing.{removed_within, loose_placed, loose_unplaced}
use Rattle.spec_placements.proofs.Standing.{holds_nothing, row_placed}
use Rattle.fact_placing.specs.declared.board.Loose.{Loose}
use Rattle.fact_placing.specs.declared.board.Ending.{Ending}
use Rattle.fact_placing.specs.Boards.{facts_at, loose_seen, ending_at, loose_parts, IsBoard, IsEndingIn, IsPlacing, IsBegun, ArePut, CanPlaceOn, HoldsOn, AreLinkedOn, CanEndOn, PlacesNothingOn, AreKeptOn, AreNeverKeptOn, HoldsNotOn, HoldsByOn, HoldsFirst, HoldsWith, FailsWith}
use Rattle.fact_placing.proofs.Putting.{positions_back}

-- what removal of the parts tells of the flags that it began with
pub may_stand : (hs parts : List (horn.Fact Term)) (taken before now : List Bool) (b : Bool) → before ≡ taken → MatchBool b (Removes hs before now parts) (HasNoRoom hs before parts) → MatchBool b (IsWithin parts (left taken hs)) (HasNoRoom hs taken parts)
may_stand hs parts taken before now true e told = subst (λ (flags : List Bool). IsWithin parts (left flags hs)) e (removed_within hs before now parts told)
may_stand hs parts taken before now false e told = subst (λ (flags : List Bool). HasNoRoom hs flags parts) e told

-- the parts of loose hypotheses, as contracts see them
pub parts_seen : (bs : List Binding) (loose : List Loose) → bound_parts bs (map loose_seen loose) ≡ loose_parts bs loose
parts_seen bs loose = flat_map-map (λ l. flat_of l.phase (bound_to bs l.variable)) loose_seen loose

-- with no fact left all is placed where they stand and the constraints are kept, and nothing is where they don't stand
loose_stand : (all : List Term) (hyps : List (horn.Fact Id)) (ending : Ending) (pairs : List Bound) (taken : List Bool) → IsPlacing all hyps pairs taken → AreLinkedOn all ending pairs [] → IsWithin (loose_parts (seen all pairs) ending.loose.now) (left taken (facts_at all hyps))
    → AreKept (ending_at all ending) (replaced_once (seen all pairs)) → CanPlaceOn all hyps ending pairs taken []
loose_stand all hyps ending pairs taken placing linked within kept =
    loose_placed (seen all pairs) taken (facts_at all hyps) (ending_at all ending) placing.bindings.once (linked_loose (seen all pairs) (map loose_seen ending.loose.now) (diffs_at all ending.diffs.now) [] linked)
    (subst (λ (ys : List (horn.Fact Term)). IsWithin ys (left taken (facts_at all hyps))) (sym (parts_seen (seen all pairs) ending.loose.now)) within) kept

pub loose_nowhere : (all : List Term) (hyps : List (horn.Fact Id)) (ending : Ending) (pairs : List Bound) (taken : List Bool) (facts : List (horn.Fact Id)) → HasNoRoom (facts_at all hyps) taken (loose_parts (seen all pairs) ending.loose.now) → CanPlaceOn all hyps ending pairs taken facts → ⊥
loose_nowhere all hyps ending pairs taken facts none =
    loose_unplaced (seen all pairs) taken (facts_at all hyps) (facts_at all facts) (ending_at all ending) (subst (λ (ys : List (horn.Fact Term)). HasNoRoom (facts_at all hyps) taken ys) (sym (parts_seen (seen all pairs) ending.loose.now)) none)

-- so whether the constraints are kept, as far as their variables are bound, decides where the loose parts stand
pub kept_told : (all : List Term) (hyps : List (horn.Fact Id)) (ending : Ending) (pairs : List Bound) (taken : List Bool) (r : Result Bool AllocError) → IsPlacing all hyps pairs taken → IsWithin (loose_parts (seen all pairs) ending.loose.now) (left taken (facts_at all hyps))
    → IfOk r (λ yes. MatchBool yes (AreKeptOn all ending pairs) (AreNeverKeptOn all ending pairs)) → IfOk r (λ yes. MatchBool yes (CanEndOn all hyps ending pairs taken) (PlacesNothingOn all hyps ending pairs taken))
kept_told all hyps ending pairs taken (Ok true) placing within kept = λ linked.
    loose_stand all hyps ending pairs taken placing linked within (kept (linked_diffs (seen all pairs) (map loose_seen ending.loose.now) (diffs_at all ending.diffs.now) [] linked))
kept_told all hyps ending pairs taken (Ok false) placing within never = λ facts can. never can.by can.agrees can.kept
kept_told all hyps ending pairs taken (Err e) placing within told = tt

-- all facts are put along the row: it holds where the rest can be placed, which is no fact
pub held_along : (all : List Term) (hyps : List (horn.Fact Id)) (ending : Ending) (start now : List Bound) (taken_start taken_now : List Bool) (facts : List (horn.Fact Id)) (row : List ℕ) (r : Result Bool AllocError)
    → IsPlacing all hyps now taken_now → AreLinkedOn all ending start facts → ArePut all hyps ending start now taken_start taken_now facts row
    → IfOk r (λ yes. MatchBool yes (CanEndOn all hyps ending now taken_now) (PlacesNothingOn all hyps ending now taken_now))
    → IfOk r (λ yes. MatchBool yes (HoldsByOn all hyps ending start taken_start facts row) (HoldsNotOn all hyps ending start taken_start facts row))
held_along all hyps ending start now taken_start taken_now facts row (Ok true) placing linked put can =
    (map pred row, sym put.positions, put.holds.1 (holds_nothing (facts_at all hyps) taken_now (ending_at all ending) (seen all now) (can (put.linked linked))))
held_along all hyps ending start now taken_start taken_now facts row (Ok false) placing linked put none = λ inner same held.
    let back : map pred row ≡ inner = ap (map pred) same ∙ positions_back all hyps ending inner in
    let there = put.holds.0 (subst (λ (ps : List ℕ). HoldsOn all hyps ending start taken_start facts ps) (sym back) held) in
    none [] (row_placed (facts_at all hyps) taken_now (ending_at all ending) (seen all now) [] [] placing.flags there)
held_along all hyps ending start now taken_start taken_now facts row (Err e) placing linked put told = tt

-- a clause within the limit of size has few hypotheses
fact_counts : (f : horn.Fact Term) → 1 ≤ fact_size f
fact_counts (Att k t) = omega arith
fact_counts (Mess k t u) = omega arith
fact_counts (Tab n ts) = omega arith
fact_counts (Ev e ts) = omega arith
fact_counts (Mev e ts) = omega arith
fact_counts (Bad ts) = omega arith

facts_count : (fs : List (horn.Fact Term)) → length fs ≤ total fact_size fs
facts_count [] = omega arith
facts_count (f ∷ fs) = omega (arith, fact_counts f, facts_count fs)

pub is_board : (all : List Term) (c : IdClause) → IsClauseIn all c → IsWithinLimit (clause_at all c) → IsBoard all c.hypotheses
is_board all c known small =
    let count = facts_count (facts_at all c.hypotheses) in
    let long : length (facts_at all c.hypotheses) ≡ length c.hypotheses = length-map c.hypotheses (fact_at all) in
    record { known = known.hypotheses; few = omega (arith, small, count, long) }

-- what is left to decide of a normal clause and another one
pub is_ending : (all : List Term) (general special : IdClause) (ending : Ending) → IsClauseIn all general → IsClauseIn all special → IsNormal (clause_at all general) → ending.diffs.now ≡ general.diffs → ending.kept_in.now ≡ special.diffs → IsEndingIn all ending
is_ending all general special ending known special_known normal diffs_are kept_are = record {
  diffs = subst (λ (ds : List (DiffOf Id)). AreDiffsIn all ds) (sym diffs_are) known.diffs;
  kept_in = subst (λ (ds : List (DiffOf Id)). AreDiffsIn all ds) (sym kept_are) special_known.diffs;
  numbered = subst (λ (ds : List (DiffOf Id)). AllByRecursion (λ d. numbered_diff d ≡ d) (diffs_at all ds)) (sym diffs_are) (normal-numbered (clause_at all general) normal.own);
}

-- an answer that is there, or not
pub at_some : {X : Type 0} (P : Type 0) (o : Option X) (x : X) (Q : X → Type 0) → o ≡ Some x → MatchOption o P Q → Q x
at_some {X} P o x Q e told = let here : MatchOption (Some x) P Q = subst (λ (p : Option X). MatchOption p P Q) e told in here

-- what is told once the conclusions are matched
pub held_with : (all : List Term) (hyps : List (horn.Fact Id)) (ending : Ending) (facts : List (horn.Fact Id)) (general special : horn.Fact Id) (pairs : List Bound) (taken : List Bool) (row : List ℕ) (r : Result Bool AllocError) → IsBegun all hyps general special pairs taken
    → IfOk r (λ yes. MatchBool yes (HoldsByOn all hyps ending pairs taken facts row) (HoldsNotOn all hyps ending pairs taken facts row)) → IfOk r (λ yes. MatchBool yes (HoldsWith all hyps ending facts general special row) (FailsWith all hyps ending facts general special row))
held_with all hyps ending facts general special pairs taken row (Ok true) begun (inner, same, held) = record {
  bindings = seen all pairs;
  matched = begun.matched;
  inner = inner;
  positions = same;
  holds = subst (λ (flags : List Bool). HoldsFrom (seen all pairs) flags (facts_at all hyps) (facts_at all facts) (ending_at all ending) inner) begun.free held;
}
held_with all hyps ending facts general special pairs taken row (Ok false) begun none = inr (record {
  bindings = seen all pairs;
  matched = begun.matched;
  never = λ inner same held. none inner same (subst (λ (flags : List Bool). HoldsFrom (seen all pairs) flags (facts_at all hyps) (facts_at all facts) (ending_at all ending) inner) (sym begun.free) held);
})
held_with all hyps ending facts general special pairs taken row (Err e) begun told = tt

-- the variables of loose hypotheses and of constraints, and the firm hypotheses, of a normal clause
pub linked_with : (all : List Term) (general g : IdClause) (special : horn.Fact Id) (facts found second : List (horn.Fact Id)) (variables : List Loose) (ending : Ending) → g ≡ general → IsNormal (clause_at all general)
    → NameFacts all found (firm (facts_at all g.hypotheses)) → facts ≡ found → map loose_seen variables ≡ loose_variables (facts_at all second) → second ≡ g.hypotheses → ending.loose.now ≡ variables → ending.diffs.now ≡ g.diffs
    → (bs : List Binding) → FactMatched [] bs (fact_at all g.conclusion) (fact_at all special) → AreLinked bs (linked_variables (map loose_seen ending.loose.now) (diffs_at all ending.diffs.now)) (facts_at all facts)
linked_with all general g special facts found second variables ending g_is normal named facts_are variables_are second_is loose_are diffs_are bs matched =
    let own : IsNormal (clause_at all g) = subst (λ (c : IdClause). IsNormal (clause_at all c)) (sym g_is) normal in
    let linked = linked_first bs (clause_at all g) (fact_at all special) (rules_link (clause_at all g) ((own_norm (clause_at all g)).0 own.own)) matched in
    let loose_is : map loose_seen ending.loose.now ≡ loose_variables (facts_at all g.hypotheses) = ap (map loose_seen) loose_are ∙ (variables_are ∙ ap (λ (fs : List (horn.Fact Id)). loose_variables (facts_at all fs)) second_is) in
    let firm_is : facts_at all facts ≡ firm (facts_at all g.hypotheses) = ap (facts_at all) facts_are ∙ named.are in
    let variables_of_both : linked_variables (map loose_seen ending.loose.now) (diffs_at all ending.diffs.now) ≡ linked_variables (loose_variables (facts_at all g.hypotheses)) (diffs_at all g.diffs) = λ i. linked_variables (loose_is i) (diffs_at all (diffs_are i)) in
    subst (λ (xs : List ℕ). AreLinked bs xs (facts_at all facts)) (sym variables_of_both) (subst (λ (fs : List (horn.Fact Term)). AreLinked bs (linked_variables (loose_variables (facts_at all g.hypotheses)) (diffs_at all g.diffs)) fs) (sym firm_is) linked)

-- what is left to decide of two clauses
pub ending_told : (all : List Term) (g s : IdClause) (ending : Ending) → map loose_seen ending.loose.now ≡ loose_variables (facts_at all g.hypotheses) → ending.diffs.now ≡ g.diffs → ending.kept_in.now ≡ s.diffs → ending_at all ending ≡ ending_of (clause_at all g) (clause_at all s)
ending_told all g s ending loose_is diffs_are kept_are = λ i. record { loose = loose_is i; diffs = diffs_at all (diffs_are i); kept_in = diffs_at all (kept_are i) }

-- what is asked of the facts is what is asked of the clauses
module _ (all : List Term) (g s : IdClause) (facts : List (horn.Fact Id)) (ending : Ending) (firm_is : facts_at all facts ≡ firm (facts_at all g.hypotheses)) (ending_is : ending_at all ending ≡ ending_of (clause_at all g) (clause_at all s)) where
  abbrev Asked : List Binding → List (horn.Fact Term) → asking.Ending → List ℕ → Type 0
  Asked bs fs left_over row = HoldsFrom bs (replicate (length (facts_at all s.hypotheses)) false) (facts_at all s.hypotheses) fs left_over row

  asked : (bs : List Binding) (row : List ℕ) → Asked bs (firm (facts_at all g.hypotheses)) (ending_of (clause_at all g) (clause_at all s)) row → HoldsFirst all s.hypotheses ending bs facts row
  asked bs row h = subst (λ (fs : List (horn.Fact Term)). Asked bs fs (ending_at all ending) row) (sym firm_is) (subst (λ (e : asking.Ending). Asked bs (firm (facts_at all g.hypotheses)) e row) (sym ending_is) h)

  told : (bs : List Binding) (row : List ℕ) → HoldsFirst all s.hypotheses ending bs facts row → Asked bs (firm (facts_at all g.hypotheses)) (ending_of (clause_at all g) (clause_at all s)) row
  told bs row h = subst (λ (e : asking.Ending). Asked bs (firm (facts_at all g.hypotheses)) e row) ending_is (subst (λ (fs : List (horn.Fact Term)). Asked bs fs (ending_at all ending) row) firm_is h)

  row_told : (row : List ℕ) (r : Result Bool AllocError) → IfOk r (λ yes. MatchBool yes (HoldsWith all s.hypotheses ending facts g.conclusion s.conclusion row) (FailsWith all s.hypotheses ending facts g.conclusion s.conclusion row))
      → IfOk r (λ yes. IsTrue yes ↔ RowHolds (clause_at all g) (clause_at all s) row)
  row_told row (Ok true) w = (
    λ e. subst (λ (ps : List ℕ). RowHolds (clause_at all g) (clause_at all s) ps) (sym w.positions) (from_holds w.bindings (clause_at all g) (clause_at all s) w.matched w.inner (told w.bindings w.inner w.holds)),
    λ h. refl,
  )
  row_told row (Ok false) (inl none) = (λ e. absurd (false≢true e), λ h. absurd (none h.by tt h.conclusion))
  row_told row (Ok false) (inr w) = (
    λ e. absurd (false≢true e),
    λ h.
        let (inner, same) = inner_row (clause_at all g) (clause_at all s) row h in
        let held = holds_from w.bindings (clause_at all g) (clause_at all s) w.matched inner (subst (λ (ps : List ℕ). RowHolds (clause_at all g) (clause_at all s) ps) same h) in
        absurd (w.never inner same (asked w.bindings inner held)),
  )
  row_told row (Err e) told = tt

-- the same, of clauses that are put together
pub rows_told : (all : List Term) (general special g s : IdClause) (facts found second : List (horn.Fact Id)) (variables : List Loose) (ending : Ending) (row ps : List ℕ) (r : Result Bool AllocError) → g ≡ general → s ≡ special
    → NameFacts all found (firm (facts_at all g.hypotheses)) → facts ≡ found → map loose_seen variables ≡ loose_variables (facts_at all second) → second ≡ g.hypotheses → ending.loose.now ≡ variables → ending.diffs.now ≡ g.diffs → ending.kept_in.now ≡ s.diffs → ps ≡ row
    → IfOk r (λ yes. MatchBool yes (HoldsWith all s.hypotheses ending facts g.conclusion s.conclusion ps) (FailsWith all s.hypotheses ending facts g.conclusion s.conclusion ps)) → IfOk r (λ yes. IsTrue yes ↔ RowHolds (clause_at all general) (clause_at all special) row)
rows_told all general special g s facts found second variables ending row ps r g_is s_is named facts_are variables_are second_is loose_are diffs_are kept_are ps_are held =
    let firm_is : facts_at all facts ≡ firm (facts_at all g.hypotheses) = ap (facts_at all) facts_are ∙ named.are in
    let loose_is : map loose_seen ending.loose.now ≡ loose_variables (facts_at all g.hypotheses) = ap (map loose_seen) loose_are ∙ (variables_are ∙ ap (λ (fs : List (horn.Fact Id)). loose_variables (facts_at all fs)) second_is) in
    let here = row_told all g s facts ending firm_is (ending_told all g s ending loose_is diffs_are kept_are) ps r held in
    subst (λ (c : IdClause). IfOk r (λ yes. IsTrue yes ↔ RowHolds (clause_at all c) (clause_at all special) row)) g_is
    (subst (λ (c : IdClause). IfOk r (λ yes. IsTrue yes ↔ RowHolds (clause_at all g) (clause_at all c) row)) s_is
    (subst (λ (l : List ℕ). IfOk r (λ yes. IsTrue yes ↔ RowHolds (clause_at all g) (clause_at all s) l)) ps_are here))
