-- The first row, position by position.
use Rattle.std.proofs.Common.{◌≡◌, ◌∙◌, inl, inr, ℕ, zero, suc, ◌+◌, ◌-◌, ◌<◌, Bool, true, false, Option, Some, None, List, [], ◌∷◌, ◌++◌, length, map, take, drop, replicate, refl, ap, sym, subst, arith, Result, Ok, Err, IfOk, MatchOption, MatchBool, get_or, add-one, length-drop, Bor}
use Rattle.std.specs.Prelude.{remove, insert}
use Rattle.std.specs.List.{list_all}
use Rattle.std.specs.declared.alloc.AllocError.{AllocError}
use Rattle.std.proofs.lemmas.List.{length-map, map-append, take_all}
use Rattle.std.proofs.lemmas.Option.{slice_get_within}
use Rattle.spec_trees.proofs.Equality.{and_true}
use Rattle.spec_terms.specs.Term.{Term}
use Rattle.spec_clauses.specs.Fact as horn
use Rattle.spec_clauses.specs.Fact.{Clause}
use Rattle.spec_clauses.specs.Flat.{is_flat}
use Rattle.spec_clauses.specs.Norm.{IsNormal}
use Rattle.spec_clauses.specs.Subsumption.{firm, Subsumes, RowHolds, IsFirstRow}
use Rattle.spec_clauses.proofs.Subsumption.{row_subsumes, subsumes_by_row}
use Rattle.term_tree.specs.declared.bank.Id.{Id}
use Rattle.unify_match.specs.declared.bound.Bound.{Bound}
use Rattle.unify_match.specs.Seen.{seen}
use Rattle.clause_form.specs.declared.facts.Fact.{Fact}
use Rattle.clause_form.specs.Seen.{fact_at, clause_at, AreFactsIn, NameFacts, IdClause}
use Rattle.clause_form.proofs.Comparing.{map_drop}
use Rattle.spec_placements.specs.Placing as asking
use Rattle.spec_placements.specs.Placing.{ending_of, IsFirstFrom, CanPlace, loose_variables}
use Rattle.spec_placements.specs.Stages.{PlacesFirst}
use Rattle.spec_placements.proofs.Holding.{from_first, no_row}
use Rattle.spec_placements.proofs.Leading.{leads_first_nowhere, leads_first_on, leads_first_to_end}
use Rattle.spec_placements.proofs.Standing.{one_holds, row_placed}
use Rattle.fact_placing.specs.declared.board.Loose.{Loose}
use Rattle.fact_placing.specs.declared.board.Ending.{Ending}
use Rattle.fact_placing.specs.Boards.{facts_at, loose_seen, ending_at, IsPlacing, IsAsBefore, IsBegun, IsPut, CannotPut, CanPlaceOn, CanStandOn, HoldsOn, IsFirstOn, IsFirstByOn, IsLeastRow, IsNextRow, IsFirstWith, NowhereWith}
use Rattle.fact_placing.proofs.Listing.{unref}
use Rattle.multiset_subsume.proofs.Along.{ending_told}
use Rattle.multiset_subsume.proofs.Keeping.{as_back}

pub insert_front : (row : List ℕ) (p : ℕ) → insert row 0 p ≡ p ∷ row
insert_front [] p = refl
insert_front (q ∷ row) p = refl

module _ (all : List Term) (hyps : List (horn.Fact Id)) (ending : Ending) (fact : horn.Fact Id) (rest : List (horn.Fact Id)) where
  -- a row for a fact and others has a first position, which is one of the hypotheses'
  pub row_some : (pairs : List Bound) (taken : List Bool) (row : List ℕ) → HoldsOn all hyps ending pairs taken (fact ∷ rest) row → 0 < length row
  row_some pairs taken [] held = absurd held.takes
  row_some pairs taken (p ∷ row) held = omega arith

  pub first_within : (pairs : List Bound) (taken : List Bool) (row : List ℕ) (d : ℕ) → HoldsOn all hyps ending pairs taken (fact ∷ rest) row → get_or row 0 d < length hyps
  first_within pairs taken [] d held = absurd held.takes
  first_within pairs taken (p ∷ row) d held = let inside = slice_get_within (facts_at all hyps) p (horn.fact_under held.by (fact_at all fact)) held.takes.1 in omega (arith, inside, length-map hyps (fact_at all))

  -- the row that is known is the one with the least position, if the fact can stand at none before
  pub least_known : (pairs : List Bound) (taken : List Bool) (row : List ℕ) (d end : ℕ) → end ≡ get_or row 0 d → HoldsOn all hyps ending pairs taken (fact ∷ rest) row → ((q : ℕ) → q < end → CanStandOn all hyps ending pairs taken fact rest q → ⊥) → IsLeastRow all hyps ending pairs taken fact rest row
  least_known pairs taken [] d end at held never = absurd held.takes
  least_known pairs taken (p ∷ row) d end at held never = record { position = p; others = row; are = refl; holds = held; least = subst (λ (n : ℕ). (q : ℕ) → q < n → CanStandOn all hyps ending pairs taken fact rest q → ⊥) at never }

  -- and one that is found before is
  pub least_found : (pairs : List Bound) (taken : List Bool) (row new : List ℕ) (p : ℕ) → new ≡ insert row 0 p → HoldsOn all hyps ending pairs taken (fact ∷ rest) (p ∷ row) → ((q : ℕ) → q < p → CanStandOn all hyps ending pairs taken fact rest q → ⊥) → IsLeastRow all hyps ending pairs taken fact rest new
  least_found pairs taken row new p is held never = record { position = p; others = row; are = is ∙ insert_front row p; holds = held; least = never }

  -- the fact is put there
  pub next_told : (old mid new : List Bound) (taken_old taken_mid taken_new : List Bool) (row : List ℕ) (p d : ℕ) (b : Bool) → IsAsBefore old mid taken_old taken_mid → IsLeastRow all hyps ending old taken_old fact rest row → p ≡ get_or row 0 d
      → MatchBool b (IsPut all hyps mid new taken_mid taken_new fact p) (CannotPut all hyps mid taken_mid fact p) → IsNextRow all hyps ending old new taken_old taken_new fact rest row
  next_told old mid new taken_old taken_mid taken_new row p d b same least at told = go b told where
    here : p ≡ least.position
    here = at ∙ ap (λ (ps : List ℕ). get_or ps 0 d) least.are

    go : (c : Bool) → MatchBool c (IsPut all hyps mid new taken_mid taken_new fact p) (CannotPut all hyps mid taken_mid fact p) → IsNextRow all hyps ending old new taken_old taken_new fact rest row
    go true put =
        let there : IsPut all hyps old new taken_old taken_new fact p = as_back (λ pairs flags. IsPut all hyps pairs new flags taken_new fact p) old mid taken_old taken_mid same put in
        let first : IsPut all hyps old new taken_old taken_new fact least.position = subst (λ (n : ℕ). IsPut all hyps old new taken_old taken_new fact n) here there in
        let held = one_holds (facts_at all hyps) taken_old (ending_at all ending) (seen all old) (seen all new) (fact_at all fact) first.there least.position first.stands first.matched (facts_at all rest) least.others least.holds in
        record {
          position = least.position;
          others = least.others;
          are = least.are;
          put = first;
          holds = subst (λ (flags : List Bool). HoldsOn all hyps ending new flags rest least.others) (sym first.flags) held;
          least = least.least;
        }
    go false cannot =
        let never : CannotPut all hyps old taken_old fact p = as_back (λ pairs flags. CannotPut all hyps pairs flags fact p) old mid taken_old taken_mid same cannot in
        let at_first : CannotPut all hyps old taken_old fact least.position = subst (λ (n : ℕ). CannotPut all hyps old taken_old fact n) here never in
        absurd (at_first least.holds.by least.holds.agrees least.holds.takes.0 least.holds.takes.1)

-- how far the first row is found: the facts from k on are left, and a row holds them
pub record IsOnTheWay (all : List Term) (hyps : List (horn.Fact Id)) (ending : Ending) (start now : List Bound) (taken_start taken_now : List Bool) (facts front : List (horn.Fact Id)) (items row : List ℕ) : Type 0 where
  pub placing : IsPlacing all hyps now taken_now
  pub holds : HoldsOn all hyps ending now taken_now front row
  pub done : List ℕ
  pub are : items ≡ map suc done
  pub leads : PlacesFirst (facts_at all hyps) (ending_at all ending) (record { bindings = seen all start; taken = taken_start; unplaced = facts_at all facts }) done (record { bindings = seen all now; taken = taken_now; unplaced = facts_at all front })

module _ (all : List Term) (hyps : List (horn.Fact Id)) (ending : Ending) (start : List Bound) (taken_start : List Bool) (facts : List (horn.Fact Id)) where
  pub way_begins : (row items : List ℕ) → items ≡ [] → IsPlacing all hyps start taken_start → HoldsOn all hyps ending start taken_start facts row → IsOnTheWay all hyps ending start start taken_start taken_start facts facts items row
  way_begins row items none placing held = record {
    placing = placing;
    holds = held;
    done = [];
    are = none;
    leads = leads_first_nowhere (facts_at all hyps) (ending_at all ending) (record { bindings = seen all start; taken = taken_start; unplaced = facts_at all facts });
  }

  pub way_on : (old new : List Bound) (taken_old taken_new : List Bool) (front rest : List (horn.Fact Id)) (fact : horn.Fact Id) (items more row next left : List ℕ) (position : ℕ) → front ≡ fact ∷ rest → IsOnTheWay all hyps ending start old taken_start taken_old facts front items row
      → IsPlacing all hyps new taken_new → IsNextRow all hyps ending old new taken_old taken_new fact rest next → position ≡ get_or next 0 position → left ≡ remove next 0 → more ≡ items ++ (position + 1) ∷ [] → IsOnTheWay all hyps ending start new taken_start taken_new facts rest more left
  way_on old new taken_old taken_new front rest fact items more row next left position front_is way placing is at left_is more_is =
      let first : position ≡ is.position = at ∙ ap (λ (ps : List ℕ). get_or ps 0 position) is.are in
      let others : left ≡ is.others = left_is ∙ ap (λ (ps : List ℕ). remove ps 0) is.are in
      let stage : PlacesFirst (facts_at all hyps) (ending_at all ending) (record { bindings = seen all start; taken = taken_start; unplaced = facts_at all facts }) way.done (record { bindings = seen all old; taken = taken_old; unplaced = fact_at all fact ∷ facts_at all rest }) =
      subst (λ (fs : List (horn.Fact Id)). PlacesFirst (facts_at all hyps) (ending_at all ending) (record { bindings = seen all start; taken = taken_start; unplaced = facts_at all facts }) way.done (record { bindings = seen all old; taken = taken_old; unplaced = facts_at all fs })) front_is way.leads in
      let next_stage = leads_first_on (facts_at all hyps) (ending_at all ending) (record { bindings = seen all start; taken = taken_start; unplaced = facts_at all facts }) (seen all old) taken_old way.done (fact_at all fact) (facts_at all rest) is.position (seen all new) is.put.there way.placing.flags is.put.free is.put.stands is.put.matched is.least stage in
      record {
        placing = placing;
        holds = subst (λ (ps : List ℕ). HoldsOn all hyps ending new taken_new rest ps) (sym others) is.holds;
        done = way.done ++ is.position ∷ [];
        are = more_is ∙ (ap (λ (ps : List ℕ). ps ++ (position + 1) ∷ []) way.are ∙ (ap (λ (n : ℕ). map suc way.done ++ n ∷ []) (add-one position ∙ ap suc first) ∙ sym (map-append suc way.done (is.position ∷ []))));
        leads = subst (λ (flags : List Bool). PlacesFirst (facts_at all hyps) (ending_at all ending) (record { bindings = seen all start; taken = taken_start; unplaced = facts_at all facts }) (way.done ++ is.position ∷ []) (record { bindings = seen all new; taken = flags; unplaced = facts_at all rest })) (sym is.put.flags) next_stage;
      }

  pub way_ends : (now : List Bound) (taken_now : List Bool) (front : List (horn.Fact Id)) (items row : List ℕ) → front ≡ [] → IsOnTheWay all hyps ending start now taken_start taken_now facts front items row → IsFirstByOn all hyps ending start taken_start facts items
  way_ends now taken_now front items row none way =
      let held : HoldsOn all hyps ending now taken_now [] row = subst (λ (fs : List (horn.Fact Id)). HoldsOn all hyps ending now taken_now fs row) none way.holds in
      let can = row_placed (facts_at all hyps) taken_now (ending_at all ending) (seen all now) [] row way.placing.flags held in
      let stage : PlacesFirst (facts_at all hyps) (ending_at all ending) (record { bindings = seen all start; taken = taken_start; unplaced = facts_at all facts }) way.done (record { bindings = seen all now; taken = taken_now; unplaced = [] }) =
      subst (λ (fs : List (horn.Fact Id)). PlacesFirst (facts_at all hyps) (ending_at all ending) (record { bindings = seen all start; taken = taken_start; unplaced = facts_at all facts }) way.done (record { bindings = seen all now; taken = taken_now; unplaced = facts_at all fs })) none way.leads in
      (way.done, way.are, leads_first_to_end (facts_at all hyps) (ending_at all ending) (record { bindings = seen all start; taken = taken_start; unplaced = facts_at all facts }) (seen all now) taken_now way.done stage can)

-- what is told once the conclusions are matched
pub first_with : (all : List Term) (hyps : List (horn.Fact Id)) (ending : Ending) (facts : List (horn.Fact Id)) (general special : horn.Fact Id) (pairs : List Bound) (taken : List Bool) (r : Result (Option (List ℕ)) AllocError) → IsBegun all hyps general special pairs taken
    → IfOk r (λ found. MatchOption found (CanPlaceOn all hyps ending pairs taken facts → ⊥) (λ row. IsFirstByOn all hyps ending pairs taken facts row)) → IfOk r (λ found. MatchOption found (NowhereWith all hyps ending facts general special) (λ row. IsFirstWith all hyps ending facts general special row))
first_with all hyps ending facts general special pairs taken (Ok None) begun never = inr (record {
  bindings = seen all pairs;
  matched = begun.matched;
  never = λ can. never (subst (λ (flags : List Bool). CanPlaceOn all hyps ending pairs flags facts) (sym begun.free) can);
})
first_with all hyps ending facts general special pairs taken (Ok (Some row)) begun (inner, same, first) = record {
  bindings = seen all pairs;
  matched = begun.matched;
  inner = inner;
  positions = same;
  first = subst (λ (flags : List Bool). IsFirstOn all hyps ending pairs flags facts inner) begun.free first;
}
first_with all hyps ending facts general special pairs taken (Err e) begun told = tt

-- what is asked of the facts is what is asked of the clauses
module _ (all : List Term) (g s : IdClause) (facts : List (horn.Fact Id)) (ending : Ending) (firm_is : facts_at all facts ≡ firm (facts_at all g.hypotheses)) (ending_is : ending_at all ending ≡ ending_of (clause_at all g) (clause_at all s)) where
  none_taken : List Bool
  none_taken = replicate (length (facts_at all s.hypotheses)) false

  first_told : (r : Result (Option (List ℕ)) AllocError) → IfOk r (λ found. MatchOption found (NowhereWith all s.hypotheses ending facts g.conclusion s.conclusion) (λ row. IsFirstWith all s.hypotheses ending facts g.conclusion s.conclusion row))
      → IfOk r (λ found. MatchOption found ((row : List ℕ) → RowHolds (clause_at all g) (clause_at all s) row → ⊥) (λ row. IsFirstRow (clause_at all g) (clause_at all s) row))
  first_told (Ok None) (inl none) = λ row h. none h.by tt h.conclusion
  first_told (Ok None) (inr w) = λ row h.
      no_row w.bindings (clause_at all g) (clause_at all s) w.matched row (λ can. w.never
      (subst (λ (fs : List (horn.Fact Term)). CanPlace w.bindings (replicate (length (facts_at all s.hypotheses)) false) (facts_at all s.hypotheses) fs (ending_at all ending)) (sym firm_is)
      (subst (λ (e : asking.Ending). CanPlace w.bindings (replicate (length (facts_at all s.hypotheses)) false) (facts_at all s.hypotheses) (firm (facts_at all g.hypotheses)) e) (sym ending_is) can))) h
  first_told (Ok (Some row)) w =
      subst (λ (ps : List ℕ). IsFirstRow (clause_at all g) (clause_at all s) ps) (sym w.positions) (from_first w.bindings (clause_at all g) (clause_at all s) w.matched w.inner
      (subst (λ (e : asking.Ending). IsFirstFrom w.bindings (replicate (length (facts_at all s.hypotheses)) false) (facts_at all s.hypotheses) (firm (facts_at all g.hypotheses)) e w.inner) ending_is
      (subst (λ (fs : List (horn.Fact Term)). IsFirstFrom w.bindings (replicate (length (facts_at all s.hypotheses)) false) (facts_at all s.hypotheses) fs (ending_at all ending) w.inner) firm_is w.first)))
  first_told (Err e) told = tt

-- the same, of clauses that are put together
pub firsts_told : (all : List Term) (general special g s : IdClause) (facts found second : List (horn.Fact Id)) (variables : List Loose) (ending : Ending) (r : Result (Option (List ℕ)) AllocError) → g ≡ general → s ≡ special
    → NameFacts all found (firm (facts_at all g.hypotheses)) → facts ≡ found → map loose_seen variables ≡ loose_variables (facts_at all second) → second ≡ g.hypotheses → ending.loose.now ≡ variables → ending.diffs.now ≡ g.diffs → ending.kept_in.now ≡ s.diffs
    → IfOk r (λ found. MatchOption found (NowhereWith all s.hypotheses ending facts g.conclusion s.conclusion) (λ row. IsFirstWith all s.hypotheses ending facts g.conclusion s.conclusion row))
    → IfOk r (λ found. MatchOption found ((row : List ℕ) → RowHolds (clause_at all general) (clause_at all special) row → ⊥) (λ row. IsFirstRow (clause_at all general) (clause_at all special) row))
firsts_told all general special g s facts found second variables ending r g_is s_is named facts_are variables_are second_is loose_are diffs_are kept_are told =
    let firm_is : facts_at all facts ≡ firm (facts_at all g.hypotheses) = ap (facts_at all) facts_are ∙ named.are in
    let loose_is : map loose_seen ending.loose.now ≡ loose_variables (facts_at all g.hypotheses) = ap (map loose_seen) loose_are ∙ (variables_are ∙ ap (λ (fs : List (horn.Fact Id)). loose_variables (facts_at all fs)) second_is) in
    let here = first_told all g s facts ending firm_is (ending_told all g s ending loose_is diffs_are kept_are) r told in
    subst (λ (c : IdClause). IfOk r (λ found. MatchOption found ((row : List ℕ) → RowHolds (clause_at all c) (clause_at all special) row → ⊥) (λ row. IsFirstRow (clause_at all c) (clause_at all special) row))) g_is
    (subst (λ (c : IdClause). IfOk r (λ found. MatchOption found ((row : List ℕ) → RowHolds (clause_at all g) (clause_at all c) row → ⊥) (λ row. IsFirstRow (clause_at all g) (clause_at all c) row))) s_is here)

-- so it is told whether the general clause subsumes the special one
pub subsumes_told : (general special : Clause Term) (r : Result (Option (List ℕ)) AllocError) → IsNormal general → IfOk r (λ found. MatchOption found ((row : List ℕ) → RowHolds general special row → ⊥) (λ row. IsFirstRow general special row))
    → IfOk r (λ found. MatchOption found (Subsumes general special → ⊥) (λ row. Subsumes general special))
subsumes_told general special (Ok None) normal never = λ subsumes.
    let row = subsumes_by_row general special (and_true (is_flat general.conclusion) (list_all is_flat general.hypotheses) normal.flat).1 subsumes in
    never row.0 row.1
subsumes_told general special (Ok (Some row)) normal first = row_subsumes general special row (and_true (is_flat general.conclusion) (list_all is_flat general.hypotheses) normal.flat).1 first.holds
subsumes_told general special (Err e) normal told = tt

-- the part of a slice from an index on
pub rest_of : {X : Type 0} (xs : List X) (n : ℕ) → take (length xs - n) (drop n xs) ≡ drop n xs
rest_of xs n = take_all (length xs - n) (drop n xs) (omega (arith, length-drop n xs))

pub known_dropped : (all : List Term) (facts : List (Bor Fact)) (n : ℕ) → AreFactsIn all (map unref facts) → AreFactsIn all (map unref (drop n facts))
known_dropped all [] zero known = tt
known_dropped all [] (suc n) known = tt
known_dropped all (f ∷ facts) zero known = known
known_dropped all (f ∷ facts) (suc n) known = known_dropped all facts n known.1

-- the facts from k on are the one at k and the rest
pub front_of : (facts : List (Bor Fact)) (k : ℕ) (f : Bor Fact) → k < length facts → f ≡ get_or facts k f → map unref (drop k facts) ≡ unref f ∷ map unref (drop (k + 1) facts)
front_of facts k f within is = map_drop unref facts k f within ∙ ap (λ (h : Bor Fact). unref h ∷ map unref (drop (k + 1) facts)) (sym is)

-- a position of the next row is one of the hypotheses'
pub next_within : (all : List Term) (hyps : List (horn.Fact Id)) (ending : Ending) (old new : List Bound) (taken_old taken_new : List Bool) (fact : horn.Fact Id) (rest : List (horn.Fact Id)) (row : List ℕ) (p : ℕ) → IsNextRow all hyps ending old new taken_old taken_new fact rest row → p ≡ get_or row 0 p → p < length hyps
next_within all hyps ending old new taken_old taken_new fact rest row p is at =
    let first : p ≡ is.position = at ∙ ap (λ (ps : List ℕ). get_or ps 0 p) is.are in
    let inside = slice_get_within (facts_at all hyps) is.position is.put.there is.put.stands in
    omega (arith, first, inside, length-map hyps (fact_at all))
