-- Whether facts can be placed, told from where one of them can stand.
use Rattle.std.proofs.Common.{◌≡◌, ◌∙◌, ℕ, zero, suc, ◌<◌, ◌≤◌, Bool, true, false, ◌||◌, is_some, Option, Some, None, List, [], ◌∷◌, length, map, refl, ap, sym, subst, arith, Result, Ok, Err, IfOk, MatchOption, Bor, get_or}
use Rattle.std.specs.Prelude.{slice_get, remove}
use Rattle.std.specs.List.{list_any, AllByRecursion}
use Rattle.std.specs.declared.alloc.AllocError.{AllocError}
use Rattle.std.proofs.lemmas.List.{length-map}
use Rattle.spec_terms.specs.Term.{Term}
use Rattle.spec_terms.specs.Binding.{bound_to}
use Rattle.spec_clauses.specs.Fact as horn
use Rattle.term_tree.specs.declared.bank.Id.{Id}
use Rattle.unify_match.specs.declared.bound.Bound.{Bound}
use Rattle.unify_match.specs.Seen.{seen}
use Rattle.clause_diffs.specs.Diffs.{diffs_at}
use Rattle.clause_form.specs.declared.facts.Fact.{Fact}
use Rattle.clause_form.specs.Seen.{fact_at, AreFactsIn}
use Rattle.spec_placements.specs.Placing.{some_fact_has, fact_has, linked_variables, HoldsFrom, CanStand}
use Rattle.spec_placements.proofs.Standing.{holds_nothing, back_holds, some_stand, in_range, pick_removed, stand_placed, holds_one, row_long}
use Rattle.fact_placing.specs.declared.board.Ending.{Ending}
use Rattle.fact_placing.specs.Boards.{facts_at, loose_seen, ending_at, IsPlacing, IsPut, CannotPut, CanPlaceOn, CanStandOn, HoldsOn, AreLinkedOn, CanEndOn, HoldsInserted}
use Rattle.fact_placing.proofs.Listing.{unref}

-- no fact is left, and all can be placed then
pub placed_nothing : (all : List Term) (hyps : List (horn.Fact Id)) (ending : Ending) (pairs : List Bound) (taken : List Bool) (facts : List (horn.Fact Id)) → length facts ≡ 0 → AreLinkedOn all ending pairs facts → CanEndOn all hyps ending pairs taken → HoldsOn all hyps ending pairs taken facts []
placed_nothing all hyps ending pairs taken [] none linked can = holds_nothing (facts_at all hyps) taken (ending_at all ending) (seen all pairs) (can linked)
placed_nothing all hyps ending pairs taken (f ∷ facts) none linked can = absurd (omega (arith, none))

-- the fact at an index
pub fact_at_index : (all : List Term) (facts : List (Bor Fact)) (at : ℕ) (f : Bor Fact) → f ≡ get_or facts at f → at < length facts → slice_get (facts_at all (map unref facts)) at ≡ Some (fact_at all (unref f))
fact_at_index all facts at f is within = found facts at within ∙ ap (λ (h : Bor Fact). Some (fact_at all (unref h))) (sym is) where
  found : (fs : List (Bor Fact)) (k : ℕ) → k < length fs → slice_get (facts_at all (map unref fs)) k ≡ Some (fact_at all (unref (get_or fs k f)))
  found [] k l = absurd (omega arith)
  found (h ∷ fs) zero l = refl
  found (h ∷ fs) (suc k) l = found fs k (omega arith)

pub map_removed : {X Y : Type 0} (f : X → Y) (xs : List X) (at : ℕ) → map f (remove xs at) ≡ remove (map f xs) at
map_removed f [] zero = refl
map_removed f [] (suc at) = refl
map_removed f (x ∷ xs) zero = refl
map_removed f (x ∷ xs) (suc at) = ap (λ ys. f x ∷ ys) (map_removed f xs at)

-- a test of some item, of which one is taken out
either_way : (a b c : Bool) → (a || (b || c)) ≡ (b || (a || c))
either_way true true c = refl
either_way true false c = refl
either_way false true c = refl
either_way false false c = refl

some_same : {X : Type 0} {x y : X} → Some x ≡ Some y → x ≡ y
some_same e = cc

any_front : {X : Type 0} (p : X → Bool) (xs : List X) (at : ℕ) (x : X) → slice_get xs at ≡ Some x → list_any p xs ≡ (p x || list_any p (remove xs at))
any_front p [] at x e = cc
any_front p (y ∷ xs) zero x e = ap (λ z. p z || list_any p xs) (some_same e)
any_front p (y ∷ xs) (suc at) x e = ap (λ b. p y || b) (any_front p xs at x e) ∙ either_way (p y) (p x) (list_any p (remove xs at))

module _ (all : List Term) (hyps : List (horn.Fact Id)) (ending : Ending) (pairs : List Bound) (taken : List Bool) where
  -- one of the facts goes in front
  pub linked_front : (unplaced rest : List (Bor Fact)) (at : ℕ) (f : Bor Fact) → f ≡ get_or unplaced at f → at < length unplaced → rest ≡ remove unplaced at → AreLinkedOn all ending pairs (map unref unplaced) → AreLinkedOn all ending pairs (unref f ∷ map unref rest)
  linked_front unplaced rest at f is within rest_is linked = go (linked_variables (map loose_seen ending.loose.now) (diffs_at all ending.diffs.now)) linked where
    others : facts_at all (map unref rest) ≡ remove (facts_at all (map unref unplaced)) at
    others = ap (λ (fs : List (Bor Fact)). facts_at all (map unref fs)) rest_is ∙ (ap (facts_at all) (map_removed unref unplaced at) ∙ map_removed (fact_at all) (map unref unplaced) at)

    same : (x : ℕ) → some_fact_has x (facts_at all (map unref unplaced)) ≡ some_fact_has x (fact_at all (unref f) ∷ facts_at all (map unref rest))
    same x = any_front (fact_has x) (facts_at all (map unref unplaced)) at (fact_at all (unref f)) (fact_at_index all unplaced at f is within) ∙ ap (λ (fs : List (horn.Fact Term)). fact_has x (fact_at all (unref f)) || list_any (fact_has x) fs) (sym others)

    go : (xs : List ℕ) → AllByRecursion (λ x. (is_some (bound_to (seen all pairs) x) || some_fact_has x (facts_at all (map unref unplaced))) ≡ true) xs → AllByRecursion (λ x. (is_some (bound_to (seen all pairs) x) || some_fact_has x (fact_at all (unref f) ∷ facts_at all (map unref rest))) ≡ true) xs
    go [] l = tt
    go (x ∷ xs) l = (ap (λ (b : Bool). is_some (bound_to (seen all pairs) x) || b) (sym (same x)) ∙ l.0, go xs l.1)

  -- all can be placed as one of them can stand
  pub placed_told : {X : Type 0} (r : Result (Option X) AllocError) (items : X → List ℕ) (unplaced rest : List (Bor Fact)) (at n : ℕ) (f : Bor Fact) → length hyps ≤ n → f ≡ get_or unplaced at f → at < length unplaced → rest ≡ remove unplaced at → IsPlacing all hyps pairs taken
      → IfOk r (λ found. MatchOption found ((p : ℕ) → p < n → CanStandOn all hyps ending pairs taken (unref f) (map unref rest) p → ⊥) (λ row. HoldsInserted all hyps ending pairs taken (unref f) (map unref rest) at (items row)))
      → IfOk r (λ found. MatchOption found (CanPlaceOn all hyps ending pairs taken (map unref unplaced) → ⊥) (λ row. HoldsOn all hyps ending pairs taken (map unref unplaced) (items row)))
  placed_told {X} r items unplaced rest at n f past is within rest_is placing told = go r told where
    which : slice_get (facts_at all (map unref unplaced)) at ≡ Some (fact_at all (unref f))
    which = fact_at_index all unplaced at f is within

    others_are : facts_at all (map unref rest) ≡ remove (facts_at all (map unref unplaced)) at
    others_are = ap (λ (fs : List (Bor Fact)). facts_at all (map unref fs)) rest_is ∙ (ap (facts_at all) (map_removed unref unplaced at) ∙ map_removed (fact_at all) (map unref unplaced) at)

    go : (r : Result (Option X) AllocError) → IfOk r (λ found. MatchOption found ((p : ℕ) → p < n → CanStandOn all hyps ending pairs taken (unref f) (map unref rest) p → ⊥) (λ row. HoldsInserted all hyps ending pairs taken (unref f) (map unref rest) at (items row)))
        → IfOk r (λ found. MatchOption found (CanPlaceOn all hyps ending pairs taken (map unref unplaced) → ⊥) (λ row. HoldsOn all hyps ending pairs taken (map unref unplaced) (items row)))
    go (Ok None) never = λ can.
        let some = some_stand (facts_at all hyps) taken (ending_at all ending) (seen all pairs) (facts_at all (map unref unplaced)) (remove (facts_at all (map unref unplaced)) at) (fact_at all (unref f)) placing.flags (pick_removed (facts_at all (map unref unplaced)) at (fact_at all (unref f)) which) can in
        let stand : CanStandOn all hyps ending pairs taken (unref f) (map unref rest) some.0 = subst (λ (fs : List (horn.Fact Term)). CanStand (seen all pairs) taken (facts_at all hyps) (fact_at all (unref f)) fs (ending_at all ending) some.0) (sym others_are) some.1 in
        let inside = in_range (facts_at all hyps) taken (ending_at all ending) (seen all pairs) (fact_at all (unref f)) (facts_at all (map unref rest)) some.0 stand in
        never some.0 (omega (arith, past, inside, length-map hyps (fact_at all))) stand
    go (Ok (Some row)) h =
        let held = subst (λ (fs : List (horn.Fact Term)). HoldsFrom (seen all pairs) taken (facts_at all hyps) (fact_at all (unref f) ∷ fs) (ending_at all ending) (h.position ∷ h.others)) others_are h.holds in
        subst (λ (ps : List ℕ). HoldsOn all hyps ending pairs taken (map unref unplaced) ps) (sym h.inserted)
        (back_holds (facts_at all hyps) taken (ending_at all ending) (seen all pairs) placing.flags (facts_at all (map unref unplaced)) h.others at h.position (fact_at all (unref f)) which held)
    go (Err e) t = tt

-- a fact that was put can stand there as the rest can be placed
pub stand_told : (all : List Term) (hyps : List (horn.Fact Id)) (ending : Ending) (old new : List Bound) (taken_old taken_new : List Bool) (fact : horn.Fact Id) (rest : List (horn.Fact Id)) (p : ℕ) {X : Type 0} (r : Result (Option X) AllocError) (items : X → List ℕ) → IsPut all hyps old new taken_old taken_new fact p
    → IfOk r (λ found. MatchOption found (CanPlaceOn all hyps ending new taken_new rest → ⊥) (λ row. HoldsOn all hyps ending new taken_new rest (items row)))
    → IfOk r (λ found. MatchOption found (CanStandOn all hyps ending old taken_old fact rest p → ⊥) (λ row. HoldsOn all hyps ending old taken_old (fact ∷ rest) (p ∷ items row)))
stand_told all hyps ending old new taken_old taken_new fact rest p (Ok None) items put never = λ stand.
    never (subst (λ (flags : List Bool). CanPlaceOn all hyps ending new flags rest) (sym put.flags) (stand_placed (facts_at all hyps) taken_old (ending_at all ending) (seen all old) (seen all new) (fact_at all fact) put.there (facts_at all rest) p put.stands put.matched stand))
stand_told all hyps ending old new taken_old taken_new fact rest p (Ok (Some row)) items put held =
    holds_one (facts_at all hyps) taken_old (ending_at all ending) (seen all old) (seen all new) (fact_at all fact) put.there p put.stands put.matched (facts_at all rest) (items row) put.free (subst (λ (flags : List Bool). HoldsOn all hyps ending new flags rest (items row)) put.flags held)
stand_told all hyps ending old new taken_old taken_new fact rest p (Err e) items put t = tt

pub cannot_stand : (all : List Term) (hyps : List (horn.Fact Id)) (ending : Ending) (pairs : List Bound) (taken : List Bool) (fact : horn.Fact Id) (rest : List (horn.Fact Id)) (p : ℕ) → CannotPut all hyps pairs taken fact p → CanStandOn all hyps ending pairs taken fact rest p → ⊥
cannot_stand all hyps ending pairs taken fact rest p cannot stand = cannot stand.by stand.agrees stand.free stand.stands

-- the others stay known, and as many are left
pub known_removed : (all : List Term) (facts : List (Bor Fact)) (at : ℕ) → AreFactsIn all (map unref facts) → AreFactsIn all (map unref (remove facts at))
known_removed all [] zero known = tt
known_removed all [] (suc at) known = tt
known_removed all (f ∷ facts) zero known = known.1
known_removed all (f ∷ facts) (suc at) known = (known.0, known_removed all facts at known.1)

-- a row for a fact and others is one longer than these
pub row_length : (all : List Term) (hyps : List (horn.Fact Id)) (ending : Ending) (pairs : List Bound) (taken : List Bool) (fact : horn.Fact Id) (rest : List (Bor Fact)) (p : ℕ) (row : List ℕ) → HoldsOn all hyps ending pairs taken (fact ∷ map unref rest) (p ∷ row) → length row ≡ length rest
row_length all hyps ending pairs taken fact rest p row held =
    let long = row_long (facts_at all hyps) taken (ending_at all ending) (seen all pairs) (fact_at all fact ∷ facts_at all (map unref rest)) (p ∷ row) held in
    omega (arith, long, length-map (map unref rest) (fact_at all), length-map rest unref)
