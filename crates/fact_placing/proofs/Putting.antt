-- Putting facts over ids at positions, one at a time.
use Rattle.std.proofs.Common.{◌≡◌, ◌↔◌, ℕ, zero, suc, pred, ◌+◌, ◌-◌, ◌<◌, ◌≤◌, Bool, true, false, Some, None, List, [], ◌∷◌, ◌++◌, length, map, take, drop, get_or, set, refl, ap, sym, ◌∙◌, subst, arith, Bor}
use Rattle.std.specs.Prelude.{slice_get}
use Rattle.std.proofs.lemmas.List.{map-append, take_more}
use Rattle.spec_terms.specs.Term.{Term}
use Rattle.spec_clauses.specs.Fact as horn
use Rattle.spec_clauses.specs.Fact.{fact_under}
use Rattle.spec_clauses.specs.Inclusion.{here}
use Rattle.term_tree.specs.declared.bank.Id.{Id}
use Rattle.unify_match.specs.declared.bound.Bound.{Bound}
use Rattle.unify_match.specs.Trail.{Extends}
use Rattle.unify_match.specs.Seen.{seen}
use Rattle.unify_match.proofs.Trails.{undone}
use Rattle.clause_diffs.specs.Diffs.{diffs_at}
use Rattle.clause_form.specs.declared.facts.Fact.{Fact}
use Rattle.clause_form.specs.Facts.{fact_of}
use Rattle.clause_form.specs.Seen.{fact_at, IsFactIn, AreFactsIn}
use Rattle.spec_placements.specs.Placing.{linked_variables, NoFactMatch}
use Rattle.spec_placements.proofs.Linked.{linked_next}
use Rattle.spec_placements.proofs.Standing.{holds_one, one_holds, row_long}
use Rattle.fact_placing.specs.declared.board.Ending.{Ending}
use Rattle.fact_placing.specs.Boards.{facts_at, loose_seen, ending_at, IsAsBefore, IsPut, CannotPut, HoldsOn, HoldsNotOn, AreLinkedOn}

some_same : {X : Type 0} {x y : X} → Some x ≡ Some y → x ≡ y
some_same e = cc

-- what stands at a position
pub found_at : (all : List Term) (hyps : List Fact) (p : ℕ) (d : Fact) → p < length hyps → slice_get (facts_at all (map fact_of hyps)) p ≡ Some (fact_at all (fact_of (get_or hyps p d)))
found_at all [] p d within = absurd (omega arith)
found_at all (h ∷ hyps) zero d within = refl
found_at all (h ∷ hyps) (suc p) d within = found_at all hyps p d (omega arith)

pub there_at : (all : List Term) (hyps : List Fact) (p : ℕ) (h : Fact) → h ≡ get_or hyps p h → p < length hyps → slice_get (facts_at all (map fact_of hyps)) p ≡ Some (fact_at all (fact_of h))
there_at all hyps p h is within = found_at all hyps p h within ∙ ap (λ f. Some (fact_at all (fact_of f))) (sym is)

pub length_at : (all : List Term) (hyps : List Fact) → length (facts_at all (map fact_of hyps)) ≡ length hyps
length_at all [] = refl
length_at all (h ∷ hyps) = ap suc (length_at all hyps)

-- what stands there is the fact
pub same_there : {X : Type 0} (xs : List X) (p : ℕ) (x y : X) → slice_get xs p ≡ Some x → slice_get xs p ≡ Some y → x ≡ y
same_there xs p x y first second = some_same (sym first ∙ second)

-- the flag at a position
pub flag_at : (flags : List Bool) (p : ℕ) (b : Bool) → b ≡ get_or flags p b → b ≡ false → get_or flags p false ≡ false
flag_at flags p b is e = ap (get_or flags p) (sym e) ∙ (sym is ∙ e)

-- a flag that is set and taken back
unset : (flags : List Bool) (p : ℕ) → get_or flags p false ≡ false → set (set flags p true) p false ≡ flags
unset [] zero e = refl
unset [] (suc p) e = refl
unset (b ∷ flags) zero e = ap (λ c. c ∷ flags) (sym e)
unset (b ∷ flags) (suc p) e = ap (λ l. b ∷ l) (unset flags p e)

-- what was put is taken back
pub is_taken_back : (all : List Term) (hyps : List (horn.Fact Id)) (old new back : List Bound) (taken_old taken_new taken_back : List Bool) (fact : horn.Fact Id) (p level : ℕ) → level ≡ length old → IsPut all hyps old new taken_old taken_new fact p → Extends old new
    → back ≡ drop (length new - level) new → taken_back ≡ set taken_new p false → IsAsBefore old back taken_old taken_back
is_taken_back all hyps old new back taken_old taken_new taken_back fact p level at put extends bindings flags = record {
  bindings = bindings ∙ (ap (λ n. drop (length new - n) new) at ∙ undone old new extends);
  flags = flags ∙ (ap (λ l. set l p false) put.flags ∙ unset taken_old p put.free);
}

-- a fact that doesn't match what stands there can't be put there
pub cannot_match : (all : List Term) (hyps : List (horn.Fact Id)) (pairs : List Bound) (taken : List Bool) (fact : horn.Fact Id) (p : ℕ) (there : horn.Fact Term) → slice_get (facts_at all hyps) p ≡ Some there → NoFactMatch (seen all pairs) (fact_at all fact) there → CannotPut all hyps pairs taken fact p
cannot_match all hyps pairs taken fact p there stands none = λ s agrees free at. none s agrees (some_same (sym at ∙ stands))

-- nor past the last position
past_none : {X : Type 0} (xs : List X) (p : ℕ) → length xs ≤ p → slice_get xs p ≡ None
past_none [] p past = refl
past_none (x ∷ xs) zero past = absurd (omega arith)
past_none (x ∷ xs) (suc p) past = past_none xs p (omega arith)

pub cannot_past : (all : List Term) (hyps : List (horn.Fact Id)) (pairs : List Bound) (taken : List Bool) (fact : horn.Fact Id) (p : ℕ) → length (facts_at all hyps) ≤ p → CannotPut all hyps pairs taken fact p
cannot_past all hyps pairs taken fact p past = λ s agrees free at. let none = past_none (facts_at all hyps) p past in let clash : None ≡ Some (fact_under s (fact_at all fact)) = sym none ∙ at in cc

-- a fact behind a reference among known ones
known_in : (all : List Term) (facts : List (Bor Fact)) (k : ℕ) (d : Bor Fact) → AreFactsIn all (map (λ (f : Bor Fact). fact_of f.now) facts) → k < length facts → IsFactIn all (fact_of (get_or facts k d).now)
known_in all [] k d known within = absurd (omega arith)
known_in all (f ∷ facts) zero d known within = known.0
known_in all (f ∷ facts) (suc k) d known within = known_in all facts k d known.1 (omega arith)

pub known_ref : (all : List Term) (facts : List (Bor Fact)) (k : ℕ) (f : Bor Fact) → f ≡ get_or facts k f → AreFactsIn all (map (λ (h : Bor Fact). fact_of h.now) facts) → k < length facts → IsFactIn all (fact_of f.now)
known_ref all facts k f is known within = subst (λ (h : Bor Fact). IsFactIn all (fact_of h.now)) (sym is) (known_in all facts k f known within)

-- one position more
pub positions_more : (row : List ℕ) (k position p : ℕ) → k < length row → position ≡ get_or row k 0 → position ≡ suc p → map suc (map pred (take k row)) ≡ take k row → map suc (map pred (take (k + 1) row)) ≡ take (k + 1) row
positions_more row k position p within is at so_far =
    let here : get_or row k 0 ≡ suc p = sym is ∙ at in
    let more : take (k + 1) row ≡ take k row ++ suc p ∷ [] = take_more row k 0 within ∙ ap (λ n. take k row ++ n ∷ []) here in
    let front = ap (map suc) (map-append pred (take k row) (suc p ∷ [])) ∙ (map-append suc (map pred (take k row)) (p ∷ []) ∙ ap (λ l. l ++ suc p ∷ []) so_far) in
    subst (λ (l : List ℕ). map suc (map pred l) ≡ l) (sym more) front

module _ (all : List Term) (hyps : List (horn.Fact Id)) (ending : Ending) where
  -- a fact that was put at its position of the row
  pub put_on : (old new : List Bound) (taken_old taken_new : List Bool) (facts rest : List (horn.Fact Id)) (fact : horn.Fact Id) (row more : List ℕ) (position p : ℕ) → facts ≡ fact ∷ rest → row ≡ position ∷ more → position ≡ suc p → IsPut all hyps old new taken_old taken_new fact p
      → HoldsOn all hyps ending old taken_old facts (map pred row) ↔ HoldsOn all hyps ending new taken_new rest (map pred more)
  put_on old new taken_old taken_new facts rest fact row more position p facts_are row_is at put =
      let rows : map pred row ≡ p ∷ map pred more = ap (map pred) row_is ∙ ap (λ n. pred n ∷ map pred more) at in
      let H = facts_at all hyps in (
        λ held.
            let first : HoldsOn all hyps ending old taken_old (fact ∷ rest) (p ∷ map pred more) = subst (λ ps. HoldsOn all hyps ending old taken_old (fact ∷ rest) ps) rows (subst (λ fs. HoldsOn all hyps ending old taken_old fs (map pred row)) facts_are held) in
            subst (λ flags. HoldsOn all hyps ending new flags rest (map pred more)) (sym put.flags) (one_holds H taken_old (ending_at all ending) (seen all old) (seen all new) (fact_at all fact) put.there p put.stands put.matched (facts_at all rest) (map pred more) first),
        λ held.
            let more_held : HoldsOn all hyps ending new (set taken_old p true) rest (map pred more) = subst (λ flags. HoldsOn all hyps ending new flags rest (map pred more)) put.flags held in
            let first : HoldsOn all hyps ending old taken_old (fact ∷ rest) (p ∷ map pred more) = holds_one H taken_old (ending_at all ending) (seen all old) (seen all new) (fact_at all fact) put.there p put.stands put.matched (facts_at all rest) (map pred more) put.free more_held in
            subst (λ ps. HoldsOn all hyps ending old taken_old facts ps) (sym rows) (subst (λ fs. HoldsOn all hyps ending old taken_old fs (p ∷ map pred more)) (sym facts_are) first),
      )

  pub linked_on : (old new : List Bound) (taken_old taken_new : List Bool) (facts rest : List (horn.Fact Id)) (fact : horn.Fact Id) (p : ℕ) → facts ≡ fact ∷ rest → IsPut all hyps old new taken_old taken_new fact p → AreLinkedOn all ending old facts → AreLinkedOn all ending new rest
  linked_on old new taken_old taken_new facts rest fact p facts_are put linked =
      linked_next (seen all old) (seen all new) (linked_variables (map loose_seen ending.loose.now) (diffs_at all ending.diffs.now)) (facts_at all (fact ∷ rest)) (facts_at all rest) (fact_at all fact) put.there here put.matched (subst (λ fs. AreLinkedOn all ending old fs) facts_are linked)

  -- positions of a row that counts from 1
  pub positions_back : (inner : List ℕ) → map pred (map suc inner) ≡ inner
  positions_back [] = refl
  positions_back (p ∷ inner) = ap (λ ps. p ∷ ps) (positions_back inner)

  position_at : (inner : List ℕ) (k : ℕ) (position : ℕ) (more : List ℕ) → drop k (map suc inner) ≡ position ∷ more → position ≡ suc (pred position)
  position_at [] zero position more e = cc
  position_at [] (suc k) position more e = cc
  position_at (p ∷ inner) zero position more e = let same : suc p ≡ position = cc in sym same ∙ ap (λ n. suc (pred n)) same
  position_at (p ∷ inner) (suc k) position more e = position_at inner k position more e

  -- a fact that can't be put at its position of the row
  pub put_fails : (start old : List Bound) (taken_start taken_old : List Bool) (facts front rest : List (horn.Fact Id)) (fact : horn.Fact Id) (row more : List ℕ) (k position : ℕ)
      → HoldsOn all hyps ending start taken_start facts (map pred row) ↔ HoldsOn all hyps ending old taken_old front (map pred (drop k row))
      → front ≡ fact ∷ rest → drop k row ≡ position ∷ more → ((p : ℕ) → position ≡ suc p → CannotPut all hyps old taken_old fact p) → HoldsNotOn all hyps ending start taken_start facts row
  put_fails start old taken_start taken_old facts front rest fact row more k position so_far front_is row_is never inner same held =
      let at = position_at inner k position more (ap (drop k) (sym same) ∙ row_is) in
      let back : map pred row ≡ inner = ap (map pred) same ∙ positions_back inner in
      let now = so_far.0 (subst (λ ps. HoldsOn all hyps ending start taken_start facts ps) (sym back) held) in
      let first : HoldsOn all hyps ending old taken_old (fact ∷ rest) (pred position ∷ map pred more) = subst (λ ps. HoldsOn all hyps ending old taken_old (fact ∷ rest) (map pred ps)) row_is (subst (λ fs. HoldsOn all hyps ending old taken_old fs (map pred (drop k row))) front_is now) in
      never (pred position) at first.by first.agrees first.takes.0 first.takes.1

  -- as many positions as facts
  pub too_long : (pairs : List Bound) (taken : List Bool) (facts : List (horn.Fact Id)) (row : List ℕ) → (length facts ≡ length row → ⊥) → HoldsNotOn all hyps ending pairs taken facts row
  too_long pairs taken facts row differ inner same held = differ (sym (ap length same ∙ (length-of_map inner ∙ (row_long (facts_at all hyps) taken (ending_at all ending) (seen all pairs) (facts_at all facts) inner held ∙ length-facts facts)))) where
    length-of_map : (inner : List ℕ) → length (map suc inner) ≡ length inner
    length-of_map [] = refl
    length-of_map (p ∷ inner) = ap suc (length-of_map inner)

    length-facts : (fs : List (horn.Fact Id)) → length (facts_at all fs) ≡ length fs
    length-facts [] = refl
    length-facts (f ∷ fs) = ap suc (length-facts fs)
