-- What is chosen by numbers, and that selection is a choice.
use Rattle.std.proofs.Common.{◌≡◌, ◌∙◌, ℕ, zero, suc, ◌<◌, true, List, [], ◌∷◌, ◌++◌, length, refl, ap, sym, subst, inl, eqb-true, arith}
use Rattle.std.specs.Prelude.{nat_eq, Option, Some, None, option_map, filter}
use Rattle.std.specs.List.{AllByRecursion}
use Rattle.spec_terms.specs.Term.{Term}
use Rattle.spec_clauses.specs.Fact.{Fact, Clause}
use Rattle.spec_clauses.specs.Selection.{Selection, is_solved, behind, select}
use Rattle.spec_clauses.specs.Norm.{IsNormal}
use Rattle.spec_clauses.specs.Inclusion.{Picks, here, there, Has}
use Rattle.spec_clauses.specs.Subsumption.{IsCovered}
use Rattle.spec_clauses.proofs.Inclusion.{Has-filter, Has-filter_source, Has-map, Has-map_source}
use Rattle.spec_clauses.proofs.Selection.{select-none, select-first_of_largest}
use Rattle.spec_derivations.specs.Choice.{at_place, choice_of, IsRight, IsChosen, Placed, clauses_in, resting_of, number_of, with_selected, all_selected}
use Rattle.spec_derivations.specs.Closed.{IsPairClosed, Closes, solved_of}

-- what holds of all items holds of one that is picked, and of the rest
pub all_rest : {X : Type 0} (A : X → Type 0) {xs rest : List X} {x : X} → Picks xs x rest → AllByRecursion A xs → A x × AllByRecursion A rest
all_rest A here a = a
all_rest A (there p) a = let found = all_rest A p a.1 in (found.0, (a.0, found.1))

-- what is at a place is picked out of the hypotheses
pub at_place-picks : (hs : List (Fact Term)) (k : ℕ) (at : Selection) → at_place hs k ≡ Some at → Picks hs at.fact at.others
at_place-picks [] k at e = cc
at_place-picks (h ∷ hs) zero at e =
    let first : Selection = record { index = 0; fact = h; others = hs } in
    let same : first ≡ at = cc in subst (λ (a : Selection). Picks (h ∷ hs) a.fact a.others) same here
at_place-picks (h ∷ hs) (suc k) at e = go (at_place hs k) (at_place-picks hs k) e
  where
    go : (o : Option Selection) → ((b : Selection) → o ≡ Some b → Picks hs b.fact b.others) → option_map (behind h) o ≡ Some at → Picks (h ∷ hs) at.fact at.others
    go None picks e = cc
    go (Some b) picks e = let same : behind h b ≡ at = cc in subst (λ (a : Selection). Picks (h ∷ hs) a.fact a.others) same (there (picks b refl))

-- and the place is within
pub at_place-within : (hs : List (Fact Term)) (k : ℕ) (at : Selection) → at_place hs k ≡ Some at → k < length hs
at_place-within [] k at e = cc
at_place-within (h ∷ hs) zero at e = omega arith
at_place-within (h ∷ hs) (suc k) at e = go (at_place hs k) (at_place-within hs k) e
  where
    go : (o : Option Selection) → ((b : Selection) → o ≡ Some b → k < length hs) → option_map (behind h) o ≡ Some at → suc k < length (h ∷ hs)
    go None within e = cc
    go (Some b) within e = let below = within b refl in omega arith

pub right_chosen : (c : Clause Term) (k : ℕ) (r : IsRight c (suc k)) → IsChosen c r.0
right_chosen c k r = record { picked = at_place-picks c.hypotheses k r.0 r.1; selectable = r.2 }

-- the hypothesis behind earlier ones is at their number
at_place-behind : (earlier later : List (Fact Term)) (h : Fact Term) → at_place (earlier ++ h ∷ later) (length earlier) ≡ Some (record { index = length earlier; fact = h; others = earlier ++ later })
at_place-behind [] later h = refl
at_place-behind (g ∷ earlier) later h = ap (option_map (behind g)) (at_place-behind earlier later h)

-- What is selected is at its place, so its number chooses it, and is right.
pub selected_there : (hs : List (Fact Term)) (at : Selection) → select hs ≡ Some at → at_place hs at.index ≡ Some at
selected_there hs at e =
    let s = select-first_of_largest hs at e in
    (λ i. at_place (s.hypotheses i) (s.index i)) ∙ (at_place-behind s.earlier s.later at.fact ∙ (λ i. Some (record { index = sym s.index i; fact = at.fact; others = sym s.others i })))

pub selection_chosen : (c : Clause Term) → choice_of c (number_of (select c.hypotheses)) ≡ select c.hypotheses
selection_chosen c = go (select c.hypotheses) refl
  where
    go : (o : Option Selection) → select c.hypotheses ≡ o → choice_of c (number_of o) ≡ o
    go None e = refl
    go (Some at) e = selected_there c.hypotheses at e

pub selection_right : (c : Clause Term) → IsRight c (number_of (select c.hypotheses))
selection_right c = go (select c.hypotheses) refl
  where
    go : (o : Option Selection) → select c.hypotheses ≡ o → IsRight c (number_of o)
    go None e = inl ((select-none c.hypotheses).0 e)
    go (Some at) e = (at, selected_there c.hypotheses at e, (select-first_of_largest c.hypotheses at e).selectable)

-- it is 0 exactly where nothing is selected
pub none_selected : (o : Option Selection) → number_of o ≡ 0 → o ≡ None
none_selected None e = refl
none_selected (Some at) e = cc

-- A clause that is listed without its number is so with one, and the other way round.
pub has_placed : (placed : List Placed) (c : Clause Term) → Has (clauses_in placed) c → (p : Placed) × Has placed p × (c ≡ p.clause)
has_placed placed c h = Has-map_source (λ p. p.clause) placed c h

pub placed_has : (placed : List Placed) (p : Placed) → Has placed p → Has (clauses_in placed) p.clause
placed_has placed p h = Has-map (λ p. p.clause) placed p h

-- The clauses that rest are those of number 0.
pub has_resting : (placed : List Placed) (c : Clause Term) → Has (resting_of placed) c → (p : Placed) × Has placed p × (p.number ≡ 0) × (c ≡ p.clause)
has_resting placed c h =
    let (p, kept, same) = Has-map_source (λ p. p.clause) (filter (λ p. nat_eq p.number 0) placed) c h in
    let (listed, zero_beside) = Has-filter_source (λ p. nat_eq p.number 0) placed p kept in
    (p, listed, eqb-true p.number 0 zero_beside, same)

pub resting_has : (placed : List Placed) (p : Placed) → Has placed p → p.number ≡ 0 → Has (resting_of placed) p.clause
resting_has placed p h e = Has-map (λ p. p.clause) (filter (λ p. nat_eq p.number 0) placed) p (Has-filter (λ p. nat_eq p.number 0) placed p h (ap (λ n. nat_eq n 0) e))

-- Clauses with the numbers of what is selected of them.
pub all_selected-clauses : (clauses : List (Clause Term)) → clauses_in (all_selected clauses) ≡ clauses
all_selected-clauses [] = refl
all_selected-clauses (c ∷ cs) = ap (λ ds. c ∷ ds) (all_selected-clauses cs)

pub has_selected : (clauses : List (Clause Term)) (p : Placed) → Has (all_selected clauses) p → Has clauses p.clause × (p ≡ with_selected p.clause)
has_selected clauses p h =
    let (c, listed, same) = Has-map_source with_selected clauses p h in
    let clause : p.clause ≡ c = ap (λ q. q.clause) same in
    (subst (Has clauses) (sym clause) listed, same ∙ ap with_selected (sym clause))

-- Of such a list those rest that are solved.
pub resting_solved : (clauses : List (Clause Term)) (c : Clause Term) → Has (resting_of (all_selected clauses)) c → Has (solved_of clauses) c
resting_solved clauses c h =
    let (p, listed, zero_beside, same) = has_resting (all_selected clauses) c h in
    let (has, number) = has_selected clauses p listed in
    let none = none_selected (select p.clause.hypotheses) (sym (ap (λ q. q.number) number) ∙ zero_beside) in
    subst (Has (solved_of clauses)) (sym same) (Has-filter (λ d. is_solved d.hypotheses) clauses p.clause has ((select-none p.clause.hypotheses).0 none))

-- A list is closed by selection where what its solved clauses give with each selected hypothesis is covered.
module _ (given clauses : List (Clause Term)) (normal : (c : Clause Term) → Has clauses c → IsNormal c) (covers : (c : Clause Term) → Has given c → IsCovered clauses c) (closed : (i j : Clause Term) (at : Selection) → Has clauses i → Has clauses j → is_solved i.hypotheses ≡ true → select j.hypotheses ≡ Some at → IsPairClosed clauses i j at) where
  selected_pair : (p q : Placed) (at : Selection) → Has (all_selected clauses) p → Has (all_selected clauses) q → p.number ≡ 0 → choice_of q.clause q.number ≡ Some at → IsPairClosed clauses p.clause q.clause at
  selected_pair p q at hp hq zero_beside chosen =
      let (has_p, is_p) = has_selected clauses p hp in
      let (has_q, is_q) = has_selected clauses q hq in
      let none = none_selected (select p.clause.hypotheses) (sym (ap (λ r. r.number) is_p) ∙ zero_beside) in
      let some = sym (selection_chosen q.clause) ∙ (ap (λ n. choice_of q.clause n) (sym (ap (λ r. r.number) is_q)) ∙ chosen) in
      closed p.clause q.clause at has_p has_q ((select-none p.clause.hypotheses).0 none) some

  pub closed_by_selection : Closes given clauses
  closed_by_selection = record {
    normal = λ p h. normal p.clause (has_selected clauses p h).0;
    right = λ p h. let is = (has_selected clauses p h).1 in subst (λ n. IsRight p.clause n) (sym (ap (λ r. r.number) is)) (selection_right p.clause);
    covers = λ c h. subst (λ cs. IsCovered cs c) (sym (all_selected-clauses clauses)) (covers c h);
    closed = λ p q at hp hq zero_beside chosen. subst (λ cs. IsPairClosed cs p.clause q.clause at) (sym (all_selected-clauses clauses)) (selected_pair p q at hp hq zero_beside chosen);
  }
