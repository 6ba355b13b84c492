-- Places of closed terms, one term after another.
use Rattle.std.proofs.Common.{◌≡◌, ℕ, ◌<◌, ◌≤◌, List, [], ◌∷◌, ◌++◌, length, Option, None, Some, IfSome, option_and_then, option_map, refl, sym, ap, ◌∙◌, arith, append_assoc}
use Rattle.std.proofs.lemmas.List.{append-nil}
use Rattle.spec_trees.specs.Tree.{Trees, Leaf, Node, none, more, trees}
use Rattle.spec_calculus.specs.Syntax.{Protocol}
use Rattle.spec_calculus.specs.Values.{AttackerName}
use Rattle.spec_calculus.specs.Runs.{Build, Fresh}
use Rattle.spec_calculus.proofs.Items.{of_map}
use Rattle.spec_terms.specs.Term.{Sym, Term}
use Rattle.spec_attack_runs.specs.Compiling.{State, place_in, made_known, with_name, names_it, placed_root, or_else, placed, row_placed}
use Rattle.spec_attack_runs.specs.Attack.{most_steps}
use Rattle.attack_state.specs.declared.state.State.{State as MadeState}
use Rattle.attack_state.specs.Outcomes.{IsPlacedBy}
use Rattle.attack_state.specs.Placings.{placed_fresh}
use Rattle.attack_state.proofs.Behind.{row_placed_from, stuck_placing, makes_behind}
use Rattle.attack_state.proofs.SoFar.{front, PlacedSoFar}

module _ (P : Protocol) where
  -- a name of the attacker's own
  pub fresh_done : (t : Term) (st next : State) (place : ℕ) → made_known P Fresh st ≡ Some (place, next) → placed_fresh P t st ≡ Some (place, with_name t (Leaf (AttackerName st.configuration.next)) next)
  fresh_done t st next place e = ap (option_map (names_it st.configuration.next t)) e

  pub fresh_stuck : (t : Term) (st : State) → ((found : ℕ) (n : State) → made_known P Fresh st ≡ Some (found, n) → most_steps < length n.steps) → (found : ℕ) (next : State) → placed_fresh P t st ≡ Some (found, next) → most_steps < length next.steps
  fresh_stuck t st stuck found next e =
      let parts = of_map (names_it st.configuration.next t) (made_known P Fresh st) (found, next) e in
      let same : with_name t (Leaf (AttackerName st.configuration.next)) parts.0.1 ≡ next = ap (λ (x : ℕ × State). x.1) parts.2 in
      let many = stuck parts.0.0 parts.0.1 parts.1 in omega (arith, many, ap (λ (s : State). length s.steps) same)

  -- a term that has a place, and one that has none
  pub place_found : (t : Term) (st : State) (k : ℕ) → place_in st t ≡ Some k → placed P t st ≡ Some (k, st)
  unfolding placed
  place_found (Leaf x) st k e = cc
  place_found (Node f ts) st k e = ap (λ o. or_else (option_map (λ k. (k, st)) o) (λ u. placed_root P (Node f ts) f (row_placed P ts) st)) e

  pub place_lacking : (t : Term) (f : Sym) (ts : List Term) (st : State) → t ≡ Node f (trees ts) → place_in st t ≡ None → placed P t st ≡ placed_root P t f (row_placed P (trees ts)) st
  unfolding placed
  place_lacking t f ts st is e =
      let lacks : place_in st (Node f (trees ts)) ≡ None = ap (place_in st) (sym is) ∙ e in
      ap (λ (u : Term). placed P u st) is
      ∙ (ap (λ o. or_else (option_map (λ k. (k, st)) o) (λ u. placed_root P (Node f (trees ts)) f (row_placed P (trees ts)) st)) lacks
      ∙ ap (λ (u : Term). placed_root P u f (row_placed P (trees ts)) st) (sym is))

  pub place_of_variable : (t : Term) (x : ℕ) (st : State) → t ≡ Leaf x → placed P t st ≡ None
  unfolding placed
  place_of_variable t x st e = ap (λ (u : Term). placed P u st) e

  -- data that is built of parts
  pub built_stuck : (f : ℕ) (ts : List Term) (st : State) → ((ks : List ℕ) (s : State) → row_placed P (trees ts) st ≡ Some (ks, s) → most_steps < length s.steps)
      → (found : ℕ) (next : State) → option_and_then (λ ks. made_known P (Build f ks.0) ks.1) (row_placed P (trees ts) st) ≡ Some (found, next) → most_steps < length next.steps
  built_stuck f ts st stuck = stuck_placing P (row_placed P (trees ts) st) (λ ks. made_known P (Build f ks.0) ks.1) (makes_behind P (λ ks. Build f ks)) stuck

  pub built_behind : (f : ℕ) (ts : List Term) (st s : State) (ks : List ℕ) → row_placed P (trees ts) st ≡ Some (ks, s) → option_and_then (λ ks. made_known P (Build f ks.0) ks.1) (row_placed P (trees ts) st) ≡ made_known P (Build f ks) s
  built_behind f ts st s ks e = ap (option_and_then (λ (ks : List ℕ × State). made_known P (Build f ks.0) ks.1)) e

  -- a row
  -- a place stands before the others
  abbrev behind : ℕ → List ℕ × State → List ℕ × State
  behind k x = (k ∷ x.0, x.1)

  abbrev others_placed : Trees ℕ Sym → ℕ × State → Option (List ℕ × State)
  others_placed ts first = option_map (behind first.0) (row_placed P ts first.1)

  row_step : (t : Term) (ts : Trees ℕ Sym) (st : State) → row_placed P (more t ts) st ≡ option_and_then (others_placed ts) (placed P t st)
  unfolding placed
  row_step t ts st = refl

  row_end : (st : State) → row_placed P none st ≡ Some ([], st)
  unfolding placed
  row_end st = refl

  regrouped : (places : List ℕ) (k : ℕ) (o : Option (List ℕ × State)) → option_map (front places) (option_map (behind k) o) ≡ option_map (front (places ++ k ∷ [])) o
  regrouped places k None = refl
  regrouped places k (Some x) = ap (λ (l : List ℕ). let y : List ℕ × State = (l, x.1) in Some y) (sym (append_assoc places (k ∷ []) x.0))

  pub placed_more : (all : List Term) (ts rest : Trees ℕ Sym) (t : Term) (others : Trees ℕ Sym) (st : State) (places more_places : List ℕ) (k : ℕ) (ids new : MadeState) → rest ≡ more t others → more_places ≡ places ++ k ∷ []
      → (so_far : PlacedSoFar P all ts rest st places ids) → IsPlacedBy (placed P t) so_far.next all new k → PlacedSoFar P all ts others st more_places new
  placed_more all ts rest t others st places more_places k ids new is more_is so_far one = record {
    next = one.next;
    is = one.is;
    same = so_far.same ∙ (ap (λ (r : Trees ℕ Sym). option_map (front places) (row_placed P r so_far.next)) is
        ∙ (ap (option_map (front places)) (row_step t others so_far.next ∙ ap (option_and_then (others_placed others)) one.gives)
        ∙ (regrouped places k (row_placed P others one.next) ∙ ap (λ (l : List ℕ). option_map (front l) (row_placed P others one.next)) (sym more_is))));
  }

  pub placed_end : (all : List Term) (ts rest : Trees ℕ Sym) (st : State) (places : List ℕ) (ids : MadeState) → rest ≡ none → PlacedSoFar P all ts rest st places ids → IsPlacedBy (row_placed P ts) st all ids places
  placed_end all ts rest st places ids is so_far = record {
    next = so_far.next;
    gives = so_far.same ∙ (ap (λ (r : Trees ℕ Sym). option_map (front places) (row_placed P r so_far.next)) is
        ∙ (ap (option_map (front places)) (row_end so_far.next) ∙ ap (λ (l : List ℕ). let y : List ℕ × State = (l, so_far.next) in Some y) (append-nil places)));
    is = so_far.is;
  }

  kept : (k count : ℕ) (o : Option (List ℕ × State)) → IfSome o (λ y. count ≤ length y.1.steps) → IfSome (option_map (behind k) o) (λ y. count ≤ length y.1.steps)
  kept k count None h = tt
  kept k count (Some y) h = h

  row_behind : (others : Trees ℕ Sym) (x : ℕ × State) → IfSome (others_placed others x) (λ y. length x.1.steps ≤ length y.1.steps)
  row_behind others x = kept x.0 (length x.1.steps) (row_placed P others x.1) (row_placed_from P (length x.1.steps) others x.1 (omega arith))

  pub placed_stop : (all : List Term) (ts rest : Trees ℕ Sym) (t : Term) (others : Trees ℕ Sym) (st : State) (places : List ℕ) (ids : MadeState) → rest ≡ more t others → (so_far : PlacedSoFar P all ts rest st places ids)
      → ((k : ℕ) (s : State) → placed P t so_far.next ≡ Some (k, s) → most_steps < length s.steps) → (found : List ℕ) (next : State) → row_placed P ts st ≡ Some (found, next) → most_steps < length next.steps
  placed_stop all ts rest t others st places ids is so_far stuck found next e =
      let through : option_map (front places) (row_placed P rest so_far.next) ≡ Some (found, next) = sym so_far.same ∙ e in
      let parts = of_map (front places) (row_placed P rest so_far.next) (found, next) through in
      let here : option_and_then (others_placed others) (placed P t so_far.next) ≡ Some (parts.0.0, parts.0.1) = sym (row_step t others so_far.next) ∙ (ap (λ (r : Trees ℕ Sym). row_placed P r so_far.next) (sym is) ∙ parts.1) in
      let many = stuck_placing P (placed P t so_far.next) (others_placed others) (row_behind others) stuck parts.0.0 parts.0.1 here in
      let same : parts.0.1 ≡ next = ap (λ (y : List ℕ × State). y.1) parts.2 in
      omega (arith, many, ap (λ (s : State). length s.steps) same)
