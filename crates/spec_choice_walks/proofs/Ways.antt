-- How choices go on that stand in a row, and those that begin with a row whose equations have no unifier.
use Rattle.std.proofs.Common.{◌≡◌, ◌∙◌, ℕ, zero, suc, Option, None, List, [], ◌∷◌, ◌++◌, length, map, take, drop, refl, ap, sym, subst}
use Rattle.std.specs.List.{AllByRecursion}
use Rattle.std.proofs.lemmas.List.{map-append, length-map}
use Rattle.spec_trees.specs.Tree.{bind}
use Rattle.spec_calculus.specs.Syntax.{Pattern, Ruled, Protocol}
use Rattle.spec_terms.specs.Term.{Subst}
use Rattle.spec_clauses.specs.Variables.{AreBelow}
use Rattle.spec_translation.specs.Visit.{Visit, visit_terms}
use Rattle.spec_translation.specs.Choice.{EachGoesOn}
use Rattle.spec_translation.proofs.Lets.{goes_nowhere}
use Rattle.spec_choice_walks.specs.Instructions.{Instruction, completions, BecomesOne}
use Rattle.spec_choice_walks.specs.Stage.{arguments_of_row, sides_of_row}
use Rattle.spec_choice_walks.proofs.Completing.{take_first}
use Rattle.spec_choice_walks.proofs.Beginning.{BeginsWith, all_begin}

first_of : {A : Type 0} (xs ys others more : List A) → length xs ≡ length ys → xs ++ others ≡ ys ++ more → xs ≡ ys
first_of xs ys others more long e = sym (take_first xs others) ∙ (ap (take (length xs)) e ∙ (ap (λ n. take n (ys ++ more)) long ∙ take_first ys more))

module _ (P : Protocol) (v : Visit) (pattern : Pattern) where
  pub each-append : (xs ys : List Ruled) (os ps : List (Option Visit)) → EachGoesOn P v pattern xs os → EachGoesOn P v pattern ys ps → EachGoesOn P v pattern (xs ++ ys) (os ++ ps)
  each-append [] ys os ps a b = subst (λ l. EachGoesOn P v pattern ys (l ++ ps)) (sym a) b
  each-append (x ∷ xs) ys os ps a b = subst (λ l. EachGoesOn P v pattern (x ∷ (xs ++ ys)) (l ++ ps)) (sym a.4) (a.0, a.1 ++ ps, a.2, each-append xs ys a.1 ps a.3 b, refl)

  pub each-drop : (n : ℕ) (xs : List Ruled) (os : List (Option Visit)) → EachGoesOn P v pattern xs os → EachGoesOn P v pattern (drop n xs) (drop n os)
  each-drop zero xs os a = a
  each-drop (suc n) [] os a = subst (λ l. EachGoesOn P v pattern [] (drop (suc n) l)) (sym a) refl
  each-drop (suc n) (x ∷ xs) os a = subst (λ l. EachGoesOn P v pattern (drop n xs) (drop (suc n) l)) (sym a.4) (each-drop n xs a.1 a.3)

  pub each-take : (n : ℕ) (xs : List Ruled) (os : List (Option Visit)) → EachGoesOn P v pattern xs os → EachGoesOn P v pattern (take n xs) (take n os)
  each-take zero xs os a = refl
  each-take (suc n) [] os a = subst (λ l. EachGoesOn P v pattern [] (take (suc n) l)) (sym a) refl
  each-take (suc n) (x ∷ xs) os a = subst (λ l. EachGoesOn P v pattern (x ∷ take n xs) (take (suc n) l)) (sym a.4) (a.0, take n a.1, a.2, each-take n xs a.1 a.3, refl)

  module _ (base : ℕ) (row : List Ruled) (new : AreBelow base (visit_terms v)) (even : length (arguments_of_row P v.scope base row) ≡ length (sides_of_row P v.scope base row))
      (never : (s : Subst) → map (bind s) (arguments_of_row P v.scope base row) ≡ map (bind s) (sides_of_row P v.scope base row) → ⊥) where
    nowhere_each : (rs : List Ruled) → AllByRecursion (BeginsWith P v.scope base row) rs → EachGoesOn P v pattern rs (map (λ r. None) rs)
    nowhere_each [] b = refl
    nowhere_each (r ∷ rs) b =
        let xs = arguments_of_row P v.scope base row in
        let ys = sides_of_row P v.scope base row in
        let here = goes_nowhere P v pattern r base new (λ s e.
        never s (first_of (map (bind s) xs) (map (bind s) ys) (map (bind s) b.0.more_arguments) (map (bind s) b.0.more_sides) (length-map xs (bind s) ∙ (even ∙ sym (length-map ys (bind s))))
        (sym (map-append (bind s) xs b.0.more_arguments) ∙ (ap (map (bind s)) (sym b.0.arguments_are) ∙ (e ∙ (ap (map (bind s)) b.0.sides_are ∙ map-append (bind s) ys b.0.more_sides)))))) in
        (None, map (λ r. None) rs, here, nowhere_each rs b.1, refl)

    pub all_nowhere : (instructions : List Instruction) → BecomesOne (length row) instructions → EachGoesOn P v pattern (completions P instructions row) (map (λ r. None) (completions P instructions row))
    all_nowhere instructions one = nowhere_each (completions P instructions row) (all_begin P v.scope base instructions row one)
