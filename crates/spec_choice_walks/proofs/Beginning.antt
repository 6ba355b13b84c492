-- The equations of each completion of a row begin with those of the row.
use Rattle.std.proofs.Common.{◌≡◌, ◌∙◌, ℕ, ◌+◌, ◌-◌, List, [], ◌∷◌, ◌++◌, length, map, take, drop, ap, sym, subst, arith}
use Rattle.std.specs.List.{AllByRecursion}
use Rattle.std.proofs.lemmas.List.{append_assoc, append-nil, length-append, take-append-drop}
use Rattle.spec_trees.specs.Tree.{Leaf}
use Rattle.spec_calculus.specs.Syntax.{Builds, Calls, Rule, Ruled, Protocol}
use Rattle.spec_calculus.specs.Matching.{rules_of}
use Rattle.spec_calculus.proofs.Items.{each-flat_map}
use Rattle.spec_terms.specs.Term.{Term}
use Rattle.spec_translation.specs.Conversion.{Scope, term_in, rule_term}
use Rattle.spec_translation.specs.Applied.{ruled_arguments, ruled_sides}
use Rattle.spec_choice_walks.specs.Instructions.{Instruction, Push, Apply, joined_last, completions, BecomesOne}
use Rattle.spec_choice_walks.specs.Stage.{terms_of_row, arguments_of_row, sides_of_row, width_of_row, Begins}
use Rattle.spec_choice_walks.proofs.Counting.{length-joined}
use Rattle.spec_choice_walks.proofs.Rows.{arguments-whole, sides-whole, arguments-built, sides-built, arguments-called, sides-called}

module _ (P : Protocol) (scope : Scope) (base : ℕ) where
  -- a completion whose equations begin with those of the row
  abbrev pub BeginsWith : List Ruled → Ruled → Type 0
  BeginsWith row ruled = Begins (arguments_of_row P scope base row) (sides_of_row P scope base row) (ruled_arguments P (term_in P scope) (rule_term P) base ruled) (ruled_sides P (term_in P scope) (rule_term P) base ruled)

  later : (row : List Ruled) (arguments sides : List Term) (ruled : Ruled) (more_arguments more_sides : List Term) → arguments ≡ arguments_of_row P scope base row ++ more_arguments → sides ≡ sides_of_row P scope base row ++ more_sides
      → Begins arguments sides (ruled_arguments P (term_in P scope) (rule_term P) base ruled) (ruled_sides P (term_in P scope) (rule_term P) base ruled) → BeginsWith row ruled
  later row arguments sides ruled xs ys e f b = record {
    more_arguments = xs ++ b.more_arguments;
    more_sides = ys ++ b.more_sides;
    arguments_are = b.arguments_are ∙ (ap (λ ts. ts ++ b.more_arguments) e ∙ append_assoc (arguments_of_row P scope base row) xs b.more_arguments);
    sides_are = b.sides_are ∙ (ap (λ ts. ts ++ b.more_sides) f ∙ append_assoc (sides_of_row P scope base row) ys b.more_sides);
  }

  of_each : {A : Type 0} (Q R : A → Type 0) → ((x : A) → Q x → R x) → (xs : List A) → AllByRecursion Q xs → AllByRecursion R xs
  of_each Q R gives [] h = tt
  of_each Q R gives (x ∷ xs) h = (gives x h.0, of_each Q R gives xs h.1)

  of_all : {A : Type 0} (Q : A → Type 0) → ((x : A) → Q x) → (xs : List A) → AllByRecursion Q xs
  of_all Q all [] = tt
  of_all Q all (x ∷ xs) = (all x, of_all Q all xs)

  pub all_begin : (parts : List Instruction) (row : List Ruled) → BecomesOne (length row) parts → AllByRecursion (BeginsWith row) (completions P parts row)
  all_begin [] (r ∷ []) one =
      let arguments = ruled_arguments P (term_in P scope) (rule_term P) base r in
      let sides = ruled_sides P (term_in P scope) (rule_term P) base r in
      (record { more_arguments = []; more_sides = []; arguments_are = sym (append-nil (arguments ++ []) ∙ append-nil arguments); sides_are = sym (append-nil (sides ++ []) ∙ append-nil sides) }, tt)
  all_begin [] [] one = tt
  all_begin [] (r ∷ s ∷ row) one = absurd (omega (arith, one))
  all_begin (Push t ∷ parts) row one =
      let next = row ++ Leaf t ∷ [] in
      of_each (BeginsWith next) (BeginsWith row)
      (λ r b. later row (arguments_of_row P scope base next) (sides_of_row P scope base next) r [] [] (arguments-whole P scope base row t ∙ sym (append-nil (arguments_of_row P scope base row))) (sides-whole P scope base row t ∙ sym (append-nil (sides_of_row P scope base row))) b)
      (completions P parts next) (all_begin parts next (subst (λ n. BecomesOne n parts) (sym (length-append row (Leaf t ∷ []))) one))
  all_begin (Apply (Builds f) count ∷ parts) row one =
      let next = joined_last (Builds f) count row in
      let n = length row - count in
      let xs = take n row in
      let ys = drop n row in
      let same = take-append-drop n row in
      of_each (BeginsWith next) (BeginsWith row)
      (λ r b. later row (arguments_of_row P scope base next) (sides_of_row P scope base next) r [] []
      (arguments-built P scope base xs ys f ∙ (ap (λ l. arguments_of_row P scope base l) same ∙ sym (append-nil (arguments_of_row P scope base row))))
      (sides-built P scope base xs ys f ∙ (ap (λ l. sides_of_row P scope base l) same ∙ sym (append-nil (sides_of_row P scope base row)))) b)
      (completions P parts next) (all_begin parts next (subst (λ k. BecomesOne k parts) (sym (length-joined (Builds f) count row)) one.1))
  all_begin (Apply (Calls d) count ∷ parts) row one =
      let n = length row - count in
      let xs = take n row in
      let ys = drop n row in
      let same = take-append-drop n row in
      each-flat_map (BeginsWith row) (λ rule. completions P parts (joined_last (Calls rule) count row)) (rules_of P d)
      (of_all (λ (rule : Rule). AllByRecursion (BeginsWith row) (completions P parts (joined_last (Calls rule) count row)))
      (λ rule. let next = joined_last (Calls rule) count row in
      of_each (BeginsWith next) (BeginsWith row)
      (λ r b. later row (arguments_of_row P scope base next) (sides_of_row P scope base next) r (terms_of_row P scope (base + width_of_row xs) ys) (map (rule_term P (base + width_of_row (xs ++ ys))) rule.left)
      (arguments-called P scope base xs ys rule ∙ ap (λ l. arguments_of_row P scope base l ++ terms_of_row P scope (base + width_of_row xs) ys) same)
      (sides-called P scope base xs ys rule ∙ ap (λ l. sides_of_row P scope base l ++ map (rule_term P (base + width_of_row (xs ++ ys))) rule.left) same) b)
      (completions P parts next) (all_begin parts next (subst (λ k. BecomesOne k parts) (sym (length-joined (Calls rule) count row)) one.1)))
      (rules_of P d))
