-- Each choice of rules that instructions leave fits, where each destructor takes as many parts as its rules have left sides.
use Rattle.std.proofs.Common.{◌≡◌, ◌∙◌, ℕ, ◌-◌, ◌≤◌, true, ◌&&◌, List, [], ◌∷◌, ◌++◌, length, take, drop, refl, sym, subst, arith}
use Rattle.std.specs.Prelude.{filter}
use Rattle.std.specs.List.{AllByRecursion}
use Rattle.std.proofs.ByRecursion.{All-take, All-drop}
use Rattle.std.proofs.lemmas.Bool.{eq-eqb}
use Rattle.std.proofs.lemmas.List.{length-append, length-drop}
use Rattle.spec_trees.specs.Tree.{Leaf, Node, trees}
use Rattle.spec_calculus.specs.Syntax.{Head, Builds, Calls, Rule, Ruled, Protocol}
use Rattle.spec_calculus.specs.Matching.{rules_of}
use Rattle.spec_clauses.proofs.Lists.{all_append, all_weaker, all-flat_map}
use Rattle.spec_clauses.proofs.Distinct.{filter-all}
use Rattle.spec_translation.specs.Conversion.{row_length}
use Rattle.spec_translation.specs.Applied.{fits, row_fits}
use Rattle.spec_choice_walks.specs.Instructions.{Instruction, Push, Apply, joined_last, completions, BecomesOne}
use Rattle.spec_choice_walks.proofs.Counting.{length-joined}
use Rattle.visit_choices.specs.declared.choice.Choosing.{Choosing}
use Rattle.unified_visits.specs.Places.{protocol_at}
use Rattle.unified_visits.specs.Short.{IsFitInstruction}
use Rattle.visit_choices.specs.Walks.{instructions_of, choices_of, IsChoosingIn}
use Rattle.spec_terms.specs.Term.{Term}

abbrev Fits : Ruled → Type 0
Fits r = fits r ≡ true

abbrev AreFitting : List Ruled → Type 0
AreFitting rs = AllByRecursion Fits rs

rows_fit : (rs : List Ruled) → AreFitting rs → row_fits (trees rs) ≡ true
rows_fit [] a = refl
rows_fit (r ∷ rs) a = let first = a.0 in let others = rows_fit rs a.1 in λ i. first i && others i

rows_count : (rs : List Ruled) → row_length (trees rs) ≡ length rs
rows_count [] = refl
rows_count (r ∷ rs) = let h = rows_count rs in omega (arith, h)

-- a rule has as many left sides as it takes parts
abbrev IsFullOf : Head Rule → ℕ → Type 0
IsFullOf (Builds f) count = Unit {0}
IsFullOf (Calls rule) count = length rule.left ≡ count

node_fits : (head : Head Rule) (rs : List Ruled) → AreFitting rs → IsFullOf head (length rs) → fits (Node head (trees rs)) ≡ true
node_fits (Builds f) rs a full = rows_fit rs a
node_fits (Calls rule) rs a full =
    let fit = rows_fit rs a in
    let arity = eq-eqb (length rule.left) (row_length (trees rs)) (full ∙ sym (rows_count rs)) in
    λ i. fit i && arity i

joined_fit : (head : Head Rule) (count : ℕ) (rs : List Ruled) → count ≤ length rs → IsFullOf head count → AreFitting rs → AreFitting (joined_last head count rs)
joined_fit head count rs within full a =
    let n = length rs - count in
    let last : length (drop n rs) ≡ count = length-drop n rs ∙ omega (arith, within) in
    all_append Fits (take n rs) (Node head (trees (drop n rs)) ∷ []) (All-take Fits n rs a) (node_fits head (drop n rs) (All-drop Fits n rs a) (subst (IsFullOf head) (sym last) full), tt)

completions_fit : (P : Protocol) (parts : List Instruction) (rs : List Ruled) → AllByRecursion (IsFitInstruction P) parts → BecomesOne (length rs) parts → AreFitting rs → AreFitting (completions P parts rs)
completions_fit P [] rs each one a = a
completions_fit P (Push t ∷ parts) rs each one a =
    completions_fit P parts (rs ++ Leaf t ∷ []) each.1 (subst (λ n. BecomesOne n parts) (sym (length-append rs (Leaf t ∷ []))) one) (all_append Fits rs (Leaf t ∷ []) a (refl, tt))
completions_fit P (Apply (Builds f) count ∷ parts) rs each one a =
    completions_fit P parts (joined_last (Builds f) count rs) each.1 (subst (λ n. BecomesOne n parts) (sym (length-joined (Builds f) count rs)) one.1) (joined_fit (Builds f) count rs one.0 tt a)
completions_fit P (Apply (Calls d) count ∷ parts) rs each one a =
    let by = λ (rule : Rule). completions P parts (joined_last (Calls rule) count rs) in
    all-flat_map Fits by (rules_of P d)
    (all_weaker (λ (rule : Rule). length rule.left ≡ count) (λ (rule : Rule). AreFitting (by rule))
    (λ rule full. completions_fit P parts (joined_last (Calls rule) count rs) each.1 (subst (λ n. BecomesOne n parts) (sym (length-joined (Calls rule) count rs)) one.1) (joined_fit (Calls rule) count rs one.0 full a)) (rules_of P d) each.0)

-- so no choice is left out
pub all_choices_fit : (all : List Term) (choosing : Choosing) → IsChoosingIn all choosing → filter fits (choices_of choosing) ≡ choices_of choosing
all_choices_fit all choosing known = filter-all fits (choices_of choosing) (completions_fit (protocol_at choosing.place.now) (instructions_of choosing) [] known.fit.each known.fit.one tt)
