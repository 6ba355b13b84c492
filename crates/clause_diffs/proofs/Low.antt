-- The numbers of the variables in a constraint whose bound variables are numbered are low: the clause's are below `first`, and the
-- bound ones are below that and the constraint's size.
use Rattle.std.proofs.Common.{◌≡◌, ℕ, ◌+◌, ◌-◌, ◌<◌, ◌≤◌, Bool, true, false, not, nat_eq, nat_lt, List, [], ◌∷◌, ◌++◌, length, map, filter, refl, ap, sym, ◌∙◌, subst, arith}
use Rattle.std.specs.List.{AllByRecursion, list_any}
use Rattle.std.proofs.lemmas.List.{length-map}
use borrow.Author.Tests.{ltb-true, ltb-false}
use Rattle.spec_trees.specs.Tree.{size}
use Rattle.spec_terms.specs.Term.{Term}
use Rattle.spec_clauses.specs.Diff.{bound_variables, bound_place, numbered_diff, diff_size}
use Rattle.spec_clauses.specs.Distinct.{distinct, place_of}
use Rattle.spec_clauses.specs.Fact.{total}
use Rattle.spec_clauses.specs.Shown.{Shown, diff_shown, shown_variables}
use Rattle.spec_clauses.proofs.Distinct.{nat_eq-decides, stand_all, stands_distinct}
use Rattle.spec_clauses.proofs.DiffNumbering.{bound-rebound}
use Rattle.spec_clauses.proofs.Lists.{all_weaker}
use Rattle.spec_clauses.proofs.NormNumbers.{length-filter_le, length-distinct, length-terms}
use Rattle.term_tree.specs.declared.bank.Id.{Id}
use Rattle.clause_diffs.specs.Diffs.{DiffOf, shown_at, diff_at, diffs_at, AreDiffLeavesBelow, StartAt}
use Rattle.clause_diffs.proofs.Lists.{total-append}
use Rattle.clause_diffs.proofs.Numbered.{place_within, passing_all}
use Rattle.clause_diffs.proofs.Shown.{shown-bound}
use Rattle.clause_diffs.proofs.Sizes.{shown_size}

all_map : {X Y : Type 0} (P : Y → Type 0) (f : X → Y) (xs : List X) → AllByRecursion (λ x. P (f x)) xs → AllByRecursion P (map f xs)
all_map P f [] a = tt
all_map P f (x ∷ xs) a = (a.0, all_map P f xs a.1)

all_from_map : {X Y : Type 0} (P : Y → Type 0) (f : X → Y) (xs : List X) → AllByRecursion P (map f xs) → AllByRecursion (λ x. P (f x)) xs
all_from_map P f [] a = tt
all_from_map P f (x ∷ xs) a = (a.0, all_from_map P f xs a.1)

-- fewer bound variables than the constraint has symbols
bound_few : (d : Shown) → length (distinct nat_eq (bound_variables (diff_shown d))) < diff_size (diff_shown d)
bound_few d =
    let few : length (bound_variables (diff_shown d)) ≡ length (filter (λ x. not (nat_lt x d.first)) (shown_variables d)) = ap length (shown-bound d) ∙ length-map (filter (λ x. not (nat_lt x d.first)) (shown_variables d)) (λ x. x - d.first) in
    let most : length (filter (λ x. not (nat_lt x d.first)) (shown_variables d)) ≤ length (shown_variables d) = length-filter_le (λ x. not (nat_lt x d.first)) (shown_variables d) in
    let terms : length (shown_variables d) ≤ total size d.left + total size d.right = omega (arith, length-terms (d.left ++ d.right), total-append size d.left d.right) in
    omega (arith, length-distinct nat_eq (bound_variables (diff_shown d)), few, most, terms, shown_size d)

place_low : (d : Shown) (i : ℕ) → list_any (nat_eq i) (bound_variables (diff_shown d)) ≡ true → bound_place (diff_shown d) i < diff_size (diff_shown d)
place_low d i stands =
    let bs = bound_variables (diff_shown d) in
    let within : place_of i (distinct nat_eq (bound_variables (diff_shown d))) < length (distinct nat_eq (bound_variables (diff_shown d))) = place_within i (distinct nat_eq bs) (stands_distinct nat_eq nat_eq-decides i bs ∙ stands) in
    omega (arith, within, bound_few d)

-- so where they are numbered by their first occurrence, their numbers are below its size
bound_low : (d : Shown) → numbered_diff (diff_shown d) ≡ diff_shown d → AllByRecursion (λ i. i < diff_size (diff_shown d)) (bound_variables (diff_shown d))
bound_low d numbered =
    let bs = bound_variables (diff_shown d) in
    let is : map (bound_place (diff_shown d)) bs ≡ bs = sym (bound-rebound (bound_place (diff_shown d)) (diff_shown d)) ∙ ap bound_variables numbered in
    let each = all_weaker (λ i. list_any (nat_eq i) bs ≡ true) (λ i. bound_place (diff_shown d) i < diff_size (diff_shown d)) (place_low d) bs (stand_all bs) in
    subst (AllByRecursion (λ i. i < diff_size (diff_shown d))) is (all_map (λ i. i < diff_size (diff_shown d)) (bound_place (diff_shown d)) bs each)

low_one : (first n x : ℕ) → (not (nat_lt x first) ≡ true → (x - first) < n) → x < first + n
low_one first n x far = go (nat_lt x first) refl where
  go : (b : Bool) → nat_lt x first ≡ b → x < first + n
  go true e = let least = ltb-true x first e in omega arith
  go false e =
      let least = ltb-false x first e in
      let over = far (ap not e) in
      omega arith

pub shown_low : (d : Shown) → numbered_diff (diff_shown d) ≡ diff_shown d → AllByRecursion (λ x. x < d.first + diff_size (diff_shown d)) (shown_variables d)
shown_low d numbered =
    let n = diff_size (diff_shown d) in
    let above : ℕ → Bool = λ x. not (nat_lt x d.first) in
    let less = subst (AllByRecursion (λ i. i < n)) (shown-bound d) (bound_low d numbered) in
    let passing = passing_all (λ x. (x - d.first) < n) above (shown_variables d) (all_from_map (λ i. i < n) (λ x. x - d.first) (filter above (shown_variables d)) less) in
    all_weaker (λ x. above x ≡ true → (x - d.first) < n) (λ x. x < d.first + n) (low_one d.first n) (shown_variables d) passing

-- The same of constraints whose bound variables come from one number on.
pub low_diffs : (all : List Term) (ds : List (DiffOf Id)) (n m : ℕ) → StartAt n ds → AllByRecursion (λ d. numbered_diff d ≡ d) (diffs_at all ds) → n + total diff_size (diffs_at all ds) ≤ m → AllByRecursion (AreDiffLeavesBelow m all) ds
low_diffs all [] n m start numbered most = tt
low_diffs all (d ∷ ds) n m start numbered most =
    let here : n + (diff_size (diff_at all d) + total diff_size (diffs_at all ds)) ≤ m = most in
    let first : d.first ≡ n = start.0 in (
      all_weaker (λ x. x < d.first + diff_size (diff_at all d)) (λ x. x < m) (λ x least. omega (arith, here, first, least)) (shown_variables (shown_at all d)) (shown_low (shown_at all d) numbered.0),
      low_diffs all ds n m start.1 numbered.1 (omega (arith, here)),
    )
