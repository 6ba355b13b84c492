-- Rows of patterns.
use Rattle.std.proofs.Common.{◌≡◌, ℕ, zero, suc, ◌+◌, ◌<◌, List, [], ◌∷◌, ◌++◌, length, map, drop, get_or, ap, sym, ◌∙◌, append_assoc, arith}
use Rattle.std.proofs.lemmas.List.Elements.{filter_map-append}
use Rattle.spec_trees.specs.Tree.{trees}
use Rattle.spec_trees.specs.Leaves.{leaves, row_leaves}
use Rattle.pi_tree.specs.declared.syntax.Pat.{Pat}
use Rattle.pi_tree.specs.Patterns.{pattern_of}
use Rattle.spec_translation.specs.Conversion.{bound_number, bound_numbers}
use Rattle.unified_visits.specs.Numbers.{row_numbers}

-- what the next pattern of a row binds, and then the others
numbers_on : (items : List Pat) (i : ℕ) (p : Pat) → i < length items → p ≡ get_or items i p → row_numbers (trees (map pattern_of (drop i items))) ≡ bound_numbers (pattern_of p) ++ row_numbers (trees (map pattern_of (drop (suc i) items)))
numbers_on [] i p within is = absurd (omega arith)
numbers_on (q ∷ items) zero p within is = filter_map-append bound_number (leaves (pattern_of q)) (row_leaves (trees (map pattern_of items))) ∙ ap (λ x. bound_numbers (pattern_of x) ++ row_numbers (trees (map pattern_of items))) (sym is)
numbers_on (q ∷ items) (suc i) p within is = numbers_on items i p (omega arith) is

pub numbers_more : (before now next : List ℕ) (items : List Pat) (i : ℕ) (p : Pat) → i < length items → p ≡ get_or items i p → now ++ row_numbers (trees (map pattern_of (drop i items))) ≡ before → next ≡ now ++ bound_numbers (pattern_of p)
    → next ++ row_numbers (trees (map pattern_of (drop (i + 1) items))) ≡ before
numbers_more before now next items i p within is was e =
    let rest = row_numbers (trees (map pattern_of (drop (suc i) items))) in
    let one : i + 1 ≡ suc i = omega arith in
    ap (λ k. next ++ row_numbers (trees (map pattern_of (drop k items)))) one ∙ ap (λ l. l ++ rest) e ∙ (append_assoc now (bound_numbers (pattern_of p)) rest ∙ (ap (λ l. now ++ l) (sym (numbers_on items i p within is)) ∙ was))
