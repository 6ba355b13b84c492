-- Comparing sides over a bank, term by term, where p and q have what stands for the variables of either.
use Rattle.std.proofs.Common.{◌≡◌, ℕ, suc, ◌+◌, ◌<◌, ◌≤◌, Bool, true, false, ◌&&◌, List, [], ◌∷◌, length, map, drop, get_or, refl, ap, sym, ◌∙◌}
use Rattle.std.proofs.lemmas.List.{length-map}
use Rattle.spec_trees.specs.Tree.{Leaf, bind, node}
use Rattle.spec_trees.specs.Same.{same_tree}
use Rattle.spec_trees.proofs.Rows.{bind-node}
use Rattle.spec_terms.specs.Term.{Sym, Term, same_symbol}
use Rattle.spec_clauses.specs.Diff.{Side, Own, same_slot, same_sides}
use Rattle.spec_clauses.specs.Shown.{slot_shown}
use Rattle.spec_clauses.proofs.Equality.{same_symbol-decides, tests_same}
use Rattle.term_tree.specs.Bank.{tree_at}
use Rattle.term_tree.specs.declared.bank.Id.{Id}
use Rattle.term_tree.proofs.BankLaws.{ids_at, ids_past}

-- lists of different lengths differ
sides_differ : (ts us : List Side) → (length ts ≡ length us → ⊥) → false ≡ same_sides ts us
sides_differ [] [] differ = absurd (differ refl)
sides_differ [] (u ∷ us) differ = refl
sides_differ (t ∷ ts) [] differ = refl
sides_differ (t ∷ ts) (u ∷ us) differ = go (same_tree same_slot same_symbol t u) (sides_differ ts us (λ e. differ (ap suc e))) where
  go : (b : Bool) → false ≡ same_sides ts us → false ≡ (b && same_sides ts us)
  go true e = e
  go false e = refl

never_both : (a : Bool) → false ≡ (a && false)
never_both true = refl
never_both false = refl

-- the variables of a term of a clause, and of a side whose variables from `first` on are bound
abbrev pub as_own : ℕ → Side
as_own x = Leaf (Own x)

abbrev pub as_shown : ℕ → ℕ → Side
as_shown first x = Leaf (slot_shown first x)

module _ (all : List Term) (p q : ℕ → Side) where
  -- what ids are on the left, and on the right
  abbrev pub lefts : List Id → List Side
  lefts ids = map (bind p) (map (tree_at all) ids)

  abbrev pub rights : List Id → List Side
  rights ids = map (bind q) (map (tree_at all) ids)

  -- whether two terms are the same side
  abbrev pub alike : Id → Id → Bool
  alike x y = same_tree same_slot same_symbol (bind p (tree_at all x)) (bind q (tree_at all y))

  -- the terms at i in two lists, against the rest
  compared : (xs ys : List Id) (i : ℕ) (d : Id) → i < length xs → i < length ys → same_sides (lefts (drop i xs)) (rights (drop i ys)) ≡ (alike (get_or xs i d) (get_or ys i d) && same_sides (lefts (drop (i + 1) xs)) (rights (drop (i + 1) ys)))
  compared xs ys i d in_xs in_ys =
      ap (λ l. same_sides (lefts l) (rights (drop i ys))) (ids_at xs i d in_xs)
      ∙ ap (λ l. same_sides (lefts (get_or xs i d ∷ drop (i + 1) xs)) (rights l)) (ids_at ys i d in_ys)

  -- the test of the rest at i: it fails where the terms at i differ, goes on where they are the same, and passes at the end
  pub alike_fail : (xs ys : List Id) (i : ℕ) (d : Id) (whole : Bool) → whole ≡ same_sides (lefts (drop i xs)) (rights (drop i ys)) → i < length xs → i < length ys → alike (get_or xs i d) (get_or ys i d) ≡ false → false ≡ whole
  alike_fail xs ys i d whole rest in_xs in_ys differ =
      sym (rest ∙ (compared xs ys i d in_xs in_ys ∙ ap (λ b. b && same_sides (lefts (drop (i + 1) xs)) (rights (drop (i + 1) ys))) differ))

  pub alike_on : (xs ys : List Id) (i : ℕ) (d : Id) (whole : Bool) → whole ≡ same_sides (lefts (drop i xs)) (rights (drop i ys)) → i < length xs → i < length ys → alike (get_or xs i d) (get_or ys i d) ≡ true → whole ≡ same_sides (lefts (drop (i + 1) xs)) (rights (drop (i + 1) ys))
  alike_on xs ys i d whole rest in_xs in_ys same =
      rest ∙ (compared xs ys i d in_xs in_ys ∙ ap (λ b. b && same_sides (lefts (drop (i + 1) xs)) (rights (drop (i + 1) ys))) same)

  pub alike_end : (xs ys : List Id) (i : ℕ) (whole : Bool) → whole ≡ same_sides (lefts (drop i xs)) (rights (drop i ys)) → length xs ≤ i → length ys ≤ i → true ≡ whole
  alike_end xs ys i whole rest past_xs past_ys =
      sym (rest ∙ (ap (λ l. same_sides (lefts l) (rights (drop i ys))) (ids_past xs i past_xs) ∙ ap (λ l. same_sides (lefts []) (rights l)) (ids_past ys i past_ys)))

  -- lists of different lengths differ
  counted : (r : ℕ → Side) (ids : List Id) → length (map (bind r) (map (tree_at all) ids)) ≡ length ids
  counted r ids = length-map (map (tree_at all) ids) (bind r) ∙ length-map ids (tree_at all)

  pub alike_lengths : (xs ys : List Id) → (length xs ≡ length ys → ⊥) → false ≡ same_sides (lefts xs) (rights ys)
  alike_lengths xs ys differ = sides_differ (lefts xs) (rights ys) (λ e. differ (sym (counted p xs) ∙ (e ∙ counted q ys)))

  -- an application against another: symbols and arguments decide
  module _ (left right : Id) (f g : Sym) (xs ys : List Id) (is_left : tree_at all left ≡ node f (map (tree_at all) xs)) (is_right : tree_at all right ≡ node g (map (tree_at all) ys)) where
    applied_alike : alike left right ≡ (same_symbol f g && same_sides (lefts xs) (rights ys))
    applied_alike =
        let a : bind p (tree_at all left) ≡ node f (lefts xs) = ap (bind p) is_left ∙ bind-node p f (map (tree_at all) xs) in
        let b : bind q (tree_at all right) ≡ node g (rights ys) = ap (bind q) is_right ∙ bind-node q g (map (tree_at all) ys) in
        λ i. same_tree same_slot same_symbol (a i) (b i)

    pub other_symbols_apart : (f ≡ g → ⊥) → false ≡ alike left right
    other_symbols_apart differ =
        let apart : same_symbol f g ≡ false = sym (tests_same false (same_symbol f g) (λ e. cc) (λ e. absurd (differ ((same_symbol-decides f g).0 e)))) in
        sym (applied_alike ∙ ap (λ b. b && same_sides (lefts xs) (rights ys)) apart)

    pub other_lengths_apart : (length xs ≡ length ys → ⊥) → false ≡ alike left right
    other_lengths_apart differ = never_both (same_symbol f g) ∙ (ap (λ b. same_symbol f g && b) (alike_lengths xs ys differ) ∙ sym applied_alike)

    pub same_symbols_alike : (b : Bool) → f ≡ g → b ≡ same_sides (lefts xs) (rights ys) → b ≡ alike left right
    same_symbols_alike b same told = told ∙ sym (applied_alike ∙ ap (λ c. c && same_sides (lefts xs) (rights ys)) ((same_symbol-decides f g).1 same))
