-- Terms whose symbols pass a test with their numbers of arguments: kept by substitutions, and so by most general unifiers of such terms,
-- since a symbol that doesn't pass can be left out of each unifier.
use Rattle.std.proofs.Common.{◌≡◌, ◌⊎◌, ◌∙◌, ℕ, ◌+◌, List, [], ◌∷◌, map, refl, ap, sym, subst, inl, inr}
use Rattle.std.specs.List.{AllByRecursion}
use Rattle.spec_trees.specs.Tree.{Tree, Trees, Leaf, Node, none, more, bind, binds}
use Rattle.spec_well_formed.specs.Terms.{row_length, EachSymbol, EachSymbolInRow}
use Rattle.spec_terms.specs.Term.{Sym, Term, Subst}
use Rattle.spec_terms.specs.Unifier.{IsMostGeneral}

-- a substitution keeps how many terms stand in a row
pub row_length-binds : {X Y : Type 0} (s : X → Tree Y Sym) (ts : Trees X Sym) → row_length (binds s ts) ≡ row_length ts
row_length-binds s none = refl
row_length-binds s (more t ts) = ap (λ n. n + 1) (row_length-binds s ts)

-- the term where the first holds, and a variable where it doesn't
abbrev where_first : {A B : Type 0} → A ⊎ B → Term → Term
where_first (inl a) t = t
where_first (inr b) t = Leaf 0

where_it_holds : {A : Type 0} (d : A ⊎ (A → ⊥)) (t : Term) → A → where_first d t ≡ t
where_it_holds (inl a) t h = refl
where_it_holds (inr never) t h = absurd (never h)

module _ (Q : Sym → ℕ → Type 0) where
  mutual
    pub bind-over : {X Y : Type 0} (s : X → Tree Y Sym) → ((x : X) → EachSymbol Q (s x)) → (t : Tree X Sym) → EachSymbol Q t → EachSymbol Q (bind s t)
    bind-over s each (Leaf x) h = each x
    bind-over s each (Node f args) h = (subst (Q f) (sym (row_length-binds s args)) h.0, binds-over s each args h.1)

    binds-over : {X Y : Type 0} (s : X → Tree Y Sym) → ((x : X) → EachSymbol Q (s x)) → (ts : Trees X Sym) → EachSymbolInRow Q ts → EachSymbolInRow Q (binds s ts)
    binds-over s each none h = tt
    binds-over s each (more t ts) h = (bind-over s each t h.0, binds-over s each ts h.1)

  mutual
    over-before : (s : Subst) (t : Term) → EachSymbol Q (bind s t) → EachSymbol Q t
    over-before s (Leaf x) h = tt
    over-before s (Node f args) h = (subst (Q f) (row_length-binds s args) h.0, row_over-before s args h.1)

    row_over-before : (s : Subst) (ts : Trees ℕ Sym) → EachSymbolInRow Q (binds s ts) → EachSymbolInRow Q ts
    row_over-before s none h = tt
    row_over-before s (more t ts) h = (over-before s t h.0, row_over-before s ts h.1)

  -- where the test is decided, a term with a variable in the place of each part whose symbol doesn't pass
  module _ (decide : (f : Sym) (n : ℕ) → Q f n ⊎ (Q f n → ⊥)) where
    abbrev mutual
      pub cleaned : Term → Term
      cleaned (Leaf x) = Leaf x
      cleaned (Node f args) = where_first (decide f (row_length args)) (Node f (cleaned_row args))

      cleaned_row : Trees ℕ Sym → Trees ℕ Sym
      cleaned_row none = none
      cleaned_row (more t ts) = more (cleaned t) (cleaned_row ts)

    abbrev pub cleaned_under : Subst → Subst
    cleaned_under s x = cleaned (s x)

    cleaned_row-length : (ts : Trees ℕ Sym) → row_length (cleaned_row ts) ≡ row_length ts
    cleaned_row-length none = refl
    cleaned_row-length (more t ts) = ap (λ n. n + 1) (cleaned_row-length ts)

    mutual
      cleaned-over : (t : Term) → EachSymbol Q (cleaned t)
      cleaned-over (Leaf x) = tt
      cleaned-over (Node f args) = go (decide f (row_length args)) (cleaned_row-over args) where
        go : (d : Q f (row_length args) ⊎ (Q f (row_length args) → ⊥)) → EachSymbolInRow Q (cleaned_row args) → EachSymbol Q (where_first d (Node f (cleaned_row args)))
        go (inl h) row = (subst (Q f) (sym (cleaned_row-length args)) h, row)
        go (inr never) row = tt

      cleaned_row-over : (ts : Trees ℕ Sym) → EachSymbolInRow Q (cleaned_row ts)
      cleaned_row-over none = tt
      cleaned_row-over (more t ts) = (cleaned-over t, cleaned_row-over ts)

    -- a term that passes is cleaned under a substitution where the substitution is
    mutual
      pub cleaned-bind : (s : Subst) (t : Term) → EachSymbol Q t → cleaned (bind s t) ≡ bind (cleaned_under s) t
      cleaned-bind s (Leaf x) h = refl
      cleaned-bind s (Node f args) h =
          where_it_holds (decide f (row_length (binds s args))) (Node f (cleaned_row (binds s args))) (subst (Q f) (sym (row_length-binds s args)) h.0) ∙ ap (Node f) (cleaned_row-binds s args h.1)

      cleaned_row-binds : (s : Subst) (ts : Trees ℕ Sym) → EachSymbolInRow Q ts → cleaned_row (binds s ts) ≡ binds (cleaned_under s) ts
      cleaned_row-binds s none h = refl
      cleaned_row-binds s (more t ts) h =
          let first = cleaned-bind s t h.0 in let others = cleaned_row-binds s ts h.1 in λ i. more (first i) (others i)

    pub cleaned-binds : (s : Subst) (ts : List Term) → AllByRecursion (EachSymbol Q) ts → map cleaned (map (bind s) ts) ≡ map (bind (cleaned_under s)) ts
    cleaned-binds s [] h = refl
    cleaned-binds s (t ∷ ts) h = let first = cleaned-bind s t h.0 in let others = cleaned-binds s ts h.1 in λ i. first i ∷ others i

    -- A most general one among substitutions that may be cleaned has terms that pass.
    pub most_general-over : (Accepted : Subst → Type 0) (s : Subst) → IsMostGeneral Accepted s → Accepted (cleaned_under s) → (x : ℕ) → EachSymbol Q (s x)
    most_general-over Accepted s most may x =
        let (q, same) = most.most (cleaned_under s) may in
        over-before q (s x) (subst (EachSymbol Q) (sym (same x)) (cleaned-over (s x)))
