-- The laws of flat: substitution, variables, sizes.
use Rattle.std.proofs.Common.{◌≡◌, ℕ, true, false, cond, List, [], ◌∷◌, map, refl, ap, sym, ◌∙◌}
use Rattle.std.specs.Prelude.{flat_map}
use Rattle.std.proofs.lemmas.List.{map-append, append-nil}
use Rattle.std.proofs.lemmas.List.Concat.{flat_map-append}
use Rattle.spec_trees.specs.Tree.{Trees, Leaf, Node, none, more, bind, binds}
use Rattle.spec_terms.specs.Term.{Sym, Term}
use Rattle.spec_clauses.specs.Fact.{Fact, Att, Mess, Tab, Ev, Mev, Bad, Clause, fact_under, clause_under}
use Rattle.spec_clauses.specs.Variables.{leaves, row_leaves, fact_variables}
use Rattle.spec_clauses.specs.Diff.{Diff, diff_under}
use Rattle.spec_clauses.specs.Flat.{is_data, parts, row_parts, flat, flat_parts}
use Rattle.spec_clauses.specs.Renaming.{renaming}

-- the variables of the parts are the variables of the term
mutual
  pub leaves-parts : (x : Term) → flat_map leaves (parts x) ≡ leaves x
  leaves-parts (Leaf x) = refl
  leaves-parts (Node f args) = elim (is_data f) as (λ b. flat_map leaves (cond b (row_parts args) (Node f args ∷ [])) ≡ row_leaves args) [
    | true ↦ leaves-row_parts args
    | false ↦ append-nil (row_leaves args)
  ]

  pub leaves-row_parts : (xs : Trees ℕ Sym) → flat_map leaves (row_parts xs) ≡ row_leaves xs
  leaves-row_parts none = refl
  leaves-row_parts (more x xs) = let joined = flat_map-append leaves (parts x) (row_parts xs) in cc (leaves-parts x, leaves-row_parts xs)

variables-known : (phase : ℕ) (xs : List Term) → flat_map fact_variables (map (Att phase) xs) ≡ flat_map leaves xs
variables-known phase [] = refl
variables-known phase (x ∷ xs) = cc (append-nil (leaves x), variables-known phase xs)

pub fact_variables-flat : (h : Fact Term) → flat_map fact_variables (flat h) ≡ fact_variables h
fact_variables-flat (Att phase t) = variables-known phase (parts t) ∙ (leaves-parts t ∙ sym (append-nil (leaves t)))
fact_variables-flat (Mess phase t u) = append-nil (fact_variables (Mess phase t u))
fact_variables-flat (Tab e ts) = append-nil (fact_variables (Tab e ts))
fact_variables-flat (Ev e ts) = append-nil (fact_variables (Ev e ts))
fact_variables-flat (Mev e ts) = append-nil (fact_variables (Mev e ts))
fact_variables-flat (Bad ts) = append-nil (fact_variables (Bad ts))

-- the flat of what is renamed is the renamed flat
module _ (r : ℕ → ℕ) where
  mutual
    parts-renamed : (x : Term) → parts (bind (renaming r) x) ≡ map (bind (renaming r)) (parts x)
    parts-renamed (Leaf x) = refl
    parts-renamed (Node f args) = elim (is_data f) as (λ b. cond b (row_parts (binds (renaming r) args)) (bind (renaming r) (Node f args) ∷ []) ≡ map (bind (renaming r)) (cond b (row_parts args) (Node f args ∷ []))) [
      | true ↦ row_parts-renamed args
      | false ↦ refl
    ]

    row_parts-renamed : (xs : Trees ℕ Sym) → row_parts (binds (renaming r) xs) ≡ map (bind (renaming r)) (row_parts xs)
    row_parts-renamed none = refl
    row_parts-renamed (more x xs) = let joined = map-append (bind (renaming r)) (parts x) (row_parts xs) in cc (parts-renamed x, row_parts-renamed xs)

  known-renamed : (phase : ℕ) (xs : List Term) → map (Att phase) (map (bind (renaming r)) xs) ≡ map (fact_under (renaming r)) (map (Att phase) xs)
  known-renamed phase [] = refl
  known-renamed phase (x ∷ xs) = ap (λ ys. Att phase (bind (renaming r) x) ∷ ys) (known-renamed phase xs)

  pub flat-renamed : (h : Fact Term) → flat (fact_under (renaming r) h) ≡ map (fact_under (renaming r)) (flat h)
  flat-renamed (Att phase t) = ap (map (Att phase)) (parts-renamed t) ∙ known-renamed phase (parts t)
  flat-renamed (Mess phase t u) = refl
  flat-renamed (Tab e ts) = refl
  flat-renamed (Ev e ts) = refl
  flat-renamed (Mev e ts) = refl
  flat-renamed (Bad ts) = refl

  pub flats-renamed : (hs : List (Fact Term)) → flat_map flat (map (fact_under (renaming r)) hs) ≡ map (fact_under (renaming r)) (flat_map flat hs)
  flats-renamed [] = refl
  flats-renamed (h ∷ hs) = let joined = map-append (fact_under (renaming r)) (flat h) (flat_map flat hs) in cc (flat-renamed h, flats-renamed hs)

  parts_with-renamed : (hs ks : List (Fact Term)) (ds : List Diff) (fs : List (Fact Term)) → ks ≡ map (fact_under (renaming r)) hs
      → map (λ f. record { hypotheses = ks; diffs = map (diff_under (renaming r)) ds; conclusion = f }) (map (fact_under (renaming r)) fs) ≡ map (clause_under (renaming r)) (map (λ f. record { hypotheses = hs; diffs = ds; conclusion = f }) fs)
  parts_with-renamed hs ks ds [] e = refl
  parts_with-renamed hs ks ds (f ∷ fs) e = let others = parts_with-renamed hs ks ds fs e in λ i. record { hypotheses = e i; diffs = map (diff_under (renaming r)) ds; conclusion = fact_under (renaming r) f } ∷ others i

  pub flat_parts-renamed : (c : Clause Term) → flat_parts (clause_under (renaming r) c) ≡ map (clause_under (renaming r)) (flat_parts c)
  flat_parts-renamed c = ap (map (λ f. record { hypotheses = flat_map flat (map (fact_under (renaming r)) c.hypotheses); diffs = map (diff_under (renaming r)) c.diffs; conclusion = f })) (flat-renamed c.conclusion)
      ∙ parts_with-renamed (flat_map flat c.hypotheses) (flat_map flat (map (fact_under (renaming r)) c.hypotheses)) c.diffs (flat c.conclusion) (flats-renamed c.hypotheses)
