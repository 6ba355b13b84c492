-- The sizes of flat parts.
use Rattle.std.proofs.Common.{◌≡◌, ℕ, ◌+◌, ◌<◌, ◌≤◌, true, false, ◌||◌, List, [], ◌∷◌, length, map, flat_map, take, drop, get_or, refl, ap, sym, ◌∙◌, add-one, drop-cons, drop_of_length-le, arith}
use Rattle.std.specs.List.{list_any}
use Rattle.std.proofs.lemmas.List.Folds.{list_any-append, flat_map-map}
use Rattle.spec_terms.specs.Term.{Sym, Term}
use Rattle.spec_trees.specs.Tree.{node}
use Rattle.spec_clauses.specs.Diff.{Diff, diff_size}
use Rattle.spec_clauses.specs.Fact.{Fact, Clause, total, fact_size, clause_size}
use Rattle.spec_clauses.specs.Flat.{is_data, flat}
use Rattle.spec_clauses.specs.Limits.{is_large_clause}
use Rattle.term_tree.specs.Bank.{tree_at, capped}
use Rattle.term_tree.specs.declared.bank.Id.{Id}
use Rattle.clause_form.specs.declared.facts.Fact as declared
use Rattle.clause_form.specs.Facts.{fact_of}
use Rattle.clause_form.specs.Seen.{fact_at}
use Rattle.clause_form.proofs.Lists.{total-append, flat_map_more, flat_map_all}
use Rattle.clause_form.proofs.Flattening.{parts_at, data_flat}
use Rattle.clause_resolve.specs.Budget.{is_over, some_over}

-- the size of one fact alone
pub alone : (fs : List (Fact Term)) (f : Fact Term) → fs ≡ f ∷ [] → capped (fact_size f) ≡ capped (total fact_size fs)
alone fs f e = ap capped (let one : fact_size f ≡ total fact_size (f ∷ []) = omega arith in one ∙ ap (total fact_size) (sym e))

-- the sizes that come of one item more, and of all
module _ {X : Type 0} (parts : X → List (Fact Term)) where
  pub sizes_more : (xs : List X) (i : ℕ) (d : X) (symbols more new : ℕ) → i < length xs → symbols ≡ capped (total fact_size (flat_map parts (take i xs))) → more ≡ capped (total fact_size (parts (get_or xs i d)))
      → ((m n : ℕ) → symbols ≡ capped m → more ≡ capped n → new ≡ capped (m + n)) → new ≡ capped (total fact_size (flat_map parts (take (i + 1) xs)))
  sizes_more xs i d symbols more new within was next added =
      added (total fact_size (flat_map parts (take i xs))) (total fact_size (parts (get_or xs i d))) was next
      ∙ ap capped (sym (ap (total fact_size) (flat_map_more parts xs i d within) ∙ total-append fact_size (flat_map parts (take i xs)) (parts (get_or xs i d))))

  pub sizes_all : (xs : List X) (i : ℕ) (symbols : ℕ) → symbols ≡ capped (total fact_size (flat_map parts (take i xs))) → length xs ≤ i → symbols ≡ capped (total fact_size (flat_map parts xs))
  sizes_all xs i symbols was past = was ∙ ap (λ l. capped (total fact_size l)) (flat_map_all parts xs i past)

  -- whether one of them is over the limit
  pub over_at : (xs : List X) (i : ℕ) (d : X) (n : ℕ) → i < length xs → some_over n (flat_map parts (drop i xs)) ≡ (some_over n (parts (get_or xs i d)) || some_over n (flat_map parts (drop (i + 1) xs)))
  over_at xs i d n within =
      ap (λ l. some_over n (flat_map parts l)) (drop-cons xs i d within ∙ ap (λ k. get_or xs i d ∷ drop k xs) (sym (add-one i)))
      ∙ list_any-append (λ f. is_over (fact_size f + n)) (parts (get_or xs i d)) (flat_map parts (drop (i + 1) xs))

  pub over_past : (xs : List X) (i n : ℕ) → length xs ≤ i → some_over n (flat_map parts (drop i xs)) ≡ false
  over_past xs i n past = ap (λ l. some_over n (flat_map parts l)) (drop_of_length-le xs past)

-- facts of a bank
pub facts_flat : (all : List Term) (fs : List declared.Fact) → flat_map (λ f. flat (fact_at all (fact_of f))) fs ≡ flat_map flat (map (fact_at all) (map fact_of fs))
facts_flat all fs = sym (flat_map-map (λ f. flat (fact_at all f)) fact_of fs) ∙ sym (flat_map-map flat (fact_at all) (map fact_of fs))

-- a flat part for each conclusion, over the limit where it is with the hypotheses and the constraints
pub parts_over : (hypotheses : List (Fact Term)) (ds : List Diff) (concls : List (Fact Term)) → list_any is_large_clause (map (λ f. record { hypotheses = hypotheses; diffs = ds; conclusion = f }) concls) ≡ some_over (total fact_size hypotheses + total diff_size ds) concls
parts_over hypotheses ds [] = refl
parts_over hypotheses ds (f ∷ fs) = λ i. is_over (whole i) || parts_over hypotheses ds fs i where
  part : Clause Term
  part = record { hypotheses = hypotheses; diffs = ds; conclusion = f }

  whole : clause_size part ≡ fact_size f + (total fact_size hypotheses + total diff_size ds)
  whole = omega arith

-- one of the arguments is over the limit, or none is
pub some_over_found : (all : List Term) (phase : ℕ) (id : Id) (f : Sym) (ids : List Id) (i n : ℕ) → tree_at all id ≡ node f (map (tree_at all) ids) → is_data f ≡ true → i < length ids → some_over n (flat_map (parts_at all phase) ids) ≡ some_over n (flat_map (parts_at all phase) (drop i ids))
    → some_over n (parts_at all phase (get_or ids i record { index = 0 })) ≡ true → true ≡ some_over n (parts_at all phase id)
some_over_found all phase id f ids i n is data_root within was here =
    sym (ap (some_over n) (data_flat all phase id f ids is data_root) ∙ (was ∙ (over_at (parts_at all phase) ids i record { index = 0 } n within ∙ ap (λ b. b || some_over n (flat_map (parts_at all phase) (drop (i + 1) ids))) here)))

pub none_over_left : (all : List Term) (phase : ℕ) (id : Id) (f : Sym) (ids : List Id) (i n : ℕ) → tree_at all id ≡ node f (map (tree_at all) ids) → is_data f ≡ true → length ids ≤ i → some_over n (flat_map (parts_at all phase) ids) ≡ some_over n (flat_map (parts_at all phase) (drop i ids)) → false ≡ some_over n (parts_at all phase id)
none_over_left all phase id f ids i n is data_root past was = sym (ap (some_over n) (data_flat all phase id f ids is data_root) ∙ (was ∙ over_past (parts_at all phase) ids i n past))
