-- What a renaming of variables that has a way back does to variables, facts and clauses: it tells apart what was apart.
use Rattle.std.proofs.Common.{◌≡◌, ℕ, ◌+◌, Bool, not, nat_eq, List, [], ◌∷◌, map, refl, ap, sym, ◌∙◌, eqb-true, eq-eqb}
use Rattle.std.specs.Prelude.{flat_map, filter}
use Rattle.std.specs.List.{AllByRecursion, list_any}
use Rattle.std.proofs.lemmas.List.{map-append}
use Rattle.spec_trees.specs.Tree.{Trees, Leaf, Node, none, more, bind, binds, after, size, sizes}
use Rattle.spec_terms.specs.Term.{Sym, Term}
use Rattle.spec_clauses.specs.Fact.{Fact, Att, Mess, Tab, Ev, Mev, Bad, Clause, facts_of, fact_under, clause_under, total, fact_size, same_fact, is_among}
use Rattle.spec_clauses.specs.Variables.{leaves, row_leaves, fact_variables, clause_variables}
use Rattle.spec_clauses.specs.Norm.{distinct, place_of, is_lonely, is_known}
use Rattle.spec_clauses.specs.Renaming.{renaming}
use Rattle.spec_clauses.proofs.Lists.{all_filter, filter_same, filter-map}
use Rattle.spec_clauses.proofs.Facts.{fact_under-fact_under, fact_under-agree, fact_under-Leaf}
use Rattle.spec_clauses.proofs.Equality.{tests_same, same_fact-decides}

-- The variables of what is renamed are the renamed variables, and sizes stay.
module _ (r : ℕ → ℕ) where
  mutual
    pub leaves-renamed : (x : Term) → leaves (bind (renaming r) x) ≡ map r (leaves x)
    leaves-renamed (Leaf x) = refl
    leaves-renamed (Node f args) = row_leaves-renamed args

    pub row_leaves-renamed : (xs : Trees ℕ Sym) → row_leaves (binds (renaming r) xs) ≡ map r (row_leaves xs)
    row_leaves-renamed none = refl
    row_leaves-renamed (more x xs) = let joined = map-append r (leaves x) (row_leaves xs) in cc (leaves-renamed x, row_leaves-renamed xs)

  mutual
    pub size-renamed : (x : Term) → size (bind (renaming r) x) ≡ size x
    size-renamed (Leaf x) = refl
    size-renamed (Node f args) = ap (λ n. 1 + n) (sizes-renamed args)

    pub sizes-renamed : (xs : Trees ℕ Sym) → sizes (binds (renaming r) xs) ≡ sizes xs
    sizes-renamed none = refl
    sizes-renamed (more x xs) = cc (size-renamed x, sizes-renamed xs)

  terms_leaves-renamed : (xs : List Term) → flat_map leaves (map (bind (renaming r)) xs) ≡ map r (flat_map leaves xs)
  terms_leaves-renamed [] = refl
  terms_leaves-renamed (x ∷ xs) = let joined = map-append r (leaves x) (flat_map leaves xs) in cc (leaves-renamed x, terms_leaves-renamed xs)

  terms_size-renamed : (xs : List Term) → total size (map (bind (renaming r)) xs) ≡ total size xs
  terms_size-renamed [] = refl
  terms_size-renamed (x ∷ xs) = cc (size-renamed x, terms_size-renamed xs)

  pub fact_variables-renamed : (h : Fact Term) → fact_variables (fact_under (renaming r) h) ≡ map r (fact_variables h)
  fact_variables-renamed (Att phase t) = terms_leaves-renamed (t ∷ [])
  fact_variables-renamed (Mess phase t u) = terms_leaves-renamed (t ∷ u ∷ [])
  fact_variables-renamed (Tab e ts) = terms_leaves-renamed ts
  fact_variables-renamed (Ev e ts) = terms_leaves-renamed ts
  fact_variables-renamed (Mev e ts) = terms_leaves-renamed ts
  fact_variables-renamed (Bad ts) = terms_leaves-renamed ts

  pub facts_variables-renamed : (hs : List (Fact Term)) → flat_map fact_variables (map (fact_under (renaming r)) hs) ≡ map r (flat_map fact_variables hs)
  facts_variables-renamed [] = refl
  facts_variables-renamed (h ∷ hs) = let joined = map-append r (fact_variables h) (flat_map fact_variables hs) in cc (fact_variables-renamed h, facts_variables-renamed hs)

  pub clause_variables-renamed : (c : Clause Term) → clause_variables (clause_under (renaming r) c) ≡ map r (clause_variables c)
  clause_variables-renamed c = facts_variables-renamed (facts_of c)

  pub fact_size-renamed : (h : Fact Term) → fact_size (fact_under (renaming r) h) ≡ fact_size h
  fact_size-renamed (Att phase t) = ap (λ n. 1 + n) (size-renamed t)
  fact_size-renamed (Mess phase t u) = cc (size-renamed t, size-renamed u)
  fact_size-renamed (Tab e ts) = ap (λ n. 2 + n) (terms_size-renamed ts)
  fact_size-renamed (Ev e ts) = ap (λ n. 2 + n) (terms_size-renamed ts)
  fact_size-renamed (Mev e ts) = ap (λ n. 2 + n) (terms_size-renamed ts)
  fact_size-renamed (Bad ts) = ap (λ n. 1 + n) (terms_size-renamed ts)

  pub facts_size-renamed : (hs : List (Fact Term)) → total fact_size (map (fact_under (renaming r)) hs) ≡ total fact_size hs
  facts_size-renamed [] = refl
  facts_size-renamed (h ∷ hs) = cc (fact_size-renamed h, facts_size-renamed hs)

-- of the images of distinct items, those of the distinct ones, where images are the same exactly where the items are
module _ {X Y : Type 0} (same : X → X → Bool) (alike : Y → Y → Bool) (f : X → Y) (Good : X → Type 0) (tells : (x y : X) → Good x → Good y → alike (f x) (f y) ≡ same x y) where
  pub all_distinct : (xs : List X) → AllByRecursion Good xs → AllByRecursion Good (distinct same xs)
  all_distinct [] a = tt
  all_distinct (x ∷ xs) a = (a.0, all_filter Good (λ y. not (same x y)) (distinct same xs) (all_distinct xs a.1))

  tells_all : (x : X) → Good x → (xs : List X) → AllByRecursion Good xs → AllByRecursion (λ y. not (alike (f x) (f y)) ≡ not (same x y)) xs
  tells_all x good [] a = tt
  tells_all x good (y ∷ ys) a = (ap not (tells x y good a.0), tells_all x good ys a.1)

  pub distinct-mapped : (xs : List X) → AllByRecursion Good xs → distinct alike (map f xs) ≡ map f (distinct same xs)
  distinct-mapped [] a = refl
  distinct-mapped (x ∷ xs) a =
      let kept = distinct same xs in
      let others : distinct alike (map f xs) ≡ map f kept = distinct-mapped xs a.1 in
      let filtered : filter (λ y. not (alike (f x) (f y))) kept ≡ filter (λ y. not (same x y)) kept = filter_same (λ y. not (alike (f x) (f y))) (λ y. not (same x y)) kept (tells_all x a.0 kept (all_distinct xs a.1)) in
      ap (λ ys. f x ∷ filter (λ y. not (alike (f x) y)) ys) others ∙ (ap (λ ys. f x ∷ ys) (filter-map f (λ y. not (alike (f x) y)) kept) ∙ ap (λ ys. f x ∷ map f ys) filtered)

-- From here on q leads back from r.
module _ (q r : ℕ → ℕ) where
  pub nat_eq-renamed : (x y : ℕ) → q (r x) ≡ x → q (r y) ≡ y → nat_eq (r x) (r y) ≡ nat_eq x y
  nat_eq-renamed x y a b =
      tests_same (nat_eq (r x) (r y)) (nat_eq x y)
      (λ e. eq-eqb x y (sym a ∙ (ap q (eqb-true (r x) (r y) e) ∙ b)))
      (λ e. eq-eqb (r x) (r y) (ap r (eqb-true x y e)))

  pub stands-renamed : (x : ℕ) (ys : List ℕ) → q (r x) ≡ x → AllByRecursion (λ y. q (r y) ≡ y) ys → list_any (nat_eq (r x)) (map r ys) ≡ list_any (nat_eq x) ys
  stands-renamed x [] a b = refl
  stands-renamed x (y ∷ ys) a b = let same = nat_eq-renamed x y a b.0 in let others = stands-renamed x ys a b.1 in cc

  pub place_of-renamed : (x : ℕ) (ys : List ℕ) → q (r x) ≡ x → AllByRecursion (λ y. q (r y) ≡ y) ys → place_of (r x) (map r ys) ≡ place_of x ys
  place_of-renamed x [] a b = refl
  place_of-renamed x (y ∷ ys) a b = let same = nat_eq-renamed x y a b.0 in let others = place_of-renamed x ys a b.1 in cc

  pub variables_distinct-renamed : (xs : List ℕ) → AllByRecursion (λ x. q (r x) ≡ x) xs → distinct nat_eq (map r xs) ≡ map r (distinct nat_eq xs)
  variables_distinct-renamed = distinct-mapped nat_eq nat_eq r (λ x. q (r x) ≡ x) nat_eq-renamed

  -- each variable of the fact is led back
  abbrev pub IsLedBack : Fact Term → Type 0
  IsLedBack h = AllByRecursion (λ x. q (r x) ≡ x) (fact_variables h)

  leads_back : (xs : List ℕ) → AllByRecursion (λ x. q (r x) ≡ x) xs → AllByRecursion (λ x. after (renaming q) (renaming r) x ≡ Leaf x) xs
  leads_back [] a = tt
  leads_back (x ∷ xs) a = (ap Leaf a.0, leads_back xs a.1)

  fact-back : (h : Fact Term) → IsLedBack h → fact_under (renaming q) (fact_under (renaming r) h) ≡ h
  fact-back h a = fact_under-fact_under (renaming q) (renaming r) h ∙ (fact_under-agree (after (renaming q) (renaming r)) Leaf h (leads_back (fact_variables h) a) ∙ fact_under-Leaf h)

  pub same_fact-renamed : (h k : Fact Term) → IsLedBack h → IsLedBack k → same_fact (fact_under (renaming r) h) (fact_under (renaming r) k) ≡ same_fact h k
  same_fact-renamed h k a b =
      let h' = fact_under (renaming r) h in
      let k' = fact_under (renaming r) k in
      tests_same (same_fact h' k') (same_fact h k)
      (λ e. (same_fact-decides h k).1 (sym (fact-back h a) ∙ (ap (fact_under (renaming q)) ((same_fact-decides h' k').0 e) ∙ fact-back k b)))
      (λ e. (same_fact-decides h' k').1 (ap (fact_under (renaming r)) ((same_fact-decides h k).0 e)))

  pub is_among-renamed : (ks : List (Fact Term)) (h : Fact Term) → AllByRecursion IsLedBack ks → IsLedBack h → is_among (map (fact_under (renaming r)) ks) (fact_under (renaming r) h) ≡ is_among ks h
  is_among-renamed [] h a b = refl
  is_among-renamed (k ∷ ks) h a b = let same = same_fact-renamed h k b a.0 in let others = is_among-renamed ks h a.1 b in cc

  pub facts_distinct-renamed : (hs : List (Fact Term)) → AllByRecursion IsLedBack hs → distinct same_fact (map (fact_under (renaming r)) hs) ≡ map (fact_under (renaming r)) (distinct same_fact hs)
  facts_distinct-renamed = distinct-mapped same_fact same_fact (fact_under (renaming r)) IsLedBack same_fact-renamed

  pub is_lonely-renamed : (xs : List ℕ) (h : Fact Term) → AllByRecursion (λ x. q (r x) ≡ x) xs → IsLedBack h → is_lonely (map r xs) (fact_under (renaming r) h) ≡ is_lonely xs h
  is_lonely-renamed xs (Att phase (Leaf x)) a b = ap not (stands-renamed x xs b.0 a)
  is_lonely-renamed xs (Att phase (Node f args)) a b = refl
  is_lonely-renamed xs (Mess phase t u) a b = refl
  is_lonely-renamed xs (Tab e ts) a b = refl
  is_lonely-renamed xs (Ev e ts) a b = refl
  is_lonely-renamed xs (Mev e ts) a b = refl
  is_lonely-renamed xs (Bad ts) a b = refl

  pub is_known-renamed : (x : ℕ) (h : Fact Term) → q (r x) ≡ x → IsLedBack h → is_known (r x) (fact_under (renaming r) h) ≡ is_known x h
  is_known-renamed x (Att phase (Leaf y)) a b = nat_eq-renamed x y a b.0
  is_known-renamed x (Att phase (Node f args)) a b = refl
  is_known-renamed x (Mess phase t u) a b = refl
  is_known-renamed x (Tab n ts) a b = refl
  is_known-renamed x (Ev e ts) a b = refl
  is_known-renamed x (Mev e ts) a b = refl
  is_known-renamed x (Bad ts) a b = refl

  pub any_known-renamed : (x : ℕ) (hs : List (Fact Term)) → q (r x) ≡ x → AllByRecursion IsLedBack hs → list_any (is_known (r x)) (map (fact_under (renaming r)) hs) ≡ list_any (is_known x) hs
  any_known-renamed x [] a b = refl
  any_known-renamed x (h ∷ hs) a b = let same = is_known-renamed x h a b.0 in let others = any_known-renamed x hs a b.1 in cc
