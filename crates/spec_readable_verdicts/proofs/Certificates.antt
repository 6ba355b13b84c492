-- The first certificate of a closed log: what its clauses and its rows are.
use Rattle.std.proofs.Common.{◌≡◌, ◌∙◌, ℕ, zero, suc, ◌<◌, ◌≤◌, true, Some, List, [], ◌∷◌, map, length, refl, ap, sym, subst, inl, inr, arith}
use Rattle.std.specs.List.{AllByRecursion, list_all}
use Rattle.std.proofs.lemmas.Option.{slice_get_within}
use Rattle.spec_trees.specs.Tree.{Trees, Leaf, Node, none, more, size, items_of}
use Rattle.spec_trees.specs.Leaves.{leaves, row_leaves}
use Rattle.spec_trees.proofs.Measures.{depth-le-size}
use Rattle.spec_trees.proofs.Equality.{and_true}
use Rattle.spec_calculus.specs.Bounds.{most_symbols, most_clauses}
use Rattle.spec_calculus.specs.Syntax.{Query, Secret, SecretNew, Correspondence, Protocol}
use Rattle.spec_well_formed.specs.Terms.{row_length, EachSymbolInRow}
use Rattle.spec_well_formed.specs.Limits.{IsSmallQuery}
use Rattle.spec_terms.specs.Term.{Sym, Term}
use Rattle.spec_clauses.specs.Fact.{Fact, Att, Mess, Tab, Ev, Mev, Bad, Clause, facts_of, terms_of, clause_terms, fact_under, total, fact_size, clause_size}
use Rattle.spec_clauses.specs.Variables.{IsBelow, AreBelow, constrained_variables}
use Rattle.spec_clauses.specs.Limits.{IsWithinLimit}
use Rattle.spec_clauses.specs.Norm.{IsNormal}
use Rattle.spec_clauses.specs.Subsumption.{hypothesis_at, firm}
use Rattle.spec_clauses.specs.Resolvents.{Answer, NoUnifier, Large, Resolvents, Resolves}
use Rattle.spec_clauses.specs.Inclusion.{Has}
use Rattle.spec_clauses.proofs.Lists.{all_append, all_first, all_second, all_weaker, all-from_flat_map}
use Rattle.spec_clauses.proofs.Limits.{norms-within_limit}
use Rattle.spec_clauses.proofs.NormNumbers.{norm-below}
use Rattle.spec_translation.specs.Goal.{required}
use Rattle.spec_translation.specs.Placement.{may_be_supposed, may_be_concluded}
use Rattle.spec_translation.proofs.Goal.{all_of_each}
use Rattle.spec_certificates.specs.Certificate.{CoverRowHolds, GoalHolds, Pair}
use Rattle.spec_saturation.specs.Key.{Entry}
use Rattle.spec_saturation.specs.Live.{AreLive}
use Rattle.spec_saturation.proofs.Places.{numbered_within}
use Rattle.spec_verdicts.specs.First.{resolvents_of, AllGive}
use Rattle.spec_verdicts.specs.FirstRows.{AreFirstCovers, AreFirstGoals}
use Rattle.spec_certificate_text.specs.OfProtocol.{IsShort, IsSymbolOf}
use Rattle.spec_certificate_text.specs.OfProtocol as text
use Rattle.spec_certificate_text.specs.Readable.{MayStand, IsHypothesisOf, IsConclusionOf, IsReadable, IsRow}
use Rattle.spec_readable_verdicts.proofs.Facts.{IsTermOver, AreTermsOver, IsFactOver}
use Rattle.spec_readable_verdicts.proofs.Resolution.{IsKept, are_norms}
use Rattle.spec_readable_verdicts.proofs.Constraints.{bound_below, diffs_readable}

-- the two counts of a row are one
row_items : (ts : Trees ℕ Sym) → row_length ts ≡ length (items_of ts)
row_items none = refl
row_items (more t ts) = omega (arith, row_items ts)

-- where the variables' numbers are small, a term over the protocol is one of it
module _ (P : Protocol) (n : ℕ) (small : n ≤ most_symbols) where
  mutual
    term_of : (t : Term) → IsTermOver P t → AllByRecursion (λ x. x < n) (leaves t) → text.IsTermOf P t
    term_of (Leaf x) h b = omega (arith, small, b.0)
    term_of (Node f args) h b = (subst (IsSymbolOf P f) (row_items args) h.0, terms_of_row args h.1 b)

    terms_of_row : (ts : Trees ℕ Sym) → EachSymbolInRow (IsSymbolOf P) ts → AllByRecursion (λ x. x < n) (row_leaves ts) → text.AreTermsOf P ts
    terms_of_row none h b = tt
    terms_of_row (more t ts) h b = (
      term_of t h.0 (all_first (λ x. x < n) (leaves t) (row_leaves ts) b),
      terms_of_row ts h.1 (all_second (λ x. x < n) (leaves t) (row_leaves ts) b),
    )

  may_stand : (t : Term) → IsTermOver P t → IsBelow n t → size t ≤ most_symbols → MayStand P t
  may_stand t h b s = (term_of t h b, omega (arith, depth-le-size t, s))

  all_may_stand : (ts : List Term) → AreTermsOver P ts → AreBelow n ts → total size ts ≤ most_symbols → AllByRecursion (MayStand P) ts
  all_may_stand [] h b s = tt
  all_may_stand (t ∷ ts) h b s = (may_stand t h.0 b.0 (omega (arith, s)), all_may_stand ts h.1 b.1 (omega (arith, s)))

  hypothesis_of : (f : Fact Term) → IsFactOver P f → AreBelow n (terms_of f) → fact_size f ≤ most_symbols → may_be_supposed f ≡ true → IsHypothesisOf P f
  hypothesis_of (Att phase t) h b s e = (h.predicate, may_stand t h.terms.0 b.0 (omega (arith, s)))
  hypothesis_of (Mess phase t u) h b s e = (h.predicate, may_stand t h.terms.0 b.0 (omega (arith, s)), may_stand u h.terms.1.0 b.1.0 (omega (arith, s)))
  hypothesis_of (Tab table ts) h b s e = (h.predicate, all_may_stand ts h.terms b (omega (arith, s)))
  hypothesis_of (Ev event ts) h b s e = (h.predicate, all_may_stand ts h.terms b (omega (arith, s)))
  hypothesis_of (Mev event ts) h b s e = (h.predicate, all_may_stand ts h.terms b (omega (arith, s)))
  hypothesis_of (Bad ts) h b s e = cc

  conclusion_of : (f : Fact Term) → IsFactOver P f → AreBelow n (terms_of f) → fact_size f ≤ most_symbols → may_be_concluded f ≡ true → IsConclusionOf P f
  conclusion_of (Att phase t) h b s e = (h.predicate, may_stand t h.terms.0 b.0 (omega (arith, s)))
  conclusion_of (Mess phase t u) h b s e = (h.predicate, may_stand t h.terms.0 b.0 (omega (arith, s)), may_stand u h.terms.1.0 b.1.0 (omega (arith, s)))
  conclusion_of (Tab table ts) h b s e = (h.predicate, all_may_stand ts h.terms b (omega (arith, s)))
  conclusion_of (Ev event ts) h b s e = (h.predicate, all_may_stand ts h.terms b (omega (arith, s)))
  conclusion_of (Mev event ts) h b s e = cc
  conclusion_of (Bad ts) h b s e = all_may_stand ts h.terms b (omega (arith, s))

  hypotheses_of : (fs : List (Fact Term)) → AllByRecursion (IsFactOver P) fs → AllByRecursion (λ f. AreBelow n (terms_of f)) fs → total fact_size fs ≤ most_symbols → list_all may_be_supposed fs ≡ true → AllByRecursion (IsHypothesisOf P) fs
  hypotheses_of [] h b s e = tt
  hypotheses_of (f ∷ fs) h b s e =
      let both = and_true (may_be_supposed f) (list_all may_be_supposed fs) e in
      (hypothesis_of f h.0 b.0 (omega (arith, s)) both.0, hypotheses_of fs h.1 b.1 (omega (arith, s)) both.1)

-- numbers of variables below a number
numbers_below : (n : ℕ) (xs : List ℕ) → AreBelow n (map Leaf xs) → AllByRecursion (λ x. x < n) xs
numbers_below n [] b = tt
numbers_below n (x ∷ xs) b = (b.0.0, numbers_below n xs b.1)

-- A clause that is kept, its own norm and within the limit may stand in a text.
pub readable : (P : Protocol) (c : Clause Term) → IsKept P c → IsNormal c → IsWithinLimit c → IsReadable P c
readable P c kept normal small =
    let n = clause_size c in
    let variables = map Leaf (constrained_variables c) in
    let all = norm-below c c normal.own in
    let constrained = numbers_below n (constrained_variables c) (all_second (IsBelow n) (clause_terms c) variables all) in
    let below = all-from_flat_map (IsBelow n) terms_of (facts_of c) (all_first (IsBelow n) (clause_terms c) variables all) in record {
      hypotheses = hypotheses_of P n small c.hypotheses kept.over.hypotheses below.1 (omega (arith, small)) kept.placed.hypotheses;
      diffs = diffs_readable P n small c.diffs kept.over.diffs constrained (bound_below c normal.own) (omega arith);
      conclusion = conclusion_of P n small c.conclusion kept.over.conclusion below.0 (omega (arith, small)) kept.placed.conclusion;
    }

-- there are no more live clauses than entries
pub few_live : (log : List Entry) (cs : List (Clause Term)) → AreLive log cs → length cs ≤ length log
few_live [] cs live = omega (arith, ap length live)
few_live (e ∷ es) cs (inl x) = omega (arith, few_live es cs x.1)
few_live (e ∷ es) cs (inr x) = let (rest, is, live) = x.1 in omega (arith, ap length is, few_live es rest live)

-- positions in hypotheses
positions_within : {X : Type 0} (f : X → Fact Term) (xs : List X) (hs : List (Fact Term)) (row : List ℕ) → map (λ x. Some (f x)) xs ≡ map (hypothesis_at hs) row → AllByRecursion (λ p. p ≤ length hs) row
positions_within f xs hs [] e = tt
positions_within f [] hs (p ∷ row) e = cc
positions_within f (x ∷ xs) hs (p ∷ row) e =
    let first : Some (f x) ≡ hypothesis_at hs p = cc in
    let others : map (λ y. Some (f y)) xs ≡ map (hypothesis_at hs) row = cc in
    (go p (sym first), positions_within f xs hs row others)
  where
    go : (p : ℕ) → hypothesis_at hs p ≡ Some (f x) → p ≤ length hs
    go zero k = cc
    go (suc i) k = let within = slice_get_within hs i (f x) k in omega (arith, within)

length-le-size : (fs : List (Fact Term)) → length fs ≤ total fact_size fs
length-le-size [] = omega arith
length-le-size (Att k t ∷ fs) = omega (arith, length-le-size fs)
length-le-size (Mess k t u ∷ fs) = omega (arith, length-le-size fs)
length-le-size (Tab n ts ∷ fs) = omega (arith, length-le-size fs)
length-le-size (Ev n ts ∷ fs) = omega (arith, length-le-size fs)
length-le-size (Mev n ts ∷ fs) = omega (arith, length-le-size fs)
length-le-size (Bad ts ∷ fs) = omega (arith, length-le-size fs)

all_short : (c : Clause Term) → IsWithinLimit c → (row : List ℕ) → AllByRecursion (λ p. p ≤ length c.hypotheses) row → AllByRecursion IsShort row
all_short c small row within = all_weaker (λ p. p ≤ length c.hypotheses) IsShort (λ p h. omega (arith, h, small, length-le-size c.hypotheses)) row within

-- a cover row
cover_row : (clauses : List (Clause Term)) → length clauses ≤ most_clauses → (c : Clause Term) → IsWithinLimit c → (row : List ℕ) → CoverRowHolds clauses row c → IsRow row
cover_row clauses few c small [] h = absurd h
cover_row clauses few c small (n ∷ positions) (general, at, holds) =
    let within = numbered_within clauses n general at in
    (omega (arith, few, within.1), all_short c small positions (positions_within (fact_under holds.by) (firm general.hypotheses) c.hypotheses positions holds.firmly))

pub cover_rows : (clauses : List (Clause Term)) → length clauses ≤ most_clauses → (cs : List (Clause Term)) → AllByRecursion IsWithinLimit cs → (rows : List (List ℕ)) → AreFirstCovers clauses cs rows → AllByRecursion IsRow rows
cover_rows clauses few [] small [] h = tt
cover_rows clauses few [] small (row ∷ rows) h = absurd h
cover_rows clauses few (c ∷ cs) small [] h = absurd h
cover_rows clauses few (c ∷ cs) small (row ∷ rows) h = (cover_row clauses few c small.0 row h.0.holds, cover_rows clauses few cs small.1 rows h.1)

-- a goal row
goal_row : (P : Protocol) (q : Query) → IsSmallQuery q → (c : Clause Term) → IsWithinLimit c → (row : List ℕ) → GoalHolds P q row c → IsRow row
goal_row P (Secret message phase) asked c small row h = absurd h
goal_row P (SecretNew point phase) asked c small row h = absurd h
goal_row P (Correspondence left alternatives) asked c small [] h = absurd h
goal_row P (Correspondence left alternatives) asked c small (n ∷ positions) h =
    let within = numbered_within alternatives n h.alternative h.numbered_so in
    (omega (arith, asked.1, within.1), all_short c small positions (positions_within (λ e. fact_under h.by (required P e)) h.alternative c.hypotheses positions h.events))

pub goal_rows : (P : Protocol) (q : Query) → IsSmallQuery q → (cs : List (Clause Term)) → AllByRecursion IsWithinLimit cs → (rows : List (List ℕ)) → AreFirstGoals P q cs rows → AllByRecursion IsRow rows
goal_rows P q asked [] small [] h = tt
goal_rows P q asked [] small (row ∷ rows) h = absurd h
goal_rows P q asked (c ∷ cs) small [] h = absurd h
goal_rows P q asked (c ∷ cs) small (row ∷ rows) h = (goal_row P q asked c small.0 row h.0.holds, goal_rows P q asked cs small.1 rows h.1)

-- what pairs give is within the limit
pub given_within : (pairs : List Pair) (made : List (Clause Term)) → AllGive pairs made → AllByRecursion IsWithinLimit made
given_within [] made h = subst (AllByRecursion IsWithinLimit) (sym h) tt
given_within (pair ∷ pairs) made (first, rest, g, later, is) =
    subst (AllByRecursion IsWithinLimit) (sym is) (all_append IsWithinLimit first rest (one g.answer g.resolves g.has) (given_within pairs rest later))
  where
    one : (answer : Answer) → Resolves pair.solved.clause pair.unsolved.clause pair.at answer → resolvents_of answer ≡ Some first → AllByRecursion IsWithinLimit first
    one NoUnifier r e = let same : first ≡ [] = cc in subst (AllByRecursion IsWithinLimit) (sym same) tt
    one Large r e = cc
    one (Resolvents cs) (raw, is, k) e =
        let n = are_norms raw cs k in
        let same : cs ≡ first = cc in
        all_of_each IsWithinLimit first (λ c there. norms-within_limit n.clause c n.small (subst (λ ds. Has ds c) (sym same ∙ n.are) there))
