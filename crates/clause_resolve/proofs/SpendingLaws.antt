-- Terms and facts of a bank under a substitution, and what is left of the limit of size.
use Rattle.std.proofs.Common.{◌≡◌, ℕ, zero, suc, ◌+◌, ◌<◌, ◌≤◌, List, [], ◌∷◌, ◌++◌, length, map, take, get_or, ap, sym, ◌∙◌, subst, arith}
use Rattle.std.proofs.lemmas.List.{take_all}
use Rattle.std.proofs.lemmas.Simd.{map-map}
use Rattle.spec_trees.specs.Tree.{bind, size}
use Rattle.spec_terms.specs.Term.{Term, Subst}
use Rattle.spec_terms.specs.Binding.{resolved}
use Rattle.spec_calculus.specs.Bounds.{most_symbols}
use Rattle.spec_clauses.specs.Diff.{diff_under, diff_size}
use Rattle.spec_clauses.specs.Fact.{Fact, terms_of, total, fact_size, clause_size, fact_under, clause_under}
use Rattle.spec_clauses.specs.Head.{head_of, made_of, head_size}
use Rattle.spec_clauses.specs.Limits.{IsWithinLimit}
use Rattle.spec_clauses.proofs.Parts.{fact_size-parts}
use Rattle.term_tree.specs.Bank.{tree_at, Names, Grows}
use Rattle.term_tree.specs.declared.bank.Id.{Id}
use Rattle.term_tree.proofs.BankLaws.{Grows_refl, Grows_trans}
use Rattle.unify_match.specs.declared.bound.Bound.{Bound}
use Rattle.unify_match.specs.Seen.{seen, IsReady}
use Rattle.unify_match.proofs.SeenLemmas.{seen-grows}
use Rattle.clause_diffs.specs.Diffs.{DiffOf, diffs_at, NameDiffs}
use Rattle.clause_diffs.proofs.Naming.{diffs_at-grow}
use Rattle.clause_form.specs.declared.facts.Fact as declared
use Rattle.clause_form.specs.Facts.{fact_of}
use Rattle.clause_form.specs.Seen.{fact_at, clause_at, IsFactIn, IsClauseIn, NameTerms, NamesFact, NameFacts, NamesClause, IdClause}
use Rattle.clause_form.proofs.Lists.{total_more, total-map}
use Rattle.clause_form.proofs.Copying.{fact_at-grows, facts_at-grow, NamesFact-grows, clause_named}
use Rattle.clause_form.proofs.Flattening.{clause_with}
use Rattle.clause_form.proofs.Made.{made_names, terms_under}
use Rattle.clause_form.proofs.Renumber.{under_at, IsRenumbered, renumbered_on, renumbered_all, AreRenumbered, facts_renumbered_on, facts_renumbered}
use Rattle.clause_resolve.proofs.ByParts.{head_under}

-- what the bindings stand for stays the same as the bank grows
abbrev pub standing : List Term → List Bound → Subst
standing all pairs = resolved (seen all pairs)

pub stands : (old now : List Term) (pairs : List Bound) → Grows old now → IsReady old pairs → standing now pairs ≡ standing old pairs
stands old now pairs grows ready = ap resolved (seen-grows old now pairs grows ready.known)

-- some of a list are no more than all
pub total_some : {X : Type 0} (f : X → ℕ) (i : ℕ) (xs : List X) → total f (take i xs) ≤ total f xs
total_some f zero xs = omega arith
total_some f (suc i) [] = omega arith
total_some f (suc i) (x ∷ xs) = omega (arith, total_some f i xs)

-- how far terms are applied, and what is left
pub record AreApplied (old now : List Term) (s : Subst) (ids : List Id) (i : ℕ) (made : List Id) (first left : ℕ) : Type 0 where
  pub done : IsRenumbered old now s ids i made
  pub spent : left + total (λ id. size (under_at s old id)) (take i ids) ≡ first

pub applied_on : (old now next : List Term) (s t : Subst) (ids : List Id) (i : ℕ) (d : Id) (made new : List Id) (id : Id) (first left then : ℕ) → t ≡ s → AreApplied old now s ids i made first left → i < length ids → Grows now next
    → tree_at now (get_or ids i d) ≡ tree_at old (get_or ids i d) → Names next id (bind t (tree_at now (get_or ids i d))) × (then + size (bind t (tree_at now (get_or ids i d))) ≡ left) → new ≡ made ++ id ∷ []
    → AreApplied old next s ids (i + 1) new first then
applied_on old now next s t ids i d made new id first left then same_s was within grows same now_names e =
    let stood : bind t (tree_at now (get_or ids i d)) ≡ under_at s now (get_or ids i d) = ap (λ r. bind r (tree_at now (get_or ids i d))) same_s in
    let names : Names next id (under_at s now (get_or ids i d)) = subst (λ (u : Term). Names next id u) stood now_names.0 in
    let spent : then + size (under_at s old (get_or ids i d)) ≡ left = ap (λ u. then + size (bind s u)) (sym same) ∙ (ap (λ u. then + size u) (sym stood) ∙ now_names.1) in
    record {
      done = renumbered_on old now next s ids i d made new id was.done within grows same names e;
      spent = omega (arith, was.spent, spent, total_more (λ x. size (under_at s old x)) ids i d within);
    }

-- a term for which too little is left
pub applied_short : (old now : List Term) (s t : Subst) (ids : List Id) (i : ℕ) (d : Id) (made : List Id) (first left : ℕ) → t ≡ s → AreApplied old now s ids i made first left → i < length ids → tree_at now (get_or ids i d) ≡ tree_at old (get_or ids i d)
    → left < size (bind t (tree_at now (get_or ids i d))) → first < total size (map (bind s) (map (tree_at old) ids))
applied_short old now s t ids i d made first left same_s was within same short =
    let stood : bind t (tree_at now (get_or ids i d)) ≡ under_at s old (get_or ids i d) = ap (λ r. bind r (tree_at now (get_or ids i d))) same_s ∙ ap (bind s) same in
    let whole : total size (map (bind s) (map (tree_at old) ids)) ≡ total (λ x. size (under_at s old x)) ids = ap (total size) (map-map (bind s) (tree_at old) ids) ∙ total-map size (under_at s old) ids in
    omega (arith, was.spent, ap size stood, whole, total_more (λ x. size (under_at s old x)) ids i d within, total_some (λ x. size (under_at s old x)) (i + 1) ids)

pub applied_all : (old now : List Term) (s : Subst) (ids : List Id) (i : ℕ) (made : List Id) (first left : ℕ) → AreApplied old now s ids i made first left → length ids ≤ i
    → NameTerms now made (map (bind s) (map (tree_at old) ids)) × (left + total size (map (bind s) (map (tree_at old) ids)) ≡ first)
applied_all old now s ids i made first left was past =
    let whole : total size (map (bind s) (map (tree_at old) ids)) ≡ total (λ x. size (under_at s old x)) (take i ids) =
    ap (total size) (map-map (bind s) (tree_at old) ids) ∙ (total-map size (under_at s old) ids ∙ ap (total (λ x. size (under_at s old x))) (sym (take_all i ids past))) in
    (renumbered_all old now s ids i made was.done past, omega (arith, was.spent, whole))

-- what a fact over ids is under s
abbrev pub fact_under_at : Subst → List Term → declared.Fact → Fact Term
fact_under_at s all f = fact_under s (fact_at all (fact_of f))

-- the same of facts
pub record FactsAreApplied (old now : List Term) (s : Subst) (fs : List declared.Fact) (i : ℕ) (made : List declared.Fact) (first left : ℕ) : Type 0 where
  pub done : AreRenumbered old now s fs i made
  pub spent : left + total (λ f. fact_size (fact_under_at s old f)) (take i fs) ≡ first

pub facts_applied_on : (old now next : List Term) (pairs : List Bound) (fs : List declared.Fact) (i : ℕ) (f : declared.Fact) (made new : List declared.Fact) (g : declared.Fact) (first left then : ℕ) → IsReady old pairs → FactsAreApplied old now (standing old pairs) fs i made first left → i < length fs → f ≡ get_or fs i f
    → IsFactIn old (fact_of f) → Grows now next → NamesFact next (fact_of g) (fact_under_at (standing now pairs) now f) × (then + fact_size (fact_under_at (standing now pairs) now f) ≡ left) → new ≡ made ++ g ∷ []
    → FactsAreApplied old next (standing old pairs) fs (i + 1) new first then
facts_applied_on old now next pairs fs i f made new g first left then ready was within is known grows now_names e =
    let s = standing old pairs in
    let stood : fact_under_at (standing now pairs) now f ≡ fact_under s (fact_at now (fact_of f)) = ap (λ r. fact_under r (fact_at now (fact_of f))) (stands old now pairs was.done.grows ready) in
    let same : fact_under s (fact_at now (fact_of f)) ≡ fact_under_at s old f = ap (fact_under s) (fact_at-grows old now (fact_of f) was.done.grows known) in
    let names : NamesFact next (fact_of g) (fact_under s (fact_at now (fact_of f))) = subst (λ (t : Fact Term). NamesFact next (fact_of g) t) stood now_names.0 in
    let spent : then + fact_size (fact_under_at s old (get_or fs i f)) ≡ left = ap (λ x. then + fact_size (fact_under_at s old x)) (sym is) ∙ (ap (λ t. then + fact_size t) (sym (stood ∙ same)) ∙ now_names.1) in
    record {
      done = facts_renumbered_on old now next s fs i f made new g was.done within is known grows names e;
      spent = omega (arith, was.spent, spent, total_more (λ x. fact_size (fact_under_at s old x)) fs i f within);
    }

facts_whole : (old : List Term) (s : Subst) (fs : List declared.Fact) → total fact_size (map (fact_under s) (map (fact_at old) (map fact_of fs))) ≡ total (λ f. fact_size (fact_under_at s old f)) fs
facts_whole old s fs = ap (total fact_size) (map-map (fact_under s) (fact_at old) (map fact_of fs) ∙ map-map (λ h. fact_under s (fact_at old h)) fact_of fs) ∙ total-map fact_size (fact_under_at s old) fs

pub facts_short : (old now : List Term) (pairs : List Bound) (fs : List declared.Fact) (i : ℕ) (f : declared.Fact) (made : List declared.Fact) (first left : ℕ) → IsReady old pairs → FactsAreApplied old now (standing old pairs) fs i made first left → i < length fs → f ≡ get_or fs i f → IsFactIn old (fact_of f)
    → left < fact_size (fact_under_at (standing now pairs) now f) → first < total fact_size (map (fact_under (standing old pairs)) (map (fact_at old) (map fact_of fs)))
facts_short old now pairs fs i f made first left ready was within is known short =
    let s = standing old pairs in
    let stood : fact_under_at (standing now pairs) now f ≡ fact_under_at s old (get_or fs i f) =
    ap (λ r. fact_under r (fact_at now (fact_of f))) (stands old now pairs was.done.grows ready) ∙ (ap (fact_under s) (fact_at-grows old now (fact_of f) was.done.grows known) ∙ ap (fact_under_at s old) is) in
    omega (arith, was.spent, ap fact_size stood, facts_whole old s fs, total_more (λ x. fact_size (fact_under_at s old x)) fs i f within, total_some (λ x. fact_size (fact_under_at s old x)) (i + 1) fs)

pub facts_applied : (old now : List Term) (s : Subst) (fs : List declared.Fact) (i : ℕ) (made : List declared.Fact) (first left : ℕ) → FactsAreApplied old now s fs i made first left → length fs ≤ i
    → NameFacts now (map fact_of made) (map (fact_under s) (map (fact_at old) (map fact_of fs))) × (left + total fact_size (map (fact_under s) (map (fact_at old) (map fact_of fs))) ≡ first)
facts_applied old now s fs i made first left was past =
    (facts_renumbered old now s fs i made was.done past, omega (arith, was.spent, facts_whole old s fs, ap (total (λ x. fact_size (fact_under_at s old x))) (take_all i fs past)))

-- the size of a fact under a substitution: that of its head, and those of its terms
size_under : (old : List Term) (s : Subst) (f : Fact Id) → fact_size (fact_under s (fact_at old f)) ≡ head_size (head_of f) + total size (map (bind s) (map (tree_at old) (terms_of f)))
size_under old s f =
    fact_size-parts (fact_under s (fact_at old f)) ∙ (λ i. head_size (head_under old s f i) + total size (terms_under old s f i))

-- a fact that is made of its head and of its terms under a substitution, and what is left of the limit
pub fact_applied : (old now : List Term) (s : Subst) (f : Fact Id) (ids : List Id) (first left then : ℕ) → left + head_size (head_of f) ≡ first
    → NameTerms now ids (map (bind s) (map (tree_at old) (terms_of f))) × (then + total size (map (bind s) (map (tree_at old) (terms_of f))) ≡ left)
    → NamesFact now (made_of (head_of f) ids) (fact_under s (fact_at old f)) × (then + fact_size (fact_under s (fact_at old f)) ≡ first)
fact_applied old now s f ids first left then spent (names, rest) =
    (made_names old now (bind s) f ids names, (let e = size_under old s f in omega (arith, spent, rest, e)))

-- too little is left for its terms, or for its head
pub fact_short : (old : List Term) (s : Subst) (f : Fact Id) (first left : ℕ) → left + head_size (head_of f) ≡ first
    → left < total size (map (bind s) (map (tree_at old) (terms_of f))) → first < fact_size (fact_under s (fact_at old f))
fact_short old s f first left spent short = let e = size_under old s f in omega (arith, spent, short, e)

pub head_short : (old : List Term) (s : Subst) (f : Fact Id) (first : ℕ) → first < head_size (head_of f) → first < fact_size (fact_under s (fact_at old f))
head_short old s f first short = let e = size_under old s f in omega (arith, short, e)

-- A clause is made of its conclusion, its hypotheses and its constraints, one after the other.
module _ (old one two : List Term) (pairs : List Bound) (c : IdClause) (ready : IsReady old pairs) (first : Grows old one) (second : Grows one two) (known : IsClauseIn old c) where
  hypotheses_stand : map (fact_under (standing one pairs)) (map (fact_at one) c.hypotheses) ≡ map (fact_under (standing old pairs)) (map (fact_at old) c.hypotheses)
  hypotheses_stand = λ i. map (fact_under (stands old one pairs first ready i)) (facts_at-grow old one c.hypotheses first known.hypotheses i)

  diffs_stand : map (diff_under (standing two pairs)) (diffs_at two c.diffs) ≡ map (diff_under (standing old pairs)) (diffs_at old c.diffs)
  diffs_stand = let grows = Grows_trans old one two first second in λ i. map (diff_under (stands old two pairs grows ready i)) (diffs_at-grow old two c.diffs grows known.diffs i)

  clause_applied : (three : List Term) (hyps : List (Fact Id)) (ds : List (DiffOf Id)) (concl : Fact Id) (left then last : ℕ) → Grows two three
      → NamesFact one concl (fact_under (standing old pairs) (fact_at old c.conclusion)) × (left + fact_size (fact_under (standing old pairs) (fact_at old c.conclusion)) ≡ most_symbols)
      → NameFacts two hyps (map (fact_under (standing one pairs)) (map (fact_at one) c.hypotheses)) × (then + total fact_size (map (fact_under (standing one pairs)) (map (fact_at one) c.hypotheses)) ≡ left)
      → NameDiffs three ds (map (diff_under (standing two pairs)) (diffs_at two c.diffs)) × (last + total diff_size (map (diff_under (standing two pairs)) (diffs_at two c.diffs)) ≡ then)
      → NamesClause three (clause_with hyps ds concl) (clause_under (standing old pairs) (clause_at old c)) × IsWithinLimit (clause_under (standing old pairs) (clause_at old c))
  clause_applied three hyps ds concl left then last third conclusion hypotheses diffs =
      let later = NamesFact-grows one three concl (fact_under (standing old pairs) (fact_at old c.conclusion)) (Grows_trans one two three second third) conclusion.0 in (
        clause_named two three three hyps ds concl (map (fact_under (standing one pairs)) (map (fact_at one) c.hypotheses)) (map (diff_under (standing two pairs)) (diffs_at two c.diffs)) (clause_under (standing old pairs) (clause_at old c)) third (Grows_refl three)
            hypotheses.0 hypotheses_stand diffs.0 diffs_stand later,
        omega (arith, conclusion.1, hypotheses.1, diffs.1, ap (total fact_size) hypotheses_stand, ap (total diff_size) diffs_stand),
      )

  hypotheses_short : (left : ℕ) → left + fact_size (fact_under (standing old pairs) (fact_at old c.conclusion)) ≡ most_symbols → left < total fact_size (map (fact_under (standing one pairs)) (map (fact_at one) c.hypotheses)) → most_symbols < clause_size (clause_under (standing old pairs) (clause_at old c))
  hypotheses_short left spent short = omega (arith, spent, short, ap (total fact_size) hypotheses_stand)

  diffs_short : (left then : ℕ) → left + fact_size (fact_under (standing old pairs) (fact_at old c.conclusion)) ≡ most_symbols → then + total fact_size (map (fact_under (standing one pairs)) (map (fact_at one) c.hypotheses)) ≡ left → then < total diff_size (map (diff_under (standing two pairs)) (diffs_at two c.diffs))
      → most_symbols < clause_size (clause_under (standing old pairs) (clause_at old c))
  diffs_short left then spent more short = omega (arith, spent, more, short, ap (total fact_size) hypotheses_stand, ap (total diff_size) diffs_stand)

-- The same where the parts of the clause are given.
module _ (old one two : List Term) (pairs : List Bound) (h : List (Fact Id)) (es : List (DiffOf Id)) (k : Fact Id) (c : IdClause) (is : clause_with h es k ≡ c) (ready : IsReady old pairs) (first : Grows old one) (known : IsClauseIn old c) where
  parts_known : IsClauseIn old (clause_with h es k)
  parts_known = subst (λ (d : IdClause). IsClauseIn old d) (sym is) known

  pub clause_applied_as : (three : List Term) (hyps : List (Fact Id)) (ds : List (DiffOf Id)) (concl : Fact Id) (left then last : ℕ) → Grows one two → Grows two three
      → NamesFact one concl (fact_under (standing old pairs) (fact_at old k)) × (left + fact_size (fact_under (standing old pairs) (fact_at old k)) ≡ most_symbols)
      → NameFacts two hyps (map (fact_under (standing one pairs)) (map (fact_at one) h)) × (then + total fact_size (map (fact_under (standing one pairs)) (map (fact_at one) h)) ≡ left)
      → NameDiffs three ds (map (diff_under (standing two pairs)) (diffs_at two es)) × (last + total diff_size (map (diff_under (standing two pairs)) (diffs_at two es)) ≡ then)
      → NamesClause three (clause_with hyps ds concl) (clause_under (standing old pairs) (clause_at old c)) × IsWithinLimit (clause_under (standing old pairs) (clause_at old c))
  clause_applied_as three hyps ds concl left then last second third conclusion hypotheses diffs =
      subst (λ (d : IdClause). NamesClause three (clause_with hyps ds concl) (clause_under (standing old pairs) (clause_at old d)) × IsWithinLimit (clause_under (standing old pairs) (clause_at old d))) is
      (clause_applied old one two pairs (clause_with h es k) ready first second parts_known three hyps ds concl left then last third conclusion hypotheses diffs)

  pub hypotheses_short_as : (left : ℕ) → left + fact_size (fact_under (standing old pairs) (fact_at old k)) ≡ most_symbols → left < total fact_size (map (fact_under (standing one pairs)) (map (fact_at one) h)) → most_symbols < clause_size (clause_under (standing old pairs) (clause_at old c))
  hypotheses_short_as left spent short =
      subst (λ (d : IdClause). most_symbols < clause_size (clause_under (standing old pairs) (clause_at old d))) is
      (hypotheses_short old one one pairs (clause_with h es k) ready first (Grows_refl one) parts_known left spent short)

  pub diffs_short_as : (left then : ℕ) → Grows one two → left + fact_size (fact_under (standing old pairs) (fact_at old k)) ≡ most_symbols → then + total fact_size (map (fact_under (standing one pairs)) (map (fact_at one) h)) ≡ left → then < total diff_size (map (diff_under (standing two pairs)) (diffs_at two es))
      → most_symbols < clause_size (clause_under (standing old pairs) (clause_at old c))
  diffs_short_as left then second spent more short =
      subst (λ (d : IdClause). most_symbols < clause_size (clause_under (standing old pairs) (clause_at old d))) is
      (diffs_short old one two pairs (clause_with h es k) ready first second parts_known left then spent more short)
