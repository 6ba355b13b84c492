-- Facts of which two instances are the same have fingerprints that may meet.
use Rattle.std.proofs.Common.{◌≡◌, ◌⊎◌, inl, inr, Option, Some, ℕ, zero, suc, ◌≤◌, ◌-◌, ◌^◌, Bool, true, false, ◌&&◌, List, [], ◌∷◌, map, slice_get, option_map, refl, ap, sym, ◌∙◌, subst, arith}
use Rattle.std.specs.Prelude.{nat_eq}
use Rattle.std.specs.Option.{unwrap_or}
use Rattle.std.proofs.lemmas.Bool.{false≢true, le-leb, eq-eqb}
use Rattle.spec_trees.specs.Tree.{Trees, Leaf, Node, none, more, items_of, bind, binds, after}
use Rattle.spec_terms.specs.Term.{Sym, Ctor, Data, Tuple, Free, Point, Attacker, Term, Subst}
use Rattle.spec_terms.specs.Unifier.{moved}
use Rattle.spec_clauses.specs.Fact.{Fact, Clause, terms_of, fact_under}
use Rattle.spec_clauses.specs.Head.{head_of}
use Rattle.spec_clauses.specs.Selection.{Selection, select, is_solved}
use Rattle.spec_clauses.proofs.Selection.{select-none}
use Rattle.spec_clauses.specs.Resolvents.{Resolves, NoUnifier}
use Rattle.spec_clauses.proofs.Parts.{head_of-map, terms_of-map}
use Rattle.spec_clauses.proofs.Facts.{fact_under-fact_under}
use Rattle.spec_clauses.proofs.Answers.{an_offset, no_unifier}
use Rattle.spec_features.specs.Features.{are_at_most}
use Rattle.spec_fingerprints.specs.Fingerprints.{Root, Anything, Nothing, Symbol, found, root_below, root_among, roots_among, number_of, number_of_head, least_of, most_of, positions, fingerprint_of, may_meet, Fingerprint, hypothesis_print, clause_print, may_resolve}

-- what stands at a position of an instance: the same, where the term doesn't have a variable there or above
abbrev IsKept : Root → Root → Type 0
IsKept root instance = (root ≡ Anything) ⊎ (instance ≡ root)

found_kept : (s : Subst) (way : List ℕ) → ((t : Term) → IsKept (root_below way t) (root_below way (bind s t))) → (ts : List Term) (i : ℕ)
    → IsKept (found (option_map (root_below way) (slice_get ts i))) (found (option_map (root_below way) (slice_get (map (bind s) ts) i)))
found_kept s way kept [] i = inr refl
found_kept s way kept (t ∷ ts) zero = kept t
found_kept s way kept (t ∷ ts) (suc i) = found_kept s way kept ts i

items_of-binds : (s : Subst) (args : Trees ℕ Sym) → items_of (binds s args) ≡ map (bind s) (items_of args)
items_of-binds s none = refl
items_of-binds s (more t ts) = ap (λ us. bind s t ∷ us) (items_of-binds s ts)

root_kept : (s : Subst) (way : List ℕ) (t : Term) → IsKept (root_below way t) (root_below way (bind s t))
root_kept s [] (Leaf x) = inl refl
root_kept s [] (Node f args) = inr refl
root_kept s (i ∷ way) (Leaf x) = inl refl
root_kept s (i ∷ way) (Node f args) =
    subst (λ (us : List Term). IsKept (found (option_map (root_below way) (slice_get (items_of args) i))) (found (option_map (root_below way) (slice_get us i)))) (sym (items_of-binds s args))
    (found_kept s way (root_kept s way) (items_of args) i)

among_kept : (s : Subst) (way : List ℕ) (ts : List Term) → IsKept (root_among way ts) (root_among way (map (bind s) ts))
among_kept s [] ts = inr refl
among_kept s (i ∷ way) ts = found_kept s way (root_kept s way) ts i

-- numbers have sixteen bits
number_small : (f : Sym) → number_of f ≤ 2 ^ 16 - 1
number_small (Ctor f) = omega arith
number_small (Data f) = omega arith
number_small (Tuple n) = omega arith
number_small (Free a) = omega arith
number_small (Point p) = omega arith
number_small Attacker = omega arith

least_small : (r : Root) → least_of r ≤ 2 ^ 16 - 1
least_small Anything = omega arith
least_small Nothing = omega arith
least_small (Symbol f) = number_small f

least_within : (r : Root) → least_of r ≤ most_of r
least_within Anything = omega arith
least_within Nothing = omega arith
least_within (Symbol f) = omega arith

-- what stands in one instance of both may have a number that both may have
overlap : (r q instance : Root) → IsKept r instance → IsKept q instance → least_of r ≤ most_of q
overlap r q instance (inl any) second = subst (λ (x : Root). least_of x ≤ most_of q) (sym any) (omega arith)
overlap r q instance (inr same) (inl any) = subst (λ (x : Root). least_of r ≤ most_of x) (sym any) (least_small r)
overlap r q instance (inr same) (inr other) = subst (λ (x : Root). least_of r ≤ most_of x) (sym same ∙ other) (least_within r)

all_overlap : (ts us : List Term) → ((way : List ℕ) → least_of (root_among way ts) ≤ most_of (root_among way us)) → (ways : List (List ℕ))
    → are_at_most (map least_of (roots_among ways ts)) (map most_of (roots_among ways us)) ≡ true
all_overlap ts us each [] = refl
all_overlap ts us each (way ∷ ways) =
    ap (λ b. b && are_at_most (map least_of (roots_among ways ts)) (map most_of (roots_among ways us))) (le-leb _ _ (each way)) ∙ all_overlap ts us each ways

-- at each position of facts with a common instance
terms_one : (f g : Fact Term) (s t : Subst) → fact_under s f ≡ fact_under t g → map (bind s) (terms_of f) ≡ map (bind t) (terms_of g)
terms_one f g s t e = sym (terms_of-map (bind s) f) ∙ (ap terms_of e ∙ terms_of-map (bind t) g)

roots_overlap : (f g : Fact Term) (s t : Subst) → fact_under s f ≡ fact_under t g → (way : List ℕ) → least_of (root_among way (terms_of f)) ≤ most_of (root_among way (terms_of g))
roots_overlap f g s t e way =
    overlap (root_among way (terms_of f)) (root_among way (terms_of g)) (root_among way (map (bind s) (terms_of f)))
    (among_kept s way (terms_of f))
    (subst (λ (us : List Term). IsKept (root_among way (terms_of g)) (root_among way us)) (sym (terms_one f g s t e)) (among_kept t way (terms_of g)))

heads_one : (f g : Fact Term) (s t : Subst) → fact_under s f ≡ fact_under t g → head_of f ≡ head_of g
heads_one f g s t e = sym (head_of-map (bind s) f) ∙ (ap head_of e ∙ head_of-map (bind t) g)

all_true : (a b c : Bool) → a ≡ true → b ≡ true → c ≡ true → (a && (b && c)) ≡ true
all_true true true true x y z = refl
all_true true true false x y z = z
all_true true false c x y z = y
all_true false b c x y z = x

pub meeting : (f g : Fact Term) (s t : Subst) → fact_under s f ≡ fact_under t g → may_meet (fingerprint_of f) (fingerprint_of g) ≡ true
meeting f g s t e =
    all_true (nat_eq (number_of_head (head_of f)) (number_of_head (head_of g))) _ _
    (eq-eqb (number_of_head (head_of f)) (number_of_head (head_of g)) (ap number_of_head (heads_one f g s t e)))
    (all_overlap (terms_of f) (terms_of g) (roots_overlap f g s t e) positions)
    (all_overlap (terms_of g) (terms_of f) (roots_overlap g f t s (sym e)) positions)

-- facts that never meet, whatever their variables are called, give no unifier
never_met : (solved unsolved : Clause Term) (at : Selection) → ((s t : Subst) → fact_under s solved.conclusion ≡ fact_under t at.fact → ⊥) → Resolves solved unsolved at NoUnifier
never_met solved unsolved at never =
    let (n, below) = an_offset solved in
    no_unifier solved unsolved at record {
      offset = n;
      apart = below;
      unified = λ s e. never s (after s (moved n)) (e ∙ fact_under-fact_under s (moved n) at.fact);
    }

pub facts_apart : (solved unsolved : Clause Term) (at : Selection) → may_meet (fingerprint_of solved.conclusion) (fingerprint_of at.fact) ≡ false → Resolves solved unsolved at NoUnifier
facts_apart solved unsolved at apart = never_met solved unsolved at (λ s t e. false≢true (sym apart ∙ meeting solved.conclusion at.fact s t e))

-- the fingerprints of a solved clause and of an unsolved one
abbrev print_if_selected : Clause Term → Option Selection → Fingerprint
print_if_selected c selection = unwrap_or (option_map (λ (at : Selection). fingerprint_of at.fact) selection) (fingerprint_of c.conclusion)

module _ (solved unsolved : Clause Term) (at : Selection) (selected : select unsolved.hypotheses ≡ Some at) where
  pub hypothesis_apart : may_resolve (fingerprint_of solved.conclusion) (hypothesis_print unsolved) ≡ false → Resolves solved unsolved at NoUnifier
  hypothesis_apart apart =
      let is : hypothesis_print unsolved ≡ Some (fingerprint_of at.fact) = ap (option_map (λ (x : Selection). fingerprint_of x.fact)) selected in
      facts_apart solved unsolved at (sym (ap (may_resolve (fingerprint_of solved.conclusion)) is) ∙ apart)

  module _ (is : is_solved solved.hypotheses ≡ true) where
    conclusion_is : clause_print solved ≡ fingerprint_of solved.conclusion
    conclusion_is = ap (print_if_selected solved) ((select-none solved.hypotheses).1 is)

    hypothesis_is : clause_print unsolved ≡ fingerprint_of at.fact
    hypothesis_is = ap (print_if_selected unsolved) selected

    pub solved_first_apart : may_meet (clause_print solved) (clause_print unsolved) ≡ false → Resolves solved unsolved at NoUnifier
    solved_first_apart apart =
        never_met solved unsolved at
        (λ s t e. false≢true (sym apart ∙ ((λ i. may_meet (conclusion_is i) (hypothesis_is i)) ∙ meeting solved.conclusion at.fact s t e)))

    pub unsolved_first_apart : may_meet (clause_print unsolved) (clause_print solved) ≡ false → Resolves solved unsolved at NoUnifier
    unsolved_first_apart apart =
        never_met solved unsolved at
        (λ s t e. false≢true (sym apart ∙ ((λ i. may_meet (hypothesis_is i) (conclusion_is i)) ∙ meeting at.fact solved.conclusion t s (sym e))))
