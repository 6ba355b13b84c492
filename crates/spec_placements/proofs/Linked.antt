-- Why each variable of a loose hypothesis or a constraint of a normal clause stands elsewhere too.
use Rattle.std.proofs.Common.{◌≡◌, ℕ, Bool, true, false, not, ◌||◌, nat_eq, List, [], ◌∷◌, ◌++◌, refl, sym, ap, ◌∙◌, subst, is_some}
use Rattle.std.specs.Prelude.{flat_map}
use Rattle.std.specs.List.{AllByRecursion, list_any}
use Rattle.std.proofs.Math.Bool.{or_assoc}
use Rattle.std.proofs.lemmas.List.Folds.{list_any-append}
use Rattle.spec_trees.specs.Tree.{Trees, Leaf, Node, none, more, some_leaves}
use Rattle.spec_terms.specs.Term.{Sym, Term, has_var}
use Rattle.spec_terms.specs.Binding.{Binding, bound_to}
use Rattle.spec_clauses.specs.Fact.{Fact, Att, Mess, Tab, Ev, Mev, Bad, Clause, terms_of}
use Rattle.spec_clauses.specs.Variables.{leaves, row_leaves, fact_variables, constrained_variables, firm, firm_variables}
use Rattle.spec_clauses.specs.Diff.{Diff, diff_variables}
use Rattle.spec_clauses.specs.Norm.{elsewhere, is_lonely, EachRuleKeeps}
use Rattle.spec_clauses.specs.Inclusion.{Picks, here, there}
use Rattle.spec_clauses.proofs.Distinct.{all-filter_passes}
use Rattle.spec_clauses.proofs.Lists.{all_append, all_first, all_second, all_weaker}
use Rattle.spec_clauses.proofs.Anchors.{constrained_elsewhere}
use Rattle.spec_placements.specs.Placing.{Loose, loose_variables, variables_of, linked_variables, fact_has, some_fact_has, FactMatched, AreLinked, IsLinked}

-- Whether a variable stands in a term, in terms, in a fact or in facts is told by their variables.
or_end : (b : Bool) → (b || false) ≡ b
or_end true = refl
or_end false = refl

mutual
  leaves_have : (x : ℕ) (t : Term) → list_any (nat_eq x) (leaves t) ≡ has_var x t
  leaves_have x (Leaf y) = or_end (nat_eq x y)
  leaves_have x (Node f args) = row_leaves_have x args

  row_leaves_have : (x : ℕ) (ts : Trees ℕ Sym) → list_any (nat_eq x) (row_leaves ts) ≡ some_leaves (nat_eq x) ts
  row_leaves_have x none = refl
  row_leaves_have x (more t ts) = list_any-append (nat_eq x) (leaves t) (row_leaves ts) ∙ (λ i. leaves_have x t i || row_leaves_have x ts i)

all_have : {X : Type 0} (x : ℕ) (f : X → List ℕ) (has : X → Bool) → ((y : X) → list_any (nat_eq x) (f y) ≡ has y) → (ys : List X) → list_any (nat_eq x) (flat_map f ys) ≡ list_any has ys
all_have x f has same [] = refl
all_have x f has same (y ∷ ys) = list_any-append (nat_eq x) (f y) (flat_map f ys) ∙ (λ i. same y i || all_have x f has same ys i)

variables_have : (x : ℕ) (f : Fact Term) → list_any (nat_eq x) (fact_variables f) ≡ fact_has x f
variables_have x f = all_have x leaves (has_var x) (leaves_have x) (terms_of f)

elsewhere_has : (x : ℕ) (c : Clause Term) → list_any (nat_eq x) (elsewhere c) ≡ (fact_has x c.conclusion || some_fact_has x (firm c.hypotheses))
elsewhere_has x c =
    list_any-append (nat_eq x) (fact_variables c.conclusion) (firm_variables c.hypotheses)
    ∙ (λ i. variables_have x c.conclusion i || all_have x fact_variables (fact_has x) (variables_have x) (firm c.hypotheses) i)

-- A loose hypothesis that isn't lonely has its variable elsewhere.
of_not : (b : Bool) → not (not b) ≡ true → b ≡ true
of_not true e = refl
of_not false e = e

not_lonely : (vs : List ℕ) (hs : List (Fact Term)) → AllByRecursion (λ h. not (is_lonely vs h) ≡ true) hs → AllByRecursion (λ x. list_any (nat_eq x) vs ≡ true) (variables_of (loose_variables hs))
not_lonely vs [] a = tt
not_lonely vs (Att k (Leaf x) ∷ hs) a = (of_not (list_any (nat_eq x) vs) a.0, not_lonely vs hs a.1)
not_lonely vs (Att k (Node f args) ∷ hs) a = not_lonely vs hs a.1
not_lonely vs (Mess k t u ∷ hs) a = not_lonely vs hs a.1
not_lonely vs (Tab n ts ∷ hs) a = not_lonely vs hs a.1
not_lonely vs (Ev n ts ∷ hs) a = not_lonely vs hs a.1
not_lonely vs (Mev n ts ∷ hs) a = not_lonely vs hs a.1
not_lonely vs (Bad ts ∷ hs) a = not_lonely vs hs a.1

pub rules_link : (c : Clause Term) → EachRuleKeeps c → IsLinked c
rules_link c keeps =
    let vs = elsewhere c in
    let loose = variables_of (loose_variables c.hypotheses) in
    let kept = subst (AllByRecursion (λ h. not (is_lonely vs h) ≡ true)) (ap (λ (d : Clause Term). d.hypotheses) keeps.none_lonely) (all-filter_passes (λ h. not (is_lonely vs h)) c.hypotheses) in
    let stand = all_append (λ x. list_any (nat_eq x) vs ≡ true) loose (constrained_variables c) (not_lonely vs c.hypotheses kept) (constrained_elsewhere c keeps.none_needless) in
    all_weaker (λ x. list_any (nat_eq x) vs ≡ true) (λ x. (fact_has x c.conclusion || some_fact_has x (firm c.hypotheses)) ≡ true) (λ x e. sym (elsewhere_has x c) ∙ e) (loose ++ constrained_variables c) stand

-- What is linked by the conclusion is bound once that is matched, and what is linked by a fact once that is placed.
pub linked_first : (bs : List Binding) (c : Clause Term) (h : Fact Term) → IsLinked c → FactMatched [] bs c.conclusion h → AreLinked bs (linked_variables (loose_variables c.hypotheses) c.diffs) (firm c.hypotheses)
linked_first bs c h linked m = all_weaker (λ x. (fact_has x c.conclusion || some_fact_has x (firm c.hypotheses)) ≡ true) (λ x. (is_some (bound_to bs x) || some_fact_has x (firm c.hypotheses)) ≡ true) (λ x e. ap (λ b. b || some_fact_has x (firm c.hypotheses)) (m.exactly x) ∙ e) (linked_variables (loose_variables c.hypotheses) c.diffs) linked

or_swap : (a b c : Bool) → (a || (b || c)) ≡ (b || (a || c))
or_swap true true c = refl
or_swap true false c = refl
or_swap false true c = refl
or_swap false false c = refl

picked_has : (x : ℕ) {facts rest : List (Fact Term)} {g : Fact Term} → Picks facts g rest → some_fact_has x facts ≡ (fact_has x g || some_fact_has x rest)
picked_has x here = refl
picked_has x (there {x = g} {y = f} {rest = rest} p) = ap (λ b. fact_has x f || b) (picked_has x p) ∙ or_swap (fact_has x f) (fact_has x g) (some_fact_has x rest)

pub linked_next : (old new : List Binding) (variables : List ℕ) (facts rest : List (Fact Term)) (g h : Fact Term) → Picks facts g rest → FactMatched old new g h → AreLinked old variables facts → AreLinked new variables rest
linked_next old new variables facts rest g h p m linked = all_weaker (λ x. (is_some (bound_to old x) || some_fact_has x facts) ≡ true) (λ x. (is_some (bound_to new x) || some_fact_has x rest) ≡ true) (λ x e.
    ap (λ b. b || some_fact_has x rest) (m.exactly x) ∙ (or_assoc (is_some (bound_to old x)) (fact_has x g) (some_fact_has x rest) ∙ (ap (λ b. is_some (bound_to old x) || b) (sym (picked_has x p)) ∙ e))) variables linked

-- The variables of both are those of the loose hypotheses and those of the constraints.
module _ (bs : List Binding) (loose : List Loose) (diffs : List Diff) (facts : List (Fact Term)) where
  abbrev IsOneLinked : ℕ → Type 0
  IsOneLinked x = (is_some (bound_to bs x) || some_fact_has x facts) ≡ true

  pub linked_loose : AreLinked bs (linked_variables loose diffs) facts → AreLinked bs (variables_of loose) facts
  linked_loose a = all_first IsOneLinked (variables_of loose) (flat_map diff_variables diffs) a

  pub linked_diffs : AreLinked bs (linked_variables loose diffs) facts → AreLinked bs (flat_map diff_variables diffs) facts
  linked_diffs a = all_second IsOneLinked (variables_of loose) (flat_map diff_variables diffs) a

  pub linked_both : AreLinked bs (variables_of loose) facts → AreLinked bs (flat_map diff_variables diffs) facts → AreLinked bs (linked_variables loose diffs) facts
  linked_both a b = all_append IsOneLinked (variables_of loose) (flat_map diff_variables diffs) a b
