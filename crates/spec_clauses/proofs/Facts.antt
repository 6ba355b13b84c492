-- Facts and clauses under maps and substitutions.
use Rattle.std.proofs.Common.{◌≡◌, List, [], ◌∷◌, map, refl, ap, ◌∙◌}
use Rattle.std.specs.Prelude.{flat_map}
use Rattle.std.specs.List.{AllByRecursion}
use Rattle.std.proofs.lemmas.Simd.{map-map}
use Rattle.std.proofs.lemmas.List.{map-id}
use Rattle.spec_trees.specs.Tree.{Leaf, bind, after}
use Rattle.spec_trees.proofs.Substitution.{bind-Leaf, bind-bind}
use Rattle.spec_terms.specs.Term.{Term, Subst}
use Rattle.spec_clauses.specs.Fact.{Fact, Att, Mess, Tab, Ev, Mev, Bad, Clause, terms_of, clause_terms, map_fact, map_clause, fact_under, clause_under}
use Rattle.spec_clauses.specs.Variables.{leaves, fact_variables, clause_variables, constrained_variables}
use Rattle.spec_clauses.proofs.Lists.{all_append, all_first, all_second, map_same}
use Rattle.spec_clauses.proofs.Diffs.{bind-alike, diffs_under-diffs_under, diffs_under-Leaf, diffs_under-agree, diffs_under-fixed, maps-fixed}

-- one map after another is their composition
module _ {X Y Z : Type 0} (g : Y → Z) (f : X → Y) where
  pub map_fact-map_fact : (h : Fact X) → map_fact g (map_fact f h) ≡ map_fact (λ x. g (f x)) h
  map_fact-map_fact (Att phase t) = refl
  map_fact-map_fact (Mess phase t u) = refl
  map_fact-map_fact (Tab e ts) = ap (Tab e) (map-map g f ts)
  map_fact-map_fact (Ev e ts) = ap (Ev e) (map-map g f ts)
  map_fact-map_fact (Mev e ts) = ap (Mev e) (map-map g f ts)
  map_fact-map_fact (Bad ts) = ap Bad (map-map g f ts)

  pub map_facts-map_facts : (hs : List (Fact X)) → map (map_fact g) (map (map_fact f) hs) ≡ map (map_fact (λ x. g (f x))) hs
  map_facts-map_facts [] = refl
  map_facts-map_facts (h ∷ hs) = cc (map_fact-map_fact h, map_facts-map_facts hs)

  pub map_clause-map_clause : (c : Clause X) → map_clause g (map_clause f c) ≡ map_clause (λ x. g (f x)) c
  map_clause-map_clause c = λ i. record { hypotheses = map_facts-map_facts c.hypotheses i; diffs = c.diffs; conclusion = map_fact-map_fact c.conclusion i }

-- maps that agree on the terms of a fact or of a clause give the same
module _ {X Y : Type 0} (f g : X → Y) where
  pub map_fact-agree : (h : Fact X) → AllByRecursion (λ x. f x ≡ g x) (terms_of h) → map_fact f h ≡ map_fact g h
  map_fact-agree (Att phase t) a = ap (Att phase) a.0
  map_fact-agree (Mess phase t u) a = cc (a.0, a.1.0)
  map_fact-agree (Tab e ts) a = ap (Tab e) (map_same f g ts a)
  map_fact-agree (Ev e ts) a = ap (Ev e) (map_same f g ts a)
  map_fact-agree (Mev e ts) a = ap (Mev e) (map_same f g ts a)
  map_fact-agree (Bad ts) a = ap Bad (map_same f g ts a)

  pub map_facts-agree : (hs : List (Fact X)) → AllByRecursion (λ x. f x ≡ g x) (flat_map terms_of hs) → map (map_fact f) hs ≡ map (map_fact g) hs
  map_facts-agree [] a = refl
  map_facts-agree (h ∷ hs) a =
      let here = map_fact-agree h (all_first (λ x. f x ≡ g x) (terms_of h) (flat_map terms_of hs) a) in
      let others = map_facts-agree hs (all_second (λ x. f x ≡ g x) (terms_of h) (flat_map terms_of hs) a) in
      cc (here, others)

  pub map_clause-agree : (c : Clause X) → AllByRecursion (λ x. f x ≡ g x) (clause_terms c) → map_clause f c ≡ map_clause g c
  map_clause-agree c a =
      let conclusions = map_fact-agree c.conclusion (all_first (λ x. f x ≡ g x) (terms_of c.conclusion) (flat_map terms_of c.hypotheses) a) in
      let hypotheses = map_facts-agree c.hypotheses (all_second (λ x. f x ≡ g x) (terms_of c.conclusion) (flat_map terms_of c.hypotheses) a) in
      λ i. record { hypotheses = hypotheses i; diffs = c.diffs; conclusion = conclusions i }

-- each term kept: the fact, the facts and the clause themselves
pub map_fact-id : {X : Type 0} (h : Fact X) → map_fact (λ x. x) h ≡ h
map_fact-id (Att phase t) = refl
map_fact-id (Mess phase t u) = refl
map_fact-id (Tab e ts) = ap (Tab e) (map-id ts)
map_fact-id (Ev e ts) = ap (Ev e) (map-id ts)
map_fact-id (Mev e ts) = ap (Mev e) (map-id ts)
map_fact-id (Bad ts) = ap Bad (map-id ts)

pub map_facts-id : {X : Type 0} (hs : List (Fact X)) → map (map_fact (λ x. x)) hs ≡ hs
map_facts-id [] = refl
map_facts-id (h ∷ hs) = cc (map_fact-id h, map_facts-id hs)

pub map_clause-id : {X : Type 0} (c : Clause X) → map_clause (λ x. x) c ≡ c
map_clause-id c = λ i. record { hypotheses = map_facts-id c.hypotheses i; diffs = c.diffs; conclusion = map_fact-id c.conclusion i }

-- one substitution after another is their composition
pub fact_under-fact_under : (s t : Subst) (h : Fact Term) → fact_under s (fact_under t h) ≡ fact_under (after s t) h
fact_under-fact_under s t h = map_fact-map_fact (bind s) (bind t) h ∙ (λ i. map_fact (λ x. bind-bind s t x i) h)

pub facts_under-facts_under : (s t : Subst) (hs : List (Fact Term)) → map (fact_under s) (map (fact_under t) hs) ≡ map (fact_under (after s t)) hs
facts_under-facts_under s t hs = map_facts-map_facts (bind s) (bind t) hs ∙ (λ i. map (map_fact (λ x. bind-bind s t x i)) hs)

pub clause_under-clause_under : (s t : Subst) (c : Clause Term) → clause_under s (clause_under t c) ≡ clause_under (after s t) c
clause_under-clause_under s t c = λ i. record {
  hypotheses = facts_under-facts_under s t c.hypotheses i;
  diffs = diffs_under-diffs_under s t c.diffs i;
  conclusion = fact_under-fact_under s t c.conclusion i;
}

-- each variable kept
pub fact_under-Leaf : (h : Fact Term) → fact_under Leaf h ≡ h
fact_under-Leaf h = (λ i. map_fact (λ x. bind-Leaf x i) h) ∙ map_fact-id h

pub facts_under-Leaf : (hs : List (Fact Term)) → map (fact_under Leaf) hs ≡ hs
facts_under-Leaf hs = (λ i. map (map_fact (λ x. bind-Leaf x i)) hs) ∙ map_facts-id hs

pub clause_under-Leaf : (c : Clause Term) → clause_under Leaf c ≡ c
clause_under-Leaf c = λ i. record { hypotheses = facts_under-Leaf c.hypotheses i; diffs = diffs_under-Leaf c.diffs i; conclusion = fact_under-Leaf c.conclusion i }

-- Only what a substitution has for the variables at hand counts.
module _ (s t : Subst) where
  pub bind-agree_on : (x : Term) → AllByRecursion (λ v. s v ≡ t v) (leaves x) → bind s x ≡ bind t x
  bind-agree_on x a = bind-alike s t x a

  maps-agree_on : (xs : List Term) → AllByRecursion (λ v. s v ≡ t v) (flat_map leaves xs) → AllByRecursion (λ x. bind s x ≡ bind t x) xs
  maps-agree_on [] a = tt
  maps-agree_on (x ∷ xs) a = (
    bind-agree_on x (all_first (λ v. s v ≡ t v) (leaves x) (flat_map leaves xs) a),
    maps-agree_on xs (all_second (λ v. s v ≡ t v) (leaves x) (flat_map leaves xs) a),
  )

  pub fact_under-agree : (h : Fact Term) → AllByRecursion (λ v. s v ≡ t v) (fact_variables h) → fact_under s h ≡ fact_under t h
  fact_under-agree h a = map_fact-agree (bind s) (bind t) h (maps-agree_on (terms_of h) a)

  pub facts_under-agree : (hs : List (Fact Term)) → AllByRecursion (λ v. s v ≡ t v) (flat_map fact_variables hs) → map (fact_under s) hs ≡ map (fact_under t) hs
  facts_under-agree [] a = refl
  facts_under-agree (h ∷ hs) a =
      let here = fact_under-agree h (all_first (λ v. s v ≡ t v) (fact_variables h) (flat_map fact_variables hs) a) in
      let others = facts_under-agree hs (all_second (λ v. s v ≡ t v) (fact_variables h) (flat_map fact_variables hs) a) in
      cc (here, others)

  pub clause_under-agree : (c : Clause Term) → AllByRecursion (λ v. s v ≡ t v) (clause_variables c) → AllByRecursion (λ v. s v ≡ t v) (constrained_variables c) → clause_under s c ≡ clause_under t c
  clause_under-agree c a b =
      let conclusions = fact_under-agree c.conclusion (all_first (λ v. s v ≡ t v) (fact_variables c.conclusion) (flat_map fact_variables c.hypotheses) a) in
      let hypotheses = facts_under-agree c.hypotheses (all_second (λ v. s v ≡ t v) (fact_variables c.conclusion) (flat_map fact_variables c.hypotheses) a) in
      λ i. record { hypotheses = hypotheses i; diffs = diffs_under-agree s t c.diffs b i; conclusion = conclusions i }

-- What leaves a fact as it is leaves each of its variables.
module _ (u : Subst) where
  pub fact_under-fixed : (h : Fact Term) → fact_under u h ≡ h → AllByRecursion (λ v. u v ≡ Leaf v) (fact_variables h)
  fact_under-fixed (Att phase t) e = let same : bind u t ≡ t = cc in maps-fixed u (t ∷ []) (ap (λ x. x ∷ []) same)
  fact_under-fixed (Mess phase t v) e =
      let first : bind u t ≡ t = cc in
      let second : bind u v ≡ v = cc in
      maps-fixed u (t ∷ v ∷ []) (λ i. first i ∷ second i ∷ [])
  fact_under-fixed (Tab e ts) same = let all : map (bind u) ts ≡ ts = cc in maps-fixed u ts all
  fact_under-fixed (Ev e ts) same = let all : map (bind u) ts ≡ ts = cc in maps-fixed u ts all
  fact_under-fixed (Mev e ts) same = let all : map (bind u) ts ≡ ts = cc in maps-fixed u ts all
  fact_under-fixed (Bad ts) same = let all : map (bind u) ts ≡ ts = cc in maps-fixed u ts all

  pub facts_under-fixed : (hs : List (Fact Term)) → map (fact_under u) hs ≡ hs → AllByRecursion (λ v. u v ≡ Leaf v) (flat_map fact_variables hs)
  facts_under-fixed [] e = tt
  facts_under-fixed (h ∷ hs) e =
      let here : fact_under u h ≡ h = cc in
      let others : map (fact_under u) hs ≡ hs = cc in
      all_append (λ v. u v ≡ Leaf v) (fact_variables h) (flat_map fact_variables hs) (fact_under-fixed h here) (facts_under-fixed hs others)

  pub clause_under-fixed : (c : Clause Term) → clause_under u c ≡ c → AllByRecursion (λ v. u v ≡ Leaf v) (clause_variables c)
  clause_under-fixed c e =
      all_append (λ v. u v ≡ Leaf v) (fact_variables c.conclusion) (flat_map fact_variables c.hypotheses)
      (fact_under-fixed c.conclusion (λ i. (e i).conclusion))
      (facts_under-fixed c.hypotheses (λ i. (e i).hypotheses))

  pub constraints_under-fixed : (c : Clause Term) → clause_under u c ≡ c → AllByRecursion (λ v. u v ≡ Leaf v) (constrained_variables c)
  constraints_under-fixed c e = diffs_under-fixed u c.diffs (λ i. (e i).diffs)
