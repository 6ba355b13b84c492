-- A fact is its head and its terms in order.
use Rattle.std.proofs.Common.{◌≡◌, ◌↔◌, ◌+◌, Bool, true, false, ◌&&◌, nat_eq, List, [], ◌∷◌, map, length, refl, ap, subst, ◌∙◌, sym, eqb-true, arith}
use Rattle.spec_trees.specs.Tree.{size}
use Rattle.spec_terms.specs.Term.{Term}
use Rattle.spec_terms.proofs.Replace.{eqb_self}
use Rattle.spec_clauses.specs.Fact.{Fact, terms_of, map_fact, total, fact_size, same_term, same_terms, same_fact, outline}
use Rattle.spec_clauses.specs.Fact as fact
use Rattle.spec_clauses.specs.Head.{Head, Att, Mess, Tab, Ev, Mev, Bad, head_of, made_of, same_head, head_size}

-- the fact is made of its parts
pub made_of-parts : {X : Type 0} (f : Fact X) → made_of (head_of f) (terms_of f) ≡ f
made_of-parts (fact.Att k t) = refl
made_of-parts (fact.Mess k t u) = refl
made_of-parts (fact.Tab n ts) = refl
made_of-parts (fact.Ev e ts) = refl
made_of-parts (fact.Mev e ts) = refl
made_of-parts (fact.Bad ts) = refl

-- so facts of the same parts are the same
pub parts_determine : {X : Type 0} (f g : Fact X) → head_of f ≡ head_of g → terms_of f ≡ terms_of g → f ≡ g
parts_determine f g heads terms = sym (made_of-parts f) ∙ ((λ i. made_of (heads i) (terms i)) ∙ made_of-parts g)

-- what is done with each term keeps the head
module _ {X Y : Type 0} (h : X → Y) where
  pub head_of-map : (f : Fact X) → head_of (map_fact h f) ≡ head_of f
  head_of-map (fact.Att k t) = refl
  head_of-map (fact.Mess k t u) = refl
  head_of-map (fact.Tab n ts) = refl
  head_of-map (fact.Ev e ts) = refl
  head_of-map (fact.Mev e ts) = refl
  head_of-map (fact.Bad ts) = refl

  pub terms_of-map : (f : Fact X) → terms_of (map_fact h f) ≡ map h (terms_of f)
  terms_of-map (fact.Att k t) = refl
  terms_of-map (fact.Mess k t u) = refl
  terms_of-map (fact.Tab n ts) = refl
  terms_of-map (fact.Ev e ts) = refl
  terms_of-map (fact.Mev e ts) = refl
  terms_of-map (fact.Bad ts) = refl

  pub map_fact-parts : (f : Fact X) → map_fact h f ≡ made_of (head_of f) (map h (terms_of f))
  map_fact-parts (fact.Att k t) = refl
  map_fact-parts (fact.Mess k t u) = refl
  map_fact-parts (fact.Tab n ts) = refl
  map_fact-parts (fact.Ev e ts) = refl
  map_fact-parts (fact.Mev e ts) = refl
  map_fact-parts (fact.Bad ts) = refl

-- equality of heads is decided by the test
same_head-sound : (h k : Head) → same_head h k ≡ true → h ≡ k
same_head-sound (Att k) (Att l) e = ap Att (eqb-true k l e)
same_head-sound (Mess k) (Mess l) e = ap Mess (eqb-true k l e)
same_head-sound (Tab m) (Tab n) e = ap Tab (eqb-true m n e)
same_head-sound (Ev m) (Ev n) e = ap Ev (eqb-true m n e)
same_head-sound (Mev m) (Mev n) e = ap Mev (eqb-true m n e)
same_head-sound Bad Bad e = refl
same_head-sound _ _ e = cc

same_head-refl : (h : Head) → same_head h h ≡ true
same_head-refl (Att k) = eqb_self k
same_head-refl (Mess k) = eqb_self k
same_head-refl (Tab n) = eqb_self n
same_head-refl (Ev e) = eqb_self e
same_head-refl (Mev e) = eqb_self e
same_head-refl Bad = refl

pub same_head-decides : (h k : Head) → (same_head h k ≡ true) ↔ (h ≡ k)
same_head-decides h k = (same_head-sound h k, λ e. subst (λ (it : Head). same_head h it ≡ true) e (same_head-refl h))

-- and that of facts by those of their parts
one_term : (p a : Bool) → (p && a) ≡ (p && (a && true))
one_term true true = refl
one_term true false = refl
one_term false a = refl

two_terms : (p a b : Bool) → (p && (a && b)) ≡ (p && (a && (b && true)))
two_terms true a b = one_term a b
two_terms false a b = refl

pub same_fact-parts : (f g : Fact Term) → same_fact f g ≡ (same_head (head_of f) (head_of g) && same_terms (terms_of f) (terms_of g))
same_fact-parts (fact.Att k t) (fact.Att l u) = one_term (nat_eq k l) (same_term t u)
same_fact-parts (fact.Mess k t u) (fact.Mess l v w) = two_terms (nat_eq k l) (same_term t v) (same_term u w)
same_fact-parts (fact.Tab n ts) (fact.Tab m us) = refl
same_fact-parts (fact.Ev e ts) (fact.Ev g us) = refl
same_fact-parts (fact.Mev e ts) (fact.Mev g us) = refl
same_fact-parts (fact.Bad ts) (fact.Bad us) = refl
same_fact-parts (fact.Att k t) (fact.Mess l v w) = refl
same_fact-parts (fact.Att k t) (fact.Tab m us) = refl
same_fact-parts (fact.Att k t) (fact.Ev g us) = refl
same_fact-parts (fact.Att k t) (fact.Mev g us) = refl
same_fact-parts (fact.Att k t) (fact.Bad us) = refl
same_fact-parts (fact.Mess k t u) (fact.Att l v) = refl
same_fact-parts (fact.Mess k t u) (fact.Tab m us) = refl
same_fact-parts (fact.Mess k t u) (fact.Ev g us) = refl
same_fact-parts (fact.Mess k t u) (fact.Mev g us) = refl
same_fact-parts (fact.Mess k t u) (fact.Bad us) = refl
same_fact-parts (fact.Tab n ts) (fact.Att l u) = refl
same_fact-parts (fact.Tab n ts) (fact.Mess l v w) = refl
same_fact-parts (fact.Tab n ts) (fact.Ev g us) = refl
same_fact-parts (fact.Tab n ts) (fact.Mev g us) = refl
same_fact-parts (fact.Tab n ts) (fact.Bad us) = refl
same_fact-parts (fact.Ev e ts) (fact.Att l u) = refl
same_fact-parts (fact.Ev e ts) (fact.Mess l v w) = refl
same_fact-parts (fact.Ev e ts) (fact.Tab m us) = refl
same_fact-parts (fact.Ev e ts) (fact.Mev g us) = refl
same_fact-parts (fact.Ev e ts) (fact.Bad us) = refl
same_fact-parts (fact.Mev e ts) (fact.Att l u) = refl
same_fact-parts (fact.Mev e ts) (fact.Mess l v w) = refl
same_fact-parts (fact.Mev e ts) (fact.Tab m us) = refl
same_fact-parts (fact.Mev e ts) (fact.Ev g us) = refl
same_fact-parts (fact.Mev e ts) (fact.Bad us) = refl
same_fact-parts (fact.Bad ts) (fact.Att l u) = refl
same_fact-parts (fact.Bad ts) (fact.Mess l v w) = refl
same_fact-parts (fact.Bad ts) (fact.Tab m us) = refl
same_fact-parts (fact.Bad ts) (fact.Ev g us) = refl
same_fact-parts (fact.Bad ts) (fact.Mev g us) = refl

-- the size of a fact is that of its head and those of its terms
pub fact_size-parts : (f : Fact Term) → fact_size f ≡ head_size (head_of f) + total size (terms_of f)
fact_size-parts (fact.Att k t) = omega arith
fact_size-parts (fact.Mess k t u) = omega arith
fact_size-parts (fact.Tab n ts) = refl
fact_size-parts (fact.Ev e ts) = refl
fact_size-parts (fact.Mev e ts) = refl
fact_size-parts (fact.Bad ts) = refl

-- facts of one head and of as many terms have one outline
abbrev blank : {X : Type 0} → X → Unit {0}
blank t = tt

as_long : {X Y : Type 0} (ts : List X) (us : List Y) → length ts ≡ length us → map blank ts ≡ map blank us
as_long [] [] e = refl
as_long [] (u ∷ us) e = absurd (omega arith)
as_long (t ∷ ts) [] e = absurd (omega arith)
as_long (t ∷ ts) (u ∷ us) e = cc (as_long ts us (omega arith))

pub outline-parts : {X Y : Type 0} (f : Fact X) (g : Fact Y) → head_of f ≡ head_of g → length (terms_of f) ≡ length (terms_of g) → outline f ≡ outline g
outline-parts f g heads lengths =
    map_fact-parts blank f ∙ ((λ i. made_of (heads i) (as_long (terms_of f) (terms_of g) lengths i)) ∙ sym (map_fact-parts blank g))

pub outline-head : {X Y : Type 0} (f : Fact X) (g : Fact Y) → outline f ≡ outline g → head_of f ≡ head_of g
outline-head f g e = sym (head_of-map blank f) ∙ (ap head_of e ∙ head_of-map blank g)
