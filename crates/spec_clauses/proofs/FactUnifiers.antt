-- Unification of facts is unification of terms, and so it is decided.
use Rattle.std.proofs.Common.{◌≡◌, ◌⊎◌, List, ◌∷◌, refl, sym, ap, ◌∙◌, inl, inr}
use Rattle.std.specs.Prelude.{Option, Some, None}
use Rattle.spec_trees.specs.Tree.{bind, node}
use Rattle.spec_trees.proofs.Rows.{node-injective, bind-node}
use Rattle.spec_terms.specs.Term.{Sym, Ctor, Data, Tuple, Free, Point, Attacker, Term, Subst}
use Rattle.spec_terms.specs.Unifier.{Unifies, IsMgu}
use Rattle.spec_terms.proofs.Decision.{unification_decided}
use Rattle.spec_clauses.specs.Fact.{Fact, Att, Mess, Tab, Ev, Mev, Bad, terms_of, fact_under}
use Rattle.spec_clauses.specs.Unify.{MguGives}

-- a symbol for each predicate with its phase, its event or its table, and a fact as a term with this symbol at its root
abbrev predicate : Fact Term → Sym
predicate (Att k t) = Ctor k
predicate (Mess k t u) = Tuple k
predicate (Tab n ts) = Point n
predicate (Ev e ts) = Free e
predicate (Mev e ts) = Data e
predicate (Bad ts) = Attacker

abbrev fact_term : Fact Term → Term
fact_term f = node (predicate f) (terms_of f)

fact_term-under : (s : Subst) (f : Fact Term) → fact_term (fact_under s f) ≡ bind s (fact_term f)
fact_term-under s (Att phase t) = refl
fact_term-under s (Mess phase t u) = refl
fact_term-under s (Tab e ts) = sym (bind-node s (Point e) ts)
fact_term-under s (Ev e ts) = sym (bind-node s (Free e) ts)
fact_term-under s (Mev e ts) = sym (bind-node s (Data e) ts)
fact_term-under s (Bad ts) = sym (bind-node s Attacker ts)

-- what makes a fact of a symbol and terms
abbrev read_fact : Sym → List Term → Fact Term
read_fact (Free e) ts = Ev e ts
read_fact (Data e) ts = Mev e ts
read_fact (Point n) ts = Tab n ts
read_fact (Ctor k) (t ∷ ts) = Att k t
read_fact (Tuple k) (t ∷ u ∷ ts) = Mess k t u
read_fact _ ts = Bad ts

read_back : (f : Fact Term) → read_fact (predicate f) (terms_of f) ≡ f
read_back (Att phase t) = refl
read_back (Mess phase t u) = refl
read_back (Tab e ts) = refl
read_back (Ev e ts) = refl
read_back (Mev e ts) = refl
read_back (Bad ts) = refl

fact_term-injective : (f g : Fact Term) → fact_term f ≡ fact_term g → f ≡ g
fact_term-injective f g e =
    let (symbols, terms) = node-injective (predicate f) (predicate g) (terms_of f) (terms_of g) e in
    sym (read_back f) ∙ ((λ i. read_fact (symbols i) (terms i)) ∙ read_back g)

-- the same substitutions unify the facts and the terms
facts_as_terms : (s : Subst) (f g : Fact Term) → fact_under s f ≡ fact_under s g → Unifies s (fact_term f) (fact_term g)
facts_as_terms s f g e = sym (fact_term-under s f) ∙ (ap fact_term e ∙ fact_term-under s g)

terms_as_facts : (s : Subst) (f g : Fact Term) → Unifies s (fact_term f) (fact_term g) → fact_under s f ≡ fact_under s g
terms_as_facts s f g e = fact_term-injective (fact_under s f) (fact_under s g) (fact_term-under s f ∙ (e ∙ sym (fact_term-under s g)))

-- So something comes of the unification of two facts, whatever is made of a most general unifier.
pub facts_unified : {X : Type 0} (f g : Fact Term) (made : Subst → X) → (o : Option X) × MguGives (λ s. fact_under s f ≡ fact_under s g) made o
facts_unified {X} f g made = go (unification_decided (fact_term f) (fact_term g)) where
  go : ((s : Subst) × IsMgu (fact_term f) (fact_term g) s) ⊎ ((s : Subst) → Unifies s (fact_term f) (fact_term g) → ⊥) → (o : Option X) × MguGives (λ s. fact_under s f ≡ fact_under s g) made o
  go (inl h) = (Some (made h.0), (h.0, record { accepted = terms_as_facts h.0 f g h.1.accepted; most = λ r e. h.1.most r (facts_as_terms r f g e) }, refl))
  go (inr never) = (None, λ s e. never s (facts_as_terms s f g e))
