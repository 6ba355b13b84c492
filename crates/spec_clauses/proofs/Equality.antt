-- Equality of symbols, terms, facts and clauses' parts is decided by the tests.
use Rattle.std.proofs.Common.{◌≡◌, ◌↔◌, Bool, true, false, ◌&&◌, nat_eq, List, [], ◌∷◌, refl, ap, sym, subst, inl, inr, eqb-true, eq-eqb}
use Rattle.spec_trees.proofs.Equality.{and_true, same_tree-decides}
use Rattle.spec_trees.proofs.Occurrence.{or_true}
use Rattle.spec_terms.specs.Term.{Sym, Ctor, Data, Tuple, Free, Point, Attacker, Term, same_symbol}
use Rattle.std.proofs.lemmas.Bool.{or_left, or_right}
use Rattle.spec_terms.proofs.Replace.{eqb_self}
use Rattle.spec_clauses.specs.Fact.{Fact, Att, Mess, Tab, Ev, Mev, Bad, same_term, same_terms, same_fact, is_among}
use Rattle.spec_clauses.specs.Inclusion.{Picks, here, there, Has}

-- a test that passes exactly where a fact holds, on both sides the same fact, has one answer
pub tests_same : (a b : Bool) → (a ≡ true → b ≡ true) → (b ≡ true → a ≡ true) → a ≡ b
tests_same true b forth back = sym (forth refl)
tests_same false true forth back = back refl
tests_same false false forth back = refl

same_symbol-sound : (f g : Sym) → same_symbol f g ≡ true → f ≡ g
same_symbol-sound (Ctor f) (Ctor g) e = ap Ctor (eqb-true f g e)
same_symbol-sound (Data f) (Data g) e = ap Data (eqb-true f g e)
same_symbol-sound (Tuple m) (Tuple n) e = ap Tuple (eqb-true m n e)
same_symbol-sound (Free a) (Free b) e = ap Free (eqb-true a b e)
same_symbol-sound (Point p) (Point q) e = ap Point (eqb-true p q e)
same_symbol-sound Attacker Attacker e = refl
same_symbol-sound _ _ e = cc

same_symbol-refl : (f : Sym) → same_symbol f f ≡ true
same_symbol-refl (Ctor f) = eqb_self f
same_symbol-refl (Data f) = eqb_self f
same_symbol-refl (Tuple n) = eqb_self n
same_symbol-refl (Free a) = eqb_self a
same_symbol-refl (Point p) = eqb_self p
same_symbol-refl Attacker = refl

pub same_symbol-decides : (f g : Sym) → (same_symbol f g ≡ true) ↔ (f ≡ g)
same_symbol-decides f g = (same_symbol-sound f g, λ e. subst (λ (h : Sym). same_symbol f h ≡ true) e (same_symbol-refl f))

pub same_term-decides : (t u : Term) → (same_term t u ≡ true) ↔ (t ≡ u)
same_term-decides = same_tree-decides nat_eq same_symbol (λ x y. (eqb-true x y, eq-eqb x y)) same_symbol-decides

same_term-refl : (t : Term) → same_term t t ≡ true
same_term-refl t = (same_term-decides t t).1 refl

same_terms-sound : (ts us : List Term) → same_terms ts us ≡ true → ts ≡ us
same_terms-sound [] [] e = refl
same_terms-sound [] (u ∷ us) e = cc
same_terms-sound (t ∷ ts) [] e = cc
same_terms-sound (t ∷ ts) (u ∷ us) e =
    let parts = and_true (same_term t u) (same_terms ts us) e in
    let first : t ≡ u = (same_term-decides t u).0 parts.0 in
    let others : ts ≡ us = same_terms-sound ts us parts.1 in cc

same_terms-refl : (ts : List Term) → same_terms ts ts ≡ true
same_terms-refl [] = refl
same_terms-refl (t ∷ ts) = let first = same_term-refl t in let others = same_terms-refl ts in cc

pub same_terms-decides : (ts us : List Term) → (same_terms ts us ≡ true) ↔ (ts ≡ us)
same_terms-decides ts us = (same_terms-sound ts us, λ e. subst (λ (vs : List Term). same_terms ts vs ≡ true) e (same_terms-refl ts))

same_fact-sound : (f g : Fact Term) → same_fact f g ≡ true → f ≡ g
same_fact-sound (Att k t) (Att l u) e =
    let parts = and_true (nat_eq k l) (same_term t u) e in
    cc (eqb-true k l parts.0, (same_term-decides t u).0 parts.1)
same_fact-sound (Mess k t u) (Mess l v w) e =
    let phases = and_true (nat_eq k l) (same_term t v && same_term u w) e in
    let parts = and_true (same_term t v) (same_term u w) phases.1 in
    cc (eqb-true k l phases.0, (same_term-decides t v).0 parts.0, (same_term-decides u w).0 parts.1)
same_fact-sound (Tab n ts) (Tab m us) same =
    let parts = and_true (nat_eq n m) (same_terms ts us) same in
    cc (eqb-true n m parts.0, same_terms-sound ts us parts.1)
same_fact-sound (Ev e ts) (Ev g us) same =
    let parts = and_true (nat_eq e g) (same_terms ts us) same in
    cc (eqb-true e g parts.0, same_terms-sound ts us parts.1)
same_fact-sound (Mev e ts) (Mev g us) same =
    let parts = and_true (nat_eq e g) (same_terms ts us) same in
    cc (eqb-true e g parts.0, same_terms-sound ts us parts.1)
same_fact-sound (Bad ts) (Bad us) e = ap Bad (same_terms-sound ts us e)
same_fact-sound _ _ e = cc

same_fact-refl : (f : Fact Term) → same_fact f f ≡ true
same_fact-refl (Att k t) = let a = eqb_self k in let b = same_term-refl t in cc
same_fact-refl (Mess k t u) = let a = eqb_self k in let b = same_term-refl t in let d = same_term-refl u in cc
same_fact-refl (Tab e ts) = let a = eqb_self e in let b = same_terms-refl ts in cc
same_fact-refl (Ev e ts) = let a = eqb_self e in let b = same_terms-refl ts in cc
same_fact-refl (Mev e ts) = let a = eqb_self e in let b = same_terms-refl ts in cc
same_fact-refl (Bad ts) = same_terms-refl ts

pub same_fact-decides : (f g : Fact Term) → (same_fact f g ≡ true) ↔ (f ≡ g)
same_fact-decides f g = (same_fact-sound f g, λ e. subst (λ (h : Fact Term). same_fact f h ≡ true) e (same_fact-refl f))

-- a fact is among others exactly where it stands there
pub among_stands : (f : Fact Term) (hs : List (Fact Term)) → is_among hs f ≡ true → Has hs f
among_stands f [] e = cc
among_stands f (h ∷ hs) e = elim (or_true (same_fact f h) (is_among hs f) e) as (λ _. Has (h ∷ hs) f) [
  | inl same ↦ subst (λ (g : Fact Term). Has (h ∷ hs) g) (sym (same_fact-sound f h same)) (hs, here)
  | inr later ↦ (let found = among_stands f hs later in (h ∷ found.0, there found.1))
]

stands_among : {hs rest : List (Fact Term)} {f : Fact Term} → Picks hs f rest → is_among hs f ≡ true
stands_among (here {x = f} {xs = hs}) = or_left (same_fact f f) (is_among hs f) (same_fact-refl f)
stands_among (there {x = f} {y = h} {xs = hs} p) = or_right (same_fact f h) (is_among hs f) (stands_among p)

pub is_among-decides : (hs : List (Fact Term)) (f : Fact Term) → (is_among hs f ≡ true) ↔ Has hs f
is_among-decides hs f = (among_stands f hs, λ h. stands_among h.1)
