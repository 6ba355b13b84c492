-- The flat parts of a clause are flat, and the flat under substitutions in a row is the flat under both.
use Rattle.std.proofs.Common.{◌≡◌, ℕ, Bool, true, false, cond, List, [], ◌∷◌, ◌++◌, map, refl, ap, sym, ◌∙◌}
use Rattle.std.specs.Prelude.{flat_map}
use Rattle.std.specs.List.{list_all}
use Rattle.std.proofs.lemmas.List.{map-append, append-nil}
use Rattle.std.proofs.lemmas.List.Concat.{flat_map-append}
use Rattle.spec_trees.specs.Tree.{Trees, Leaf, Node, none, more, bind, binds, after}
use Rattle.spec_trees.proofs.Equality.{and_true}
use Rattle.spec_terms.specs.Term.{Sym, Term, Subst}
use Rattle.spec_clauses.specs.Fact.{Fact, Att, Mess, Tab, Ev, Mev, Bad, Clause, fact_under}
use Rattle.spec_clauses.specs.Flat.{flat, flat_under, parts, row_parts, is_data, flat_parts, is_flat, is_flat_clause}
use Rattle.spec_clauses.specs.Inclusion.{Picks, here, there, Has}
use Rattle.spec_clauses.proofs.Facts.{fact_under-fact_under, fact_under-Leaf}
use Rattle.spec_clauses.proofs.Inclusion.{Has-map_source}

pub all_pass_append : {X : Type 0} (p : X → Bool) (xs ys : List X) → list_all p xs ≡ true → list_all p ys ≡ true → list_all p (xs ++ ys) ≡ true
all_pass_append p [] ys h k = k
all_pass_append p (x ∷ xs) ys h k = let a = and_true (p x) (list_all p xs) h in rw (a.0, all_pass_append p xs ys a.1 k) refl

pub all_pass_at : {X : Type 0} (p : X → Bool) {xs rest : List X} {x : X} → list_all p xs ≡ true → Picks xs x rest → p x ≡ true
all_pass_at p h (here {x = x} {xs = xs}) = (and_true (p x) (list_all p xs) h).0
all_pass_at p h (there {y = y} {xs = xs} k) = all_pass_at p (and_true (p y) (list_all p xs) h).1 k

mutual
  parts-flat : (phase : ℕ) (t : Term) → list_all is_flat (map (Att phase) (parts t)) ≡ true
  parts-flat phase (Leaf x) = refl
  parts-flat phase (Node f args) = go (is_data f) refl (row_parts-flat phase args) where
    go : (b : Bool) → is_data f ≡ b → list_all is_flat (map (Att phase) (row_parts args)) ≡ true → list_all is_flat (map (Att phase) (cond (is_data f) (row_parts args) (Node f args ∷ []))) ≡ true
    go true e row = rw e row
    go false e row = rw e (rw e refl)

  row_parts-flat : (phase : ℕ) (ts : Trees ℕ Sym) → list_all is_flat (map (Att phase) (row_parts ts)) ≡ true
  row_parts-flat phase none = refl
  row_parts-flat phase (more t ts) = rw (map-append (Att phase) (parts t) (row_parts ts)) (all_pass_append is_flat (map (Att phase) (parts t)) (map (Att phase) (row_parts ts)) (parts-flat phase t) (row_parts-flat phase ts))

pub flat-flat : (f : Fact Term) → list_all is_flat (flat f) ≡ true
flat-flat (Att phase t) = parts-flat phase t
flat-flat (Mess phase t u) = refl
flat-flat (Tab e ts) = refl
flat-flat (Ev e ts) = refl
flat-flat (Mev e ts) = refl
flat-flat (Bad ts) = refl

flats-flat : (fs : List (Fact Term)) → list_all is_flat (flat_map flat fs) ≡ true
flats-flat [] = refl
flats-flat (f ∷ fs) = all_pass_append is_flat (flat f) (flat_map flat fs) (flat-flat f) (flats-flat fs)

pub flat_parts-flat : (c part : Clause Term) → Has (flat_parts c) part → is_flat_clause part ≡ true
flat_parts-flat c part h =
    let (f, k, e) = Has-map_source (λ f. record { hypotheses = flat_map flat c.hypotheses; diffs = c.diffs; conclusion = f }) (flat c.conclusion) part h in
    rw e (rw (all_pass_at is_flat (flat-flat c.conclusion) k.1, flats-flat c.hypotheses) refl)

-- the parts under s of a term's parts are the parts of the term under s
mutual
  parts-bind : (s : Subst) (t : Term) → flat_map (λ u. parts (bind s u)) (parts t) ≡ parts (bind s t)
  parts-bind s (Leaf x) = append-nil (parts (s x))
  parts-bind s (Node f args) = go (is_data f) refl (row_parts-binds s args) where
    go : (b : Bool) → is_data f ≡ b → flat_map (λ u. parts (bind s u)) (row_parts args) ≡ row_parts (binds s args) → flat_map (λ u. parts (bind s u)) (cond (is_data f) (row_parts args) (Node f args ∷ [])) ≡ cond (is_data f) (row_parts (binds s args)) (Node f (binds s args) ∷ [])
    go true e row = rw e row
    go false e row = rw e (rw e refl)

  row_parts-binds : (s : Subst) (ts : Trees ℕ Sym) → flat_map (λ u. parts (bind s u)) (row_parts ts) ≡ row_parts (binds s ts)
  row_parts-binds s none = refl
  row_parts-binds s (more t ts) = let joined = flat_map-append (λ u. parts (bind s u)) (parts t) (row_parts ts) in cc (parts-bind s t, row_parts-binds s ts)

known-bind : (phase : ℕ) (s : Subst) (ts : List Term) → flat_map (λ f. flat (fact_under s f)) (map (Att phase) ts) ≡ map (Att phase) (flat_map (λ u. parts (bind s u)) ts)
known-bind phase s [] = refl
known-bind phase s (t ∷ ts) = let joined = map-append (Att phase) (parts (bind s t)) (flat_map (λ u. parts (bind s u)) ts) in cc (known-bind phase s ts)

pub flat_under-flat : (s : Subst) (f : Fact Term) → flat_under s (flat f) ≡ flat (fact_under s f)
flat_under-flat s (Att phase t) = known-bind phase s (parts t) ∙ ap (map (Att phase)) (parts-bind s t)
flat_under-flat s (Mess phase t u) = refl
flat_under-flat s (Tab e ts) = refl
flat_under-flat s (Ev e ts) = refl
flat_under-flat s (Mev e ts) = refl
flat_under-flat s (Bad ts) = refl

pub flat_under-flat_under : (s t : Subst) (fs : List (Fact Term)) → flat_under s (flat_under t fs) ≡ flat_under (after s t) fs
flat_under-flat_under s t [] = refl
flat_under-flat_under s t (f ∷ fs) =
    let joined = flat_map-append (λ g. flat (fact_under s g)) (flat (fact_under t f)) (flat_under t fs) in
    let first = flat_under-flat s (fact_under t f) ∙ ap flat (fact_under-fact_under s t f) in
    let others = flat_under-flat_under s t fs in
    joined ∙ (λ i. first i ++ others i)

-- and so where the first of them leaves the facts whole
pub flat_under-facts_under : (s t : Subst) (fs : List (Fact Term)) → flat_under s (map (fact_under t) fs) ≡ flat_under (after s t) fs
flat_under-facts_under s t [] = refl
flat_under-facts_under s t (f ∷ fs) =
    let first = ap flat (fact_under-fact_under s t f) in
    let others = flat_under-facts_under s t fs in λ i. first i ++ others i

pub flat_under-Leaf : (hs : List (Fact Term)) → flat_under Leaf hs ≡ flat_map flat hs
flat_under-Leaf [] = refl
flat_under-Leaf (h ∷ hs) = let first = ap flat (fact_under-Leaf h) in let others = flat_under-Leaf hs in λ i. first i ++ others i

-- the flat of flat parts is the flat
pub flat_under-flats : (s : Subst) (hs : List (Fact Term)) → flat_under s (flat_map flat hs) ≡ flat_under s hs
flat_under-flats s hs = ap (flat_under s) (sym (flat_under-Leaf hs)) ∙ flat_under-flat_under s Leaf hs
