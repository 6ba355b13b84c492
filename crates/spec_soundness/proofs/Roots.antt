-- The last clause of a derivation of `bad`.
use Rattle.std.proofs.Common.{◌≡◌, true, List, [], ◌∷◌, refl, sym, subst}
use Rattle.spec_terms.specs.Term.{Term}
use Rattle.spec_clauses.specs.Fact.{Fact, Att, Mess, Tab, Ev, Mev, Bad, Clause, fact_under}
use Rattle.spec_clauses.specs.Flat.{flat, parts}
use Rattle.spec_clauses.specs.Inclusion.{Picks, here, there, Has}
use Rattle.spec_clauses.proofs.Inclusion.{Has-map_source}
use Rattle.spec_derivations.specs.Derivation.{Instance, AreDerived, nothing, allowed, by_clause}
use Rattle.spec_translation.specs.Satisfied.{is_bad}
use Rattle.spec_trees.specs.Tree.{bind}

-- the clause and the premises by which a fact that is no event is derived last
pub record Root (IsRule : Clause Term → Type 0) (events : List (Fact Term)) (f : Fact Term) : Type 0 where
  pub clause : Clause Term
  pub premises : List (Fact Term)
  pub is_rule : IsRule clause
  pub instance : Instance clause premises f
  pub derived : AreDerived IsRule events premises

pub bad_root : (IsRule : Clause Term → Type 0) (events : List (Fact Term)) (ts : List Term) {fs : List (Fact Term)} → fs ≡ Bad ts ∷ [] → AreDerived IsRule events fs → Root IsRule events (Bad ts)
bad_root IsRule events ts e nothing = cc
bad_root IsRule events ts e (allowed {e = g} {ts = us} h d) = cc
bad_root IsRule events ts e (by_clause {c = c} {premises = premises} {f = f} plain rule i p d) =
    let same : f ≡ Bad ts = cc in record { clause = c; premises = premises; is_rule = rule; instance = subst (Instance c premises) same i; derived = p }

-- a list of one item has that item
none_picked : {X : Type 0} {ys rest : List X} {y : X} → Picks ys y rest → ys ≡ [] → ⊥
none_picked here e = cc
none_picked (there p) e = cc

one_picked : {X : Type 0} {ys rest : List X} {y : X} → Picks ys y rest → (x : X) → ys ≡ x ∷ [] → x ≡ y
one_picked (here {x = y} {xs = ys}) x e = let same : y ≡ x = cc in sym same
one_picked (there {y = z} {xs = ys} p) x e = let empty : ys ≡ [] = cc in absurd (none_picked p empty)

pub only_item : {X : Type 0} (x y : X) → Has (x ∷ []) y → x ≡ y
only_item x y h = one_picked h.1 x refl

-- a clause concludes `bad` where an instance does
pub concludes_bad : (c : Clause Term) (premises : List (Fact Term)) (ts : List Term) → Instance c premises (Bad ts) → is_bad c.conclusion ≡ true
concludes_bad c premises ts i = go c.conclusion i.concludes
  where
    go : (f : Fact Term) → Has (flat (fact_under i.by f)) (Bad ts) → is_bad f ≡ true
    go (Att k t) h = let (u, found, same) = Has-map_source (Att k) (parts (bind i.by t)) (Bad ts) h in cc
    go (Mess k t u) h = let same = only_item (fact_under i.by (Mess k t u)) (Bad ts) h in cc
    go (Tab n us) h = let same = only_item (fact_under i.by (Tab n us)) (Bad ts) h in cc
    go (Ev e us) h = let same = only_item (fact_under i.by (Ev e us)) (Bad ts) h in cc
    go (Mev e us) h = let same = only_item (fact_under i.by (Mev e us)) (Bad ts) h in cc
    go (Bad us) h = refl
