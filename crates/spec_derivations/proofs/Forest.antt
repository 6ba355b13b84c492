-- Derivations as forests: how many uses of clauses they have, how they are cut and joined.
use Rattle.std.proofs.Common.{◌≡◌, ℕ, suc, ◌+◌, ◌≤◌, List, [], ◌∷◌, ◌++◌, false, refl, sym, ap, ◌∙◌, subst, arith}
use Rattle.spec_trees.specs.Tree.{bind}
use Rattle.spec_terms.specs.Term.{Term, Subst}
use Rattle.spec_clauses.specs.Fact.{Fact, Att, Mess, Tab, Ev, Mev, Bad, Clause, fact_under}
use Rattle.spec_clauses.specs.Flat.{flat, parts}
use Rattle.spec_clauses.specs.Inclusion.{Picks, here, there, Has, IsWithin}
use Rattle.spec_clauses.proofs.Inclusion.{Has-map_source, Has-one}
use Rattle.spec_terms.proofs.Decision.{true_false}
use Rattle.spec_derivations.specs.Derivation.{Instance, is_required_event, AreDerived, nothing, allowed, by_clause}

module _ (IsRule : Clause Term → Type 0) (events : List (Fact Term)) where
  -- how many clauses are used
  abbrev pub uses : {fs : List (Fact Term)} → AreDerived IsRule events fs → ℕ
  uses nothing = 0
  uses (allowed h d) = uses d
  uses (by_clause n r i p d) = suc (uses p + uses d)

  -- facts are derived by at most n uses of clauses
  pub record AreDerivedWithin (fs : List (Fact Term)) (n : ℕ) : Type 0 where
    pub derivation : AreDerived IsRule events fs
    pub few : uses derivation ≤ n

  -- the derivation of one of the facts, and that of the others
  pub record Cut (f : Fact Term) (rest : List (Fact Term)) (n : ℕ) : Type 0 where
    pub one : AreDerived IsRule events (f ∷ [])
    pub others : AreDerived IsRule events rest
    pub sum : uses one + uses others ≡ n

  pub cut : {fs rest : List (Fact Term)} {f : Fact Term} → Picks fs f rest → (d : AreDerived IsRule events fs) → Cut f rest (uses d)
  cut here (allowed h d) = record { one = allowed h nothing; others = d; sum = omega arith }
  cut here (by_clause n r i p d) = record { one = by_clause n r i p nothing; others = d; sum = omega arith }
  cut (there q) (allowed h d) = let c = cut q d in record { one = c.one; others = allowed h c.others; sum = c.sum }
  cut (there q) (by_clause n r i p d) = let c = cut q d in let sum = c.sum in record { one = c.one; others = by_clause n r i p c.others; sum = omega arith }

  -- two derivations as one
  pub join : {fs gs : List (Fact Term)} → (a : AreDerived IsRule events fs) (b : AreDerived IsRule events gs) → AreDerivedWithin (fs ++ gs) (uses a + uses b)
  join nothing b = record { derivation = b; few = omega arith }
  join (allowed h a) b = let j = join a b in record { derivation = allowed h j.derivation; few = j.few }
  join (by_clause n r i p a) b = let j = join a b in let few = j.few in record { derivation = by_clause n r i p j.derivation; few = omega arith }

  -- fewer facts take no more
  pub less : (gs : List (Fact Term)) {fs : List (Fact Term)} → IsWithin gs fs → (d : AreDerived IsRule events fs) → AreDerivedWithin gs (uses d)
  less [] w d = record { derivation = nothing; few = omega arith }
  less (g ∷ gs) w d =
      let c = cut w.1 d in
      let l = less gs w.2 c.others in
      let j = join c.one l.derivation in
      let few = j.few in let fewer = l.few in let sum = c.sum in record { derivation = j.derivation; few = omega arith }

module _ {IsRule IsOther : Clause Term → Type 0} (events more : List (Fact Term)) (rules : (c : Clause Term) → IsRule c → IsOther c) (allows : (f : Fact Term) → Has events f → Has more f) where
  -- more rules and more events derive what fewer do
  pub grows : {fs : List (Fact Term)} → AreDerived IsRule events fs → AreDerived IsOther more fs
  grows nothing = nothing
  grows (allowed {e = e} {ts = ts} h d) = allowed (allows (Mev e ts) h) (grows d)
  grows (by_clause {c = c} n r i p d) = by_clause n (rules c r) i (grows p) (grows d)

-- What a fact that is no required event stands for under a substitution is none.
pub flat_under-no_event : (s : Subst) (h g : Fact Term) → is_required_event h ≡ false → Has (flat (fact_under s h)) g → is_required_event g ≡ false
flat_under-no_event s (Att phase t) g plain has = let (u, k, e) = Has-map_source (Att phase) (parts (bind s t)) g has in ap is_required_event e
flat_under-no_event s (Mess phase t u) g plain has = ap is_required_event (Has-one has)
flat_under-no_event s (Tab n us) g plain has = ap is_required_event (Has-one has)
flat_under-no_event s (Ev n us) g plain has = ap is_required_event (Has-one has)
flat_under-no_event s (Mev n us) g plain has = cc
flat_under-no_event s (Bad us) g plain has = ap is_required_event (Has-one has)

-- the root of a derivation of one fact that is no required event
pub record Root (IsRule : Clause Term → Type 0) (events : List (Fact Term)) (f : Fact Term) (n : ℕ) : Type 0 where
  pub clause : Clause Term
  pub is_rule : IsRule clause
  pub above : List (Fact Term)
  pub instance : Instance clause above f
  pub derivation : AreDerived IsRule events above
  pub used : suc (uses IsRule events derivation) ≡ n

pub root : {IsRule : Clause Term → Type 0} {events : List (Fact Term)} {f : Fact Term} → (d : AreDerived IsRule events (f ∷ [])) → is_required_event f ≡ false → Root IsRule events f (uses IsRule events d)
root (allowed h nothing) e = cc
root (by_clause n r i p nothing) e = record { clause = _; is_rule = r; above = _; instance = i; derivation = p; used = omega arith }

-- the predicate of a fact
abbrev predicate : Fact Term → ℕ
predicate (Att phase t) = 0
predicate (Mess phase t u) = 1
predicate (Tab n ts) = 2
predicate (Ev e ts) = 3
predicate (Mev e ts) = 4
predicate (Bad ts) = 5

-- What a fact stands for under a substitution is of its predicate.
flat_keeps_predicate : (s : Subst) (h g : Fact Term) → Has (flat (fact_under s h)) g → predicate g ≡ predicate h
flat_keeps_predicate s (Att phase t) g has = let (u, k, e) = Has-map_source (Att phase) (parts (bind s t)) g has in ap predicate e
flat_keeps_predicate s (Mess phase t u) g has = ap predicate (Has-one has)
flat_keeps_predicate s (Tab n us) g has = ap predicate (Has-one has)
flat_keeps_predicate s (Ev n us) g has = ap predicate (Has-one has)
flat_keeps_predicate s (Mev n us) g has = ap predicate (Has-one has)
flat_keeps_predicate s (Bad us) g has = ap predicate (Has-one has)

is_bad : (h : Fact Term) → predicate h ≡ 5 → (us : List Term) × (h ≡ Bad us)
is_bad (Att phase t) e = absurd (omega arith)
is_bad (Mess phase t u) e = absurd (omega arith)
is_bad (Tab n us) e = absurd (omega arith)
is_bad (Ev n us) e = absurd (omega arith)
is_bad (Mev n us) e = absurd (omega arith)
is_bad (Bad us) e = (us, refl)

-- What no rule concludes isn't derived.
pub bad_not_derived : {IsRule : Clause Term → Type 0} {events : List (Fact Term)} (ts : List Term) → ((c : Clause Term) → IsRule c → (us : List Term) → c.conclusion ≡ Bad us → ⊥) → AreDerived IsRule events (Bad ts ∷ []) → ⊥
bad_not_derived ts never d =
    let r = root d refl in
    let (us, e) = is_bad r.clause.conclusion (sym (flat_keeps_predicate r.instance.by r.clause.conclusion (Bad ts) r.instance.concludes)) in
    never r.clause r.is_rule us e

-- Required events that are derived are allowed.
pub required_allowed : {IsRule : Clause Term → Type 0} {events fs rest : List (Fact Term)} {e : ℕ} {ts : List Term} → AreDerived IsRule events fs → Picks fs (Mev e ts) rest → Has events (Mev e ts)
required_allowed {IsRule} {events} {fs} {rest} {e} {ts} d p = go (cut IsRule events p d).one refl where
  go : {gs : List (Fact Term)} → AreDerived IsRule events gs → gs ≡ Mev e ts ∷ [] → Has events (Mev e ts)
  go nothing same = cc
  go (allowed {e = g} {ts = us} h q) same = let first : Mev g us ≡ Mev e ts = cc in subst (λ (f : Fact Term). Has events f) first h
  go (by_clause {f = f} n r i above q) same = let first : f ≡ Mev e ts = cc in absurd (true_false (sym (ap is_required_event first) ∙ n))
