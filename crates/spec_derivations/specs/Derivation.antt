-- Instances of clauses, and what is derived by them (Blanchet 2016, section 2.3.2: derivability from clauses).
use Rattle.std.specs.Prelude.{◌≡◌, ℕ, Bool, true, false, List, [], ◌∷◌}
use Rattle.spec_terms.specs.Term.{Term, Subst}
use Rattle.spec_clauses.specs.Fact.{Fact, Mev, Clause, fact_under}
use Rattle.spec_clauses.specs.Flat.{flat, flat_under}
use Rattle.spec_clauses.specs.Inclusion.{Has}
use Rattle.spec_clauses.specs.Kept.{AreMetBy}

-- An instance of a clause: from the flat of its hypotheses under a substitution that meets its constraints follows a fact of the
-- flat of its conclusion. Variables that are left stand for themselves: in runs they are the numbers of sessions.
pub record Instance (c : Clause Term) (premises : List (Fact Term)) (f : Fact Term) : Type 0 where
  pub by : Subst
  pub met : AreMetBy by c.diffs
  pub premises_are : premises ≡ flat_under by c.hypotheses
  pub concludes : Has (flat (fact_under by c.conclusion)) f

-- whether the fact is an event that must have run, `mev`
abbrev pub is_required_event : Fact Term → Bool
is_required_event (Mev e ts) = true
is_required_event _ = false

-- Each fact of the list is an event that must have run and is allowed, or another fact that follows by an instance of a rule from facts
-- that are derived.
pub data AreDerived (IsRule : Clause Term → Type 0) (events : List (Fact Term)) : List (Fact Term) → Type 0 where
  nothing : AreDerived IsRule events []
  allowed : {e : ℕ} {ts : List Term} {fs : List (Fact Term)} → Has events (Mev e ts) → AreDerived IsRule events fs → AreDerived IsRule events (Mev e ts ∷ fs)
  by_clause : {c : Clause Term} {premises : List (Fact Term)} {f : Fact Term} {fs : List (Fact Term)} → is_required_event f ≡ false → IsRule c → Instance c premises f → AreDerived IsRule events premises → AreDerived IsRule events fs → AreDerived IsRule events (f ∷ fs)

-- each fact is derived by clauses of the list
abbrev pub Derive : List (Clause Term) → List (Fact Term) → List (Fact Term) → Type 0
Derive clauses events facts = AreDerived (Has clauses) events facts
