-- The instances that an entry of a log comes from: of each given clause that its derivation uses an instance of that clause's source, with
-- terms of the attacker's own names for all variables.
use Rattle.std.specs.Prelude.{◌≡◌, ℕ, ◌+◌, ◌-◌, Bool, true, false, nat_eq, List, [], ◌∷◌, ◌++◌, length, cond, Some, is_some, map, flat_map, filter, slice_get, unwrap_or}
use Rattle.std.specs.List.{list_any}
use Rattle.spec_trees.specs.Tree.{Leaf, bind, node}
use Rattle.spec_calculus.specs.Points.{numbered}
use Rattle.spec_terms.specs.Term.{Attacker, Term, Subst}
use Rattle.spec_terms.specs.Unifier.{moved}
use Rattle.spec_clauses.specs.Fact.{Clause, clause_terms, fact_under, clause_under}
use Rattle.spec_clauses.specs.Flat.{flat_parts}
use Rattle.spec_clauses.specs.Variables.{AreBelow, leaves, fact_variables, clause_variables, all_terms}
use Rattle.spec_clauses.specs.Norm.{norm, distinct, place_of, without_needless, without_repeats, without_lonely, is_general}
use Rattle.spec_clauses.specs.Limits.{is_large_raw}
use Rattle.spec_clauses.specs.Resolvents.{joined}
use Rattle.spec_clauses.specs.Selection.{Selection, select, is_solved}
use Rattle.spec_clauses.specs.Unify.{MguGives}
use Rattle.spec_translation.specs.Visit.{is_large_term}
use Rattle.spec_saturation.specs.Key.{Key, Entry}
use Rattle.spec_attack_runs.specs.Source.{Source, source_under, source_variables, action_terms, part_of}

-- the attacker's own name of that number
abbrev pub own_name : ℕ → Term
own_name n = node Attacker (Leaf n ∷ [])

-- The variables of a flat part that its norm keeps, in the order of the norm's numbers. Where the norm says that the attacker has
-- everything, its variable is that of the part's conclusion.
abbrev pub kept_by_norm : Clause Term → List ℕ
kept_by_norm core = distinct nat_eq (cond (is_general core) (fact_variables core.conclusion) (clause_variables core))

abbrev pub kept_variables : Clause Term → List ℕ
kept_variables part = kept_by_norm (without_lonely (without_repeats (without_needless part)))

-- The terms for these variables: the first ones get the given terms, and each further one is lost and gets the next name, from n on.
unfoldable pub closing : List Term → ℕ → List ℕ → Subst
closing terms n variables x = let place = place_of x (distinct nat_eq variables) in
    unwrap_or (slice_get terms place) (own_name (n + (place - length terms)))

-- the number of the next name after these
abbrev pub next_after : List Term → ℕ → List ℕ → ℕ
next_after terms n variables = n + (length (distinct nat_eq variables) - length terms)

-- an entry of the log whose instances are still to be told: its number, and the terms for the variables of its clause
pub record Pending : Type 0 where
  pub number : ℕ
  pub terms : List Term

-- whether a term of an instance is over the limit of size
abbrev pub is_large_instance : Source → Bool
is_large_instance instance = list_any is_large_term (clause_terms instance.raw ++ action_terms instance.action)

-- The entry is a given clause: its instance is that of its source, in which a part's norm has the pending terms for its variables.
pub record IsGiven (sources : List Source) (log : List Entry) (p : Pending) (n : ℕ) (instance : Source) (m : ℕ) : Type 0 where
  pub entry : Entry
  pub source : Source
  pub part : Clause Term
  pub at : numbered log p.number ≡ Some entry
  pub given : entry.key.major ≡ entry.key.minor
  pub source_at : numbered sources entry.key.number ≡ Some source
  pub part_at : part_of source ≡ Some part
  pub is_instance : instance ≡ source_under (closing p.terms n (kept_variables part ++ source_variables source)) source
  pub next : m ≡ next_after p.terms n (kept_variables part ++ source_variables source)
  pub small : is_large_instance instance ≡ false

-- the numbers of the solved and of the unsolved entry of a pair
abbrev pub solved_of : Key → Bool → ℕ
solved_of key major_solved = cond major_solved key.major key.minor

abbrev pub unsolved_of : Key → Bool → ℕ
unsolved_of key major_solved = cond major_solved key.minor key.major

-- the flat parts that say something
abbrev pub telling_parts : Clause Term → List (Clause Term)
telling_parts raw = filter (λ part. is_some (norm part)) (flat_parts raw)

-- Where a solved clause meets the selected hypothesis of an unsolved one: the raw resolvent, and what the variables of both clauses stand
-- for, in the order of first occurrence.
pub record Meeting : Type 0 where
  pub raw : Clause Term
  pub lefts : List Term
  pub rights : List Term

-- the variables of a clause, as terms
abbrev pub own_variables : Clause Term → List Term
own_variables c = map Leaf (distinct nat_eq (clause_variables c))

abbrev pub meeting : ℕ → Clause Term → Clause Term → Selection → Subst → Meeting
meeting offset solved unsolved at s = record {
  raw = clause_under s (joined offset solved unsolved at);
  lefts = map (bind s) (own_variables solved);
  rights = map (bind s) (map (bind (moved offset)) (own_variables unsolved));
}

-- by a most general unifier, over any numbers that set the variables apart
pub record Meets (solved unsolved : Clause Term) (met : Meeting) : Type 0 where
  pub at : Selection
  pub offset : ℕ
  pub selected : select unsolved.hypotheses ≡ Some at
  pub apart : AreBelow offset (all_terms solved)
  pub unified : MguGives (λ s. fact_under s solved.conclusion ≡ fact_under s (fact_under (moved offset) at.fact)) (meeting offset solved unsolved at) (Some met)

-- the variables that the norm of a part of the raw resolvent keeps, and then all others that the parents' variables stand for
abbrev pub met_variables : Meeting → Clause Term → List ℕ
met_variables met part = kept_variables part ++ flat_map leaves (met.lefts ++ met.rights)

-- a pending parent: what its variables stand for, with the names of the entry that comes of it
abbrev pub parent : ℕ → Subst → List Term → Pending
parent number s terms = record { number = number; terms = map (bind s) terms }

-- The entry is a resolvent: its two parents are pending, the solved one first.
pub record IsResolved (log : List Entry) (p : Pending) (n : ℕ) (left right : Pending) (m : ℕ) : Type 0 where
  pub entry : Entry
  pub major_solved : Bool
  pub solved : Entry
  pub unsolved : Entry
  pub met : Meeting
  pub part : Clause Term
  pub at : numbered log p.number ≡ Some entry
  pub order : nat_eq entry.key.major entry.key.minor ≡ false
  pub solved_at : numbered log (solved_of entry.key major_solved) ≡ Some solved
  pub unsolved_at : numbered log (unsolved_of entry.key major_solved) ≡ Some unsolved
  pub left_solved : is_solved solved.clause.hypotheses ≡ true
  pub meets : Meets solved.clause unsolved.clause met
  pub small_raw : is_large_raw met.raw ≡ false
  pub part_at : numbered (telling_parts met.raw) entry.key.number ≡ Some part
  pub is_left : left ≡ parent (solved_of entry.key major_solved) (closing p.terms n (met_variables met part)) met.lefts
  pub is_right : right ≡ parent (unsolved_of entry.key major_solved) (closing p.terms n (met_variables met part)) met.rights
  pub small : list_any is_large_term (left.terms ++ right.terms) ≡ false
  pub next : m ≡ next_after p.terms n (met_variables met part)

-- The instances that pending entries come from, in order, where the next name has the number n: of a resolvent those of its solved parent,
-- and then those of the unsolved one.
pub data Come (sources : List Source) (log : List Entry) : ℕ → List Pending → List Source → Type 0 where
  nothing : {n : ℕ} → Come sources log n [] []
  given : {n m : ℕ} {p : Pending} {ps : List Pending} {instance : Source} {instances : List Source} →
      IsGiven sources log p n instance m → Come sources log m ps instances → Come sources log n (p ∷ ps) (instance ∷ instances)
  resolved : {n m : ℕ} {p left right : Pending} {ps : List Pending} {instances : List Source} →
      IsResolved log p n left right m → Come sources log m (left ∷ right ∷ ps) instances → Come sources log n (p ∷ ps) instances

-- the instances that the entry of that number comes from: its own variables are lost too, and get the names from 1 on
abbrev pub ComesFrom : List Source → List Entry → ℕ → List Source → Type 0
ComesFrom sources log number instances = Come sources log 1 (record { number = number; terms = [] } ∷ []) instances
