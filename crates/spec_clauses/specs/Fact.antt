-- Facts and clauses, over terms of any kind: trees, or the ids of a bank (Blanchet 2016, section 2.3.1; facts of phases and
-- of tables, sections 4.1.5 and 4.1.6).
use Rattle.std.specs.Prelude.{ℕ, ◌+◌, Bool, true, false, ◌&&◌, nat_eq, List, [], ◌∷◌, map, flat_map}
use Rattle.std.specs.List.{list_any}
use Rattle.spec_trees.specs.Tree.{Leaf, bind, size}
use Rattle.spec_trees.specs.Same.{same_tree}
use Rattle.spec_terms.specs.Term.{Term, Subst, same_symbol}
use Rattle.spec_clauses.specs.Diff.{Diff, diff_under, diff_size}

pub data Fact (X : Type 0) : Type 0 where
  -- in the phase the attacker has the term
  Att : (phase : ℕ) → (term : X) → Fact X
  -- in the phase the message may be sent on the channel
  Mess : (phase : ℕ) → (channel message : X) → Fact X
  -- the table may have the entry of these terms
  Tab : (table : ℕ) → (arguments : List X) → Fact X
  -- the event may have run
  Ev : (event : ℕ) → (arguments : List X) → Fact X
  -- the event must have run: stands among hypotheses alone
  Mev : (event : ℕ) → (arguments : List X) → Fact X
  -- what the query asks about has come about: stands in conclusions alone
  Bad : (arguments : List X) → Fact X

-- where the hypotheses hold and the constraints, of any kind, are met, the conclusion holds
pub record ClauseOf (X D : Type 0) : Type 0 where
  pub hypotheses : List (Fact X)
  pub diffs : List D
  pub conclusion : Fact X

abbrev pub Clause : Type 0 → Type 0
Clause X = ClauseOf X Diff

-- the facts of a clause, the conclusion first: the order in which variables are numbered
abbrev pub facts_of : {X D : Type 0} → ClauseOf X D → List (Fact X)
facts_of c = c.conclusion ∷ c.hypotheses

-- the terms of a fact, and of a clause
abbrev pub terms_of : {X : Type 0} → Fact X → List X
terms_of (Att k t) = t ∷ []
terms_of (Mess k t u) = t ∷ u ∷ []
terms_of (Tab n ts) = ts
terms_of (Ev e ts) = ts
terms_of (Mev e ts) = ts
terms_of (Bad ts) = ts

abbrev pub clause_terms : {X D : Type 0} → ClauseOf X D → List X
clause_terms c = flat_map terms_of (facts_of c)

-- a fact and a clause, with f of each term of a fact in its place: constraints stay
abbrev pub map_fact : {X Y : Type 0} → (X → Y) → Fact X → Fact Y
map_fact f (Att k t) = Att k (f t)
map_fact f (Mess k t u) = Mess k (f t) (f u)
map_fact f (Tab n ts) = Tab n (map f ts)
map_fact f (Ev e ts) = Ev e (map f ts)
map_fact f (Mev e ts) = Mev e (map f ts)
map_fact f (Bad ts) = Bad (map f ts)

abbrev pub map_clause : {X Y : Type 0} → (X → Y) → Clause X → Clause Y
map_clause f c = record { hypotheses = map (map_fact f) c.hypotheses; diffs = c.diffs; conclusion = map_fact f c.conclusion }

-- a fact without its terms: its predicate, its phase, its event or table, and how many terms it has
abbrev pub outline : {X : Type 0} → Fact X → Fact (Unit {0})
outline f = map_fact (λ t. tt) f

-- a fact and a clause under a substitution
abbrev pub fact_under : Subst → Fact Term → Fact Term
fact_under s f = map_fact (bind s) f

abbrev pub clause_under : Subst → Clause Term → Clause Term
clause_under s c = record { hypotheses = map (fact_under s) c.hypotheses; diffs = map (diff_under s) c.diffs; conclusion = fact_under s c.conclusion }

-- the sum of f over a list
abbrev pub total : {X : Type 0} → (X → ℕ) → List X → ℕ
total f [] = 0
total f (x ∷ xs) = f x + total f xs

-- The size: one for each predicate, constraint, name of an event or a table, symbol and occurrence of a variable.
abbrev pub fact_size : Fact Term → ℕ
fact_size (Att k t) = 1 + size t
fact_size (Mess k t u) = 1 + (size t + size u)
fact_size (Tab n ts) = 2 + total size ts
fact_size (Ev e ts) = 2 + total size ts
fact_size (Mev e ts) = 2 + total size ts
fact_size (Bad ts) = 1 + total size ts

abbrev pub clause_size : Clause Term → ℕ
clause_size c = total fact_size (facts_of c) + total diff_size c.diffs

-- whether two terms, two lists of terms and two facts are the same
abbrev pub same_term : Term → Term → Bool
same_term t u = same_tree nat_eq same_symbol t u

abbrev pub same_terms : List Term → List Term → Bool
same_terms [] [] = true
same_terms [] (u ∷ us) = false
same_terms (t ∷ ts) [] = false
same_terms (t ∷ ts) (u ∷ us) = same_term t u && same_terms ts us

abbrev pub same_fact : Fact Term → Fact Term → Bool
same_fact (Att k t) (Att l u) = nat_eq k l && same_term t u
same_fact (Mess k t u) (Mess l v w) = nat_eq k l && (same_term t v && same_term u w)
same_fact (Tab n ts) (Tab m us) = nat_eq n m && same_terms ts us
same_fact (Ev e ts) (Ev g us) = nat_eq e g && same_terms ts us
same_fact (Mev e ts) (Mev g us) = nat_eq e g && same_terms ts us
same_fact (Bad ts) (Bad us) = same_terms ts us
same_fact _ _ = false

-- whether the fact is among the facts
abbrev pub is_among : List (Fact Term) → Fact Term → Bool
is_among fs f = list_any (same_fact f) fs

-- `att` of a variable, in any phase: the only facts that never constrain what the attacker has
abbrev pub is_variable_known : Fact Term → Bool
is_variable_known (Att k (Leaf x)) = true
is_variable_known _ = false

-- the phase of a fact; 0 where it has none
abbrev pub phase_of : {X : Type 0} → Fact X → ℕ
phase_of (Att k t) = k
phase_of (Mess k t u) = k
phase_of _ = 0
