-- Placing the firm hypotheses of a general clause on positions of a special one, by bindings of its variables.
use Rattle.std.specs.Prelude.{◌≡◌, ◌↔◌, ℕ, Bool, true, false, ◌||◌, get_or, set, slice_get, is_some, Option, Some, None, List, ◌++◌, map, flat_map, filter_map}
use Rattle.std.specs.List.{AllByRecursion, list_any}
use Rattle.spec_trees.specs.Tree.{Leaf}
use Rattle.spec_terms.specs.Term.{Term, Subst, has_var}
use Rattle.spec_terms.specs.Binding.{Binding, bound_to, Agrees}
use Rattle.spec_clauses.specs.Fact.{Fact, Att, Clause, terms_of, fact_under}
use Rattle.spec_clauses.specs.Diff.{Diff, diff_variables}
use Rattle.spec_clauses.specs.Flat.{flat_under}
use Rattle.spec_clauses.specs.Inclusion.{IsWithin}
use Rattle.spec_clauses.specs.Kept.{AreKeptIn}
use Rattle.spec_clauses.specs.Subsumption.{firm, ComesBefore}
use Rattle.spec_placements.specs.Takes.{left, Takes}

-- a loose hypothesis: its phase, and the variable whose `att` it is
pub record Loose : Type 0 where
  pub phase : ℕ
  pub variable : ℕ

abbrev pub known_variable : Fact Term → Option Loose
known_variable (Att k (Leaf x)) = Some (record { phase = k; variable = x })
known_variable _ = None

-- the loose hypotheses, in order, the facts that they are, and their variables
abbrev pub loose_variables : List (Fact Term) → List Loose
loose_variables hs = filter_map known_variable hs

abbrev pub known_of : Loose → Fact Term
known_of l = Att l.phase (Leaf l.variable)

abbrev pub all_known : List Loose → List (Fact Term)
all_known loose = map known_of loose

abbrev pub variables_of : List Loose → List ℕ
variables_of loose = map (λ l. l.variable) loose

-- What is left to decide once all firm hypotheses are placed: the loose hypotheses, and the constraints of the general clause, which
-- those of the special one are to keep.
pub record Ending : Type 0 where
  pub loose : List Loose
  pub diffs : List Diff
  pub kept_in : List Diff

abbrev pub ending_of : Clause Term → Clause Term → Ending
ending_of general special = record { loose = loose_variables general.hypotheses; diffs = general.diffs; kept_in = special.diffs }

abbrev pub AreKept : Ending → Subst → Type 0
AreKept ending s = AreKeptIn ending.kept_in s ending.diffs

-- the variables of loose hypotheses and of constraints, which are to be fixed elsewhere
abbrev pub linked_variables : List Loose → List Diff → List ℕ
linked_variables loose diffs = variables_of loose ++ flat_map diff_variables diffs

-- whether the variable stands in the fact, in one of the facts
abbrev pub fact_has : ℕ → Fact Term → Bool
fact_has x f = list_any (has_var x) (terms_of f)

abbrev pub some_fact_has : ℕ → List (Fact Term) → Bool
some_fact_has x fs = list_any (fact_has x) fs

-- The bindings are extended by exactly the variables of the general fact that were not bound, to a match: the
-- substitutions that have the new bindings are those that have the old and make the general fact the special one.
pub record FactMatched (old new : List Binding) (general special : Fact Term) : Type 0 where
  pub exactly : (x : ℕ) → is_some (bound_to new x) ≡ (is_some (bound_to old x) || fact_has x general)
  pub only : (s : Subst) → Agrees s new ↔ (Agrees s old × (fact_under s general ≡ special))

-- no substitution that has the bindings makes the general fact the special one
abbrev pub NoFactMatch : List Binding → Fact Term → Fact Term → Type 0
NoFactMatch bs general special = (s : Subst) → Agrees s bs → fact_under s general ≡ special → ⊥

-- Under some substitution that has the bindings, the constraints are kept, and the unplaced facts and the flat of the loose hypotheses
-- stand at positions that aren't taken, at places of their own.
pub record CanPlace (bs : List Binding) (taken : List Bool) (hs : List (Fact Term)) (unplaced : List (Fact Term)) (ending : Ending) : Type 0 where
  pub by : Subst
  pub agrees : Agrees by bs
  pub kept : AreKept ending by
  pub within : IsWithin (map (fact_under by) unplaced ++ flat_under by (all_known ending.loose)) (left taken hs)

-- the same, and one more fact stands at position p
pub record CanStand (bs : List Binding) (taken : List Bool) (hs : List (Fact Term)) (fact : Fact Term) (unplaced : List (Fact Term)) (ending : Ending) (p : ℕ) : Type 0 where
  pub by : Subst
  pub agrees : Agrees by bs
  pub kept : AreKept ending by
  pub free : get_or taken p false ≡ false
  pub stands : slice_get hs p ≡ Some (fact_under by fact)
  pub within : IsWithin (map (fact_under by) unplaced ++ flat_under by (all_known ending.loose)) (left (set taken p true) hs)

-- the same of all unplaced facts, which stand at the positions of a row, in order
pub record HoldsFrom (bs : List Binding) (taken : List Bool) (hs : List (Fact Term)) (unplaced : List (Fact Term)) (ending : Ending) (row : List ℕ) : Type 0 where
  pub by : Subst
  pub agrees : Agrees by bs
  pub kept : AreKept ending by
  pub takes : Takes hs taken (map (fact_under by) unplaced) row (flat_under by (all_known ending.loose))

-- and no such row comes before it
pub record IsFirstFrom (bs : List Binding) (taken : List Bool) (hs : List (Fact Term)) (unplaced : List (Fact Term)) (ending : Ending) (row : List ℕ) : Type 0 where
  pub holds : HoldsFrom bs taken hs unplaced ending row
  pub first : (other : List ℕ) → HoldsFrom bs taken hs unplaced ending other → ComesBefore other row → ⊥

-- each of the variables is bound, or stands in one of the facts
abbrev pub AreLinked : List Binding → List ℕ → List (Fact Term) → Type 0
AreLinked bs variables facts = AllByRecursion (λ x. (is_some (bound_to bs x) || some_fact_has x facts) ≡ true) variables

-- each variable of a loose hypothesis and of a constraint stands in the conclusion, or in a firm hypothesis
abbrev pub IsLinked : Clause Term → Type 0
IsLinked c = AllByRecursion (λ x. (fact_has x c.conclusion || some_fact_has x (firm c.hypotheses)) ≡ true) (linked_variables (loose_variables c.hypotheses) c.diffs)
