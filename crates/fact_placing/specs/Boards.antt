-- What contracts see of hypotheses over ids that are placed on positions of a clause, which count from 0 here.
use Rattle.std.specs.Prelude.{◌≡◌, ◌↔◌, ◌⊎◌, ℕ, suc, ◌^◌, ◌<◌, pred, Bool, true, false, get_or, set, slice_get, replicate, insert, Some, List, [], ◌∷◌, length, map, flat_map}
use Rattle.std.specs.List.{AllByRecursion}
use Rattle.spec_terms.specs.Term.{Term, Subst}
use Rattle.spec_terms.specs.Binding.{Binding, bound_to, Agrees, replaced_once}
use Rattle.spec_clauses.specs.Fact as horn
use Rattle.spec_clauses.specs.Fact.{fact_under}
use Rattle.spec_clauses.specs.Diff.{diff_variables, numbered_diff}
use Rattle.term_tree.specs.declared.bank.Id.{Id}
use Rattle.unify_match.specs.declared.bound.Bound.{Bound}
use Rattle.unify_match.specs.Seen.{seen, AreBindings}
use Rattle.clause_diffs.specs.Diffs.{diffs_at, AreDiffsIn}
use Rattle.clause_form.specs.Seen.{fact_at, AreFactsIn}
use Rattle.spec_placements.specs.LooseParts.{flat_of}
use Rattle.fact_placing.specs.declared.board.Loose.{Loose}
use Rattle.fact_placing.specs.declared.board.Ending.{Ending}
use Rattle.spec_placements.specs.Placing as placing
use Rattle.spec_placements.specs.Placing.{AreKept, linked_variables, FactMatched, NoFactMatch, CanPlace, CanStand, HoldsFrom, IsFirstFrom, AreLinked}

-- the facts that facts over ids name
abbrev pub facts_at : List Term → List (horn.Fact Id) → List (horn.Fact Term)
facts_at all fs = map (fact_at all) fs

-- what contracts see of a hypothesis `att` of a variable, and of what is left to decide once all firm hypotheses are placed
abbrev pub loose_seen : Loose → placing.Loose
loose_seen l = record { phase = l.phase; variable = l.variable }

abbrev pub ending_at : List Term → Ending → placing.Ending
ending_at all ending = record { loose = map loose_seen ending.loose.now; diffs = diffs_at all ending.diffs.now; kept_in = diffs_at all ending.kept_in.now }

-- The ids of the constraints name trees, and the general clause's have their bound variables numbered, as those of a normal clause do.
pub record IsEndingIn (all : List Term) (ending : Ending) : Type 0 where
  pub diffs : AreDiffsIn all ending.diffs.now
  pub kept_in : AreDiffsIn all ending.kept_in.now
  pub numbered : AllByRecursion (λ d. numbered_diff d ≡ d) (diffs_at all ending.diffs.now)

-- the flat facts that `att` of the variables stands for, where they are bound
abbrev pub loose_parts : List Binding → List Loose → List (horn.Fact Term)
loose_parts bs loose = flat_map (λ l. flat_of l.phase (bound_to bs l.variable)) loose

-- the hypotheses on whose positions facts are placed: each id names a tree, and positions are numbers of 32 bits
pub record IsBoard (all : List Term) (hyps : List (horn.Fact Id)) : Type 0 where
  pub known : AreFactsIn all hyps
  pub few : length hyps < 2 ^ 32

-- bindings to terms of the bank, and one flag for each of the hypotheses
pub record IsPlacing (all : List Term) (hyps : List (horn.Fact Id)) (pairs : List Bound) (taken : List Bool) : Type 0 where
  pub bindings : AreBindings all pairs
  pub flags : length taken ≡ length (facts_at all hyps)

-- nothing is placed besides
pub record IsAsBefore (old new : List Bound) (taken_old taken_new : List Bool) : Type 0 where
  pub bindings : new ≡ old
  pub flags : taken_new ≡ taken_old

-- the conclusions are matched, and nothing is placed
pub record IsBegun (all : List Term) (hyps : List (horn.Fact Id)) (general special : horn.Fact Id) (pairs : List Bound) (taken : List Bool) : Type 0 where
  pub placing : IsPlacing all hyps pairs taken
  pub matched : FactMatched [] (seen all pairs) (fact_at all general) (fact_at all special)
  pub free : taken ≡ replicate (length (facts_at all hyps)) false

-- the conclusions are matched by these bindings, and nothing is placed: what the facts are asked of then
abbrev pub HoldsFirst : List Term → List (horn.Fact Id) → Ending → List Binding → List (horn.Fact Id) → List ℕ → Type 0
HoldsFirst all hyps ending bs facts row = HoldsFrom bs (replicate (length (facts_at all hyps)) false) (facts_at all hyps) (facts_at all facts) (ending_at all ending) row

-- The conclusions are matched, and the row, whose positions count from 1, holds the facts.
pub record HoldsWith (all : List Term) (hyps : List (horn.Fact Id)) (ending : Ending) (facts : List (horn.Fact Id)) (general special : horn.Fact Id) (row : List ℕ) : Type 0 where
  pub bindings : List Binding
  pub matched : FactMatched [] bindings (fact_at all general) (fact_at all special)
  pub inner : List ℕ
  pub positions : row ≡ map suc inner
  pub holds : HoldsFirst all hyps ending bindings facts inner

-- The conclusions are matched, and the row doesn't hold the facts.
pub record HoldsNotWith (all : List Term) (hyps : List (horn.Fact Id)) (ending : Ending) (facts : List (horn.Fact Id)) (general special : horn.Fact Id) (row : List ℕ) : Type 0 where
  pub bindings : List Binding
  pub matched : FactMatched [] bindings (fact_at all general) (fact_at all special)
  pub never : (inner : List ℕ) → row ≡ map suc inner → HoldsFirst all hyps ending bindings facts inner → ⊥

-- the conclusions don't match, or the row doesn't hold the facts
abbrev pub FailsWith : List Term → List (horn.Fact Id) → Ending → List (horn.Fact Id) → horn.Fact Id → horn.Fact Id → List ℕ → Type 0
FailsWith all hyps ending facts general special row = NoFactMatch [] (fact_at all general) (fact_at all special) ⊎ HoldsNotWith all hyps ending facts general special row

-- The fact is placed at position p, which was free: the bindings match it onto what stands there.
pub record IsPut (all : List Term) (hyps : List (horn.Fact Id)) (old new : List Bound) (taken_old taken_new : List Bool) (fact : horn.Fact Id) (p : ℕ) : Type 0 where
  pub there : horn.Fact Term
  pub stands : slice_get (facts_at all hyps) p ≡ Some there
  pub free : get_or taken_old p false ≡ false
  pub matched : FactMatched (seen all old) (seen all new) (fact_at all fact) there
  pub flags : taken_new ≡ set taken_old p true

-- the fact can't be placed there
abbrev pub CannotPut : List Term → List (horn.Fact Id) → List Bound → List Bool → horn.Fact Id → ℕ → Type 0
CannotPut all hyps pairs taken fact p = (s : Subst) → Agrees s (seen all pairs) → get_or taken p false ≡ false → slice_get (facts_at all hyps) p ≡ Some (fact_under s (fact_at all fact)) → ⊥

-- the facts, and what is left to decide then, can be placed; a row holds them; it is the first; a fact can stand at p
abbrev pub CanPlaceOn : List Term → List (horn.Fact Id) → Ending → List Bound → List Bool → List (horn.Fact Id) → Type 0
CanPlaceOn all hyps ending pairs taken facts = CanPlace (seen all pairs) taken (facts_at all hyps) (facts_at all facts) (ending_at all ending)

abbrev pub HoldsOn : List Term → List (horn.Fact Id) → Ending → List Bound → List Bool → List (horn.Fact Id) → List ℕ → Type 0
HoldsOn all hyps ending pairs taken facts row = HoldsFrom (seen all pairs) taken (facts_at all hyps) (facts_at all facts) (ending_at all ending) row

abbrev pub IsFirstOn : List Term → List (horn.Fact Id) → Ending → List Bound → List Bool → List (horn.Fact Id) → List ℕ → Type 0
IsFirstOn all hyps ending pairs taken facts row = IsFirstFrom (seen all pairs) taken (facts_at all hyps) (facts_at all facts) (ending_at all ending) row

abbrev pub CanStandOn : List Term → List (horn.Fact Id) → Ending → List Bound → List Bool → horn.Fact Id → List (horn.Fact Id) → ℕ → Type 0
CanStandOn all hyps ending pairs taken fact rest p = CanStand (seen all pairs) taken (facts_at all hyps) (fact_at all fact) (facts_at all rest) (ending_at all ending) p

-- with no fact left all can be placed, if all variables are bound that are to be; and with whatever facts nothing can
abbrev pub CanEndOn : List Term → List (horn.Fact Id) → Ending → List Bound → List Bool → Type 0
CanEndOn all hyps ending pairs taken = AreLinked (seen all pairs) (linked_variables (map loose_seen ending.loose.now) (diffs_at all ending.diffs.now)) [] → CanPlaceOn all hyps ending pairs taken []

abbrev pub PlacesNothingOn : List Term → List (horn.Fact Id) → Ending → List Bound → List Bool → Type 0
PlacesNothingOn all hyps ending pairs taken = (facts : List (horn.Fact Id)) → CanPlaceOn all hyps ending pairs taken facts → ⊥

-- The bindings keep the constraints, if they bind all variables of these that are the clause's; and no substitution that has them does.
abbrev pub AreKeptOn : List Term → Ending → List Bound → Type 0
AreKeptOn all ending pairs = AreLinked (seen all pairs) (flat_map diff_variables (diffs_at all ending.diffs.now)) [] → AreKept (ending_at all ending) (replaced_once (seen all pairs))

abbrev pub AreNeverKeptOn : List Term → Ending → List Bound → Type 0
AreNeverKeptOn all ending pairs = (s : Subst) → Agrees s (seen all pairs) → AreKept (ending_at all ending) s → ⊥

-- each variable of a loose hypothesis and of a constraint is bound or stands in one of the facts
abbrev pub AreLinkedOn : List Term → Ending → List Bound → List (horn.Fact Id) → Type 0
AreLinkedOn all ending pairs facts = AreLinked (seen all pairs) (linked_variables (map loose_seen ending.loose.now) (diffs_at all ending.diffs.now)) (facts_at all facts)

-- The facts are placed at the positions of a row, which count from 1: the row holds them exactly where nothing more
-- holds with what is placed now.
pub record ArePut (all : List Term) (hyps : List (horn.Fact Id)) (ending : Ending) (old new : List Bound) (taken_old taken_new : List Bool) (facts : List (horn.Fact Id)) (row : List ℕ) : Type 0 where
  pub positions : map suc (map pred row) ≡ row
  pub holds : HoldsOn all hyps ending old taken_old facts (map pred row) ↔ HoldsOn all hyps ending new taken_new [] []
  pub linked : AreLinkedOn all ending old facts → AreLinkedOn all ending new []

-- no row of positions that count from 1 holds the facts, if it is this one
abbrev pub HoldsNotOn : List Term → List (horn.Fact Id) → Ending → List Bound → List Bool → List (horn.Fact Id) → List ℕ → Type 0
HoldsNotOn all hyps ending pairs taken facts row = (inner : List ℕ) → row ≡ map suc inner → HoldsOn all hyps ending pairs taken facts inner → ⊥

-- the row, whose positions count from 1, holds the facts, and is the first that does
abbrev pub HoldsByOn : List Term → List (horn.Fact Id) → Ending → List Bound → List Bool → List (horn.Fact Id) → List ℕ → Type 0
HoldsByOn all hyps ending pairs taken facts row = (inner : List ℕ) × (row ≡ map suc inner) × HoldsOn all hyps ending pairs taken facts inner

abbrev pub IsFirstByOn : List Term → List (horn.Fact Id) → Ending → List Bound → List Bool → List (horn.Fact Id) → List ℕ → Type 0
IsFirstByOn all hyps ending pairs taken facts row = (inner : List ℕ) × (row ≡ map suc inner) × IsFirstOn all hyps ending pairs taken facts inner

-- A row for a fact and the rest, where the fact's position stands at a place among the others.
pub record HoldsInserted (all : List Term) (hyps : List (horn.Fact Id)) (ending : Ending) (pairs : List Bound) (taken : List Bool) (fact : horn.Fact Id) (rest : List (horn.Fact Id)) (at : ℕ) (row : List ℕ) : Type 0 where
  pub position : ℕ
  pub others : List ℕ
  pub inserted : row ≡ insert others at position
  pub holds : HoldsOn all hyps ending pairs taken (fact ∷ rest) (position ∷ others)

-- A row for a fact and the rest, in which the fact has the least position at which it can stand.
pub record IsLeastRow (all : List Term) (hyps : List (horn.Fact Id)) (ending : Ending) (pairs : List Bound) (taken : List Bool) (fact : horn.Fact Id) (rest : List (horn.Fact Id)) (row : List ℕ) : Type 0 where
  pub position : ℕ
  pub others : List ℕ
  pub are : row ≡ position ∷ others
  pub holds : HoldsOn all hyps ending pairs taken (fact ∷ rest) (position ∷ others)
  pub least : (q : ℕ) → q < position → CanStandOn all hyps ending pairs taken fact rest q → ⊥

-- The fact is placed at the first position of the row, the least at which it could stand, and the others hold the rest.
pub record IsNextRow (all : List Term) (hyps : List (horn.Fact Id)) (ending : Ending) (old new : List Bound) (taken_old taken_new : List Bool) (fact : horn.Fact Id) (rest : List (horn.Fact Id)) (row : List ℕ) : Type 0 where
  pub position : ℕ
  pub others : List ℕ
  pub are : row ≡ position ∷ others
  pub put : IsPut all hyps old new taken_old taken_new fact position
  pub holds : HoldsOn all hyps ending new taken_new rest others
  pub least : (q : ℕ) → q < position → CanStandOn all hyps ending old taken_old fact rest q → ⊥

-- The conclusions are matched, and the row, whose positions count from 1, is the first that holds the facts.
pub record IsFirstWith (all : List Term) (hyps : List (horn.Fact Id)) (ending : Ending) (facts : List (horn.Fact Id)) (general special : horn.Fact Id) (row : List ℕ) : Type 0 where
  pub bindings : List Binding
  pub matched : FactMatched [] bindings (fact_at all general) (fact_at all special)
  pub inner : List ℕ
  pub positions : row ≡ map suc inner
  pub first : IsFirstFrom bindings (replicate (length (facts_at all hyps)) false) (facts_at all hyps) (facts_at all facts) (ending_at all ending) inner

-- The conclusions are matched, and the facts can't be placed.
pub record CannotPlaceWith (all : List Term) (hyps : List (horn.Fact Id)) (ending : Ending) (facts : List (horn.Fact Id)) (general special : horn.Fact Id) : Type 0 where
  pub bindings : List Binding
  pub matched : FactMatched [] bindings (fact_at all general) (fact_at all special)
  pub never : CanPlace bindings (replicate (length (facts_at all hyps)) false) (facts_at all hyps) (facts_at all facts) (ending_at all ending) → ⊥

-- the conclusions don't match, or the facts can't be placed
abbrev pub NowhereWith : List Term → List (horn.Fact Id) → Ending → List (horn.Fact Id) → horn.Fact Id → horn.Fact Id → Type 0
NowhereWith all hyps ending facts general special = NoFactMatch [] (fact_at all general) (fact_at all special) ⊎ CannotPlaceWith all hyps ending facts general special
