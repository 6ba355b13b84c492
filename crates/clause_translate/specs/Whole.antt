-- Translations: the clauses that are one, and those that are too large.
use Rattle.std.specs.Prelude.{◌≡◌, ℕ, Some, List, ◌++◌, map}
use Rattle.spec_calculus.specs.Syntax.{Query, Protocol}
use Rattle.spec_calculus.specs.Points.{numbered}
use Rattle.spec_calculus.specs.Bounds.{most_visits}
use Rattle.spec_terms.specs.Term.{Term}
use Rattle.spec_clauses.specs.Fact.{Clause}
use Rattle.spec_translation.specs.Visit.{first_visit}
use Rattle.spec_translation.specs.Course.{Done, TooLarge}
use Rattle.spec_translation.specs.Visited.{Visited}
use Rattle.spec_translation.specs.Translation.{Clauses, LargeAt, IsTranslation, goal_clauses}
use Rattle.clause_form.specs.Seen.{clause_at, NameClauses, IdClause}
use Rattle.clause_form.specs.Fit.{AreLowWithinLimit}
use Rattle.clause_translate.specs.declared.whole.Translated.{Translated}
use Rattle.clause_translate.specs.declared.whole.Translated.TheVariants as made

-- the clauses name those of the translation of the protocol and the query of that number, with variables of low numbers
pub record TranslatesTo (P : Protocol) (number : ℕ) (all : List Term) (clauses : List IdClause) : Type 0 where
  pub query : Query
  pub is : numbered P.queries number ≡ Some query
  pub list : List (Clause Term)
  pub names : NameClauses all clauses list
  pub low : AreLowWithinLimit all clauses
  pub translates : IsTranslation P query (Clauses list)

-- it ends at the point, whose visit is too large
pub record EndsAt (P : Protocol) (number point : ℕ) : Type 0 where
  pub query : Query
  pub is : numbered P.queries number ≡ Some query
  pub translates : IsTranslation P query (LargeAt point)

abbrev pub Translates : Protocol → ℕ → List Term → Translated → Type 0
Translates P number all (made.Clauses clauses) = TranslatesTo P number all clauses
Translates P number all (made.Large point) = EndsAt P number point

-- The clauses name what the translation of each query begins with: all of it but the goal. Their variables have low numbers.
pub record IsCommonTo (P : Protocol) (all : List Term) (clauses : List IdClause) : Type 0 where
  pub list : List (Clause Term)
  pub names : NameClauses all clauses list
  pub low : AreLowWithinLimit all clauses
  pub translates : (q : Query) → IsTranslation P q (Clauses (list ++ goal_clauses P q))

-- what is so of the translations of all queries: they begin with such clauses, or end at the point
abbrev pub TranslatesAll : Protocol → List Term → Translated → Type 0
TranslatesAll P all (made.Clauses clauses) = IsCommonTo P all clauses
TranslatesAll P all (made.Large point) = (q : Query) → IsTranslation P q (LargeAt point)

-- where a visit is too large, the bank is as before
abbrev pub IsKept : List Term → List Term → Translated → Type 0
IsKept old new (made.Clauses clauses) = Unit {0}
IsKept old new (made.Large point) = new ≡ old

-- the clauses that visits of the main process add stand behind the earlier ones
pub record AddsVisits (P : Protocol) (old new : List Term) (before after : List IdClause) : Type 0 where
  pub more : List (Clause Term)
  pub left : ℕ
  pub runs : Visited P P.main 1 first_visit most_visits (Done more left)
  pub names : NameClauses new after (map (clause_at old) before ++ more)
  pub low : AreLowWithinLimit new after

-- a visit of the main process at the point is too large
abbrev pub IsLargeAt : Protocol → ℕ → Type 0
IsLargeAt P point = Visited P P.main 1 first_visit most_visits (TooLarge point)

abbrev pub IsVisited : Protocol → List Term → List Term → List IdClause → Translated → Type 0
IsVisited P old new before (made.Clauses after) = AddsVisits P old new before after
IsVisited P old new before (made.Large point) = IsLargeAt P point
