-- What the clauses of a translation that was made say of runs.
use Rattle.std.proofs.Common.{◌≡◌, ℕ, List, map, sym, subst}
use Rattle.spec_calculus.specs.Syntax.{Query, Protocol}
use Rattle.spec_well_formed.specs.Rules.{HasProperRules}
use Rattle.spec_well_formed.specs.Processes.{HasLinearPatterns}
use Rattle.spec_well_formed.specs.WellFormed.{IsWellScoped}
use Rattle.spec_terms.specs.Term.{Term}
use Rattle.spec_clauses.specs.Fact.{Clause}
use Rattle.spec_translation.specs.Translation.{Clauses, IsTranslation}
use Rattle.clause_form.specs.Seen.{clause_at, IdClause}
use Rattle.clause_translate.specs.Whole.{TranslatesTo, Translates}
use Rattle.clause_translate.specs.declared.whole.Translated.{Translated}
use Rattle.clause_translate.specs.declared.whole.Translated.TheVariants as made
use Rattle.clause_translate.specs.Soundness.{AbstractsRuns}
use Rattle.clause_translate.proofs.Linear.{linear_patterns}

-- The law of translations, as a premise.
abbrev pub RunsLaw : Type 0
RunsLaw = (P : Protocol) (q : Query) (all : List (Clause Term)) → HasProperRules P → HasLinearPatterns P.main → IsTranslation P q (Clauses all) → AbstractsRuns P all

-- the clauses that the ids name
named_abstract : RunsLaw → (P : Protocol) (number : ℕ) (all : List Term) (clauses : List IdClause) → HasProperRules P → IsWellScoped P → TranslatesTo P number all clauses → AbstractsRuns P (map (clause_at all) clauses)
named_abstract law P number all clauses rules scoped to =
    subst (λ (l : List (Clause Term)). AbstractsRuns P l) (sym to.names.are) (law P to.query to.list rules (linear_patterns P scoped) to.translates)

-- the clauses that were found
pub found_abstract : RunsLaw → (P : Protocol) (number : ℕ) (all : List Term) (found : Translated) (clauses : List IdClause) → found ≡ made.Clauses clauses → HasProperRules P → IsWellScoped P → Translates P number all found → AbstractsRuns P (map (clause_at all) clauses)
found_abstract law P number all found clauses e rules scoped told = named_abstract law P number all clauses rules scoped (subst (λ (t : Translated). Translates P number all t) e told)
