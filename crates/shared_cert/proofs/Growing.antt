-- Clauses of a bank that grows.
use Rattle.std.proofs.Common.{◌≡◌, ◌∙◌, if◌then◌else◌, Bool, true, false, List, [], ◌∷◌, ◌++◌, refl, sym, ap, subst}
use Rattle.spec_terms.specs.Term.{Term}
use Rattle.spec_clauses.specs.Fact.{Clause}
use Rattle.term_tree.specs.Bank.{Grows}
use Rattle.clause_form.specs.Seen.{NamesClause, AreClausesIn, NameClauses, IdClause}
use Rattle.clause_form.specs.Fit.{clauses_at}
use Rattle.clause_form.proofs.Copying.{NameClauses-grow}
use Rattle.clause_norms.proofs.Norms.{NameClauses-push}

module _ (bank old new : List Term) (before cs : List IdClause) (same : old ≡ bank) (seen : before ≡ cs) (grows : Grows old new) (known : AreClausesIn bank cs) where
  -- they name what they named
  pub still_named : (after : List IdClause) → after ≡ before → NameClauses new after (clauses_at bank cs)
  still_named after is = subst (λ (l : List IdClause). NameClauses new l (clauses_at bank cs)) (sym (is ∙ seen)) (NameClauses-grow bank new cs (clauses_at bank cs) (subst (λ (all : List Term). Grows all new) same grows) record { known = known; are = refl })

  -- and one more behind them
  pub more_named : (after : List IdClause) (c : IdClause) (t : Clause Term) → NamesClause new c t → after ≡ before ++ c ∷ [] → NameClauses new after (clauses_at bank cs ++ t ∷ [])
  more_named after c t names is =
      subst (λ (l : List IdClause). NameClauses new l (clauses_at bank cs ++ t ∷ [])) (sym (is ∙ ap (λ l. l ++ c ∷ []) seen)) (NameClauses-push new cs (clauses_at bank cs) c t (still_named cs (sym seen)) names)

  -- whether it came behind them or not, each id names a tree
  pub still_known : (after : List IdClause) (c : IdClause) (t : Clause Term) (pushed : Bool) → NamesClause new c t → after ≡ (if pushed then before ++ c ∷ [] else before) → AreClausesIn new after
  still_known after c t true names is = (more_named after c t names is).known
  still_known after c t false names is = (still_named after is).known
