-- What a pair of live clauses gives, in a bank that goes back.
use Rattle.std.proofs.Common.{◌≡◌, ℕ, true, List, refl, subst}
use Rattle.spec_terms.specs.Term.{Term}
use Rattle.spec_clauses.specs.Fact as horn
use Rattle.spec_clauses.specs.Selection.{is_solved}
use Rattle.spec_clauses.specs.Resolvents as answer
use Rattle.spec_clauses.specs.Inclusion.{Has}
use Rattle.spec_saturation.specs.Live.{MustBeCovered}
use Rattle.clause_resolve.specs.Answers.{IsAnswerOf, AreFoundLow}
use Rattle.clause_resolve.specs.declared.resolving.Resolved.{Resolved}
use Rattle.clause_resolve.specs.declared.resolving.Resolved.TheVariants.{NoUnifier, Large, Clauses}
use Rattle.clause_form.specs.Fit.{AreFit, clauses_at}
use Rattle.clause_form.specs.Seen.{IdClause}
use Rattle.clause_form.proofs.Fit.{resolvents_fit}
use Rattle.cert_writer.specs.Adding.{AddsRows, AddsPairs, pairs_of_two, MustClose}
use Rattle.cert_writer.proofs.Adding.{pair_adds, pair_apart, pair_large}

module _ (now : List Term) (clauses : List (horn.Clause Term)) (solved unsolved : horn.Clause Term) (found : Resolved) (told : IsAnswerOf now solved unsolved found) where
  pub found_apart : (i j : ℕ) (rows : List (List ℕ)) → found ≡ NoUnifier → AddsPairs clauses (pairs_of_two i solved j unsolved) rows rows
  found_apart i j rows is = pair_apart clauses i j solved unsolved rows (subst (IsAnswerOf now solved unsolved) is told)

  pub found_large : MustClose clauses → Has clauses solved → Has clauses unsolved → is_solved solved.hypotheses ≡ true → found ≡ Large → ⊥
  found_large closed h k s is = pair_large clauses solved unsolved closed h k s (subst (IsAnswerOf now solved unsolved) is told)

  -- resolvents that were made
  pub made_fit : (made : List IdClause) → AreFoundLow now found → found ≡ Clauses made → AreFit now made
  made_fit made low is =
      let (resolvents, names, g) = subst (IsAnswerOf now solved unsolved) is told in resolvents_fit now made g.gives.0 resolvents g.gives.2 names (subst (AreFoundLow now) is low)

  pub made_covered : (made : List IdClause) → MustClose clauses → Has clauses solved → Has clauses unsolved → is_solved solved.hypotheses ≡ true → found ≡ Clauses made → (c : horn.Clause Term) → Has (clauses_at now made) c → MustBeCovered clauses c
  made_covered made closed h k s is c there =
      let (resolvents, names, g) = subst (IsAnswerOf now solved unsolved) is told in
      closed solved unsolved g.at (answer.Resolvents resolvents) h k s g.is_selected g.gives c (subst (λ cs. Has cs c) names.are there)

  pub made_added : (made : List IdClause) (i j : ℕ) (before after : List (List ℕ)) → found ≡ Clauses made → AddsRows clauses (clauses_at now made) before after → AddsPairs clauses (pairs_of_two i solved j unsolved) before after
  made_added made i j before after is adds =
      let (resolvents, names, g) = subst (IsAnswerOf now solved unsolved) is told in
      pair_adds clauses i j solved unsolved (answer.Resolvents resolvents) resolvents before after g refl (subst (λ cs. AddsRows clauses cs before after) names.are adds)
