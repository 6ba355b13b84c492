-- Clauses of a certificate that are copied into a bank one by one.
use Rattle.std.proofs.Common.{◌≡◌, ◌∙◌, ℕ, ◌+◌, ◌<◌, ◌≤◌, List, [], ◌∷◌, ◌++◌, length, get_or, take, refl, ap, sym, subst}
use Rattle.std.proofs.lemmas.List.{take_more, take_all}
use Rattle.spec_terms.specs.Term.{Term}
use Rattle.spec_clauses.specs.Fact.{Clause}
use Rattle.term_tree.specs.Bank.{Grows}
use Rattle.term_tree.proofs.BankLaws.{Grows_refl, Grows_trans}
use Rattle.clause_form.specs.Seen.{NamesClause, NameClauses, IdClause}
use Rattle.clause_form.proofs.Copying.{NameClauses-grow}
use Rattle.clause_norms.proofs.Norms.{NameClauses-push}

-- the clauses before the place stand in the bank
pub record AreCopied (old now : List Term) (made : List IdClause) (plain : List (Clause Term)) (k : ℕ) : Type 0 where
  pub grows : Grows old now
  pub names : NameClauses now made (take k plain)

pub copying_begins : (old : List Term) (made : List IdClause) (plain : List (Clause Term)) → made ≡ [] → AreCopied old old made plain 0
copying_begins old made plain none = record {
  grows = Grows_refl old;
  names = subst (λ (l : List IdClause). NameClauses old l []) (sym none) record { known = tt; are = refl };
}

pub copied_on : (plain : List (Clause Term)) (k : ℕ) (p : Clause Term) → p ≡ get_or plain k p → k < length plain → (old now next : List Term) (made new : List IdClause) (c : IdClause) → AreCopied old now made plain k → Grows now next
    → NamesClause next c p → new ≡ made ++ c ∷ [] → AreCopied old next new plain (k + 1)
copied_on plain k p is within old now next made new c was grows names more = record {
  grows = Grows_trans old now next was.grows grows;
  names =
      let pushed = NameClauses-push next made (take k plain) c p (NameClauses-grow now next made (take k plain) grows was.names) names in
      let longer : take k plain ++ p ∷ [] ≡ take (k + 1) plain = sym (take_more plain k p within ∙ ap (λ u. take k plain ++ u ∷ []) (sym is)) in
      subst (λ (l : List IdClause). NameClauses next l (take (k + 1) plain)) (sym more) (subst (λ (l : List (Clause Term)). NameClauses next (made ++ c ∷ []) l) longer pushed);
}

-- all were copied
pub copying_ends : (old now : List Term) (made : List IdClause) (plain : List (Clause Term)) (k : ℕ) → length plain ≤ k → AreCopied old now made plain k → NameClauses now made plain
copying_ends old now made plain k past was = subst (λ (l : List (Clause Term)). NameClauses now made l) (take_all k plain past) was.names
