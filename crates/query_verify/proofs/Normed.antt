-- The entries of a translation's log are norms within the limit of size, and where there is such a log no visit is too large.
use Rattle.std.proofs.Common.{◌≡◌, ℕ, suc, List, [], ◌∷◌, length, map, refl, inl, inr, sym, subst}
use Rattle.spec_calculus.specs.Syntax.{Query, Protocol}
use Rattle.spec_terms.specs.Term.{Term}
use Rattle.spec_clauses.specs.Fact.{Clause}
use Rattle.spec_clauses.specs.Norm.{IsNormal}
use Rattle.spec_clauses.specs.Limits.{IsWithinLimit}
use Rattle.spec_clauses.specs.Inclusion.{here, there, Has}
use Rattle.spec_clauses.proofs.Made.{made_small}
use Rattle.spec_saturation.specs.Key.{Entry, below}
use Rattle.spec_saturation.specs.Log.{IsOffered}
use Rattle.spec_saturation.specs.End.{Closed, IsLog}
use Rattle.spec_saturation.proofs.Pairs.{has_numbered, offers_normal}
use Rattle.spec_translation.specs.Course.{TooLarge}
use Rattle.spec_translation.specs.Translation.{Translated, Clauses, LargeAt, IsTranslation}
use Rattle.clause_form.specs.Seen.{clause_at, IdClause}
use Rattle.log_entries.specs.declared.log.PlainEntry.{PlainEntry}
use Rattle.log_entries.specs.PlainLogs.{TellPlainFrom, TellPlainLog}
use Rattle.clause_translate.specs.Whole.{TranslatesTo}
use Rattle.clause_instances.specs.Derivations.{HasNormedLog}
use Rattle.query_verify.specs.Asked.{IsNeverLarge}

-- clauses that are norms within the limit
pub record AreNormed (clauses : List (Clause Term)) : Type 0 where
  pub normal : (c : Clause Term) → Has clauses c → IsNormal c
  pub small : (c : Clause Term) → Has clauses c → IsWithinLimit c

-- what is offered is within the limit
offers_small : (given : List (Clause Term)) → ((c : Clause Term) → Has given c → IsWithinLimit c) → (log : List Entry) (e : Entry) → IsOffered given log e → IsWithinLimit e.clause
offers_small given small log e (inl x) = small e.clause (has_numbered given x.number e.clause x.clause)
offers_small given small log e (inr (inl x)) = made_small x.gives.gives.0 x.resolvents e.clause x.gives.gives.2 (has_numbered x.resolvents e.key.number e.clause x.clause)
offers_small given small log e (inr (inr x)) = small e.clause (has_numbered given (length given) e.clause x.clause)

normed_from : (log : List Entry) (n : ℕ) (entries : List PlainEntry) (es : List Entry) → TellPlainFrom log n entries es → ((e : Entry) → Has es e → IsNormal e.clause × IsWithinLimit e.clause) → HasNormedLog entries
normed_from log n [] es t each = tt
normed_from log n (x ∷ xs) [] t each = absurd t
normed_from log n (x ∷ xs) (e ∷ es) t each =
    let own = each e (es, here) in
    ((subst IsNormal (sym t.0.clause) own.0, subst IsWithinLimit (sym t.0.clause) own.1), normed_from log (suc n) xs es t.2 (λ d h. each d (e ∷ h.0, there h.1)))

-- entries that tell a closed log of such clauses
pub log_normed : (given : List (Clause Term)) (budget : ℕ) (log : List Entry) (entries : List PlainEntry) → AreNormed given → IsLog given budget log Closed → TellPlainLog entries log → HasNormedLog entries
log_normed given budget log entries are is tells =
    normed_from log 1 entries log tells
    (λ e h.
    let offered = (is.up_to.sound e h).offered in (offers_normal given are.normal (below e.key log) e offered, offers_small given are.small (below e.key log) e offered))

-- the clauses of a translation that the ids name, where those of each translation are such
pub translated_normed : (P : Protocol) (number : ℕ) (all : List Term) (given : List IdClause) (t : TranslatesTo P number all given)
    → ((c : Clause Term) → Has t.list c → IsNormal c) → ((c : Clause Term) → Has t.list c → IsWithinLimit c) → AreNormed (map (clause_at all) given)
translated_normed P number all given t normal small = record {
  normal = λ c has. normal c (subst (λ (cs : List (Clause Term)). Has cs c) t.names.are has);
  small = λ c has. small c (subst (λ (cs : List (Clause Term)). Has cs c) t.names.are has);
}

-- no visit is too large
pub never_large : (P : Protocol) (number : ℕ) (all : List Term) (given : List IdClause) → ((q : Query) (a b : Translated) → IsTranslation P q a → IsTranslation P q b → a ≡ b) → TranslatesTo P number all given → IsNeverLarge P
never_large P number all given one t = λ point large.
    let never : Clauses t.list ≡ LargeAt point = one t.query (Clauses t.list) (LargeAt point) t.translates (TooLarge point, large, refl) in cc
