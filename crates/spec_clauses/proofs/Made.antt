-- Resolvents are their own norms, within the limit of size.
use Rattle.std.proofs.Common.{◌≡◌, Bool, true, false, cond, Option, Some, None, List, refl, subst}
use Rattle.spec_terms.specs.Term.{Term}
use Rattle.spec_clauses.specs.Fact.{Clause}
use Rattle.spec_clauses.specs.Norm.{IsNormal, norms}
use Rattle.spec_clauses.specs.Limits.{IsWithinLimit, is_large_raw}
use Rattle.spec_clauses.specs.Resolvents.{Large, Resolvents, answer_of}
use Rattle.spec_clauses.specs.Inclusion.{Has}
use Rattle.spec_clauses.proofs.Limits.{norms-within_limit}
use Rattle.spec_clauses.proofs.NormAnswers.{norms-normal}

pub made_small : (raw : Option (Clause Term)) (cs : List (Clause Term)) (c : Clause Term) → Resolvents cs ≡ answer_of raw → Has cs c → IsWithinLimit c
made_small None cs c e h = cc
made_small (Some raw) cs c e h = go (is_large_raw raw) refl e
  where
    go : (b : Bool) → is_large_raw raw ≡ b → Resolvents cs ≡ cond b Large (Resolvents (norms raw)) → IsWithinLimit c
    go true p e = cc
    go false p e = let same : cs ≡ norms raw = cc in norms-within_limit raw c p (subst (λ xs. Has xs c) same h)

pub made_normal : (raw : Option (Clause Term)) (cs : List (Clause Term)) (c : Clause Term) → Resolvents cs ≡ answer_of raw → Has cs c → IsNormal c
made_normal None cs c e h = cc
made_normal (Some raw) cs c e h = go (is_large_raw raw) refl e
  where
    go : (b : Bool) → is_large_raw raw ≡ b → Resolvents cs ≡ cond b Large (Resolvents (norms raw)) → IsNormal c
    go true p e = cc
    go false p e = let same : cs ≡ norms raw = cc in norms-normal raw c (subst (λ xs. Has xs c) same h)
