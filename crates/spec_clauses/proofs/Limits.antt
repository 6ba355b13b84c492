-- The limit of size: what isn't large, and its norms.
use Rattle.std.proofs.Common.{◌≡◌, ◌↔◌, Bool, true, false, not, List, [], ◌∷◌, refl, ap, arith}
use Rattle.std.specs.Prelude.{nat_le}
use Rattle.std.specs.List.{AllByRecursion, list_any}
use borrow.Author.Tests.{leb-true, le-leb}
use Rattle.spec_trees.proofs.Occurrence.{or_false}
use Rattle.spec_terms.specs.Term.{Term}
use Rattle.spec_calculus.specs.Bounds.{most_symbols}
use Rattle.spec_clauses.specs.Fact.{Clause, clause_size}
use Rattle.spec_clauses.specs.Flat.{flat_parts}
use Rattle.spec_clauses.specs.Norm.{norms}
use Rattle.spec_clauses.specs.Limits.{is_large_clause, is_large_raw, IsWithinLimit}
use Rattle.spec_clauses.specs.Inclusion.{Picks, here, there, Has}
use Rattle.spec_clauses.proofs.NormKeeps.{norm-size}
use Rattle.spec_clauses.proofs.NormAnswers.{norms-source}

not_large : (c : Clause Term) → is_large_clause c ≡ false → IsWithinLimit c
not_large c e = leb-true (clause_size c) most_symbols (of_not (nat_le (clause_size c) most_symbols) e) where
  of_not : (b : Bool) → not b ≡ false → b ≡ true
  of_not true k = refl
  of_not false k = cc

within_limit : (c : Clause Term) → IsWithinLimit c → is_large_clause c ≡ false
within_limit c h = ap not (le-leb (clause_size c) most_symbols h)

pub large_clause-decides : (c : Clause Term) → (is_large_clause c ≡ false) ↔ IsWithinLimit c
large_clause-decides c = (not_large c, within_limit c)

none_large : (cs : List (Clause Term)) → list_any is_large_clause cs ≡ false → AllByRecursion IsWithinLimit cs
none_large [] e = tt
none_large (c ∷ cs) e = let parts = or_false (is_large_clause c) (list_any is_large_clause cs) e in (not_large c parts.0, none_large cs parts.1)

all_within : (cs : List (Clause Term)) → AllByRecursion IsWithinLimit cs → list_any is_large_clause cs ≡ false
all_within [] a = refl
all_within (c ∷ cs) a = let first = within_limit c a.0 in let others = all_within cs a.1 in cc

pub large_raw-decides : (c : Clause Term) → (is_large_raw c ≡ false) ↔ (IsWithinLimit c × AllByRecursion IsWithinLimit (flat_parts c))
large_raw-decides c = (
  λ e. let parts = or_false (is_large_clause c) (list_any is_large_clause (flat_parts c)) e in (not_large c parts.0, none_large (flat_parts c) parts.1),
  λ h. let whole = within_limit c h.0 in let each = all_within (flat_parts c) h.1 in cc,
)

all_at : {cs rest : List (Clause Term)} {c : Clause Term} → Picks cs c rest → AllByRecursion IsWithinLimit cs → IsWithinLimit c
all_at here a = a.0
all_at (there p) a = all_at p a.1

-- the norms of what isn't large are within the limit
pub norms-within_limit : (c d : Clause Term) → is_large_raw c ≡ false → Has (norms c) d → IsWithinLimit d
norms-within_limit c d e h =
    let source = norms-source c d h in
    let stands = source.1 in
    let fits : IsWithinLimit source.0 = all_at stands.1 ((large_raw-decides c).0 e).1 in
    omega (arith, norm-size source.0 d source.2)
