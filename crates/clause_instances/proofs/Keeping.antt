-- Variables of which the first occurrences count: those that a norm keeps before others; and items of a number.
use Rattle.std.proofs.Common.{◌≡◌, ◌∙◌, ℕ, zero, suc, ◌+◌, Bool, true, false, cond, nat_eq, not, List, [], ◌∷◌, ◌++◌, Option, None, Some, option_map, refl, ap, sym, subst, arith}
use Rattle.std.specs.Prelude.{filter, slice_get}
use Rattle.spec_calculus.specs.Points.{numbered}
use Rattle.spec_calculus.proofs.Items.{of_some}
use Rattle.spec_terms.specs.Term.{Term}
use Rattle.spec_clauses.specs.Fact.{Clause}
use Rattle.spec_clauses.specs.Flat.{flat_parts}
use Rattle.spec_clauses.specs.Norm.{distinct}
use Rattle.spec_clauses.proofs.Distinct.{nat_eq-decides, filter-distinct, filter-weaker}
use Rattle.spec_attack_runs.specs.Source.{Source, source_variables}
use Rattle.spec_attack_runs.specs.Instance.{kept_variables}
use Rattle.spec_attack_runs.proofs.OneDescent.{numbered-map}
use Rattle.clause_form.specs.Normals.{simplest, kept_numbers}
use Rattle.clause_form.specs.Seen.{clause_at, IsClauseIn, AreClausesIn, NameClauses, IdClause}

filter_append : (p : ℕ → Bool) (xs ys : List ℕ) → filter p (xs ++ ys) ≡ filter p xs ++ filter p ys
filter_append p [] ys = refl
filter_append p (x ∷ xs) ys = go (p x) (filter_append p xs ys) where
  go : (b : Bool) → filter p (xs ++ ys) ≡ filter p xs ++ filter p ys → cond b (x ∷ filter p (xs ++ ys)) (filter p (xs ++ ys)) ≡ cond b (x ∷ filter p xs) (filter p xs) ++ filter p ys
  go true e = ap (λ l. x ∷ l) e
  go false e = e

-- the first occurrences of first occurrences and others
distinct_firsts : (xs ys : List ℕ) → distinct nat_eq (distinct nat_eq xs ++ ys) ≡ distinct nat_eq (xs ++ ys)
distinct_firsts [] ys = refl
distinct_firsts (x ∷ xs) ys =
    let p : ℕ → Bool = λ y. not (nat_eq x y) in
    let firsts = distinct nat_eq xs in
    let once : filter p (filter p firsts ++ ys) ≡ filter p (firsts ++ ys) =
    filter_append p (filter p firsts) ys ∙ (ap (λ l. l ++ filter p ys) (filter-weaker p p firsts (λ y e. e)) ∙ sym (filter_append p firsts ys)) in
    ap (λ l. x ∷ l) (filter-distinct nat_eq nat_eq-decides p (filter p firsts ++ ys) ∙ (ap (distinct nat_eq) once ∙ (sym (filter-distinct nat_eq nat_eq-decides p (firsts ++ ys)) ∙ ap (filter p) (distinct_firsts xs ys))))

pub firsts_before : (numbers kept more : List ℕ) → distinct nat_eq numbers ≡ kept → distinct nat_eq (numbers ++ more) ≡ distinct nat_eq (kept ++ more)
firsts_before numbers kept more e = sym (distinct_firsts numbers more) ∙ ap (λ l. distinct nat_eq (l ++ more)) e

-- those that are kept, whatever the constraints
pub kept_are : (part : Clause Term) (numbers : List ℕ) → numbers ≡ kept_numbers (simplest part) → distinct nat_eq numbers ≡ kept_variables part
kept_are part numbers e = ap (distinct nat_eq) e

-- those that are kept, and those of the source behind them
pub before_own : (o : Option (Clause Term)) (source : Source) (kept numbers : List ℕ) → Some (distinct nat_eq kept) ≡ option_map kept_variables o → numbers ≡ kept ++ source_variables source
    → Some (distinct nat_eq numbers) ≡ option_map (λ part. distinct nat_eq (kept_variables part ++ source_variables source)) o
before_own None source kept numbers e is = absurd (cc)
before_own (Some part) source kept numbers e is = ap Some (ap (distinct nat_eq) is ∙ firsts_before kept (kept_variables part) (source_variables source) (of_some (distinct nat_eq kept) (kept_variables part) e))

-- The item of a number, from 1.
pub numbered_at : {X : Type 0} (xs : List X) (n i : ℕ) → n ≡ i + 1 → numbered xs n ≡ slice_get xs i
numbered_at xs n i e = let same : n ≡ suc i = omega (arith, e) in ap (numbered xs) same

pub numbered_none : {X : Type 0} (xs : List X) (n : ℕ) → n ≡ 0 → numbered xs n ≡ None
numbered_none xs n e = ap (numbered xs) e

-- The part of a clause over ids.
pub part_there : (all : List Term) (raw : IdClause) (parts : List IdClause) (n : ℕ) (part : IdClause) → NameClauses all parts (flat_parts (clause_at all raw)) → numbered parts n ≡ Some part → numbered (flat_parts (clause_at all raw)) n ≡ Some (clause_at all part)
part_there all raw parts n part named some = ap (λ (cs : List (Clause Term)). numbered cs n) (sym named.are) ∙ (numbered-map (clause_at all) parts n ∙ ap (option_map (clause_at all)) some)

known_from : (all : List Term) (parts : List IdClause) (i : ℕ) (part : IdClause) → AreClausesIn all parts → slice_get parts i ≡ Some part → IsClauseIn all part
known_from all [] i part known at = absurd (cc)
known_from all (c ∷ cs) zero part known at = subst (IsClauseIn all) (of_some c part at) known.0
known_from all (c ∷ cs) (suc i) part known at = known_from all cs i part known.1 at

pub part_known : (all : List Term) (parts : List IdClause) (n : ℕ) (part : IdClause) → AreClausesIn all parts → numbered parts n ≡ Some part → IsClauseIn all part
part_known all parts zero part known at = absurd (cc)
part_known all parts (suc i) part known at = known_from all parts i part known at
