-- A translation's clauses can be saturated: there is one, and they are still those of the translation as the bank grows.
use Rattle.std.proofs.Common.{◌≡◌, ◌∙◌, ℕ, zero, suc, ◌+◌, ◌<◌, Some, List, [], ◌∷◌, ◌++◌, length, map, ap, subst, refl, arith}
use Rattle.std.specs.Prelude.{slice_get}
use Rattle.std.specs.List.{AllByRecursion}
use Rattle.std.proofs.lemmas.List.{length-map, length-append}
use Rattle.spec_calculus.specs.Syntax.{Query, Protocol}
use Rattle.spec_calculus.specs.Points.{numbered}
use Rattle.spec_well_formed.specs.Limits.{IsSmallQuery, IsWithinLimits}
use Rattle.spec_terms.specs.Term.{Term}
use Rattle.spec_clauses.specs.Fact.{Clause}
use Rattle.term_tree.specs.Bank.{Grows}
use Rattle.clause_form.specs.Seen.{clause_at, AreClausesIn, NameClauses, IdClause}
use Rattle.clause_form.proofs.Copying.{NameClauses-grow}
use Rattle.clause_form.proofs.Low.{AreLowWithinLimit-grow}
use Rattle.clause_translate.specs.Whole.{TranslatesTo}

each_got : {A : Type 0} (Q : A → Type 0) (xs : List A) (i : ℕ) (x : A) → AllByRecursion Q xs → slice_get xs i ≡ Some x → Q x
each_got Q [] i x h e = cc
each_got {A} Q (y ∷ ys) zero x h e = let same : y ≡ x = cc in subst Q same h.0
each_got Q (y ∷ ys) (suc i) x h e = each_got Q ys i x h.1 e

-- a query of a protocol within the limits
pub small_query : (P : Protocol) (number : ℕ) (q : Query) → IsWithinLimits P → numbered P.queries number ≡ Some q → IsSmallQuery q
small_query P zero q limits is = cc
small_query P (suc i) q limits is = each_got IsSmallQuery P.queries i q limits.asked is

-- there are some, where a goal is
pub named_some : (all : List Term) (cs : List IdClause) (list before : List (Clause Term)) (goal : Clause Term) → NameClauses all cs list → list ≡ before ++ goal ∷ [] → 0 < length cs
named_some all cs list before goal names is =
    let many : length (map (clause_at all) cs) ≡ length before + 1 = ap length (names.are ∙ is) ∙ length-append before (goal ∷ []) in
    omega (arith, many, length-map cs (clause_at all))

-- clauses keep their trees as the bank grows
still_named : (old new : List Term) (cs : List IdClause) → Grows old new → AreClausesIn old cs → NameClauses new cs (map (clause_at old) cs)
still_named old new cs grows known = NameClauses-grow old new cs (map (clause_at old) cs) grows record { known = known; are = refl }

pub known_later : (old new : List Term) (cs : List IdClause) → Grows old new → AreClausesIn old cs → AreClausesIn new cs
known_later old new cs grows known = (still_named old new cs grows known).known

pub same_later : (old new : List Term) (cs : List IdClause) → Grows old new → AreClausesIn old cs → map (clause_at new) cs ≡ map (clause_at old) cs
same_later old new cs grows known = (still_named old new cs grows known).are

-- and are still those of the translation
pub translates_later : (P : Protocol) (number : ℕ) (old new : List Term) (cs : List IdClause) → Grows old new → TranslatesTo P number old cs → TranslatesTo P number new cs
translates_later P number old new cs grows t = record {
  query = t.query;
  is = t.is;
  list = t.list;
  names = NameClauses-grow old new cs t.list grows t.names;
  low = AreLowWithinLimit-grow old new cs grows t.names.known t.low;
  translates = t.translates;
}
