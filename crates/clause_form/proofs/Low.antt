-- Variables that are low where their clause is within the limit stay so as the bank grows, and in lists that are put together.
use Rattle.std.proofs.Common.{◌≡◌, List, [], ◌∷◌, ◌++◌, refl, subst}
use Rattle.spec_terms.specs.Term.{Term}
use Rattle.spec_clauses.specs.Limits.{IsWithinLimit}
use Rattle.spec_clauses.proofs.Lists.{all_append}
use Rattle.term_tree.specs.Bank.{Grows}
use Rattle.clause_form.specs.Seen.{clause_at, IsClauseIn, AreClausesIn, IdClause}
use Rattle.clause_form.specs.Fit.{HasLowVariables, IsLowWithinLimit, AreLowWithinLimit}
use Rattle.clause_form.proofs.Copying.{NamesClause-grows}
use Rattle.clause_form.proofs.Fit.{HasLowVariables-grows}

-- the clause is the same in a bank that grew
clause_later : (a b : List Term) (c : IdClause) → Grows a b → IsClauseIn a c → clause_at b c ≡ clause_at a c
clause_later a b c grows known = (NamesClause-grows a b c (clause_at a c) grows (record { known = known; is = refl })).is

IsLowWithinLimit-grows : (a b : List Term) (c : IdClause) → Grows a b → IsClauseIn a c → IsLowWithinLimit a c → IsLowWithinLimit b c
IsLowWithinLimit-grows a b c grows known low = λ small. HasLowVariables-grows a b c grows known (low (subst IsWithinLimit (clause_later a b c grows known) small))

pub AreLowWithinLimit-grow : (a b : List Term) (cs : List IdClause) → Grows a b → AreClausesIn a cs → AreLowWithinLimit a cs → AreLowWithinLimit b cs
AreLowWithinLimit-grow a b [] grows known low = tt
AreLowWithinLimit-grow a b (c ∷ cs) grows known low = (IsLowWithinLimit-grows a b c grows known.0 low.0, AreLowWithinLimit-grow a b cs grows known.1 low.1)

pub AreLowWithinLimit-append : (all : List Term) (cs ds : List IdClause) → AreLowWithinLimit all cs → AreLowWithinLimit all ds → AreLowWithinLimit all (cs ++ ds)
AreLowWithinLimit-append all cs ds low more = all_append (IsLowWithinLimit all) cs ds low more
