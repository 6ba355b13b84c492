-- The first certificate of clauses: to each obligation its first row.
use Rattle.std.specs.Prelude.{◌≡◌, Option, Some, None, List, [], ◌∷◌, ◌++◌}
use Rattle.spec_calculus.specs.Syntax.{Query, Protocol}
use Rattle.spec_terms.specs.Term.{Term}
use Rattle.spec_clauses.specs.Fact.{Clause}
use Rattle.spec_clauses.specs.Resolvents.{Answer, NoUnifier, Large, Resolvents, Resolves}
use Rattle.spec_certificates.specs.Certificate.{Certificate, numbered_from, Pair, pairs_of}
use Rattle.spec_verdicts.specs.FirstRows.{AreFirstCovers, AreFirstGoals, bad_clauses}

-- the resolvents of a pair's answer; none are told of a pair that is too large
abbrev pub resolvents_of : Answer → Option (List (Clause Term))
resolvents_of NoUnifier = Some []
resolvents_of Large = None
resolvents_of (Resolvents made) = Some made

-- the pair gives these resolvents
pub record Gives (pair : Pair) (made : List (Clause Term)) : Type 0 where
  pub answer : Answer
  pub resolves : Resolves pair.solved.clause pair.unsolved.clause pair.at answer
  pub has : resolvents_of answer ≡ Some made

-- the pairs give these, one after another
abbrev pub AllGive : List Pair → List (Clause Term) → Type 0
AllGive [] cs = cs ≡ []
AllGive (pair ∷ pairs) cs = (made : List (Clause Term)) × (rest : List (Clause Term)) × Gives pair made × AllGive pairs rest × (cs ≡ made ++ rest)

-- all pairs of a solved clause with an unsolved one, in a certificate's order
abbrev pub all_pairs : List (Clause Term) → List Pair
all_pairs clauses = pairs_of (numbered_from 1 clauses) (numbered_from 1 clauses)

-- To the given clauses and then to what all pairs give the first rows; to the solved clauses that conclude `bad` the first goal rows.
pub record IsFirstCertificate (P : Protocol) (q : Query) (given : List (Clause Term)) (cert : Certificate) : Type 0 where
  pub made : List (Clause Term)
  pub give : AllGive (all_pairs cert.clauses) made
  pub covers : AreFirstCovers cert.clauses (given ++ made) cert.rows
  pub goals : AreFirstGoals P q (bad_clauses cert.clauses) cert.goals
