-- What a pair's answer is to the stage of the pairs.
use Rattle.std.proofs.Common.{ℕ, Option, List, refl, inl}
use Rattle.spec_terms.specs.Term.{Term}
use Rattle.spec_clauses.specs.Fact.{Clause}
use Rattle.spec_clauses.specs.Selection.{Selection}
use Rattle.spec_clauses.specs.Resolvents.{NoUnifier, Large, Resolvents}
use Rattle.spec_certificates.specs.Certificate.{CoverRowHolds, Numbered, numbered_from, Pair, pairs_with}
use Rattle.spec_certificates.specs.Ruling.{Closure}
use Rattle.clause_resolve.specs.Answers.{GivesOf}
use Rattle.cert_stages.specs.Stages.{AreShown, FirstUnshown, AreClosed, FirstOpen}

module _ (clauses : List (Clause Term)) (i j : Numbered) (chosen : Option Selection) where
  -- the pair, if a hypothesis of the second clause is chosen
  abbrev pub Two : List Pair
  Two = pairs_with i chosen j

  pub no_unifier : (rows : List (List ℕ)) → GivesOf chosen i.clause j.clause NoUnifier → AreClosed clauses Two rows rows
  no_unifier rows g = rw g.is_selected (rows, record { answer = NoUnifier; gives = g.gives; covered = refl }, refl)

  pub too_large : (rows : List (List ℕ)) → GivesOf chosen i.clause j.clause Large → FirstOpen clauses Two rows (Closure i.number j.number 0)
  too_large rows g = rw g.is_selected (inl (0, record { answer = Large; gives = g.gives; uncovered = refl }, refl))

  pub all_covered : (rows left : List (List ℕ)) (cs : List (Clause Term)) → GivesOf chosen i.clause j.clause (Resolvents cs) → AreShown (CoverRowHolds clauses) (numbered_from 1 cs) rows left → AreClosed clauses Two rows left
  all_covered rows left cs g shown = rw g.is_selected (left, record { answer = Resolvents cs; gives = g.gives; covered = shown }, refl)

  pub one_uncovered : (rows : List (List ℕ)) (cs : List (Clause Term)) (number : ℕ) → GivesOf chosen i.clause j.clause (Resolvents cs) → FirstUnshown (CoverRowHolds clauses) (numbered_from 1 cs) rows number → FirstOpen clauses Two rows (Closure i.number j.number number)
  one_uncovered rows cs number g fails = rw g.is_selected (inl (number, record { answer = Resolvents cs; gives = g.gives; uncovered = fails }, refl))
