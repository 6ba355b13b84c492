-- A certificate that may stand in a report may be written by a table, if it is not too large for one.
use Rattle.std.proofs.Common.{List, [], ◌∷◌, ℕ, ◌≤◌, ◌^◌}
use Rattle.std.specs.List.{AllByRecursion}
use Rattle.spec_trees.specs.Tree.{trees, depth}
use Rattle.spec_calculus.specs.Bounds.{most_digits, most_term_levels}
use Rattle.spec_calculus.specs.Syntax.{Protocol}
use Rattle.spec_terms.specs.Term.{Term}
use Rattle.spec_clauses.specs.Diff.{Diff}
use Rattle.spec_clauses.specs.Fact.{Fact, Att, Mess, Tab, Ev, Mev, Bad, Clause}
use Rattle.spec_clauses.proofs.Lists.{all_weaker}
use Rattle.spec_certificates.specs.Certificate.{Certificate}
use Rattle.spec_certificate_text.specs.OfProtocol.{IsShort, IsTermBelow, AreTermsBelow, AreTermsOf, most_side_variables, IsDiffOf, IsFactOf, IsClauseOf}
use Rattle.spec_certificate_text.specs.Readable.{MayStand, IsHypothesisOf, IsConclusionOf, IsReadableDiff, IsReadable, IsRow, IsReadableCertificate}
use Rattle.spec_certificate_text.specs.Sides.{spelled_diff}
use Rattle.spec_node_tables.specs.Large.{FitsInNodes}
use Rattle.spec_node_faults.specs.Grammar.{MayBeHypothesis, MayBeConclusion, StandsRight, IsNumberable}

terms_below : (most : ℕ) (P : Protocol) (ts : List Term) → AllByRecursion (λ t. IsTermBelow most P t × (depth t ≤ most_term_levels)) ts → AreTermsBelow most P (trees ts)
terms_below most P [] are = tt
terms_below most P (t ∷ ts) are = (are.0.0, terms_below most P ts are.1)

terms_are : (P : Protocol) (ts : List Term) → AllByRecursion (MayStand P) ts → AreTermsOf P (trees ts)
terms_are P ts are = terms_below (10 ^ most_digits) P ts are

hypothesis_is : (P : Protocol) (f : Fact Term) → IsHypothesisOf P f → IsFactOf P f
hypothesis_is P (Att k t) is = (is.0, is.1.0)
hypothesis_is P (Mess k t u) is = (is.0, is.1.0, is.2.0)
hypothesis_is P (Tab n ts) is = (is.0, terms_are P ts is.1)
hypothesis_is P (Ev e ts) is = (is.0, terms_are P ts is.1)
hypothesis_is P (Mev e ts) is = (is.0, terms_are P ts is.1)
hypothesis_is P (Bad ts) is = absurd is

hypothesis_may : (P : Protocol) (f : Fact Term) → IsHypothesisOf P f → MayBeHypothesis f
hypothesis_may P (Att phase t) is = tt
hypothesis_may P (Mess phase t u) is = tt
hypothesis_may P (Tab n ts) is = tt
hypothesis_may P (Ev e ts) is = tt
hypothesis_may P (Mev e ts) is = tt
hypothesis_may P (Bad ts) is = absurd is

conclusion_is : (P : Protocol) (f : Fact Term) → IsConclusionOf P f → IsFactOf P f
conclusion_is P (Att k t) is = (is.0, is.1.0)
conclusion_is P (Mess k t u) is = (is.0, is.1.0, is.2.0)
conclusion_is P (Tab n ts) is = (is.0, terms_are P ts is.1)
conclusion_is P (Ev e ts) is = (is.0, terms_are P ts is.1)
conclusion_is P (Mev e ts) is = absurd is
conclusion_is P (Bad ts) is = terms_are P ts is

conclusion_may : (P : Protocol) (f : Fact Term) → IsConclusionOf P f → MayBeConclusion f
conclusion_may P (Att phase t) is = tt
conclusion_may P (Mess phase t u) is = tt
conclusion_may P (Tab n ts) is = tt
conclusion_may P (Ev e ts) is = tt
conclusion_may P (Mev e ts) is = absurd is
conclusion_may P (Bad ts) is = tt

diff_is : (P : Protocol) (d : Diff) → IsReadableDiff P d → IsDiffOf P d
diff_is P d is = record {
  left = terms_below most_side_variables P (spelled_diff d).left is.left;
  right = terms_below most_side_variables P (spelled_diff d).right is.right;
  own = is.own;
  paired = is.paired;
  some = is.some;
}

clause_is : (P : Protocol) (c : Clause Term) → IsReadable P c → IsClauseOf P c
clause_is P c is = record {
  hypotheses = all_weaker (IsHypothesisOf P) (IsFactOf P) (hypothesis_is P) c.hypotheses is.hypotheses;
  diffs = all_weaker (IsReadableDiff P) (IsDiffOf P) (diff_is P) c.diffs is.diffs;
  conclusion = conclusion_is P c.conclusion is.conclusion;
}

clause_stands : (P : Protocol) (c : Clause Term) → IsReadable P c → StandsRight c
clause_stands P c is = record {
  hypotheses = all_weaker (IsHypothesisOf P) MayBeHypothesis (hypothesis_may P) c.hypotheses is.hypotheses;
  conclusion = conclusion_may P c.conclusion is.conclusion;
}

row_is : (ns : List ℕ) → IsRow ns → AllByRecursion IsShort ns
row_is [] is = absurd is
row_is (n ∷ ns) is = is

pub numberable : (P : Protocol) (c : Certificate) → IsReadableCertificate P c → FitsInNodes c.clauses → IsNumberable P c
numberable P c is fits = record {
  is = record {
    clauses = all_weaker (IsReadable P) (IsClauseOf P) (clause_is P) c.clauses is.clauses;
    rows = all_weaker IsRow (AllByRecursion IsShort) row_is c.rows is.rows;
    goals = all_weaker IsRow (AllByRecursion IsShort) row_is c.goals is.goals;
  };
  stands = all_weaker (IsReadable P) StandsRight (clause_stands P) c.clauses is.clauses;
  fits = fits;
  few = is.few;
  rows = is.rows;
  goals = is.goals;
}
