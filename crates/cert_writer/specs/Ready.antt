-- What is there before a certificate is written.
use Rattle.std.specs.Prelude.{◌≡◌, ◌<◌, ◌^◌, List, length, map}
use Rattle.spec_terms.specs.Term.{Term}
use Rattle.spec_clauses.specs.Fact.{Clause}
use Rattle.spec_fingerprints.specs.Fingerprints as print
use Rattle.clause_form.specs.Seen.{clause_at}
use Rattle.clause_form.specs.Fit.{AreFit, clauses_at}
use Rattle.fact_fingerprint.specs.Seen.{fingerprint_seen}
use Rattle.cert_writer.specs.declared.closing.Solving.{Solving}
use Rattle.cert_writer.specs.declared.writer.Writer.{Writer}
use Rattle.cert_writer.specs.Classed.{AreClassed}
use Rattle.cert_writer.specs.Unsolved.{AreUnsolved}

-- the fingerprint of a clause's conclusion
abbrev pub conclusion_print : Clause Term → print.Fingerprint
conclusion_print c = print.fingerprint_of c.conclusion

-- The live clauses are their own norms within the limit of size, their numbers fit 32 bits, the fingerprints are those of their conclusions,
-- and their places are listed by the classes of these.
pub record IsReady (all : List Term) (writer : Writer) : Type 0 where
  pub fit : AreFit all writer.live.now
  pub few : length writer.live.now < 2 ^ 32
  pub prints : map fingerprint_seen writer.prints.now ≡ map conclusion_print (clauses_at all writer.live.now)
  pub classes : AreClassed (map fingerprint_seen writer.prints.now) writer.classes.now

-- the fingerprint is that of the solved clause's conclusion, and the unsolved ones are those among the live clauses
pub record AreTold (all : List Term) (writer : Writer) (solving : Solving) : Type 0 where
  pub conclusion : fingerprint_seen solving.print ≡ print.fingerprint_of (clause_at all solving.clause.now).conclusion
  pub unsolved : AreUnsolved all writer.live.now solving.unsolved
