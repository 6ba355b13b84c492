-- What is written of a closed log is its verdict.
use Rattle.std.proofs.Common.{◌≡◌, ◌∙◌, ℕ, zero, suc, ◌<◌, ◌≤◌, Some, List, [], ◌∷◌, length, refl, sym, subst, inr, arith}
use Rattle.std.specs.Prelude.{slice_get}
use Rattle.std.specs.List.{AllByRecursion}
use Rattle.spec_calculus.specs.Syntax.{Query, Protocol}
use Rattle.spec_calculus.specs.Points.{numbered}
use Rattle.spec_well_formed.specs.Limits.{IsSmallQuery, IsWithinLimits}
use Rattle.spec_terms.specs.Term.{Term}
use Rattle.spec_clauses.specs.Fact.{Clause}
use Rattle.spec_clauses.specs.Inclusion.{Has}
use Rattle.spec_translation.specs.Translation.{Clauses, IsTranslation}
use Rattle.spec_translation.proofs.Goal.{clauses_normal}
use Rattle.spec_certificates.specs.Certificate.{Certificate}
use Rattle.spec_saturation.specs.Key as offered
use Rattle.spec_saturation.specs.Live.{AreLive, MustBeCovered, MeetsCovers}
use Rattle.spec_saturation.proofs.Pairs.{closed_covers}
use Rattle.spec_verdicts.specs.FirstRows.{AreFirstGoals, bad_clauses}
use Rattle.spec_verdicts.specs.Verdict.{Proved, Unmet, IsVerdict}
use Rattle.log_entries.specs.declared.log.Entry.{Entry}
use Rattle.log_entries.specs.Logs.{TellLog, IsClosedLog, live_clauses}
use Rattle.log_entries.proofs.Living.{tell_live}
use Rattle.cert_writer.specs.Living.{live_ids}
use Rattle.clause_form.specs.Fit.{clauses_at}
use Rattle.clause_form.specs.Seen.{IdClause}
use Rattle.cert_writer.specs.Adding.{MustClose, AreRowsOf}
use Rattle.cert_writer.specs.Goals.{IsFirstUnmetEntry}
use Rattle.cert_writer.specs.Certifying.{IsWritten}
use Rattle.cert_writer.proofs.Telling.{live_named, first_unmet_told}

-- a query that is there is one of the protocol
pub query_there : (P : Protocol) (n : ℕ) → 0 < n → n ≤ length P.queries → (q : Query) × (numbered P.queries n ≡ Some q)
query_there P zero some few = absurd (omega (arith, some))
query_there P (suc k) some few = got P.queries k (omega (arith, few))
  where
    got : (qs : List Query) (k : ℕ) → k < length qs → (q : Query) × (slice_get qs k ≡ Some q)
    got [] k less = absurd (omega (arith, less))
    got (q ∷ qs) zero less = (q, refl)
    got (q ∷ qs) (suc k) less = got qs k (omega (arith, less))

-- and within the limits of queries
pub query_small : (P : Protocol) (n : ℕ) (q : Query) → IsWithinLimits P → numbered P.queries n ≡ Some q → IsSmallQuery q
query_small P zero q limits at = cc
query_small P (suc k) q limits at = got P.queries k limits.asked at
  where
    got : (qs : List Query) (k : ℕ) → AllByRecursion IsSmallQuery qs → slice_get qs k ≡ Some q → IsSmallQuery q
    got [] k small at = cc
    got (r ∷ qs) zero small at = let same : r ≡ q = cc in subst IsSmallQuery same small.0
    got (r ∷ qs) (suc k) small at = got qs k small.1 at

module _ (all : List Term) (P : Protocol) (q : Query) (given : List IdClause) (translated : IsTranslation P q (Clauses (clauses_at all given))) where
  -- what the live clauses of a closed log meet
  pub live_meets : (budget : ℕ) (entries : List Entry) → IsClosedLog all (clauses_at all given) budget entries → MeetsCovers (clauses_at all given) (clauses_at all (live_ids entries))
  live_meets budget entries c =
      subst (MeetsCovers (clauses_at all given)) (sym (live_named all entries))
      (closed_covers (clauses_at all given) (clauses_normal P q (clauses_at all given) translated) budget c.log (live_clauses all entries) c.is_log (tell_live all c.log 1 entries c.log c.tell))

  pub live_covers : (budget : ℕ) (entries : List Entry) → IsClosedLog all (clauses_at all given) budget entries → (c : Clause Term) → Has (clauses_at all given) c → MustBeCovered (clauses_at all (live_ids entries)) c
  live_covers budget entries c = (live_meets budget entries c).covers

  pub live_closed : (budget : ℕ) (entries : List Entry) → IsClosedLog all (clauses_at all given) budget entries → MustClose (clauses_at all (live_ids entries))
  live_closed budget entries c = (live_meets budget entries c).closed

  -- a certificate that is written of the live clauses proves the query
  pub written_proved : (budget : ℕ) (entries : List Entry) (goals : List (List ℕ)) (cert : Certificate) → IsClosedLog all (clauses_at all given) budget entries
      → AreFirstGoals P q (bad_clauses (live_clauses all entries)) goals → IsWritten (clauses_at all (live_ids entries)) (clauses_at all given) goals cert → IsVerdict P q budget (Proved cert)
  written_proved budget entries goals cert c are w =
      let named = live_named all entries in
      let clauses : clauses_at all (live_ids entries) ≡ cert.clauses = sym w.clauses_are in
      let rows = subst (λ (cs : List (Clause Term)). AreRowsOf cs (clauses_at all given) cert.rows) clauses w.rows in
      inr (
        clauses_at all given,
        translated,
        record {
          log = c.log;
          is_log = c.is_log;
          live = subst (AreLive c.log) (sym named ∙ clauses) (tell_live all c.log 1 entries c.log c.tell);
          certificate = record {
            made = rows.made;
            give = rows.give;
            covers = rows.covers;
            goals = subst (AreFirstGoals P q (bad_clauses cert.clauses)) (sym w.goals_are) (subst (λ cs. AreFirstGoals P q (bad_clauses cs) goals) (sym named ∙ clauses) are);
          };
        },
      )

  -- an entry that is unmet is the verdict
  pub unmet_verdict : (budget : ℕ) (entries : List Entry) (number : ℕ) → IsClosedLog all (clauses_at all given) budget entries → IsFirstUnmetEntry P q all entries number
      → (log : List offered.Entry) × TellLog all entries log × IsVerdict P q budget (Unmet log number)
  unmet_verdict budget entries number c f = (c.log, c.tell, inr (clauses_at all given, translated, (c.is_log, first_unmet_told all P q c.log entries c.tell number f)))
