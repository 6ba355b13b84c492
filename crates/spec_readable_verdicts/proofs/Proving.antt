-- The certificate of a query that is proved may stand in a text.
use Rattle.std.proofs.Common.{ℕ, ◌≤◌, ◌&&◌, List, ◌++◌, length, inl, inr, arith}
use Rattle.spec_calculus.specs.Bounds.{most_clauses, most_budget}
use Rattle.spec_calculus.specs.Syntax.{Query, Protocol}
use Rattle.spec_well_formed.specs.Signature.{signature_of}
use Rattle.spec_well_formed.specs.Limits.{IsSmallQuery, IsWithinLimits}
use Rattle.spec_well_formed.specs.Queries.{HasQueryLeaves}
use Rattle.spec_well_formed.specs.WellFormed.{IsQueryOver, IsWellScoped}
use Rattle.spec_terms.specs.Term.{Term}
use Rattle.spec_clauses.specs.Fact.{Clause}
use Rattle.spec_clauses.specs.Limits.{IsWithinLimit}
use Rattle.spec_clauses.specs.Selection.{is_solved}
use Rattle.spec_clauses.specs.Inclusion.{Has}
use Rattle.spec_clauses.proofs.Inclusion.{Has-filter_source}
use Rattle.spec_clauses.proofs.Lists.{all_append}
use Rattle.spec_translation.specs.Satisfied.{is_bad}
use Rattle.spec_translation.specs.Translation.{Clauses, IsTranslation}
use Rattle.spec_translation.proofs.Goal.{all_at, all_of_each, clauses_placed}
use Rattle.spec_translation.proofs.Sizes.{clauses_within}
use Rattle.spec_certificates.specs.Certificate.{Certificate, IsInShape}
use Rattle.spec_verdicts.specs.First.{all_pairs}
use Rattle.spec_verdicts.specs.FirstRows.{bad_clauses}
use Rattle.spec_verdicts.specs.Verdict.{Proved, IsProved, IsVerdict}
use Rattle.spec_verdicts.proofs.Entries.{live_shape}
use Rattle.spec_certificate_text.specs.Readable.{IsReadable, IsReadableCertificate}
use Rattle.spec_readable_verdicts.proofs.Facts.{IsClauseOver}
use Rattle.spec_readable_verdicts.proofs.Resolution.{IsKept, live_kept}
use Rattle.spec_readable_verdicts.proofs.Visited.{translation_over}
use Rattle.spec_readable_verdicts.proofs.Certificates.{readable, few_live, cover_rows, goal_rows, given_within}

-- what is asked of a protocol and of a query
pub record IsAsked (P : Protocol) (q : Query) : Type 0 where
  pub limits : IsWithinLimits P
  pub scoped : IsWellScoped P
  pub small : IsSmallQuery q
  pub over : IsQueryOver (signature_of P) q
  pub leaves : HasQueryLeaves P q

module _ (P : Protocol) (q : Query) (asked : IsAsked P q) (budget : ℕ) (most : budget ≤ most_budget) (cert : Certificate) where
  module _ (given : List (Clause Term)) (translated : IsTranslation P q (Clauses given)) (p : IsProved P q given budget cert) where
    given_kept : (c : Clause Term) → Has given c → IsKept P c
    given_kept c h =
        let each = translation_over P asked.limits asked.scoped q asked.over asked.leaves given translated in
        record { over = all_at (IsClauseOver P) h.1 each; placed = clauses_placed P q given translated c h }

    shape : (c : Clause Term) → Has cert.clauses c → IsInShape q c
    shape = live_shape P q given translated asked.limits asked.small budget p.log cert.clauses p.is_log p.live

    clause_readable : (c : Clause Term) → Has cert.clauses c → IsReadable P c
    clause_readable c h = let s = shape c h in readable P c (live_kept P given given_kept budget p.log cert.clauses p.is_log p.live c h) s.normal s.small

    few_clauses : length cert.clauses ≤ most_clauses
    few_clauses = omega (arith, few_live p.log cert.clauses p.live, p.is_log.within, most)

    bad_within : (c : Clause Term) → Has (bad_clauses cert.clauses) c → IsWithinLimit c
    bad_within c h = (shape c (Has-filter_source (λ d. is_solved d.hypotheses && is_bad d.conclusion) cert.clauses c h).0).small

    certificate_readable : IsReadableCertificate P cert
    certificate_readable =
        let made = p.certificate.made in
        let first = all_of_each IsWithinLimit given (λ c h. clauses_within P q given c asked.limits asked.small translated h) in
        let covered = all_append IsWithinLimit given made first (given_within (all_pairs cert.clauses) made p.certificate.give) in record {
          clauses = all_of_each (IsReadable P) cert.clauses clause_readable;
          few = few_clauses;
          rows = cover_rows cert.clauses few_clauses (given ++ made) covered cert.rows p.certificate.covers;
          goals = goal_rows P q asked.small (bad_clauses cert.clauses) (all_of_each IsWithinLimit (bad_clauses cert.clauses) bad_within) cert.goals p.certificate.goals;
        }

  pub proved_readable : IsVerdict P q budget (Proved cert) → IsReadableCertificate P cert
  proved_readable (inl x) = let wrong = x.2 in cc
  proved_readable (inr x) = let (given, translated, p) = x in certificate_readable given translated p
