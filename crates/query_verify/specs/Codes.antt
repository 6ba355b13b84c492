-- How contracts store verdicts: what the model of a list of them takes.
use Rattle.std.specs.Prelude.{◌≡◌, ◌⊎◌, ℕ, Option, List, refl}
use Rattle.std.proofs.Common.{inl, inr}
use Rattle.std.specs.Coded.{Coded, code_by, coded×, coded⊎, coded_ℕ, coded_list, coded_option}
use Rattle.spec_calculus.specs.Runs.{Step}
use Rattle.spec_terms.specs.Term.{Term, coded_term}
use Rattle.spec_clauses.specs.Fact.{Clause}
use Rattle.spec_certificates.specs.Certificate.{Certificate}
use Rattle.clause_form.specs.Codes.{coded_clause}
use Rattle.log_entries.specs.declared.log.Origin.{Origin}
use Rattle.log_entries.specs.declared.log.PlainEntry.{PlainEntry}
use Rattle.log_entries.specs.Codes.{coded_origin, coded_plain_entries}
use Rattle.cert_form.specs.Codes.{coded_certificate}
use Rattle.run_replay.specs.Codes.{coded_steps}
use Rattle.query_verify.specs.declared.answers.Verdict.{Verdict}
use Rattle.query_verify.specs.declared.answers.Verdict.TheVariants.{Proved, Budget, SizePair, SizePoint, Unmet, Attack}

abbrev coded_plain_entry : Coded PlainEntry
coded_plain_entry = code_by (Clause Term × (Origin × Option ℕ)) (coded× (coded_clause coded_term) (coded× coded_origin (coded_option coded_ℕ)))
    (λ e. (e.clause, (e.origin, e.by))) (λ p. record { clause = p.0; origin = p.1.0; by = p.1.1 }) (λ _. refl)

-- a verdict as its parts: a certificate; a log and what is due; a log and a pair; a point; a log and a number; steps
abbrev Parts : Type 0
Parts = Certificate ⊎ ((List PlainEntry × PlainEntry) ⊎ ((List PlainEntry × (ℕ × ℕ)) ⊎ (ℕ ⊎ ((List PlainEntry × ℕ) ⊎ List Step))))

abbrev verdict_parts : Verdict → Parts
verdict_parts (Proved certificate) = inl certificate
verdict_parts (Budget log due) = inr (inl (log, due))
verdict_parts (SizePair log solved unsolved) = inr (inr (inl (log, (solved, unsolved))))
verdict_parts (SizePoint point) = inr (inr (inr (inl point)))
verdict_parts (Unmet log number) = inr (inr (inr (inr (inl (log, number)))))
verdict_parts (Attack steps) = inr (inr (inr (inr (inr steps))))

abbrev parts_verdict : Parts → Verdict
parts_verdict (inl certificate) = Proved certificate
parts_verdict (inr (inl p)) = Budget p.0 p.1
parts_verdict (inr (inr (inl p))) = SizePair p.0 p.1.0 p.1.1
parts_verdict (inr (inr (inr (inl point)))) = SizePoint point
parts_verdict (inr (inr (inr (inr (inl p))))) = Unmet p.0 p.1
parts_verdict (inr (inr (inr (inr (inr steps))))) = Attack steps

pub parts_verdict-verdict_parts : (v : Verdict) → parts_verdict (verdict_parts v) ≡ v
parts_verdict-verdict_parts (Proved certificate) = refl
parts_verdict-verdict_parts (Budget log due) = refl
parts_verdict-verdict_parts (SizePair log solved unsolved) = refl
parts_verdict-verdict_parts (SizePoint point) = refl
parts_verdict-verdict_parts (Unmet log number) = refl
parts_verdict-verdict_parts (Attack steps) = refl

abbrev pub coded_verdicts : Coded (List Verdict)
coded_verdicts = coded_list (code_by Parts
    (coded⊎ coded_certificate (coded⊎ (coded× coded_plain_entries coded_plain_entry) (coded⊎ (coded× coded_plain_entries (coded× coded_ℕ coded_ℕ)) (coded⊎ coded_ℕ (coded⊎ (coded× coded_plain_entries coded_ℕ) coded_steps)))))
    verdict_parts parts_verdict parts_verdict-verdict_parts)
