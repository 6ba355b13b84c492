-- A log over ids, read out of its bank, tells what it did.
use Rattle.std.proofs.Common.{◌≡◌, ◌∙◌, ℕ, suc, None, List, [], ◌∷◌, length, map, ap, sym, subst, refl}
use Rattle.spec_terms.specs.Term.{Term}
use Rattle.spec_saturation.specs.Key as offered
use Rattle.log_entries.specs.declared.log.Entry.{Entry}
use Rattle.log_entries.specs.declared.log.PlainEntry.{PlainEntry}
use Rattle.log_entries.specs.Logs.{IsOrigin, TellsEntry, TellEntries, TellLog}
use Rattle.log_entries.specs.Plain.{plain_entry}
use Rattle.log_entries.specs.PlainLogs.{TellPlainFrom, TellPlainLog, TellsDue}

plain_from : (all : List Term) (log : List offered.Entry) (n : ℕ) (entries : List Entry) (es : List offered.Entry) → TellEntries all log n entries es → TellPlainFrom log n (map (plain_entry all) entries) es
plain_from all log n [] [] t = tt
plain_from all log n [] (e ∷ es) t = absurd t
plain_from all log n (x ∷ xs) [] t = absurd t
plain_from all log n (x ∷ xs) (e ∷ es) t = (record { clause = t.0.clause.is; origin = t.0.origin }, t.1, plain_from all log (suc n) xs es t.2)

pub plain_tells : (all : List Term) (entries : List Entry) (log : List offered.Entry) (plain : List PlainEntry) → TellLog all entries log → plain ≡ map (plain_entry all) entries → TellPlainLog plain log
plain_tells all entries log plain t is = subst (λ ps. TellPlainLog ps log) (sym is) (plain_from all log 1 entries log t)

-- and so does what is due
pub due_tells : (all : List Term) (log : List offered.Entry) (entry : Entry) (due : offered.Entry) (plain : PlainEntry) → TellsEntry all log entry due → entry.by ≡ None → plain ≡ plain_entry all entry → TellsDue log plain due
due_tells all log entry due plain t unbeaten is = record {
  tells = record {
    clause = ap (λ p. p.clause) is ∙ t.clause.is;
    origin = subst (λ o. IsOrigin log o due.key) (sym (ap (λ p. p.origin) is)) t.origin;
  };
  unbeaten = ap (λ p. p.by) is ∙ unbeaten;
}

-- as many entries as the log has
told_length : (all : List Term) (log : List offered.Entry) (n : ℕ) (entries : List Entry) (es : List offered.Entry) → TellEntries all log n entries es → length entries ≡ length es
told_length all log n [] [] t = refl
told_length all log n [] (e ∷ es) t = absurd t
told_length all log n (x ∷ xs) [] t = absurd t
told_length all log n (x ∷ xs) (e ∷ es) t = ap suc (told_length all log (suc n) xs es t.2)

pub tell_length : (all : List Term) (entries : List Entry) (log : List offered.Entry) → TellLog all entries log → length entries ≡ length log
tell_length all entries log t = told_length all log 1 entries log t
