-- Entries name trees, and those that none is told to subsume have the live clauses of the log.
use Rattle.std.proofs.Common.{◌≡◌, ℕ, suc, Bool, true, false, Option, Some, None, List, [], ◌∷◌, refl, ap, inl, inr}
use Rattle.spec_terms.specs.Term.{Term}
use Rattle.spec_clauses.specs.Fact.{Clause}
use Rattle.spec_clauses.specs.Inclusion.{here, there}
use Rattle.spec_saturation.specs.Key as offered
use Rattle.spec_saturation.specs.Log.{IsBeaten}
use Rattle.spec_saturation.specs.Live.{AreLive}
use Rattle.clause_form.specs.Seen.{AreClausesIn}
use Rattle.log_entries.specs.declared.log.Entry.{Entry}
use Rattle.log_entries.specs.Logs.{IsFirstSubsumer, TellEntries, is_unbeaten, live_clauses}
use Rattle.log_entries.specs.Beating.{clauses_of}
use Rattle.log_entries.proofs.Telling.{none_unbeaten}

pub tell_known : (all : List Term) (log : List offered.Entry) (n : ℕ) (entries : List Entry) (es : List offered.Entry) → TellEntries all log n entries es → AreClausesIn all (clauses_of entries)
tell_known all log n [] es t = tt
tell_known all log n (x ∷ xs) [] t = absurd t
tell_known all log n (x ∷ xs) (e ∷ es) t = (t.0.clause.known, tell_known all log (suc n) xs es t.2)

-- an entry that is told to be subsumed is
some_beaten : (n : ℕ) (es : List offered.Entry) (c : Clause Term) (by : Option ℕ) → IsFirstSubsumer n es c by → is_unbeaten by ≡ false → IsBeaten es c
some_beaten n [] c by first told = let wrong : is_unbeaten by ≡ true = ap is_unbeaten first in cc
some_beaten n (e ∷ es) c by (inl h) told = (e, (es, here), h.0)
some_beaten n (e ∷ es) c by (inr h) told = let later = some_beaten (suc n) es c by h.1 told in (later.0, (e ∷ later.1.0, there later.1.1), later.2)

unbeaten_is : (by : Option ℕ) → is_unbeaten by ≡ true → by ≡ None
unbeaten_is None e = refl
unbeaten_is (Some number) e = cc

pub tell_live : (all : List Term) (log : List offered.Entry) (n : ℕ) (entries : List Entry) (es : List offered.Entry) → TellEntries all log n entries es → AreLive es (live_clauses all entries)
tell_live all log n [] [] t = refl
tell_live all log n [] (e ∷ es) t = absurd t
tell_live all log n (x ∷ xs) [] t = absurd t
tell_live all log n (x ∷ xs) (e ∷ es) t = go (is_unbeaten x.by) refl (tell_live all log (suc n) xs es t.2)
  where
    go : (b : Bool) → is_unbeaten x.by ≡ b → AreLive es (live_clauses all xs) → AreLive (e ∷ es) (live_clauses all (x ∷ xs))
    go true h later = rw h (inr (none_unbeaten (suc n) es e.clause x.by t.1 (unbeaten_is x.by h), (live_clauses all xs, ap (λ c. c ∷ live_clauses all xs) t.0.clause.is, later)))
    go false h later = rw h (inl (some_beaten (suc n) es e.clause x.by t.1 h, later))
