-- What entries that tell a closed log have of it: fit clauses, its live clauses, and the first entry that is unmet.
use Rattle.std.proofs.Common.{◌≡◌, ◌∙◌, ℕ, zero, suc, ◌<◌, ◌≤◌, Bool, true, false, ◌&&◌, cond, Option, Some, None, List, [], ◌∷◌, map, length, refl, ap, sym, subst, arith}
use Rattle.std.specs.Prelude.{slice_get, drop, filter}
use Rattle.std.proofs.lemmas.List.{length-map}
use Rattle.std.proofs.lemmas.Simd.{map-map}
use Rattle.spec_trees.proofs.Equality.{and_true}
use Rattle.spec_calculus.specs.Syntax.{Query, Protocol}
use Rattle.spec_calculus.specs.Points.{numbered}
use Rattle.spec_well_formed.specs.Limits.{IsSmallQuery, IsWithinLimits}
use Rattle.spec_terms.specs.Term.{Term}
use Rattle.spec_clauses.specs.Fact.{Clause}
use Rattle.spec_clauses.specs.Norm.{IsNormal}
use Rattle.spec_clauses.specs.Limits.{IsWithinLimit}
use Rattle.spec_clauses.specs.Selection.{is_solved}
use Rattle.spec_clauses.specs.Inclusion.{here, there, Has}
use Rattle.spec_translation.specs.Satisfied.{is_bad, IsSatisfied}
use Rattle.spec_translation.specs.Translation.{Clauses, IsTranslation}
use Rattle.spec_certificates.specs.Certificate.{IsInShape}
use Rattle.spec_saturation.specs.Key as offered
use Rattle.spec_saturation.specs.Log.{IsBeaten}
use Rattle.spec_saturation.specs.End as ending
use Rattle.spec_saturation.specs.End.{IsLog}
use Rattle.spec_verdicts.specs.Verdict.{IsUnmet, IsFirstUnmet}
use Rattle.spec_verdicts.proofs.Entries.{given_shape, entries_shape}
use Rattle.clause_form.specs.Seen.{clause_at, AreClausesIn, IdClause}
use Rattle.log_entries.specs.declared.log.Entry.{Entry}
use Rattle.clause_form.specs.Fit.{AreFit, clauses_at}
use Rattle.log_entries.specs.Logs.{TellsEntry, TellEntries, TellLog, IsFirstSubsumer, is_unbeaten, live_clauses}
use Rattle.log_entries.specs.Beating.{clauses_of}
use Rattle.log_entries.proofs.Telling.{unbeaten_none, none_unbeaten}
use Rattle.cert_writer.specs.Living.{live_ids}
use Rattle.cert_writer.specs.Given.{AreSmall}
use Rattle.cert_writer.specs.Goals.{is_due_at, IsUnmetEntry, IsFirstUnmetEntry}

module _ (all : List Term) where
  -- an entry at a place, what it tells, and which later one subsumes it
  record IsToldAt (log es : List offered.Entry) (k number : ℕ) (x : Entry) (e : offered.Entry) : Type 0 where
    told : slice_get es k ≡ Some e
    tells : TellsEntry all log x e
    subsumer : IsFirstSubsumer number (drop (suc k) es) e.clause x.by

  told_at : (log : List offered.Entry) (n : ℕ) (entries : List Entry) (es : List offered.Entry) → TellEntries all log n entries es → (k : ℕ) (x : Entry) → slice_get entries k ≡ Some x → (e : offered.Entry) × (number : ℕ) × IsToldAt log es k number x e
  told_at log n [] es t k x at = cc
  told_at log n (y ∷ ys) [] t k x at = absurd t
  told_at log n (y ∷ ys) (e ∷ es) t zero x at =
      let same : y ≡ x = cc in
      (e, suc n, record { told = refl; tells = subst (λ z. TellsEntry all log z e) same t.0; subsumer = subst (λ z. IsFirstSubsumer (suc n) es e.clause z.by) same t.1 })
  told_at log n (y ∷ ys) (e ∷ es) t (suc k) x at =
      let (d, number, is) = told_at log (suc n) ys es t.2 k x at in
      (d, number, record { told = is.told; tells = is.tells; subsumer = is.subsumer })

  told_back : (log : List offered.Entry) (n : ℕ) (entries : List Entry) (es : List offered.Entry) → TellEntries all log n entries es → (k : ℕ) (e : offered.Entry) → slice_get es k ≡ Some e → (x : Entry) × (slice_get entries k ≡ Some x)
  told_back log n [] [] t k e at = cc
  told_back log n [] (d ∷ es) t k e at = absurd t
  told_back log n (y ∷ ys) [] t k e at = absurd t
  told_back log n (y ∷ ys) (d ∷ es) t zero e at = (y, refl)
  told_back log n (y ∷ ys) (d ∷ es) t (suc k) e at = told_back log (suc n) ys es t.2 k e at

  by_none : (x : Entry) → is_unbeaten x.by ≡ true → x.by ≡ None
  by_none x e = go x.by refl e
    where
      go : (o : Option ℕ) → x.by ≡ o → is_unbeaten o ≡ true → o ≡ None
      go None same e = refl
      go (Some number) same e = cc

  -- the parts of what is due
  due_parts : (x : Entry) → is_due_at all x ≡ true → (is_unbeaten x.by ≡ true) × (is_solved (clause_at all x.clause).hypotheses ≡ true) × (is_bad (clause_at all x.clause).conclusion ≡ true)
  due_parts x e =
      let first = and_true (is_unbeaten x.by) (is_solved (clause_at all x.clause).hypotheses && is_bad (clause_at all x.clause).conclusion) e in
      let rest = and_true (is_solved (clause_at all x.clause).hypotheses) (is_bad (clause_at all x.clause).conclusion) first.1 in
      (first.0, rest.0, rest.1)

  module _ (P : Protocol) (q : Query) (log : List offered.Entry) (entries : List Entry) (tell : TellLog all entries log) where
    -- an entry that is unmet is so in the log
    unmet_in_log : (n : ℕ) (x : Entry) → numbered entries n ≡ Some x → IsUnmetEntry P q all x → IsUnmet P q log n
    unmet_in_log zero x at u = cc
    unmet_in_log (suc k) x at u =
        let (e, number, is) = told_at log 1 entries log tell k x at in
        let parts = due_parts x u.due in
        let names = is.tells.clause.is in
        record {
          clause = clause_at all x.clause;
          live = record {
            entry = e;
            at = is.told;
            clause = sym names;
            unbeaten = λ b. none_unbeaten number (drop (suc k) log) e.clause x.by is.subsumer (by_none x parts.0) (subst (IsBeaten (drop (suc k) log)) names b);
          };
          solved = parts.1;
          concludes_bad = parts.2;
          unsatisfied = u.unsatisfied;
        }

    -- and what is unmet in the log is such an entry
    unmet_entry : (n : ℕ) → IsUnmet P q log n → (x : Entry) × (numbered entries n ≡ Some x) × IsUnmetEntry P q all x
    unmet_entry zero u = let none = u.live.at in cc
    unmet_entry (suc k) u =
        let back = told_back log 1 entries log tell k u.live.entry u.live.at in
        let x = back.0 in
        let (e, number, is) = told_at log 1 entries log tell k x back.1 in
        let both : Some u.live.entry ≡ Some e = sym u.live.at ∙ is.told in
        let one : u.live.entry ≡ e = cc in
        let clauses : clause_at all x.clause ≡ u.clause = is.tells.clause.is ∙ (ap (λ d. d.clause) (sym one) ∙ u.live.clause) in
        let by : x.by ≡ None = unbeaten_none number (drop (suc k) log) e.clause x.by is.subsumer (λ b. u.live.unbeaten (subst (IsBeaten (drop (suc k) log)) (ap (λ d. d.clause) (sym one) ∙ u.live.clause) b)) in (
          x,
          back.1,
          record {
            due = rw by (ap (λ c. is_solved c.hypotheses && is_bad c.conclusion) clauses ∙ rw u.solved (rw u.concludes_bad refl));
            unsatisfied = subst (λ (c : Clause Term). IsSatisfied P q c → ⊥) (sym clauses) u.unsatisfied;
          },
        )

    -- The first entry that is unmet is the first of the log.
    pub first_unmet_told : (number : ℕ) → IsFirstUnmetEntry P q all entries number → IsFirstUnmet P q log number
    first_unmet_told number f = record {
      unmet = unmet_in_log number f.entry f.at f.unmet;
      first = λ n less u. let found = unmet_entry n u in f.first n found.0 less found.1 found.2;
    }

  -- fit clauses
  named_fit : (log : List offered.Entry) (n : ℕ) (entries : List Entry) (es : List offered.Entry) → TellEntries all log n entries es → (q : Query) → ((e : offered.Entry) → Has es e → IsInShape q e.clause) → AreFit all (clauses_of entries)
  named_fit log n [] es t q each = tt
  named_fit log n (x ∷ xs) [] t q each = absurd t
  named_fit log n (x ∷ xs) (e ∷ es) t q each =
      let shape = each e (es, here) in (
        record { known = t.0.clause.known; normal = subst IsNormal (sym t.0.clause.is) shape.normal; small = subst IsWithinLimit (sym t.0.clause.is) shape.small; low = t.0.low },
        named_fit log (suc n) xs es t.2 q (λ d h. each d (e ∷ h.0, there h.1)),
      )

  given_small : (cs : List IdClause) (q : Query) → AreClausesIn all cs → ((c : Clause Term) → Has (clauses_at all cs) c → IsInShape q c) → AreSmall all cs
  given_small [] q known each = tt
  given_small (c ∷ cs) q known each =
      let shape = each (clause_at all c) (clauses_at all cs, here) in (
        record { known = known.0; small = shape.small },
        given_small cs q known.1 (λ d h. each d (clause_at all c ∷ h.0, there h.1)),
      )

  -- the live ones among fit clauses
  pub live_fit : (entries : List Entry) → AreFit all (clauses_of entries) → AreFit all (live_ids entries)
  live_fit [] fit = tt
  live_fit (x ∷ xs) fit = go (is_unbeaten x.by) (live_fit xs fit.1)
    where
      go : (b : Bool) → AreFit all (live_ids xs) → AreFit all (map (λ e. e.clause) (cond b (x ∷ filter (λ e. is_unbeaten e.by) xs) (filter (λ e. is_unbeaten e.by) xs)))
      go true rest = (fit.0, rest)
      go false rest = rest

  pub live_named : (entries : List Entry) → clauses_at all (live_ids entries) ≡ live_clauses all entries
  live_named entries = map-map (clause_at all) (λ e. e.clause) (filter (λ e. is_unbeaten e.by) entries)

  pub fit_known : (cs : List IdClause) → AreFit all cs → AreClausesIn all cs
  fit_known [] fit = tt
  fit_known (c ∷ cs) fit = (fit.0.known, fit_known cs fit.1)

  -- what the translation of a protocol within its limits, and a log of it that is told, have
  module _ (P : Protocol) (q : Query) (limits : IsWithinLimits P) (small : IsSmallQuery q) (given : List IdClause) (translated : IsTranslation P q (Clauses (clauses_at all given))) where
    pub translation_small : AreClausesIn all given → AreSmall all given
    translation_small known = given_small given q known (given_shape P q (clauses_at all given) translated limits small)

    pub log_fit : (budget : ℕ) (log : List offered.Entry) (entries : List Entry) → TellLog all entries log → IsLog (clauses_at all given) budget log ending.Closed → AreFit all (clauses_of entries)
    log_fit budget log entries tell is = named_fit log 1 entries log tell q (entries_shape P q (clauses_at all given) translated limits small budget log is)

pub live_few : (entries : List Entry) (n : ℕ) → length entries < n → length (live_ids entries) < n
live_few entries n few =
    let fewer = filter_length entries in
    omega (arith, few, fewer, length-map (filter (λ (e : Entry). is_unbeaten e.by) entries) (λ e. e.clause))
  where
    filter_length : (es : List Entry) → length (filter (λ e. is_unbeaten e.by) es) ≤ length es
    filter_length [] = omega arith
    filter_length (e ∷ es) = go (is_unbeaten e.by) (filter_length es) where
      go : (b : Bool) → length (filter (λ x. is_unbeaten x.by) es) ≤ length es → length (cond b (e ∷ filter (λ x. is_unbeaten x.by) es) (filter (λ x. is_unbeaten x.by) es)) ≤ length (e ∷ es)
      go true h = omega (arith, h)
      go false h = omega (arith, h)
