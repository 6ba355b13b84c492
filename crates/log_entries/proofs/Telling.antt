-- Entries that tell a log: what covers a clause among them covers it in the log, and the other way round; and an entry more.
use Rattle.std.proofs.Common.{◌≡◌, ◌⊎◌, ◌∙◌, ℕ, zero, suc, ◌+◌, Option, Some, None, List, [], ◌∷◌, ◌++◌, length, refl, ap, sym, subst, inl, inr, arith}
use Rattle.std.specs.Prelude.{slice_get}
use Rattle.spec_terms.specs.Term.{Term}
use Rattle.spec_calculus.specs.Points.{numbered}
use Rattle.spec_clauses.specs.Fact.{Clause}
use Rattle.spec_clauses.specs.Subsumption.{Subsumes}
use Rattle.spec_clauses.specs.Inclusion.{Picks, here, there, Has}
use Rattle.spec_saturation.specs.Key.{Key}
use Rattle.spec_saturation.specs.Key as offered
use Rattle.spec_saturation.specs.Log.{IsBeaten, IsLive, IsCoveredBy}
use Rattle.spec_saturation.proofs.Pairs.{live_behind}
use Rattle.term_tree.specs.Bank.{Grows}
use Rattle.clause_form.specs.Seen.{clause_at, NamesClause}
use Rattle.clause_form.specs.Fit.{HasLowVariables}
use Rattle.clause_form.proofs.Copying.{NamesClause-grows}
use Rattle.clause_form.proofs.Fit.{HasLowVariables-grows}
use Rattle.log_entries.specs.declared.log.Origin.{Origin}
use Rattle.log_entries.specs.declared.log.Origin.TheVariants.{Given, Resolvent}
use Rattle.log_entries.specs.declared.log.Entry.{Entry}
use Rattle.log_entries.specs.Logs.{IsSolvedAt, IsOrigin, IsFirstSubsumer, TellsEntry, TellEntries, TellLog}
use Rattle.log_entries.specs.Beating.{SomeLiveCovers, IsMarked, AreMarked, IsPushed}

-- as the bank grows, entries tell what they did
TellsEntry-grows : (a b : List Term) (log : List offered.Entry) (entry : Entry) (e : offered.Entry) → Grows a b → TellsEntry a log entry e → TellsEntry b log entry e
TellsEntry-grows a b log entry e grows t = record {
  clause = NamesClause-grows a b entry.clause e.clause grows t.clause;
  low = HasLowVariables-grows a b entry.clause grows t.clause.known t.low;
  origin = t.origin;
}

TellEntries-grow : (a b : List Term) (log : List offered.Entry) (n : ℕ) (entries : List Entry) (es : List offered.Entry) → Grows a b → TellEntries a log n entries es → TellEntries b log n entries es
TellEntries-grow a b log n [] [] grows t = tt
TellEntries-grow a b log n [] (e ∷ es) grows t = absurd t
TellEntries-grow a b log n (x ∷ xs) [] grows t = absurd t
TellEntries-grow a b log n (x ∷ xs) (e ∷ es) grows t = (TellsEntry-grows a b log x e grows t.0, t.1, TellEntries-grow a b log (suc n) xs es grows t.2)

pub TellLog-grows : (a b : List Term) (entries : List Entry) (log : List offered.Entry) → Grows a b → TellLog a entries log → TellLog b entries log
TellLog-grows a b entries log grows t = TellEntries-grow a b log 1 entries log grows t

-- entries of an earlier bank tell in it what they tell now
TellEntries-back : (a b : List Term) (was log : List offered.Entry) (n : ℕ) (entries : List Entry) (ds es : List offered.Entry) → Grows a b → TellEntries a was n entries ds → TellEntries b log n entries es → TellEntries a log n entries es
TellEntries-back a b was log n [] ds [] grows t u = tt
TellEntries-back a b was log n [] ds (e ∷ es) grows t u = absurd u
TellEntries-back a b was log n (x ∷ xs) ds [] grows t u = absurd u
TellEntries-back a b was log n (x ∷ xs) [] (e ∷ es) grows t u = absurd t
TellEntries-back a b was log n (x ∷ xs) (d ∷ ds) (e ∷ es) grows t u =
    let known = t.0.clause.known in
    let same = NamesClause-grows a b x.clause (clause_at a x.clause) grows (record { known = known; is = refl }) in
    (record { clause = record { known = known; is = sym same.is ∙ u.0.clause.is }; low = t.0.low; origin = u.0.origin }, u.1, TellEntries-back a b was log (suc n) xs ds es grows t.2 u.2)

pub TellLog-back : (a b : List Term) (entries : List Entry) (was log : List offered.Entry) → Grows a b → TellLog a entries was → TellLog b entries log → TellLog a entries log
TellLog-back a b entries was log grows t u = TellEntries-back a b was log 1 entries was log grows t u

-- as many as there are
tell_length : (all : List Term) (log : List offered.Entry) (n : ℕ) (entries : List Entry) (es : List offered.Entry) → TellEntries all log n entries es → length entries ≡ length es
tell_length all log n [] [] t = refl
tell_length all log n [] (e ∷ es) t = absurd t
tell_length all log n (x ∷ xs) [] t = absurd t
tell_length all log n (x ∷ xs) (e ∷ es) t = ap suc (tell_length all log (suc n) xs es t.2)

pub log_length : (all : List Term) (entries : List Entry) (log : List offered.Entry) → TellLog all entries log → length entries ≡ length log
log_length all entries log t = tell_length all log 1 entries log t

-- who is told to be subsumed by none isn't, and the other way round
pub unbeaten_none : (n : ℕ) (es : List offered.Entry) (c : Clause Term) (by : Option ℕ) → IsFirstSubsumer n es c by → (IsBeaten es c → ⊥) → by ≡ None
unbeaten_none n [] c by first u = first
unbeaten_none n (e ∷ es) c by (inl h) u = absurd (u (e, (es, here), h.0))
unbeaten_none n (e ∷ es) c by (inr h) u = unbeaten_none (suc n) es c by h.1 (λ b. u (b.0, (e ∷ b.1.0, there b.1.1), b.2))

among : {X : Type 0} {ds rest : List X} {f d : X} {es : List X} → Picks ds f rest → ds ≡ d ∷ es → (f ≡ d) ⊎ Has es f
among here same = inl cc
among {X} {es = es} (there {x = f} {xs = ds} {rest = rest} p) same = let tails : ds ≡ es = cc in inr (subst (λ xs. Has xs f) tails (rest, p))

pub none_unbeaten : (n : ℕ) (es : List offered.Entry) (c : Clause Term) (by : Option ℕ) → IsFirstSubsumer n es c by → by ≡ None → IsBeaten es c → ⊥
none_unbeaten n [] c by first e b = elim b.1.1 [ ]
none_unbeaten n (x ∷ es) c by (inl h) e b = let wrong : Some n ≡ None = sym h.1 ∙ e in cc
none_unbeaten n (x ∷ es) c by (inr h) e b = elim (among b.1.1 refl) as (λ _. ⊥) [
  | inl same ↦ h.0 (subst (λ (y : offered.Entry). Subsumes y.clause c) same b.2)
  | inr later ↦ none_unbeaten (suc n) es c by h.1 e (b.0, later, b.2)
]

-- a live entry that covers is live in the log
pub covered_if_some : (all : List Term) (log : List offered.Entry) (n : ℕ) (entries : List Entry) (es : List offered.Entry) (c : Clause Term) → TellEntries all log n entries es → SomeLiveCovers all entries c → IsCoveredBy es c
covered_if_some all log n [] es c t h = absurd h
covered_if_some all log n (x ∷ xs) [] c t h = absurd t
covered_if_some all log n (x ∷ xs) (e ∷ es) c t (inl h) =
    (1, e.clause, record { entry = e; at = refl; clause = refl; unbeaten = none_unbeaten (suc n) es e.clause x.by t.1 h.0 }, subst (λ d. Subsumes d c) t.0.clause.is h.1)
covered_if_some all log n (x ∷ xs) (e ∷ es) c t (inr h) =
    let later = covered_if_some all log (suc n) xs es c t.2 h in
    (suc later.0, later.1, live_behind e es later.0 later.1 later.2, later.3)

-- and what is live in the log is a live entry
pub some_if_covered : (all : List Term) (log : List offered.Entry) (n : ℕ) (entries : List Entry) (es : List offered.Entry) (c : Clause Term) → TellEntries all log n entries es → IsCoveredBy es c → SomeLiveCovers all entries c
some_if_covered all log n entries es c t h = go n entries es t h.0 h.1 h.2 h.3
  where
    go : (n : ℕ) (entries : List Entry) (es : List offered.Entry) → TellEntries all log n entries es → (k : ℕ) (d : Clause Term) → IsLive es k d → Subsumes d c → SomeLiveCovers all entries c
    go n entries es t zero d live h = let at = live.at in cc
    go n [] [] t (suc k) d live h = let at = live.at in cc
    go n [] (e ∷ es) t (suc k) d live h = absurd t
    go n (x ∷ xs) [] t (suc k) d live h = absurd t
    go n (x ∷ xs) (e ∷ es) t (suc zero) d live h =
        let at = live.at in
        let same : e ≡ live.entry = cc in
        let clause : e.clause ≡ d = ap (λ y. y.clause) same ∙ live.clause in
        let unbeaten : IsBeaten es e.clause → ⊥ = λ b. live.unbeaten (subst (IsBeaten es) clause b) in
        inl (unbeaten_none (suc n) es e.clause x.by t.1 unbeaten, subst (λ y. Subsumes y c) (sym (t.0.clause.is ∙ clause)) h)
    go n (x ∷ xs) (e ∷ es) t (suc (suc k)) d live h =
        inr (go (suc n) xs es t.2 (suc k) d (record { entry = live.entry; at = live.at; clause = live.clause; unbeaten = live.unbeaten }) h)

-- what has a number has it with an entry more
numbered_push : (es : List offered.Entry) (e : offered.Entry) (n : ℕ) (d : offered.Entry) → numbered es n ≡ Some d → numbered (es ++ e ∷ []) n ≡ Some d
numbered_push es e zero d at = cc
numbered_push es e (suc k) d at = go es k at
  where
    go : (xs : List offered.Entry) (k : ℕ) → slice_get xs k ≡ Some d → slice_get (xs ++ e ∷ []) k ≡ Some d
    go [] k at = cc
    go (x ∷ xs) zero at = at
    go (x ∷ xs) (suc k) at = go xs k at

pub IsSolvedAt-push : (log : List offered.Entry) (e : offered.Entry) (n : ℕ) → IsSolvedAt log n → IsSolvedAt (log ++ e ∷ []) n
IsSolvedAt-push log e n h = (h.0, numbered_push log e n h.0 h.1, h.2)

pub IsOrigin-push : (log : List offered.Entry) (e : offered.Entry) (o : Origin) (at : Key) → IsOrigin log o at → IsOrigin (log ++ e ∷ []) o at
IsOrigin-push log e (Given k) at h = h
IsOrigin-push log e (Resolvent k s u) at h = (h.0, IsSolvedAt-push log e s h.1, h.2)

-- the first that subsumes, with an entry more
first_push : (all : List Term) (n number : ℕ) (es : List offered.Entry) (e : offered.Entry) (old new : Entry) (c : Clause Term) → number ≡ n + length es → clause_at all old.clause ≡ c → IsFirstSubsumer n es c old.by → IsMarked all e.clause number old new → IsFirstSubsumer n (es ++ e ∷ []) c new.by
first_push all n number [] e old new c count is first mark = elim mark.by as (λ _. IsFirstSubsumer n (e ∷ []) c new.by) [
  | inl h ↦ (let same : number ≡ n = omega (arith, count) in inl (subst (Subsumes e.clause) is h.0.1, h.1 ∙ ap Some same))
  | inr h ↦ inr (λ s. h.0 (first, subst (Subsumes e.clause) (sym is) s), h.1 ∙ first)
]
first_push all n number (x ∷ es) e old new c count is (inl first) mark = elim mark.by as (λ _. IsFirstSubsumer n (x ∷ (es ++ e ∷ [])) c new.by) [
  | inl h ↦ (let wrong : Some n ≡ None = sym first.1 ∙ h.0.0 in cc)
  | inr h ↦ inl (first.0, h.1 ∙ first.1)
]
first_push all n number (x ∷ es) e old new c count is (inr first) mark =
    inr (first.0, first_push all (suc n) number es e old new c (omega (arith, count)) is first.1 mark)

-- the entries with an entry more
tell_push : (all : List Term) (log : List offered.Entry) (n number : ℕ) (olds news : List Entry) (es : List offered.Entry) (entry : Entry) (e : offered.Entry) → number ≡ n + length es → TellEntries all log n olds es → AreMarked all e.clause number olds news → TellsEntry all (log ++ e ∷ []) entry e → entry.by ≡ None → TellEntries all (log ++ e ∷ []) n (news ++ entry ∷ []) (es ++ e ∷ [])
tell_push all log n number [] [] [] entry e count t m last none = (last, none, tt)
tell_push all log n number [] [] (x ∷ es) entry e count t m last none = absurd t
tell_push all log n number [] (y ∷ news) es entry e count t m last none = absurd m
tell_push all log n number (x ∷ olds) [] es entry e count t m last none = absurd m
tell_push all log n number (x ∷ olds) (y ∷ news) [] entry e count t m last none = absurd t
tell_push all log n number (x ∷ olds) (y ∷ news) (d ∷ es) entry e count t m last none = (
  record {
    clause = subst (λ c. NamesClause all c d.clause) (sym m.0.clause) t.0.clause;
    low = subst (HasLowVariables all) (sym m.0.clause) t.0.low;
    origin = subst (λ o. IsOrigin (log ++ e ∷ []) o d.key) (sym m.0.origin) (IsOrigin-push log e x.origin d.key t.0.origin);
  },
  first_push all (suc n) number es e x y d.clause (omega (arith, count)) t.0.clause.is t.1 m.0,
  tell_push all log (suc n) number olds news es entry e (omega (arith, count)) t.2 m.1 last none,
)

-- the log with a new entry is told
pub pushed_tells : (all : List Term) (log : List offered.Entry) (old new : List Entry) (entry : Entry) (e : offered.Entry) → TellLog all old log → IsPushed all old entry new → clause_at all entry.clause ≡ e.clause → TellsEntry all log entry e → entry.by ≡ None → TellLog all new (log ++ e ∷ [])
pushed_tells all log old new entry e t pushed is last none =
    let count = log_length all old log t in
    let marked : AreMarked all e.clause (length old + 1) old pushed.marked = subst (λ c. AreMarked all c (length old + 1) old pushed.marked) is pushed.are_marked in
    let told = tell_push all log 1 (length old + 1) old pushed.marked log entry e (omega (arith, count)) t marked (record { clause = last.clause; low = last.low; origin = IsOrigin-push log e entry.origin e.key last.origin }) none in
    subst (λ xs. TellLog all xs (log ++ e ∷ [])) (sym pushed.is) told
