-- A protocol, a query and a budget have one verdict.
use Rattle.std.proofs.Common.{◌≡◌, ◌⊎◌, ◌∙◌, ℕ, true, false, Some, List, [], ◌∷◌, ◌++◌, refl, ap, sym, subst, inl, inr, arith}
use Rattle.std.specs.Prelude.{min, max}
use Rattle.std.proofs.lemmas.Bool.{cases_order}
use Rattle.spec_calculus.specs.Syntax.{Query, Protocol}
use Rattle.spec_terms.specs.Term.{Term}
use Rattle.spec_clauses.specs.Fact.{Clause}
use Rattle.spec_clauses.specs.Selection.{is_solved}
use Rattle.spec_clauses.proofs.Answers.{one_answer}
use Rattle.spec_translation.specs.Translation.{Clauses, LargeAt}
use Rattle.spec_translation.proofs.OneTranslation.{one_translation}
use Rattle.spec_certificates.specs.Certificate.{Certificate, Pair}
use Rattle.spec_saturation.specs.Key.{Entry, key, below}
use Rattle.spec_saturation.specs.Log.{IsLive, IsDue}
use Rattle.spec_saturation.specs.Live.{AreLive}
use Rattle.spec_saturation.specs.End.{End, Closed, Spent, TooLarge, IsLog}
use Rattle.spec_saturation.proofs.Uniqueness.{one_log}
use Rattle.spec_saturation.proofs.Moving.{below_all, self_not_before}
use Rattle.spec_verdicts.specs.FirstRows.{AreFirstCovers, AreFirstGoals, bad_clauses}
use Rattle.spec_verdicts.specs.First.{resolvents_of, AllGive, all_pairs, IsFirstCertificate}
use Rattle.spec_verdicts.specs.First as first
use Rattle.spec_verdicts.specs.Verdict.{Verdict, Proved, Budget, SizePair, SizePoint, Unmet, IsSolvedAt, IsUnmet, IsFirstUnmet, IsProved, IsEnd, IsVerdict}
use Rattle.spec_verdicts.proofs.Rows.{one_covers, one_goals}
use Rattle.spec_verdicts.proofs.Goals.{bad_satisfied, live_listed}

-- a pair gives one list of resolvents
one_given : (pair : Pair) (made others : List (Clause Term)) → first.Gives pair made → first.Gives pair others → made ≡ others
one_given pair made others a b =
    let answers = one_answer pair.solved.clause pair.unsolved.clause pair.at a.answer b.answer a.resolves b.resolves in
    let same : Some made ≡ Some others = sym a.has ∙ (ap resolvents_of answers ∙ b.has) in cc

all_given : (pairs : List Pair) (made others : List (Clause Term)) → AllGive pairs made → AllGive pairs others → made ≡ others
all_given [] made others a b = a ∙ sym b
all_given (pair ∷ pairs) made others a b =
    let (ms, rest, g, more, is) = a in
    let (ns, left, h, further, are) = b in
    let front = one_given pair ms ns g h in
    let back = all_given pairs rest left more further in
    is ∙ (ap (λ xs. xs ++ rest) front ∙ (ap (λ ys. ns ++ ys) back ∙ sym are))

-- a list of clauses has one first certificate
one_certificate : (P : Protocol) (q : Query) (given : List (Clause Term)) (a b : Certificate) → a.clauses ≡ b.clauses → IsFirstCertificate P q given a → IsFirstCertificate P q given b → a ≡ b
one_certificate P q given a b same x y =
    let made : x.made ≡ y.made = all_given (all_pairs b.clauses) x.made y.made (subst (λ cs. AllGive (all_pairs cs) x.made) same x.give) y.give in
    let moved : AreFirstCovers b.clauses (given ++ y.made) a.rows =
    subst (λ ms. AreFirstCovers b.clauses (given ++ ms) a.rows) made (subst (λ cs. AreFirstCovers cs (given ++ x.made) a.rows) same x.covers) in
    let rows = one_covers b.clauses (given ++ y.made) a.rows b.rows moved y.covers in
    let goals = one_goals P q (bad_clauses b.clauses) a.goals b.goals (subst (λ cs. AreFirstGoals P q (bad_clauses cs) a.goals) same x.goals) y.goals in
    λ i. record { clauses = same i; rows = rows i; goals = goals i }

-- a log has one list of live clauses
one_live : (es : List Entry) (cs ds : List (Clause Term)) → AreLive es cs → AreLive es ds → cs ≡ ds
one_live [] cs ds a b = a ∙ sym b
one_live (e ∷ es) cs ds a b = go a b (λ rest others x y. one_live es rest others x y)
  where
    go : AreLive (e ∷ es) cs → AreLive (e ∷ es) ds → ((rest others : List (Clause Term)) → AreLive es rest → AreLive es others → rest ≡ others) → cs ≡ ds
    go (inl x) (inl y) further = further cs ds x.1 y.1
    go (inl x) (inr y) further = absurd (y.0 x.0)
    go (inr x) (inl y) further = absurd (x.0 y.0)
    go (inr x) (inr y) further =
        let (u, (rest, is, live)) = x in
        let (v, (others, are, live_too)) = y in
        is ∙ (ap (λ l. e.clause ∷ l) (further rest others live live_too) ∙ sym are)

-- the first of the entries that aren't satisfied is one
one_unmet : (P : Protocol) (q : Query) (log : List Entry) (n m : ℕ) → IsFirstUnmet P q log n → IsFirstUnmet P q log m → n ≡ m
one_unmet P q log n m a b = elim (cases_order n m) as (λ _. n ≡ m) [
  | inl same ↦ same
  | inr (inl less) ↦ absurd (b.first n less a.unmet)
  | inr (inr more) ↦ absurd (a.first m more b.unmet)
]

-- an entry that is live and unsolved isn't solved
unsolved_there : (log : List Entry) (n : ℕ) (c : Clause Term) → IsLive log n c → is_solved c.hypotheses ≡ false → IsSolvedAt log n → ⊥
unsolved_there log n c live unsolved solved =
    let (e, at, is) = solved in
    let found : Some live.entry ≡ Some e = sym live.at ∙ at in
    let one : live.entry ≡ e = cc in
    let wrong : true ≡ false = sym is ∙ (ap (λ x. is_solved x.clause.hypotheses) (sym one) ∙ (ap (λ d. is_solved d.hypotheses) live.clause ∙ unsolved)) in cc

-- which of the two entries of a due pair is the solved one
solved_number : (log : List Entry) (m i : ℕ) (left right : Clause Term) → IsDue log m i left right → (n : ℕ) × ((s u : ℕ) → max s u ≡ m → min s u ≡ i → IsSolvedAt log s → s ≡ n)
solved_number log m i left right due = go due.live
  where
    go : (IsLive log i left × IsLive log m right) ⊎ (IsLive log m left × IsLive log i right) → (n : ℕ) × ((s u : ℕ) → max s u ≡ m → min s u ≡ i → IsSolvedAt log s → s ≡ n)
    go (inl both) = (
      i,
      λ s u later earlier solved. elim (cases_order s m) as (λ _. s ≡ i) [
        | inl same ↦ absurd (unsolved_there log m right both.1 due.right_unsolved (subst (IsSolvedAt log) same solved))
        | inr (inl less) ↦ omega (arith, less, later, earlier)
        | inr (inr more) ↦ absurd (omega (arith, more, later))
      ],
    )
    go (inr both) = (
      m,
      λ s u later earlier solved. elim (cases_order s i) as (λ _. s ≡ m) [
        | inl same ↦ absurd (unsolved_there log i right both.1 due.right_unsolved (subst (IsSolvedAt log) same solved))
        | inr (inl less) ↦ absurd (omega (arith, less, earlier))
        | inr (inr more) ↦ omega (arith, more, later, earlier)
      ],
    )

-- the pair that is too large is told in one way
one_pair : (given : List (Clause Term)) (budget : ℕ) (log : List Entry) (s u t v : ℕ) → IsLog given budget log (TooLarge (max s u) (min s u)) → TooLarge (max s u) (min s u) ≡ TooLarge (max t v) (min t v) → IsSolvedAt log s → IsSolvedAt log t → (s ≡ t) × (u ≡ v)
one_pair given budget log s u t v is ends a b =
    let m = max s u in
    let i = min s u in
    let later : max t v ≡ max s u = let e = ends in cc in
    let earlier : min t v ≡ min s u = let e = ends in cc in
    let all : below (key m i 1) log ≡ log = below_all given (key m i 1) (key m i 1) log is.up_to (self_not_before (key m i 1)) in
    let gives = is.cause in
    let due = subst (λ es. IsDue es m i gives.solved gives.unsolved) all gives.is_due in
    let (n, only) = solved_number log m i gives.solved gives.unsolved due in
    let first : s ≡ n = only s u refl refl a in
    let second : t ≡ n = only t v later earlier b in
    (first ∙ sym second, omega (arith, first, second, later, earlier))

-- what is proved isn't unmet
never_both : (P : Protocol) (q : Query) (given : List (Clause Term)) (budget : ℕ) (cert : Certificate) (log : List Entry) (n : ℕ) → IsProved P q given budget cert → IsLog given budget log Closed → IsUnmet P q log n → ⊥
never_both P q given budget cert log n proved is unmet =
    let same = (one_log one_answer given budget proved.log log Closed Closed proved.is_log is).0 in
    let live = subst (λ es. AreLive es cert.clauses) same proved.live in
    let listed = live_listed log cert.clauses live n unmet.clause unmet.live in
    unmet.unsatisfied (bad_satisfied P q cert.clauses cert.goals proved.certificate.goals unmet.clause listed unmet.solved unmet.concludes_bad)

module _ (P : Protocol) (q : Query) (given : List (Clause Term)) (budget : ℕ) where
  proved_once : (a b : Certificate) → IsProved P q given budget a → IsProved P q given budget b → a ≡ b
  proved_once a b x y =
      let same = (one_log one_answer given budget x.log y.log Closed Closed x.is_log y.is_log).0 in
      let clauses = one_live y.log a.clauses b.clauses (subst (λ es. AreLive es a.clauses) same x.live) y.live in
      one_certificate P q given a b clauses x.certificate y.certificate

  together : (log other : List Entry) (end stop : End) → IsLog given budget log end → IsLog given budget other stop → (log ≡ other) × (end ≡ stop)
  together log other end stop a b = one_log one_answer given budget log other end stop a b

  -- what one log comes to is one
  one_end : (a b : Verdict) → IsEnd P q given budget a → IsEnd P q given budget b → a ≡ b
  one_end (SizePoint point) b x y = absurd x
  one_end (Proved cert) (SizePoint point) x y = absurd y
  one_end (Budget log due) (SizePoint point) x y = absurd y
  one_end (SizePair log s u) (SizePoint point) x y = absurd y
  one_end (Unmet log n) (SizePoint point) x y = absurd y
  one_end (Proved cert) (Proved other) x y = ap Proved (proved_once cert other x y)
  one_end (Proved cert) (Budget log due) x y = let e = (together x.log log Closed (Spent due) x.is_log y).1 in cc
  one_end (Proved cert) (SizePair log s u) x y = let e = (together x.log log Closed (TooLarge (max s u) (min s u)) x.is_log y.0).1 in cc
  one_end (Proved cert) (Unmet log n) x y = absurd (never_both P q given budget cert log n x y.0 y.1.unmet)
  one_end (Budget log due) (Proved cert) x y = let e = (together log y.log (Spent due) Closed x y.is_log).1 in cc
  one_end (Budget log due) (Budget other entry) x y =
      let both = together log other (Spent due) (Spent entry) x y in
      let logs = both.0 in let ends = both.1 in
      let dues : due ≡ entry = cc in λ i. Budget (logs i) (dues i)
  one_end (Budget log due) (SizePair other s u) x y = let e = (together log other (Spent due) (TooLarge (max s u) (min s u)) x y.0).1 in cc
  one_end (Budget log due) (Unmet other n) x y = let e = (together log other (Spent due) Closed x y.0).1 in cc
  one_end (SizePair log s u) (Proved cert) x y = let e = (together log y.log (TooLarge (max s u) (min s u)) Closed x.0 y.is_log).1 in cc
  one_end (SizePair log s u) (Budget other due) x y = let e = (together log other (TooLarge (max s u) (min s u)) (Spent due) x.0 y).1 in cc
  one_end (SizePair log s u) (SizePair other t v) x y =
      let both = together log other (TooLarge (max s u) (min s u)) (TooLarge (max t v) (min t v)) x.0 y.0 in
      let logs = both.0 in
      let pair = one_pair given budget log s u t v x.0 both.1 x.1 (subst (λ es. IsSolvedAt es t) (sym logs) y.1) in
      let first = pair.0 in let second = pair.1 in λ i. SizePair (logs i) (first i) (second i)
  one_end (SizePair log s u) (Unmet other n) x y = let e = (together log other (TooLarge (max s u) (min s u)) Closed x.0 y.0).1 in cc
  one_end (Unmet log n) (Proved cert) x y = absurd (never_both P q given budget cert log n y x.0 x.1.unmet)
  one_end (Unmet log n) (Budget other due) x y = let e = (together log other Closed (Spent due) x.0 y).1 in cc
  one_end (Unmet log n) (SizePair other s u) x y = let e = (together log other Closed (TooLarge (max s u) (min s u)) x.0 y.0).1 in cc
  one_end (Unmet log n) (Unmet other m) x y =
      let logs = (together log other Closed Closed x.0 y.0).0 in
      let numbers = one_unmet P q other n m (subst (λ es. IsFirstUnmet P q es n) logs x.1) y.1 in λ i. Unmet (logs i) (numbers i)

-- A protocol, a query and a budget have one verdict.
pub one_verdict : (P : Protocol) (q : Query) (budget : ℕ) (a b : Verdict) → IsVerdict P q budget a → IsVerdict P q budget b → a ≡ b
one_verdict P q budget a b (inl x) (inl y) =
    let same = one_translation P q (LargeAt x.0) (LargeAt y.0) x.1 y.1 in
    let points : x.0 ≡ y.0 = cc in x.2 ∙ (ap SizePoint points ∙ sym y.2)
one_verdict P q budget a b (inl x) (inr y) = let same = one_translation P q (LargeAt x.0) (Clauses y.0) x.1 y.1 in cc
one_verdict P q budget a b (inr x) (inl y) = let same = one_translation P q (Clauses x.0) (LargeAt y.0) x.1 y.1 in cc
one_verdict P q budget a b (inr x) (inr y) =
    let same = one_translation P q (Clauses x.0) (Clauses y.0) x.1 y.1 in
    let given : x.0 ≡ y.0 = cc in
    one_end P q y.0 budget a b (subst (λ g. IsEnd P q g budget a) given x.2) y.2
