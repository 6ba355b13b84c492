-- Subjects are listed exactly where it is proved that they never happen.
use Rattle.std.proofs.Common.{◌≡◌, ◌∙◌, ◌⊎◌, inl, inr, ℕ, zero, suc, ◌+◌, ◌-◌, ◌<◌, ◌≤◌, Bool, true, false, Some, List, [], ◌∷◌, ◌++◌, length, get_or, take, drop, Contains, slice_get, refl, ap, sym, subst, arith}
use Rattle.std.proofs.lemmas.Bool.{cases_lt}
use Rattle.std.proofs.lemmas.List.{take-append-drop, take-take}
use Rattle.std.proofs.lemmas.List.Elements.{Contains-push, Contains-push_cases, Contains-append_left, Contains-append_right, Contains-append_cases}
use Rattle.std.proofs.lemmas.Option.{slice_get_within, slice_get_read, slice_get-get_or}
use Rattle.std.proofs.lemmas.Slice.{between_is}
use Rattle.spec_calculus.specs.Syntax.{Protocol, Query, Correspondence, EventTerm}
use Rattle.spec_calculus.specs.Secrecy.{Holds}
use Rattle.spec_calculus.proofs.Points.{numbered-there}
use Rattle.spec_well_formed.specs.Limits.{IsWithinLimits}
use Rattle.spec_well_formed.specs.Rules.{HasProperRules}
use Rattle.spec_well_formed.specs.Queries.{HasProperQueries}
use Rattle.spec_well_formed.specs.WellFormed.{IsWellScoped}
use Rattle.spec_certificates.specs.Certificate.{Certificate}
use Rattle.spec_certificates.specs.Shown.{IsProper}
use Rattle.spec_verdicts.specs.Verdict as defined
use Rattle.spec_verdicts.specs.Verdict.{IsVerdict}
use Rattle.clause_translate.proofs.Linear.{linear_patterns}
use Rattle.query_verify.specs.declared.answers.Verdict.{Verdict}
use Rattle.query_verify.specs.declared.answers.Verdict.TheVariants.{Proved, Budget, SizePair, SizePoint, Unmet, Attack}
use Rattle.query_verify.specs.Told.{Tells, IsAnswer, AnswerQueries}
use Rattle.protocol_text.specs.declared.questions.Subject.{Subject}
use Rattle.protocol_text.specs.declared.questions.Subject.TheVariants.{Event, Left}
use Rattle.protocol_text.specs.declared.questions.Impossible.{Impossible}
use Rattle.protocol_text.specs.Questions.{any_event, never, asking, IsAbout}
use Rattle.hx.specs.Never.{IsTold, is_proved, IsNever, IsUnproved, IsListed}
use Rattle.protocol_text.specs.Asking.{AreSubjects, AreUpTo, IsQuestion, AreQuestions, IsAsking}
use Rattle.hx.specs.Noted.{AreAnswered, IsOneMore, IsNoted, IsProvedBefore, AreNoted, AreTold, AreFound}
use Rattle.protocol_text.proofs.Proper.{question_leaves, question_count}
use Rattle.protocol_text.proofs.SameRuns.{holds_of_itself}

-- one more event, and one more left side
pub event_listed : (old new : Impossible) (subject : Subject) (n : ℕ) → subject ≡ Event n → new.events.items ≡ old.events.items ++ n ∷ [] → new.queries.items ≡ old.queries.items → IsOneMore subject old new
event_listed old new subject n is events queries (Event m) = (
  (λ has. elim (Contains-push_cases old.events.items n m (subst (λ ns. Contains ns m) events has)) as (λ _. Contains old.events.items m ⊎ (subject ≡ Event m)) [
    | inl before ↦ inl before
    | inr same ↦ inr (is ∙ ap Event same)
  ]),
  (λ h. subst (λ ns. Contains ns m) (sym events) (elim h as (λ _. Contains (old.events.items ++ n ∷ []) m) [
    | inl before ↦ Contains-append_left old.events.items (n ∷ []) m before
    | inr same ↦ (let number : n ≡ m = cc in subst (Contains (old.events.items ++ n ∷ [])) number (Contains-push old.events.items n))
  ])),
)
event_listed old new subject n is events queries (Left m) = (
  (λ has. inl (subst (λ ns. Contains ns m) queries has)),
  (λ h. subst (λ ns. Contains ns m) (sym queries) (elim h as (λ _. Contains old.queries.items m) [
    | inl before ↦ before
    | inr same ↦ (let never : Event n ≡ Left m = sym is ∙ same in cc)
  ])),
)

pub left_listed : (old new : Impossible) (subject : Subject) (n : ℕ) → subject ≡ Left n → new.events.items ≡ old.events.items → new.queries.items ≡ old.queries.items ++ n ∷ [] → IsOneMore subject old new
left_listed old new subject n is events queries (Left m) = (
  (λ has. elim (Contains-push_cases old.queries.items n m (subst (λ ns. Contains ns m) queries has)) as (λ _. Contains old.queries.items m ⊎ (subject ≡ Left m)) [
    | inl before ↦ inl before
    | inr same ↦ inr (is ∙ ap Left same)
  ]),
  (λ h. subst (λ ns. Contains ns m) (sym queries) (elim h as (λ _. Contains (old.queries.items ++ n ∷ []) m) [
    | inl before ↦ Contains-append_left old.queries.items (n ∷ []) m before
    | inr same ↦ (let number : n ≡ m = cc in subst (Contains (old.queries.items ++ n ∷ [])) number (Contains-push old.queries.items n))
  ])),
)
left_listed old new subject n is events queries (Event m) = (
  (λ has. inl (subst (λ ns. Contains ns m) events has)),
  (λ h. subst (λ ns. Contains ns m) (sym events) (elim h as (λ _. Contains old.events.items m) [
    | inl before ↦ before
    | inr same ↦ (let never : Left n ≡ Event m = sym is ∙ same in cc)
  ])),
)

-- noted where it is proved, and not where it isn't
pub noted : (subject : Subject) (answer : Verdict) (old new : Impossible) → is_proved answer ≡ true → IsOneMore subject old new → IsNoted subject answer old new
noted subject answer old new proved one other = (
  (λ has. elim ((one other).0 has) as (λ _. IsListed old other ⊎ ((is_proved answer ≡ true) × (subject ≡ other))) [
    | inl before ↦ inl before
    | inr same ↦ inr (proved, same)
  ]),
  (λ h. elim h as (λ _. IsListed new other) [
    | inl before ↦ (one other).1 (inl before)
    | inr both ↦ (one other).1 (inr both.1)
  ]),
)

pub not_noted : (subject : Subject) (answer : Verdict) (found : Impossible) → is_proved answer ≡ false → IsNoted subject answer found found
not_noted subject answer found unproved other = (
  (λ has. inl has),
  (λ h. elim h as (λ _. IsListed found other) [
    | inl before ↦ before
    | inr both ↦ (let never : true ≡ false = sym both.0 ∙ unproved in cc)
  ]),
)

-- those before the first are none, and before the next one more
pub none_noted : (subjects : List Subject) (answers : List Verdict) (found : Impossible) → AreNoted 0 subjects answers found found
none_noted subjects answers found subject = (
  (λ has. inl has),
  (λ h. elim h as (λ _. IsListed found subject) [
    | inl before ↦ before
    | inr p ↦ (let below = p.before in absurd (omega (arith, below)))
  ]),
)

module _ (subjects : List Subject) (answers : List Verdict) (index : ℕ) where
  later : (subject : Subject) → IsProvedBefore index subjects answers subject → IsProvedBefore (index + 1) subjects answers subject
  later subject p =
      let below = p.before in
      record { at = p.at; before = omega (arith, below); stands = p.stands; answer = p.answer; answered = p.answered; proved = p.proved }

  pub one_more_noted : (subject : Subject) (answer : Verdict) (old between new : Impossible) → slice_get subjects index ≡ Some subject → slice_get answers index ≡ Some answer → AreNoted index subjects answers old between → IsNoted subject answer between new
      → AreNoted (index + 1) subjects answers old new
  one_more_noted subject answer old between new stands answered so_far next other = (
    (λ has. elim ((next other).0 has) as (λ _. IsListed old other ⊎ IsProvedBefore (index + 1) subjects answers other) [
      | inl listed ↦ elim ((so_far other).0 listed) as (λ _. IsListed old other ⊎ IsProvedBefore (index + 1) subjects answers other) [
        | inl before ↦ inl before
        | inr p ↦ inr (later other p)
      ]
      | inr both ↦ inr (record { at = index; before = omega arith; stands = stands ∙ ap Some both.1; answer = answer; answered = answered; proved = both.0 })
    ]),
    (λ h. elim h as (λ _. IsListed new other) [
      | inl before ↦ (next other).1 (inl ((so_far other).1 (inl before)))
      | inr p ↦ back p (cases_lt p.at index)
    ]),
  )
    where
      back : (p : IsProvedBefore (index + 1) subjects answers other) → (p.at < index) ⊎ (index ≤ p.at) → IsListed new other
      back p (inl below) = (next other).1 (inl ((so_far other).1 (inr (record { at = p.at; before = below; stands = p.stands; answer = p.answer; answered = p.answered; proved = p.proved }))))
      back p (inr past) =
          let below = p.before in
          let here : p.at ≡ index = omega (arith, past, below) in
          let same_subject : Some subject ≡ Some other = sym stands ∙ (ap (slice_get subjects) (sym here) ∙ p.stands) in
          let same_answer : Some answer ≡ Some p.answer = sym answered ∙ (ap (slice_get answers) (sym here) ∙ p.answered) in
          let is_subject : subject ≡ other = cc in
          let is_answer : answer ≡ p.answer = cc in
          (next other).1 (inr (ap is_proved is_answer ∙ p.proved, is_subject))

contains_at : {X : Type 0} (xs : List X) (k : ℕ) (x : X) → slice_get xs k ≡ Some x → Contains xs x
contains_at xs k x at =
    let within = slice_get_within xs k x at in
    let read : slice_get xs k ≡ Some (get_or xs k x) = slice_get-get_or xs k x within in
    let same : get_or xs k x ≡ x = cc in (k, within, same)

-- a subject is of one event
one_event : (P : Protocol) (subject : Subject) (e f : EventTerm) → IsAbout P subject e → IsAbout P subject f → e ≡ f
one_event P (Event n) e f (declared, at, is) (other, other_at, other_is) =
    let same : Some declared ≡ Some other = sym at ∙ other_at in
    let one : declared ≡ other = cc in
    is ∙ (ap (λ d. any_event n d.arity) one ∙ sym other_is)
one_event P (Left n) e f (first, others, at) (other_first, other_others, other_at) =
    let same : Some (Correspondence e (first ∷ others)) ≡ Some (Correspondence f (other_first ∷ other_others)) = sym at ∙ other_at in cc

-- the question of the subject at a place, and its verdict
pub record AnswerAt (P : Protocol) (Q : Protocol) (budget : ℕ) (questions : List Query) (answers : List Verdict) (k : ℕ) (subject : Subject) : Type 0 where
  pub query : Query
  pub asked_at : slice_get questions k ≡ Some query
  pub asks : IsQuestion P subject query
  pub answer : Verdict
  pub answered_at : slice_get answers k ≡ Some answer
  pub is : IsAnswer Q query budget answer

answer_at : (P Q : Protocol) (budget : ℕ) (subjects : List Subject) (questions : List Query) (answers : List Verdict) (k : ℕ) (subject : Subject) → AreQuestions P subjects questions → AnswerQueries Q budget questions answers → slice_get subjects k ≡ Some subject
    → AnswerAt P Q budget questions answers k subject
answer_at P Q budget [] questions answers k subject are told at = cc
answer_at P Q budget (s ∷ subjects) [] answers k subject are told at = absurd are
answer_at P Q budget (s ∷ subjects) (q ∷ questions) [] k subject are told at = absurd told
answer_at P Q budget (s ∷ subjects) (q ∷ questions) (a ∷ answers) zero subject are told at =
    let same : s ≡ subject = cc in
    record { query = q; asked_at = refl; asks = subst (λ t. IsQuestion P t q) same are.0; answer = a; answered_at = refl; is = told.0 }
answer_at P Q budget (s ∷ subjects) (q ∷ questions) (a ∷ answers) (suc k) subject are told at =
    let found = answer_at P Q budget subjects questions answers k subject are.1 told.1 at in
    record { query = found.query; asked_at = found.asked_at; asks = found.asks; answer = found.answer; answered_at = found.answered_at; is = found.is }

-- the verdicts of a protocol that asks
pub answered : (P Q : Protocol) (budget : ℕ) (subjects : List Subject) (answers : List Verdict) → IsAsking P subjects Q → AnswerQueries Q budget Q.queries answers → AreAnswered P budget subjects answers
answered P Q budget subjects answers asks told = record {
  queries = asks.queries;
  questions = asks.questions;
  are = subst (λ (R : Protocol). AnswerQueries R budget R.queries answers) asks.is told;
}

-- as many verdicts as queries
answer_count : (P : Protocol) (budget : ℕ) (questions : List Query) (answers : List Verdict) → AnswerQueries P budget questions answers → length answers ≡ length questions
answer_count P budget [] [] told = refl
answer_count P budget [] (a ∷ answers) told = absurd told
answer_count P budget (q ∷ questions) [] told = absurd told
answer_count P budget (q ∷ questions) (a ∷ answers) told = ap (λ n. suc n) (answer_count P budget questions answers told.1)

pub as_many : (P : Protocol) (budget : ℕ) (subjects : List Subject) (answers : List Verdict) → AreAnswered P budget subjects answers → length answers ≡ length subjects
as_many P budget subjects answers h = answer_count (asking P h.queries) budget h.queries answers h.are ∙ question_count P subjects h.queries h.questions

-- what is told to be proved is the verdict
pub proved_verdict : (P : Protocol) (q : Query) (budget : ℕ) (certificate : Certificate) (v : defined.Verdict) → Tells P q (Proved certificate) v → IsVerdict P q budget v → IsVerdict P q budget (defined.Proved certificate)
proved_verdict P q budget certificate (defined.Proved c) told is = subst (λ x. IsVerdict P q budget (defined.Proved x)) (sym told) is
proved_verdict P q budget certificate (defined.Budget log due) told is = absurd told
proved_verdict P q budget certificate (defined.SizePair log i j) told is = absurd told
proved_verdict P q budget certificate (defined.SizePoint point) told is = absurd told
proved_verdict P q budget certificate (defined.Unmet log n) told is = absurd told

pub record HasCertificate (answer : Verdict) : Type 0 where
  pub certificate : Certificate
  pub is : answer ≡ Proved certificate

pub its_certificate : (answer : Verdict) → is_proved answer ≡ true → HasCertificate answer
its_certificate (Proved certificate) proved = record { certificate = certificate; is = refl }
its_certificate (Budget log due) proved = cc
its_certificate (SizePair log i j) proved = cc
its_certificate (SizePoint point) proved = cc
its_certificate (Unmet log n) proved = cc
its_certificate (Attack steps) proved = cc

-- proved queries hold
abbrev pub ProvedHold : Type 0
ProvedHold = (P : Protocol) (q : Query) (budget : ℕ) (cert : Certificate) → IsProper P q → IsVerdict P q budget (defined.Proved cert) → Holds P q

module _ (P : Protocol) (budget : ℕ) (limits : IsWithinLimits P) (rules : HasProperRules P) (scoped : IsWellScoped P) (proper : HasProperQueries P) (hold : ProvedHold) where
  -- what is told of the subject at a place
  told_at : (questions : List Query) (answers : List Verdict) (k : ℕ) (subject : Subject) (here : AnswerAt P (asking P questions) budget questions answers k subject) → IsTold P budget here.asks.event here.answer
  told_at questions answers k subject here = record {
    questions = questions;
    asked = contains_at questions k (never here.asks.event) (here.asked_at ∙ ap Some here.asks.is);
    is = subst (λ q. IsAnswer (asking P questions) q budget here.answer) here.asks.is here.is;
  }

  pub never_at : (questions : List Query) (answers : List Verdict) (k : ℕ) (subject : Subject) (here : AnswerAt P (asking P questions) budget questions answers k subject) → is_proved here.answer ≡ true → IsNever P budget subject
  never_at questions answers k subject here proved =
      let c = its_certificate here.answer proved in
      let told : IsTold P budget here.asks.event (Proved c.certificate) = subst (IsTold P budget here.asks.event) c.is (told_at questions answers k subject here) in
      let own : IsProper (asking P questions) (never here.asks.event) = record {
        rules = record { proper = rules.proper; uniform = rules.uniform };
        patterns = linear_patterns P scoped;
        query = question_leaves P limits scoped proper subject (never here.asks.event) (subst (IsQuestion P subject) here.asks.is here.asks);
      } in
      let answer : IsAnswer (asking P questions) (never here.asks.event) budget (Proved c.certificate) = subst (λ a. IsAnswer (asking P questions) (never here.asks.event) budget a) c.is (subst (λ q. IsAnswer (asking P questions) q budget here.answer) here.asks.is here.is) in
      record {
        event = here.asks.event;
        about = here.asks.about;
        never = holds_of_itself P questions (never here.asks.event) (hold (asking P questions) (never here.asks.event) budget c.certificate own (proved_verdict (asking P questions) (never here.asks.event) budget c.certificate answer.verdict answer.tells answer.is));
        certificate = c.certificate;
        proved = told;
      }

  -- what is noted of subjects by the verdicts of their questions
  pub told_of : (subjects : List Subject) (answers : List Verdict) (old new : Impossible) → AreAnswered P budget subjects answers → AreNoted (length subjects) subjects answers old new → AreTold P budget subjects old new
  told_of subjects answers old new h listed = record {
    kept = λ subject has. (listed subject).1 (inl has);
    never = λ subject has. elim ((listed subject).0 has) as (λ _. IsListed old subject ⊎ IsNever P budget subject) [
      | inl before ↦ inl before
      | inr p ↦ inr (proved_before subject p)
    ];
    others = other_told;
  }
    where
      at_place : (k : ℕ) (subject : Subject) → slice_get subjects k ≡ Some subject → AnswerAt P (asking P h.queries) budget h.queries answers k subject
      at_place k subject at = answer_at P (asking P h.queries) budget subjects h.queries answers k subject h.questions h.are at

      proved_before : (subject : Subject) → IsProvedBefore (length subjects) subjects answers subject → IsNever P budget subject
      proved_before subject p =
          let here = at_place p.at subject p.stands in
          let both : Some here.answer ≡ Some p.answer = sym here.answered_at ∙ p.answered in
          let same : here.answer ≡ p.answer = cc in
          never_at h.queries answers p.at subject here (ap is_proved same ∙ p.proved)

      by_answer : (subject : Subject) (event : EventTerm) (k : ℕ) (within : k < length subjects) (stands : slice_get subjects k ≡ Some subject) → IsAbout P subject event → (here : AnswerAt P (asking P h.queries) budget h.queries answers k subject) (b : Bool) → is_proved here.answer ≡ b
          → IsListed new subject ⊎ IsUnproved P budget event
      by_answer subject event k within stands about here true proved = inl ((listed subject).1 (inr (record { at = k; before = within; stands = stands; answer = here.answer; answered = here.answered_at; proved = proved })))
      by_answer subject event k within stands about here false unproved =
          let told : IsTold P budget event here.answer = subst (λ e. IsTold P budget e here.answer) (one_event P subject here.asks.event event here.asks.about about) (told_at h.queries answers k subject here) in
          inr (record { answer = here.answer; told = told; unproved = unproved })

      other_told : (subject : Subject) (event : EventTerm) → Contains subjects subject → IsAbout P subject event → IsListed new subject ⊎ IsUnproved P budget event
      other_told subject event (k, within, at) about =
          let stands : slice_get subjects k ≡ Some subject = slice_get_read subjects (length subjects) k subject refl within (sym at) in
          let here = at_place k subject stands in
          by_answer subject event k within stands about here (is_proved here.answer) refl

-- parts of the subjects, one after another
contains_up_to : (xs : List Subject) (from to : ℕ) (x : Subject) → from ≤ to → Contains (take to xs) x → Contains (take from xs) x ⊎ Contains (take (to - from) (drop from xs)) x
contains_up_to xs from to x ordered has =
    let front : take from (take to xs) ≡ take from xs = take-take from to xs ordered in
    let rest : take (to - from) (drop from xs) ≡ drop from (take to xs) = between_is xs from to in
    let whole : take to xs ≡ take from xs ++ take (to - from) (drop from xs) = sym (take-append-drop from (take to xs)) ∙ (ap (λ ys. ys ++ drop from (take to xs)) front ∙ ap (λ ys. take from xs ++ ys) (sym rest)) in
    Contains-append_cases (take from xs) (take (to - from) (drop from xs)) x (subst (λ ys. Contains ys x) whole has)

contains_part : (xs : List Subject) (from to : ℕ) (x : Subject) → Contains (take (to - from) (drop from xs)) x → Contains xs x
contains_part xs from to x has =
    let rest : take (to - from) (drop from xs) ++ drop (to - from) (drop from xs) ≡ drop from xs = take-append-drop (to - from) (drop from xs) in
    let in_rest : Contains (drop from xs) x = subst (λ ys. Contains ys x) rest (Contains-append_left (take (to - from) (drop from xs)) (drop (to - from) (drop from xs)) x has) in
    subst (λ ys. Contains ys x) (take-append-drop from xs) (Contains-append_right (take from xs) (drop from xs) x in_rest)

pub part_there : (P : Protocol) (subjects : List Subject) (from to : ℕ) → AreSubjects P subjects → AreSubjects P (take (to - from) (drop from subjects))
part_there P subjects from to there = λ subject has. there subject (contains_part subjects from to subject has)

pub none_found : (P : Protocol) (budget : ℕ) (subjects : List Subject) (found : Impossible) → found.events.items ≡ [] → found.queries.items ≡ [] → AreFound P budget (take 0 subjects) found
none_found P budget subjects found events queries = record {
  never = λ subject has. absurd (no_subject subject has);
  others = λ subject event has about. absurd (nothing subject has);
}
  where
    no_number : (numbers : List ℕ) (n : ℕ) → numbers ≡ [] → Contains numbers n → ⊥
    no_number numbers n is (k, within, at) = let none : length numbers ≡ 0 = ap length is in omega (arith, none, within)

    no_subject : (subject : Subject) → IsListed found subject → ⊥
    no_subject (Event n) has = no_number found.events.items n events has
    no_subject (Left n) has = no_number found.queries.items n queries has

    nothing : (subject : Subject) → Contains (take 0 subjects) subject → ⊥
    nothing subject (k, within, at) = omega (arith, within)

pub part_found : (P : Protocol) (budget : ℕ) (subjects : List Subject) (from to : ℕ) (old new : Impossible) → from ≤ to → AreFound P budget (take from subjects) old → AreTold P budget (take (to - from) (drop from subjects)) old new → AreFound P budget (take to subjects) new
part_found P budget subjects from to old new ordered so_far told = record {
  never = λ subject has. elim (told.never subject has) as (λ _. IsNever P budget subject) [
    | inl before ↦ so_far.never subject before
    | inr is ↦ is
  ];
  others = λ subject event has about. elim (contains_up_to subjects from to subject ordered has) as (λ _. IsListed new subject ⊎ IsUnproved P budget event) [
    | inl before ↦ elim (so_far.others subject event before about) as (λ _. IsListed new subject ⊎ IsUnproved P budget event) [
      | inl listed ↦ inl (told.kept subject listed)
      | inr unproved ↦ inr unproved
    ]
    | inr here ↦ told.others subject event here about
  ];
}

-- each subject is among those up to the last
pub contains_subject : (P : Protocol) (subjects : List Subject) (subject : Subject) (event : EventTerm) → AreUpTo P (length P.events) (length P.queries) subjects → IsAbout P subject event → Contains subjects subject
contains_subject P subjects (Event n) event all (declared, at, is) = let there = numbered-there P.events n declared at in all.events_listed n there.0 there.1
contains_subject P subjects (Left n) event all about =
    let there = numbered-there P.queries n (Correspondence event (about.0 ∷ about.1)) about.2 in all.lefts_listed n event there.1 about
