-- Subjects in a list: the events first, and then the left sides of queries.
use Rattle.std.proofs.Common.{◌≡◌, ◌∙◌, inl, inr, ℕ, zero, suc, ◌+◌, ◌<◌, ◌≤◌, true, false, not, eqb, Some, option_map, List, [], ◌∷◌, ◌++◌, length, Contains, refl, ap, sym, subst, arith}
use Rattle.std.proofs.lemmas.Bool.{cases_lt, ne_eqb}
use Rattle.std.proofs.lemmas.List.Elements.{Contains-push, Contains-push_cases, Contains-append_left}
use Rattle.spec_calculus.specs.Syntax.{Protocol, Query, Secret, SecretNew, Correspondence, EventTerm}
use Rattle.spec_calculus.specs.Points.{numbered}
use Rattle.spec_calculus.proofs.Points.{numbered-there, there-numbered}
use Rattle.pi_tree.specs.declared.syntax.Term.{Term}
use Rattle.pi_tree.specs.declared.syntax.Atom.{Atom}
use Rattle.pi_tree.specs.declared.protocols.Query as written
use Rattle.pi_tree.specs.declared.protocols.Query.TheVariants.{Corr}
use Rattle.pi_tree.specs.declared.protocols.Query.TheVariants as made
use Rattle.pi_tree.specs.Terms.{term_of}
use Rattle.pi_tree.specs.Events.{event_of}
use Rattle.pi_tree.specs.Queries.{query_of}
use Rattle.protocol_text.specs.declared.questions.Subject.{Subject}
use Rattle.protocol_text.specs.declared.questions.Subject.TheVariants.{Event, Left}
use Rattle.protocol_text.specs.Questions.{any_event, never, IsAbout, IsSubject}
use Rattle.protocol_text.specs.Asking.{has_alternatives, AreSubjects, AreUpTo, IsQuestion}

contains_none : (x : Subject) → Contains [] x → ⊥
contains_none x (k, within, at) = omega arith

-- none yet
pub up_to_none : (P : Protocol) → AreUpTo P 0 0 []
up_to_none P = record {
  there = λ subject has. absurd (contains_none subject has);
  events_listed = λ number some within. absurd (omega arith);
  lefts_listed = none_left;
}
  where
    none_left : (number : ℕ) (event : EventTerm) → number ≤ 0 → IsAbout P (Left number) event → Contains [] (Left number)
    none_left zero event within about = let nothing = about.2 in cc
    none_left (suc number) event within about = absurd (omega arith)

-- a subject more, which is there
there_more : (P : Protocol) (all : List Subject) (subject : Subject) → AreSubjects P all → IsSubject P subject → AreSubjects P (all ++ subject ∷ [])
there_more P all subject there is other has = elim (Contains-push_cases all subject other has) as (λ _. IsSubject P other) [
  | inl before ↦ there other before
  | inr same ↦ subst (IsSubject P) same is
]

-- no subjects are there, and one more event is
pub none_there : (P : Protocol) → AreSubjects P []
none_there P subject has = absurd (contains_none subject has)

pub event_more : (P : Protocol) (all more : List Subject) (index : ℕ) → more ≡ all ++ Event (index + 1) ∷ [] → index < length P.events → AreSubjects P all → AreSubjects P more
event_more P all more index is within there =
    let found = there-numbered P.events (index + 1) (omega arith) (omega (arith, within)) in
    subst (AreSubjects P) (sym is) (there_more P all (Event (index + 1)) there (record { event = any_event (index + 1) found.0.arity; about = (found.0, found.1, refl) }))

-- one more event
pub one_more_event : (P : Protocol) (all more : List Subject) (index : ℕ) → more ≡ all ++ Event (index + 1) ∷ [] → index < length P.events → AreUpTo P index 0 all → AreUpTo P (index + 1) 0 more
one_more_event P all more index is within so_far =
    subst (AreUpTo P (index + 1) 0) (sym is) (record {
      there = event_more P all (all ++ Event (index + 1) ∷ []) index refl within so_far.there;
      events_listed = up_to_next;
      lefts_listed = λ number event least about. Contains-append_left all (Event (index + 1) ∷ []) (Left number) (so_far.lefts_listed number event least about);
    })
  where
    up_to_next : (number : ℕ) → 0 < number → number ≤ index + 1 → Contains (all ++ Event (index + 1) ∷ []) (Event number)
    up_to_next number some least = elim (cases_lt number (index + 1)) as (λ _. Contains (all ++ Event (index + 1) ∷ []) (Event number)) [
      | inl before ↦ Contains-append_left all (Event (index + 1) ∷ []) (Event number) (so_far.events_listed number some (omega (arith, before)))
      | inr past ↦ (let same : index + 1 ≡ number = omega (arith, past, least) in subst (λ n. Contains (all ++ Event (index + 1) ∷ []) (Event n)) same (Contains-push all (Event (index + 1))))
    ]

-- a correspondence with alternatives is a subject
left_there : (P : Protocol) (number : ℕ) (q : Query) → numbered P.queries number ≡ Some q → has_alternatives q ≡ true → IsSubject P (Left number)
left_there P number (Secret message phase) at has = cc
left_there P number (SecretNew point phase) at has = cc
left_there P number (Correspondence left []) at has = cc
left_there P number (Correspondence left (first ∷ others)) at has = record { event = left; about = (first, others, at) }

-- and no other query is
left_absent : (P : Protocol) (number : ℕ) (q : Query) (event : EventTerm) → numbered P.queries number ≡ Some q → has_alternatives q ≡ false → IsAbout P (Left number) event → ⊥
left_absent P number q event at has about =
    let same : Some q ≡ Some (Correspondence event (about.0 ∷ about.1)) = sym at ∙ about.2 in
    let is : q ≡ Correspondence event (about.0 ∷ about.1) = cc in
    let has_some : true ≡ false = sym (ap has_alternatives is) ∙ has in cc

-- one more left side
pub one_more_left : (P : Protocol) (all more : List Subject) (events index : ℕ) (q : Query) → more ≡ all ++ Left (index + 1) ∷ [] → numbered P.queries (index + 1) ≡ Some q → has_alternatives q ≡ true → AreUpTo P events index all → AreUpTo P events (index + 1) more
one_more_left P all more events index q is at has so_far = subst (AreUpTo P events (index + 1)) (sym is) (record {
  there = there_more P all (Left (index + 1)) so_far.there (left_there P (index + 1) q at has);
  events_listed = λ number some least. Contains-append_left all (Left (index + 1) ∷ []) (Event number) (so_far.events_listed number some least);
  lefts_listed = up_to_next;
})
  where
    up_to_next : (number : ℕ) (event : EventTerm) → number ≤ index + 1 → IsAbout P (Left number) event → Contains (all ++ Left (index + 1) ∷ []) (Left number)
    up_to_next number event least about = elim (cases_lt number (index + 1)) as (λ _. Contains (all ++ Left (index + 1) ∷ []) (Left number)) [
      | inl before ↦ Contains-append_left all (Left (index + 1) ∷ []) (Left number) (so_far.lefts_listed number event (omega (arith, before)) about)
      | inr past ↦ (let same : index + 1 ≡ number = omega (arith, past, least) in subst (λ n. Contains (all ++ Left (index + 1) ∷ []) (Left n)) same (Contains-push all (Left (index + 1))))
    ]

-- a query that is none
pub no_more_left : (P : Protocol) (all : List Subject) (events index : ℕ) (q : Query) → numbered P.queries (index + 1) ≡ Some q → has_alternatives q ≡ false → AreUpTo P events index all → AreUpTo P events (index + 1) all
no_more_left P all events index q at has so_far = record {
  there = so_far.there;
  events_listed = so_far.events_listed;
  lefts_listed = up_to_next;
}
  where
    up_to_next : (number : ℕ) (event : EventTerm) → number ≤ index + 1 → IsAbout P (Left number) event → Contains all (Left number)
    up_to_next number event least about = elim (cases_lt number (index + 1)) as (λ _. Contains all (Left number)) [
      | inl before ↦ so_far.lefts_listed number event (omega (arith, before)) about
      | inr past ↦ (let same : number ≡ index + 1 = omega (arith, past, least) in
          absurd (left_absent P (index + 1) q event at has (subst (λ n. IsAbout P (Left n) event) same about)))
    ]

-- what the accessors of a protocol tell of a subject
pub event_there : (P : Protocol) (subject : Subject) (n : ℕ) → subject ≡ Event n → IsSubject P subject → (0 < n) × (n ≤ length P.events)
event_there P subject n is h =
    let (declared, at, event) = subst (λ s. IsAbout P s h.event) is h.about in
    numbered-there P.events n declared at

pub query_there : (P : Protocol) (subject : Subject) (n : ℕ) → subject ≡ Left n → IsSubject P subject → (0 < n) × (n ≤ length P.queries)
query_there P subject n is h =
    let (first, others, at) = subst (λ s. IsAbout P s h.event) is h.about in
    numbered-there P.queries n (Correspondence h.event (first ∷ others)) at

pub event_question : (P : Protocol) (subject : Subject) (n arity : ℕ) (q : Query) → subject ≡ Event n → IsSubject P subject → option_map (λ d. d.arity) (numbered P.events n) ≡ Some arity → q ≡ never (any_event n arity) → IsQuestion P subject q
event_question P subject n arity q is h arity_is asked =
    let (declared, at, event) = subst (λ s. IsAbout P s h.event) is h.about in
    let told : Some declared.arity ≡ Some arity = sym (ap (option_map (λ d. d.arity)) at) ∙ arity_is in
    let same : declared.arity ≡ arity = cc in
    record { event = h.event; about = h.about; is = asked ∙ ap never (ap (any_event n) (sym same) ∙ sym event) }

pub left_question : (P : Protocol) (subject : Subject) (n : ℕ) (query : written.Query) (q : Query) (left : Atom) (alternatives : List (List EventTerm)) → subject ≡ Left n → IsSubject P subject → numbered P.queries n ≡ Some (query_of query) → query ≡ Corr left alternatives
    → (copied : Atom) → copied ≡ left → q ≡ never (event_of copied) → IsQuestion P subject q
left_question P subject n query q left alternatives is h at corr copied same asked =
    let (first, others, stands) = subst (λ s. IsAbout P s h.event) is h.about in
    let both : Some (Correspondence (event_of left) alternatives) ≡ Some (Correspondence h.event (first ∷ others)) = ap (λ x. Some (query_of x)) (sym corr) ∙ (sym at ∙ stands) in
    let event : event_of left ≡ h.event = cc in
    record { event = h.event; about = h.about; is = asked ∙ ap never (ap event_of same ∙ event) }

pub no_secret : (P : Protocol) (subject : Subject) (n : ℕ) (query : written.Query) (message : Term) (phase : ℕ) → subject ≡ Left n → IsSubject P subject → numbered P.queries n ≡ Some (query_of query) → query ≡ made.Secret message phase → ⊥
no_secret P subject n query message phase is h at secret =
    let (first, others, stands) = subst (λ s. IsAbout P s h.event) is h.about in
    let both : Some (Secret (term_of message) phase) ≡ Some (Correspondence h.event (first ∷ others)) = ap (λ x. Some (query_of x)) (sym secret) ∙ (sym at ∙ stands) in cc

pub no_secret_name : (P : Protocol) (subject : Subject) (n : ℕ) (query : written.Query) (point phase : ℕ) → subject ≡ Left n → IsSubject P subject → numbered P.queries n ≡ Some (query_of query) → query ≡ made.SecretNew point phase → ⊥
no_secret_name P subject n query point phase is h at secret =
    let (first, others, stands) = subst (λ s. IsAbout P s h.event) is h.about in
    let both : Some (SecretNew point phase) ≡ Some (Correspondence h.event (first ∷ others)) = ap (λ x. Some (query_of x)) (sym secret) ∙ (sym at ∙ stands) in cc

-- a correspondence has alternatives where there is one
pub some_alternatives : (left : EventTerm) (alternatives : List (List EventTerm)) → not (eqb (length alternatives) 0) ≡ has_alternatives (Correspondence left alternatives)
some_alternatives left [] = refl
some_alternatives left (first ∷ others) = ap not (ne_eqb (suc (length others)) 0 (λ e. omega (arith, e)))
