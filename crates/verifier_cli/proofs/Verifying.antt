-- From what was read to what is said of the outcome, and the headline.
use Rattle.std.proofs.Common.{◌≡◌, ◌≢◌, arith, ℕ, zero, suc, ◌⊎◌, List, [], ◌∷◌, false, Option, None, Some, IfSome, slice_get, inl, inr, refl, sym, ap, subst, ◌∙◌}
use Rattle.std.specs.Prelude.{Contains}
use Rattle.spec_calculus.specs.Syntax as syntax
use Rattle.spec_calculus.specs.Runs.{Step}
use Rattle.spec_calculus.specs.Secrecy.{Holds}
use Rattle.spec_calculus.proofs.Items.{if_some-of}
use Rattle.spec_protocol_scope.specs.Spells as spells
use Rattle.spec_protocol_scope.specs.Spells.{Spells, Refuses}
use Rattle.spec_certificates.specs.Shown.{IsProper}
use Rattle.spec_certificates.specs.Certificate.{Certificate}
use Rattle.spec_saturation.specs.Key.{Entry}
use Rattle.spec_verdicts.specs.Verdict as defined
use Rattle.spec_verdicts.specs.Verdict.{IsVerdict}
use Rattle.spec_attack_runs.specs.Attack.{Reconstructed, Violates}
use Rattle.protocol_loading.specs.Outside.{Outside}
use Rattle.query_verify.specs.declared.answers.Verdict.{Verdict}
use Rattle.query_verify.specs.declared.answers.Verdict.TheVariants.{Proved, Budget, SizePair, SizePoint, Unmet, Attack}
use Rattle.query_verify.specs.Told.{Tells, IsAnswer, AnswerQueries}
use Rattle.call_outcomes.specs.Outcome.{Refusal, Outcome, Verified, Refused, ReadFault, Memory}
use Rattle.call_outcomes.specs.Text.{prints_clauses}
use Rattle.call_outcomes.specs.Decided.{IsDecidedBy}
use Rattle.verifier_cli.specs.Command.{IsRefusalOf, Verifies, NoneViolated, IsAttackedBy, AttacksViolate, HasAttack, IsOutcomeOf, refusal_at}
use Rattle.verifier_cli.specs.Unread.{IsUnread}

-- the laws that the headline rests on: queries of protocols that were read are proper, and what is proved of those holds
pub record Soundness : Type 0 where
  pub proper : (bytes : List ℕ) (P : syntax.Protocol) (q : syntax.Query) → Spells bytes P → Contains P.queries q → IsProper P q
  pub hold : (P : syntax.Protocol) (q : syntax.Query) (budget : ℕ) (cert : Certificate) → IsProper P q → IsVerdict P q budget (defined.Proved cert) → Holds P q

-- the laws of the texts of protocols
pub record Laws : Type 0 where
  pub one_protocol : (bytes : List ℕ) (P Q : syntax.Protocol) → Spells bytes P → Spells bytes Q → P ≡ Q
  pub one_refusal : (bytes : List ℕ) (r s : spells.Refusal) (i j : ℕ) → Refuses bytes r i → Refuses bytes s j → (r ≡ s) × (i ≡ j)
  pub never_both : (bytes : List ℕ) (P : syntax.Protocol) (r : spells.Refusal) (i : ℕ) → Spells bytes P → Refuses bytes r i → ⊥

-- an answer that is a certificate is the verdict that the query is proved
pub verdict_where_proved : (P : syntax.Protocol) (q : syntax.Query) (budget : ℕ) (cert : Certificate) → IsAnswer P q budget (Proved cert) → IsVerdict P q budget (defined.Proved cert)
verdict_where_proved P q budget cert answer = by_verdict answer.verdict answer.tells answer.is
  where
    by_verdict : (v : defined.Verdict) → Tells P q (Proved cert) v → IsVerdict P q budget v → IsVerdict P q budget (defined.Proved cert)
    by_verdict (defined.Proved c) same is = subst (λ (x : Certificate). IsVerdict P q budget (defined.Proved x)) (sym same) is
    by_verdict (defined.Budget log due) same is = absurd same
    by_verdict (defined.SizePair log i j) same is = absurd same
    by_verdict (defined.SizePoint point) same is = absurd same
    by_verdict (defined.Unmet log number) same is = absurd same

-- each query at whose place there is a certificate holds
hold_where_proved : (P : syntax.Protocol) → (budget : ℕ) (qs : List syntax.Query) (answers : List Verdict)
    → ((q : syntax.Query) (cert : Certificate) → Contains qs q → IsVerdict P q budget (defined.Proved cert) → Holds P q)
    → AnswerQueries P budget qs answers → (k : ℕ) (cert : Certificate) → slice_get answers k ≡ Some (Proved cert) → IfSome (slice_get qs k) (λ q. Holds P q)
hold_where_proved P budget [] answers sound are k cert e = tt
hold_where_proved P budget (q ∷ qs) [] sound are k cert e = absurd are
hold_where_proved P budget (q ∷ qs) (answer ∷ answers) sound are zero cert e =
    let same : answer ≡ Proved cert = cc in
    sound q cert (zero, omega arith, refl) (verdict_where_proved P q budget cert (subst (IsAnswer P q budget) same are.0))
hold_where_proved P budget (q ∷ qs) (answer ∷ answers) sound are (suc k) cert e =
    hold_where_proved P budget qs answers (λ x c has is. sound x c (suc has.0, omega (arith, has.1), has.2) is) are.1 k cert e

-- the verdicts of a protocol violate nothing
pub none_violated : Soundness → Laws → (bytes : List ℕ) (Q : syntax.Protocol) (budget : ℕ) (answers : List Verdict) → Spells bytes Q → AnswerQueries Q budget Q.queries answers → NoneViolated bytes (Verified answers)
none_violated sound laws bytes Q budget answers spelled are P spells k proved =
    let F : syntax.Protocol → Type 0 = λ X. IfSome (slice_get X.queries k) (λ q. Holds X q) in
    subst F (sym (laws.one_protocol bytes P Q spells spelled))
    (hold_where_proved Q budget Q.queries answers (λ q cert has is. sound.hold Q q budget cert (sound.proper bytes Q q spelled has) is) are k proved.0 proved.1)

-- at the place of a query stands its answer
answer_at : (P : syntax.Protocol) (budget : ℕ) (qs : List syntax.Query) (answers : List Verdict) → AnswerQueries P budget qs answers → (k : ℕ) (q : syntax.Query) → slice_get qs k ≡ Some q
    → (answer : Verdict) × (slice_get answers k ≡ Some answer) × IsAnswer P q budget answer
answer_at P budget [] answers are k q e = absurd (let never : None ≡ Some q = e in cc)
answer_at P budget (x ∷ qs) [] are k q e = absurd are
answer_at P budget (x ∷ qs) (answer ∷ answers) are zero q e =
    let same : x ≡ q = cc in
    (answer, refl, subst (λ (y : syntax.Query). IsAnswer P y budget answer) same are.0)
answer_at P budget (x ∷ qs) (answer ∷ answers) are (suc k) q e = answer_at P budget qs answers are.1 k q e

-- an answer that is an attack is the one that the verdict tells
attack_where_told : (P : syntax.Protocol) (q : syntax.Query) (budget : ℕ) (steps : List Step) → IsAnswer P q budget (Attack steps) → HasAttack P budget q steps
attack_where_told P q budget steps answer = by_verdict answer.verdict answer.tells answer.is
  where
    by_verdict : (v : defined.Verdict) → Tells P q (Attack steps) v → IsVerdict P q budget v → HasAttack P budget q steps
    by_verdict (defined.Proved c) told is = absurd told
    by_verdict (defined.Budget log due) told is = absurd told
    by_verdict (defined.SizePair log i j) told is = absurd told
    by_verdict (defined.SizePoint point) told is = absurd told
    by_verdict (defined.Unmet log number) told is = record { log = log; number = number; unmet = is; attack = told }

-- the laws of attacks: a query has one verdict, and an entry tells one attack or none
pub record OneAttack : Type 0 where
  pub one_verdict : (P : syntax.Protocol) (q : syntax.Query) (budget : ℕ) (a b : defined.Verdict) → IsVerdict P q budget a → IsVerdict P q budget b → a ≡ b
  pub one_answer : (P : syntax.Protocol) (q : syntax.Query) (log : List Entry) (number : ℕ) (a b : Option (List Step)) → Reconstructed P q log number a → Reconstructed P q log number b → a ≡ b

-- and where the verdict tells an attack, the answer is that attack
told_where_attack : OneAttack → (P : syntax.Protocol) (q : syntax.Query) (budget : ℕ) (answer : Verdict) (steps : List Step) → IsAnswer P q budget answer → HasAttack P budget q steps → answer ≡ Attack steps
told_where_attack laws P q budget answer steps is has =
    by_answer answer (subst (λ (v : defined.Verdict). Tells P q answer v) (laws.one_verdict P q budget is.verdict (defined.Unmet has.log has.number) is.is has.unmet) is.tells)
  where
    by_answer : (a : Verdict) → Tells P q a (defined.Unmet has.log has.number) → a ≡ Attack steps
    by_answer (Proved certificate) told = absurd told
    by_answer (Budget entries due) told = absurd told
    by_answer (SizePair entries i j) told = absurd told
    by_answer (SizePoint point) told = absurd told
    by_answer (Unmet entries number) told = absurd (told.2 steps has.attack)
    by_answer (Attack others) told =
        let same : Some others ≡ Some steps = laws.one_answer P q has.log has.number (Some others) (Some steps) told has.attack in
        let steps_same : others ≡ steps = cc in
        ap Attack steps_same

-- the verdicts of a protocol tell the attacks on its queries, and no others
answers_tell : OneAttack → (P : syntax.Protocol) (budget : ℕ) (answers : List Verdict) → AnswerQueries P budget P.queries answers → (k : ℕ) (q : syntax.Query) → slice_get P.queries k ≡ Some q → (steps : List Step)
    → (slice_get answers k ≡ Some (Attack steps) → HasAttack P budget q steps) × (HasAttack P budget q steps → slice_get answers k ≡ Some (Attack steps))
answers_tell laws P budget answers are k q e steps =
    let found = answer_at P budget P.queries answers are k q e in
    let answer = found.0 in
    let at : slice_get answers k ≡ Some answer = found.1 in
    let is : IsAnswer P q budget answer = found.2 in (
      λ attacked.
          let both : Some answer ≡ Some (Attack steps) = sym at ∙ attacked in
          let same : answer ≡ Attack steps = cc in
          attack_where_told P q budget steps (subst (IsAnswer P q budget) same is),
      λ has. at ∙ ap (λ (v : Verdict). Some v) (told_where_attack laws P q budget answer steps is has),
    )

-- what they tell as an attack violates its query
answers_violate : (P : syntax.Protocol) (budget : ℕ) (answers : List Verdict) → AnswerQueries P budget P.queries answers → (k : ℕ) (steps : List Step) → slice_get answers k ≡ Some (Attack steps)
    → IfSome (slice_get P.queries k) (λ q. Violates P q steps)
answers_violate P budget answers are k steps attacked = if_some-of (λ q. Violates P q steps) (slice_get P.queries k) (λ q e.
    let found = answer_at P budget P.queries answers are k q e in
    let both : Some found.0 ≡ Some (Attack steps) = sym found.1 ∙ attacked in
    let same : found.0 ≡ Attack steps = cc in
    let has : HasAttack P budget q steps = attack_where_told P q budget steps (subst (IsAnswer P q budget) same found.2) in
    has.attack.violates)

pub attacks_violate : Laws → (bytes : List ℕ) (Q : syntax.Protocol) (budget : ℕ) (answers : List Verdict) → Spells bytes Q → AnswerQueries Q budget Q.queries answers → AttacksViolate bytes (Verified answers)
attacks_violate laws bytes Q budget answers spelled are P spells k steps attacked =
    let F : syntax.Protocol → Type 0 = λ X. IfSome (slice_get X.queries k) (λ q. Violates X q steps) in
    subst F (sym (laws.one_protocol bytes P Q spells spelled)) (answers_violate Q budget answers are k steps attacked)

-- what is said of a protocol's verdicts
decided_outcome : (bytes : List ℕ) (P : syntax.Protocol) (budget : ℕ) (outcome : Outcome) → Spells bytes P → IsDecidedBy P budget outcome → IsOutcomeOf bytes outcome
decided_outcome bytes P budget (Verified verdicts) spelled is = (P, spelled)
decided_outcome bytes P budget Memory spelled is = tt
decided_outcome bytes P budget _ spelled is = absurd is

decided_violates_none : Soundness → Laws → (bytes : List ℕ) (P : syntax.Protocol) (budget : ℕ) (outcome : Outcome) → Spells bytes P → IsDecidedBy P budget outcome → NoneViolated bytes outcome
decided_violates_none sound laws bytes P budget (Verified verdicts) spelled is = none_violated sound laws bytes P budget verdicts spelled is
decided_violates_none sound laws bytes P budget Memory spelled is = λ Q spells k proved. absurd proved
decided_violates_none sound laws bytes P budget _ spelled is = absurd is

decided_attacks_violate : Laws → (bytes : List ℕ) (P : syntax.Protocol) (budget : ℕ) (outcome : Outcome) → Spells bytes P → IsDecidedBy P budget outcome → AttacksViolate bytes outcome
decided_attacks_violate laws bytes P budget (Verified verdicts) spelled is = attacks_violate laws bytes P budget verdicts spelled is
decided_attacks_violate laws bytes P budget Memory spelled is = λ Q spells k steps attacked. absurd attacked
decided_attacks_violate laws bytes P budget _ spelled is = absurd is

decided_attacks_told : OneAttack → (P : syntax.Protocol) (budget : ℕ) (outcome : Outcome) → IsDecidedBy P budget outcome → (k : ℕ) (q : syntax.Query) → slice_get P.queries k ≡ Some q → (steps : List Step)
    → (IsAttackedBy outcome k steps → HasAttack P budget q steps) × (HasAttack P budget q steps → IsAttackedBy outcome k steps ⊎ (outcome ≡ Memory))
decided_attacks_told one P budget (Verified verdicts) is k q e steps = let told = answers_tell one P budget verdicts is k q e steps in (told.0, λ has. inl (told.1 has))
decided_attacks_told one P budget Memory is k q e steps = (λ attacked. absurd attacked, λ has. inr refl)
decided_attacks_told one P budget _ is k q e steps = absurd is

pub decided_verifies : Soundness → OneAttack → Laws → (bytes : List ℕ) (P : syntax.Protocol) (budget : ℕ) (outcome : Outcome) → IsDecidedBy P budget outcome → Spells bytes P → Verifies bytes budget outcome
decided_verifies sound one laws bytes P budget outcome is spelled = record {
  answers = decided_outcome bytes P budget outcome spelled is;
  accepts = λ Q spells. subst (λ (X : syntax.Protocol). IsDecidedBy X budget outcome) (laws.one_protocol bytes P Q spelled spells) is;
  refuses = λ why place refused. absurd (laws.never_both bytes P why place spelled refused);
  none_violated = decided_violates_none sound laws bytes P budget outcome spelled is;
  attacks_violate = decided_attacks_violate laws bytes P budget outcome spelled is;
  attacks_told = λ Q spells. decided_attacks_told one Q budget outcome (subst (λ (X : syntax.Protocol). IsDecidedBy X budget outcome) (laws.one_protocol bytes P Q spelled spells) is);
}

-- what the queries come to is no fault of reading
pub decided_read : (P : syntax.Protocol) (budget : ℕ) (outcome : Outcome) → IsDecidedBy P budget outcome → outcome ≢ ReadFault
decided_read P budget (Verified verdicts) is = λ e. cc
decided_read P budget Memory is = λ e. cc
decided_read P budget _ is = absurd is

-- of a refusal
pub same_refusal : (bytes : List ℕ) (r s : spells.Refusal) (i j : ℕ) → (r ≡ s) × (i ≡ j) → refusal_at bytes r i ≡ refusal_at bytes s j
same_refusal bytes r s i j (e, h) = ap (λ (why : spells.Refusal). refusal_at bytes why i) e ∙ ap (λ (place : ℕ). refusal_at bytes s place) h

pub refusal_verifies : Laws → (bytes : List ℕ) (budget : ℕ) (refusal : Refusal) → IsRefusalOf bytes refusal → Verifies bytes budget (Refused refusal)
refusal_verifies laws bytes budget refusal is = record {
  answers = is;
  accepts = λ P spells. absurd (laws.never_both bytes P is.why is.place spells is.refused);
  refuses = λ why place refused. inl (ap Refused (is.shown ∙ same_refusal bytes is.why why is.place place (laws.one_refusal bytes is.why why is.place place is.refused refused)));
  none_violated = λ P spells k proved. absurd proved;
  attacks_violate = λ P spells k steps attacked. absurd attacked;
  attacks_told = λ P spells. absurd (laws.never_both bytes P is.why is.place spells is.refused);
}

-- and of want of memory, which claims nothing
pub memory_verifies : (budget : ℕ) (bytes : List ℕ) → Verifies bytes budget Memory
memory_verifies budget bytes = record {
  answers = tt;
  accepts = λ P spells. tt;
  refuses = λ why place refused. inr refl;
  none_violated = λ P spells k proved. absurd proved;
  attacks_violate = λ P spells k steps attacked. absurd attacked;
  attacks_told = λ P spells k q e steps. (λ attacked. absurd attacked, λ has. inr refl);
}

-- a call without a protocol prints no clause
pub unread_words : (files : Outside) (file : List ℕ) (outcome : Outcome) → IsUnread files file outcome → prints_clauses outcome ≡ false
unread_words files file (Refused refusal) is = refl
unread_words files file Memory is = refl
unread_words files file ReadFault is = refl
unread_words files file _ (inl x) = absurd x.fact
unread_words files file _ (inr why) = absurd why.1
