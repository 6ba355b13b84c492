-- From a translation to what is said of the command `list`.
use Rattle.std.proofs.Common.{◌≢◌, ◌∙◌, ℕ, List, inl, inr, refl, ap, subst}
use Rattle.spec_calculus.specs.Syntax as syntax
use Rattle.spec_protocol_scope.specs.Spells.{Spells}
use Rattle.call_outcomes.specs.Outcome.{Refusal, Outcome, Listed, ListLarge, NoQuery, Refused, ReadFault, Memory}
use Rattle.verifier_cli.specs.Command.{IsRefusalOf}
use Rattle.verifier_cli.specs.Listing.{IsListOf, IsListOutcome, Lists}
use Rattle.verifier_cli.proofs.Verifying.{Laws, same_refusal}

-- of a refused file
pub refusal_lists : Laws → (bytes : List ℕ) (number : ℕ) (refusal : Refusal) → IsRefusalOf bytes refusal → Lists bytes number (Refused refusal)
refusal_lists laws bytes number refusal is = record {
  answers = is;
  accepts = λ P spells. absurd (laws.never_both bytes P is.why is.place spells is.refused);
  refuses = λ why place refused. inl (ap Refused (is.shown ∙ same_refusal bytes is.why why is.place place (laws.one_refusal bytes is.why why is.place place is.refused refused)));
}

-- and of want of memory
pub memory_lists : (number : ℕ) (bytes : List ℕ) → Lists bytes number Memory
memory_lists number bytes = record { answers = tt; accepts = λ P spells. tt; refuses = λ why place refused. inr refl }

-- what is listed of a protocol is no fault of reading
pub listed_read : (P : syntax.Protocol) (number : ℕ) (outcome : Outcome) → IsListOf P number outcome → outcome ≢ ReadFault
listed_read P number (Listed clauses) is = λ e. cc
listed_read P number (ListLarge point) is = λ e. cc
listed_read P number (NoQuery asked) is = λ e. cc
listed_read P number Memory is = λ e. cc
listed_read P number _ is = absurd is

-- and where a protocol was read
list_outcome : (bytes : List ℕ) (P : syntax.Protocol) (number : ℕ) (outcome : Outcome) → Spells bytes P → IsListOf P number outcome → IsListOutcome bytes outcome
list_outcome bytes P number (Listed clauses) spelled is = (P, spelled)
list_outcome bytes P number (ListLarge point) spelled is = (P, spelled)
list_outcome bytes P number (NoQuery asked) spelled is = (P, spelled)
list_outcome bytes P number Memory spelled is = tt
list_outcome bytes P number _ spelled is = absurd is

pub list_lists : Laws → (bytes : List ℕ) (P : syntax.Protocol) (number : ℕ) (outcome : Outcome) → IsListOf P number outcome → Spells bytes P → Lists bytes number outcome
list_lists laws bytes P number outcome is spelled = record {
  answers = list_outcome bytes P number outcome spelled is;
  accepts = λ Q spells. subst (λ (X : syntax.Protocol). IsListOf X number outcome) (laws.one_protocol bytes P Q spelled spells) is;
  refuses = λ why place refused. absurd (laws.never_both bytes P why place spelled refused);
}
