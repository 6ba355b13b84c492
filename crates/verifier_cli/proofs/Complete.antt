-- From what a request comes to: the headline, and that accepted files come to an outcome of the command's own.
use Rattle.std.proofs.Common.{◌≡◌, ◌≢◌, ◌⊎◌, ℕ, List, Option, Bool, true, false, if◌then◌else◌, inl, inr, refl, sym, subst}
use Rattle.std.specs.List.{list_all}
use Rattle.spec_calculus.specs.Syntax.{Protocol}
use Rattle.spec_calculus.specs.Runs.{Step}
use Rattle.spec_certificate_text.specs.Reports.{Claim}
use Rattle.command_words.specs.Request.{Request, Verify, Check, ListOf, Replay, RingOf}
use Rattle.protocol_loading.specs.Outside.{Outside, IsFaulty}
use Rattle.call_outcomes.specs.VerdictText.{is_proved}
use Rattle.call_outcomes.specs.Outcome.{Outcome, Usage, Verified, Checked, Listed, ListLarge, NoQuery, Replayed, Ring, Refused, ReadFault, Memory}
use Rattle.call_outcomes.specs.Text.{is_accepted, is_without_violation, status_of}
use Rattle.call_outcomes.specs.Decided.{IsDecidedBy}
use Rattle.verifier_cli.specs.Command.{NoneViolated, AttacksViolate}
use Rattle.verifier_cli.specs.Checking.{IsCheckOf, IsCheckOutcome}
use Rattle.verifier_cli.specs.Listing.{IsListOf, IsListOutcome}
use Rattle.verifier_cli.specs.Replaying.{IsOutcomeOfReplay, IsReplayOutcome}
use Rattle.verifier_cli.specs.Ringing.{IsRingOutcome}
use Rattle.verifier_cli.specs.Requests.{IsOutcomeFor, IsUnreadable, ComesTo}
use Rattle.verifier_cli.specs.Complete.{AreAccepted, IsOwnOutcome, IsOfAnswer}

-- a list or a replay shows no query
listed_violates_none : (bytes : List ℕ) (outcome : Outcome) → IsListOutcome bytes outcome → NoneViolated bytes outcome
listed_violates_none bytes (Ring ring) is = absurd is
listed_violates_none bytes (Verified verdicts) is = absurd is
listed_violates_none bytes (Checked findings) is = absurd is
listed_violates_none bytes _ is = λ P spells k shown. absurd shown

replayed_violates_none : (bytes : List ℕ) (outcome : Outcome) → IsReplayOutcome bytes outcome → NoneViolated bytes outcome
replayed_violates_none bytes (Ring ring) is = absurd is
replayed_violates_none bytes (Verified verdicts) is = absurd is
replayed_violates_none bytes (Checked findings) is = absurd is
replayed_violates_none bytes _ is = λ P spells k shown. absurd shown

-- an outcome is a fault of reading or it is none
read_or_not : (outcome : Outcome) → (outcome ≡ ReadFault) ⊎ (outcome ≢ ReadFault)
read_or_not ReadFault = inl refl
read_or_not Usage = inr (λ e. cc)
read_or_not (Verified verdicts) = inr (λ e. cc)
read_or_not (Checked findings) = inr (λ e. cc)
read_or_not (Listed clauses) = inr (λ e. cc)
read_or_not (ListLarge point) = inr (λ e. cc)
read_or_not (NoQuery query) = inr (λ e. cc)
read_or_not (Replayed replay) = inr (λ e. cc)
read_or_not (Ring ring) = inr (λ e. cc)
read_or_not (Refused refusal) = inr (λ e. cc)
read_or_not Memory = inr (λ e. cc)

-- the headline, whatever the command
defined_violates_none : (asked : Request) (files : Outside) (words : Option Protocol) (outcome : Outcome) (c : ComesTo asked files words outcome) → IsOutcomeFor asked c.protocol c.other outcome → NoneViolated c.protocol outcome
defined_violates_none (Verify file budget format) files words outcome c is = is.none_violated
defined_violates_none (Check file report) files words outcome c is = is.none_violated
defined_violates_none (ListOf file query) files words outcome c is = listed_violates_none c.protocol outcome is.answers
defined_violates_none (Replay file run) files words outcome c is = replayed_violates_none c.protocol outcome is.answers
defined_violates_none (RingOf stages) files words outcome c is = subst (λ (bytes : List ℕ). NoneViolated bytes outcome) (sym c.protocol_held) is.none_violated

pub violates_none : (asked : Request) (files : Outside) (words : Option Protocol) (outcome : Outcome) (c : ComesTo asked files words outcome) → NoneViolated c.protocol outcome
violates_none asked files words outcome c = by_read (read_or_not outcome)
  where
    by_read : (outcome ≡ ReadFault) ⊎ (outcome ≢ ReadFault) → NoneViolated c.protocol outcome
    by_read (inl e) = subst (λ (o : Outcome). NoneViolated c.protocol o) (sym e) (λ P spells k shown. absurd shown)
    by_read (inr read) = defined_violates_none asked files words outcome c (c.defined read)

-- a check, a list or a replay tells no attack
listed_attacks_none : (bytes : List ℕ) (outcome : Outcome) → IsListOutcome bytes outcome → AttacksViolate bytes outcome
listed_attacks_none bytes (Ring ring) is = absurd is
listed_attacks_none bytes (Verified verdicts) is = absurd is
listed_attacks_none bytes _ is = λ P spells k steps attacked. absurd attacked

replayed_attacks_none : (bytes : List ℕ) (outcome : Outcome) → IsReplayOutcome bytes outcome → AttacksViolate bytes outcome
replayed_attacks_none bytes (Ring ring) is = absurd is
replayed_attacks_none bytes (Verified verdicts) is = absurd is
replayed_attacks_none bytes _ is = λ P spells k steps attacked. absurd attacked

checked_attacks_none : (bytes : List ℕ) (outcome : Outcome) → IsCheckOutcome bytes outcome → AttacksViolate bytes outcome
checked_attacks_none bytes (Ring ring) is = absurd is
checked_attacks_none bytes (Verified verdicts) is = absurd is
checked_attacks_none bytes _ is = λ P spells k steps attacked. absurd attacked

-- each attack that is told violates its query, whatever the command
defined_attacks_violate : (asked : Request) (files : Outside) (words : Option Protocol) (outcome : Outcome) (c : ComesTo asked files words outcome) → IsOutcomeFor asked c.protocol c.other outcome → AttacksViolate c.protocol outcome
defined_attacks_violate (Verify file budget format) files words outcome c is = is.attacks_violate
defined_attacks_violate (Check file report) files words outcome c is = checked_attacks_none c.protocol outcome is.answers
defined_attacks_violate (ListOf file query) files words outcome c is = listed_attacks_none c.protocol outcome is.answers
defined_attacks_violate (Replay file run) files words outcome c is = replayed_attacks_none c.protocol outcome is.answers
defined_attacks_violate (RingOf stages) files words outcome c is = subst (λ (bytes : List ℕ). AttacksViolate bytes outcome) (sym c.protocol_held) is.attacks_violate

pub attacks_violate : (asked : Request) (files : Outside) (words : Option Protocol) (outcome : Outcome) (c : ComesTo asked files words outcome) → AttacksViolate c.protocol outcome
attacks_violate asked files words outcome c = by_read (read_or_not outcome)
  where
    by_read : (outcome ≡ ReadFault) ⊎ (outcome ≢ ReadFault) → AttacksViolate c.protocol outcome
    by_read (inl e) = subst (λ (o : Outcome). AttacksViolate c.protocol o) (sym e) (λ P spells k steps attacked. absurd attacked)
    by_read (inr read) = defined_attacks_violate asked files words outcome c (c.defined read)

-- with no fault that is counted, each file that is asked for can be read
readable : (asked : Request) (bytes : List ℕ) (files : Outside) → ((name : List ℕ) → IsFaulty files name → ⊥) → IsUnreadable asked bytes files → ⊥
readable (Verify file budget format) bytes files none c = none file c
readable (Check file report) bytes files none (inl c) = none file c
readable (Check file report) bytes files none (inr c) = none report c.1
readable (ListOf file query) bytes files none c = none file c
readable (Replay file run) bytes files none (inl c) = none file c
readable (Replay file run) bytes files none (inr c) = none run c.1
readable (RingOf stages) bytes files none c = c

-- Of each command: what it comes to is of its own.

own_verdicts : (P : Protocol) (file : List ℕ) (budget format : ℕ) (outcome : Outcome) → IsDecidedBy P budget outcome → IsOwnOutcome (Verify file budget format) outcome
own_verdicts P file budget format (Verified verdicts) is = tt
own_verdicts P file budget format Memory is = tt
own_verdicts P file budget format _ is = absurd is

own_findings : (P : Protocol) (file report : List ℕ) (claims : List Claim) (outcome : Outcome) → IsCheckOf P claims outcome → IsOwnOutcome (Check file report) outcome
own_findings P file report claims (Checked findings) is = tt
own_findings P file report claims Memory is = tt
own_findings P file report claims _ is = absurd is

own_list : (P : Protocol) (file : List ℕ) (query : ℕ) (outcome : Outcome) → IsListOf P query outcome → IsOwnOutcome (ListOf file query) outcome
own_list P file query (Listed clauses) is = tt
own_list P file query (ListLarge point) is = tt
own_list P file query (NoQuery number) is = tt
own_list P file query Memory is = tt
own_list P file query _ is = absurd is

own_replay : (P : Protocol) (file run : List ℕ) (steps : List Step) (outcome : Outcome) → IsOutcomeOfReplay P steps outcome → IsOwnOutcome (Replay file run) outcome
own_replay P file run steps (Replayed replay) is = tt
own_replay P file run steps Memory is = tt
own_replay P file run steps _ is = absurd is

own_summary : (n : ℕ) (outcome : Outcome) → IsRingOutcome n outcome → IsOwnOutcome (RingOf n) outcome
own_summary n (Ring ring) is = tt
own_summary n Memory is = tt
own_summary n _ is = absurd is

-- where the files are accepted
own_defined : (asked : Request) (bytes other : List ℕ) (outcome : Outcome) → AreAccepted asked bytes other → IsOutcomeFor asked bytes other outcome → IsOwnOutcome asked outcome
own_defined (Verify file budget format) bytes other outcome a is = own_verdicts a.0 file budget format outcome (is.accepts a.0 a.1)
own_defined (ListOf file query) bytes other outcome a is = own_list a.0 file query outcome (is.accepts a.0 a.1)
own_defined (Check file report) bytes other outcome a is = own_findings a.0 file report a.2.0 outcome ((is.accepts a.0 a.1).accepts a.2.0 a.2.1)
own_defined (Replay file run) bytes other outcome a is = own_replay a.0 file run a.2.0 outcome ((is.accepts a.0 a.1).accepts a.2.0 a.2.1)
own_defined (RingOf stages) bytes other outcome a is = own_summary stages outcome is.answers

own_outcome : (asked : Request) (files : Outside) (words : Option Protocol) (outcome : Outcome) (c : ComesTo asked files words outcome)
    → AreAccepted asked c.protocol c.other → ((name : List ℕ) → IsFaulty files name → ⊥) → IsOwnOutcome asked outcome
own_outcome asked files words outcome c accepted none =
    own_defined asked c.protocol c.other outcome accepted (c.defined (λ e. readable asked c.protocol files none (c.unreadable e)))

-- and its status is that of an answer
zero_or_one : (b : Bool) → IsOfAnswer (if b then 0 else 1)
zero_or_one true = inl refl
zero_or_one false = inr (inl refl)

own_status : (request : Request) (outcome : Outcome) → IsOwnOutcome request outcome → IsOfAnswer (status_of outcome)
own_status (Verify file budget format) (Verified verdicts) is = zero_or_one (list_all is_proved verdicts)
own_status (Verify file budget format) Memory is = inr (inr refl)
own_status (Check file report) (Checked findings) is = zero_or_one (list_all is_accepted findings)
own_status (Check file report) Memory is = inr (inr refl)
own_status (ListOf file query) (Listed clauses) is = inl refl
own_status (ListOf file query) (ListLarge point) is = inr (inl refl)
own_status (ListOf file query) (NoQuery number) is = inr (inl refl)
own_status (ListOf file query) Memory is = inr (inr refl)
own_status (Replay file run) (Replayed replay) is = zero_or_one (is_without_violation replay)
own_status (Replay file run) Memory is = inr (inr refl)
own_status (RingOf stages) (Ring ring) is = zero_or_one (is_proved ring.verdict)
own_status (RingOf stages) Memory is = inr (inr refl)
own_status (Verify file budget format) _ is = absurd is
own_status (Check file report) _ is = absurd is
own_status (ListOf file query) _ is = absurd is
own_status (Replay file run) _ is = absurd is
own_status (RingOf stages) _ is = absurd is

pub is_complete : (asked : Request) (files : Outside) (words : Option Protocol) (outcome : Outcome) (c : ComesTo asked files words outcome)
    → AreAccepted asked c.protocol c.other → ((name : List ℕ) → IsFaulty files name → ⊥) → IsOwnOutcome asked outcome × IsOfAnswer (status_of outcome)
is_complete asked files words outcome c accepted none =
    let own = own_outcome asked files words outcome c accepted none in
    (own, own_status asked outcome own)
