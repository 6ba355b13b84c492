-- What a request comes to, by the files that were read.
use Rattle.std.proofs.Common.{◌≡◌, ◌≢◌, ◌<◌, ◌≤◌, ℕ, List, [], ◌∷◌, length, take, Option, Some, None, IfSome, inl, inr, refl, sym, ap, subst, ◌∙◌, arith}
use Rattle.spec_calculus.specs.Bounds.{most_bytes, most_report_bytes, most_run_bytes}
use Rattle.spec_calculus.specs.Syntax as syntax
use Rattle.spec_protocol_scope.specs.Spells.{Spells}
use Rattle.spec_ring_text.specs.Text.{ring_text}
use Rattle.hv_io.specs.Files.{Load, with_loads}
use Rattle.command_words.specs.Request.{Request, Verify, Check, ListOf, Replay, RingOf}
use Rattle.protocol_loading.specs.Outside.{Outside, outside, IsFaulty, IsNothingLoaded, OfFile, load_of}
use Rattle.call_outcomes.specs.Outcome.{Refusal, Protocol, Report, Run, Outcome, Verified, Checked, Listed, ListLarge, NoQuery, Replayed, Ring, Refused, ReadFault, Memory, Becomes}
use Rattle.call_outcomes.specs.Decided.{IsDecidedBy}
use Rattle.verifier_cli.specs.Unread.{IsUnloaded, IfRead, IsNoReading, IsUnread}
use Rattle.verifier_cli.specs.Command.{IsRefusalOf}
use Rattle.verifier_cli.specs.Checking.{ChecksReport, IsOutcomeOfReport}
use Rattle.verifier_cli.specs.Listing.{IsListOf}
use Rattle.verifier_cli.specs.Replaying.{RunsOn, IsOutcomeOfRun}
use Rattle.verifier_cli.specs.Ringing.{Rings}
use Rattle.verifier_cli.specs.Requests.{source_of, other_of, loads_of, IsHowFar, IsOutcomeFor, IsUnreadable, ComesTo}
use Rattle.verifier_cli.proofs.Files.{held_or_none, as_held, no_more_loads, loads_then}
use Rattle.verifier_cli.proofs.Verifying.{Laws, Soundness, OneAttack, decided_verifies, decided_read, refusal_verifies, memory_verifies}
use Rattle.verifier_cli.proofs.Checking.{Acceptance, report_checks, refusal_checked, memory_checked}
use Rattle.verifier_cli.proofs.Listing.{list_lists, listed_read, refusal_lists, memory_lists}
use Rattle.verifier_cli.proofs.Replaying.{run_replays, refusal_replays, memory_replays, counted_later}
use Rattle.verifier_cli.proofs.Rings.{memory_rings, rings_read}

-- The files that a request names.

abbrev pub NamesFile : Request → Type 0
NamesFile (RingOf stages) = ⊥
NamesFile _ = Unit {0}

abbrev pub file_of : Request → List ℕ
file_of (Verify file budget format) = file
file_of (Check file report) = file
file_of (ListOf file query) = file
file_of (Replay file run) = file
file_of (RingOf stages) = []

source_held : (asked : Request) → NamesFile asked → (held : List ℕ → Option (List ℕ)) → source_of asked held ≡ held (file_of asked)
source_held (Verify file budget format) names held = refl
source_held (Check file report) names held = refl
source_held (ListOf file query) names held = refl
source_held (Replay file run) names held = refl
source_held (RingOf stages) names held = absurd names

first_load : (asked : Request) → NamesFile asked → (bytes other : List ℕ) → take 1 (loads_of asked bytes other) ≡ load_of (file_of asked) most_bytes bytes ∷ []
first_load (Verify file budget format) names bytes other = refl
first_load (Check file report) names bytes other = refl
first_load (ListOf file query) names bytes other = refl
first_load (Replay file run) names bytes other = refl
first_load (RingOf stages) names bytes other = absurd names

-- Of any outcome: want of memory may come in place of each, and a file that is refused as a protocol or cannot be read.

pub memory_for : (asked : Request) (bytes other : List ℕ) → IsOutcomeFor asked bytes other Memory
memory_for (Verify file budget format) bytes other = memory_verifies budget bytes
memory_for (Check file report) bytes other = memory_checked bytes other
memory_for (ListOf file query) bytes other = memory_lists query bytes
memory_for (Replay file run) bytes other = memory_replays bytes other
memory_for (RingOf stages) bytes other = memory_rings stages

refusal_for : Laws → (asked : Request) → NamesFile asked → (bytes other : List ℕ) (refusal : Refusal) → IsRefusalOf bytes refusal → IsOutcomeFor asked bytes other (Refused refusal)
refusal_for laws (Verify file budget format) names bytes other refusal is = refusal_verifies laws bytes budget refusal is
refusal_for laws (Check file report) names bytes other refusal is = refusal_checked laws bytes other refusal is
refusal_for laws (ListOf file query) names bytes other refusal is = refusal_lists laws bytes query refusal is
refusal_for laws (Replay file run) names bytes other refusal is = refusal_replays laws bytes other refusal is
refusal_for laws (RingOf stages) names bytes other refusal is = absurd names

faulty_file : (asked : Request) → NamesFile asked → (bytes : List ℕ) (files : Outside) → IsFaulty files (file_of asked) → IsUnreadable asked bytes files
faulty_file (Verify file budget format) names bytes files fault = fault
faulty_file (Check file report) names bytes files fault = inl fault
faulty_file (ListOf file query) names bytes files fault = fault
faulty_file (Replay file run) names bytes files fault = inl fault
faulty_file (RingOf stages) names bytes files fault = absurd names

one : 0 < 1
one = omega arith

two : 0 < 2
two = omega arith

some_file : (asked : Request) → NamesFile asked → (bytes other : List ℕ) → 0 < length (loads_of asked bytes other)
some_file (Verify file budget format) names bytes other = one
some_file (Check file report) names bytes other = two
some_file (ListOf file query) names bytes other = one
some_file (Replay file run) names bytes other = two
some_file (RingOf stages) names bytes other = absurd names

-- With nothing loaded, and no words of a protocol.
pub memory_comes : (asked : Request) (files : Outside) → IsNothingLoaded files → ComesTo asked files None Memory
memory_comes asked files same =
    let protocol = held_or_none (source_of asked files.held) in
    let other = held_or_none (other_of asked files.held) in
    record {
      protocol = protocol;
      protocol_held = as_held (source_of asked files.held);
      other = other;
      other_held = as_held (other_of asked files.held);
      read = 0;
      far = tt;
      loaded = same ∙ no_more_loads files.loads (loads_of asked protocol other);
      defined = λ read. memory_for asked protocol other;
      unreadable = λ e. absurd (cc);
      spelled = tt;
    }

pub unloaded_comes : (asked : Request) → NamesFile asked → (files : Outside) (outcome : Outcome) → IsNothingLoaded files → IsUnloaded files (file_of asked) outcome → ComesTo asked files None outcome
unloaded_comes asked names files ReadFault same fault =
    let protocol = held_or_none (source_of asked files.held) in
    let other = held_or_none (other_of asked files.held) in
    record {
      protocol = protocol;
      protocol_held = as_held (source_of asked files.held);
      other = other;
      other_held = as_held (other_of asked files.held);
      read = 0;
      far = some_file asked names protocol other;
      loaded = same ∙ no_more_loads files.loads (loads_of asked protocol other);
      defined = λ read. absurd (read refl);
      unreadable = λ e. faulty_file asked names protocol files fault;
      spelled = tt;
    }
unloaded_comes asked names files Memory same none = memory_comes asked files same
unloaded_comes asked names files _ same never = absurd never

-- With the protocol's file read, and no other.
one_comes : (asked : Request) → NamesFile asked → (files : Outside) (words : Option syntax.Protocol) (outcome : Outcome) (F : List ℕ → Type 0) (x : OfFile files (file_of asked) most_bytes F)
    → ((other : List ℕ) → IsHowFar outcome 1 (length (loads_of asked x.bytes other))) → ((other : List ℕ) → IsOutcomeFor asked x.bytes other outcome) → outcome ≢ ReadFault
    → IfSome words (λ P. Spells x.bytes P) → ComesTo asked files words outcome
one_comes asked names files words outcome F x far is read spelled =
    let other = held_or_none (other_of asked files.held) in
    record {
      protocol = x.bytes;
      protocol_held = subst (λ (held : Option (List ℕ)). IfSome held (λ all. x.bytes ≡ all)) (sym (source_held asked names files.held)) x.as_held;
      other = other;
      other_held = as_held (other_of asked files.held);
      read = 1;
      far = far other;
      loaded = x.as_loaded ∙ ap (λ (some : List Load). with_loads files.loads some) (sym (first_load asked names x.bytes other));
      defined = λ _. is other;
      unreadable = λ e. absurd (read e);
      spelled = spelled;
    }

no_reading_comes : Laws → (asked : Request) → NamesFile asked → (files : Outside) (outcome : Outcome) → OfFile files (file_of asked) most_bytes (λ bytes. IsNoReading bytes outcome) → ComesTo asked files None outcome
no_reading_comes laws asked names files (Refused (Protocol line column why)) x =
    one_comes asked names files None (Refused (Protocol line column why)) (λ bytes. IsNoReading bytes (Refused (Protocol line column why))) x (λ other. refl)
    (λ other. refusal_for laws asked names x.bytes other (Protocol line column why) x.fact) (λ e. cc) tt
no_reading_comes laws asked names files (Refused (Report line why)) x = let e = x.fact.shown in absurd (cc)
no_reading_comes laws asked names files (Refused (Run line why)) x = let e = x.fact.shown in absurd (cc)
no_reading_comes laws asked names files Memory x =
    one_comes asked names files None Memory (λ bytes. IsNoReading bytes Memory) x (λ other. tt) (λ other. memory_for asked x.bytes other) (λ e. cc) tt
no_reading_comes laws asked names files _ x = absurd x.fact

-- a call without a protocol
pub unread_comes : Laws → (asked : Request) → NamesFile asked → (files : Outside) (outcome : Outcome) → IsUnread files (file_of asked) outcome → ComesTo asked files None outcome
unread_comes laws asked names files outcome (inl x) = no_reading_comes laws asked names files outcome x
unread_comes laws asked names files outcome (inr why) = unloaded_comes asked names files outcome why.0 why.1

-- the verdicts of a protocol, and its list
decided_far : (P : syntax.Protocol) (budget : ℕ) (outcome : Outcome) → IsDecidedBy P budget outcome → IsHowFar outcome 1 1
decided_far P budget (Verified verdicts) is = refl
decided_far P budget Memory is = tt
decided_far P budget _ is = absurd is

pub verified_comes : Soundness → OneAttack → Laws → (file : List ℕ) (budget format : ℕ) (files : Outside) (P : syntax.Protocol) (outcome : Outcome) → IsDecidedBy P budget outcome
    → OfFile files file most_bytes (λ bytes. Spells bytes P) → ComesTo (Verify file budget format) files (Some P) outcome
verified_comes sound one laws file budget format files P outcome is x =
    one_comes (Verify file budget format) tt files (Some P) outcome (λ bytes. Spells bytes P) x (λ other. decided_far P budget outcome is)
    (λ other. decided_verifies sound one laws x.bytes P budget outcome is x.fact) (decided_read P budget outcome is) x.fact

listed_far : (P : syntax.Protocol) (query : ℕ) (outcome : Outcome) → IsListOf P query outcome → IsHowFar outcome 1 1
listed_far P query (Listed clauses) is = refl
listed_far P query (ListLarge point) is = refl
listed_far P query (NoQuery asked) is = refl
listed_far P query Memory is = tt
listed_far P query _ is = absurd is

pub listed_comes : Laws → (file : List ℕ) (query : ℕ) (files : Outside) (P : syntax.Protocol) (outcome : Outcome) → IsListOf P query outcome
    → OfFile files file most_bytes (λ bytes. Spells bytes P) → ComesTo (ListOf file query) files (Some P) outcome
listed_comes laws file query files P outcome is x =
    one_comes (ListOf file query) tt files (Some P) outcome (λ bytes. Spells bytes P) x (λ other. listed_far P query outcome is)
    (λ other. list_lists laws x.bytes P query outcome is x.fact) (listed_read P query outcome is) x.fact

-- With both files read, or with a protocol and no more.

-- a request that names another file, and how many bytes that may have
record Names (asked : Request) (other : List ℕ) (most : ℕ) : Type 0 where
  pub file : NamesFile asked
  pub held : (held : List ℕ → Option (List ℕ)) → other_of asked held ≡ held other
  pub loads : (bytes text : List ℕ) → loads_of asked bytes text ≡ load_of (file_of asked) most_bytes bytes ∷ load_of other most text ∷ []
  pub unreadable : (bytes : List ℕ) (files : Outside) (P : syntax.Protocol) → Spells bytes P → IsFaulty files other → IsUnreadable asked bytes files

-- what the object tells before the calls, between them and after them
module _ {D : Type 0} (held : D → List ℕ → Option (List ℕ)) (faults : D → List ℕ → ℕ) (loads : D → Option (List Load)) (old mid new : D)
    (stays : (name : List ℕ) → held mid name ≡ held old name) (rise : (name : List ℕ) → faults old name ≤ faults mid name)
    (asked : Request) (other : List ℕ) (most : ℕ) (names : Names asked other most) (P : syntax.Protocol) (outcome : Outcome)
    (x : OfFile (outside held faults loads old mid) (file_of asked) most_bytes (λ bytes. Spells bytes P)) where
  protocol_as_held : IfSome (source_of asked (held old)) (λ all. x.bytes ≡ all)
  protocol_as_held = subst (λ (told : Option (List ℕ)). IfSome told (λ all. x.bytes ≡ all)) (sym (source_held asked names.file (held old))) x.as_held

  both_come : (F : List ℕ → Type 0) (y : OfFile (outside held faults loads mid new) other most F) → outcome ≢ ReadFault → IsHowFar outcome 2 2 → IsOutcomeFor asked x.bytes y.bytes outcome
      → ComesTo asked (outside held faults loads old new) None outcome
  both_come F y read far is =
      let first = load_of (file_of asked) most_bytes x.bytes in
      let second = load_of other most y.bytes in
      let pair = names.loads x.bytes y.bytes in
      record {
        protocol = x.bytes;
        protocol_held = protocol_as_held;
        other = y.bytes;
        other_held = subst (λ (told : Option (List ℕ)). IfSome told (λ all. y.bytes ≡ all)) (stays other ∙ sym (names.held (held old))) y.as_held;
        read = 2;
        far = subst (λ (some : List Load). IsHowFar outcome 2 (length some)) (sym pair) far;
        loaded = y.as_loaded ∙ ap (λ (before : Option (List Load)). with_loads before (second ∷ [])) x.as_loaded ∙ loads_then (loads old) (first ∷ []) (second ∷ [])
            ∙ ap (λ (some : List Load). with_loads (loads old) (take 2 some)) (sym pair);
        defined = λ _. is;
        unreadable = λ e. absurd (read e);
        spelled = tt;
      }

  first_comes : loads new ≡ loads mid → IsHowFar outcome 1 2 → (outcome ≢ ReadFault → (text : List ℕ) → IsOutcomeFor asked x.bytes text outcome)
      → (outcome ≡ ReadFault → IsFaulty (outside held faults loads mid new) other) → ComesTo asked (outside held faults loads old new) None outcome
  first_comes same far is fault =
      let text = held_or_none (other_of asked (held old)) in
      let later : IsFaulty (outside held faults loads mid new) other → IsFaulty (outside held faults loads old new) other = counted_later (faults old other) (faults mid other) (faults new other) (rise other) in
      record {
        protocol = x.bytes;
        protocol_held = protocol_as_held;
        other = text;
        other_held = as_held (other_of asked (held old));
        read = 1;
        far = subst (λ (some : List Load). IsHowFar outcome 1 (length some)) (sym (names.loads x.bytes text)) far;
        loaded = same ∙ x.as_loaded ∙ ap (λ (some : List Load). with_loads (loads old) some) (sym (first_load asked names.file x.bytes text));
        defined = λ read. is read text;
        unreadable = λ e. names.unreadable x.bytes (outside held faults loads old new) P x.fact (later (fault e));
        spelled = tt;
      }

by_unloaded : {D : Type 0} (held : D → List ℕ → Option (List ℕ)) (faults : D → List ℕ → ℕ) (loads : D → Option (List Load)) (old mid new : D)
    → ((name : List ℕ) → held mid name ≡ held old name) → ((name : List ℕ) → faults old name ≤ faults mid name)
    → (asked : Request) (other : List ℕ) (most : ℕ) → Names asked other most → (P : syntax.Protocol) (outcome : Outcome)
    → OfFile (outside held faults loads old mid) (file_of asked) most_bytes (λ bytes. Spells bytes P) → loads new ≡ loads mid → IsUnloaded (outside held faults loads mid new) other outcome
    → ComesTo asked (outside held faults loads old new) None outcome
by_unloaded held faults loads old mid new stays rise asked other most names P ReadFault x same fault =
    first_comes held faults loads old mid new stays rise asked other most names P ReadFault x same (omega arith) (λ read text. absurd (read refl)) (λ e. fault)
by_unloaded held faults loads old mid new stays rise asked other most names P Memory x same none =
    first_comes held faults loads old mid new stays rise asked other most names P Memory x same tt (λ read text. memory_for asked x.bytes text) (λ e. absurd (cc))
by_unloaded held faults loads old mid new stays rise asked other most names P _ x same never = absurd never

-- the check of a report
checked_far : (P : syntax.Protocol) (text : List ℕ) (outcome : Outcome) → IsOutcomeOfReport P text outcome → (outcome ≢ ReadFault) × IsHowFar outcome 2 2
checked_far P text (Checked findings) is = (λ e. cc, refl)
checked_far P text (Refused (Report line why)) is = (λ e. cc, refl)
checked_far P text (Refused (Protocol line column why)) is = absurd is
checked_far P text (Refused (Run line why)) is = absurd is
checked_far P text Memory is = (λ e. cc, tt)
checked_far P text _ is = absurd is

check_names : (file report : List ℕ) → Names (Check file report) report most_report_bytes
check_names file report = record { file = tt; held = λ held. refl; loads = λ bytes text. refl; unreadable = λ bytes files P spelled fault. inr ((P, spelled), fault) }

pub checked_comes : Acceptance → Laws → {D : Type 0} (held : D → List ℕ → Option (List ℕ)) (faults : D → List ℕ → ℕ) (loads : D → Option (List Load)) (old mid new : D)
    → ((name : List ℕ) → held mid name ≡ held old name) → ((name : List ℕ) → faults old name ≤ faults mid name) → (file report : List ℕ) (P : syntax.Protocol) (outcome : Outcome)
    → OfFile (outside held faults loads old mid) file most_bytes (λ bytes. Spells bytes P)
    → IfRead (outside held faults loads mid new) report most_report_bytes outcome (λ text. ChecksReport P text outcome) → ComesTo (Check file report) (outside held faults loads old new) None outcome
checked_comes sound laws held faults loads old mid new stays rise file report P outcome x (inl y) =
    let far = checked_far P y.bytes outcome y.fact.answers in
    both_come held faults loads old mid new stays rise (Check file report) report most_report_bytes (check_names file report) P outcome x (λ text. ChecksReport P text outcome) y far.0 far.1
    (report_checks sound laws x.bytes y.bytes P outcome y.fact x.fact)
checked_comes sound laws held faults loads old mid new stays rise file report P outcome x (inr why) =
    by_unloaded held faults loads old mid new stays rise (Check file report) report most_report_bytes (check_names file report) P outcome x why.0 why.1

-- the replay of a run
replayed_far : (P : syntax.Protocol) (text : List ℕ) (outcome : Outcome) → IsOutcomeOfRun P text outcome → (outcome ≢ ReadFault) × IsHowFar outcome 2 2
replayed_far P text (Replayed replay) is = (λ e. cc, refl)
replayed_far P text (Refused (Run line why)) is = (λ e. cc, refl)
replayed_far P text (Refused (Protocol line column why)) is = absurd is
replayed_far P text (Refused (Report line why)) is = absurd is
replayed_far P text Memory is = (λ e. cc, tt)
replayed_far P text _ is = absurd is

replay_names : (file run : List ℕ) → Names (Replay file run) run most_run_bytes
replay_names file run = record { file = tt; held = λ held. refl; loads = λ bytes text. refl; unreadable = λ bytes files P spelled fault. inr ((P, spelled), fault) }

pub replayed_comes : Laws → {D : Type 0} (held : D → List ℕ → Option (List ℕ)) (faults : D → List ℕ → ℕ) (loads : D → Option (List Load)) (old mid new : D)
    → ((name : List ℕ) → held mid name ≡ held old name) → ((name : List ℕ) → faults old name ≤ faults mid name) → (file run : List ℕ) (P : syntax.Protocol) (outcome : Outcome)
    → OfFile (outside held faults loads old mid) file most_bytes (λ bytes. Spells bytes P)
    → IfRead (outside held faults loads mid new) run most_run_bytes outcome (λ text. RunsOn P text outcome) → ComesTo (Replay file run) (outside held faults loads old new) None outcome
replayed_comes laws held faults loads old mid new stays rise file run P outcome x (inl y) =
    let far = replayed_far P y.bytes outcome y.fact.answers in
    both_come held faults loads old mid new stays rise (Replay file run) run most_run_bytes (replay_names file run) P outcome x (λ text. RunsOn P text outcome) y far.0 far.1
    (run_replays laws x.bytes y.bytes P outcome y.fact x.fact)
replayed_comes laws held faults loads old mid new stays rise file run P outcome x (inr why) =
    by_unloaded held faults loads old mid new stays rise (Replay file run) run most_run_bytes (replay_names file run) P outcome x why.0 why.1

-- the ring, for which no file is read
rings_far : (n : ℕ) (outcome : Outcome) → Rings n outcome → IsHowFar outcome 0 0
rings_far n (Ring ring) is = refl
rings_far n Memory is = tt
rings_far n _ is = absurd is.answers

pub ring_comes : (n : ℕ) (files : Outside) (words : Option syntax.Protocol) (outcome : Outcome) → IsNothingLoaded files → IfSome words (λ P. Spells (ring_text n) P) → Rings n outcome → ComesTo (RingOf n) files words outcome
ring_comes n files words outcome same spelled is = record {
  protocol = ring_text n;
  protocol_held = refl;
  other = [];
  other_held = tt;
  read = 0;
  far = rings_far n outcome is;
  loaded = same ∙ no_more_loads files.loads [];
  defined = λ _. is;
  unreadable = λ e. absurd (rings_read n outcome is e);
  spelled = spelled;
}

-- What a request comes to is said of want of memory in its place.
pub comes_after : (asked : Request) (files : Outside) (words : Option syntax.Protocol) (found after : Outcome) → Becomes found after → ComesTo asked files words found → ComesTo asked files words after
comes_after asked files words found after (inl e) c = subst (ComesTo asked files words) (sym e) c
comes_after asked files words found after (inr e) c = subst (ComesTo asked files words) (sym e) record {
  protocol = c.protocol;
  protocol_held = c.protocol_held;
  other = c.other;
  other_held = c.other_held;
  read = c.read;
  far = tt;
  loaded = c.loaded;
  defined = λ _. memory_for asked c.protocol c.other;
  unreadable = λ e. absurd (cc);
  spelled = c.spelled;
}
