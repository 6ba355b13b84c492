-- What a request comes to, by the bytes of the files that it names.
use Rattle.std.specs.Prelude.{◌≡◌, ◌≢◌, ◌<◌, ◌⊎◌, ℕ, List, [], ◌∷◌, length, take, Option, Some, None, IfSome}
use Rattle.spec_calculus.specs.Bounds.{most_bytes, most_report_bytes, most_run_bytes}
use Rattle.spec_calculus.specs.Syntax as syntax
use Rattle.spec_protocol_scope.specs.Spells.{Spells}
use Rattle.spec_ring_text.specs.Text.{ring_text}
use Rattle.hv_io.specs.Files.{Load, with_loads}
use Rattle.command_words.specs.Request.{Request, Verify, Check, ListOf, Replay, RingOf}
use Rattle.protocol_loading.specs.Outside.{Outside, IsFaulty, load_of}
use Rattle.call_outcomes.specs.Outcome.{Protocol, Outcome, Refused, ReadFault, Memory}
use Rattle.verifier_cli.specs.Command.{Verifies}
use Rattle.verifier_cli.specs.Checking.{Checks}
use Rattle.verifier_cli.specs.Listing.{Lists}
use Rattle.verifier_cli.specs.Replaying.{Replays}
use Rattle.verifier_cli.specs.Ringing.{Rings}

-- the bytes of the protocol that is asked about, where they are told: those that its file holds, or the text of the ring
abbrev pub source_of : Request → (List ℕ → Option (List ℕ)) → Option (List ℕ)
source_of (Verify file budget format) held = held file
source_of (Check file report) held = held file
source_of (ListOf file query) held = held file
source_of (Replay file run) held = held file
source_of (RingOf stages) held = Some (ring_text stages)

-- those that the other file holds, of a report or of a run, where there is one and they are told
abbrev pub other_of : Request → (List ℕ → Option (List ℕ)) → Option (List ℕ)
other_of (Check file report) held = held report
other_of (Replay file run) held = held run
other_of _ held = None

-- the loads of the files that the request names, in order, where these are the bytes of the protocol's and of the other
abbrev pub loads_of : Request → List ℕ → List ℕ → List Load
loads_of (Verify file budget format) bytes other = load_of file most_bytes bytes ∷ []
loads_of (Check file report) bytes other = load_of file most_bytes bytes ∷ load_of report most_report_bytes other ∷ []
loads_of (ListOf file query) bytes other = load_of file most_bytes bytes ∷ []
loads_of (Replay file run) bytes other = load_of file most_bytes bytes ∷ load_of run most_run_bytes other ∷ []
loads_of (RingOf stages) bytes other = []

-- so many of so many files are read where this is the outcome: the first alone where it is refused as a protocol; not all where one
-- cannot be read; any number where there is no memory; and else all
abbrev pub IsHowFar : Outcome → ℕ → ℕ → Type 0
IsHowFar (Refused (Protocol line column why)) read all = read ≡ 1
IsHowFar ReadFault read all = read < all
IsHowFar Memory read all = Unit {0}
IsHowFar _ read all = read ≡ all

-- the outcome is the one that the definitions give for these bytes of the protocol's file and of the other
abbrev pub IsOutcomeFor : Request → List ℕ → List ℕ → Outcome → Type 0
IsOutcomeFor (Verify file budget format) bytes other outcome = Verifies bytes budget outcome
IsOutcomeFor (Check file report) bytes other outcome = Checks bytes other outcome
IsOutcomeFor (ListOf file query) bytes other outcome = Lists bytes query outcome
IsOutcomeFor (Replay file run) bytes other outcome = Replays bytes other outcome
IsOutcomeFor (RingOf stages) bytes other outcome = Rings stages outcome

-- a fault was counted for the one file, which has these bytes, or, where they spell a protocol, for the other
abbrev pub IsEitherFaulty : List ℕ → List ℕ → List ℕ → Outside → Type 0
IsEitherFaulty file other bytes files = IsFaulty files file ⊎ (((P : syntax.Protocol) × Spells bytes P) × IsFaulty files other)

-- a file that is asked for cannot be read
abbrev pub IsUnreadable : Request → List ℕ → Outside → Type 0
IsUnreadable (Verify file budget format) bytes files = IsFaulty files file
IsUnreadable (Check file report) bytes files = IsEitherFaulty file report bytes files
IsUnreadable (ListOf file query) bytes files = IsFaulty files file
IsUnreadable (Replay file run) bytes files = IsEitherFaulty file run bytes files
IsUnreadable (RingOf stages) bytes files = ⊥

-- what the request comes to, and the protocol in whose words it is printed, where there is one
pub record ComesTo (asked : Request) (files : Outside) (words : Option syntax.Protocol) (outcome : Outcome) : Type 0 where
  -- the bytes of the protocol's file, or the text of the ring: those that are held, where that is told
  pub protocol : List ℕ
  pub protocol_held : IfSome (source_of asked files.held) (λ all. protocol ≡ all)
  -- the bytes of the other file, of a report or of a run, likewise
  pub other : List ℕ
  pub other_held : IfSome (other_of asked files.held) (λ all. other ≡ all)
  -- so many of the files were read: where the loads are told, they gave these bytes, and there are no others
  pub read : ℕ
  pub far : IsHowFar outcome read (length (loads_of asked protocol other))
  pub loaded : files.loads_after ≡ with_loads files.loads (take read (loads_of asked protocol other))
  -- for these bytes the definitions give the outcome, but where a file cannot be read
  pub defined : outcome ≢ ReadFault → IsOutcomeFor asked protocol other outcome
  pub unreadable : outcome ≡ ReadFault → IsUnreadable asked protocol files
  -- the words are those of the protocol that these bytes spell
  pub spelled : IfSome words (λ P. Spells protocol P)
