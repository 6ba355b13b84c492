-- What the words of a command line ask for, by what `clap` takes and by its matches.
use Rattle.std.specs.Prelude.{◌^◌, ◌-◌, ℕ, Bool, List, Option, Some, None, codes, if◌then◌else◌}
use Rattle.std.specs.Prelude.{option_and_then, option_map}
use Rattle.std.specs.Str.{bytes_eq}
use Rattle.std.specs.Str.Parse.{digits_value, without_leading_plus}
use Rattle.clap.specs.ValueTests.{is_unsigned_in}
use Rattle.clap.specs.Walk.{is_empty}
use Rattle.clap.specs.Words.{Row, Text, fault_of, first_of, one_of, subcommand_of}
use Rattle.command_words.specs.Commands.{program_app}
use Rattle.command_words.specs.declared.Request.{Request as Request'}
use Rattle.command_words.specs.declared.Request.TheVariants as declared

-- a request, with the texts of its names
pub data Request : Type 0 where
  Verify : (file : Text) → (budget format : ℕ) → Request
  Check : (file : Text) → (report : Text) → Request
  ListOf : (file : Text) → (query : ℕ) → Request
  Replay : (file : Text) → (run : Text) → Request
  RingOf : (stages : ℕ) → Request

-- the request that a value of the program stands for
abbrev pub request_seen : Request' → Request
request_seen (declared.Verify file budget format) = Verify file.now budget format
request_seen (declared.Check file report) = Check file.now report.now
request_seen (declared.List file query) = ListOf file.now query
request_seen (declared.Replay file run) = Replay file.now run.now
request_seen (declared.Ring stages) = RingOf stages

-- the number that a text of decimal digits spells, where 64 bits hold it
abbrev pub number_of : Text → Option ℕ
number_of text = if is_unsigned_in 0 (2 ^ 64 - 1) text
    then Some (digits_value 10 (without_leading_plus text)) else None

-- what `verify` was given
abbrev pub verify_in : List Row → Option Request
verify_in rows = option_and_then (λ file. option_and_then (λ budget. option_map (Verify file budget)
    (option_and_then number_of (one_of (codes "format") rows)))
    (option_and_then number_of (one_of (codes "budget") rows)))
    (first_of (codes "file") rows)

-- what `check` was given
abbrev pub check_in : List Row → Option Request
check_in rows = option_and_then (λ file. option_map (Check file)
    (first_of (codes "report") rows)) (first_of (codes "file") rows)

-- what `list` was given
abbrev pub list_in : List Row → Option Request
list_in rows = option_and_then (λ file. option_map (ListOf file)
    (option_and_then number_of (one_of (codes "query") rows)))
    (first_of (codes "file") rows)

-- what `replay` was given
abbrev pub replay_in : List Row → Option Request
replay_in rows = option_and_then (λ file. option_map (Replay file)
    (first_of (codes "run") rows)) (first_of (codes "file") rows)

-- what `ring` was given
abbrev pub ring_in : List Row → Option Request
ring_in rows = option_map RingOf (option_and_then number_of (one_of (codes "stages") rows))

-- what the command was given, by its name and its matches
abbrev pub command_in : Text × List Row → Option Request
command_in command = if bytes_eq command.0 (codes "verify") then verify_in command.1
    else (if bytes_eq command.0 (codes "check") then check_in command.1
    else (if bytes_eq command.0 (codes "list") then list_in command.1
    else (if bytes_eq command.0 (codes "replay") then replay_in command.1
    else (if bytes_eq command.0 (codes "ring") then ring_in command.1 else None))))

-- what the program was asked, by the subcommand that the words name
abbrev pub asked : Option (Text × List Row) → Option Request
asked = option_and_then command_in

-- `clap` takes the words: no step of its parse has an error
abbrev pub is_taken : List Text → Bool
is_taken words = is_empty (fault_of program_app words)

-- what the words ask, where `clap` takes them: `None` exactly where it refuses them
abbrev pub request_of : List Text → Option Request
request_of words = if is_taken words then asked (subcommand_of program_app words) else None
