-- Logs over owned trees: what their entries tell of the log that a saturation gives.
use Rattle.std.specs.Prelude.{◌≡◌, ℕ, suc, None, List, [], ◌∷◌}
use Rattle.spec_saturation.specs.Key as offered
use Rattle.log_entries.specs.declared.log.PlainEntry.{PlainEntry}
use Rattle.log_entries.specs.Logs.{IsOrigin, IsFirstSubsumer}

-- the entry's clause and origin
pub record TellsPlain (log : List offered.Entry) (entry : PlainEntry) (e : offered.Entry) : Type 0 where
  pub clause : entry.clause ≡ e.clause
  pub origin : IsOrigin log entry.origin e.key

-- the entries, the first of which has that number, one by one, each with the first later one that subsumes it
abbrev pub TellPlainFrom : List offered.Entry → ℕ → List PlainEntry → List offered.Entry → Type 0
TellPlainFrom log number [] [] = Unit {0}
TellPlainFrom log number [] (e ∷ es) = ⊥
TellPlainFrom log number (entry ∷ entries) [] = ⊥
TellPlainFrom log number (entry ∷ entries) (e ∷ es) = TellsPlain log entry e
    × IsFirstSubsumer (suc number) es e.clause entry.by × TellPlainFrom log (suc number) entries es

-- the entries tell the log
abbrev pub TellPlainLog : List PlainEntry → List offered.Entry → Type 0
TellPlainLog entries log = TellPlainFrom log 1 entries log

-- the entry tells what is due behind the log
pub record TellsDue (log : List offered.Entry) (entry : PlainEntry) (due : offered.Entry) : Type 0 where
  pub tells : TellsPlain log entry due
  pub unbeaten : entry.by ≡ None
