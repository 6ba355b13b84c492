-- What is written of a text.
use Rattle.std.specs.Prelude.{◌≡◌, ◌≢◌, ℕ, List, Option}
use Rattle.hv_io.specs.Sink.{appended, AppendsPart}

-- a text was written, or with status 6 a part of it, from its start
abbrev pub IsWritten : ℕ → Option (List ℕ) → Option (List ℕ) → List ℕ → Type 0
IsWritten status before after text = (status ≢ 6 → after ≡ appended before text) × (status ≡ 6 → AppendsPart before after text)
