-- Places in a text, counted from 1 in bytes. A line ends with its line feed, the byte 10.
use Rattle.std.specs.Prelude.{ℕ, ◌+◌, ◌==◌, not, List, take, count_by}
use Rattle.std.specs.List.{suffix_len}

-- the line: one more than the line feeds before the place
abbrev pub line_at : List ℕ → ℕ → ℕ
line_at text at = 1 + count_by (λ byte. byte == 10) (take at text)

-- the column: one more than the bytes before the place, from it back to a line feed
abbrev pub column_at : List ℕ → ℕ → ℕ
column_at text at = 1 + suffix_len (λ byte. not (byte == 10)) (take at text)
