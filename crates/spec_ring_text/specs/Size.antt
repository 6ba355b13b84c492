-- How many digits the numbers of the keys have.
use Rattle.std.specs.Prelude.{ℕ, zero, suc, ◌+◌, length}
use Rattle.std.specs.Fmt.{decimal}

-- how many digits so many numbers have in all, of which i is the first
abbrev pub digit_count : ℕ → ℕ → ℕ
digit_count i zero = 0
digit_count i (suc more) = length (decimal i) + digit_count (i + 1) more
