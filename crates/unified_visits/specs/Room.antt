-- How far the numbers of new variables go.
use Rattle.std.specs.Prelude.{ℕ, ◌-◌, ◌^◌}
use Rattle.spec_calculus.specs.Bounds.{most_written_symbols}

-- the most that the number behind new variables of a pattern may be
abbrev pub most_next : ℕ
most_next = 2 ^ 31

-- behind this number there is room for as many variables as a rule may have symbols
abbrev pub rule_base : ℕ
rule_base = 2 ^ 32 - most_written_symbols
