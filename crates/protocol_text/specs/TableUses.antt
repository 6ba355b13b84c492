-- What a process does with a table.
use Rattle.std.specs.Prelude.{ℕ, Bool, false, nat_eq}
use Rattle.std.specs.List.{list_any}
use Rattle.spec_calculus.specs.Syntax as calculus
use Rattle.spec_calculus.specs.Syntax.{Protocol, Insert, Get}
use Rattle.spec_calculus.specs.Points.{nodes}

-- whether an entry is put into the table where the process begins
abbrev pub fills : ℕ → calculus.Process → Bool
fills table (Insert number arguments next) = nat_eq number table
fills table _ = false

-- whether the table is read there
abbrev pub reads : ℕ → calculus.Process → Bool
reads table (Get number patterns condition next otherwise) = nat_eq number table
reads table _ = false

-- whether something is put into the table anywhere in the main process
abbrev pub is_filled : Protocol → ℕ → Bool
is_filled P table = list_any (fills table) (nodes P.main)

-- whether it is read anywhere there
abbrev pub is_read : Protocol → ℕ → Bool
is_read P table = list_any (reads table) (nodes P.main)
