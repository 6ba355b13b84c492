-- Tables of spellings, as contracts see them.
use Rattle.std.specs.Prelude.{ℕ, List, map}
use Rattle.std.specs.Borrow.{Bor}
use Rattle.spec_protocol_grammar.specs.declared.class.Class.{Class}

-- a spelling and its class
abbrev pub entry_of : Bor (List ℕ) × Class → List ℕ × Class
entry_of entry = (entry.0.now, entry.1)

-- a table of spellings
abbrev pub table_of : List (Bor (List ℕ) × Class) → List (List ℕ × Class)
table_of entries = map entry_of entries
