-- What the values of the program stand for.
use Rattle.std.specs.Prelude.{ℕ, List, map, option_map, Result, Ok, Err}
use Rattle.spec_certificate_text.specs.Terms as terms
use Rattle.spec_certificate_text.specs.Terms.{Code}
use Rattle.choice_text.specs.declared.parts.Fault as declared
use Rattle.choice_text.specs.declared.parts.Refusal.{Refusal}
use Rattle.choice_text.specs.declared.parts.Refusal.TheVariants.{Syntax, Number, Count}
use Rattle.choice_text.specs.declared.parts.Split.{Split}
use Rattle.choice_text.specs.declared.place.Place as declared_place
use Rattle.choice_text.specs.declared.place.Place.TheVariants as place
use Rattle.choice_text.specs.declared.place.Line as declared_line
use Rattle.choice_text.specs.declared.place.Line.TheVariants as line
use Rattle.choice_text.specs.declared.reading.Read.{Read}
use Rattle.choice_text.specs.declared.splitting.Parts.{Parts}
use Rattle.choice_text.specs.Lines.{Place, Elsewhere, Within, Line, Head, ChoosingHead, Node, Clause, Says, Faulty, Other}
use Rattle.choice_text.specs.Splitting.{Fault, Splitting}

abbrev pub code_of : Refusal → Code
code_of Syntax = terms.Syntax
code_of Number = terms.Number
code_of Count = terms.Count

abbrev pub fault_of : declared.Fault → Fault
fault_of fault = record { line = fault.line; code = code_of fault.refusal }

abbrev pub split_of : Split → Splitting
split_of split = record { plain = split.plain.items; said = split.said; fault = option_map fault_of split.fault }

abbrev pub parts_of : Parts → Splitting
parts_of parts = record { plain = parts.plain.items; said = map (λ said. said.items) parts.said.items; fault = option_map fault_of parts.fault }

abbrev pub place_of : declared_place.Place → Place
place_of place.Elsewhere = Elsewhere
place_of (place.Within clauses last) = Within clauses last

abbrev pub line_by : declared_line.Line → Line
line_by line.Head = Head
line_by line.ChoosingHead = ChoosingHead
line_by line.Node = Node
line_by line.Clause = Clause
line_by (line.Says choice) = Says choice.clause choice.hypothesis
line_by (line.Faulty refusal) = Faulty (code_of refusal)
line_by line.Other = Other

-- a number that was read, and what stands behind it, or why there is none
abbrev pub read_of : Result Read Refusal → Result (ℕ × List ℕ) Code
read_of (Ok read) = Ok (read.number, read.behind.now)
read_of (Err refusal) = Err (code_of refusal)
