-- What errors say.
use Rattle.std.specs.Prelude.{ℕ, Option, Some, None}
use Rattle.spec_certificate_text.specs.Terms as terms
use Rattle.spec_certificate_text.specs.Terms.{Code}
use Rattle.fact_reader.specs.declared.error.CertError.{CertError}
use Rattle.fact_reader.specs.declared.error.CertError.TheVariants.{Syntax, Number, Symbol, Arity, Count, NodeOrder, NodeLarge, Memory}

-- the code of the refusal and its place; want of memory is none
abbrev pub refusal_of : CertError → Option (Code × ℕ)
refusal_of (Syntax place) = Some (terms.Syntax, place)
refusal_of (Number place) = Some (terms.Number, place)
refusal_of (Symbol place) = Some (terms.Symbol, place)
refusal_of (Arity place) = Some (terms.Arity, place)
refusal_of (Count place) = Some (terms.Count, place)
refusal_of (NodeOrder place) = Some (terms.NodeOrder, place)
refusal_of (NodeLarge place) = Some (terms.NodeLarge, place)
refusal_of (Memory e) = None

-- the numbers of the codes
abbrev pub code_number : Code → ℕ
code_number terms.Syntax = 1
code_number terms.Number = 2
code_number terms.Symbol = 3
code_number terms.Arity = 4
code_number terms.Count = 5
code_number terms.NodeOrder = 7
code_number terms.NodeLarge = 8

abbrev pub in_numbers : Code × ℕ → ℕ × ℕ
in_numbers refusal = (code_number refusal.0, refusal.1)
