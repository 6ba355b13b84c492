-- The codes of refused protocols, and how they are printed.
use Rattle.std.specs.Prelude.{ℕ, List, codes}
use Rattle.spec_protocol_tokens.specs.Piece as lexical
use Rattle.spec_protocol_scope.specs.Answers as scope
use Rattle.spec_protocol_scope.specs.Spells.{Refusal, Lexical, Scoped}
use Rattle.spec_protocol_scope.specs.Spells as spells
use Rattle.protocol_loading.specs.declared.codes.ProtocolCode.{ProtocolCode}
use Rattle.protocol_loading.specs.declared.codes.ProtocolCode.TheVariants as code

-- why a protocol is refused, by its code
abbrev pub refusal_by : ProtocolCode → Refusal
refusal_by code.BadByte = Lexical lexical.BadByte
refusal_by code.OpenComment = Lexical lexical.OpenComment
refusal_by code.LongNumber = Lexical lexical.LongNumber
refusal_by code.Unexpected = spells.Unexpected
refusal_by code.TooDeep = spells.TooDeep
refusal_by code.Unknown = Scoped scope.Unknown
refusal_by code.Twice = Scoped scope.Twice
refusal_by code.Arity = Scoped scope.Arity
refusal_by code.Kind = Scoped scope.Kind
refusal_by code.LooseVariable = Scoped scope.LooseVariable
refusal_by code.TooMany = Scoped scope.TooMany
refusal_by code.AmbiguousNew = Scoped scope.AmbiguousNew
refusal_by code.LongFile = spells.LongFile
refusal_by code.PhaseOrder = Scoped scope.PhaseOrder

-- the code of a refused protocol, and its name
abbrev pub code_text : Refusal → List ℕ
code_text (Lexical lexical.BadByte) = codes "1 BadByte"
code_text (Lexical lexical.OpenComment) = codes "2 OpenComment"
code_text (Lexical lexical.LongNumber) = codes "3 LongNumber"
code_text spells.Unexpected = codes "4 Unexpected"
code_text spells.TooDeep = codes "5 TooDeep"
code_text (Scoped scope.Unknown) = codes "6 Unknown"
code_text (Scoped scope.Twice) = codes "7 Twice"
code_text (Scoped scope.Arity) = codes "8 Arity"
code_text (Scoped scope.Kind) = codes "9 Kind"
code_text (Scoped scope.LooseVariable) = codes "10 LooseVariable"
code_text (Scoped scope.TooMany) = codes "11 TooMany"
code_text (Scoped scope.AmbiguousNew) = codes "12 AmbiguousNew"
code_text spells.LongFile = codes "13 LongFile"
code_text (Scoped scope.PhaseOrder) = codes "14 PhaseOrder"
