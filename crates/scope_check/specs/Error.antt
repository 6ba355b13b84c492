-- What errors say, and what the rules of scope answer.
use Rattle.std.specs.Prelude.{◌≡◌, ℕ, List, Option, Some, None, IfSome, option_map, Result, Ok, Err}
use Rattle.spec_calculus.specs.Syntax as calculus
use Rattle.spec_protocol_tokens.specs.Token.{Token}
use Rattle.spec_protocol_scope.specs.Answers as own
use Rattle.spec_protocol_scope.specs.Answers.{◌>>=◌}
use Rattle.spec_protocol_scope.specs.Names.{Texts, Names}
use Rattle.spec_protocol_scope.specs.Processes.{main_process}
use Rattle.spec_protocol_scope.specs.Queries.{queries}
use Rattle.spec_protocol_grammar.specs.Sketch.{FileSketch}
use Rattle.spec_protocol_scope.specs.Spells as spells
use Rattle.spec_protocol_scope.specs.Spells.{Scoped}
use Rattle.pi_tree.specs.declared.protocols.Protocol.{Protocol}
use Rattle.pi_tree.specs.Protocols.{protocol_of}
use Rattle.scope_declarations.specs.declared.stop.Stop.{Stop}
use Rattle.scope_declarations.specs.declared.stop.Stop.TheVariants as stop
use Rattle.scope_declarations.specs.Answer.{code_of}
use Rattle.scope_check.specs.declared.error.ScopeError.{ScopeError}
use Rattle.scope_check.specs.declared.error.ScopeError.TheVariants.{Unknown, Twice, Arity, Kind, LooseVariable, TooMany, AmbiguousNew, PhaseOrder, LongFile, Memory}

-- the refusal and its place; want of memory is none
abbrev pub refusal_of : ScopeError → Option (spells.Refusal × ℕ)
refusal_of (Unknown place) = Some (Scoped own.Unknown, place)
refusal_of (Twice place) = Some (Scoped own.Twice, place)
refusal_of (Arity place) = Some (Scoped own.Arity, place)
refusal_of (Kind place) = Some (Scoped own.Kind, place)
refusal_of (LooseVariable place) = Some (Scoped own.LooseVariable, place)
refusal_of (TooMany place) = Some (Scoped own.TooMany, place)
refusal_of (AmbiguousNew place) = Some (Scoped own.AmbiguousNew, place)
refusal_of (PhaseOrder place) = Some (Scoped own.PhaseOrder, place)
refusal_of LongFile = Some (spells.LongFile, 0)
refusal_of (Memory e) = None

-- the fault and the number of its token; want of memory is none
abbrev pub fault_of : Stop → Option (own.Code × ℕ)
fault_of (stop.Fault code token) = Some (code_of code, token)
fault_of (stop.Memory e) = None

-- the refusal that a fault is, with the place of its token
abbrev pub placed : List ℕ → List Token → Option (own.Code × ℕ) → Option (spells.Refusal × ℕ)
placed bytes tokens fault = option_map (λ f. (Scoped f.0, spells.place_of bytes tokens f.1)) fault

-- the bytes are refused so, and there; want of memory says nothing of them
abbrev pub IsRefusalOf : List ℕ → ScopeError → Type 0
IsRefusalOf bytes error = IfSome (refusal_of error) (λ refusal. spells.Refuses bytes refusal.0 refusal.1)

-- this protocol, unless memory ran out
abbrev pub GivesProtocol : calculus.Protocol → Result Protocol ScopeError → Type 0
GivesProtocol p (Ok found) = protocol_of found ≡ p
GivesProtocol p (Err error) = refusal_of error ≡ None

-- this refusal at this place, unless memory ran out
abbrev pub GivesRefusal : spells.Refusal → ℕ → Result Protocol ScopeError → Type 0
GivesRefusal refusal place (Ok found) = ⊥
GivesRefusal refusal place (Err error) = IfSome (refusal_of error) (λ found. (found.0 ≡ refusal) × (found.1 ≡ place))

-- the answer is this fault at a token that stands at that place
pub record IsFault (bytes : List ℕ) (tokens : List Token) (code : own.Code) (place : ℕ) (answer : own.Answer calculus.Protocol) : Type 0 where
  pub token : ℕ
  pub refused : answer ≡ own.fault code token
  pub stands : spells.place_of bytes tokens token ≡ place

-- the refusal is the fault that the rules answer
abbrev pub IsFaultOf : List ℕ → List Token → own.Answer calculus.Protocol → spells.Refusal → ℕ → Type 0
IsFaultOf bytes tokens answer (Scoped code) place = IsFault bytes tokens code place answer
IsFaultOf bytes tokens answer refusal place = ⊥

-- the error is the fault that the rules answer; want of memory says nothing
abbrev pub IsError : List ℕ → List Token → own.Answer calculus.Protocol → ScopeError → Type 0
IsError bytes tokens answer error = IfSome (refusal_of error) (λ refusal. IsFaultOf bytes tokens answer refusal.0 refusal.1)

-- the protocol that the rules answer, or their fault, unless memory ran out
abbrev pub AnswersScope : List ℕ → List Token → own.Answer calculus.Protocol → Result Protocol ScopeError → Type 0
AnswersScope bytes tokens answer (Ok p) = answer ≡ Ok (protocol_of p)
AnswersScope bytes tokens answer (Err e) = IsError bytes tokens answer e

-- the main process and the queries of a file that declares these names
abbrev pub main_then_queries : Texts → Names → FileSketch → own.Answer (calculus.Process × List calculus.Query)
main_then_queries text names f = do
  main ← main_process (record { text = text; names = names }) f.main
  asked ← queries (record { text = text; names = names }) main 0 f.declarations
  Ok (main, asked)
