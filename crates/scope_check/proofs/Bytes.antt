-- What is answered of the tokens of some bytes, said of the bytes.
use Rattle.std.proofs.Common.{◌≡◌, ◌≤◌, ℕ, List, length, Option, None, Some, IfSome, Result, Ok, Err, IfOk, IfErr, refl, sym, subst}
use Rattle.spec_calculus.specs.Bounds.{most_bytes}
use Rattle.spec_calculus.specs.Syntax as calculus
use Rattle.spec_protocol_tokens.specs.Token.{Token}
use Rattle.spec_protocol_tokens.specs.Lexed.{Lexed}
use Rattle.spec_protocol_grammar.specs.Classes.{source}
use Rattle.spec_protocol_grammar.specs.Sketch.{FileSketch}
use Rattle.spec_protocol_grammar.specs.Spelling.{IsSketch}
use Rattle.spec_protocol_scope.specs.Answers as own
use Rattle.spec_protocol_scope.specs.Scope.{scope}
use Rattle.spec_protocol_scope.specs.Spells.{texts, IsFaultAt, Spells, Refusal, Lexical, Unexpected, TooDeep, Scoped, LongFile, Refuses}
use Rattle.pi_tree.specs.declared.protocols.Protocol.{Protocol}
use Rattle.pi_tree.specs.Protocols.{protocol_of}
use Rattle.scope_check.specs.declared.error.ScopeError.{ScopeError}
use Rattle.scope_declarations.specs.declared.stop.Stop.{Stop}
use Rattle.scope_declarations.specs.declared.stop.Stop.TheVariants as stop
use Rattle.scope_declarations.specs.Answer.{Stops}
use Rattle.scope_check.specs.Error.{refusal_of, fault_of, placed, IsFault, IsFaultOf, IsError, AnswersScope, IsRefusalOf, GivesProtocol, GivesRefusal}

-- the tokens of some bytes, and what is answered of their sketch
pub record IsAnswered (bytes : List ℕ) (result : Result Protocol ScopeError) : Type 0 where
  pub tokens : List Token
  pub lexed : Lexed bytes tokens
  pub sketch : FileSketch
  pub read : IsSketch (source bytes tokens) sketch
  pub answers : AnswersScope bytes tokens (scope (texts bytes tokens) sketch) result

pub is_read : (bytes : List ℕ) (result : Result Protocol ScopeError) → length bytes ≤ most_bytes → IsAnswered bytes result → IfOk result (λ p. Spells bytes (protocol_of p))
is_read bytes (Ok p) short a = (short, record { tokens = a.tokens; lexed = a.lexed; sketch = a.sketch; read = a.read; scoped = a.answers })
is_read bytes (Err e) short a = tt

fault_at : (bytes : List ℕ) (tokens : List Token) (f : FileSketch) (code : own.Code) (place : ℕ) → Lexed bytes tokens → IsSketch (source bytes tokens) f
    → IsFault bytes tokens code place (scope (texts bytes tokens) f) → IsFaultAt bytes code place
fault_at bytes tokens f code place lexed read fault =
    record { tokens = tokens; lexed = lexed; sketch = f; read = read; token = fault.token; refused = fault.refused; stands = fault.stands }

refused_by : (bytes : List ℕ) (tokens : List Token) (f : FileSketch) (refusal : Refusal) (place : ℕ) → length bytes ≤ most_bytes → Lexed bytes tokens → IsSketch (source bytes tokens) f
    → IsFaultOf bytes tokens (scope (texts bytes tokens) f) refusal place → Refuses bytes refusal place
refused_by bytes tokens f (Scoped code) place short lexed read fault = (short, fault_at bytes tokens f code place lexed read fault)
refused_by bytes tokens f (Lexical why) place short lexed read fault = absurd fault
refused_by bytes tokens f Unexpected place short lexed read fault = absurd fault
refused_by bytes tokens f TooDeep place short lexed read fault = absurd fault
refused_by bytes tokens f LongFile place short lexed read fault = absurd fault

refused_at : (bytes : List ℕ) (tokens : List Token) (f : FileSketch) (refusal : Option (Refusal × ℕ)) → length bytes ≤ most_bytes → Lexed bytes tokens → IsSketch (source bytes tokens) f
    → IfSome refusal (λ r. IsFaultOf bytes tokens (scope (texts bytes tokens) f) r.0 r.1) → IfSome refusal (λ r. Refuses bytes r.0 r.1)
refused_at bytes tokens f None short lexed read h = tt
refused_at bytes tokens f (Some r) short lexed read h = refused_by bytes tokens f r.0 r.1 short lexed read h

pub is_refused : (bytes : List ℕ) (result : Result Protocol ScopeError) → length bytes ≤ most_bytes → IsAnswered bytes result → IfErr result (λ e. IsRefusalOf bytes e)
is_refused bytes (Ok p) short a = tt
is_refused bytes (Err e) short a = refused_at bytes a.tokens a.sketch (refusal_of e) short a.lexed a.read a.answers

-- the error of what the rules answer
pub stops_error : (bytes : List ℕ) (tokens : List Token) (s : Stop) (e : ScopeError) (answer : own.Answer calculus.Protocol) → Stops s answer → refusal_of e ≡ placed bytes tokens (fault_of s) → IsError bytes tokens answer e
stops_error bytes tokens (stop.Fault code token) e answer h is =
    subst (λ (o : Option (Refusal × ℕ)). IfSome o (λ r. IsFaultOf bytes tokens answer r.0 r.1)) (sym is) (record { token = token; refused = h; stands = refl })
stops_error bytes tokens (stop.Memory m) e answer h is =
    subst (λ (o : Option (Refusal × ℕ)). IfSome o (λ r. IsFaultOf bytes tokens answer r.0 r.1)) (sym is) tt

-- the laws of the definitions
abbrev pub OneProtocol : Type 0
OneProtocol = (bytes : List ℕ) (p q : calculus.Protocol) → Spells bytes p → Spells bytes q → p ≡ q

abbrev pub OneRefusal : Type 0
OneRefusal = (bytes : List ℕ) (r s : Refusal) (i j : ℕ) → Refuses bytes r i → Refuses bytes s j → (r ≡ s) × (i ≡ j)

abbrev pub NeverBoth : Type 0
NeverBoth = (bytes : List ℕ) (p : calculus.Protocol) (r : Refusal) (i : ℕ) → Spells bytes p → Refuses bytes r i → ⊥

-- bytes that spell a protocol give no other answer
pub accepts : OneProtocol → NeverBoth → (bytes : List ℕ) (result : Result Protocol ScopeError) → IfOk result (λ p. Spells bytes (protocol_of p)) → IfErr result (λ e. IsRefusalOf bytes e)
    → (p : calculus.Protocol) → Spells bytes p → GivesProtocol p result
accepts one never bytes (Ok found) read refused p spelled = one bytes (protocol_of found) p read spelled
accepts one never bytes (Err e) read refused p spelled = by_refusal (refusal_of e) refused
  where
    by_refusal : (refusal : Option (Refusal × ℕ)) → IfSome refusal (λ r. Refuses bytes r.0 r.1) → refusal ≡ None
    by_refusal None h = refl
    by_refusal (Some r) h = absurd (never bytes p r.0 r.1 spelled h)

-- bytes that are refused give no other answer
pub refuses : OneRefusal → NeverBoth → (bytes : List ℕ) (result : Result Protocol ScopeError) → IfOk result (λ p. Spells bytes (protocol_of p)) → IfErr result (λ e. IsRefusalOf bytes e)
    → (refusal : Refusal) (place : ℕ) → Refuses bytes refusal place → GivesRefusal refusal place result
refuses one never bytes (Ok found) read refused refusal place r = never bytes (protocol_of found) refusal place read r
refuses one never bytes (Err e) read refused refusal place r = by_refusal (refusal_of e) refused
  where
    by_refusal : (found : Option (Refusal × ℕ)) → IfSome found (λ x. Refuses bytes x.0 x.1) → IfSome found (λ x. (x.0 ≡ refusal) × (x.1 ≡ place))
    by_refusal None h = tt
    by_refusal (Some x) h = one bytes x.0 refusal x.1 place h r
