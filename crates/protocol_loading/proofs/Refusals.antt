-- What the steps of the reading come to.
use Rattle.std.proofs.Common.{◌≡◌, ℕ, zero, suc, ◌≤◌, List, [], ◌∷◌, length, drop, Option, None, Some, IfSome, refl, sym, subst, ◌∙◌, arith, slice_get}
use Rattle.std.specs.Option.{option_map_or}
use Rattle.spec_calculus.specs.Bounds.{most_bytes}
use Rattle.spec_protocol_tokens.specs.Token as token
use Rattle.spec_protocol_tokens.specs.Piece.{Refused, Nothing, piece}
use Rattle.spec_protocol_tokens.specs.Piece as piece
use Rattle.spec_protocol_tokens.specs.Lexed.{Lexed, Stops}
use Rattle.spec_protocol_tokens.specs.Laws.{Ascend}
use Rattle.spec_protocol_scope.specs.Spells.{Refusal, Refuses, Lexical, Unexpected, TooDeep, Scoped, LongFile, place_of}
use Rattle.pi_lexer.specs.declared.error.LexError.{LexError}
use Rattle.pi_lexer.specs.Answer as lexing
use Rattle.pi_lexer.specs.Error as lexer
use Rattle.pi_parser.specs.declared.error.ParseError.{ParseError}
use Rattle.pi_parser.specs.Answers as parsing
use Rattle.pi_parser.specs.Errors as parser
use Rattle.scope_check.specs.declared.error.ScopeError.{ScopeError}
use Rattle.scope_check.specs.Error as scoping
use Rattle.protocol_loading.specs.declared.reading.Stop.{Stop}
use Rattle.protocol_loading.specs.Reading.{refusal_of, by_grammar, lexical, grammatical, IsStopOf}

-- what a stop says is what an error says
said : (bytes : List ℕ) (s : Stop) (found : Option (Refusal × ℕ)) → refusal_of s ≡ found → IfSome found (λ r. Refuses bytes r.0 r.1) → IsStopOf bytes s
said bytes s found is h = subst (λ (o : Option (Refusal × ℕ)). IfSome o (λ r. Refuses bytes r.0 r.1)) (sym is) h

-- bytes that the lexer refuses
pub lex_refused : (bytes : List ℕ) (e : LexError) (s : Stop) → length bytes ≤ most_bytes → lexing.IsRefusalOf bytes e → refusal_of s ≡ lexical (lexer.refusal_of e) → IsStopOf bytes s
lex_refused bytes e s fits h is = said bytes s (lexical (lexer.refusal_of e)) is (by_refusal (lexer.refusal_of e) h)
  where
    by_refusal : (found : Option (piece.Refusal × ℕ)) → IfSome found (λ r. Stops bytes r.0 r.1) → IfSome (lexical found) (λ r. Refuses bytes r.0 r.1)
    by_refusal None h = tt
    by_refusal (Some r) h = (fits, h)

same_place : (bytes : List ℕ) (tokens : List token.Token) (n : ℕ) → place_of bytes tokens n ≡ parsing.place_at bytes tokens n
same_place bytes tokens n = by_option (slice_get tokens n)
  where
    by_option : (t : Option token.Token) → option_map_or (λ t. t.from) t (length bytes) ≡ parsing.place_from (length bytes) t
    by_option None = refl
    by_option (Some t) = refl

-- tokens that the parser refuses
refused_at : (bytes : List ℕ) (tokens : List token.Token) (why : parser.Refusal) (place : ℕ) → length bytes ≤ most_bytes → Lexed bytes tokens → parsing.IsRefusedAt bytes tokens why place → Refuses bytes (by_grammar why) place
refused_at bytes tokens parser.Unexpected place fits lexed (n, refused, e) = (fits, record { tokens = tokens; lexed = lexed; token = n; refused = refused; stands = same_place bytes tokens n ∙ sym e })
refused_at bytes tokens parser.TooDeep place fits lexed (n, refused, e) = (fits, record { tokens = tokens; lexed = lexed; token = n; refused = refused; stands = same_place bytes tokens n ∙ sym e })

pub parse_refused : (bytes : List ℕ) (tokens : List token.Token) (e : ParseError) (s : Stop) → length bytes ≤ most_bytes → Lexed bytes tokens → parsing.IsRefusalOf bytes tokens e → refusal_of s ≡ grammatical (parser.refusal_of e) → IsStopOf bytes s
parse_refused bytes tokens e s fits lexed h is = said bytes s (grammatical (parser.refusal_of e)) is (by_refusal (parser.refusal_of e) h)
  where
    by_refusal : (found : Option (parser.Refusal × ℕ)) → IfSome found (λ r. parsing.IsRefusedAt bytes tokens r.0 r.1) → IfSome (grammatical found) (λ r. Refuses bytes r.0 r.1)
    by_refusal None h = tt
    by_refusal (Some r) h = refused_at bytes tokens r.0 r.1 fits lexed h

-- sketches that the rules of scope refuse
pub scope_refused : (bytes : List ℕ) (e : ScopeError) (s : Stop) → scoping.IsRefusalOf bytes e → refusal_of s ≡ scoping.refusal_of e → IsStopOf bytes s
scope_refused bytes e s h is = said bytes s (scoping.refusal_of e) is h

-- the law that the places of tokens rest on
abbrev pub SpansAscend : Type 0
SpansAscend = (bytes : List ℕ) (tokens : List token.Token) → Lexed bytes tokens → Ascend 0 tokens (length bytes)

-- what is no piece stands there
stopped_within : (bytes : List ℕ) (place : ℕ) (why : piece.Refusal) → piece (drop place bytes) ≡ Refused why → place ≤ length bytes
stopped_within bytes zero why e = omega arith
stopped_within [] (suc place) why e = let bad : Nothing ≡ Refused why = e in cc
stopped_within (b ∷ bytes) (suc place) why e = let h = stopped_within bytes place why e in omega arith

-- each token begins within the bytes, and so the place of a token does
ascend_ends : (ts : List token.Token) (start end : ℕ) → Ascend start ts end → start ≤ end
ascend_ends [] start end h = h
ascend_ends (t ∷ ts) start end h = omega (arith, h.0, h.1, ascend_ends ts t.to end h.2)

ascend_places : (bytes : List ℕ) (ts : List token.Token) (start n : ℕ) → Ascend start ts (length bytes) → option_map_or (λ t. t.from) (slice_get ts n) (length bytes) ≤ length bytes
ascend_places bytes [] start n h = omega arith
ascend_places bytes (t ∷ ts) start zero h = omega (arith, h.1, ascend_ends ts t.to (length bytes) h.2)
ascend_places bytes (t ∷ ts) start (suc n) h = ascend_places bytes ts t.to n h.2

place_within : SpansAscend → (bytes : List ℕ) (tokens : List token.Token) (n place : ℕ) → Lexed bytes tokens → place_of bytes tokens n ≡ place → place ≤ length bytes
place_within law bytes tokens n place lexed e = subst (λ (p : ℕ). p ≤ length bytes) e (ascend_places bytes tokens 0 n (law bytes tokens lexed))

-- what is refused stands within the bytes, or at their end
pub refusal_within : SpansAscend → (bytes : List ℕ) (why : Refusal) (place : ℕ) → Refuses bytes why place → place ≤ length bytes
refusal_within law bytes (Lexical why) place h = stopped_within bytes place why h.1.refused
refusal_within law bytes Unexpected place h = place_within law bytes h.1.tokens h.1.token place h.1.lexed h.1.stands
refusal_within law bytes TooDeep place h = place_within law bytes h.1.tokens h.1.token place h.1.lexed h.1.stands
refusal_within law bytes (Scoped code) place h = place_within law bytes h.1.tokens h.1.token place h.1.lexed h.1.stands
refusal_within law bytes LongFile place h = omega (arith, h.1)
