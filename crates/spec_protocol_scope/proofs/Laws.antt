-- Bytes spell one protocol at most, or are refused for one reason at one place at most, and never both.
use Rattle.std.proofs.Common.{◌≡◌, ℕ, ◌<◌, ◌≤◌, List, length, Ok, Err, refl, sym, ap, subst, ◌∙◌, arith}
use Rattle.spec_calculus.specs.Bounds.{most_bytes}
use Rattle.spec_calculus.specs.Syntax.{Protocol}
use Rattle.spec_protocol_tokens.specs.Token.{Token}
use Rattle.spec_protocol_tokens.specs.Lexed.{Lexed}
use Rattle.spec_protocol_tokens.proofs.Answers.{Lexed-one, Stops-one, Lexed-not_Stops}
use Rattle.spec_protocol_grammar.specs.Classes.{source}
use Rattle.spec_protocol_grammar.specs.Sketch.{FileSketch}
use Rattle.spec_protocol_grammar.specs.Spelling.{IsSketch}
use Rattle.spec_protocol_grammar.specs.Refusals.{IsUnexpected, IsTooDeep}
use Rattle.spec_protocol_grammar.proofs.Ended.{not_ended}
use Rattle.spec_protocol_grammar.proofs.Answers as grammar
use Rattle.spec_protocol_scope.specs.Answers.{Answer, Code, fault}
use Rattle.spec_protocol_scope.specs.Scope.{scope}
use Rattle.spec_protocol_scope.specs.Spells.{texts, place_of, IsProtocolOf, Spells, Refusal, Lexical, Unexpected, TooDeep, Scoped, LongFile, IsUnexpectedAt, IsTooDeepAt, IsFaultAt, IsRefusedAt, Refuses}

-- a token of which this holds stands at that place
record TokenAt (bytes : List ℕ) (tokens : List Token) (P : ℕ → Type 0) (place : ℕ) : Type 0 where
  token : ℕ
  holds : P token
  stands : place_of bytes tokens token ≡ place

-- the sketch of the tokens has this answer
record Answered (bytes : List ℕ) (tokens : List Token) (answer : Answer Protocol) : Type 0 where
  sketch : FileSketch
  read : IsSketch (source bytes tokens) sketch
  scoped : scope (texts bytes tokens) sketch ≡ answer

-- two answers of a sketch are one
one_answer : (bytes : List ℕ) (tokens : List Token) (a b : Answer Protocol) → Answered bytes tokens a → Answered bytes tokens b → a ≡ b
one_answer bytes tokens a b x y =
    let same : x.sketch ≡ y.sketch = grammar.one_sketch (source bytes tokens) x.sketch y.sketch x.read y.read in
    sym x.scoped ∙ (ap (scope (texts bytes tokens)) same ∙ y.scoped)

-- where two tokens are one, so are their places
one_place : (bytes : List ℕ) (tokens : List Token) (m n i j : ℕ) → m ≡ n → place_of bytes tokens m ≡ i → place_of bytes tokens n ≡ j → i ≡ j
one_place bytes tokens m n i j e a b = sym a ∙ (ap (place_of bytes tokens) e ∙ b)

-- what is said of the bytes by their tokens
answered : (bytes : List ℕ) (tokens : List Token) (p : Protocol) → Lexed bytes tokens → IsProtocolOf bytes p → Answered bytes tokens (Ok p)
answered bytes tokens p lexed s = subst (λ (ts : List Token). Answered bytes ts (Ok p)) (Lexed-one bytes s.tokens tokens s.lexed lexed) (record { sketch = s.sketch; read = s.read; scoped = s.scoped })

unexpected_at : (bytes : List ℕ) (tokens : List Token) (place : ℕ) → Lexed bytes tokens → IsUnexpectedAt bytes place → TokenAt bytes tokens (IsUnexpected (source bytes tokens) (length tokens)) place
unexpected_at bytes tokens place lexed r = subst (λ (ts : List Token). TokenAt bytes ts (IsUnexpected (source bytes ts) (length ts)) place) (Lexed-one bytes r.tokens tokens r.lexed lexed) (record { token = r.token; holds = r.refused; stands = r.stands })

deep_at : (bytes : List ℕ) (tokens : List Token) (place : ℕ) → Lexed bytes tokens → IsTooDeepAt bytes place → TokenAt bytes tokens (IsTooDeep (source bytes tokens)) place
deep_at bytes tokens place lexed r = subst (λ (ts : List Token). TokenAt bytes ts (IsTooDeep (source bytes ts)) place) (Lexed-one bytes r.tokens tokens r.lexed lexed) (record { token = r.token; holds = r.refused; stands = r.stands })

fault_at : (bytes : List ℕ) (tokens : List Token) (code : Code) (place : ℕ) → Lexed bytes tokens → IsFaultAt bytes code place → TokenAt bytes tokens (λ n. Answered bytes tokens (fault code n)) place
fault_at bytes tokens code place lexed r = subst (λ (ts : List Token). TokenAt bytes ts (λ n. Answered bytes ts (fault code n)) place) (Lexed-one bytes r.tokens tokens r.lexed lexed) (record { token = r.token; holds = record { sketch = r.sketch; read = r.read; scoped = r.refused }; stands = r.stands })

abbrev code_in : Answer Protocol → Code → Code
code_in (Ok p) d = d
code_in (Err e) d = e.code

abbrev token_in : Answer Protocol → ℕ
token_in (Ok p) = 0
token_in (Err e) = e.token

one_fault : (bytes : List ℕ) (c d : Code) (i j : ℕ) → IsFaultAt bytes c i → IsFaultAt bytes d j → (c ≡ d) × (i ≡ j)
one_fault bytes c d i j a b =
    let x = fault_at bytes a.tokens c i a.lexed a in
    let y = fault_at bytes a.tokens d j a.lexed b in
    let same = one_answer bytes a.tokens (fault c x.token) (fault d y.token) x.holds y.holds in
    (ap (λ (z : Answer Protocol). code_in z c) same, one_place bytes a.tokens x.token y.token i j (ap token_in same) x.stands y.stands)

-- a sketch's answer goes with no refusal of its tokens
not_unexpected : (bytes : List ℕ) (tokens : List Token) (a : Answer Protocol) (place : ℕ) → Answered bytes tokens a → TokenAt bytes tokens (IsUnexpected (source bytes tokens) (length tokens)) place → ⊥
not_unexpected bytes tokens a place x y = grammar.sketch_not_unexpected (source bytes tokens) (length tokens) y.token x.sketch (not_ended bytes tokens) x.read y.holds

not_deep : (bytes : List ℕ) (tokens : List Token) (a : Answer Protocol) (place : ℕ) → Answered bytes tokens a → TokenAt bytes tokens (IsTooDeep (source bytes tokens)) place → ⊥
not_deep bytes tokens a place x y = grammar.sketch_not_deep (source bytes tokens) x.sketch y.token x.read y.holds

pub spells_one : (bytes : List ℕ) (p q : Protocol) → Spells bytes p → Spells bytes q → p ≡ q
spells_one bytes p q a b =
    let same = one_answer bytes a.1.tokens (Ok p) (Ok q) (answered bytes a.1.tokens p a.1.lexed a.1) (answered bytes a.1.tokens q a.1.lexed b.1) in cc

protocol_not_refused : (bytes : List ℕ) (p : Protocol) (r : Refusal) (i : ℕ) → IsProtocolOf bytes p → IsRefusedAt bytes r i → ⊥
protocol_not_refused bytes p (Lexical why) i s r = Lexed-not_Stops bytes s.tokens why i s.lexed r
protocol_not_refused bytes p Unexpected i s r = not_unexpected bytes r.tokens (Ok p) i (answered bytes r.tokens p r.lexed s) (unexpected_at bytes r.tokens i r.lexed r)
protocol_not_refused bytes p TooDeep i s r = not_deep bytes r.tokens (Ok p) i (answered bytes r.tokens p r.lexed s) (deep_at bytes r.tokens i r.lexed r)
protocol_not_refused bytes p (Scoped code) i s r =
    let at = fault_at bytes r.tokens code i r.lexed r in
    let same = one_answer bytes r.tokens (Ok p) (fault code at.token) (answered bytes r.tokens p r.lexed s) at.holds in cc
protocol_not_refused bytes p LongFile i s r = r

pub never_both : (bytes : List ℕ) (p : Protocol) (r : Refusal) (i : ℕ) → Spells bytes p → Refuses bytes r i → ⊥
never_both bytes p (Lexical why) i s r = protocol_not_refused bytes p (Lexical why) i s.1 r.1
never_both bytes p Unexpected i s r = protocol_not_refused bytes p Unexpected i s.1 r.1
never_both bytes p TooDeep i s r = protocol_not_refused bytes p TooDeep i s.1 r.1
never_both bytes p (Scoped code) i s r = protocol_not_refused bytes p (Scoped code) i s.1 r.1
never_both bytes p LongFile i s r = omega (arith, r.0, s.0)

-- two refusals other than of a long file are one
one_refused : (bytes : List ℕ) (r s : Refusal) (i j : ℕ) → IsRefusedAt bytes r i → IsRefusedAt bytes s j → (r ≡ s) × (i ≡ j)
one_refused bytes (Lexical why) (Lexical other) i j a b = let same = Stops-one bytes why other i j a b in (ap Lexical same.0, same.1)
one_refused bytes (Lexical why) Unexpected i j a b = absurd (Lexed-not_Stops bytes b.tokens why i b.lexed a)
one_refused bytes (Lexical why) TooDeep i j a b = absurd (Lexed-not_Stops bytes b.tokens why i b.lexed a)
one_refused bytes (Lexical why) (Scoped code) i j a b = absurd (Lexed-not_Stops bytes b.tokens why i b.lexed a)
one_refused bytes (Lexical why) LongFile i j a b = absurd b
one_refused bytes Unexpected (Lexical why) i j a b = absurd (Lexed-not_Stops bytes a.tokens why j a.lexed b)
one_refused bytes Unexpected Unexpected i j a b =
    let x = unexpected_at bytes a.tokens i a.lexed a in
    let y = unexpected_at bytes a.tokens j a.lexed b in
    (refl, one_place bytes a.tokens x.token y.token i j (grammar.one_unexpected (source bytes a.tokens) (length a.tokens) x.token y.token x.holds y.holds) x.stands y.stands)
one_refused bytes Unexpected TooDeep i j a b =
    let x = unexpected_at bytes a.tokens i a.lexed a in
    let y = deep_at bytes a.tokens j a.lexed b in
    absurd (grammar.unexpected_not_deep (source bytes a.tokens) (length a.tokens) x.token y.token x.holds y.holds)
one_refused bytes Unexpected (Scoped code) i j a b =
    let y = fault_at bytes a.tokens code j a.lexed b in
    absurd (not_unexpected bytes a.tokens (fault code y.token) i y.holds (unexpected_at bytes a.tokens i a.lexed a))
one_refused bytes Unexpected LongFile i j a b = absurd b
one_refused bytes TooDeep (Lexical why) i j a b = absurd (Lexed-not_Stops bytes a.tokens why j a.lexed b)
one_refused bytes TooDeep Unexpected i j a b =
    let x = deep_at bytes a.tokens i a.lexed a in
    let y = unexpected_at bytes a.tokens j a.lexed b in
    absurd (grammar.unexpected_not_deep (source bytes a.tokens) (length a.tokens) y.token x.token y.holds x.holds)
one_refused bytes TooDeep TooDeep i j a b =
    let x = deep_at bytes a.tokens i a.lexed a in
    let y = deep_at bytes a.tokens j a.lexed b in
    (refl, one_place bytes a.tokens x.token y.token i j (grammar.one_deep (source bytes a.tokens) x.token y.token x.holds y.holds) x.stands y.stands)
one_refused bytes TooDeep (Scoped code) i j a b =
    let y = fault_at bytes a.tokens code j a.lexed b in
    absurd (not_deep bytes a.tokens (fault code y.token) i y.holds (deep_at bytes a.tokens i a.lexed a))
one_refused bytes TooDeep LongFile i j a b = absurd b
one_refused bytes (Scoped code) (Lexical why) i j a b = absurd (Lexed-not_Stops bytes a.tokens why j a.lexed b)
one_refused bytes (Scoped code) Unexpected i j a b =
    let x = fault_at bytes a.tokens code i a.lexed a in
    absurd (not_unexpected bytes a.tokens (fault code x.token) j x.holds (unexpected_at bytes a.tokens j a.lexed b))
one_refused bytes (Scoped code) TooDeep i j a b =
    let x = fault_at bytes a.tokens code i a.lexed a in
    absurd (not_deep bytes a.tokens (fault code x.token) j x.holds (deep_at bytes a.tokens j a.lexed b))
one_refused bytes (Scoped code) (Scoped other) i j a b = let same = one_fault bytes code other i j a b in (ap Scoped same.0, same.1)
one_refused bytes (Scoped code) LongFile i j a b = absurd b
one_refused bytes LongFile s i j a b = absurd a

-- a file that is not too long is refused as its bytes are
short_refused : (bytes : List ℕ) (r : Refusal) (i : ℕ) → length bytes ≤ most_bytes → Refuses bytes r i → IsRefusedAt bytes r i
short_refused bytes (Lexical why) i short r = r.1
short_refused bytes Unexpected i short r = r.1
short_refused bytes TooDeep i short r = r.1
short_refused bytes (Scoped code) i short r = r.1
short_refused bytes LongFile i short r = omega (arith, r.0)

too_long : (n : ℕ) → most_bytes < n → n ≤ most_bytes → ⊥
too_long n a b = omega arith

-- and one that is too long for that alone
long_refused : (bytes : List ℕ) (r : Refusal) (i : ℕ) → most_bytes < length bytes → Refuses bytes r i → (r ≡ LongFile) × (i ≡ 0)
long_refused bytes (Lexical why) i long r = absurd (too_long (length bytes) long r.0)
long_refused bytes Unexpected i long r = absurd (too_long (length bytes) long r.0)
long_refused bytes TooDeep i long r = absurd (too_long (length bytes) long r.0)
long_refused bytes (Scoped code) i long r = absurd (too_long (length bytes) long r.0)
long_refused bytes LongFile i long r = (refl, r.1)

both_short : (bytes : List ℕ) (r s : Refusal) (i j : ℕ) → length bytes ≤ most_bytes → Refuses bytes r i → Refuses bytes s j → (r ≡ s) × (i ≡ j)
both_short bytes r s i j short a b = one_refused bytes r s i j (short_refused bytes r i short a) (short_refused bytes s j short b)

pub refuses_one : (bytes : List ℕ) (r s : Refusal) (i j : ℕ) → Refuses bytes r i → Refuses bytes s j → (r ≡ s) × (i ≡ j)
refuses_one bytes (Lexical why) s i j a b = both_short bytes (Lexical why) s i j a.0 a b
refuses_one bytes Unexpected s i j a b = both_short bytes Unexpected s i j a.0 a b
refuses_one bytes TooDeep s i j a b = both_short bytes TooDeep s i j a.0 a b
refuses_one bytes (Scoped code) s i j a b = both_short bytes (Scoped code) s i j a.0 a b
refuses_one bytes LongFile s i j a b = let other = long_refused bytes s j a.0 b in (sym other.0, a.1 ∙ sym other.1)
