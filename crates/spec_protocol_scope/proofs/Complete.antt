-- Bytes spell a protocol or are refused.
use Rattle.std.proofs.Common.{◌≡◌, ℕ, ◌≤◌, inl, inr, List, length, Ok, Err, refl}
use Rattle.std.proofs.lemmas.Bool.{cases_lt}
use Rattle.spec_calculus.specs.Bounds.{most_bytes}
use Rattle.spec_calculus.specs.Syntax.{Protocol}
use Rattle.spec_protocol_tokens.specs.Token.{Token}
use Rattle.spec_protocol_tokens.specs.Lexed.{Lexed}
use Rattle.spec_protocol_tokens.specs.Laws as tokens
use Rattle.spec_protocol_tokens.proofs.Answers.{has_answer}
use Rattle.spec_protocol_grammar.specs.Classes.{source}
use Rattle.spec_protocol_grammar.specs.Sketch.{FileSketch}
use Rattle.spec_protocol_grammar.specs.Spelling.{IsSketch}
use Rattle.spec_protocol_grammar.specs.Laws as grammar
use Rattle.spec_protocol_grammar.proofs.Ended.{ended}
use Rattle.spec_protocol_grammar.proofs.Tireless as reading
use Rattle.spec_protocol_scope.specs.Answers.{Answer}
use Rattle.spec_protocol_scope.specs.Scope.{scope}
use Rattle.spec_protocol_scope.specs.Spells.{texts, place_of, Lexical, Unexpected, TooDeep, Scoped, LongFile, HasAnswer}

by_scope : (bytes : List ℕ) (few : length bytes ≤ most_bytes) (ts : List Token) (lexed : Lexed bytes ts) (f : FileSketch) (read : IsSketch (source bytes ts) f) (answer : Answer Protocol) → scope (texts bytes ts) f ≡ answer → HasAnswer bytes
by_scope bytes few ts lexed f read (Ok p) is = inl (p, (few, record { tokens = ts; lexed = lexed; sketch = f; read = read; scoped = is }))
by_scope bytes few ts lexed f read (Err e) is =
    inr (Scoped e.code, (place_of bytes ts e.token, (few, record { tokens = ts; lexed = lexed; sketch = f; read = read; token = e.token; refused = is; stands = refl })))

by_grammar : (bytes : List ℕ) (few : length bytes ≤ most_bytes) (ts : List Token) (lexed : Lexed bytes ts) → grammar.HasAnswer (source bytes ts) (length ts) → HasAnswer bytes
by_grammar bytes few ts lexed (inl (f, read)) = by_scope bytes few ts lexed f read (scope (texts bytes ts) f) refl
by_grammar bytes few ts lexed (inr (inl (i, refused))) = inr (Unexpected, (place_of bytes ts i, (few, record { tokens = ts; lexed = lexed; token = i; refused = refused; stands = refl })))
by_grammar bytes few ts lexed (inr (inr (i, refused))) = inr (TooDeep, (place_of bytes ts i, (few, record { tokens = ts; lexed = lexed; token = i; refused = refused; stands = refl })))

by_tokens : (bytes : List ℕ) (few : length bytes ≤ most_bytes) → tokens.HasAnswer bytes → HasAnswer bytes
by_tokens bytes few (inl (ts, lexed)) = by_grammar bytes few ts lexed (reading.has_answer (source bytes ts) (length ts) (ended bytes ts))
by_tokens bytes few (inr (why, (place, stops))) = inr (Lexical why, (place, (few, stops)))

pub always_answered : (bytes : List ℕ) → HasAnswer bytes
always_answered bytes = elim (cases_lt most_bytes (length bytes)) [ inl long ↦ inr (LongFile, (0, (long, refl))) | inr few ↦ by_tokens bytes few (has_answer bytes) ]
