-- The tokens of some bytes stand within them, and what the parser answers of them.
use Rattle.std.proofs.Common.{◌≡◌, ℕ, ◌≤◌, List, [], ◌∷◌, map, length, Option, None, Some, IfSome, Result, Ok, Err, refl, ap, subst, arith}
use Rattle.spec_protocol_tokens.specs.Token.{Token}
use Rattle.spec_protocol_tokens.specs.Lexed.{Lexed}
use Rattle.spec_protocol_tokens.specs.Laws.{Ascend}
use Rattle.spec_protocol_tokens.proofs.Answers.{Lexed-Ascend}
use Rattle.spec_protocol_grammar.specs.declared.class.Class.{Class}
use Rattle.spec_protocol_grammar.specs.Classes.{class_of, words, source}
use Rattle.spec_protocol_grammar.specs.Sketch.{FileSketch}
use Rattle.spec_protocol_grammar.specs.Spelling.{IsSketch}
use Rattle.spec_protocol_grammar.specs.Refusals.{IsUnexpected, IsTooDeep}
use Rattle.spec_protocol_grammar.specs.Reading.{Read, Found, Unexpected, TooDeep, file_at}
use Rattle.spec_protocol_grammar.proofs.Answers as laws
use Rattle.spec_protocol_grammar.proofs.Ended.{not_ended, ended}
use Rattle.pi_parser.specs.Tokens.{AreWithin}
use Rattle.pi_parser.specs.declared.sketch.Sketch.{Sketch}
use Rattle.pi_parser.specs.declared.error.Fault.{Fault}
use Rattle.pi_parser.specs.declared.error.Fault.TheVariants as fault
use Rattle.pi_parser.specs.Files.{file_of}
use Rattle.pi_parser.specs.Gives.{Gives, most_of}
use Rattle.pi_parser.specs.Errors.{Refusal}
use Rattle.pi_parser.specs.Errors as errors
use Rattle.pi_parser.specs.Answers.{place_at, IsSpelled, IsRefusedIn, IsRefusedAt, Reads, placed}

ascend_later : (start end : ℕ) (ts : List Token) → Ascend start ts end → start ≤ end
ascend_later start end [] h = h
ascend_later start end (t ∷ ts) h = omega (arith, h.0, h.1, ascend_later t.to end ts h.2)

ascend_within : (start end : ℕ) (ts : List Token) → Ascend start ts end → AreWithin end ts
ascend_within start end [] h = tt
ascend_within start end (t ∷ ts) h = (omega (arith, h.1), ascend_later t.to end ts h.2, ascend_within t.to end ts h.2)

pub lexed_within : (bytes : List ℕ) (ts : List Token) → Lexed bytes ts → AreWithin (length bytes) ts
lexed_within bytes ts h = ascend_within 0 (length bytes) ts (Lexed-Ascend bytes ts h)

-- what was read of the classes is read of the tokens
of_tokens : (bytes : List ℕ) (ts : List Token) (classes : List Class) (o : Read FileSketch) → classes ≡ map (class_of bytes) ts → file_at (most_of classes) (words classes) 0 ≡ o
    → file_at (most_of (map (class_of bytes) ts)) (source bytes ts) 0 ≡ o
of_tokens bytes ts classes o e h = subst (λ (cs : List Class). file_at (most_of cs) (words cs) 0 ≡ o) e h

-- a sketch that was read is the one

pub read_sketch : (bytes : List ℕ) (ts : List Token) (classes : List Class) (f : FileSketch) (end : ℕ) → classes ≡ map (class_of bytes) ts → file_at (most_of classes) (words classes) 0 ≡ Found f end → IsSketch (source bytes ts) f
read_sketch bytes ts classes f end e h = laws.found_sketch (source bytes ts) (most_of (map (class_of bytes) ts)) end f (of_tokens bytes ts classes (Found f end) e h)

-- and so is a refusal

pub read_unexpected : (bytes : List ℕ) (ts : List Token) (classes : List Class) (i : ℕ) → classes ≡ map (class_of bytes) ts → file_at (most_of classes) (words classes) 0 ≡ Unexpected i → IsUnexpected (source bytes ts) (length ts) i
read_unexpected bytes ts classes i e h = laws.word_refused (source bytes ts) (length ts) (most_of (map (class_of bytes) ts)) i (ended bytes ts) (of_tokens bytes ts classes (Unexpected i) e h)

pub read_too_deep : (bytes : List ℕ) (ts : List Token) (classes : List Class) (i : ℕ) → classes ≡ map (class_of bytes) ts → file_at (most_of classes) (words classes) 0 ≡ TooDeep i → IsTooDeep (source bytes ts) i
read_too_deep bytes ts classes i e h = laws.deep_refused (source bytes ts) (most_of (map (class_of bytes) ts)) i (of_tokens bytes ts classes (TooDeep i) e h)

-- what was read of the classes of the tokens
pub reading : (bytes : List ℕ) (ts : List Token) (classes : List Class) (result : Result (Sketch × ℕ) Fault) → classes ≡ map (class_of bytes) ts → Gives file_of result (file_at (most_of classes) (words classes) 0) → Reads bytes ts result
reading bytes ts classes (Ok read) e h = read_sketch bytes ts classes (file_of read.0) read.1 e h
reading bytes ts classes (Err (fault.Unexpected i)) e h = read_unexpected bytes ts classes i e h
reading bytes ts classes (Err (fault.TooDeep i)) e h = read_too_deep bytes ts classes i e h
reading bytes ts classes (Err (fault.Memory m)) e h = tt

-- tokens have one answer

pub only_sketch : (bytes : List ℕ) (ts : List Token) (f g : FileSketch) → IsSketch (source bytes ts) f → IsSketch (source bytes ts) g → f ≡ g
only_sketch bytes ts f g h k = laws.one_sketch (source bytes ts) f g h k

pub sketch_refused : (bytes : List ℕ) (ts : List Token) (f : FileSketch) (why : Refusal) (i : ℕ) → IsSpelled bytes ts f → IsRefusedIn bytes ts why i → ⊥
sketch_refused bytes ts f errors.Unexpected i h k = laws.sketch_not_unexpected (source bytes ts) (length ts) i f (not_ended bytes ts) h k
sketch_refused bytes ts f errors.TooDeep i h k = laws.sketch_not_deep (source bytes ts) f i h k

pub only_refusal : (bytes : List ℕ) (ts : List Token) (why other : Refusal) (i j : ℕ) → IsRefusedIn bytes ts why i → IsRefusedIn bytes ts other j → (why ≡ other) × (i ≡ j)
only_refusal bytes ts errors.Unexpected errors.Unexpected i j h k = (refl, laws.one_unexpected (source bytes ts) (length ts) i j h k)
only_refusal bytes ts errors.Unexpected errors.TooDeep i j h k = absurd (laws.unexpected_not_deep (source bytes ts) (length ts) i j h k)
only_refusal bytes ts errors.TooDeep errors.Unexpected i j h k = absurd (laws.unexpected_not_deep (source bytes ts) (length ts) j i k h)
only_refusal bytes ts errors.TooDeep errors.TooDeep i j h k = (refl, laws.one_deep (source bytes ts) i j h k)

-- what an error says, where its token is refused so

abbrev pub IsRefused : List ℕ → List Token → Option (Refusal × ℕ) → Type 0
IsRefused bytes ts fault = IfSome fault (λ refusal. IsRefusedIn bytes ts refusal.0 refusal.1)

pub placed_refused : (bytes : List ℕ) (ts : List Token) (fault : Option (Refusal × ℕ)) → IsRefused bytes ts fault → IfSome (placed bytes ts fault) (λ refusal. IsRefusedAt bytes ts refusal.0 refusal.1)
placed_refused bytes ts None h = tt
placed_refused bytes ts (Some refusal) h = (refusal.1, h, refl)

pub placed_accepts : (bytes : List ℕ) (ts : List Token) (fault : Option (Refusal × ℕ)) → IsRefused bytes ts fault → (f : FileSketch) → IsSpelled bytes ts f → placed bytes ts fault ≡ None
placed_accepts bytes ts None h f k = refl
placed_accepts bytes ts (Some refusal) h f k = absurd (sketch_refused bytes ts f refusal.0 refusal.1 k h)

pub placed_refuses : (bytes : List ℕ) (ts : List Token) (fault : Option (Refusal × ℕ)) → IsRefused bytes ts fault → (why : Refusal) (i : ℕ) → IsRefusedIn bytes ts why i
    → IfSome (placed bytes ts fault) (λ refusal. (refusal.0 ≡ why) × (refusal.1 ≡ place_at bytes ts i))
placed_refuses bytes ts None h why i k = tt
placed_refuses bytes ts (Some refusal) h why i k =
    let same = only_refusal bytes ts refusal.0 why refusal.1 i h k in
    (same.0, ap (place_at bytes ts) same.1)
