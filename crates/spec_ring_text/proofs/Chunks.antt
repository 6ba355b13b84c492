-- Texts in chunks, each of which is a byte of white space or a token, and their tokens.
use Rattle.std.proofs.Common.{◌≡◌, ℕ, ◌+◌, ◌-◌, ◌<◌, Bool, true, false, List, [], ◌∷◌, ◌++◌, length, take, drop, map, refl, ap, ◌∙◌, subst, arith, append_assoc, length-append}
use Rattle.std.specs.Prelude.{zero, suc, slice_range, slice_index_or}
use Rattle.std.proofs.Math.Seq.{drop-append_seam, take-append_seam}
use Rattle.spec_protocol_tokens.specs.Token.{Token, TokenKind, text}
use Rattle.spec_protocol_tokens.specs.Piece.{Piece, Blank, Lexeme, piece, size_of}
use Rattle.spec_protocol_tokens.specs.Lexed.{Covers, tokens_of, Lexed}
use Rattle.spec_protocol_grammar.specs.declared.class.Class.{Class}
use Rattle.spec_protocol_grammar.specs.Classes.{class_by, class_of, source}
use Rattle.spec_protocol_grammar.specs.Classes as grammar
use Rattle.spec_protocol_scope.specs.Names.{Texts}
use Rattle.spec_protocol_scope.specs.Spells.{texts}

-- one fact, and those behind it
infixr 20 ◌⨾◌
abbrev pub ◌⨾◌ : {A B : Type 0} → A → B → A × B
◌⨾◌ a b = (a, b)

-- a byte of white space, or a token with its class
pub data Chunk : Type 0 where
  blank : (byte : ℕ) → Chunk
  token : (class : Class) → (kind : TokenKind) → (word : List ℕ) → Chunk

-- its bytes
abbrev pub bytes_of : Chunk → List ℕ
bytes_of (blank byte) = byte ∷ []
bytes_of (token class kind word) = word

-- the bytes of chunks
abbrev pub flat : List Chunk → List ℕ
flat [] = []
flat (c ∷ cs) = bytes_of c ++ flat cs

abbrev pub piece_of : Chunk → Piece
piece_of (blank byte) = Blank
piece_of (token class kind word) = Lexeme kind (length word)

-- the classes of the tokens among them
abbrev pub classes : List Chunk → List Class
classes [] = []
classes (blank byte ∷ cs) = classes cs
classes (token class kind word ∷ cs) = class ∷ classes cs

-- and what is known of each, by its kind and its text
abbrev pub shown : {X : Type 0} → (TokenKind → List ℕ → X) → List Chunk → List X
shown f [] = []
shown f (blank byte ∷ cs) = shown f cs
shown f (token class kind word ∷ cs) = f kind word ∷ shown f cs

-- and their texts
abbrev pub words : List Chunk → List (List ℕ)
words cs = shown (λ kind word. word) cs

abbrev pub has_bytes : List ℕ → Bool
has_bytes [] = false
has_bytes (b ∷ bytes) = true

-- the chunk is of that class, and has a byte
abbrev pub IsProper : Chunk → Type 0
IsProper (blank byte) = Unit {0}
IsProper (token class kind word) = (class_by kind word ≡ class) × (has_bytes word ≡ true)

-- the chunk is what stands there, where these bytes follow it
abbrev pub Stands : Chunk → List ℕ → Type 0
Stands c rest = (piece (bytes_of c ++ rest) ≡ piece_of c) × IsProper c

-- each chunk is what stands there, where nothing follows the last
abbrev pub Stand : List Chunk → Type 0
Stand [] = Unit {0}
Stand (c ∷ cs) = Stands c (flat cs) × Stand cs

some_length : (word : List ℕ) → has_bytes word ≡ true → 0 < length word
some_length [] h = absurd (let same = h in cc)
some_length (b ∷ bytes) h = omega arith

some_bytes : (c : Chunk) → IsProper c → 0 < size_of (piece_of c)
some_bytes (blank byte) h = omega arith
some_bytes (token class kind word) h = some_length word h.1

all_bytes : (c : Chunk) → size_of (piece_of c) ≡ length (bytes_of c)
all_bytes (blank byte) = refl
all_bytes (token class kind word) = refl

module _ (before : List ℕ) (at : ℕ) (c : Chunk) (cs : List Chunk) where
  -- one chunk further
  further : (before ++ bytes_of c) ++ flat cs ≡ before ++ (bytes_of c ++ flat cs)
  further = append_assoc before (bytes_of c) (flat cs)

  -- what stands there
  there : at ≡ length before → drop at (before ++ flat (c ∷ cs)) ≡ flat (c ∷ cs)
  there e = ap (λ (k : ℕ). drop k (before ++ flat (c ∷ cs))) e ∙ drop-append_seam before (flat (c ∷ cs))

  next_at : at ≡ length before → at + size_of (piece_of c) ≡ length (before ++ bytes_of c)
  next_at e = let l = length-append before (bytes_of c) in let a = all_bytes c in omega arith

-- behind these bytes, so many, the chunks cover what follows
covers : (before : List ℕ) (at : ℕ) (cs : List Chunk) → at ≡ length before → Stand cs → Covers (before ++ flat cs) at (map piece_of cs) (length (before ++ flat cs))
covers before at [] e h = let l = length-append before [] in omega arith
covers before at (c ∷ cs) e h = (
  ap piece (there before at c cs e) ∙ h.0.0,
  some_bytes c h.0.1,
  subst (λ (bs : List ℕ). Covers bs (at + size_of (piece_of c)) (map piece_of cs) (length bs)) (further before at c cs) (covers (before ++ bytes_of c) (at + size_of (piece_of c)) cs (next_at before at c cs e) h.1),
)

-- the tokens of chunks, of which the first begins at this byte
abbrev pub tokens : ℕ → List Chunk → List Token
tokens at cs = tokens_of at (map piece_of cs)

-- chunks that stand are the tokens of their bytes
pub lexed : (cs : List Chunk) → Stand cs → Lexed (flat cs) (tokens 0 cs)
lexed cs h = record { pieces = map piece_of cs; cover = covers [] 0 cs refl h; among = refl }

-- the text of a token
there_text : (before word behind : List ℕ) (at : ℕ) → at ≡ length before → slice_range (before ++ (word ++ behind)) at (at + length word) ≡ word
there_text before word behind at e =
    let short : at + length word - at ≡ length word = omega arith in
    ap (λ (k : ℕ). take k (drop at (before ++ (word ++ behind)))) short
    ∙ (ap (λ (k : ℕ). take (length word) (drop k (before ++ (word ++ behind)))) e
    ∙ (ap (take (length word)) (drop-append_seam before (word ++ behind)) ∙ take-append_seam word behind))

abbrev shown_token : {X : Type 0} → (TokenKind → List ℕ → X) → List ℕ → Token → X
shown_token f bytes t = f t.kind (text bytes t)

tokens_shown : {X : Type 0} (f : TokenKind → List ℕ → X) (before : List ℕ) (at : ℕ) (cs : List Chunk) → at ≡ length before → map (shown_token f (before ++ flat cs)) (tokens at cs) ≡ shown f cs
tokens_shown f before at [] e = refl
tokens_shown f before at (blank byte ∷ cs) e =
    subst (λ (bs : List ℕ). map (shown_token f bs) (tokens (at + 1) cs) ≡ shown f cs) (further before at (blank byte) cs)
    (tokens_shown f (before ++ (byte ∷ [])) (at + 1) cs (next_at before at (blank byte) cs e))
tokens_shown f before at (token class kind word ∷ cs) e =
    let rest : map (shown_token f (before ++ (word ++ flat cs))) (tokens (at + length word) cs) ≡ shown f cs =
    subst (λ (bs : List ℕ). map (shown_token f bs) (tokens (at + length word) cs) ≡ shown f cs) (further before at (token class kind word) cs)
    (tokens_shown f (before ++ word) (at + length word) cs (next_at before at (token class kind word) cs e)) in
    ap (λ w. f kind w ∷ map (shown_token f (before ++ (word ++ flat cs))) (tokens (at + length word) cs)) (there_text before word (flat cs) at e)
    ∙ ap (λ ws. f kind word ∷ ws) rest

-- chunks that stand have their classes
shown_classes : (cs : List Chunk) → Stand cs → shown class_by cs ≡ classes cs
shown_classes [] h = refl
shown_classes (blank byte ∷ cs) h = shown_classes cs h.1
shown_classes (token class kind word ∷ cs) h =
    ap (λ c. c ∷ shown class_by cs) h.0.1.0 ∙ ap (λ c. class ∷ c) (shown_classes cs h.1)

-- the file of chunks that stand
pub source_is : (cs : List Chunk) → Stand cs → source (flat cs) (tokens 0 cs) ≡ grammar.words (classes cs)
source_is cs h = ap grammar.words (tokens_shown class_by [] 0 cs refl ∙ shown_classes cs h)

-- the texts of tokens that are spelled so
abbrev pub word_at : List (List ℕ) → Texts
word_at ws n = slice_index_or ws n []

text_at : (bytes : List ℕ) (ts : List Token) (n : ℕ) → texts bytes ts n ≡ word_at (map (text bytes) ts) n
text_at bytes [] n = refl
text_at bytes (t ∷ ts) zero = refl
text_at bytes (t ∷ ts) (suc n) = text_at bytes ts n

-- the texts of the tokens of chunks
pub texts_are : (cs : List Chunk) → texts (flat cs) (tokens 0 cs) ≡ word_at (words cs)
texts_are cs = (λ i n. text_at (flat cs) (tokens 0 cs) n i) ∙ ap word_at (tokens_shown (λ kind word. word) [] 0 cs refl)
