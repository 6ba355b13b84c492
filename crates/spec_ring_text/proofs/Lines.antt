-- The chunks of the lines of a ring: their bytes, and that each stands there.
use Rattle.std.proofs.Common.{◌≡◌, ℕ, ◌+◌, ◌<◌, Bool, true, false, ◌==◌, ◌&&◌, ◌||◌, cond, List, [], ◌∷◌, ◌++◌, length, inl, inr, refl, ap, ◌∙◌, arith}
use Rattle.std.specs.Prelude.{zero, suc, codes}
use Rattle.std.specs.Char.{is_ascii_digit}
use Rattle.std.specs.Fmt.{decimal}
use Rattle.std.specs.Int.{is_in_range}
use Rattle.std.specs.List.{prefix_len}
use Rattle.std.specs.Str.{all_ascii_digits}
use Rattle.std.specs.Str.Parse.{digits_value}
use Rattle.std.proofs.Math.Seq.{take-append_seam}
use Rattle.std.proofs.lemmas.Bool.Decides.{eqb_tells}
use Rattle.std.proofs.lemmas.Fmt.{digits_decimal}
use Rattle.std.proofs.lemmas.Str.Parse.{IsNumeralModel, numerals_by_value, tells_all_ascii_digits}
use Rattle.spec_protocol_tokens.specs.Token.{Identifier, Reserved, Number, Symbol}
use Rattle.spec_protocol_tokens.specs.Bytes.{is_in_word}
use Rattle.spec_protocol_tokens.specs.Piece.{Lexeme, piece, word_kind, word_of}
use Rattle.spec_protocol_grammar.specs.declared.class.Class.{Class}
use Rattle.spec_protocol_grammar.specs.declared.class.Class.TheVariants as w
use Rattle.spec_protocol_grammar.specs.Classes.{reserved_class, symbol_class, number_class}
use Rattle.spec_ring_text.specs.Text.{key, successor, first_lines, key_line, key_lines, middle_lines, pass_line, pass_lines, ring_text}
use Rattle.spec_ring_text.proofs.Chunks.{◌⨾◌, Chunk, blank, token, flat, Stand}

-- white space, a name, a reserved word, a symbol
abbrev space : Chunk
space = blank 32

abbrev line_end : Chunk
line_end = blank 10

abbrev name : List ℕ → Chunk
name word = token w.Name Identifier word

abbrev word : Class → List ℕ → Chunk
word class bytes = token class Reserved bytes

abbrev symbol : Class → List ℕ → Chunk
symbol class bytes = token class Symbol bytes

abbrev opening : Chunk
opening = symbol w.Open (codes "(")

abbrev closing : Chunk
closing = symbol w.Close (codes ")")

abbrev comma : Chunk
comma = symbol w.Comma (codes ",")

abbrev dot : Chunk
dot = symbol w.Dot (codes ".")

-- the lines, and chunks behind them
abbrev pub first_chunks : List Chunk → List Chunk
first_chunks behind =
    word w.Free (codes "free") ∷ space ∷ name (codes "c") ∷ dot ∷ line_end ∷ word w.Private (codes "private") ∷ space ∷
    word w.Free (codes "free") ∷ space ∷ name (codes "s") ∷ dot ∷ line_end ∷ word w.Fun (codes "fun") ∷ space ∷
    name (codes "enc") ∷ symbol w.Slash (codes "/") ∷ token w.Number Number (codes "2") ∷ dot ∷ line_end ∷
    word w.Reduc (codes "reduc") ∷ space ∷ name (codes "dec") ∷ opening ∷ name (codes "enc") ∷ opening ∷
    name (codes "x") ∷ comma ∷ name (codes "y") ∷ closing ∷ comma ∷ name (codes "y") ∷ closing ∷ space ∷
    symbol w.Arrow (codes "->") ∷ space ∷ name (codes "x") ∷ dot ∷ line_end ∷ behind

abbrev pub key_chunk : ℕ → List Chunk → List Chunk
key_chunk i behind =
    word w.Private (codes "private") ∷ space ∷ word w.Free (codes "free") ∷ space ∷ name (key i) ∷ dot ∷ line_end ∷ behind

abbrev pub key_chunks : ℕ → ℕ → List Chunk → List Chunk
key_chunks i zero behind = behind
key_chunks i (suc more) behind = key_chunk i (key_chunks (i + 1) more behind)

abbrev pub middle_chunks : List Chunk → List Chunk
middle_chunks behind =
    word w.Query (codes "query") ∷ space ∷ word w.Attacker (codes "attacker") ∷ opening ∷ name (codes "s") ∷ closing ∷
    dot ∷ line_end ∷ word w.Process (codes "process") ∷ line_end ∷ word w.Out (codes "out") ∷ opening ∷ name (codes "c") ∷
    comma ∷ name (codes "enc") ∷ opening ∷ name (codes "s") ∷ comma ∷ name (key 1) ∷ closing ∷ closing ∷ line_end ∷ behind

abbrev pub pass_chunk : ℕ → ℕ → List Chunk → List Chunk
pass_chunk i j behind =
    symbol w.Bar (codes "|") ∷ space ∷ symbol w.Bang (codes "!") ∷ word w.In (codes "in") ∷ opening ∷ name (codes "c") ∷
    comma ∷ name (codes "x") ∷ closing ∷ symbol w.Semicolon (codes ";") ∷ space ∷ word w.Let (codes "let") ∷ space ∷
    name (codes "y") ∷ space ∷ symbol w.Equals (codes "=") ∷ space ∷ name (codes "dec") ∷ opening ∷ name (codes "x") ∷
    comma ∷ name (key i) ∷ closing ∷ space ∷ word w.In (codes "in") ∷ space ∷ word w.Out (codes "out") ∷ opening ∷
    name (codes "c") ∷ comma ∷ name (codes "enc") ∷ opening ∷ name (codes "y") ∷ comma ∷ name (key j) ∷ closing ∷
    closing ∷ line_end ∷ behind

abbrev pub pass_chunks : ℕ → ℕ → ℕ → List Chunk
pass_chunks n i zero = []
pass_chunks n i (suc more) = pass_chunk i (successor n i) (pass_chunks n (i + 1) more)

-- the ring of n keys
abbrev pub ring_chunks : ℕ → List Chunk
ring_chunks n = first_chunks (key_chunks 1 n (middle_chunks (pass_chunks n 1 n)))

key_bytes : (i m : ℕ) (behind : List Chunk) → flat (key_chunks i m behind) ≡ key_lines i m (flat behind)
key_bytes i zero behind = refl
key_bytes i (suc m) behind = ap (key_line i) (key_bytes (i + 1) m behind)

pass_bytes : (n i m : ℕ) → flat (pass_chunks n i m) ≡ pass_lines n i m []
pass_bytes n i zero = refl
pass_bytes n i (suc m) = ap (pass_line i (successor n i)) (pass_bytes n (i + 1) m)

-- these are the bytes of the ring
pub ring_bytes : (n : ℕ) → flat (ring_chunks n) ≡ ring_text n
ring_bytes n =
    ap first_lines (key_bytes 1 n (middle_chunks (pass_chunks n 1 n)) ∙ ap (λ bs. key_lines 1 n (middle_lines bs)) (pass_bytes n 1 n))

-- digits
digits_model : IsNumeralModel (λ text. all_ascii_digits text ≡ true) (digits_value 10)
digits_model = numerals_by_value _ tells_all_ascii_digits

both_left : (a b : Bool) → (a && b) ≡ true → a ≡ true
both_left true b e = refl
both_left false b e = e

both_right : (a b : Bool) → (a && b) ≡ true → b ≡ true
both_right true b e = e
both_right false b e = absurd (let same = e in cc)

digit_in_word : (b : ℕ) → is_ascii_digit b ≡ true → is_in_word b ≡ true
digit_in_word b e = ap (λ c. (((c || is_in_range 65 90 b) || is_in_range 97 122 b) || (b == 95)) || (b == 39)) e

-- digits, and then a byte that is in no word
digits_run : (digits : List ℕ) (b : ℕ) (rest : List ℕ) → all_ascii_digits digits ≡ true → is_in_word b ≡ false → prefix_len is_in_word (digits ++ (b ∷ rest)) ≡ length digits
digits_run [] b rest all stops = ap (λ t. cond t (1 + prefix_len is_in_word rest) 0) stops
digits_run (d ∷ digits) b rest all stops =
    let inner : is_in_word d ≡ true = digit_in_word d (both_left (is_ascii_digit d) (all_ascii_digits digits) all) in
    let later : prefix_len is_in_word (digits ++ (b ∷ rest)) ≡ length digits = digits_run digits b rest (both_right (is_ascii_digit d) (all_ascii_digits digits) all) stops in
    ap (λ t. cond t (1 + prefix_len is_in_word (digits ++ (b ∷ rest))) 0) inner ∙ omega arith

-- the word of a key
key_stands : (i b : ℕ) (rest : List ℕ) → i < 1000 → is_in_word b ≡ false → piece (key i ++ (b ∷ rest)) ≡ Lexeme Identifier (length (key i))
key_stands i b rest small stops =
    let run : prefix_len is_in_word (key i ++ (b ∷ rest)) ≡ length (key i) = (let d = digits_run (decimal i) b rest (digits_decimal digits_model i (omega arith)) stops in omega arith) in
    ap (λ k. word_of k (key i ++ (b ∷ rest))) run
    ∙ ap (λ bs. Lexeme (word_kind bs) (length (key i))) (take-append_seam (key i) (b ∷ rest))

first_stand : (cs : List Chunk) → Stand cs → Stand (first_chunks cs)
unfolding reserved_class symbol_class number_class
first_stand cs h =
    (refl, (refl, refl)) ⨾ (refl, tt) ⨾ (refl, (refl, refl)) ⨾ (refl, (refl, refl)) ⨾ (refl, tt) ⨾ (refl, (refl, refl)) ⨾
    (refl, tt) ⨾ (refl, (refl, refl)) ⨾ (refl, tt) ⨾ (refl, (refl, refl)) ⨾ (refl, (refl, refl)) ⨾ (refl, tt) ⨾
    (refl, (refl, refl)) ⨾ (refl, tt) ⨾ (refl, (refl, refl)) ⨾ (refl, (refl, refl)) ⨾ (refl, (refl, refl)) ⨾
    (refl, (refl, refl)) ⨾ (refl, tt) ⨾ (refl, (refl, refl)) ⨾ (refl, tt) ⨾ (refl, (refl, refl)) ⨾ (refl, (refl, refl)) ⨾
    (refl, (refl, refl)) ⨾ (refl, (refl, refl)) ⨾ (refl, (refl, refl)) ⨾ (refl, (refl, refl)) ⨾ (refl, (refl, refl)) ⨾
    (refl, (refl, refl)) ⨾ (refl, (refl, refl)) ⨾ (refl, (refl, refl)) ⨾ (refl, (refl, refl)) ⨾ (refl, tt) ⨾
    (refl, (refl, refl)) ⨾ (refl, tt) ⨾ (refl, (refl, refl)) ⨾ (refl, (refl, refl)) ⨾ (refl, tt) ⨾ h

key_stand : (i : ℕ) (cs : List Chunk) → i < 1000 → Stand cs → Stand (key_chunk i cs)
unfolding reserved_class symbol_class number_class
key_stand i cs small h =
    (refl, (refl, refl)) ⨾ (refl, tt) ⨾ (refl, (refl, refl)) ⨾ (refl, tt) ⨾ (key_stands i 46 _ small refl, (refl, refl)) ⨾
    (refl, (refl, refl)) ⨾ (refl, tt) ⨾ h

keys_stand : (i m : ℕ) (cs : List Chunk) → i + m < 1000 → Stand cs → Stand (key_chunks i m cs)
keys_stand i zero cs small h = h
keys_stand i (suc m) cs small h = key_stand i (key_chunks (i + 1) m cs) (omega arith) (keys_stand (i + 1) m cs (omega arith) h)

middle_stand : (cs : List Chunk) → Stand cs → Stand (middle_chunks cs)
unfolding reserved_class symbol_class number_class
middle_stand cs h =
    (refl, (refl, refl)) ⨾ (refl, tt) ⨾ (refl, (refl, refl)) ⨾ (refl, (refl, refl)) ⨾ (refl, (refl, refl)) ⨾
    (refl, (refl, refl)) ⨾ (refl, (refl, refl)) ⨾ (refl, tt) ⨾ (refl, (refl, refl)) ⨾ (refl, tt) ⨾ (refl, (refl, refl)) ⨾
    (refl, (refl, refl)) ⨾ (refl, (refl, refl)) ⨾ (refl, (refl, refl)) ⨾ (refl, (refl, refl)) ⨾ (refl, (refl, refl)) ⨾
    (refl, (refl, refl)) ⨾ (refl, (refl, refl)) ⨾ (key_stands 1 41 _ (omega arith) refl, (refl, refl)) ⨾
    (refl, (refl, refl)) ⨾ (refl, (refl, refl)) ⨾ (refl, tt) ⨾ h

pass_stand : (i j : ℕ) (cs : List Chunk) → i < 1000 → j < 1000 → Stand cs → Stand (pass_chunk i j cs)
unfolding reserved_class symbol_class number_class
pass_stand i j cs small_i small_j h =
    (refl, (refl, refl)) ⨾ (refl, tt) ⨾ (refl, (refl, refl)) ⨾ (refl, (refl, refl)) ⨾ (refl, (refl, refl)) ⨾
    (refl, (refl, refl)) ⨾ (refl, (refl, refl)) ⨾ (refl, (refl, refl)) ⨾ (refl, (refl, refl)) ⨾ (refl, (refl, refl)) ⨾
    (refl, tt) ⨾ (refl, (refl, refl)) ⨾ (refl, tt) ⨾ (refl, (refl, refl)) ⨾ (refl, tt) ⨾ (refl, (refl, refl)) ⨾
    (refl, tt) ⨾ (refl, (refl, refl)) ⨾ (refl, (refl, refl)) ⨾ (refl, (refl, refl)) ⨾ (refl, (refl, refl)) ⨾
    (key_stands i 41 _ small_i refl, (refl, refl)) ⨾ (refl, (refl, refl)) ⨾ (refl, tt) ⨾ (refl, (refl, refl)) ⨾
    (refl, tt) ⨾ (refl, (refl, refl)) ⨾ (refl, (refl, refl)) ⨾ (refl, (refl, refl)) ⨾ (refl, (refl, refl)) ⨾
    (refl, (refl, refl)) ⨾ (refl, (refl, refl)) ⨾ (refl, (refl, refl)) ⨾ (refl, (refl, refl)) ⨾
    (key_stands j 41 _ small_j refl, (refl, refl)) ⨾ (refl, (refl, refl)) ⨾ (refl, (refl, refl)) ⨾ (refl, tt) ⨾ h

successor_small : (n i : ℕ) → i < 999 → successor n i < 1000
successor_small n i small =
    elim (eqb_tells i n) [
      | inl h ↦ (let same : (i == n) ≡ true = h.0 in rw same (omega arith))
      | inr h ↦ (let other : (i == n) ≡ false = h.0 in rw other (omega arith))
    ]

passes_stand : (n i m : ℕ) → i + m < 999 → Stand (pass_chunks n i m)
passes_stand n i zero small = tt
passes_stand n i (suc m) small = pass_stand i (successor n i) (pass_chunks n (i + 1) m) (omega arith) (successor_small n i (omega arith)) (passes_stand n (i + 1) m (omega arith))

-- each chunk of the ring is what stands there
pub ring_stands : (n : ℕ) → n < 900 → Stand (ring_chunks n)
ring_stands n small =
    first_stand _ (keys_stand 1 n _ (omega arith) (middle_stand _ (passes_stand n 1 n (omega arith))))
