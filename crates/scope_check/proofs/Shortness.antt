-- A file of the grammar has fewer tokens than bytes, since the word `process` stands in it.
use Rattle.std.proofs.Common.{◌≡◌, ℕ, zero, suc, ◌+◌, ◌-◌, ◌≤◌, ◌==◌, Bool, true, false, ◌||◌, not, if◌then◌else◌, IsTrue, List, [], ◌∷◌, ◌++◌, length, map, drop, min, slice_index_or, codes, refl, sym, ap, ◌∙◌, arith}
use Rattle.std.proofs.lemmas.Bool.{and_parts, eqb-true}
use Rattle.std.proofs.lemmas.List.{length-take}
use Rattle.std.specs.Str.{bytes_eq}
use Rattle.std.specs.List.{list_all}
use Rattle.std.specs.Cmp.Lexicographic.{bytes_decides}
use Rattle.spec_protocol_tokens.specs.Token.{Token, TokenKind, Identifier, Reserved, Number, Symbol, text}
use Rattle.spec_protocol_tokens.specs.Lexed.{Lexed}
use Rattle.spec_protocol_tokens.specs.Laws.{Ascend}
use Rattle.spec_protocol_tokens.proofs.Answers.{Lexed-Ascend}
use Rattle.spec_protocol_grammar.specs.declared.class.Class.{Class}
use Rattle.spec_protocol_grammar.specs.declared.class.Class.TheVariants as w
use Rattle.spec_protocol_grammar.specs.Classes.{Source, source, same, class_among, class_by, class_of, reserved_table, symbol_table, reserved_class, symbol_class, number_class}
use Rattle.spec_protocol_grammar.specs.Sketch.{ProcessSketch, DeclarationSketch, FileSketch}
use Rattle.spec_protocol_grammar.specs.Spelling.{Item, one, no, nothing, Words, IsSketch, declaration, declarations, main}

-- the tokens take a byte each
ascend_count : (start : ℕ) (ts : List Token) (end : ℕ) → Ascend start ts end → start + length ts ≤ end
ascend_count start [] end h = omega (arith, h)
ascend_count start (t ∷ ts) end h = omega (arith, h.0, h.1, ascend_count t.to ts end h.2)

-- each text of a table that the class Process goes with has seven bytes
abbrev is_long : List ℕ × Class → Bool
is_long e = not (same w.Process e.1) || (length e.0 == 7)

seven : (class : Class) (word spelling : List ℕ) → IsTrue (is_long (spelling, class)) → word ≡ spelling → IsTrue (same w.Process class) → length word ≡ 7
seven class word spelling long is process = by_class (same w.Process class) refl
  where
    by_class : (b : Bool) → same w.Process class ≡ b → length word ≡ 7
    by_class true e = ap length is ∙ eqb-true (length spelling) 7 (ap (λ c. not c || (length spelling == 7)) (sym e) ∙ long)
    by_class false e = absurd (let never : false ≡ true = sym e ∙ process in cc)

long_among : (table : List (List ℕ × Class)) (word : List ℕ) → IsTrue (list_all is_long table) → IsTrue (same w.Process (class_among table word)) → length word ≡ 7
long_among [] word all is = absurd (let never : false ≡ true = is in cc)
long_among ((spelling, class) ∷ table) word all is =
    by_test (bytes_eq word spelling) refl (λ further. long_among table word (and_parts (is_long (spelling, class)) (list_all is_long table) all).1 further)
  where
    by_test : (b : Bool) → bytes_eq word spelling ≡ b → (IsTrue (same w.Process (class_among table word)) → length word ≡ 7) → length word ≡ 7
    by_test true t later =
        seven class word spelling (and_parts (is_long (spelling, class)) (list_all is_long table) all).0 ((bytes_decides word spelling).0 t)
        (ap (λ b. same w.Process (if b then class else class_among table word)) (sym t) ∙ is)
    by_test false t later = later (ap (λ b. same w.Process (if b then class else class_among table word)) (sym t) ∙ is)

-- a token of the class Process has seven bytes
long_word : (kind : TokenKind) (word : List ℕ) → IsTrue (same w.Process (class_by kind word)) → length word ≡ 7
unfolding reserved_class symbol_class number_class
long_word Identifier word is = absurd (let never : false ≡ true = is in cc)
long_word Reserved word is = long_among reserved_table word refl is
long_word Number word is = by_test (bytes_eq word (codes "0")) refl
  where
    by_test : (b : Bool) → bytes_eq word (codes "0") ≡ b → length word ≡ 7
    by_test true t = absurd (let never : false ≡ true = ap (λ b. same w.Process (if b then w.Zero else w.Number)) (sym t) ∙ is in cc)
    by_test false t = absurd (let never : false ≡ true = ap (λ b. same w.Process (if b then w.Zero else w.Number)) (sym t) ∙ is in cc)
long_word Symbol word is = long_among symbol_table word refl is

-- where one of the tokens is that word, they are fewer than the bytes by six
wide : (bytes : List ℕ) (ts : List Token) (start end at : ℕ) → Ascend start ts end → IsTrue (same w.Process (slice_index_or (map (class_of bytes) ts) at w.End)) → start + length ts + 6 ≤ end
wide bytes [] start end at h is = absurd (let never : false ≡ true = is in cc)
wide bytes (t ∷ ts) start end zero h is =
    let seven_bytes : length (text bytes t) ≡ 7 = long_word t.kind (text bytes t) is in
    let span : length (text bytes t) ≡ min (t.to - t.from) (length (drop t.from bytes)) = length-take (t.to - t.from) (drop t.from bytes) in
    omega (arith, h.0, seven_bytes, span, ascend_count t.to ts end h.2)
wide bytes (t ∷ ts) start end (suc at) h is = omega (arith, h.0, h.1, wide bytes ts t.to end at h.2 is)

-- the items behind some
record Rest (s : Source) (items : List Item) (end : ℕ) : Type 0 where
  pub at : ℕ
  pub words : Words s at items end

behind : (s : Source) (front items : List Item) (at end : ℕ) → Words s at (front ++ items) end → Rest s items end
behind s [] items at end h = record { at = at; words = h }
behind s (one level number class ∷ front) items at end h = behind s front items (at + 1) end h.1
behind s (no class ∷ front) items at end h = behind s front items at end h
behind s (nothing ∷ front) items at end h = absurd h

-- the word `process` stands in a file
record HasProcess (s : Source) : Type 0 where
  pub at : ℕ
  pub is : IsTrue (same w.Process (s at).class)

process_in : (s : Source) (ds : List DeclarationSketch) (n : ℕ) (p : ProcessSketch) (at end : ℕ) → Words s at (declarations ds (main n p)) end → HasProcess s
process_in s [] n p at end h = record { at = at; is = h.0.1 }
process_in s (d ∷ ds) n p at end h =
    let rest = behind s (declaration d) (declarations ds (main n p)) at end h in process_in s ds n p rest.at end rest.words

pub few_tokens : (bytes : List ℕ) (tokens : List Token) (f : FileSketch) → Lexed bytes tokens → IsSketch (source bytes tokens) f → length tokens + 6 ≤ length bytes
few_tokens bytes tokens f lexed sketch =
    let p = process_in (source bytes tokens) f.declarations f.first f.main 0 sketch.end sketch.words in
    omega (arith, wide bytes tokens 0 (length bytes) p.at (Lexed-Ascend bytes tokens lexed) p.is)
