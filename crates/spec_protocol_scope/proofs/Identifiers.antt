-- A token that the grammar takes for a name is spelled as an identifier.
use Rattle.std.proofs.Common.{◌≡◌, ℕ, zero, suc, ◌+◌, ◌-◌, Bool, true, false, IsTrue, cond, ◌==◌, if◌then◌else◌, List, [], ◌∷◌, take, drop, Option, None, Some, refl, ap, subst, ◌∙◌, sym, arith}
use Rattle.std.specs.Prelude.{codes, nat_le, ◌&&◌}
use Rattle.std.specs.List.{list_all, prefix_len}
use Rattle.std.specs.Char.{is_ascii_digit}
use Rattle.std.specs.Str.{bytes_eq}
use Rattle.spec_calculus.specs.Syntax.{Process, Nil, Output, Input, Parallel, Replication, New, Let, Event, Phase, Insert, Get}
use Rattle.spec_protocol_tokens.specs.Token.{Token, TokenKind, Identifier, Reserved, Number, Symbol, text}
use Rattle.spec_protocol_tokens.specs.Bytes.{is_blank, begins_word, is_in_word, is_reserved, symbols}
use Rattle.spec_protocol_tokens.specs.Piece.{BadByte, LongNumber, Blank, Lexeme, Refused, piece, word_kind, word_of, number_of, symbol_of, comment_of, closed_after, longest_front, begins}
use Rattle.spec_protocol_tokens.specs.Laws.{AllStand}
use Rattle.spec_protocol_tokens.specs.Lexed.{Lexed}
use Rattle.spec_protocol_tokens.proofs.Answers.{Lexed-AllStand}
use Rattle.spec_protocol_tokens.proofs.Sizes.{begins_word-in_word}
use Rattle.spec_protocol_grammar.specs.declared.class.Class.{Class}
use Rattle.spec_protocol_grammar.specs.declared.class.Class.TheVariants as w
use Rattle.spec_protocol_grammar.specs.Classes.{class_among, reserved_table, symbol_table, reserved_class, symbol_class, number_class, class_by, source, fits}
use Rattle.spec_well_formed.specs.Processes.{EachWord}
use Rattle.spec_protocol_scope.specs.Spells.{texts}
use Rattle.spec_protocol_scope.specs.Words.{begins_as_word, IsIdentifier}
use Rattle.spec_protocol_scope.proofs.Spelled.{IsNamed}

-- whether a class is that of a name
abbrev names : Class → Bool
names c = fits w.Name c

abbrev NoNames : List (List ℕ × Class) → Type 0
NoNames [] = Unit {0}
NoNames ((spelling, class) ∷ others) = (names class ≡ false) × NoNames others

either : (b : Bool) (x y : Class) → names x ≡ false → names y ≡ false → names (cond b x y) ≡ false
either true x y f g = f
either false x y f g = g

among_not : (table : List (List ℕ × Class)) (word : List ℕ) → NoNames table → names (class_among table word) ≡ false
among_not [] word h = refl
among_not ((spelling, class) ∷ others) word h = either (bytes_eq word spelling) class (class_among others word) h.0 (among_not others word h.1)

reserved_not : (word : List ℕ) → names (reserved_class word) ≡ false
unfolding reserved_class
reserved_not word = among_not reserved_table word (refl, (refl, (refl, (refl, (refl, (refl, (refl, (refl, (refl, (refl, (refl, (refl, (refl, (refl, (refl, (refl, (refl, (refl, (refl, (refl, (refl, (refl, tt))))))))))))))))))))))

symbol_not : (symbol : List ℕ) → names (symbol_class symbol) ≡ false
unfolding symbol_class
symbol_not symbol = among_not symbol_table symbol (refl, (refl, (refl, (refl, (refl, (refl, (refl, (refl, (refl, (refl, (refl, (refl, (refl, tt)))))))))))))

number_not : (number : List ℕ) → names (number_class number) ≡ false
unfolding number_class
number_not number = either (bytes_eq number (codes "0")) w.Zero w.Number refl refl

contra : (b : Bool) → b ≡ false → IsTrue b → ⊥
contra b e h = cc

-- a token of the class of a name is an identifier
named_kind : (kind : TokenKind) (word : List ℕ) → IsTrue (names (class_by kind word)) → kind ≡ Identifier
named_kind Identifier word h = refl
named_kind Reserved word h = absurd (contra (names (reserved_class word)) (reserved_not word) h)
named_kind Number word h = absurd (contra (names (number_class word)) (number_not word) h)
named_kind Symbol word h = absurd (contra (names (symbol_class word)) (symbol_not word) h)

-- bytes up to the first that is none of a class are of it
prefix_of_class : (p : ℕ → Bool) (bytes : List ℕ) → list_all p (take (prefix_len p bytes) bytes) ≡ true
prefix_of_class p [] = refl
prefix_of_class p (b ∷ bytes) = by (p b) refl (prefix_of_class p bytes)
  where
    both : (x y : Bool) → x ≡ true → y ≡ true → (x && y) ≡ true
    both true y e f = f
    both false y e f = e

    by : (test : Bool) → p b ≡ test → list_all p (take (prefix_len p bytes) bytes) ≡ true → list_all p (take (cond test (1 + prefix_len p bytes) 0) (b ∷ bytes)) ≡ true
    by true is rest =
        let e : suc (prefix_len p bytes) ≡ 1 + prefix_len p bytes = omega arith in
        subst (λ (k : ℕ). list_all p (take k (b ∷ bytes)) ≡ true) e (both (p b) (list_all p (take (prefix_len p bytes) bytes)) is rest)
    by false is rest = refl

-- what begins with no letter is no identifier
no_number : (digits size : ℕ) → number_of digits ≡ Lexeme Identifier size → ⊥
no_number digits size e = by (nat_le digits 9) e
  where
    by : (b : Bool) → (if b then Lexeme Number digits else Refused LongNumber) ≡ Lexeme Identifier size → ⊥
    by true e = cc
    by false e = cc

no_comment : (o : Option ℕ) (size : ℕ) → comment_of o ≡ Lexeme Identifier size → ⊥
no_comment None size e = cc
no_comment (Some n) size e = cc

no_symbol : (n size : ℕ) → symbol_of n ≡ Lexeme Identifier size → ⊥
no_symbol n size e = by (n == 0) e
  where
    by : (b : Bool) → (if b then Refused BadByte else Lexeme Symbol n) ≡ Lexeme Identifier size → ⊥
    by true e = cc
    by false e = cc

no_other : (digit opens : Bool) (bytes : List ℕ) (size : ℕ) → (if digit then number_of (prefix_len is_ascii_digit bytes) else (if opens then comment_of (closed_after (drop 2 bytes)) else symbol_of (longest_front symbols bytes))) ≡ Lexeme Identifier size → ⊥
no_other true opens bytes size e = no_number (prefix_len is_ascii_digit bytes) size e
no_other false true bytes size e = no_comment (closed_after (drop 2 bytes)) size e
no_other false false bytes size e = no_symbol (longest_front symbols bytes) size e

-- a word that is no reserved one
not_reserved : (word : List ℕ) → word_kind word ≡ Identifier → is_reserved word ≡ false
not_reserved word e = by (is_reserved word) e
  where
    by : (b : Bool) → (if b then Reserved else Identifier) ≡ Identifier → b ≡ false
    by true e = absurd (let same = e in cc)
    by false e = refl

begins_so : (b : ℕ) (bytes : List ℕ) → begins_word b ≡ true → begins_as_word (take (prefix_len is_in_word (b ∷ bytes)) (b ∷ bytes)) ≡ true
begins_so b bytes h =
    let inner = begins_word-in_word b h in
    let e : suc (prefix_len is_in_word bytes) ≡ prefix_len is_in_word (b ∷ bytes) = sym (ap (λ (t : Bool). cond t (1 + prefix_len is_in_word bytes) 0) inner ∙ omega arith) in
    subst (λ (k : ℕ). begins_as_word (take k (b ∷ bytes)) ≡ true) e h

-- an identifier at the front of bytes
identifier_front : (bytes : List ℕ) (size : ℕ) → piece bytes ≡ Lexeme Identifier size → IsIdentifier (take size bytes)
identifier_front [] size e = absurd (let same = e in cc)
identifier_front (b ∷ bytes) size e = by (is_blank b) (begins_word b) refl e
  where
    by : (blank word : Bool) → begins_word b ≡ word
        → (if blank then Blank else (if word then word_of (prefix_len is_in_word (b ∷ bytes)) (b ∷ bytes) else (if is_ascii_digit b then number_of (prefix_len is_ascii_digit (b ∷ bytes)) else (if begins (codes "(*") (b ∷ bytes) then comment_of (closed_after (drop 2 (b ∷ bytes))) else symbol_of (longest_front symbols (b ∷ bytes)))))) ≡ Lexeme Identifier size
        → IsIdentifier (take size (b ∷ bytes))
    by true word is e = absurd (let same = e in cc)
    by false true is e =
        let same : prefix_len is_in_word (b ∷ bytes) ≡ size = (let s = e in cc) in
        let kind : word_kind (take (prefix_len is_in_word (b ∷ bytes)) (b ∷ bytes)) ≡ Identifier = (let s = e in cc) in
        subst (λ (k : ℕ). IsIdentifier (take k (b ∷ bytes))) same (record {
          begins = begins_so b bytes is;
          goes_on = prefix_of_class is_in_word (b ∷ bytes);
          is_free = not_reserved (take (prefix_len is_in_word (b ∷ bytes)) (b ∷ bytes)) kind;
        })
    by false false is e = absurd (no_other (is_ascii_digit b) (begins (codes "(*") (b ∷ bytes)) (b ∷ bytes) size e)

-- so is the text of a token whose word has the class of a name
named_at : (bytes : List ℕ) (tokens : List Token) (at : ℕ) → AllStand bytes tokens → IsTrue (fits w.Name (source bytes tokens at).class) → IsIdentifier (texts bytes tokens at)
named_at bytes [] zero stand h = absurd (let same = h in cc)
named_at bytes [] (suc at) stand h = absurd (let same = h in cc)
named_at bytes (t ∷ ts) zero stand h =
    identifier_front (drop t.from bytes) (t.to - t.from) (stand.0 ∙ ap (λ (k : TokenKind). Lexeme k (t.to - t.from)) (named_kind t.kind (text bytes t) h))
named_at bytes (t ∷ ts) (suc at) stand h = named_at bytes ts at stand.1 h

pub named_word : (bytes : List ℕ) (tokens : List Token) → Lexed bytes tokens → (n : ℕ) → IsNamed (source bytes tokens) n → IsIdentifier (texts bytes tokens n)
named_word bytes tokens lexed n (at, is, class) = subst (λ (k : ℕ). IsIdentifier (texts bytes tokens k)) is (named_at bytes tokens at (Lexed-AllStand bytes tokens lexed) class)

-- what holds of each word of the restrictions holds of it more weakly
pub each_word-weaker : (P Q : List ℕ → Type 0) → ((word : List ℕ) → P word → Q word) → (process : Process) → EachWord P process → EachWord Q process
each_word-weaker P Q weaker Nil h = tt
each_word-weaker P Q weaker (Output channel message next) h = each_word-weaker P Q weaker next h
each_word-weaker P Q weaker (Input channel pattern next) h = each_word-weaker P Q weaker next h
each_word-weaker P Q weaker (Parallel left right) h = (each_word-weaker P Q weaker left h.0, each_word-weaker P Q weaker right h.1)
each_word-weaker P Q weaker (Replication copied) h = each_word-weaker P Q weaker copied h
each_word-weaker P Q weaker (New word next) h = (weaker word h.0, each_word-weaker P Q weaker next h.1)
each_word-weaker P Q weaker (Let pattern expression next otherwise) h = (each_word-weaker P Q weaker next h.0, each_word-weaker P Q weaker otherwise h.1)
each_word-weaker P Q weaker (Event performed next) h = each_word-weaker P Q weaker next h
each_word-weaker P Q weaker (Phase number next) h = each_word-weaker P Q weaker next h
each_word-weaker P Q weaker (Insert table arguments next) h = each_word-weaker P Q weaker next h
each_word-weaker P Q weaker (Get table patterns condition next otherwise) h = (each_word-weaker P Q weaker next h.0, each_word-weaker P Q weaker otherwise h.1)
