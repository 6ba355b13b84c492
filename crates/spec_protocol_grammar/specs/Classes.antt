-- What the grammar sees of the tokens of some bytes: words by their class, and the end behind them.
use Rattle.std.specs.Prelude.{ℕ, Bool, ◌==◌, ◌&&◌, ◌||◌, if◌then◌else◌, List, [], ◌∷◌, map, slice_index_or, codes}
use Rattle.std.specs.Str.{bytes_eq}
use Rattle.spec_protocol_tokens.specs.Token.{Token, TokenKind, Identifier, Reserved, Number, Symbol, text}
use Rattle.spec_protocol_grammar.specs.declared.class.Class.{Class}
use Rattle.spec_protocol_grammar.specs.declared.class.Class.TheVariants as w

-- the class that a table gives a text; Other where it has none
abbrev pub class_among : List (List ℕ × Class) → List ℕ → Class
class_among [] text = w.Other
class_among ((spelling, class) ∷ others) text = if bytes_eq text spelling then class else class_among others text

-- the reserved words
abbrev pub reserved_table : List (List ℕ × Class)
reserved_table =
    (codes "private", w.Private) ∷ (codes "free", w.Free) ∷ (codes "fun", w.Fun) ∷ (codes "data", w.Data) ∷
    (codes "reduc", w.Reduc) ∷ (codes "event", w.Event) ∷ (codes "query", w.Query) ∷
    (codes "attacker", w.Attacker) ∷ (codes "process", w.Process) ∷ (codes "new", w.New) ∷
    (codes "false", w.False) ∷ (codes "let", w.Let) ∷ (codes "in", w.In) ∷ (codes "out", w.Out) ∷
    (codes "if", w.If) ∷ (codes "then", w.Then) ∷ (codes "else", w.Else) ∷
    (codes "phase", w.Phase) ∷ (codes "table", w.Table) ∷ (codes "insert", w.Insert) ∷
    (codes "get", w.Get) ∷ (codes "suchthat", w.Suchthat) ∷ []

-- the symbols
abbrev pub symbol_table : List (List ℕ × Class)
symbol_table =
    (codes "(", w.Open) ∷ (codes ")", w.Close) ∷ (codes ",", w.Comma) ∷ (codes ";", w.Semicolon) ∷
    (codes ".", w.Dot) ∷ (codes "/", w.Slash) ∷ (codes "=", w.Equals) ∷ (codes "==>", w.Implies) ∷
    (codes "|", w.Bar) ∷ (codes "||", w.Or) ∷ (codes "&&", w.And) ∷ (codes "!", w.Bang) ∷
    (codes "->", w.Arrow) ∷ []

-- the class of a reserved word
unfoldable pub reserved_class : List ℕ → Class
reserved_class word = class_among reserved_table word

-- the class of a symbol
unfoldable pub symbol_class : List ℕ → Class
symbol_class symbol = class_among symbol_table symbol

-- the class of a number
unfoldable pub number_class : List ℕ → Class
number_class number = if bytes_eq number (codes "0") then w.Zero else w.Number

-- the class of a token of this kind, which is spelled so
abbrev pub class_by : TokenKind → List ℕ → Class
class_by Identifier word = w.Name
class_by Reserved word = reserved_class word
class_by Number word = number_class word
class_by Symbol word = symbol_class word

-- the class of a token
abbrev pub class_of : List ℕ → Token → Class
class_of bytes token = class_by token.kind (text bytes token)

-- a number for each class
abbrev pub code : Class → ℕ
code w.Private = 0
code w.Free = 1
code w.Fun = 2
code w.Data = 3
code w.Reduc = 4
code w.Event = 5
code w.Query = 6
code w.Attacker = 7
code w.Process = 8
code w.New = 9
code w.False = 10
code w.Let = 11
code w.In = 12
code w.Out = 13
code w.If = 14
code w.Then = 15
code w.Else = 16
code w.Phase = 17
code w.Table = 18
code w.Insert = 19
code w.Get = 20
code w.Suchthat = 21
code w.Open = 22
code w.Close = 23
code w.Comma = 24
code w.Semicolon = 25
code w.Dot = 26
code w.Slash = 27
code w.Equals = 28
code w.Implies = 29
code w.Bar = 30
code w.Or = 31
code w.And = 32
code w.Bang = 33
code w.Arrow = 34
code w.Name = 35
code w.Zero = 36
code w.Number = 37
code w.Other = 38
code w.End = 39

-- whether the two classes are one
abbrev pub same : Class → Class → Bool
same a b = code a == code b

-- whether a word of the class `found` will do where `wanted` is wanted: `0` is a number too
abbrev pub fits : Class → Class → Bool
fits wanted found = (same w.Number wanted && same w.Zero found) || same wanted found

-- a word of a file: its number, from 0, and its class
pub record Word : Type 0 where
  pub number : ℕ
  pub class : Class

-- a file: the word at each place, End for ever behind the last token
abbrev pub Source : Type 0
Source = ℕ → Word

-- the file whose tokens have these classes
abbrev pub words : List Class → Source
words classes at = record { number = at; class = slice_index_or classes at w.End }

-- the file of some bytes and their tokens
abbrev pub source : List ℕ → List Token → Source
source bytes tokens = words (map (class_of bytes) tokens)
