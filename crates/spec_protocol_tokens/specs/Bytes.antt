-- Classes of bytes, the reserved words and the symbols.
use Rattle.std.specs.Prelude.{ℕ, Bool, ◌==◌, ◌||◌, List, [], ◌∷◌, codes}
use Rattle.std.specs.List.{list_any}
use Rattle.std.specs.Char.{is_ascii_alphabetic, is_ascii_alphanumeric}
use Rattle.std.specs.Str.{bytes_eq}

-- white space: a space, a tab, a carriage return or a line feed
abbrev pub is_blank : ℕ → Bool
is_blank b = (b == 32) || (b == 9) || (b == 13) || (b == 10)

-- an identifier begins with a letter or `_`
abbrev pub begins_word : ℕ → Bool
begins_word b = is_ascii_alphabetic b || (b == 95)

-- and goes on with letters, digits, `_` and `'`
abbrev pub is_in_word : ℕ → Bool
is_in_word b = is_ascii_alphanumeric b || (b == 95) || (b == 39)

-- the words that are no identifiers
abbrev pub reserved_words : List (List ℕ)
reserved_words =
    codes "private" ∷ codes "free" ∷ codes "fun" ∷ codes "data" ∷ codes "reduc" ∷ codes "event"
    ∷ codes "query" ∷ codes "attacker" ∷ codes "new" ∷ codes "false" ∷ codes "let" ∷ codes "in"
    ∷ codes "out" ∷ codes "if" ∷ codes "then" ∷ codes "else" ∷ codes "process"
    ∷ codes "phase" ∷ codes "table" ∷ codes "insert" ∷ codes "get" ∷ codes "suchthat" ∷ []

-- whether the word is one of them
abbrev pub is_reserved : List ℕ → Bool
is_reserved word = list_any (bytes_eq word) reserved_words

-- the symbols
abbrev pub symbols : List (List ℕ)
symbols =
    codes "(" ∷ codes ")" ∷ codes "," ∷ codes ";" ∷ codes "." ∷ codes "/" ∷ codes "=" ∷ codes "==>"
    ∷ codes "|" ∷ codes "||" ∷ codes "&&" ∷ codes "!" ∷ codes "->" ∷ []
