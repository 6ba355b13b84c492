-- Files without the words of phases and tables.
use Rattle.std.specs.Prelude.{◌≡◌, ℕ, Bool, true, false, List}
use Rattle.std.specs.List.{AllByRecursion}
use Rattle.spec_protocol_tokens.specs.Token.{Token}
use Rattle.spec_protocol_tokens.specs.Lexed.{Lexed}
use Rattle.spec_protocol_grammar.specs.declared.class.Class.{Class}
use Rattle.spec_protocol_grammar.specs.declared.class.Class.TheVariants as w
use Rattle.spec_protocol_grammar.specs.Classes.{class_of}

-- whether a word of this class is none of `phase`, `table`, `insert` and `get`
abbrev pub is_plain_word : Class → Bool
is_plain_word w.Phase = false
is_plain_word w.Table = false
is_plain_word w.Insert = false
is_plain_word w.Get = false
is_plain_word _ = true

-- no token of the bytes is one of these words
abbrev pub HasPlainWords : List ℕ → Type 0
HasPlainWords bytes = (tokens : List Token) → Lexed bytes tokens → AllByRecursion (λ t. is_plain_word (class_of bytes t) ≡ true) tokens
