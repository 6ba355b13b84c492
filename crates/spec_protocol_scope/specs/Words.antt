-- The words of declared names: identifiers, and no variable's name where a term could be either.
use Rattle.std.specs.Prelude.{◌≡◌, ℕ, Bool, true, false, List, [], ◌∷◌}
use Rattle.std.specs.List.{AllByRecursion, list_all}
use Rattle.spec_calculus.specs.Syntax.{Protocol}
use Rattle.spec_protocol_tokens.specs.Bytes.{begins_word, is_in_word, is_reserved}
use Rattle.spec_well_formed.specs.Processes.{EachWord}
use Rattle.spec_protocol_scope.specs.Names.{is_variable}

-- whether the first byte may begin a word
abbrev pub begins_as_word : List ℕ → Bool
begins_as_word [] = false
begins_as_word (b ∷ bytes) = begins_word b

-- a letter or `_`, and then letters, digits, `_` and `'`; no reserved word
pub record IsIdentifier (word : List ℕ) : Type 0 where
  pub begins : begins_as_word word ≡ true
  pub goes_on : list_all is_in_word word ≡ true
  pub is_free : is_reserved word ≡ false

-- an identifier that is not `v` and digits
abbrev pub IsSymbolWord : List ℕ → Type 0
IsSymbolWord word = IsIdentifier word × (is_variable word ≡ false)

-- all words of the protocol are identifiers, and no free name or constructor is called as a variable
pub record HasWords (P : Protocol) : Type 0 where
  pub frees : AllByRecursion (λ d. IsSymbolWord d.word) P.frees
  pub constructors : AllByRecursion (λ d. IsSymbolWord d.word) P.constructors
  pub destructors : AllByRecursion (λ d. IsIdentifier d.word) P.destructors
  pub events : AllByRecursion (λ d. IsIdentifier d.word) P.events
  pub tables : AllByRecursion (λ d. IsIdentifier d.word) P.tables
  pub restrictions : EachWord IsIdentifier P.main
