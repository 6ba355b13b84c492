-- The words of declared names: each is the word of one name.
use Rattle.std.specs.Prelude.{◌≡◌, ℕ, List, Option, Some, option_map}
use Rattle.spec_calculus.specs.Syntax.{Protocol}
use Rattle.spec_calculus.specs.Points.{numbered}
use Rattle.spec_well_formed.specs.Signature.{Signature, signature_of}

-- a declared name, by its number among those of its kind, from 1
pub data DeclaredName : Type 0 where
  Free : (number : ℕ) → DeclaredName
  Constructor : (number : ℕ) → DeclaredName
  Destructor : (number : ℕ) → DeclaredName
  Event : (number : ℕ) → DeclaredName
  Table : (number : ℕ) → DeclaredName

-- its word, where there is one of that number
abbrev pub word_of : Signature → DeclaredName → Option (List ℕ)
word_of signature (Free number) = option_map (λ d. d.word) (numbered signature.frees number)
word_of signature (Constructor number) = option_map (λ d. d.word) (numbered signature.constructors number)
word_of signature (Destructor number) = option_map (λ d. d.word) (numbered signature.destructors number)
word_of signature (Event number) = option_map (λ d. d.word) (numbered signature.events number)
word_of signature (Table number) = option_map (λ d. d.word) (numbered signature.tables number)

-- no two declared names have one word
abbrev pub AreDistinct : Signature → Type 0
AreDistinct signature =
    (a b : DeclaredName) (word : List ℕ) → word_of signature a ≡ Some word → word_of signature b ≡ Some word → a ≡ b

abbrev pub HasDistinctWords : Protocol → Type 0
HasDistinctWords P = AreDistinct (signature_of P)
