-- A sketch that is spelled in a file is solid, and each token that declares a name is an identifier there.
use Rattle.std.proofs.Common.{◌≡◌, ℕ, zero, suc, ◌+◌, true, false, List, [], ◌∷◌, Option, None, Some, IsTrue, refl, sym, ap, ◌∙◌}
use Rattle.std.specs.List.{AllByRecursion}
use Rattle.spec_protocol_tokens.specs.Token.{Token}
use Rattle.spec_protocol_grammar.specs.declared.class.Class.{Class}
use Rattle.spec_protocol_grammar.specs.declared.class.Class.TheVariants as w
use Rattle.spec_protocol_grammar.specs.Classes.{Source, fits, class_of, source}
use Rattle.spec_protocol_grammar.proofs.Same.{same-true}
use Rattle.spec_protocol_grammar.proofs.Terms.{never}
use Rattle.spec_protocol_scope.specs.Plain.{is_plain_word}
use Rattle.spec_protocol_grammar.specs.Sketch.{FileSketch}
use Rattle.spec_protocol_grammar.specs.Spelling as spelling
use Rattle.spec_protocol_grammar.specs.Spelling.{Item, one, no, nothing, Words, IsSketch}
use Rattle.spec_protocol_scope.proofs.Solid.{IsSolidFile, file_solid}

-- a word of the file has the item's number and will do for it
abbrev pub IsSpelled : Source → Item → Type 0
IsSpelled s (one level None class) = (at : ℕ) × IsTrue (fits class (s at).class)
IsSpelled s (one level (Some number) class) = (at : ℕ) × ((s at).number ≡ number) × IsTrue (fits class (s at).class)
IsSpelled s (no class) = Unit {0}
IsSpelled s nothing = ⊥

-- a word of that number is an identifier
abbrev pub IsNamed : Source → ℕ → Type 0
IsNamed s n = (at : ℕ) × ((s at).number ≡ n) × IsTrue (fits w.Name (s at).class)

spelled : (s : Source) (items : List Item) (at end : ℕ) → Words s at items end → AllByRecursion (IsSpelled s) items
spelled s [] at end h = tt
spelled s (one level None class ∷ items) at end h = ((at, h.0), spelled s items (at + 1) end h.1)
spelled s (one level (Some number) class ∷ items) at end h = ((at, h.0.0, h.0.1), spelled s items (at + 1) end h.1)
spelled s (no class ∷ items) at end h = (tt, spelled s items at end h)
spelled s (nothing ∷ items) at end h = absurd h

-- none of the words is one of phases or of tables
abbrev pub ArePlain : Source → Type 0
ArePlain s = (at : ℕ) → is_plain_word (s at).class ≡ true

-- what will do for such a word is one
not_plain : (c k : Class) → is_plain_word c ≡ false → fits c k ≡ true → is_plain_word k ≡ false
not_plain w.Phase k e h = ap is_plain_word (sym (same-true w.Phase k h))
not_plain w.Table k e h = ap is_plain_word (sym (same-true w.Table k h))
not_plain w.Insert k e h = ap is_plain_word (sym (same-true w.Insert k h))
not_plain w.Get k e h = ap is_plain_word (sym (same-true w.Get k h))
not_plain _ k e h = never (sym e)

later_word : (s : Source) (l : ℕ) (o : Option ℕ) (c : Class) → is_plain_word c ≡ false → IsSpelled s (one l o c) → ArePlain s → ⊥
later_word s l None c e h plain = never (sym (not_plain c (s h.0).class e h.1) ∙ plain h.0)
later_word s l (Some n) c e h plain = never (sym (not_plain c (s h.0).class e h.2) ∙ plain h.0)

pub sketch_solid : (s : Source) (f : FileSketch) → IsSketch s f → IsSolidFile (IsNamed s) (ArePlain s) f
sketch_solid s f read =
    file_solid (IsSpelled s) (λ h. h) (IsNamed s) (λ l n h. h) (ArePlain s) (later_word s) f (spelled s (spelling.file f) 0 read.end read.words)

-- the words of tokens of which none is such are plain
pub plain_words : (bytes : List ℕ) (tokens : List Token) → AllByRecursion (λ t. is_plain_word (class_of bytes t) ≡ true) tokens → ArePlain (source bytes tokens)
plain_words bytes [] h zero = refl
plain_words bytes [] h (suc at) = refl
plain_words bytes (t ∷ ts) h zero = h.0
plain_words bytes (t ∷ ts) h (suc at) = plain_words bytes ts h.1 at
