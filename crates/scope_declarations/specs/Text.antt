-- The text of each token of a file, and how few there are.
use Rattle.std.specs.Prelude.{ℕ, zero, suc, ◌+◌, ◌≤◌, Bool, false, ◌||◌, if◌then◌else◌, List, [], ◌∷◌, length}
use Rattle.spec_protocol_scope.specs.Names.{Texts, same_text}
use Rattle.spec_protocol_scope.specs.Spells.{texts}
use Rattle.scope_declarations.specs.declared.source.Text.{Text}

abbrev pub texts_of : Text → Texts
texts_of t = texts t.source.now t.tokens.now

-- whether one of these tokens has the text of that one
abbrev pub is_among : Texts → List ℕ → ℕ → Bool
is_among text [] n = false
is_among text (m ∷ ms) n = same_text text m n || is_among text ms n

-- how many of the first numbers pass the test
abbrev pub passing : (ℕ → Bool) → ℕ → ℕ
passing test zero = 0
passing test (suc n) = passing test n + (if test n then 1 else 0)

-- these are at most as many as the tokens that are spelled as one of them, of which one may be none of the file's
abbrev pub AreFew : Text → List ℕ → Type 0
AreFew t ns = length ns ≤ passing (is_among (texts_of t) ns) (length t.tokens.now + 1)
