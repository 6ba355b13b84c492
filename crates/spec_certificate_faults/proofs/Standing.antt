-- What was read so far shows where terms begin, and that what was opened stands where it is said to.
use Rattle.std.proofs.Common.{Bool, ◌≡◌, ℕ, suc, ◌+◌, ◌<◌, inl, true, false, ◌==◌, ◌||◌, List, [], ◌∷◌, ◌++◌, length, map, refl, sym, ◌∙◌, ap, subst, arith}
use Rattle.std.proofs.lemmas.Bool.Decides.{nat_tests}
use Rattle.std.specs.Fmt.{decimal}
use Rattle.std.specs.List.{AllByRecursion}
use Rattle.spec_trees.specs.Tree.{Leaf, Node, Trees, none, more, items_of}
use Rattle.spec_calculus.specs.Bounds.{most_term_levels}
use Rattle.spec_calculus.specs.Syntax.{Protocol}
use Rattle.spec_terms.specs.Term.{Sym, Ctor, Data, Tuple, Free, Point, Attacker, Term}
use Rattle.spec_certificate_text.specs.Loose.{Head, Applied, Tupled, Made, Attackers, LooseRow, opening}
use Rattle.spec_certificate_text.specs.Spelled.{IsWord}
use Rattle.spec_certificate_text.specs.Words.{symbol_word}
use Rattle.spec_certificate_text.specs.Written.{applied, headed, written, written_row}
use Rattle.spec_certificate_text.specs.Text.{term_text}
use Rattle.spec_certificate_text.specs.OfProtocol.{IsSymbolOf, IsTermBelow, AreTermsBelow, most_side_variables, most_variables, HasNames}
use Rattle.spec_certificate_text.proofs.Apart.{no_word}
use Rattle.spec_certificate_text.proofs.Names.{constructor_word, free_word, symbol_word_is_word, restriction_word_is_word, decimal_digits, decimal_some}
use Rattle.spec_certificate_text.proofs.Terms.{variable_is_loose}
use Rattle.spec_certificate_text.specs.Terms.{Open, head_text, arguments_text, heads_text}
use Rattle.spec_certificate_text.specs.Steps.{is_deep, may_go_on}
use Rattle.spec_certificate_text.proofs.Kept.{AreHeld, IsHeadOf, HeadsOf}
use Rattle.spec_certificate_faults.specs.Grammar.{IsWritten, IsInGrammar, AreInGrammar, with_commas, MayGoOn, MayBegin, whole, within}
use Rattle.spec_certificate_faults.specs.TermFaults.{begins_term, IsTooDeep}

-- Terms of the protocol are trees of the grammar.

head_of : Protocol → Sym → Head
head_of P (Ctor f) = Applied (symbol_word P (Ctor f))
head_of P (Data f) = Applied (symbol_word P (Data f))
head_of P (Tuple n) = Tupled
head_of P (Free a) = Applied (symbol_word P (Free a))
head_of P (Point p) = Made (symbol_word P (Point p)) (decimal p)
head_of P Attacker = Attackers

row_count : (P : Protocol) (ts : Trees ℕ Sym) → length (items_of (written_row P ts)) ≡ length (items_of ts)
row_count P none = refl
row_count P (more t ts) = ap suc (row_count P ts)

applied_in : (w : List ℕ) (ts : LooseRow) → IsWord w → AreInGrammar ts → IsInGrammar (applied w ts)
applied_in w none word are = inl word
applied_in w (more t ts) word are = (word, omega arith, are)

headed_in : (P : Protocol) → HasNames P → (f : Sym) (ts : LooseRow) → IsSymbolOf P f (length (items_of ts)) → AreInGrammar ts → IsInGrammar (headed P f ts)
headed_in P names (Ctor f) ts is are = applied_in (symbol_word P (Ctor f)) ts (symbol_word_is_word (symbol_word P (Ctor f)) (constructor_word P false f (length (items_of ts)) names is)) are
headed_in P names (Data f) ts is are = applied_in (symbol_word P (Data f)) ts (symbol_word_is_word (symbol_word P (Data f)) (constructor_word P true f (length (items_of ts)) names is)) are
headed_in P names (Tuple n) ts is are = (tt, is.1, are)
headed_in P names (Free a) ts is are = applied_in (symbol_word P (Free a)) ts (symbol_word_is_word (symbol_word P (Free a)) (free_word P a names is.0)) are
headed_in P names (Point p) ts is are = ((restriction_word_is_word P p (length (items_of ts)) names is.0, decimal_digits p is.1, decimal_some p is.1), tt, are)
headed_in P names Attacker ts is are = (tt, is, are)

-- variables of facts and of sides are spelled
few_variables : (binds : Bool) (x : ℕ) → x < most_variables binds → x < most_side_variables
few_variables true x below = below
few_variables false x below = omega (arith, below)

mutual
  pub written_in : (binds : Bool) (P : Protocol) → HasNames P → (t : Term) → IsTermBelow (most_variables binds) P t → IsInGrammar (written P t)
  written_in binds P names (Leaf x) is = variable_is_loose x (few_variables binds x is)
  written_in binds P names (Node f ts) is = headed_in P names f (written_row P ts) (subst (IsSymbolOf P f) (sym (row_count P ts)) is.0) (written_row_in binds P names ts is.1)

  written_row_in : (binds : Bool) (P : Protocol) → HasNames P → (ts : Trees ℕ Sym) → AreTermsBelow (most_variables binds) P ts → AreInGrammar (written_row P ts)
  written_row_in binds P names none are = tt
  written_row_in binds P names (more t ts) are = (written_in binds P names t are.0, written_row_in binds P names ts are.1)

-- Open symbols.

head_written : (binds : Bool) (P : Protocol) → HasNames P → (s : Sym) (arity : ℕ) → IsHeadOf binds P s arity → IsWritten (head_of P s)
unfolding IsHeadOf head_of
head_written binds P names (Ctor f) arity is = symbol_word_is_word (symbol_word P (Ctor f)) (constructor_word P false f arity names is)
head_written binds P names (Data f) arity is = symbol_word_is_word (symbol_word P (Data f)) (constructor_word P true f arity names is)
head_written binds P names (Tuple n) arity is = tt
head_written binds P names (Free a) arity is = symbol_word_is_word (symbol_word P (Free a)) (free_word P a names is.0)
head_written binds P names (Point p) arity is = (restriction_word_is_word P p arity names is.0, decimal_digits p is.1, decimal_some p is.1)
head_written binds P names Attacker arity is = tt

head_is : (P : Protocol) (s : Sym) (k : List ℕ) → head_text P s k ≡ opening (head_of P s) k
unfolding head_of
head_is P (Ctor f) k = refl
head_is P (Data f) k = refl
head_is P (Tuple n) k = refl
head_is P (Free a) k = refl
head_is P (Point p) k = refl
head_is P Attacker k = refl

commas_are : (P : Protocol) (ts : List Term) (k : List ℕ) → arguments_text P ts k ≡ with_commas (map (written P) ts) k
commas_are P [] k = refl
commas_are P (t ∷ ts) k = ap (λ rest. term_text P t (44 ∷ rest)) (commas_are P ts k)

held_in : (binds : Bool) (P : Protocol) → HasNames P → (above : ℕ) (ts : List Term) → AreHeld binds P above ts → AllByRecursion IsInGrammar (map (written P) ts)
unfolding AreHeld
held_in binds P names above [] held = tt
held_in binds P names above (t ∷ ts) held = (written_in binds P names t held.0.is_of, held_in binds P names above ts held.1)

-- arguments and commas stand only where another may follow
abbrev pub IsNarrow : Open → Type 0
IsNarrow o = may_go_on o.symbol ≡ false → o.arguments ≡ []

narrow_may : (P : Protocol) (s : Sym) (ts : List Term) → (may_go_on s ≡ false → ts ≡ []) → MayGoOn (head_of P s) (map (written P) ts)
unfolding head_of
narrow_may P (Ctor f) ts narrow = tt
narrow_may P (Data f) ts narrow = tt
narrow_may P (Tuple n) ts narrow = tt
narrow_may P (Free a) ts narrow = tt
narrow_may P (Point p) ts narrow = tt
narrow_may P Attacker ts narrow = ap (map (written P)) (narrow refl)

-- the text of an open symbol, and then the rest
abbrev pub outer : Protocol → Open → List ℕ → List ℕ
outer P o inner = head_text P o.symbol (arguments_text P o.arguments inner)

-- they stand at their places, of all bytes whose end is there
unfoldable pub ArePlaced : Protocol → ℕ → List Open → List ℕ → Type 0
ArePlaced P total [] inner = Unit {0}
ArePlaced P total (o ∷ heads) inner = (o.place + length (outer P o inner) ≡ total) × IsNarrow o × ArePlaced P total heads (outer P o inner)

pub begins_there : (binds : Bool) (P : Protocol) → HasNames P → (total : ℕ) (bytes : List ℕ) (heads : List Open) (inner : List ℕ) → HeadsOf binds P heads → ArePlaced P total heads inner → bytes ≡ heads_text P heads inner → MayBegin bytes (suc (length heads)) inner
unfolding HeadsOf ArePlaced
begins_there binds P names total bytes [] inner of_heads placed text = subst (MayBegin bytes 1) text whole
begins_there binds P names total bytes (o ∷ heads) inner of_heads placed text =
    within (begins_there binds P names total bytes heads (outer P o inner) of_heads.2 placed.2 text) (head_of P o.symbol) (map (written P) o.arguments) inner record {
      written = head_written binds P names o.symbol o.arity of_heads.0;
      each = held_in binds P names (suc (length heads)) o.arguments of_heads.1;
      may = narrow_may P o.symbol o.arguments placed.1;
      text = head_is P o.symbol (arguments_text P o.arguments inner) ∙ ap (opening (head_of P o.symbol)) (commas_are P o.arguments inner);
    }

-- the first byte of a head begins a term
pub record BeginsTerm (bytes : List ℕ) : Type 0 where
  pub first : ℕ
  pub later : List ℕ
  pub text : bytes ≡ first ∷ later
  pub begins : begins_term first ≡ true

pub word_begins : (w k : List ℕ) → IsWord w → BeginsTerm (w ++ k)
word_begins [] k is = absurd (no_word is)
word_begins (b ∷ w) k is = record { first = b; later = w ++ k; text = refl; begins = ap (λ t. t || (b == 40) || (b == 64) || (b == 63)) is.begins }

pub head_begins : (binds : Bool) (P : Protocol) → HasNames P → (s : Sym) (arity : ℕ) (k : List ℕ) → IsHeadOf binds P s arity → BeginsTerm (head_text P s k)
unfolding IsHeadOf
head_begins binds P names (Ctor f) arity k is = word_begins (symbol_word P (Ctor f)) (40 ∷ k) (symbol_word_is_word (symbol_word P (Ctor f)) (constructor_word P false f arity names is))
head_begins binds P names (Data f) arity k is = word_begins (symbol_word P (Data f)) (40 ∷ k) (symbol_word_is_word (symbol_word P (Data f)) (constructor_word P true f arity names is))
head_begins binds P names (Tuple n) arity k is = record { first = 40; later = k; text = refl; begins = refl }
head_begins binds P names (Free a) arity k is = word_begins (symbol_word P (Free a)) (40 ∷ k) (symbol_word_is_word (symbol_word P (Free a)) (free_word P a names is.0))
head_begins binds P names (Point p) arity k is = word_begins (symbol_word P (Point p)) (64 ∷ (decimal p ++ (91 ∷ k))) (restriction_word_is_word P p arity names is.0)
head_begins binds P names Attacker arity k is = record { first = 64; later = 91 ∷ k; text = refl; begins = refl }

is_many : (heads : List Open) → is_deep heads ≡ true → most_term_levels < suc (length heads)
is_many heads deep = grind (arith, nat_tests)

pub deep_there : (heads : List Open) (here : List ℕ) → BeginsTerm here → is_deep heads ≡ true → IsTooDeep (suc (length heads)) here
deep_there heads here is deep = record { first = is.first; later = is.later; text = is.text; begins = is.begins; deep = is_many heads deep }
