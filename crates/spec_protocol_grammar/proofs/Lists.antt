-- Lists are read as they are spelled.
use Rattle.std.proofs.Common.{◌≡◌, ◌≢◌, ℕ, zero, suc, ◌+◌, ◌≤◌, false, List, [], ◌∷◌, ◌++◌, Option, Some, None, refl, arith}
use Rattle.spec_calculus.specs.Bounds.{most_levels}
use Rattle.spec_protocol_grammar.specs.declared.class.Class.{Class}
use Rattle.spec_protocol_grammar.specs.declared.class.Class.TheVariants as w
use Rattle.spec_protocol_grammar.specs.Classes.{fits}
use Rattle.spec_protocol_grammar.specs.Spelling.{Item, no, word, more_of}
use Rattle.spec_protocol_grammar.specs.Reading.{Tired, Reader, done, optional, both, built, then_marked, others_of, list_at, arguments_of, arguments_at}
use Rattle.spec_protocol_grammar.proofs.Items.{words_later, greedy-append}
use Rattle.spec_protocol_grammar.proofs.Good.{Good, tires}
use Rattle.spec_protocol_grammar.proofs.Combine.{All, Plain, then_items, done_items, good_done, good_then}
use Rattle.spec_protocol_grammar.proofs.Choose.{good_same, good_low, optional_items, good_followed, good_optional, good_inner, good_built}

-- the first part, and the others
abbrev pub list_items : {X : Type 0} → ℕ → Class → (X → List Item) → X × List X → List Item
list_items l c sp parts = sp parts.0 ++ more_of l c sp parts.1

abbrev others_back : {X : Type 0} → List X → Option (X × List X)
others_back [] = None
others_back (x ∷ xs) = Some (x, xs)

others_there : {X : Type 0} (xs : List X) → others_of (others_back xs) ≡ xs
others_there [] = refl
others_there (x ∷ xs) = refl

others_spelled : {X : Type 0} (l : ℕ) (c : Class) (sp : X → List Item) (o : Option (X × List X)) → more_of l c sp (others_of o) ≡ optional_items l c (list_items l c sp) o
others_spelled l c sp None = refl
others_spelled l c sp (Some x) = refl

module _ {X : Type 0} {most : ℕ} {sp : X → List Item} {C D : Class → Type 0} {r : Reader X}
    (l : ℕ) (h : l ≤ most_levels) (c : Class) (plain : Plain c) (n : fits c w.End ≡ false) (wider : (d : Class) → D d → C d) (apart : (d : Class) → D d → c ≢ d) (g : Good most All false sp C r) where
  tired : Good most (λ at. most ≤ at + 0) false (list_items l c sp) D (λ s at. Tired at)
  tired = record {
    some = (g.some, []);
    some_firm = λ d i. greedy-append (sp g.some) (no c ∷ []) d (g.some_firm d (wider d i)) (apart d i, tt);
    sound = record { right = λ s at. omega arith; local = λ s t at k a z. refl };
    complete = λ s at x end low z y. tires at refl (omega arith) (words_later s (list_items l c sp x) at end z);
  }

  good_at_most : (m : ℕ) → Good most (λ at. most ≤ at + m) false (list_items l c sp) D (list_at m c r)
  unfolding list_at
  good_at_most zero = good_same (λ s at. Tired at) (list_at zero c r) (λ s at. refl) tired
  good_at_most (suc m) = good_same (both r (built others_of (optional c (list_at m c r)))) (list_at (suc m) c r) (λ s at. refl)
      (good_inner sp (optional_items l c (list_items l c sp)) r (optional c (list_at m c r)) (more_of l c sp) others_of (others_spelled l c sp) others_back others_there
      (good_followed l h c plain n wider apart (λ at e low z. omega arith) g (good_at_most m)))

  -- at least one part, and further ones behind a word each
  pub good_list : Good most All false (list_items l c sp) D (list_at most c r)
  good_list = good_low (λ at z. omega arith) (good_at_most most)

-- nothing, or a list in parentheses
abbrev pub arguments_items : {X : Type 0} → ℕ → (X → List Item) → List X → List Item
arguments_items l sp [] = no w.Open ∷ []
arguments_items l sp (x ∷ xs) = word l w.Open ∷ ((sp x ++ more_of l w.Comma sp xs) ++ (word l w.Close ∷ []))

abbrev arguments_back : {X : Type 0} → List X → Option ((X × List X) × Unit {0})
arguments_back [] = None
arguments_back (x ∷ xs) = Some ((x, xs), tt)

arguments_there : {X : Type 0} (xs : List X) → arguments_of (arguments_back xs) ≡ xs
arguments_there [] = refl
arguments_there (x ∷ xs) = refl

-- no `(` comes next
abbrev pub NotOpen : Class → Type 0
NotOpen c = w.Open ≢ c

-- no `(`, and no `,`
abbrev pub NotComma : Class → Type 0
NotComma c = NotOpen c × (w.Comma ≢ c)

pub closes : NotComma w.Close
closes = (λ e. cc, λ e. cc)

module _ {X : Type 0} {most : ℕ} {sp : X → List Item} {r : Reader X} (l : ℕ) (h : l ≤ most_levels) (g : Good most All false sp NotOpen r) where
  -- a list, a comma between two of its parts, and a parenthesis behind it
  pub good_parts : {C : Class → Type 0} → Good most All false (then_items (list_items l w.Comma sp) l w.Close done_items) C (then_marked (list_at most w.Comma r) w.Close done)
  good_parts = good_then l h w.Close (λ k e. e) refl closes (good_list {D = NotComma} l h w.Comma (λ k e. e) refl (λ d i. i.0) (λ d i. i.1) g) (good_done most)

  spelled : (o : Option ((X × List X) × Unit {0})) → arguments_items l sp (arguments_of o) ≡ optional_items l w.Open (then_items (list_items l w.Comma sp) l w.Close done_items) o
  spelled None = refl
  spelled (Some x) = refl

  pub good_arguments : Good most All false (arguments_items l sp) NotOpen (arguments_at most r)
  unfolding arguments_at
  good_arguments = good_same (built arguments_of (optional w.Open (then_marked (list_at most w.Comma r) w.Close done))) (arguments_at most r) (λ s at. refl)
      (good_built (arguments_items l sp) arguments_of spelled
      (good_optional l h w.Open (λ k e. e) refl (λ d i. i) (λ at e low z. tt) (good_parts {C = NotOpen})) arguments_back arguments_there)
