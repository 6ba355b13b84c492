-- A fault that is told, and is none of syntax, stands there.
use Rattle.std.proofs.Common.{◌≡◌, ◌≢◌, ℕ, suc, ◌+◌, ◌-◌, ◌<◌, ◌≤◌, ◌⊎◌, inl, inr, Bool, true, false, ◌==◌, ◌&&◌, ◌||◌, if◌then◌else◌, List, [], ◌∷◌, ◌++◌, length, drop, Option, Some, None, refl, sym, ◌∙◌, ap, subst, arith, length-append, append_assoc, nat_le}
use Rattle.std.proofs.lemmas.Bool.Decides.{nat_tests}
use Rattle.std.specs.Char.{is_ascii_digit}
use Rattle.std.specs.Fmt.{decimal}
use Rattle.std.specs.List.{AllByRecursion, list_all}
use Rattle.spec_trees.specs.Tree.{Leaf, node}
use Rattle.spec_calculus.specs.Bounds.{most_term_levels}
use Rattle.spec_calculus.specs.Syntax.{Protocol}
use Rattle.spec_protocol_tokens.specs.Bytes.{begins_word, is_in_word}
use Rattle.spec_protocol_tokens.proofs.Sizes.{begins_word-in_word}
use Rattle.spec_protocol_scope.specs.Names.{is_variable}
use Rattle.spec_terms.specs.Term.{Sym, Ctor, Data, Tuple, Free, Point, Attacker, Term}
use Rattle.spec_run_text.specs.Reading.{numeral}
use Rattle.spec_run_text.proofs.Numbers.{numeral-decimal, numeral_some}
use Rattle.spec_certificate_text.specs.Spelled.{IsWord, AreDigits, goes_on}
use Rattle.spec_certificate_text.specs.Words.{symbol_word}
use Rattle.spec_certificate_text.specs.Written.{written}
use Rattle.spec_certificate_text.specs.Text.{term_text}
use Rattle.spec_certificate_text.specs.OfProtocol.{IsShort, IsSymbolOf, most_variables, HasNames}
use Rattle.spec_certificate_text.specs.Sides.{first_bound, variable_word}
use Rattle.spec_certificate_text.proofs.Sides.{own_word, bound_word}
use Rattle.spec_certificate_text.proofs.Runs.{both_left, both_right}
use Rattle.spec_certificate_text.proofs.Apart.{no_word}
use Rattle.spec_certificate_text.specs.Names.{Named, symbol_called, name_called}
use Rattle.spec_certificate_text.specs.Terms.{Code, Syntax, Number, Symbol, Arity, Count, Open, Mode, Begins, InWord, InDigits, AtBracket, InBound, Ended, Reading, Step, Goes, Ends, Fault, head_text, arguments_text, heads_text, mode_text, so_far}
use Rattle.spec_certificate_text.specs.Steps.{is_deep, goes, unless_deep, opened, with_parts, has_arity, closed, closing_byte, may_close, may_go_on, may_be_empty, after_term, begin_bound, begin_term, at_begin, after_variable, after_name, after_word, apply, in_word, after_point, after_number, after_digits, in_digits, at_bracket, after_bound, bound_ended, in_bound, step_in, step}
use Rattle.spec_certificate_text.specs.Runs.{Refused, followed, cut_off, at_end, read_on, read_tree}
use Rattle.spec_certificate_text.specs.Sound.{IsSound}
use Rattle.spec_certificate_text.proofs.Called.{free_called, constructor_called, point_called}
use Rattle.spec_certificate_text.proofs.Named.{IsWorded, symbol_called_is, name_called_is}
use Rattle.spec_certificate_text.proofs.Sound.{same_byte, arguments_text-push, closed_text, empty_name}
use Rattle.spec_certificate_text.proofs.SoundWords.{variable_rest, alone_text, applied_text, step-sound}
use Rattle.spec_certificate_text.proofs.Kept.{facts_within, IsHeld, AreHeld, not_deep, held_push, step-kept, StepOf, IsHeadOf, HeadsOf, ModeOf, ReadingOf}
use Rattle.spec_certificate_faults.specs.Grammar.{EndsBefore, MayBegin}
use Rattle.spec_certificate_faults.specs.TermFaults.{AreNoNumber, IsPlain, TakesOthers, MayStandBelow, TermFault, StandsInTerm}
use Rattle.spec_certificate_faults.proofs.Misapplied.{positive_depth}
use Rattle.spec_certificate_faults.proofs.Standing.{IsNarrow, outer, ArePlaced, begins_there, BeginsTerm, word_begins, head_begins, deep_there}

-- the fault stands in the bytes, of which the end is at the place
pub record Stands (binds : Bool) (P : Protocol) (bytes : List ℕ) (total place : ℕ) (code : Code) : Type 0 where
  pub there : List ℕ
  pub is : StandsInTerm binds P code bytes there
  pub counted : place + length there ≡ total

-- the word that is read stands where it is said to begin
unfoldable pub ModePlaced : ℕ → ℕ → Mode → List ℕ → Type 0
ModePlaced total from Begins k = Unit {0}
ModePlaced total from (InWord w) k = (from + length (w ++ k) ≡ total) × IsWord w
ModePlaced total from (InDigits w ds) k = (from + length (w ++ (64 ∷ (ds ++ k))) ≡ total) × IsWord w × AreDigits ds
ModePlaced total from AtBracket k = from + length (64 ∷ k) ≡ total
ModePlaced total from (InBound ds) k = (from + length (63 ∷ (ds ++ k)) ≡ total) × AreDigits ds
ModePlaced total from (Ended t) k = Unit {0}

pub record IsPlaced (P : Protocol) (total : ℕ) (r : Reading) (k : List ℕ) : Type 0 where
  pub heads : ArePlaced P total r.heads (mode_text P r.mode k)
  pub mode : ModePlaced total r.from r.mode k

-- a step goes on with what is placed, or tells a fault that stands there, if none of syntax
unfoldable pub IsExplained : Bool → Protocol → List ℕ → ℕ → List ℕ → Step → Type 0
IsExplained binds P bytes total k (Goes r) = IsPlaced P total r k
IsExplained binds P bytes total k (Ends t) = Unit {0}
IsExplained binds P bytes total k (Fault place code) = (code ≡ Syntax) ⊎ Stands binds P bytes total place code

syntax_explained : (binds : Bool) (P : Protocol) (bytes : List ℕ) (total : ℕ) (k : List ℕ) (place : ℕ) → IsExplained binds P bytes total k (Fault place Syntax)
unfolding IsExplained
syntax_explained binds P bytes total k place = inl refl

fault_explained : (binds : Bool) (P : Protocol) (bytes : List ℕ) (total : ℕ) (k : List ℕ) (place : ℕ) (code : Code) → Stands binds P bytes total place code → IsExplained binds P bytes total k (Fault place code)
unfolding IsExplained
fault_explained binds P bytes total k place code stands = inr stands

when : (binds : Bool) (P : Protocol) (bytes : List ℕ) (total : ℕ) (k : List ℕ) (test : Bool) (x y : Step) → (test ≡ true → IsExplained binds P bytes total k x) → (test ≡ false → IsExplained binds P bytes total k y) → IsExplained binds P bytes total k (if test then x else y)
when binds P bytes total k true x y first second = first refl
when binds P bytes total k false x y first second = second refl

-- Where a term begins: these heads are above it, and this place is its own.
record IsHere (P : Protocol) (bytes : List ℕ) (total : ℕ) (heads : List Open) (here : List ℕ) (place : ℕ) : Type 0 where
  may : MayBegin bytes (suc (length heads)) here
  placed : ArePlaced P total heads here
  counted : place + length here ≡ total

stands_here : (binds : Bool) (P : Protocol) (bytes : List ℕ) (total : ℕ) (heads : List Open) (here : List ℕ) (place : ℕ) (code : Code) → IsHere P bytes total heads here place → TermFault binds P (suc (length heads)) here code here → Stands binds P bytes total place code
stands_here binds P bytes total heads here place code is fault = record { there = here; is = record { level = suc (length heads); here = here; may = is.may; fault = fault }; counted = is.counted }

unless_deep-explained : (binds : Bool) (P : Protocol) (bytes : List ℕ) (total : ℕ) (k : List ℕ) (heads : List Open) (from : ℕ) (s : Step) (here : List ℕ) → IsHere P bytes total heads here from → BeginsTerm here → IsExplained binds P bytes total k s → IsExplained binds P bytes total k (unless_deep heads from s)
unless_deep-explained binds P bytes total k heads from s here is begins explained =
    when binds P bytes total k (is_deep heads) (Fault from Count) s
    (λ deep. fault_explained binds P bytes total k from Count (stands_here binds P bytes total heads here from Count is (refl, deep_there heads here begins deep)))
    (λ room. explained)

goes_explained : (binds : Bool) (P : Protocol) (bytes : List ℕ) (total : ℕ) (k : List ℕ) (heads : List Open) (mode : Mode) (from : ℕ) → ArePlaced P total heads (mode_text P mode k) → ModePlaced total from mode k → IsExplained binds P bytes total k (goes heads mode from)
unfolding IsExplained
goes_explained binds P bytes total k heads mode from placed mode_placed = record { heads = placed; mode = mode_placed }

opened-explained : (binds : Bool) (P : Protocol) (bytes : List ℕ) (total : ℕ) (k : List ℕ) (heads : List Open) (named : Named) (from : ℕ) → IsHere P bytes total heads (head_text P named.symbol k) from → IsExplained binds P bytes total k (opened heads named from)
unfolding IsExplained ArePlaced ModePlaced
opened-explained binds P bytes total k heads named from is = record { heads = (is.counted, λ one. refl, is.placed); mode = tt }

ended-explained : (binds : Bool) (P : Protocol) (bytes : List ℕ) (total : ℕ) (k : List ℕ) (heads : List Open) (t : Term) (from : ℕ) → ArePlaced P total heads (term_text P t k) → IsExplained binds P bytes total k (goes heads (Ended t) from)
unfolding IsExplained ModePlaced
ended-explained binds P bytes total k heads t from placed = record { heads = placed; mode = tt }

-- The arguments of a symbol end.

other_count : (m n : ℕ) → (n == m) ≡ false → m ≢ n
other_count m n e = grind (arith, nat_tests)

too_many : (m n : ℕ) → nat_le n m ≡ false → m < n
too_many m n e = grind (arith, nat_tests)

takes_others : (binds : Bool) (P : Protocol) (s : Sym) (arity n : ℕ) → IsHeadOf binds P s arity → (may_go_on s ≡ false → n ≡ 1) → has_arity s arity n ≡ false → TakesOthers P (with_parts s n) n
unfolding IsHeadOf
takes_others binds P (Ctor f) arity n is one misfits = (arity, is, other_count arity n misfits)
takes_others binds P (Data f) arity n is one misfits = (arity, is, other_count arity n misfits)
takes_others binds P (Tuple m) arity n is one misfits = too_many 16 n misfits
takes_others binds P (Free a) arity n is one misfits = (arity, is, other_count arity n misfits)
takes_others binds P (Point p) arity n is one misfits = (arity, is, other_count arity n misfits)
takes_others binds P Attacker arity n is one misfits = other_count arity n misfits (is ∙ sym (one refl))

held_below : (binds : Bool) (P : Protocol) (above : ℕ) (ts : List Term) → AreHeld binds P above ts → AllByRecursion (MayStandBelow binds P above) ts
unfolding AreHeld
held_below binds P above [] held = tt
held_below binds P above (t ∷ ts) held = ((held.0.is_of, held.0.shallow), held_below binds P above ts held.1)

-- behind its arguments a symbol ends, whatever follows
closed_ends : (P : Protocol) (s : Sym) (n : ℕ) (t : Term) (ts : List Term) (k : List ℕ) → EndsBefore (written P (node (with_parts s n) (t ∷ ts))) k
closed_ends P (Ctor f) n t ts k = tt
closed_ends P (Data f) n t ts k = tt
closed_ends P (Tuple m) n t ts k = tt
closed_ends P (Free a) n t ts k = tt
closed_ends P (Point p) n t ts k = tt
closed_ends P Attacker n t ts k = tt

closed-explained : (binds : Bool) (P : Protocol) (bytes : List ℕ) (total : ℕ) (k : List ℕ) (o : Open) (heads : List Open) (ts : List Term) (here : List ℕ) → IsHere P bytes total heads here o.place → BeginsTerm here → IsHeadOf binds P o.symbol o.arity → AreHeld binds P (suc (length heads)) ts
    → (may_go_on o.symbol ≡ false → length ts ≡ 1) → EndsBefore (written P (node (with_parts o.symbol (length ts)) ts)) k → here ≡ term_text P (node (with_parts o.symbol (length ts)) ts) k → IsExplained binds P bytes total k (closed o heads ts)
closed-explained binds P bytes total k o heads ts here is begins of_head held one ends text =
    let n = length ts in
    let term = node (with_parts o.symbol n) ts in
    when binds P bytes total k (has_arity o.symbol o.arity n) (unless_deep heads o.place (goes heads (Ended term) o.place)) (Fault o.place Arity)
    (λ fits. unless_deep-explained binds P bytes total k heads o.place (goes heads (Ended term) o.place) here is begins (ended-explained binds P bytes total k heads term o.place (subst (ArePlaced P total heads) text is.placed)))
    (λ misfits. fault_explained binds P bytes total k o.place Arity (stands_here binds P bytes total heads here o.place Arity is (
      refl,
      record {
        symbol = with_parts o.symbol n;
        arguments = ts;
        behind = k;
        text = text;
        ends = ends;
        each = held_below binds P (suc (length heads)) ts held;
        wrong = takes_others binds P o.symbol o.arity n of_head one misfits;
      },
    )))

-- what is known of an open symbol
record IsOpenHere (binds : Bool) (P : Protocol) (bytes : List ℕ) (total : ℕ) (o : Open) (heads : List Open) (inner : List ℕ) : Type 0 where
  here : IsHere P bytes total heads (outer P o inner) o.place
  of_head : IsHeadOf binds P o.symbol o.arity
  held : AreHeld binds P (suc (length heads)) o.arguments
  narrow : IsNarrow o
  begins : BeginsTerm (outer P o inner)

open_here : (binds : Bool) (P : Protocol) → HasNames P → (bytes : List ℕ) (total : ℕ) (o : Open) (heads : List Open) (inner : List ℕ) → HeadsOf binds P (o ∷ heads) → ArePlaced P total (o ∷ heads) inner → bytes ≡ heads_text P (o ∷ heads) inner → IsOpenHere binds P bytes total o heads inner
unfolding HeadsOf ArePlaced
open_here binds P names bytes total o heads inner of_heads placed text = record {
  here = record { may = begins_there binds P names total bytes heads (outer P o inner) of_heads.2 placed.2 text; placed = placed.2; counted = placed.0 };
  of_head = of_heads.0;
  held = of_heads.1;
  narrow = placed.1;
  begins = head_begins binds P names o.symbol o.arity (arguments_text P o.arguments inner) of_heads.0;
}

-- An argument ended.

pushed_ends : (P : Protocol) (s : Sym) (n : ℕ) (ts : List Term) (t : Term) (k : List ℕ) → EndsBefore (written P (node (with_parts s n) (ts ++ t ∷ []))) k
pushed_ends P s n [] t k = closed_ends P s n t [] k
pushed_ends P s n (u ∷ us) t k = closed_ends P s n u (us ++ t ∷ []) k

comma-explained : (binds : Bool) (P : Protocol) (bytes : List ℕ) (total : ℕ) (k : List ℕ) (o : Open) (heads : List Open) (t : Term) (from : ℕ) → IsOpenHere binds P bytes total o heads (term_text P t (44 ∷ k)) → may_go_on o.symbol ≡ true → IsExplained binds P bytes total k (goes (record o { arguments = o.arguments ++ t ∷ [] } ∷ heads) Begins from)
unfolding IsExplained ArePlaced ModePlaced
comma-explained binds P bytes total k o heads t from is may =
    let text : head_text P o.symbol (arguments_text P o.arguments (term_text P t (44 ∷ k))) ≡ head_text P o.symbol (arguments_text P (o.arguments ++ t ∷ []) k) = ap (head_text P o.symbol) (sym (arguments_text-push P o.arguments t k)) in
    record {
      heads = (ap (λ bs. o.place + length bs) (sym text) ∙ is.here.counted, λ none. absurd (let never : true ≡ false = sym may ∙ none in cc), subst (ArePlaced P total heads) text is.here.placed);
      mode = tt;
    }

one_more : (ts : List Term) (t : Term) → ts ≡ [] → length (ts ++ t ∷ []) ≡ 1
one_more ts t none = ap (λ us. length (us ++ t ∷ [])) none

after_term-explained : (binds : Bool) (P : Protocol) → HasNames P → (bytes : List ℕ) (total b : ℕ) (k : List ℕ) (at : ℕ) (t : Term) (heads : List Open) (from : ℕ) → HeadsOf binds P heads → IsHeld binds P (length heads) t → ArePlaced P total heads (term_text P t (b ∷ k)) → bytes ≡ heads_text P heads (term_text P t (b ∷ k))
    → IsExplained binds P bytes total k (after_term at t heads from b)
unfolding IsExplained
after_term-explained binds P names bytes total b k at t [] from of_heads held placed text = tt
after_term-explained binds P names bytes total b k at t (o ∷ heads) from of_heads held placed text =
    let all = o.arguments ++ t ∷ [] in
    let more = goes (record o { arguments = o.arguments ++ t ∷ [] } ∷ heads) Begins from in
    let end = closed o heads all in
    let ends = (b == closing_byte o.symbol) && may_close o.symbol (length o.arguments + 1) in
    let here = open_here binds P names bytes total o heads (term_text P t (b ∷ k)) of_heads placed text in
    when binds P bytes total k ((b == 44) && may_go_on o.symbol) more (if ends then end else Fault at Syntax)
    (λ comma.
    let is : b ≡ 44 = same_byte b 44 (both_left (b == 44) (may_go_on o.symbol) comma) in
    comma-explained binds P bytes total k o heads t from (subst (λ c. IsOpenHere binds P bytes total o heads (term_text P t (c ∷ k))) is here) (both_right (b == 44) (may_go_on o.symbol) comma))
    (λ no_comma. when binds P bytes total k ends end (Fault at Syntax)
    (λ closes.
    let is : b ≡ closing_byte o.symbol = same_byte b (closing_byte o.symbol) (both_left (b == closing_byte o.symbol) (may_close o.symbol (length o.arguments + 1)) closes) in
    let same : outer P o (term_text P t (b ∷ k)) ≡ term_text P (node (with_parts o.symbol (length all)) all) k =
    ap (λ c. head_text P o.symbol (arguments_text P o.arguments (term_text P t (c ∷ k)))) is ∙ closed_text P o.symbol (length all) o.arguments t k in
    closed-explained binds P bytes total k o heads all (outer P o (term_text P t (b ∷ k))) here.here here.begins here.of_head (held_push binds P (suc (length heads)) o.arguments t here.held held)
    (λ one. one_more o.arguments t (here.narrow one)) (pushed_ends P o.symbol (length all) o.arguments t k) same)
    (λ stays. syntax_explained binds P bytes total k at))

-- A term begins.

begin_bound-explained : (binds : Bool) (P : Protocol) (bytes : List ℕ) (total : ℕ) (k : List ℕ) (at : ℕ) (heads : List Open) → IsHere P bytes total heads (63 ∷ k) at → IsExplained binds P bytes total k (begin_bound binds at heads)
unfolding ModePlaced
begin_bound-explained true P bytes total k at heads here =
    unless_deep-explained true P bytes total k heads at (goes heads (InBound []) at) (63 ∷ k) here record { first = 63; later = k; text = refl; begins = refl }
    (goes_explained true P bytes total k heads (InBound []) at here.placed (here.counted, refl))
begin_bound-explained false P bytes total k at heads here =
    fault_explained false P bytes total k at Symbol (stands_here false P bytes total heads (63 ∷ k) at Symbol here (refl, inr (inl record { outside = refl; behind = k; text = refl })))

begin_term-explained : (binds : Bool) (P : Protocol) (bytes : List ℕ) (total b : ℕ) (k : List ℕ) (at : ℕ) (heads : List Open) → IsHere P bytes total heads (b ∷ k) at → IsExplained binds P bytes total k (begin_term binds at heads b)
unfolding IsExplained ArePlaced ModePlaced
begin_term-explained binds P bytes total b k at heads is =
    let tuple = opened heads record { symbol = Tuple 0; arity = 0 } at in
    let bracket = goes heads AtBracket at in
    let bound = if b == 63 then begin_bound binds at heads else Fault at Syntax in
    let mark = if b == 64 then unless_deep heads at bracket else bound in
    when binds P bytes total k (begins_word b) (goes heads (InWord (b ∷ [])) at) (if b == 40 then unless_deep heads at tuple else mark)
    (λ word. goes_explained binds P bytes total k heads (InWord (b ∷ [])) at is.placed
    (is.counted, record { begins = word; goes_on = ap (λ t. t && true) (begins_word-in_word b word) }))
    (λ no_word. when binds P bytes total k (b == 40) (unless_deep heads at tuple) mark
    (λ opens.
    let here = subst (λ c. IsHere P bytes total heads (c ∷ k) at) (same_byte b 40 opens) is in
    unless_deep-explained binds P bytes total k heads at tuple (40 ∷ k) here record { first = 40; later = k; text = refl; begins = refl } (opened-explained binds P bytes total k heads record { symbol = Tuple 0; arity = 0 } at here))
    (λ no_tuple. when binds P bytes total k (b == 64) (unless_deep heads at bracket) bound
    (λ at_sign.
    let here = subst (λ c. IsHere P bytes total heads (c ∷ k) at) (same_byte b 64 at_sign) is in
    unless_deep-explained binds P bytes total k heads at bracket (64 ∷ k) here record { first = 64; later = k; text = refl; begins = refl } (goes_explained binds P bytes total k heads AtBracket at here.placed here.counted))
    (λ no_bracket. when binds P bytes total k (b == 63) (begin_bound binds at heads) (Fault at Syntax)
    (λ mark. begin_bound-explained binds P bytes total k at heads (subst (λ c. IsHere P bytes total heads (c ∷ k) at) (same_byte b 63 mark) is))
    (λ none. syntax_explained binds P bytes total k at))))

empty_ends : (P : Protocol) (s : Sym) (ts : List Term) (k : List ℕ) → may_be_empty s ts ≡ true → EndsBefore (written P (node (with_parts s 0) [])) k
empty_ends P (Point p) ts k e = tt
empty_ends P (Ctor f) ts k e = absurd (cc)
empty_ends P (Data f) ts k e = absurd (cc)
empty_ends P (Tuple n) ts k e = absurd (cc)
empty_ends P (Free a) ts k e = absurd (cc)
empty_ends P Attacker ts k e = absurd (cc)

empty_goes_on : (s : Sym) (ts : List Term) → may_be_empty s ts ≡ true → may_go_on s ≡ false → ⊥
empty_goes_on (Point p) ts e one = cc
empty_goes_on (Ctor f) ts e one = cc
empty_goes_on (Data f) ts e one = cc
empty_goes_on (Tuple n) ts e one = cc
empty_goes_on (Free a) ts e one = cc
empty_goes_on Attacker ts e one = cc

none_held : (binds : Bool) (P : Protocol) (above : ℕ) → AreHeld binds P above []
unfolding AreHeld
none_held binds P above = tt

begins_here : (binds : Bool) (P : Protocol) → HasNames P → (bytes : List ℕ) (total : ℕ) (heads : List Open) (here : List ℕ) (place : ℕ) → HeadsOf binds P heads → ArePlaced P total heads here → bytes ≡ heads_text P heads here → place + length here ≡ total → IsHere P bytes total heads here place
begins_here binds P names bytes total heads here place of_heads placed text counted = record { may = begins_there binds P names total bytes heads here of_heads placed text; placed = placed; counted = counted }

at_begin-explained : (binds : Bool) (P : Protocol) → HasNames P → (bytes : List ℕ) (total b : ℕ) (k : List ℕ) (at : ℕ) (heads : List Open) → HeadsOf binds P heads → ArePlaced P total heads (b ∷ k) → bytes ≡ heads_text P heads (b ∷ k) → at + length (b ∷ k) ≡ total → IsExplained binds P bytes total k (at_begin binds at heads b)
at_begin-explained binds P names bytes total b k at [] of_heads placed text counted = begin_term-explained binds P bytes total b k at [] (begins_here binds P names bytes total [] (b ∷ k) at of_heads placed text counted)
at_begin-explained binds P names bytes total b k at (o ∷ heads) of_heads placed text counted =
    let begun = begin_term binds at (o ∷ heads) b in
    let empty = (b == 93) && may_be_empty o.symbol o.arguments in
    let here = open_here binds P names bytes total o heads (b ∷ k) of_heads placed text in
    when binds P bytes total k empty (closed o heads []) (unless_deep heads o.place begun)
    (λ ends.
    let is : b ≡ 93 = same_byte b 93 (both_left (b == 93) (may_be_empty o.symbol o.arguments) ends) in
    let may : may_be_empty o.symbol o.arguments ≡ true = both_right (b == 93) (may_be_empty o.symbol o.arguments) ends in
    closed-explained binds P bytes total k o heads [] (outer P o (b ∷ k)) here.here here.begins here.of_head (none_held binds P (suc (length heads))) (λ one. absurd (empty_goes_on o.symbol o.arguments may one)) (empty_ends P o.symbol o.arguments k may)
    (ap (λ c. outer P o (c ∷ k)) is ∙ empty_name P o.symbol o.arguments k may))
    (λ goes_on. unless_deep-explained binds P bytes total k heads o.place begun (outer P o (b ∷ k)) here.here here.begins
    (begin_term-explained binds P bytes total b k at (o ∷ heads) (begins_here binds P names bytes total (o ∷ heads) (b ∷ k) at of_heads placed text counted)))

-- A word ended.

pub variable_digits : (word : List ℕ) → is_variable word ≡ true → AreDigits (drop 1 word) × (1 ≤ length (drop 1 word))
variable_digits [] e = absurd (cc)
variable_digits (b ∷ []) e = absurd (cc)
variable_digits (b ∷ d ∷ ds) e = (both_right (b == 118) (list_all is_ascii_digit (d ∷ ds)) e, omega arith)

pub no_number : (digits : List ℕ) → AreDigits digits → 1 ≤ length digits → numeral digits ≡ None → AreNoNumber digits
no_number digits all some none = record {
  all = all;
  some = some;
  none = λ n short is. let never : None ≡ Some n = sym none ∙ (ap numeral is ∙ numeral-decimal n short) in cc;
}

after_variable-explained : (binds : Bool) (P : Protocol) → HasNames P → (bytes : List ℕ) (total b : ℕ) (k : List ℕ) (at : ℕ) (heads : List Open) (from : ℕ) (digits : List ℕ) (number : Option ℕ) → numeral digits ≡ number → AreDigits digits → 1 ≤ length digits → goes_on b ≡ false → is_deep heads ≡ false
    → HeadsOf binds P heads → IsHere P bytes total heads (118 ∷ (digits ++ b ∷ k)) from → bytes ≡ heads_text P heads (118 ∷ (digits ++ b ∷ k)) → at + length (b ∷ k) ≡ total → IsExplained binds P bytes total k (after_variable at heads from digits number b)
after_variable-explained binds P names bytes total b k at heads from digits None is all some ends room of_heads here text counted =
    fault_explained binds P bytes total k (at - length digits) Number record {
      there = digits ++ b ∷ k;
      is = record {
        level = suc (length heads);
        here = 118 ∷ (digits ++ b ∷ k);
        may = here.may;
        fault = inl record { digits = digits; behind = b ∷ k; text = refl; stand = refl; wrong = no_number digits all some is; ends = ends };
      };
      counted = omega (arith, counted, here.counted, length-append digits (b ∷ k));
    }
after_variable-explained binds P names bytes total b k at heads from digits (Some x) is all some ends room of_heads here text counted =
    let told = numeral_some digits x is in
    let low = facts_within binds in
    let same : 118 ∷ (digits ++ b ∷ k) ≡ term_text P (Leaf x) (b ∷ k) = ap (λ ds. 118 ∷ (ds ++ b ∷ k)) told.0 ∙ sym (ap (λ w. w ++ b ∷ k) (own_word x told.1)) in
    after_term-explained binds P names bytes total b k at (Leaf x) heads from of_heads record { is_of = omega (arith, told.1, low); shallow = not_deep binds heads room } (subst (ArePlaced P total heads) same here.placed) (text ∙ ap (heads_text P heads) same)

-- a word that is not called so names no constructor and no free name
not_named : (P : Protocol) → HasNames P → (word : List ℕ) → symbol_called P word ≡ None → (f : Sym) (n : ℕ) → IsPlain f → IsSymbolOf P f n → symbol_word P f ≢ word
not_named P names word none (Ctor f) n plain is has_word = let named : Named = record { symbol = Ctor f; arity = n } in let never : None ≡ Some named = sym none ∙ (ap (symbol_called P) (sym has_word) ∙ constructor_called P names false f n is) in cc
not_named P names word none (Data f) n plain is has_word = let named : Named = record { symbol = Data f; arity = n } in let never : None ≡ Some named = sym none ∙ (ap (symbol_called P) (sym has_word) ∙ constructor_called P names true f n is) in cc
not_named P names word none (Free a) n plain is has_word = let named : Named = record { symbol = Free a; arity = 0 } in let never : None ≡ Some named = sym none ∙ (ap (symbol_called P) (sym has_word) ∙ free_called P names a is.0) in cc
not_named P names word none (Tuple parts) n plain is has_word = plain
not_named P names word none (Point p) n plain is has_word = plain
not_named P names word none Attacker n plain is has_word = plain

nothing-explained : (binds : Bool) (P : Protocol) → HasNames P → (bytes : List ℕ) (total b : ℕ) (k : List ℕ) (heads : List Open) (from : ℕ) (word : List ℕ) → symbol_called P word ≡ None → IsWord word → is_in_word b ≡ false → (b == 64) ≡ false → (is_variable word ≡ true → b ≡ 40) → IsHere P bytes total heads (word ++ b ∷ k) from
    → IsExplained binds P bytes total k (Fault from Symbol)
nothing-explained binds P names bytes total b k heads from word none is_word ends no_point no_variable here =
    fault_explained binds P bytes total k from Symbol (stands_here binds P bytes total heads (word ++ b ∷ k) from Symbol here (
      refl,
      inl record {
        word = word;
        next = b;
        behind = k;
        text = refl;
        is_word = is_word;
        ends = ends;
        no_point = no_point;
        no_variable = no_variable;
        none = not_named P names word none;
      },
    ))

bare_ends : (P : Protocol) (s : Sym) (b : ℕ) (k : List ℕ) → IsWorded s → goes_on b ≡ false → EndsBefore (written P (node s [])) (b ∷ k)
bare_ends P (Ctor f) b k worded ends = ends
bare_ends P (Data f) b k worded ends = ends
bare_ends P (Free a) b k worded ends = ends
bare_ends P (Tuple n) b k worded ends = absurd worded
bare_ends P (Point p) b k worded ends = absurd worded
bare_ends P Attacker b k worded ends = absurd worded

some_arity : (n : ℕ) → (n == 0) ≡ false → n ≢ 0
some_arity n e = grind (arith, nat_tests)

bare_takes : (P : Protocol) (s : Sym) (arity : ℕ) → IsWorded s → IsSymbolOf P s arity → arity ≢ 0 → TakesOthers P s 0
bare_takes P (Ctor f) arity worded is other = (arity, is, other)
bare_takes P (Data f) arity worded is other = (arity, is, other)
bare_takes P (Free a) arity worded is other = (arity, is, other)
bare_takes P (Tuple n) arity worded is other = absurd worded
bare_takes P (Point p) arity worded is other = absurd worded
bare_takes P Attacker arity worded is other = absurd worded

after_name-explained : (binds : Bool) (P : Protocol) → HasNames P → (bytes : List ℕ) (total b : ℕ) (k : List ℕ) (at : ℕ) (heads : List Open) (from : ℕ) (word : List ℕ) (found : Option Named) → symbol_called P word ≡ found → IsWord word → is_in_word b ≡ false → (b == 64) ≡ false → goes_on b ≡ false → is_variable word ≡ false
    → HeadsOf binds P heads → IsHere P bytes total heads (word ++ b ∷ k) from → bytes ≡ heads_text P heads (word ++ b ∷ k) → IsExplained binds P bytes total k (after_name at heads from found b)
after_name-explained binds P names bytes total b k at heads from word None is is_word ends no_point no_more no_variable of_heads here text =
    nothing-explained binds P names bytes total b k heads from word is is_word ends no_point (λ variable. absurd (let never : true ≡ false = sym variable ∙ no_variable in cc)) here
after_name-explained binds P names bytes total b k at heads from word (Some named) is is_word ends no_point no_more no_variable of_heads here text =
    let called = symbol_called_is P word named is in
    let alone : word ++ b ∷ k ≡ term_text P (node named.symbol []) (b ∷ k) = ap (λ w. w ++ (b ∷ k)) (sym called.has_word) ∙ sym (alone_text P named.symbol (b ∷ k) called.worded) in
    let ended = after_term at (node named.symbol []) heads from b in
    when binds P bytes total k (named.arity == 0) (unless_deep heads from ended) (Fault from Arity)
    (λ constant. when binds P bytes total k (is_deep heads) (Fault from Count) ended
    (λ deep. fault_explained binds P bytes total k from Count (stands_here binds P bytes total heads (word ++ b ∷ k) from Count here (refl, deep_there heads (word ++ b ∷ k) (word_begins word (b ∷ k) is_word) deep)))
    (λ room. after_term-explained binds P names bytes total b k at (node named.symbol []) heads from of_heads
    record { is_of = (subst (IsSymbolOf P named.symbol) (same_byte named.arity 0 constant) called.is_of, tt); shallow = omega (arith, not_deep binds heads room) }
    (subst (ArePlaced P total heads) alone here.placed) (text ∙ ap (heads_text P heads) alone)))
    (λ takes. fault_explained binds P bytes total k from Arity (stands_here binds P bytes total heads (word ++ b ∷ k) from Arity here (
      refl,
      record {
        symbol = named.symbol;
        arguments = [];
        behind = b ∷ k;
        text = alone;
        ends = bare_ends P named.symbol b k called.worded no_more;
        each = tt;
        wrong = bare_takes P named.symbol named.arity called.worded called.is_of (some_arity named.arity takes);
      },
    )))

after_word-explained : (binds : Bool) (P : Protocol) → HasNames P → (bytes : List ℕ) (total b : ℕ) (k : List ℕ) (at : ℕ) (heads : List Open) (from : ℕ) (word : List ℕ) → IsWord word → is_in_word b ≡ false → (b == 40) ≡ false → (b == 64) ≡ false
    → HeadsOf binds P heads → IsHere P bytes total heads (word ++ b ∷ k) from → bytes ≡ heads_text P heads (word ++ b ∷ k) → at + length (b ∷ k) ≡ total → IsExplained binds P bytes total k (after_word P at heads from word b)
after_word-explained binds P names bytes total b k at heads from word is_word no_letter no_open no_point of_heads here text counted =
    let digits = drop 1 word in
    let number = after_variable at heads from digits (numeral digits) b in
    let no_more : goes_on b ≡ false = ap (λ t. t || (b == 40) || (b == 64)) no_letter ∙ (ap (λ t. t || (b == 64)) no_open ∙ no_point) in
    when binds P bytes total k (is_variable word) (unless_deep heads from number) (after_name at heads from (symbol_called P word) b)
    (λ variable.
    let same : word ++ b ∷ k ≡ 118 ∷ (digits ++ b ∷ k) = ap (λ w. w ++ b ∷ k) (variable_rest word variable) in
    let told = variable_digits word variable in
    when binds P bytes total k (is_deep heads) (Fault from Count) number
    (λ deep. fault_explained binds P bytes total k from Count (stands_here binds P bytes total heads (word ++ b ∷ k) from Count here (refl, deep_there heads (word ++ b ∷ k) (word_begins word (b ∷ k) is_word) deep)))
    (λ room. after_variable-explained binds P names bytes total b k at heads from digits (numeral digits) refl told.0 told.1 no_more room of_heads
    (subst (λ bs. IsHere P bytes total heads bs from) same here) (text ∙ ap (heads_text P heads) same) counted))
    (λ name. after_name-explained binds P names bytes total b k at heads from word (symbol_called P word) refl is_word no_letter no_point no_more name of_heads here text)

apply-explained : (binds : Bool) (P : Protocol) → HasNames P → (bytes : List ℕ) (total : ℕ) (k : List ℕ) (heads : List Open) (from : ℕ) (word : List ℕ) (found : Option Named) → symbol_called P word ≡ found → IsWord word → IsHere P bytes total heads (word ++ 40 ∷ k) from → IsExplained binds P bytes total k (apply heads from found)
apply-explained binds P names bytes total k heads from word None is is_word here = nothing-explained binds P names bytes total 40 k heads from word is is_word refl refl (λ variable. refl) here
apply-explained binds P names bytes total k heads from word (Some named) is is_word here =
    let called = symbol_called_is P word named is in
    let head : word ++ 40 ∷ k ≡ head_text P named.symbol k = ap (λ w. w ++ (40 ∷ k)) (sym called.has_word) ∙ sym (applied_text P named.symbol k called.worded) in
    unless_deep-explained binds P bytes total k heads from (opened heads named from) (word ++ 40 ∷ k) here (word_begins word (40 ∷ k) is_word)
    (opened-explained binds P bytes total k heads named from (subst (λ bs. IsHere P bytes total heads bs from) head here))

in_word-explained : (binds : Bool) (P : Protocol) → HasNames P → (bytes : List ℕ) (total b : ℕ) (k : List ℕ) (at : ℕ) (heads : List Open) (from : ℕ) (word : List ℕ) → IsWord word → HeadsOf binds P heads → IsHere P bytes total heads (word ++ b ∷ k) from → bytes ≡ heads_text P heads (word ++ b ∷ k) → at + length (b ∷ k) ≡ total
    → IsExplained binds P bytes total k (in_word P at heads from word b)
unfolding ModePlaced
in_word-explained binds P names bytes total b k at heads from word is_word of_heads here text counted =
    let longer = goes heads (InWord (word ++ b ∷ [])) from in
    let applied = apply heads from (symbol_called P word) in
    let behind = goes heads (InDigits word []) from in
    let ended = after_word P at heads from word b in
    let same : word ++ b ∷ k ≡ (word ++ b ∷ []) ++ k = sym (append_assoc word (b ∷ []) k) in
    when binds P bytes total k (is_in_word b) longer (if b == 40 then applied else (if b == 64 then behind else ended))
    (λ letter. goes_explained binds P bytes total k heads (InWord (word ++ b ∷ [])) from (subst (ArePlaced P total heads) same here.placed)
    (ap (λ bs. from + length bs) (sym same) ∙ here.counted, longer_word word b is_word letter))
    (λ no_letter. when binds P bytes total k (b == 40) applied (if b == 64 then behind else ended)
    (λ opens. apply-explained binds P names bytes total k heads from word (symbol_called P word) refl is_word (subst (λ c. IsHere P bytes total heads (word ++ c ∷ k) from) (same_byte b 40 opens) here))
    (λ no_open. when binds P bytes total k (b == 64) behind ended
    (λ at_sign.
    let there = subst (λ c. IsHere P bytes total heads (word ++ c ∷ k) from) (same_byte b 64 at_sign) here in
    goes_explained binds P bytes total k heads (InDigits word []) from there.placed (there.counted, is_word, refl))
    (λ no_point. after_word-explained binds P names bytes total b k at heads from word is_word no_letter no_open no_point of_heads here text counted)))
  where
    all_longer : (w : List ℕ) (c : ℕ) → list_all is_in_word w ≡ true → is_in_word c ≡ true → list_all is_in_word (w ++ c ∷ []) ≡ true
    all_longer [] c all letter = ap (λ t. t && true) letter
    all_longer (d ∷ w) c all letter = ap (λ t. t && list_all is_in_word (w ++ c ∷ [])) (both_left (is_in_word d) (list_all is_in_word w) all) ∙ all_longer w c (both_right (is_in_word d) (list_all is_in_word w) all) letter

    longer_word : (w : List ℕ) (c : ℕ) → IsWord w → is_in_word c ≡ true → IsWord (w ++ c ∷ [])
    longer_word [] c is letter = absurd (no_word is)
    longer_word (d ∷ w) c is letter = record { begins = is.begins; goes_on = all_longer (d ∷ w) c is.goes_on letter }

-- Digits behind a word and `@` ended.

after_point-explained : (binds : Bool) (P : Protocol) → HasNames P → (bytes : List ℕ) (total b : ℕ) (k : List ℕ) (at : ℕ) (heads : List Open) (from : ℕ) (word : List ℕ) (point : ℕ) (found : Option Named) → name_called P word point ≡ found → IsWord word → IsShort point → is_ascii_digit b ≡ false
    → IsHere P bytes total heads (word ++ (64 ∷ (decimal point ++ b ∷ k))) from → IsExplained binds P bytes total k (after_point at heads from found b)
after_point-explained binds P names bytes total b k at heads from word point None is is_word short ends here =
    fault_explained binds P bytes total k from Symbol (stands_here binds P bytes total heads (word ++ (64 ∷ (decimal point ++ b ∷ k))) from Symbol here (
      refl,
      inr (inr record {
        word = word;
        point = point;
        behind = b ∷ k;
        text = refl;
        is_word = is_word;
        short = short;
        ends = ends;
        none = λ n restriction has_word. let named : Named = record { symbol = Point point; arity = n } in let never : None ≡ Some named = sym is ∙ (ap (λ w. name_called P w point) (sym has_word) ∙ point_called P point n restriction) in cc;
      }),
    ))
after_point-explained binds P names bytes total b k at heads from word point (Some named) is is_word short ends here =
    let called = name_called_is P word point named is in
    let bs = word ++ (64 ∷ (decimal point ++ b ∷ k)) in
    let head : word ++ (64 ∷ (decimal point ++ (91 ∷ k))) ≡ head_text P named.symbol k =
    ap (λ w. w ++ (64 ∷ (decimal point ++ (91 ∷ k)))) (sym called.has_word) ∙ ap (λ s. head_text P s k) (sym called.symbol) in
    when binds P bytes total k (b == 91) (opened heads named from) (unless_deep heads from (Fault at Syntax))
    (λ bracket. opened-explained binds P bytes total k heads named from
    (subst (λ bytes'. IsHere P bytes total heads bytes' from) (ap (λ c. word ++ (64 ∷ (decimal point ++ (c ∷ k)))) (same_byte b 91 bracket) ∙ head) here))
    (λ none. unless_deep-explained binds P bytes total k heads from (Fault at Syntax) bs here (word_begins word (64 ∷ (decimal point ++ b ∷ k)) is_word) (syntax_explained binds P bytes total k at))

after_number-explained : (binds : Bool) (P : Protocol) → HasNames P → (bytes : List ℕ) (total b : ℕ) (k : List ℕ) (at : ℕ) (heads : List Open) (from : ℕ) (word digits : List ℕ) (number : Option ℕ) → numeral digits ≡ number → IsWord word → AreDigits digits → 1 ≤ length digits → is_ascii_digit b ≡ false
    → IsHere P bytes total heads (word ++ (64 ∷ (digits ++ b ∷ k))) from → at + length (b ∷ k) ≡ total → IsExplained binds P bytes total k (after_number P at heads from word digits number b)
after_number-explained binds P names bytes total b k at heads from word digits None is is_word all some ends here counted =
    let there = digits ++ b ∷ k in
    unless_deep-explained binds P bytes total k heads from (Fault (at - length digits) Number) (word ++ (64 ∷ there)) here (word_begins word (64 ∷ there) is_word)
    (fault_explained binds P bytes total k (at - length digits) Number record {
      there = there;
      is = record {
        level = suc (length heads);
        here = word ++ (64 ∷ there);
        may = here.may;
        fault = inr (inr record { word = word; digits = digits; behind = b ∷ k; text = refl; stand = refl; is_word = is_word; wrong = no_number digits all some is; ends = ends });
      };
      counted = omega (arith, counted, here.counted, length-append digits (b ∷ k), length-append word (64 ∷ there));
    })
after_number-explained binds P names bytes total b k at heads from word digits (Some point) is is_word all some ends here counted =
    let told = numeral_some digits point is in
    after_point-explained binds P names bytes total b k at heads from word point (name_called P word point) refl is_word told.1 ends
    (subst (λ ds. IsHere P bytes total heads (word ++ (64 ∷ (ds ++ b ∷ k))) from) told.0 here)

after_digits-explained : (binds : Bool) (P : Protocol) → HasNames P → (bytes : List ℕ) (total b : ℕ) (k : List ℕ) (at : ℕ) (heads : List Open) (from : ℕ) (word digits : List ℕ) → IsWord word → AreDigits digits → is_ascii_digit b ≡ false
    → IsHere P bytes total heads (word ++ (64 ∷ (digits ++ b ∷ k))) from → at + length (b ∷ k) ≡ total → IsExplained binds P bytes total k (after_digits P at heads from word digits b)
after_digits-explained binds P names bytes total b k at heads from word [] is_word all ends here counted =
    unless_deep-explained binds P bytes total k heads from (Fault at Syntax) (word ++ (64 ∷ b ∷ k)) here (word_begins word (64 ∷ b ∷ k) is_word) (syntax_explained binds P bytes total k at)
after_digits-explained binds P names bytes total b k at heads from word (d ∷ ds) is_word all ends here counted =
    after_number-explained binds P names bytes total b k at heads from word (d ∷ ds) (numeral (d ∷ ds)) refl is_word all (omega arith) ends here counted

longer_digits : (ds : List ℕ) (c : ℕ) → AreDigits ds → is_ascii_digit c ≡ true → AreDigits (ds ++ c ∷ [])
longer_digits [] c some digit = ap (λ t. t && true) digit
longer_digits (d ∷ ds) c some digit = ap (λ t. t && list_all is_ascii_digit (ds ++ c ∷ [])) (both_left (is_ascii_digit d) (list_all is_ascii_digit ds) some) ∙ longer_digits ds c (both_right (is_ascii_digit d) (list_all is_ascii_digit ds) some) digit

in_digits-explained : (binds : Bool) (P : Protocol) → HasNames P → (bytes : List ℕ) (total b : ℕ) (k : List ℕ) (at : ℕ) (heads : List Open) (from : ℕ) (word digits : List ℕ) → IsWord word → AreDigits digits
    → IsHere P bytes total heads (word ++ (64 ∷ (digits ++ b ∷ k))) from → at + length (b ∷ k) ≡ total → IsExplained binds P bytes total k (in_digits P at heads from word digits b)
unfolding ModePlaced
in_digits-explained binds P names bytes total b k at heads from word digits is_word all here counted =
    let same : word ++ (64 ∷ (digits ++ b ∷ k)) ≡ word ++ (64 ∷ ((digits ++ b ∷ []) ++ k)) = ap (λ bs. word ++ (64 ∷ bs)) (sym (append_assoc digits (b ∷ []) k)) in
    when binds P bytes total k (is_ascii_digit b) (goes heads (InDigits word (digits ++ b ∷ [])) from) (after_digits P at heads from word digits b)
    (λ digit. goes_explained binds P bytes total k heads (InDigits word (digits ++ b ∷ [])) from (subst (ArePlaced P total heads) same here.placed)
    (ap (λ bs. from + length bs) (sym same) ∙ here.counted, is_word, longer_digits digits b all digit))
    (λ end. after_digits-explained binds P names bytes total b k at heads from word digits is_word all end here counted)

-- Digits behind `?` ended.

after_bound-explained : (binds : Bool) (P : Protocol) → HasNames P → (bytes : List ℕ) (total b : ℕ) (k : List ℕ) (at : ℕ) (heads : List Open) (from : ℕ) (digits : List ℕ) (number : Option ℕ) → numeral digits ≡ number → AreDigits digits → 1 ≤ length digits → is_ascii_digit b ≡ false → binds ≡ true
    → length heads + 1 ≤ most_term_levels → HeadsOf binds P heads → IsHere P bytes total heads (63 ∷ (digits ++ b ∷ k)) from → bytes ≡ heads_text P heads (63 ∷ (digits ++ b ∷ k)) → at + length (b ∷ k) ≡ total → IsExplained binds P bytes total k (after_bound at heads from digits number b)
after_bound-explained binds P names bytes total b k at heads from digits None is all some ends inside room of_heads here text counted =
    fault_explained binds P bytes total k (at - length digits) Number record {
      there = digits ++ b ∷ k;
      is = record {
        level = suc (length heads);
        here = 63 ∷ (digits ++ b ∷ k);
        may = here.may;
        fault = inr (inl record { digits = digits; behind = b ∷ k; text = refl; stand = refl; wrong = no_number digits all some is; ends = ends });
      };
      counted = omega (arith, counted, here.counted, length-append digits (b ∷ k));
    }
after_bound-explained binds P names bytes total b k at heads from digits (Some i) is all some ends inside room of_heads here text counted =
    let told = numeral_some digits i is in
    let over : first_bound ≤ first_bound + i = omega arith in
    let back : (first_bound + i) - first_bound ≡ i = omega arith in
    let word : 63 ∷ digits ≡ variable_word (first_bound + i) = ap (λ ds. 63 ∷ ds) (told.0 ∙ ap decimal (sym back)) ∙ sym (bound_word (first_bound + i) over) in
    let same : 63 ∷ (digits ++ b ∷ k) ≡ term_text P (Leaf (first_bound + i)) (b ∷ k) = ap (λ w. w ++ b ∷ k) word in
    let high : most_variables binds ≡ first_bound + first_bound = ap most_variables inside in
    let ended = after_term at (Leaf (first_bound + i)) heads from b in
    when binds P bytes total k (goes_on b) (Fault at Syntax) ended
    (λ more. syntax_explained binds P bytes total k at)
    (λ stops. after_term-explained binds P names bytes total b k at (Leaf (first_bound + i)) heads from of_heads record { is_of = omega (arith, told.1, high); shallow = room } (subst (ArePlaced P total heads) same here.placed) (text ∙ ap (heads_text P heads) same))

bound_ended-explained : (binds : Bool) (P : Protocol) → HasNames P → (bytes : List ℕ) (total b : ℕ) (k : List ℕ) (at : ℕ) (heads : List Open) (from : ℕ) (digits : List ℕ) → AreDigits digits → is_ascii_digit b ≡ false → binds ≡ true → length heads + 1 ≤ most_term_levels
    → HeadsOf binds P heads → IsHere P bytes total heads (63 ∷ (digits ++ b ∷ k)) from → bytes ≡ heads_text P heads (63 ∷ (digits ++ b ∷ k)) → at + length (b ∷ k) ≡ total → IsExplained binds P bytes total k (bound_ended at heads from digits b)
bound_ended-explained binds P names bytes total b k at heads from [] all ends inside room of_heads here text counted = syntax_explained binds P bytes total k at
bound_ended-explained binds P names bytes total b k at heads from (d ∷ ds) all ends inside room of_heads here text counted =
    after_bound-explained binds P names bytes total b k at heads from (d ∷ ds) (numeral (d ∷ ds)) refl all (omega arith) ends inside room of_heads here text counted

in_bound-explained : (binds : Bool) (P : Protocol) → HasNames P → (bytes : List ℕ) (total b : ℕ) (k : List ℕ) (at : ℕ) (heads : List Open) (from : ℕ) (digits : List ℕ) → AreDigits digits → binds ≡ true → length heads + 1 ≤ most_term_levels
    → HeadsOf binds P heads → IsHere P bytes total heads (63 ∷ (digits ++ b ∷ k)) from → bytes ≡ heads_text P heads (63 ∷ (digits ++ b ∷ k)) → at + length (b ∷ k) ≡ total → IsExplained binds P bytes total k (in_bound at heads from digits b)
unfolding ModePlaced
in_bound-explained binds P names bytes total b k at heads from digits all inside room of_heads here text counted =
    let same : 63 ∷ (digits ++ b ∷ k) ≡ 63 ∷ ((digits ++ b ∷ []) ++ k) = ap (λ bs. 63 ∷ bs) (sym (append_assoc digits (b ∷ []) k)) in
    when binds P bytes total k (is_ascii_digit b) (goes heads (InBound (digits ++ b ∷ [])) from) (bound_ended at heads from digits b)
    (λ digit. goes_explained binds P bytes total k heads (InBound (digits ++ b ∷ [])) from (subst (ArePlaced P total heads) same here.placed)
    (ap (λ bs. from + length bs) (sym same) ∙ here.counted, longer_digits digits b all digit))
    (λ end. bound_ended-explained binds P names bytes total b k at heads from digits all end inside room of_heads here text counted)

at_bracket-explained : (binds : Bool) (P : Protocol) (bytes : List ℕ) (total b : ℕ) (k : List ℕ) (at : ℕ) (heads : List Open) (from : ℕ) → IsHere P bytes total heads (64 ∷ b ∷ k) from → IsExplained binds P bytes total k (at_bracket at heads from b)
at_bracket-explained binds P bytes total b k at heads from here =
    when binds P bytes total k (b == 91) (opened heads record { symbol = Attacker; arity = 1 } from) (Fault at Syntax)
    (λ bracket. opened-explained binds P bytes total k heads record { symbol = Attacker; arity = 1 } from (subst (λ c. IsHere P bytes total heads (64 ∷ c ∷ k) from) (same_byte b 91 bracket) here))
    (λ none. syntax_explained binds P bytes total k at)

pub step-explained : (binds : Bool) (P : Protocol) → HasNames P → (bytes : List ℕ) (total b : ℕ) (k : List ℕ) (at : ℕ) (r : Reading) → ReadingOf binds P r → IsPlaced P total r (b ∷ k) → bytes ≡ so_far P r (b ∷ k) → at + length (b ∷ k) ≡ total → IsExplained binds P bytes total k (step binds P at r b)
unfolding ModeOf ModePlaced
step-explained binds P names bytes total b k at r is placed text counted = by r.mode is.mode placed.heads placed.mode text
  where
    by : (mode : Mode) → ModeOf binds P (length r.heads) mode → ArePlaced P total r.heads (mode_text P mode (b ∷ k)) → ModePlaced total r.from mode (b ∷ k) → bytes ≡ heads_text P r.heads (mode_text P mode (b ∷ k)) → IsExplained binds P bytes total k (step_in binds P at r.heads r.from mode b)
    by Begins of_mode heads mode same = at_begin-explained binds P names bytes total b k at r.heads is.heads heads same counted
    by (InWord word) of_mode heads mode same =
        in_word-explained binds P names bytes total b k at r.heads r.from word mode.1 is.heads (begins_here binds P names bytes total r.heads (word ++ b ∷ k) r.from is.heads heads same mode.0) same counted
    by (InDigits word digits) of_mode heads mode same =
        in_digits-explained binds P names bytes total b k at r.heads r.from word digits mode.1 mode.2 (begins_here binds P names bytes total r.heads (word ++ (64 ∷ (digits ++ b ∷ k))) r.from is.heads heads same mode.0) counted
    by AtBracket of_mode heads mode same = at_bracket-explained binds P bytes total b k at r.heads r.from (begins_here binds P names bytes total r.heads (64 ∷ b ∷ k) r.from is.heads heads same mode)
    by (InBound digits) of_mode heads mode same =
        in_bound-explained binds P names bytes total b k at r.heads r.from digits mode.1 of_mode.0 of_mode.1 is.heads (begins_here binds P names bytes total r.heads (63 ∷ (digits ++ b ∷ k)) r.from is.heads heads same mode.0) same counted
    by (Ended t) of_mode heads mode same = after_term-explained binds P names bytes total b k at t r.heads r.from is.heads of_mode heads same

-- What is told, at a byte or at the end.

told_by : (binds : Bool) (P : Protocol) (bytes : List ℕ) (total p : ℕ) (c : Code) (place : ℕ) (code : Code) → Refused p c ≡ Refused place code → (c ≡ Syntax) ⊎ Stands binds P bytes total p c → (code ≡ Syntax) ⊎ Stands binds P bytes total place code
told_by binds P bytes total p c place code e stands =
    let places : p ≡ place = cc in
    let codes : c ≡ code = cc in
    subst (λ d. (d ≡ Syntax) ⊎ Stands binds P bytes total place d) codes (subst (λ q. (c ≡ Syntax) ⊎ Stands binds P bytes total q c) places stands)

cut_told : (binds : Bool) (P : Protocol) (bytes : List ℕ) (total at : ℕ) (heads : List Open) (from place : ℕ) (code : Code) → (is_deep heads ≡ true → Stands binds P bytes total from Count) → cut_off at heads from ≡ Refused place code → (code ≡ Syntax) ⊎ Stands binds P bytes total place code
cut_told binds P bytes total at heads from place code stands e = by (is_deep heads) refl e
  where
    by : (deep : Bool) → is_deep heads ≡ deep → (if deep then Refused from Count else Refused at Syntax) ≡ Refused place code → (code ≡ Syntax) ⊎ Stands binds P bytes total place code
    by true deep told = told_by binds P bytes total from Count place code told (inr (stands deep))
    by false room told = told_by binds P bytes total at Syntax place code told (inl refl)

deep_stands : (binds : Bool) (P : Protocol) (bytes : List ℕ) (total : ℕ) (heads : List Open) (here : List ℕ) (place : ℕ) → IsHere P bytes total heads here place → BeginsTerm here → is_deep heads ≡ true → Stands binds P bytes total place Count
deep_stands binds P bytes total heads here place is begins deep = stands_here binds P bytes total heads here place Count is (refl, deep_there heads here begins deep)

held_room : (binds : Bool) (P : Protocol) (heads : List Open) (t : Term) → IsHeld binds P (length heads) t → is_deep heads ≡ true → ⊥
held_room binds P heads t held deep = never (length heads) (omega (arith, held.shallow, positive_depth t)) deep
  where
    never : (n : ℕ) → n + 1 ≤ most_term_levels → nat_le most_term_levels n ≡ true → ⊥
    never n le e = grind (arith, nat_tests)

end_told : (binds : Bool) (P : Protocol) → HasNames P → (bytes : List ℕ) (total at : ℕ) (r : Reading) (place : ℕ) (code : Code) → ReadingOf binds P r → IsPlaced P total r [] → bytes ≡ so_far P r [] → at_end at r.heads r.from r.mode ≡ Refused place code → (code ≡ Syntax) ⊎ Stands binds P bytes total place code
unfolding ModeOf ModePlaced
end_told binds P names bytes total at r place code is placed text e = by r.heads r.from r.mode is.heads is.mode placed.heads placed.mode text e
  where
    by : (heads : List Open) (from : ℕ) (mode : Mode) → HeadsOf binds P heads → ModeOf binds P (length heads) mode → ArePlaced P total heads (mode_text P mode []) → ModePlaced total from mode [] → bytes ≡ heads_text P heads (mode_text P mode []) → at_end at heads from mode ≡ Refused place code → (code ≡ Syntax) ⊎ Stands binds P bytes total place code
    by [] from Begins of_heads of_mode of_placed mode same told = told_by binds P bytes total at Syntax place code told (inl refl)
    by (o ∷ heads) from Begins of_heads of_mode of_placed mode same told =
        let here = open_here binds P names bytes total o heads [] of_heads of_placed same in
        cut_told binds P bytes total at heads o.place place code (deep_stands binds P bytes total heads (outer P o []) o.place here.here here.begins) told
    by heads from (InWord word) of_heads of_mode of_placed mode same told =
        cut_told binds P bytes total at heads from place code
        (deep_stands binds P bytes total heads (word ++ []) from (begins_here binds P names bytes total heads (word ++ []) from of_heads of_placed same mode.0) (word_begins word [] mode.1)) told
    by heads from (InDigits word digits) of_heads of_mode of_placed mode same told =
        let there = word ++ (64 ∷ (digits ++ [])) in
        cut_told binds P bytes total at heads from place code
        (deep_stands binds P bytes total heads there from (begins_here binds P names bytes total heads there from of_heads of_placed same mode.0) (word_begins word (64 ∷ (digits ++ [])) mode.1)) told
    by heads from AtBracket of_heads of_mode of_placed mode same told =
        cut_told binds P bytes total at heads from place code
        (deep_stands binds P bytes total heads (64 ∷ []) from (begins_here binds P names bytes total heads (64 ∷ []) from of_heads of_placed same mode) record { first = 64; later = []; text = refl; begins = refl }) told
    by heads from (InBound digits) of_heads of_mode of_placed mode same told =
        let there = 63 ∷ (digits ++ []) in
        cut_told binds P bytes total at heads from place code
        (deep_stands binds P bytes total heads there from (begins_here binds P names bytes total heads there from of_heads of_placed same mode.0) record { first = 63; later = digits ++ []; text = refl; begins = refl }) told
    by heads from (Ended t) of_heads of_mode of_placed mode same told = cut_told binds P bytes total at heads from place code (λ deep. absurd (held_room binds P heads t of_mode deep)) told

pub told_stands : (binds : Bool) (P : Protocol) → HasNames P → (bytes : List ℕ) (total : ℕ) (rest : List ℕ) (at : ℕ) (r : Reading) (place : ℕ) (code : Code) → ReadingOf binds P r → IsPlaced P total r rest → bytes ≡ so_far P r rest → at + length rest ≡ total → read_on binds P rest at r ≡ Refused place code → (code ≡ Syntax) ⊎ Stands binds P bytes total place code
unfolding StepOf IsExplained
told_stands binds P names bytes total [] at r place code is placed text counted e = end_told binds P names bytes total at r place code is placed text e
told_stands binds P names bytes total (b ∷ k) at r place code is placed text counted e =
    by (step binds P at r b) (step-kept binds P at r b is) (step-sound binds P at r b k) (step-explained binds P names bytes total b k at r is placed text counted) e
    (λ s s_is s_placed s_text. told_stands binds P names bytes total k (at + 1) s place code s_is s_placed s_text (omega (arith, counted)))
  where
    by : (s : Step) → StepOf binds P s → IsSound P (so_far P r (b ∷ k)) b k s → IsExplained binds P bytes total k s → followed (read_on binds P k (at + 1)) at (b ∷ k) s ≡ Refused place code
        → ((s : Reading) → ReadingOf binds P s → IsPlaced P total s k → bytes ≡ so_far P s k → read_on binds P k (at + 1) s ≡ Refused place code → (code ≡ Syntax) ⊎ Stands binds P bytes total place code) → (code ≡ Syntax) ⊎ Stands binds P bytes total place code
    by (Goes s) kept sound explained told later = later s kept explained (text ∙ sound) told
    by (Ends t) kept sound explained told later = absurd (cc)
    by (Fault p c) kept sound explained told later = told_by binds P bytes total p c place code told explained

pub start_placed : (P : Protocol) (total at : ℕ) (bytes : List ℕ) → IsPlaced P total record { heads = []; mode = Begins; from = at } bytes
unfolding ArePlaced ModePlaced
start_placed P total at bytes = record { heads = tt; mode = tt }

pub start_kept : (binds : Bool) (P : Protocol) (at : ℕ) → ReadingOf binds P record { heads = []; mode = Begins; from = at }
unfolding HeadsOf ModeOf
start_kept binds P at = record { heads = tt; mode = tt }

-- a fault that is told of a term stands there
pub term_told_stands : (binds : Bool) (P : Protocol) → HasNames P → (bytes : List ℕ) (at place : ℕ) (code : Code) → read_tree binds P bytes at ≡ Refused place code → (code ≡ Syntax) ⊎ Stands binds P bytes (at + length bytes) place code
term_told_stands binds P names bytes at place code e =
    told_stands binds P names bytes (at + length bytes) bytes at record { heads = []; mode = Begins; from = at } place code (start_kept binds P at) (start_placed P (at + length bytes) at bytes) refl refl e
