-- A node without its line: a reader of it tells the first fault that its parts make, and what it finds is what stands there.
use Rattle.std.proofs.Common.{◌≡◌, ℕ, ◌+◌, ◌-◌, ◌<◌, ◌≤◌, ◌==◌, ◌&&◌, ◌⊎◌, inl, inr, nat_le, if◌then◌else◌, Bool, true, false, List, [], ◌∷◌, ◌++◌, length, drop, codes, refl, sym, ◌∙◌, ap, subst, arith}
use Rattle.std.specs.Fmt.{decimal}
use Rattle.std.specs.Char.{is_ascii_digit}
use Rattle.std.specs.List.{AllByRecursion}
use Rattle.std.proofs.lemmas.Bool.Decides.{nat_tests}
use Rattle.spec_calculus.specs.Bounds.{most_arguments}
use Rattle.spec_calculus.specs.Syntax.{Protocol}
use Rattle.spec_protocol_tokens.specs.Bytes.{begins_word}
use Rattle.spec_run_text.proofs.Numbers.{numeral_some}
use Rattle.spec_terms.specs.Term.{Sym, Ctor, Data, Tuple, Free, Point, Attacker}
use Rattle.spec_certificate_text.specs.Sides.{first_bound, variable_word}
use Rattle.spec_certificate_text.specs.OfProtocol.{IsShort, HasNames, IsSymbolOf}
use Rattle.spec_certificate_text.specs.Text.{numbers_text}
use Rattle.spec_certificate_text.specs.Words.{symbol_word, word_at}
use Rattle.spec_certificate_text.specs.Names.{Named}
use Rattle.spec_certificate_text.specs.Terms.{Syntax}
use Rattle.spec_certificate_text.specs.Outcomes.{Outcome, Found, Faulty, next, front, ended, Reader, read_fixed, read_number}
use Rattle.spec_certificate_text.specs.Steps.{with_parts}
use Rattle.spec_certificate_text.proofs.Named.{IsWorded, symbol_called_is, name_called_is}
use Rattle.spec_certificate_text.proofs.Sides.{own_word, bound_word}
use Rattle.spec_certificate_text.proofs.Parts.{parts, equal_byte, other_byte, ended_found, fixed_there, number_there}
use Rattle.spec_certificate_text.proofs.SoundWords.{variable_rest}
use Rattle.spec_reading_faults.proofs.Shared.{choice_local}
use Rattle.spec_certificate_faults.specs.Grammar.{EndsAt}
use Rattle.spec_certificate_faults.specs.First.{Kind}
use Rattle.spec_first_faults.specs.Kinds.{fixed, behind, one_of}
use Rattle.spec_first_faults.specs.Numbers.{numbers}
use Rattle.spec_first_faults.proofs.Tells.{Anything, Tells, mapped, mapped_tells, same_tells, tells_of, tells_before}
use Rattle.spec_first_faults.proofs.Behind.{then_read}
use Rattle.spec_first_faults.proofs.OneOf.{chosen, IsToldBy, told_by_front, told_by_fixed, either_told, one_of_tells}
use Rattle.spec_first_faults.proofs.Many.{behind_told}
use Rattle.spec_first_faults.proofs.Closed.{behind_fixed}
use Rattle.spec_first_faults.proofs.Numbers.{numbers_tell}
use Rattle.spec_node_tables.specs.Nodes.{Over}
use Rattle.spec_node_tables.specs.Text.{symbol_head, head_text, node_text}
use Rattle.spec_node_tables.specs.OfProtocol.{IsNodeOf}
use Rattle.spec_node_reading.specs.Loops.{lines_through}
use Rattle.spec_node_reading.specs.Nodes.{TakesOthers, heads, lower_numbers, spaced_numbers, bodies}
use Rattle.spec_node_reading.specs.ReadNodes.{HeadRead, IsVariable, Names, read_bound, read_head, lower_number, spaced_number, read_spaced, NodeRead, read_body, may_take, takes, node_read}
use Rattle.spec_node_reading.proofs.NodesThere.{lower_there, spaced_there}
use Rattle.spec_node_first_faults.proofs.Steady.{steady_tells}
use Rattle.spec_node_first_faults.proofs.HeadWords.{head_goes_on, digit_stops, IsAlone, IsAtPoint, HeadStands}
use Rattle.spec_node_first_faults.proofs.NodeNumbers.{lower_tells}
use Rattle.spec_node_first_faults.proofs.NodeSpaced.{node_goes_on, head_stops, spaced_tells, none_there}
use Rattle.spec_node_first_faults.proofs.NodeHeads.{HeadRight, is_variable_of, is_symbol_of, is_name_of, WordHead, heads_tell, heads_steady, head_was-read}

abbrev pub attacker_of : ℕ → NodeRead
attacker_of n = record { head = Names record { symbol = Attacker; arity = 1 }; numbers = n ∷ [] }

abbrev pub with_numbers : HeadRead → List ℕ → NodeRead
with_numbers head ns = record { head = head; numbers = ns }

-- a bound variable, which has no numbers
abbrev pub bound_of : ℕ → NodeRead
bound_of i = record { head = IsVariable (first_bound + i); numbers = [] }

abbrev pub starts_at : List ℕ → Bool
starts_at bs = front bs == 64

abbrev pub starts_bound : List ℕ → Bool
starts_bound bs = front bs == 63

-- no head begins with a byte that begins no word, but with `(`
pub head_front : (P : Protocol) (b : ℕ) → begins_word b ≡ false → (40 == b) ≡ false → (bytes rest : List ℕ) → (heads P).Text bytes rest → (front bytes == b) ≡ false
head_front P b none other bytes rest (inr text) = ap (λ bs. front bs == b) text ∙ other
head_front P b none other bytes rest (inl (mid, run, more)) = ap (λ bs. front bs == b) run.text ∙ by run.run run.some run.begin
  where
    by : (w : List ℕ) → 1 ≤ length w → begins_word (front w) ≡ true → (front (w ++ mid) == b) ≡ false
    by [] some begin = absurd (omega (arith, some))
    by (c ∷ w) some begin = other_byte c b (λ same. let never : false ≡ true = sym none ∙ (ap begins_word (sym same) ∙ begin) in cc)

module _ (P : Protocol) (names : HasNames P) (own : ℕ) where
  abbrev attackers : Kind
  attackers = behind (fixed (codes "@ ")) (lower_numbers own)

  abbrev bounds : Kind
  bounds = behind (fixed (codes "?")) numbers

  abbrev others : Kind
  others = behind (heads P) (spaced_numbers own)

  -- a bound variable, or a head and its numbers
  abbrev seconds : Kind
  seconds = one_of bounds others

  abbrev read_attacker : Reader NodeRead
  read_attacker = then_read (read_fixed (codes "@ ")) (λ _ _. mapped attacker_of (lower_number own))

  abbrev read_bound_one : Reader NodeRead
  read_bound_one = then_read (read_fixed (codes "?")) (λ _ _. mapped bound_of read_number)

  abbrev read_other : Reader NodeRead
  read_other = then_read (read_head P) (λ at head. mapped (with_numbers head) (read_spaced own))

  abbrev read_second : Reader NodeRead
  read_second = chosen starts_bound read_bound_one read_other

  second_as : (bytes : List ℕ) (at : ℕ) → (if front bytes == 63 then next (read_bound (drop 1 bytes) (at + 1)) (λ head p k. Found (with_numbers head []) p k) else read_other bytes at) ≡ read_second bytes at
  unfolding read_fixed
  second_as [] at = refl
  second_as (b ∷ bytes) at = by (b == 63)
    where
      number : (o : Outcome ℕ) → next (next o (λ i p k. Found (IsVariable (first_bound + i)) p k)) (λ head p k. Found (with_numbers head []) p k) ≡ next o (λ i p k. Found (bound_of i) p k)
      number (Faulty p c) = refl
      number (Found i p k) = refl

      by : (t : Bool)
          → (if t then next (read_bound bytes (at + 1)) (λ head p k. Found (with_numbers head []) p k) else read_other (b ∷ bytes) at)
          ≡ (if t then next {A = Unit {0}} {B = NodeRead} (if t then Found tt (at + 1) bytes else Faulty at Syntax) (λ _ p k. next (read_number k p) (λ i q l. Found (bound_of i) q l)) else read_other (b ∷ bytes) at)
      by true = number (read_number bytes (at + 1))
      by false = refl

  body_as : (bytes : List ℕ) (at : ℕ) → read_body P own bytes at ≡ chosen starts_at read_attacker read_second bytes at
  body_as bytes at = ap (λ o. if starts_at bytes then read_attacker bytes at else o) (second_as bytes at)

  attackers_tell : Tells ⊥ attackers Anything (EndsAt is_ascii_digit) read_attacker
  attackers_tell =
      behind_fixed (codes "@ ") (lower_numbers own) (EndsAt is_ascii_digit) (λ _ _. mapped attacker_of (lower_number own))
      (λ at u. mapped_tells (lower_numbers own) Anything (EndsAt is_ascii_digit) (lower_number own) attacker_of (lower_tells own))

  others_tell : Tells ⊥ others Anything (EndsAt node_goes_on) read_other
  others_tell =
      steady_tells (heads P) (spaced_numbers own) (EndsAt head_goes_on) (EndsAt node_goes_on) (heads_tell P names).forms (spaced_tells own).forms (heads_steady P) head_stops (none_there own) Anything Anything (read_head P)
      (λ at head. mapped (with_numbers head) (read_spaced own)) (heads_tell P names) (λ at head. mapped_tells (spaced_numbers own) Anything (EndsAt node_goes_on) (read_spaced own) (with_numbers head) (spaced_tells own)) (λ bs mid of text. tt)

  others_told : (b : ℕ) → begins_word b ≡ false → (40 == b) ≡ false → IsToldBy others (λ bs. front bs == b) false
  others_told b none other = behind_told (heads P) (spaced_numbers own) (λ bs. front bs == b) false (told_by_front (heads P) (EndsAt head_goes_on) (λ c. c == b) false (heads_tell P names).forms (head_front P b none other))

  bounds_tell : Tells ⊥ bounds Anything (EndsAt is_ascii_digit) read_bound_one
  bounds_tell = behind_fixed (codes "?") numbers (EndsAt is_ascii_digit) (λ _ _. mapped bound_of read_number) (λ at u. mapped_tells numbers Anything (EndsAt is_ascii_digit) read_number bound_of numbers_tell)

  seconds_tell : Tells ⊥ seconds Anything (EndsAt node_goes_on) read_second
  seconds_tell =
      one_of_tells bounds others Anything (EndsAt node_goes_on) starts_bound read_bound_one read_other
      (tells_of bounds Anything (λ bs. Anything bs × (starts_bound bs ≡ true)) (EndsAt node_goes_on) read_bound_one (λ bs of. tt)
      (tells_before bounds Anything (EndsAt is_ascii_digit) (EndsAt node_goes_on) read_bound_one (10 ∷ []) (λ other is. digit_stops other (head_stops other is)) refl bounds_tell))
      (tells_of others Anything (λ bs. Anything bs × (starts_bound bs ≡ false)) (EndsAt node_goes_on) read_other (λ bs of. tt) others_tell)
      (told_by_fixed (codes "?") numbers starts_bound true (λ rest. refl)) (others_told 63 refl refl) (choice_local (λ b. b == 63) read_bound_one read_other bounds_tell.local others_tell.local)

  -- a node is read, and the first fault of its parts told
  pub bodies_tell : Tells ⊥ (bodies P own) Anything (EndsAt node_goes_on) (read_body P own)
  bodies_tell =
      same_tells (bodies P own) Anything (EndsAt node_goes_on) (read_body P own) (chosen starts_at read_attacker read_second) body_as
      (one_of_tells attackers seconds Anything (EndsAt node_goes_on) starts_at read_attacker read_second
      (tells_of attackers Anything (λ bs. Anything bs × (starts_at bs ≡ true)) (EndsAt node_goes_on) read_attacker (λ bs of. tt)
      (tells_before attackers Anything (EndsAt is_ascii_digit) (EndsAt node_goes_on) read_attacker (10 ∷ []) (λ other is. digit_stops other (head_stops other is)) refl attackers_tell))
      (tells_of seconds Anything (λ bs. Anything bs × (starts_at bs ≡ false)) (EndsAt node_goes_on) read_second (λ bs of. tt) seconds_tell)
      (told_by_fixed (codes "@ ") (lower_numbers own) starts_at true (λ rest. refl))
      (either_told bounds others starts_at false (told_by_fixed (codes "?") numbers starts_at false (λ rest. refl)) (others_told 64 refl refl))
      (choice_local (λ b. b == 64) read_attacker read_second attackers_tell.local seconds_tell.local))

  -- What was read.

  -- before the numbers stands this, whatever their number is
  abbrev text_of : HeadRead → ℕ → List ℕ → List ℕ
  text_of (IsVariable x) n rest = 118 ∷ (decimal x ++ rest)
  text_of (Names named) n rest = head_text (symbol_head P (with_parts named.symbol n)) rest

  abbrev IsSymbolNamed : Named → Sym → Type 0
  IsSymbolNamed named (Tuple parts) = Unit {0}
  IsSymbolNamed named Attacker = ⊥
  IsSymbolNamed named f = IsSymbolOf P f named.arity

  abbrev OfHead : HeadRead → Type 0
  OfHead (IsVariable x) = IsShort x
  OfHead (Names named) = IsSymbolNamed named named.symbol

  record HeadIs (bytes : List ℕ) (head : HeadRead) (rest : List ℕ) : Type 0 where
    text : (n : ℕ) → bytes ≡ text_of head n rest
    of : OfHead head
    alone : (x : ℕ) → head ≡ IsVariable x → (front rest == 32) ≡ false

  worded_is : (bytes word rest : List ℕ) (named : Named) (f : Sym) → named.symbol ≡ f → IsWorded f → symbol_word P f ≡ word → IsSymbolOf P f named.arity → bytes ≡ word ++ rest → HeadIs bytes (Names named) rest
  worded_is bytes word rest named f same worded has is text = by f worded has is same
    where
      as_named : (g : Sym) → named.symbol ≡ g → ((n : ℕ) → bytes ≡ head_text (symbol_head P (with_parts g n)) rest) → IsSymbolNamed named g → HeadIs bytes (Names named) rest
      as_named g so whole of = record {
        text = λ n. subst (λ s. bytes ≡ head_text (symbol_head P (with_parts s n)) rest) (sym so) (whole n);
        of = subst (IsSymbolNamed named) (sym so) of;
        alone = λ x never. absurd (cc);
      }

      by : (g : Sym) → IsWorded g → symbol_word P g ≡ word → IsSymbolOf P g named.arity → named.symbol ≡ g → HeadIs bytes (Names named) rest
      by (Ctor c) w h i so = as_named (Ctor c) so (λ n. text ∙ ap (λ v. v ++ rest) (sym h)) i
      by (Data c) w h i so = as_named (Data c) so (λ n. text ∙ ap (λ v. v ++ rest) (sym h)) i
      by (Free a) w h i so = as_named (Free a) so (λ n. text ∙ ap (λ v. v ++ rest) (sym h)) i
      by (Tuple m) w h i so = absurd w
      by (Point p) w h i so = absurd w
      by Attacker w h i so = absurd w

  word_is : (bytes rest : List ℕ) (head : HeadRead) → WordHead P bytes head rest → HeadIs bytes head rest
  word_is bytes rest head found = by found.is
    where
      by : HeadRight P found.read head → HeadIs bytes head rest
      by (is_variable_of word x same variable digits is) =
          let one : IsAlone bytes word false rest = subst (λ y. HeadStands bytes y rest) same found.stands in
          let so = numeral_some (drop 1 word) x digits in
          subst (λ h. HeadIs bytes h rest) (sym is) record {
            text = λ n. one.text ∙ (ap (λ w. w ++ rest) (variable_rest word variable) ∙ ap (λ ds. 118 ∷ (ds ++ rest)) so.0);
            of = so.1;
            alone = λ y also. one.space;
          }
      by (is_symbol_of word spaced named same called is) =
          let one : IsAlone bytes word spaced rest = subst (λ y. HeadStands bytes y rest) same found.stands in
          let so = symbol_called_is P word named called in
          subst (λ h. HeadIs bytes h rest) (sym is) (worded_is bytes word rest named named.symbol refl so.worded so.has_word so.is_of one.text)
      by (is_name_of word point named same called is) =
          let one : IsAtPoint bytes word point rest = subst (λ y. HeadStands bytes y rest) same found.stands in
          let so = name_called_is P word point named called in
          let digits : one.mid ≡ decimal point ++ rest = one.number.digits.text ∙ ap (λ ds. ds ++ rest) one.number.is in
          let whole : bytes ≡ word_at P point ++ (64 ∷ (decimal point ++ rest)) = one.text ∙ (ap (λ k. word ++ (64 ∷ k)) digits ∙ ap (λ w. w ++ (64 ∷ (decimal point ++ rest))) (sym so.has_word)) in
          subst (λ h. HeadIs bytes h rest) (sym is) record {
            text = λ n. subst (λ s. bytes ≡ head_text (symbol_head P (with_parts s n)) rest) (sym so.symbol) whole;
            of = subst (IsSymbolNamed named) (sym so.symbol) (so.is_of, one.number.short);
            alone = λ x never. absurd (cc);
          }

  head_is : (bytes : List ℕ) (at place : ℕ) (head : HeadRead) (rest : List ℕ) → read_head P bytes at ≡ Found head place rest → HeadIs bytes head rest
  head_is bytes at place head rest e = by (head_was-read P bytes at place head rest e)
    where
      by : WordHead P bytes head rest ⊎ ((bytes ≡ 40 ∷ 41 ∷ rest) × (head ≡ Names record { symbol = Tuple 0; arity = 0 })) → HeadIs bytes head rest
      by (inl found) = word_is bytes rest head found
      by (inr (text, is)) = subst (λ h. HeadIs bytes h rest) (sym is) record { text = λ n. text; of = tt; alone = λ x never. absurd (cc) }

  -- a symbol that takes another number of numbers
  pub record IsUnfit (x : NodeRead) : Type 0 where
    pub symbol : Sym
    pub is : node_read x.head x.numbers ≡ Over symbol x.numbers
    pub wrong : TakesOthers P symbol (length x.numbers)

  -- what was read of a node, which is one of the protocol where its symbol takes so many numbers
  pub record BodyIs (bytes : List ℕ) (x : NodeRead) (rest : List ℕ) : Type 0 where
    pub short : AllByRecursion IsShort x.numbers
    pub below : AllByRecursion (λ n. (1 ≤ n) × (n < own)) x.numbers
    pub text : bytes ≡ node_text P (node_read x.head x.numbers) rest
    pub fits : takes x.head (length x.numbers) ≡ true → IsNodeOf P (node_read x.head x.numbers)
    pub unfit : takes x.head (length x.numbers) ≡ false → IsUnfit x

  body_of : (bytes : List ℕ) (head : HeadRead) (ns rest : List ℕ) → HeadIs bytes head (numbers_text ns rest) → AllByRecursion IsShort ns → AllByRecursion (λ n. (1 ≤ n) × (n < own)) ns → ((x : ℕ) → head ≡ IsVariable x → ns ≡ []) → BodyIs bytes (with_numbers head ns) rest
  body_of bytes (IsVariable x) ns rest is short below none = record {
    short = short;
    below = below;
    text = is.text 0 ∙ (ap (λ ms. 118 ∷ (decimal x ++ numbers_text ms rest)) (none x refl) ∙ ap (λ w. w ++ rest) (sym (own_word x is.of)));
    fits = λ fit. let own_one = is.of in omega (arith, own_one);
    unfit = λ never. absurd (cc);
  }
  body_of bytes (Names named) ns rest is short below none = record {
    short = short;
    below = below;
    text = is.text (length ns);
    fits = λ fit. (fit_of named.symbol is.of fit, short);
    unfit = λ other. record { symbol = with_parts named.symbol (length ns); is = refl; wrong = unfit_of named.symbol is.of other };
  }
    where
      n : ℕ
      n = length ns

      same_number : (a b : ℕ) → (a == b) ≡ true → b ≡ a
      same_number a b e = sym (equal_byte a b e)

      not_same : (a b : ℕ) → (a == b) ≡ false → b ≡ a → ⊥
      not_same a b e same = let equal : (a == a) ≡ true = grind (arith, nat_tests) in let never : true ≡ false = sym equal ∙ (ap (λ c. a == c) (sym same) ∙ e) in cc

      both : (least most : Bool) → (least && most) ≡ true → (least ≡ true) × (most ≡ true)
      both true true e = (refl, refl)
      both true false e = absurd (cc)
      both false most e = absurd (cc)

      either_not : (least most : Bool) → (least && most) ≡ false → (least ≡ false) ⊎ (most ≡ false)
      either_not false most e = inl refl
      either_not true false e = inr refl
      either_not true true e = absurd (cc)

      tuple_fits : (k : ℕ) → (nat_le 2 k && nat_le k most_arguments) ≡ true → (k ≡ k) × (2 ≤ k) × (k ≤ most_arguments)
      tuple_fits k e = let (least, most) = both (nat_le 2 k) (nat_le k most_arguments) e in (refl, grind (arith, nat_tests, least), grind (arith, nat_tests, most))

      tuple_unfit : (k : ℕ) → (nat_le 2 k && nat_le k most_arguments) ≡ false → (k < 2) ⊎ (most_arguments < k)
      tuple_unfit k e = by (either_not (nat_le 2 k) (nat_le k most_arguments) e)
        where
          by : (nat_le 2 k ≡ false) ⊎ (nat_le k most_arguments ≡ false) → (k < 2) ⊎ (most_arguments < k)
          by (inl few) = inl (grind (arith, nat_tests, few))
          by (inr many) = inr (grind (arith, nat_tests, many))

      fit_of : (f : Sym) → IsSymbolNamed named f → may_take f named.arity (length ns) ≡ true → IsSymbolOf P (with_parts f (length ns)) (length ns)
      fit_of (Ctor c) of fit = subst (IsSymbolOf P (Ctor c)) (same_number (length ns) named.arity fit) of
      fit_of (Data c) of fit = subst (IsSymbolOf P (Data c)) (same_number (length ns) named.arity fit) of
      fit_of (Free a) of fit = subst (IsSymbolOf P (Free a)) (same_number (length ns) named.arity fit) of
      fit_of (Point p) of fit = subst (IsSymbolOf P (Point p)) (same_number (length ns) named.arity fit) of
      fit_of (Tuple m) of fit = tuple_fits (length ns) fit
      fit_of Attacker of fit = absurd of

      unfit_of : (f : Sym) → IsSymbolNamed named f → may_take f named.arity (length ns) ≡ false → TakesOthers P (with_parts f (length ns)) (length ns)
      unfit_of (Ctor c) of other = (named.arity, of, not_same (length ns) named.arity other)
      unfit_of (Data c) of other = (named.arity, of, not_same (length ns) named.arity other)
      unfit_of (Free a) of other = (named.arity, of, not_same (length ns) named.arity other)
      unfit_of (Point p) of other = (named.arity, of, not_same (length ns) named.arity other)
      unfit_of (Tuple m) of other = tuple_unfit (length ns) other
      unfit_of Attacker of other = absurd of

  attacker_is : (bytes : List ℕ) (n : ℕ) (rest : List ℕ) → IsShort n → 1 ≤ n → n < own → bytes ≡ 64 ∷ 32 ∷ (decimal n ++ rest) → BodyIs bytes (attacker_of n) rest
  attacker_is bytes n rest short some below text = record {
    short = (short, tt);
    below = ((some, below), tt);
    text = text;
    fits = λ fit. (refl, (short, tt));
    unfit = λ never. absurd (cc);
  }

  bound_is : (bytes : List ℕ) (i : ℕ) (rest : List ℕ) → IsShort i → bytes ≡ 63 ∷ (decimal i ++ rest) → BodyIs bytes (bound_of i) rest
  bound_is bytes i rest short text =
      let x = first_bound + i in
      let back : x - first_bound ≡ i = omega arith in
      let word : variable_word x ≡ 63 ∷ decimal i = bound_word x (omega arith) ∙ ap (λ n. 63 ∷ decimal n) back in
      record { short = tt; below = tt; text = text ∙ ap (λ w. w ++ rest) (sym word); fits = λ fit. omega (arith, short); unfit = λ never. absurd (cc) }

  -- what was read stands there
  pub body_was_read : (bytes : List ℕ) (at place : ℕ) (x : NodeRead) (rest : List ℕ) → read_body P own bytes at ≡ Found x place rest → BodyIs bytes x rest
  body_was_read bytes at place x rest e = by (starts_at bytes) (sym (body_as bytes at) ∙ e)
    where
      second : (t : Bool) → (if t then read_bound_one bytes at else read_other bytes at) ≡ Found x place rest → BodyIs bytes x rest
      second true told =
          let cut = parts (read_fixed (codes "?") bytes at) (λ _ p k. next (read_number k p) (λ i q l. Found (bound_of i) q l)) x place rest told in
          let opens = fixed_there (codes "?") bytes at cut.value cut.place cut.rest cut.first in
          let end = parts (read_number cut.rest cut.place) (λ i q l. Found (bound_of i) q l) x place rest cut.later in
          let one = number_there cut.rest cut.place end.value end.place end.rest end.first in
          let made : bound_of end.value ≡ x = cc in
          let rests : end.rest ≡ rest = cc in
          subst (λ y. BodyIs bytes y rest) made (bound_is bytes end.value rest one.is (opens ∙ ap (λ k. 63 ∷ k) (one.text ∙ ap (λ k. decimal end.value ++ k) rests)))
      second false told =
          let cut = parts (read_head P bytes at) (λ head p k. next (read_spaced own k p) (λ ns q l. Found (with_numbers head ns) q l)) x place rest told in
          let head = head_is bytes at cut.place cut.value cut.rest cut.first in
          let end = parts (read_spaced own cut.rest cut.place) (λ ns q l. Found (with_numbers cut.value ns) q l) x place rest cut.later in
          let all = parts (lines_through 32 (spaced_number own) (length cut.rest) [] cut.rest cut.place) (λ ns q l. ended q l (Found ns q l)) end.value end.place end.rest end.first in
          let last = ended_found all.place all.rest (Found all.value all.place all.rest) end.value end.place end.rest all.later in
          let there = spaced_there own (length cut.rest) [] cut.rest cut.place all.value all.place all.rest all.first in
          let made : with_numbers cut.value end.value ≡ x = cc in
          let values : all.value ≡ end.value = cc in
          let ns : there.others ≡ end.value = sym there.value ∙ values in
          let lasts : all.rest ≡ end.rest = cc in
          let rests : end.rest ≡ rest = cc in
          let text : cut.rest ≡ numbers_text end.value rest = there.text ∙ (ap (numbers_text there.others) (lasts ∙ rests) ∙ ap (λ ms. numbers_text ms rest) ns) in
          subst (λ y. BodyIs bytes y rest) made
          (body_of bytes cut.value end.value rest (subst (HeadIs bytes cut.value) text head) (subst (AllByRecursion IsShort) ns there.short) (subst (AllByRecursion (λ n. (1 ≤ n) × (n < own))) ns there.below)
          (λ v same. sym ns ∙ there.none (head.alone v same)))

      by : (t : Bool) → (if t then read_attacker bytes at else read_second bytes at) ≡ Found x place rest → BodyIs bytes x rest
      by true told =
          let cut = parts (read_fixed (codes "@ ") bytes at) (λ _ p k. next (lower_number own k p) (λ n q l. Found (attacker_of n) q l)) x place rest told in
          let opens = fixed_there (codes "@ ") bytes at cut.value cut.place cut.rest cut.first in
          let end = parts (lower_number own cut.rest cut.place) (λ n q l. Found (attacker_of n) q l) x place rest cut.later in
          let one = lower_there own cut.rest cut.place end.value end.place end.rest end.first in
          let made : attacker_of end.value ≡ x = cc in
          let rests : end.rest ≡ rest = cc in
          subst (λ y. BodyIs bytes y rest) made (attacker_is bytes end.value rest one.short one.some one.below (opens ∙ ap (λ k. 64 ∷ 32 ∷ k) (one.text ∙ ap (λ k. decimal end.value ++ k) rests)))
      by false told = second (starts_bound bytes) told
