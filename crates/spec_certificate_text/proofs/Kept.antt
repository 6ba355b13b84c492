-- What is read are terms of the protocol, none too deep.
use Rattle.std.proofs.Common.{◌≡◌, ℕ, suc, ◌+◌, ◌-◌, ◌≤◌, Bool, true, false, ◌==◌, ◌&&◌, if◌then◌else◌, List, [], ◌∷◌, ◌++◌, length, drop, Option, Some, None, refl, sym, ap, subst, arith, nat_le}
use Rattle.std.proofs.lemmas.Bool.Decides.{nat_tests}
use Rattle.std.proofs.lemmas.List.{length-append}
use Rattle.std.specs.Char.{is_ascii_digit}
use Rattle.spec_trees.specs.Tree.{Leaf, node, trees, depth, depths}
use Rattle.spec_trees.proofs.Rows.{items_of-trees}
use Rattle.spec_calculus.specs.Bounds.{most_arguments, most_term_levels}
use Rattle.spec_calculus.specs.Syntax.{Protocol}
use Rattle.spec_protocol_tokens.specs.Bytes.{begins_word, is_in_word}
use Rattle.spec_protocol_scope.specs.Names.{is_variable}
use Rattle.spec_terms.specs.Term.{Sym, Ctor, Data, Tuple, Free, Point, Attacker, Term}
use Rattle.spec_run_text.specs.Reading.{numeral}
use Rattle.spec_run_text.proofs.Numbers.{numeral_some}
use Rattle.spec_certificate_text.specs.OfProtocol.{IsShort, IsSymbolOf, IsTermBelow, AreTermsBelow, IsTermOf, most_variables}
use Rattle.spec_certificate_text.specs.Sides.{first_bound}
use Rattle.spec_certificate_text.specs.Spelled.{goes_on}
use Rattle.spec_certificate_text.proofs.Runs.{both_right}
use Rattle.spec_certificate_text.specs.Names.{Named, symbol_called, name_called}
use Rattle.spec_certificate_text.specs.Terms.{Arity, Syntax, Number, Symbol, Count, Open, Mode, Begins, InWord, InDigits, AtBracket, InBound, Ended, Reading, Step, Goes, Ends, Fault}
use Rattle.spec_certificate_text.specs.Steps.{is_deep, goes, unless_deep, opened, with_parts, has_arity, closed, closing_byte, may_close, may_go_on, may_be_empty, after_term, begin_bound, begin_term, at_begin, after_variable, after_name, after_word, apply, in_word, after_point, after_number, after_digits, in_digits, at_bracket, after_bound, bound_ended, in_bound, step_in, step}
use Rattle.spec_certificate_text.specs.Runs.{Done, followed, read_on, read_tree, read_term}
use Rattle.spec_certificate_text.proofs.Named.{symbol_called_is, name_called_is}
use Rattle.spec_certificate_text.proofs.ReadRuns.{none_at_end}

-- variables of facts are among those that may be read
pub facts_within : (binds : Bool) → first_bound ≤ most_variables binds
facts_within true = omega arith
facts_within false = omega arith

-- in constraints, or in facts
module _ (binds : Bool) where
  -- so many heads above it, the term is of the protocol and not too deep
  pub record IsHeld (P : Protocol) (above : ℕ) (t : Term) : Type 0 where
    pub is_of : IsTermBelow (most_variables binds) P t
    pub shallow : above + depth t ≤ most_term_levels

  unfoldable pub AreHeld : Protocol → ℕ → List Term → Type 0
  AreHeld P above [] = Unit {0}
  AreHeld P above (t ∷ ts) = IsHeld P above t × AreHeld P above ts

  -- the symbol is of the protocol; how many parts a tuple has is not known yet
  unfoldable pub IsHeadOf : Protocol → Sym → ℕ → Type 0
  IsHeadOf P (Tuple n) arity = Unit {0}
  IsHeadOf P (Ctor f) arity = IsSymbolOf P (Ctor f) arity
  IsHeadOf P (Data f) arity = IsSymbolOf P (Data f) arity
  IsHeadOf P (Free a) arity = IsSymbolOf P (Free a) arity
  IsHeadOf P (Point p) arity = IsSymbolOf P (Point p) arity
  IsHeadOf P Attacker arity = IsSymbolOf P Attacker arity

  unfoldable pub HeadsOf : Protocol → List Open → Type 0
  HeadsOf P [] = Unit {0}
  HeadsOf P (o ∷ heads) = IsHeadOf P o.symbol o.arity × AreHeld P (suc (length heads)) o.arguments × HeadsOf P heads

  unfoldable pub ModeOf : Protocol → ℕ → Mode → Type 0
  ModeOf P above (Ended t) = IsHeld P above t
  ModeOf P above Begins = Unit {0}
  ModeOf P above (InWord w) = Unit {0}
  ModeOf P above (InDigits w d) = Unit {0}
  ModeOf P above AtBracket = Unit {0}
  ModeOf P above (InBound d) = (binds ≡ true) × (above + 1 ≤ most_term_levels)

  pub record ReadingOf (P : Protocol) (r : Reading) : Type 0 where
    pub heads : HeadsOf P r.heads
    pub mode : ModeOf P (length r.heads) r.mode

  unfoldable pub StepOf : Protocol → Step → Type 0
  StepOf P (Goes r) = ReadingOf P r
  StepOf P (Ends t) = IsHeld P 0 t
  StepOf P (Fault place code) = Unit {0}

  choose : (Q : Step → Type 0) (test : Bool) (x y : Step) → (test ≡ true → Q x) → (test ≡ false → Q y) → Q (if test then x else y)
  choose Q true x y first second = first refl
  choose Q false x y first second = second refl

  pub not_deep : (heads : List Open) → is_deep heads ≡ false → length heads + 1 ≤ most_term_levels
  not_deep heads e = grind (arith, nat_tests)

  fault_kept : (P : Protocol) (place : ℕ) (code : _) → StepOf P (Fault place code)
  unfolding StepOf
  fault_kept P place code = tt

  unless_deep-kept : (P : Protocol) (heads : List Open) (from : ℕ) (s : Step) → (length heads + 1 ≤ most_term_levels → StepOf P s) → StepOf P (unless_deep heads from s)
  unless_deep-kept P heads from s kept = choose (StepOf P) (is_deep heads) (Fault from Count) s (λ deep. fault_kept P from Count) (λ room. kept (not_deep heads room))

  opened-kept : (P : Protocol) (heads : List Open) (named : Named) (from : ℕ) → HeadsOf P heads → IsHeadOf P named.symbol named.arity → StepOf P (opened heads named from)
  unfolding StepOf HeadsOf ModeOf AreHeld
  opened-kept P heads named from of_heads is = record { heads = (is, tt, of_heads); mode = tt }

  held_terms : (P : Protocol) (above : ℕ) (ts : List Term) → AreHeld P above ts → AreTermsBelow (most_variables binds) P (trees ts)
  unfolding AreHeld
  held_terms P above [] held = tt
  held_terms P above (t ∷ ts) held = (held.0.is_of, held_terms P above ts held.1)

  held_depths : (P : Protocol) (above : ℕ) (ts : List Term) → AreHeld P above ts → above ≤ most_term_levels → above + depths (trees ts) ≤ most_term_levels
  unfolding AreHeld
  held_depths P above [] held room = omega (arith, room)
  held_depths P above (t ∷ ts) held room = omega (arith, held.0.shallow, held_depths P above ts held.1 room)

  pub held_push : (P : Protocol) (above : ℕ) (ts : List Term) (t : Term) → AreHeld P above ts → IsHeld P above t → AreHeld P above (ts ++ t ∷ [])
  unfolding AreHeld
  held_push P above [] t held is = (is, tt)
  held_push P above (u ∷ us) t held is = (held.0, held_push P above us t held.1 is)

  -- with so many arguments the symbol may be closed
  MayClose : Sym → ℕ → Type 0
  MayClose (Tuple n) parts = 2 ≤ parts
  MayClose other parts = Unit {0}

  same_count : (m n : ℕ) → (m == n) ≡ true → m ≡ n
  same_count m n e = grind (arith, nat_tests)

  few_parts : (m n : ℕ) → nat_le m n ≡ true → m ≤ n
  few_parts m n e = grind (arith, nat_tests)

  counted : (P : Protocol) (s : Sym) (arity parts : ℕ) → IsHeadOf P s arity → MayClose s parts → has_arity s arity parts ≡ true → IsSymbolOf P (with_parts s parts) parts
  unfolding IsHeadOf MayClose
  counted P (Ctor f) arity parts is may fits = subst (IsSymbolOf P (Ctor f)) (sym (same_count parts arity fits)) is
  counted P (Data f) arity parts is may fits = subst (IsSymbolOf P (Data f)) (sym (same_count parts arity fits)) is
  counted P (Tuple n) arity parts is may fits = (refl, may, few_parts parts most_arguments fits)
  counted P (Free a) arity parts is may fits = subst (IsSymbolOf P (Free a)) (sym (same_count parts arity fits)) is
  counted P (Point p) arity parts is may fits = subst (IsSymbolOf P (Point p)) (sym (same_count parts arity fits)) is
  counted P Attacker arity parts is may fits = subst (IsSymbolOf P Attacker) (sym (same_count parts arity fits)) is

  closed-kept : (P : Protocol) (o : Open) (heads : List Open) (ts : List Term) → HeadsOf P heads → IsHeadOf P o.symbol o.arity → AreHeld P (suc (length heads)) ts → MayClose o.symbol (length ts) → StepOf P (closed o heads ts)
  unfolding StepOf ModeOf
  closed-kept P o heads ts of_heads is held may =
      let end = goes heads (Ended (node (with_parts o.symbol (length ts)) ts)) o.place in
      choose (StepOf P) (has_arity o.symbol o.arity (length ts)) (unless_deep heads o.place end) (Fault o.place Arity)
      (λ fits. unless_deep-kept P heads o.place end (λ room. record {
        heads = of_heads;
        mode = record {
          is_of = (subst (IsSymbolOf P (with_parts o.symbol (length ts))) (sym (ap length (items_of-trees ts))) (counted P o.symbol o.arity (length ts) is may fits), held_terms P (suc (length heads)) ts held);
          shallow = omega (arith, held_depths P (suc (length heads)) ts held (omega (arith, room)));
        };
      }))
      (λ misfits. tt)

  may_close_is : (s : Sym) (n : ℕ) → may_close s n ≡ true → MayClose s n
  unfolding MayClose
  may_close_is (Tuple m) n e = few_parts 2 n e
  may_close_is (Ctor f) n e = tt
  may_close_is (Data f) n e = tt
  may_close_is (Free a) n e = tt
  may_close_is (Point p) n e = tt
  may_close_is Attacker n e = tt

  after_term-kept : (P : Protocol) (at : ℕ) (t : Term) (heads : List Open) (from b : ℕ) → HeadsOf P heads → IsHeld P (length heads) t → StepOf P (after_term at t heads from b)
  unfolding StepOf HeadsOf ModeOf
  after_term-kept P at t [] from b of_heads held = held
  after_term-kept P at t (o ∷ heads) from b of_heads held =
      let all = held_push P (suc (length heads)) o.arguments t of_heads.1 held in
      let more = goes (record o { arguments = o.arguments ++ t ∷ [] } ∷ heads) Begins from in
      let end = closed o heads (o.arguments ++ t ∷ []) in
      let otherwise = if (b == closing_byte o.symbol) && may_close o.symbol (length o.arguments + 1) then end else Fault at Syntax in
      choose (StepOf P) ((b == 44) && may_go_on o.symbol) more otherwise
      (λ comma. record { heads = (of_heads.0, all, of_heads.2); mode = tt })
      (λ no_comma. choose (StepOf P) ((b == closing_byte o.symbol) && may_close o.symbol (length o.arguments + 1)) end (Fault at Syntax)
      (λ closes. closed-kept P o heads (o.arguments ++ t ∷ []) of_heads.2 of_heads.0 all
      (subst (MayClose o.symbol) (sym (length-append o.arguments (t ∷ []))) (may_close_is o.symbol (length o.arguments + 1) (both_right (b == closing_byte o.symbol) (may_close o.symbol (length o.arguments + 1)) closes))))
      (λ stays. tt))

  begin_bound-kept : (P : Protocol) (at : ℕ) (heads : List Open) → HeadsOf P heads → StepOf P (begin_bound binds at heads)
  unfolding StepOf ModeOf
  begin_bound-kept P at heads of_heads =
      choose (StepOf P) binds (unless_deep heads at (goes heads (InBound []) at)) (Fault at Symbol)
      (λ is. unless_deep-kept P heads at (goes heads (InBound []) at) (λ room. record { heads = of_heads; mode = (is, room) })) (λ none. tt)

  begin_term-kept : (P : Protocol) (at : ℕ) (heads : List Open) (b : ℕ) → HeadsOf P heads → StepOf P (begin_term binds at heads b)
  unfolding StepOf ModeOf IsHeadOf
  begin_term-kept P at heads b of_heads =
      let tuple = opened heads record { symbol = Tuple 0; arity = 0 } at in
      let bracket = goes heads AtBracket at in
      let otherwise = if b == 63 then begin_bound binds at heads else Fault at Syntax in
      choose (StepOf P) (begins_word b) (goes heads (InWord (b ∷ [])) at) (if b == 40 then unless_deep heads at tuple else (if b == 64 then unless_deep heads at bracket else otherwise))
      (λ word. record { heads = of_heads; mode = tt })
      (λ no_word. choose (StepOf P) (b == 40) (unless_deep heads at tuple) (if b == 64 then unless_deep heads at bracket else otherwise)
      (λ is. unless_deep-kept P heads at tuple (λ room. opened-kept P heads record { symbol = Tuple 0; arity = 0 } at of_heads tt))
      (λ no_tuple. choose (StepOf P) (b == 64) (unless_deep heads at bracket) otherwise
      (λ is. unless_deep-kept P heads at bracket (λ room. record { heads = of_heads; mode = tt }))
      (λ no_bracket. choose (StepOf P) (b == 63) (begin_bound binds at heads) (Fault at Syntax) (λ is. begin_bound-kept P at heads of_heads) (λ none. tt))))

  empty_may_close : (s : Sym) (ts : List Term) → may_be_empty s ts ≡ true → MayClose s 0
  unfolding MayClose
  empty_may_close (Tuple m) ts e = absurd (cc)
  empty_may_close (Ctor f) ts e = tt
  empty_may_close (Data f) ts e = tt
  empty_may_close (Free a) ts e = tt
  empty_may_close (Point p) ts e = tt
  empty_may_close Attacker ts e = tt

  at_begin-kept : (P : Protocol) (at : ℕ) (heads : List Open) (b : ℕ) → HeadsOf P heads → StepOf P (at_begin binds at heads b)
  unfolding HeadsOf AreHeld
  at_begin-kept P at [] b of_heads = begin_term-kept P at [] b of_heads
  at_begin-kept P at (o ∷ heads) b of_heads =
      choose (StepOf P) ((b == 93) && may_be_empty o.symbol o.arguments) (closed o heads []) (unless_deep heads o.place (begin_term binds at (o ∷ heads) b))
      (λ ends. closed-kept P o heads [] of_heads.2 of_heads.0 tt (empty_may_close o.symbol o.arguments (both_right (b == 93) (may_be_empty o.symbol o.arguments) ends)))
      (λ goes_on. unless_deep-kept P heads o.place (begin_term binds at (o ∷ heads) b) (λ room. begin_term-kept P at (o ∷ heads) b of_heads))

  head_of_symbol : (P : Protocol) (s : Sym) (arity : ℕ) → IsSymbolOf P s arity → IsHeadOf P s arity
  unfolding IsHeadOf
  head_of_symbol P (Ctor f) arity is = is
  head_of_symbol P (Data f) arity is = is
  head_of_symbol P (Tuple n) arity is = tt
  head_of_symbol P (Free a) arity is = is
  head_of_symbol P (Point p) arity is = is
  head_of_symbol P Attacker arity is = is

  after_variable-kept : (P : Protocol) (at : ℕ) (heads : List Open) (from : ℕ) (digits : List ℕ) (number : Option ℕ) (b : ℕ) → numeral digits ≡ number → HeadsOf P heads → length heads + 1 ≤ most_term_levels → StepOf P (after_variable at heads from digits number b)
  after_variable-kept P at heads from digits None b is of_heads room = fault_kept P (at - length digits) Number
  after_variable-kept P at heads from digits (Some x) b is of_heads room = after_term-kept P at (Leaf x) heads from b of_heads record { is_of = (let low = facts_within binds in omega (arith, (numeral_some digits x is).1, low)); shallow = room }

  after_name-kept : (P : Protocol) (at : ℕ) (heads : List Open) (from : ℕ) (word : List ℕ) (found : Option Named) (b : ℕ) → symbol_called P word ≡ found → HeadsOf P heads → StepOf P (after_name at heads from found b)
  after_name-kept P at heads from word None b is of_heads = fault_kept P from Symbol
  after_name-kept P at heads from word (Some named) b is of_heads =
      let called = symbol_called_is P word named is in
      let ended = after_term at (node named.symbol []) heads from b in
      choose (StepOf P) (named.arity == 0) (unless_deep heads from ended) (Fault from Arity)
      (λ constant. unless_deep-kept P heads from ended (λ room. after_term-kept P at (node named.symbol []) heads from b of_heads
      record { is_of = (subst (IsSymbolOf P named.symbol) (same_count named.arity 0 constant) called.is_of, tt); shallow = omega (arith, room) }))
      (λ takes. fault_kept P from Arity)

  after_word-kept : (P : Protocol) (at : ℕ) (heads : List Open) (from : ℕ) (word : List ℕ) (b : ℕ) → HeadsOf P heads → StepOf P (after_word P at heads from word b)
  after_word-kept P at heads from word b of_heads =
      let number = after_variable at heads from (drop 1 word) (numeral (drop 1 word)) b in
      choose (StepOf P) (is_variable word) (unless_deep heads from number) (after_name at heads from (symbol_called P word) b)
      (λ variable. unless_deep-kept P heads from number (λ room. after_variable-kept P at heads from (drop 1 word) (numeral (drop 1 word)) b refl of_heads room))
      (λ name. after_name-kept P at heads from word (symbol_called P word) b refl of_heads)

  apply-kept : (P : Protocol) (heads : List Open) (from : ℕ) (word : List ℕ) (found : Option Named) → symbol_called P word ≡ found → HeadsOf P heads → StepOf P (apply heads from found)
  apply-kept P heads from word None is of_heads = fault_kept P from Symbol
  apply-kept P heads from word (Some named) is of_heads =
      unless_deep-kept P heads from (opened heads named from) (λ room. opened-kept P heads named from of_heads (head_of_symbol P named.symbol named.arity (symbol_called_is P word named is).is_of))

  in_word-kept : (P : Protocol) (at : ℕ) (heads : List Open) (from : ℕ) (word : List ℕ) (b : ℕ) → HeadsOf P heads → StepOf P (in_word P at heads from word b)
  unfolding StepOf ModeOf
  in_word-kept P at heads from word b of_heads =
      let longer = goes heads (InWord (word ++ b ∷ [])) from in
      let applied = apply heads from (symbol_called P word) in
      let behind = goes heads (InDigits word []) from in
      let ended = after_word P at heads from word b in
      choose (StepOf P) (is_in_word b) longer (if b == 40 then applied else (if b == 64 then behind else ended))
      (λ letter. record { heads = of_heads; mode = tt })
      (λ no_letter. choose (StepOf P) (b == 40) applied (if b == 64 then behind else ended)
      (λ is. apply-kept P heads from word (symbol_called P word) refl of_heads)
      (λ alone. choose (StepOf P) (b == 64) behind ended
      (λ is. record { heads = of_heads; mode = tt })
      (λ ends. after_word-kept P at heads from word b of_heads)))

  after_point-kept : (P : Protocol) (at : ℕ) (heads : List Open) (from : ℕ) (word : List ℕ) (point : ℕ) (found : Option Named) (b : ℕ) → IsShort point → name_called P word point ≡ found → HeadsOf P heads → StepOf P (after_point at heads from found b)
  unfolding IsHeadOf
  after_point-kept P at heads from word point None b short is of_heads = fault_kept P from Symbol
  after_point-kept P at heads from word point (Some named) b short is of_heads =
      let called = name_called_is P word point named is in
      let head : IsHeadOf P named.symbol named.arity = subst (λ s. IsHeadOf P s named.arity) (sym called.symbol) (called.is_of, short) in
      choose (StepOf P) (b == 91) (opened heads named from) (unless_deep heads from (Fault at Syntax))
      (λ bracket. opened-kept P heads named from of_heads head)
      (λ none. unless_deep-kept P heads from (Fault at Syntax) (λ room. fault_kept P at Syntax))

  after_digits-kept : (P : Protocol) (at : ℕ) (heads : List Open) (from : ℕ) (word digits : List ℕ) (b : ℕ) → HeadsOf P heads → StepOf P (after_digits P at heads from word digits b)
  after_digits-kept P at heads from word [] b of_heads = unless_deep-kept P heads from (Fault at Syntax) (λ room. fault_kept P at Syntax)
  after_digits-kept P at heads from word (d ∷ ds) b of_heads = by (numeral (d ∷ ds)) refl
    where
      by : (number : Option ℕ) → numeral (d ∷ ds) ≡ number → StepOf P (after_number P at heads from word (d ∷ ds) number b)
      by None is = unless_deep-kept P heads from (Fault (at - length (d ∷ ds)) Number) (λ room. fault_kept P (at - length (d ∷ ds)) Number)
      by (Some point) is = after_point-kept P at heads from word point (name_called P word point) b (numeral_some (d ∷ ds) point is).1 refl of_heads

  in_digits-kept : (P : Protocol) (at : ℕ) (heads : List Open) (from : ℕ) (word digits : List ℕ) (b : ℕ) → HeadsOf P heads → StepOf P (in_digits P at heads from word digits b)
  unfolding StepOf ModeOf
  in_digits-kept P at heads from word digits b of_heads =
      choose (StepOf P) (is_ascii_digit b) (goes heads (InDigits word (digits ++ b ∷ [])) from) (after_digits P at heads from word digits b)
      (λ digit. record { heads = of_heads; mode = tt }) (λ end. after_digits-kept P at heads from word digits b of_heads)

  at_bracket-kept : (P : Protocol) (at : ℕ) (heads : List Open) (from b : ℕ) → HeadsOf P heads → StepOf P (at_bracket at heads from b)
  unfolding IsHeadOf
  at_bracket-kept P at heads from b of_heads =
      choose (StepOf P) (b == 91) (opened heads record { symbol = Attacker; arity = 1 } from) (Fault at Syntax)
      (λ is. opened-kept P heads record { symbol = Attacker; arity = 1 } from of_heads refl) (λ none. fault_kept P at Syntax)

  after_bound-kept : (P : Protocol) (at : ℕ) (heads : List Open) (from : ℕ) (digits : List ℕ) (number : Option ℕ) (b : ℕ) → numeral digits ≡ number → HeadsOf P heads → binds ≡ true → length heads + 1 ≤ most_term_levels → StepOf P (after_bound at heads from digits number b)
  after_bound-kept P at heads from digits None b is of_heads some room = fault_kept P (at - length digits) Number
  after_bound-kept P at heads from digits (Some i) b is of_heads some room =
      let ended = after_term at (Leaf (first_bound + i)) heads from b in
      let high : most_variables binds ≡ first_bound + first_bound = ap most_variables some in
      choose (StepOf P) (goes_on b) (Fault at Syntax) ended (λ more. fault_kept P at Syntax)
      (λ stops. after_term-kept P at (Leaf (first_bound + i)) heads from b of_heads record { is_of = omega (arith, (numeral_some digits i is).1, high); shallow = room })

  in_bound-kept : (P : Protocol) (at : ℕ) (heads : List Open) (from : ℕ) (digits : List ℕ) (b : ℕ) → HeadsOf P heads → binds ≡ true → length heads + 1 ≤ most_term_levels → StepOf P (in_bound at heads from digits b)
  unfolding StepOf ModeOf
  in_bound-kept P at heads from digits b of_heads some room =
      choose (StepOf P) (is_ascii_digit b) (goes heads (InBound (digits ++ b ∷ [])) from) (bound_ended at heads from digits b) (λ digit. record { heads = of_heads; mode = (some, room) }) (λ ends. by digits)
    where
      by : (ds : List ℕ) → StepOf P (bound_ended at heads from ds b)
      by [] = fault_kept P at Syntax
      by (d ∷ ds) = after_bound-kept P at heads from (d ∷ ds) (numeral (d ∷ ds)) b refl of_heads some room

  pub step-kept : (P : Protocol) (at : ℕ) (r : Reading) (b : ℕ) → ReadingOf P r → StepOf P (step binds P at r b)
  unfolding ModeOf
  step-kept P at r b is = by r.mode is.mode
    where
      by : (mode : Mode) → ModeOf P (length r.heads) mode → StepOf P (step_in binds P at r.heads r.from mode b)
      by Begins of_mode = at_begin-kept P at r.heads b is.heads
      by (InWord word) of_mode = in_word-kept P at r.heads r.from word b is.heads
      by (InDigits word digits) of_mode = in_digits-kept P at r.heads r.from word digits b is.heads
      by AtBracket of_mode = at_bracket-kept P at r.heads r.from b is.heads
      by (InBound digits) of_mode = in_bound-kept P at r.heads r.from digits b is.heads of_mode.0 of_mode.1
      by (Ended t) of_mode = after_term-kept P at t r.heads r.from b is.heads of_mode

  read_on-kept : (P : Protocol) (bytes : List ℕ) (at : ℕ) (r : Reading) (t : Term) (place : ℕ) (rest : List ℕ) → ReadingOf P r → read_on binds P bytes at r ≡ Done t place rest → IsHeld P 0 t
  unfolding StepOf
  read_on-kept P [] at r t place rest is e = absurd (none_at_end at r.heads r.from r.mode t place rest e)
  read_on-kept P (c ∷ bytes) at r t place rest is e = by (step binds P at r c) (step-kept P at r c is) e (read_on-kept P bytes (at + 1))
    where
      by : (s : Step) → StepOf P s → followed (read_on binds P bytes (at + 1)) at (c ∷ bytes) s ≡ Done t place rest
          → ((r' : Reading) (u : Term) (p : ℕ) (k : List ℕ) → ReadingOf P r' → read_on binds P bytes (at + 1) r' ≡ Done u p k → IsHeld P 0 u)
          → IsHeld P 0 t
      by (Goes r') kept read later = later r' t place rest kept read
      by (Ends u) kept read later = let same : u ≡ t = cc in subst (IsHeld P 0) same kept
      by (Fault p code) kept read later = absurd (cc)

-- a term or a side that was read is of the protocol, and not too deep
pub read_tree-kept : (binds : Bool) (P : Protocol) (bytes : List ℕ) (at : ℕ) (t : Term) (place : ℕ) (rest : List ℕ) → read_tree binds P bytes at ≡ Done t place rest → IsTermBelow (most_variables binds) P t × (depth t ≤ most_term_levels)
unfolding HeadsOf ModeOf
read_tree-kept binds P bytes at t place rest e =
    let held = read_on-kept binds P bytes at record { heads = []; mode = Begins; from = at } t place rest record { heads = tt; mode = tt } e in
    (held.is_of, omega (arith, held.shallow))

-- so is a term of a fact
pub read_term-kept : (P : Protocol) (bytes : List ℕ) (at : ℕ) (t : Term) (place : ℕ) (rest : List ℕ) → read_term P bytes at ≡ Done t place rest → IsTermOf P t × (depth t ≤ most_term_levels)
read_term-kept P bytes at t place rest e = read_tree-kept false P bytes at t place rest e
