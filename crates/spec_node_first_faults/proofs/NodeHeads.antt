-- What stands before the numbers of a node: a reader of it tells the first fault.
use Rattle.std.proofs.Common.{◌≡◌, ◌≢◌, ℕ, ◌+◌, ◌≤◌, ◌==◌, ◌&&◌, ◌⊎◌, inl, inr, not, if◌then◌else◌, Bool, true, false, List, [], ◌∷◌, ◌++◌, length, take, drop, Option, Some, None, codes, refl, sym, ◌∙◌, ap, subst, arith, length-append}
use Rattle.std.specs.Fmt.{decimal}
use Rattle.std.specs.List.{list_all, prefix_len}
use Rattle.spec_calculus.specs.Syntax.{Protocol}
use Rattle.spec_protocol_tokens.specs.Bytes.{begins_word, is_in_word}
use Rattle.spec_protocol_scope.specs.Names.{is_variable}
use Rattle.spec_run_text.specs.Reading.{numeral}
use Rattle.spec_run_text.proofs.Numbers.{numeral-decimal}
use Rattle.spec_terms.specs.Term.{Sym, Ctor, Data, Tuple, Free, Point, Attacker}
use Rattle.spec_certificate_text.specs.OfProtocol.{IsShort, HasNames, IsSymbolOf}
use Rattle.spec_certificate_text.specs.Spelled.{IsWord, AreDigits}
use Rattle.spec_certificate_text.specs.Words.{symbol_word}
use Rattle.spec_certificate_text.proofs.Names.{variable_is_variable}
use Rattle.spec_certificate_text.proofs.Runs.{both_left}
use Rattle.spec_certificate_text.specs.Names.{Named, symbol_called, name_called}
use Rattle.spec_certificate_text.specs.Terms.{Code, Syntax, Number, Symbol, Arity, Count, NodeOrder, NodeLarge}
use Rattle.spec_certificate_text.specs.Outcomes.{Found, Faulty, next, front, ended, Reader, read_fixed, read_number}
use Rattle.spec_certificate_text.proofs.Parts.{Finds, parts, equal_byte, fixed_there, fixed_found}
use Rattle.spec_certificate_text.proofs.Apart.{digits_in_word}
use Rattle.spec_certificate_text.proofs.Called.{free_called, constructor_called, point_called}
use Rattle.spec_certificate_text.proofs.Named.{symbol_called_is}
use Rattle.spec_certificate_text.proofs.SoundWords.{variable_rest}
use Rattle.spec_reading_faults.proofs.Shared.{choice_local}
use Rattle.spec_certificate_faults.specs.Grammar.{EndsAt}
use Rattle.spec_certificate_faults.specs.TermFaults.{IsPlain, NamesNoRestriction}
use Rattle.spec_certificate_faults.specs.First.{Kind}
use Rattle.spec_certificate_faults.proofs.Comes.{either}
use Rattle.spec_certificate_faults.proofs.Told.{no_numeral, is_variable_word, plain_is, no_name}
use Rattle.spec_certificate_faults.proofs.Explained.{variable_digits, no_number}
use Rattle.spec_first_faults.specs.Kinds.{fixed}
use Rattle.spec_first_faults.specs.Facts.{words}
use Rattle.spec_first_faults.proofs.Tells.{Anything, GoesPastIt, Tells, moved_to, same_tells, tells_of, tells_before}
use Rattle.spec_first_faults.proofs.OneOf.{chosen, told_by_front, told_alone, one_of_tells}
use Rattle.spec_first_faults.proofs.Many.{next_twice}
use Rattle.spec_first_faults.proofs.Closed.{closed_by, closed_tells}
use Rattle.spec_first_faults.proofs.Rows.{next_same}
use Rattle.spec_node_reading.specs.Nodes.{IsNoVariable, NamesNothing, HeadFault, word_heads, heads}
use Rattle.spec_node_reading.specs.Numbers.{IsNumberThere}
use Rattle.spec_node_reading.specs.ReadNodes.{HeadRead, IsVariable, Names, as_variable, as_symbol, word_head, read_head}
use Rattle.spec_node_first_faults.proofs.Steady.{SameFirst, IsSteady, fixed_steady, runs_steady, behind_steady, one_of_steady}
use Rattle.spec_node_first_faults.proofs.JudgedWithin.{Within, judged_within, checked_within, with_faults, IsJudgedWithin, StandsWithin, within_tells}
use Rattle.spec_node_first_faults.proofs.HeadWords.{HeadText, Alone, AtPoint, is_point_sign, head_goes_on, tails, starts_point, tail_read, head_text_read, tails_steady, head_text_tells, IsAlone, IsAtPoint, HeadStands, decimal_there, head_was_read, head_is_read}

-- What it is judged to be.

judge_variable : Option ℕ → Within ⊎ HeadRead
judge_variable None = inl record { count = 1; code = Number }
judge_variable (Some x) = inr (IsVariable x)

judge_symbol : Option Named → Within ⊎ HeadRead
judge_symbol None = inl record { count = 0; code = Symbol }
judge_symbol (Some named) = inr (Names named)

module _ (P : Protocol) where
  judge_word : List ℕ → Bool → Within ⊎ HeadRead
  judge_word w true = judge_variable (numeral (drop 1 w))
  judge_word w false = judge_symbol (symbol_called P w)

  pub judge_head : HeadText → Within ⊎ HeadRead
  judge_head (Alone w spaced) = judge_word w (is_variable w && not spaced)
  judge_head (AtPoint w point) = judge_symbol (name_called P w point)

  symbol_as : (at p : ℕ) (k : List ℕ) (o : Option Named) → as_symbol at o p k ≡ judged_within (judge_symbol o) at p k
  unfolding judge_symbol
  symbol_as at p k None = ap (λ q. Faulty q Symbol) (let same : at ≡ at + 0 = omega arith in same)
  symbol_as at p k (Some named) = refl

  variable_as : (at p : ℕ) (k : List ℕ) (o : Option ℕ) → as_variable at o p k ≡ judged_within (judge_variable o) at p k
  unfolding judge_variable
  variable_as at p k None = refl
  variable_as at p k (Some x) = refl

  tail_as : (w : List ℕ) (at p c : ℕ) (rest : List ℕ) → word_head P w at p (c ∷ rest) ≡ next (tail_read w (c ∷ rest) p) (λ x q k. judged_within (judge_head x) at q k)
  unfolding read_fixed judge_head judge_word
  tail_as w at p c rest = by (c == 64)
    where
      word_alone : (t : Bool) → (if t then as_variable at (numeral (drop 1 w)) p (c ∷ rest) else as_symbol at (symbol_called P w) p (c ∷ rest)) ≡ judged_within (judge_word w t) at p (c ∷ rest)
      word_alone true = variable_as at p (c ∷ rest) (numeral (drop 1 w))
      word_alone false = symbol_as at p (c ∷ rest) (symbol_called P w)

      by : (t : Bool)
          → (if t then next (read_number rest (p + 1)) (λ point q k. as_symbol at (name_called P w point) q k) else (if is_variable w && not (c == 32) then as_variable at (numeral (drop 1 w)) p (c ∷ rest) else as_symbol at (symbol_called P w) p (c ∷ rest)))
          ≡ next (if t then next {A = Unit {0}} {B = HeadText} (if t then Found tt (p + 1) rest else Faulty p Syntax) (λ _ q k. next (read_number k q) (λ n y l. Found (AtPoint w n) y l)) else Found (Alone w (c == 32)) p (c ∷ rest)) (λ x q k. judged_within (judge_head x) at q k)
      by true =
          next_same (read_number rest (p + 1)) (λ point q k. as_symbol at (name_called P w point) q k) (λ point q k. judged_within (judge_symbol (name_called P w point)) at q k) (λ point q k. symbol_as at q k (name_called P w point))
          ∙ sym (next_twice (read_number rest (p + 1)) (λ n y l. Found (AtPoint w n) y l) (λ x q k. judged_within (judge_head x) at q k))
      by false = word_alone (is_variable w && not (c == 32))

  abbrev tuple_read : Reader HeadRead
  tuple_read = closed_by (codes "()") (Names record { symbol = Tuple 0; arity = 0 })

  abbrev pub starts_word : List ℕ → Bool
  starts_word bs = begins_word (front bs)

  head_as : (bytes : List ℕ) (at : ℕ) → read_head P bytes at ≡ chosen starts_word (checked_within judge_head head_text_read) tuple_read bytes at
  head_as bytes at = by (starts_word bytes) (take (prefix_len is_in_word bytes) bytes) (at + prefix_len is_in_word bytes) (drop (prefix_len is_in_word bytes) bytes)
    where
      by : (t : Bool) (w : List ℕ) (p : ℕ) (k : List ℕ)
          → (if t then ended p k (word_head P w at p k) else tuple_read bytes at)
          ≡ (if t then next (next (if t then ended p k (Found w p k) else Faulty at Syntax) (λ v q l. tail_read v l q)) (λ x q l. judged_within (judge_head x) at q l) else tuple_read bytes at)
      by false w p k = refl
      by true w p [] = refl
      by true w p (c ∷ k) = tail_as w at p c k

  -- why a head is wrong
  data HeadWrong (x : HeadText) (w : Within) : Type 0 where
    no_variable : (word : List ℕ) → x ≡ Alone word false → is_variable word ≡ true → numeral (drop 1 word) ≡ None → w ≡ record { count = 1; code = Number } → HeadWrong x w
    no_symbol : (word : List ℕ) (spaced : Bool) → x ≡ Alone word spaced → (is_variable word && not spaced) ≡ false → symbol_called P word ≡ None → w ≡ record { count = 0; code = Symbol } → HeadWrong x w
    unnamed : (word : List ℕ) (point : ℕ) → x ≡ AtPoint word point → name_called P word point ≡ None → w ≡ record { count = 0; code = Symbol } → HeadWrong x w

  wrong_variable : (o : Option ℕ) (w : Within) → judge_variable o ≡ inl w → (o ≡ None) × (w ≡ record { count = 1; code = Number })
  unfolding judge_variable
  wrong_variable None w e = let same : record { count = 1; code = Number } ≡ w = cc in (refl, sym same)
  wrong_variable (Some x) w e = absurd (cc)

  wrong_symbol : (o : Option Named) (w : Within) → judge_symbol o ≡ inl w → (o ≡ None) × (w ≡ record { count = 0; code = Symbol })
  unfolding judge_symbol
  wrong_symbol None w e = let same : record { count = 0; code = Symbol } ≡ w = cc in (refl, sym same)
  wrong_symbol (Some x) w e = absurd (cc)

  not_spaced : (a b : Bool) → (a && not b) ≡ true → (a ≡ true) × (b ≡ false)
  not_spaced true true e = absurd (cc)
  not_spaced true false e = (refl, refl)
  not_spaced false b e = absurd (cc)

  head_wrong : (x : HeadText) (w : Within) → judge_head x ≡ inl w → HeadWrong x w
  unfolding judge_head judge_word
  head_wrong (Alone word spaced) w e = by (is_variable word && not spaced) refl e
    where
      by : (t : Bool) → (is_variable word && not spaced) ≡ t → judge_word word t ≡ inl w → HeadWrong (Alone word spaced) w
      by true is told =
          let both = not_spaced (is_variable word) spaced is in
          let wrong = wrong_variable (numeral (drop 1 word)) w told in
          no_variable word (ap (Alone word) both.1) both.0 wrong.0 wrong.1
      by false is told = let wrong = wrong_symbol (symbol_called P word) w told in no_symbol word spaced refl is wrong.0 wrong.1
  head_wrong (AtPoint word point) w e = let wrong = wrong_symbol (name_called P word point) w e in unnamed word point refl wrong.0 wrong.1

  code_of : (x : HeadText) (w : Within) → HeadWrong x w → (w.code ≡ Number) ⊎ (w.code ≡ Symbol)
  code_of x w (no_variable word is variable none same) = inl (ap (λ v. v.code) same)
  code_of x w (no_symbol word spaced is variable none same) = inr (ap (λ v. v.code) same)
  code_of x w (unnamed word point is none same) = inr (ap (λ v. v.code) same)

  -- Which faults stand there.

  not_called : (bytes : List ℕ) → (is : NamesNothing P bytes) → symbol_called P is.word ≡ None
  not_called bytes is = by (symbol_called P is.word) refl
    where
      by : (found : Option Named) → symbol_called P is.word ≡ found → symbol_called P is.word ≡ None
      by None none = none
      by (Some named) some = let called = symbol_called_is P is.word named some in absurd (is.none named.symbol named.arity (plain_is named.symbol called.worded) called.is_of called.has_word)

  not_both : (o : Option Named) (named : Named) → o ≡ None → o ≡ Some named → ⊥
  not_both o named none some = let never = sym none ∙ some in cc

  -- a word that names nothing is that of no symbol
  none_has : HasNames P → (word : List ℕ) → symbol_called P word ≡ None → (f : Sym) (n : ℕ) → IsPlain f → IsSymbolOf P f n → symbol_word P f ≢ word
  none_has names word none (Ctor f) n plain is same = not_both (symbol_called P word) record { symbol = Ctor f; arity = n } none (ap (symbol_called P) (sym same) ∙ constructor_called P names false f n is)
  none_has names word none (Data f) n plain is same = not_both (symbol_called P word) record { symbol = Data f; arity = n } none (ap (symbol_called P) (sym same) ∙ constructor_called P names true f n is)
  none_has names word none (Free a) n plain is same = not_both (symbol_called P word) record { symbol = Free a; arity = 0 } none (ap (symbol_called P) (sym same) ∙ free_called P names a is.0)
  none_has names word none (Tuple m) n plain is same = plain
  none_has names word none (Point p) n plain is same = plain
  none_has names word none Attacker n plain is same = plain

  ends_from : (test : ℕ → Bool) (bytes : List ℕ) → EndsAt is_in_word bytes → test (front bytes) ≡ false → EndsAt test bytes
  ends_from test [] ends is = absurd ends
  ends_from test (b ∷ bytes) ends is = is

  front_from : (test : ℕ → Bool) (bytes : List ℕ) → EndsAt test bytes → test (front bytes) ≡ false
  front_from test [] ends = absurd ends
  front_from test (b ∷ bytes) ends = ends

  -- what is judged wrong of a head that stands there
  judged_of : (bytes there : List ℕ) (at : ℕ) (code : Code) (x : HeadText) (rest : List ℕ) (count : ℕ) → HeadStands bytes x rest → judge_head x ≡ inl record { count = count; code = code } → count + length there ≡ length bytes → IsJudgedWithin judge_head (head_text_read bytes at) bytes there code
  judged_of bytes there at code x rest count stands so counted = let read = head_is_read bytes at x rest stands in record { value = x; place = read.place; rest = rest; is = read.is; count = count; so = so; counted = counted }

  variable_judged : (bytes there : List ℕ) (at : ℕ) → IsNoVariable bytes there → IsJudgedWithin judge_head (head_text_read bytes at) bytes there Number
  unfolding judge_head judge_word judge_variable
  variable_judged bytes there at is =
      let word = 118 ∷ is.digits in
      judged_of bytes there at Number (Alone word false) is.rest 1
      record {
        is_word = record { begins = refl; goes_on = digits_in_word is.digits is.wrong.all };
        text = is.text ∙ ap (λ k. 118 ∷ k) is.stand;
        ends = is.ends;
        no_point = front_from is_point_sign is.rest is.no_point;
        space = front_from (λ b. b == 32) is.rest is.alone;
      }
      (ap (λ t. judge_word word (t && true)) (is_variable_word is.digits is.wrong) ∙ ap judge_variable (no_numeral is.digits is.wrong)) (omega (arith, ap length is.text))

  nothing_judged : (bytes : List ℕ) (at : ℕ) → NamesNothing P bytes → IsJudgedWithin judge_head (head_text_read bytes at) bytes bytes Symbol
  unfolding judge_head judge_word judge_symbol
  nothing_judged bytes at is =
      judged_of bytes bytes at Symbol (Alone is.word (is.next == 32)) (is.next ∷ is.rest) 0 record { is_word = is.is_word; text = is.text; ends = is.ends; no_point = is.no_point; space = refl }
      (ap (judge_word is.word) (no_variable_there (is_variable is.word) refl) ∙ ap judge_symbol (not_called bytes is)) (omega arith)
    where
      no_variable_there : (t : Bool) → is_variable is.word ≡ t → (is_variable is.word && not (is.next == 32)) ≡ false
      no_variable_there true v = ap (λ t. t && not (is.next == 32)) v ∙ ap (λ b. not (b == 32)) (is.no_variable v)
      no_variable_there false v = ap (λ t. t && not (is.next == 32)) v

  unnamed_judged : (bytes : List ℕ) (at : ℕ) → NamesNoRestriction P bytes → IsJudgedWithin judge_head (head_text_read bytes at) bytes bytes Symbol
  unfolding judge_head judge_symbol
  unnamed_judged bytes at is =
      let number : IsNumberThere (decimal is.point ++ is.behind) is.point is.behind = decimal_there is.point is.behind is.short is.ends in
      judged_of bytes bytes at Symbol (AtPoint is.word is.point) is.behind 0 record { is_word = is.is_word; mid = decimal is.point ++ is.behind; text = is.text; number = number } (ap judge_symbol (no_name P bytes is)) (omega arith)

  head_judged : (code : Code) (bytes there : List ℕ) (at : ℕ) → HeadFault P code bytes there → IsJudgedWithin judge_head (head_text_read bytes at) bytes there code
  head_judged Number bytes there at fault = variable_judged bytes there at fault
  head_judged Symbol bytes there at (same, names_none) = subst (λ k. IsJudgedWithin judge_head (head_text_read bytes at) bytes k Symbol) (sym same) (either names_none (λ none. nothing_judged bytes at none) (λ none. unnamed_judged bytes at none))
  head_judged Syntax bytes there at fault = absurd fault
  head_judged Arity bytes there at fault = absurd fault
  head_judged Count bytes there at fault = absurd fault
  head_judged NodeOrder bytes there at fault = absurd fault
  head_judged NodeLarge bytes there at fault = absurd fault

  -- where something is judged wrong a fault stands
  head_stands : HasNames P → (bytes : List ℕ) (x : HeadText) (rest : List ℕ) (w : Within) → HeadStands bytes x rest → HeadWrong x w → StandsWithin (HeadFault P) bytes w
  head_stands names bytes x rest w stands (no_variable word same variable none is) = subst (StandsWithin (HeadFault P) bytes) (sym is) (by (subst (λ y. HeadStands bytes y rest) same stands))
    where
      by : IsAlone bytes word false rest → StandsWithin (HeadFault P) bytes record { count = 1; code = Number }
      by one =
          let text : bytes ≡ 118 ∷ (drop 1 word ++ rest) = one.text ∙ ap (λ v. v ++ rest) (variable_rest word variable) in
          let digits = variable_digits word variable in
          record {
            there = drop 1 word ++ rest;
            is = record {
              digits = drop 1 word;
              rest = rest;
              text = text;
              stand = refl;
              wrong = no_number (drop 1 word) digits.0 digits.1 none;
              ends = one.ends;
              no_point = ends_from is_point_sign rest one.ends one.no_point;
              alone = ends_from (λ b. b == 32) rest one.ends one.space;
            };
            counted = omega (arith, ap length text);
          }
  head_stands names bytes x rest w stands (no_symbol word spaced same variable none is) = subst (StandsWithin (HeadFault P) bytes) (sym is) (by (subst (λ y. HeadStands bytes y rest) same stands))
    where
      spaced_if : (a b : Bool) → (a && not b) ≡ false → a ≡ true → b ≡ true
      spaced_if true true e v = refl
      spaced_if true false e v = absurd (cc)
      spaced_if false b e v = absurd (cc)

      by_rest : (k : List ℕ) → EndsAt is_in_word k → starts_point k ≡ false → (front k == 32) ≡ spaced → bytes ≡ word ++ k → IsWord word → NamesNothing P bytes
      by_rest [] ends other is_spaced text is_word = absurd ends
      by_rest (b ∷ k) ends other is_spaced text is_word = record {
        word = word;
        next = b;
        rest = k;
        text = text;
        is_word = is_word;
        ends = ends;
        no_point = other;
        no_variable = λ v. equal_byte b 32 (is_spaced ∙ spaced_if (is_variable word) spaced variable v);
        none = none_has names word none;
      }

      by : IsAlone bytes word spaced rest → StandsWithin (HeadFault P) bytes record { count = 0; code = Symbol }
      by one = record { there = bytes; is = (refl, inl (by_rest rest one.ends one.no_point one.space one.text one.is_word)); counted = omega arith }
  head_stands names bytes x rest w stands (unnamed word point same none is) = subst (StandsWithin (HeadFault P) bytes) (sym is) (by (subst (λ y. HeadStands bytes y rest) same stands))
    where
      by : IsAtPoint bytes word point rest → StandsWithin (HeadFault P) bytes record { count = 0; code = Symbol }
      by one =
          let digits : one.mid ≡ decimal point ++ rest = one.number.digits.text ∙ ap (λ ds. ds ++ rest) one.number.is in
          record {
            there = bytes;
            is = (
              refl,
              inr record {
                word = word;
                point = point;
                behind = rest;
                text = one.text ∙ ap (λ k. word ++ (64 ∷ k)) digits;
                is_word = one.is_word;
                short = one.number.short;
                ends = one.number.digits.ends;
                none = λ n is_of has. not_both (name_called P word point) record { symbol = Point point; arity = n } none (ap (λ v. name_called P v point) (sym has) ∙ point_called P point n is_of);
              },
            );
            counted = omega arith;
          }

  word_some : (word : List ℕ) → IsWord word → 1 ≤ length word
  word_some [] is = absurd (let never : false ≡ true = is.begins in cc)
  word_some (b ∷ word) is = omega arith

  variable_long : (word : List ℕ) → is_variable word ≡ true → 2 ≤ length word
  variable_long [] e = absurd (cc)
  variable_long (b ∷ []) e = absurd (cc)
  variable_long (b ∷ d ∷ ds) e = omega arith

  head_early : (bytes : List ℕ) (x : HeadText) (rest : List ℕ) (w : Within) → HeadStands bytes x rest → HeadWrong x w → w.count + length rest + 1 ≤ length bytes
  head_early bytes x rest w stands (no_variable word same variable none is) =
      let one : IsAlone bytes word false rest = subst (λ y. HeadStands bytes y rest) same stands in
      omega (arith, variable_long word variable, ap length one.text, length-append word rest, ap (λ v. v.count) is)
  head_early bytes x rest w stands (no_symbol word spaced same variable none is) =
      let one : IsAlone bytes word spaced rest = subst (λ y. HeadStands bytes y rest) same stands in
      omega (arith, word_some word one.is_word, ap length one.text, length-append word rest, ap (λ v. v.count) is)
  head_early bytes x rest w stands (unnamed word point same none is) =
      let one : IsAtPoint bytes word point rest = subst (λ y. HeadStands bytes y rest) same stands in
      let run = one.number.digits in
      omega (arith, word_some word one.is_word, ap length one.text, length-append word (64 ∷ one.mid), ap length run.text, length-append run.run rest, ap (λ v. v.count) is)

  -- a text goes on with the byte where a fault stands

  past_word : (bytes word k : List ℕ) → IsWord word → bytes ≡ word ++ k → GoesPastIt word_heads bytes bytes
  past_word bytes [] k is text = absurd (let never : false ≡ true = is.begins in cc)
  past_word bytes (b ∷ word) k is text =
      let first : is_in_word b ≡ true = both_left (is_in_word b) (list_all is_in_word word) is.goes_on in
      record {
        before = [];
        text = refl;
        first = b;
        later = word ++ k;
        begins = text;
        extends = record {
          other = 10 ∷ [];
          rest = 10 ∷ [];
          long = omega arith;
          is = (10 ∷ [], record { run = b ∷ []; some = omega arith; begin = is.begins; all = ap (λ t. t && true) first; ends = refl; text = refl }, inr (refl, refl));
        };
      }

  past_variable : (bytes there : List ℕ) → IsNoVariable bytes there → GoesPastIt word_heads bytes there
  past_variable bytes there is = by is.digits is.wrong.some is.wrong.all is.stand
    where
      by : (digits : List ℕ) → 1 ≤ length digits → AreDigits digits → there ≡ digits ++ is.rest → GoesPastIt word_heads bytes there
      by [] some all stand = absurd (omega (arith, some))
      by (d ∷ ds) some all stand =
          let second : is_in_word d ≡ true = both_left (is_in_word d) (list_all is_in_word ds) (digits_in_word (d ∷ ds) all) in
          record {
            before = 118 ∷ [];
            text = is.text;
            first = d;
            later = ds ++ is.rest;
            begins = stand;
            extends = record {
              other = 10 ∷ [];
              rest = 10 ∷ [];
              long = omega arith;
              is = (10 ∷ [], record { run = 118 ∷ d ∷ []; some = omega arith; begin = refl; all = ap (λ t. t && true) second; ends = refl; text = refl }, inr (refl, refl));
            };
          }

  head_past : (code : Code) (bytes there : List ℕ) → HeadFault P code bytes there → GoesPastIt word_heads bytes there
  head_past Number bytes there fault = past_variable bytes there fault
  head_past Symbol bytes there (same, names_none) =
      subst (GoesPastIt word_heads bytes) (sym same) (either names_none (λ none. past_word bytes none.word (none.next ∷ none.rest) none.is_word none.text) (λ none. past_word bytes none.word (64 ∷ (decimal none.point ++ none.behind)) none.is_word none.text))
  head_past Syntax bytes there fault = absurd fault
  head_past Arity bytes there fault = absurd fault
  head_past Count bytes there fault = absurd fault
  head_past NodeOrder bytes there fault = absurd fault
  head_past NodeLarge bytes there fault = absurd fault

  abbrev named_heads : Kind
  named_heads = with_faults word_heads (HeadFault P)

  named_heads-tell : HasNames P → Tells ⊥ named_heads Anything (EndsAt head_goes_on) (checked_within judge_head head_text_read)
  named_heads-tell names =
      within_tells word_heads Anything (EndsAt head_goes_on) head_text_read judge_head (HeadFault P) head_text_tells
      record {
        early = λ bytes rest at place x w of e so. head_early bytes x rest w (head_was_read bytes at place x rest e) (head_wrong x w so);
        judged_so = λ code bytes there at of fault. head_judged code bytes there at fault;
        stands = λ bytes at place x rest w of e so. head_stands names bytes x rest w (head_was_read bytes at place x rest e) (head_wrong x w so);
        past = head_past;
        other = λ bytes there fault. fault;
        never = λ x w so is. no_syntax w.code (code_of x w (head_wrong x w so)) is;
      }
    where
      no_syntax : (code : Code) → (code ≡ Number) ⊎ (code ≡ Symbol) → code ≡ Syntax → ⊥
      no_syntax code (inl number) is = let never : Number ≡ Syntax = sym number ∙ is in cc
      no_syntax code (inr symbol) is = let never : Symbol ≡ Syntax = sym symbol ∙ is in cc

  word_front : (bytes rest : List ℕ) → word_heads.Text bytes rest → starts_word bytes ≡ true
  word_front bytes rest (mid, run, more) = ap starts_word run.text ∙ by run.run run.some run.begin
    where
      by : (w : List ℕ) → 1 ≤ length w → begins_word (front w) ≡ true → starts_word (w ++ mid) ≡ true
      by [] some begin = absurd (omega (arith, some))
      by (b ∷ w) some begin = begin

  -- a head is read, and its first fault told
  pub heads_tell : HasNames P → Tells ⊥ (heads P) Anything (EndsAt head_goes_on) (read_head P)
  heads_tell names =
      let named = named_heads-tell names in
      let tuple = closed_tells (codes "()") (Names record { symbol = Tuple 0; arity = 0 }) in
      let first = checked_within judge_head head_text_read in
      same_tells (heads P) Anything (EndsAt head_goes_on) (read_head P) (chosen starts_word first tuple_read) head_as
      (one_of_tells named_heads (fixed (codes "()")) Anything (EndsAt head_goes_on) starts_word first tuple_read
      (tells_of named_heads Anything (λ bs. Anything bs × (starts_word bs ≡ true)) (EndsAt head_goes_on) first (λ bs of. tt) named)
      (tells_of (fixed (codes "()")) Anything (λ bs. Anything bs × (starts_word bs ≡ false)) (EndsAt head_goes_on) tuple_read (λ bs of. tt) (tells_before (fixed (codes "()")) Anything Anything (EndsAt head_goes_on) tuple_read (10 ∷ []) (λ other is. tt) refl tuple))
      (told_by_front named_heads (EndsAt head_goes_on) begins_word true named.forms word_front) (told_alone (codes "()") starts_word false (λ rest. refl)) (choice_local begins_word first tuple_read named.local tuple.local))

  pub heads_steady : IsSteady (heads P)
  heads_steady bytes rest text =
      one_of_steady named_heads (fixed (codes "()"))
      (λ bs r t. moved_to word_heads named_heads (SameFirst r) bs r (λ bs r t. t) (behind_steady words tails (runs_steady begins_word is_in_word) tails_steady bs r t))
      (fixed_steady (codes "()")) bytes rest text

  -- a head that is judged to be something is read as it
  pub head_found : (bytes : List ℕ) (at : ℕ) (x : HeadText) (head : HeadRead) (rest : List ℕ) → HeadStands bytes x rest → judge_head x ≡ inr head → starts_word bytes ≡ true → Finds (read_head P bytes at) head rest
  head_found bytes at x head rest stands so starts =
      let read = head_is_read bytes at x rest stands in
      record {
        place = read.place;
        is = head_as bytes at
            ∙ (ap (λ t. if t then checked_within judge_head head_text_read bytes at else tuple_read bytes at) starts
            ∙ (ap (λ o. next o (λ y p k. judged_within (judge_head y) at p k)) read.is ∙ ap (λ j. judged_within j at read.place rest) so));
      }

  pub tuple_found : (rest : List ℕ) (at : ℕ) → Finds (read_head P (40 ∷ 41 ∷ rest) at) (Names record { symbol = Tuple 0; arity = 0 }) rest
  tuple_found rest at =
      let tuple : HeadRead = Names record { symbol = Tuple 0; arity = 0 } in
      let read = fixed_found (codes "()") rest at in
      record { place = read.place; is = ap (λ o. next o (λ _ p k. Found tuple p k)) read.is }

  -- What is judged to be something.

  pub variable_right : (x : ℕ) → IsShort x → judge_head (Alone (118 ∷ decimal x) false) ≡ inr (IsVariable x)
  unfolding judge_head judge_word judge_variable
  variable_right x short = ap (λ t. judge_word (118 ∷ decimal x) (t && true)) (variable_is_variable x short) ∙ ap judge_variable (numeral-decimal x short)

  pub symbol_right : (word : List ℕ) (spaced : Bool) (named : Named) → is_variable word ≡ false → symbol_called P word ≡ Some named → judge_head (Alone word spaced) ≡ inr (Names named)
  unfolding judge_head judge_word judge_symbol
  symbol_right word spaced named other called = ap (λ t. judge_word word (t && not spaced)) other ∙ ap judge_symbol called

  pub name_right : (word : List ℕ) (point : ℕ) (named : Named) → name_called P word point ≡ Some named → judge_head (AtPoint word point) ≡ inr (Names named)
  unfolding judge_head judge_symbol
  name_right word point named called = ap judge_symbol called

  -- what a head is that is not wrong
  pub data HeadRight (x : HeadText) (head : HeadRead) : Type 0 where
    is_variable_of : (word : List ℕ) (v : ℕ) → x ≡ Alone word false → is_variable word ≡ true → numeral (drop 1 word) ≡ Some v → head ≡ IsVariable v → HeadRight x head
    is_symbol_of : (word : List ℕ) (spaced : Bool) (named : Named) → x ≡ Alone word spaced → symbol_called P word ≡ Some named → head ≡ Names named → HeadRight x head
    is_name_of : (word : List ℕ) (point : ℕ) (named : Named) → x ≡ AtPoint word point → name_called P word point ≡ Some named → head ≡ Names named → HeadRight x head

  head_right : (x : HeadText) (head : HeadRead) → judge_head x ≡ inr head → HeadRight x head
  unfolding judge_head judge_word judge_variable judge_symbol
  head_right (Alone word spaced) head e = by (is_variable word && not spaced) refl e
    where
      of_variable : is_variable word ≡ true → spaced ≡ false → (o : Option ℕ) → numeral (drop 1 word) ≡ o → judge_variable o ≡ inr head → HeadRight (Alone word spaced) head
      of_variable variable other None is told = absurd (cc)
      of_variable variable other (Some v) is told = let same : IsVariable v ≡ head = cc in is_variable_of word v (ap (Alone word) other) variable is (sym same)

      of_symbol : (o : Option Named) → symbol_called P word ≡ o → judge_symbol o ≡ inr head → HeadRight (Alone word spaced) head
      of_symbol None is told = absurd (cc)
      of_symbol (Some named) is told = let same : Names named ≡ head = cc in is_symbol_of word spaced named refl is (sym same)

      by : (t : Bool) → (is_variable word && not spaced) ≡ t → judge_word word t ≡ inr head → HeadRight (Alone word spaced) head
      by true is told = let both = not_spaced (is_variable word) spaced is in of_variable both.0 both.1 (numeral (drop 1 word)) refl told
      by false is told = of_symbol (symbol_called P word) refl told
  head_right (AtPoint word point) head e = by (name_called P word point) refl e
    where
      by : (o : Option Named) → name_called P word point ≡ o → judge_symbol o ≡ inr head → HeadRight (AtPoint word point) head
      by None is told = absurd (cc)
      by (Some named) is told = let same : Names named ≡ head = cc in is_name_of word point named refl is (sym same)

  -- a head that was read: a word, and perhaps a point; or `()`
  pub record WordHead (bytes : List ℕ) (head : HeadRead) (rest : List ℕ) : Type 0 where
    pub read : HeadText
    pub stands : HeadStands bytes read rest
    pub is : HeadRight read head

  pub head_was-read : (bytes : List ℕ) (at place : ℕ) (head : HeadRead) (rest : List ℕ) → read_head P bytes at ≡ Found head place rest → WordHead bytes head rest ⊎ ((bytes ≡ 40 ∷ 41 ∷ rest) × (head ≡ Names record { symbol = Tuple 0; arity = 0 }))
  head_was-read bytes at place head rest e = by (starts_word bytes) (sym (head_as bytes at) ∙ e)
    where
      of_word : (x : HeadText) (p : ℕ) (k : List ℕ) → head_text_read bytes at ≡ Found x p k → (j : Within ⊎ HeadRead) → judge_head x ≡ j → judged_within j at p k ≡ Found head place rest → WordHead bytes head rest
      of_word x p k read (inl w) so told = absurd (cc)
      of_word x p k read (inr other) so told =
          let same : other ≡ head = cc in
          let rests : k ≡ rest = cc in
          subst (WordHead bytes head) rests record { read = x; stands = head_was_read bytes at p x k read; is = head_right x head (so ∙ ap (λ h. inr h) same) }

      by : (t : Bool) → (if t then checked_within judge_head head_text_read bytes at else tuple_read bytes at) ≡ Found head place rest → WordHead bytes head rest ⊎ ((bytes ≡ 40 ∷ 41 ∷ rest) × (head ≡ Names record { symbol = Tuple 0; arity = 0 }))
      by true told =
          let cut = parts (head_text_read bytes at) (λ x p k. judged_within (judge_head x) at p k) head place rest told in
          inl (of_word cut.value cut.place cut.rest cut.first (judge_head cut.value) refl cut.later)
      by false told =
          let cut = parts (read_fixed (codes "()") bytes at) (λ _ p k. Found (Names record { symbol = Tuple 0; arity = 0 }) p k) head place rest told in
          let opens = fixed_there (codes "()") bytes at cut.value cut.place cut.rest cut.first in
          let made : Names record { symbol = Tuple 0; arity = 0 } ≡ head = cc in
          let rests : cut.rest ≡ rest = cc in
          inr (opens ∙ ap (λ k. 40 ∷ 41 ∷ k) rests, sym made)
