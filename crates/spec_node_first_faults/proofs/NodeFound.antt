-- The text of a node that ends there is read as that node.
use Rattle.std.proofs.Common.{◌≡◌, ℕ, ◌+◌, ◌<◌, ◌≤◌, ◌==◌, inl, inr, if◌then◌else◌, Bool, true, false, List, [], ◌∷◌, ◌++◌, length, drop, Some, codes, refl, sym, ◌∙◌, ap, subst, arith, length-append}
use Rattle.std.specs.Char.{is_ascii_digit}
use Rattle.std.specs.Fmt.{decimal}
use Rattle.std.specs.List.{AllByRecursion}
use Rattle.spec_calculus.specs.Syntax.{Protocol}
use Rattle.spec_protocol_tokens.specs.Bytes.{begins_word, is_in_word}
use Rattle.spec_protocol_scope.specs.Names.{is_variable}
use Rattle.spec_terms.specs.Term.{Sym, Ctor, Data, Tuple, Free, Point, Attacker}
use Rattle.spec_certificate_text.specs.Sides.{first_bound, variable_word}
use Rattle.spec_certificate_text.specs.OfProtocol.{IsShort, HasNames, IsSymbolOf, most_side_variables}
use Rattle.spec_certificate_text.specs.Spelled.{IsWord}
use Rattle.spec_certificate_text.specs.Text.{numbers_text}
use Rattle.spec_certificate_text.specs.Words.{symbol_word, word_at}
use Rattle.spec_certificate_text.proofs.Names.{constructor_word, free_word, symbol_word_is_word, restriction_word_is_word, variable_is_word, decimal_digits}
use Rattle.spec_certificate_text.proofs.Runs.{run_apart}
use Rattle.spec_certificate_text.specs.Names.{Named, symbol_called}
use Rattle.spec_certificate_text.specs.Outcomes.{Found, next, front, read_fixed, read_number}
use Rattle.spec_certificate_text.proofs.Called.{free_called, constructor_called, point_called}
use Rattle.spec_certificate_text.proofs.Parts.{Finds, joined, when_false, other_byte, fixed_found}
use Rattle.spec_certificate_faults.specs.Grammar.{EndsAt}
use Rattle.spec_first_faults.specs.Kinds.{IsRun}
use Rattle.spec_first_faults.proofs.Numbers.{number_found_so}
use Rattle.spec_node_tables.specs.Nodes.{Variable, Over}
use Rattle.spec_node_tables.specs.Text.{node_text}
use Rattle.spec_node_faults.proofs.Meant as meant
use Rattle.spec_node_faults.proofs.Meant.{VariableWord, word_of_variable}
use Rattle.spec_node_reading.specs.Nodes.{heads, spaced_numbers, bodies}
use Rattle.spec_node_reading.specs.ReadNodes.{HeadRead, IsVariable, Names, read_bound, read_head, lower_number, read_spaced, read_body}
use Rattle.spec_node_first_faults.proofs.HeadWords.{Alone, AtPoint, tails, starts_point, decimal_there, stops_from}
use Rattle.spec_node_first_faults.proofs.NodeNumbers.{lower_read}
use Rattle.spec_node_first_faults.proofs.NodeSpaced.{ends_behind, long_text, no_space, numbers_are_read}
use Rattle.spec_node_first_faults.proofs.NodeHeads.{starts_word, judge_head, head_found, tuple_found, variable_right, symbol_right, name_right}
use Rattle.spec_node_first_faults.proofs.NodeBodies.{attacker_of, with_numbers, starts_at, starts_bound, head_front}

-- a symbol of the protocol, which takes so many arguments
abbrev pub Takes : Protocol → Sym → ℕ → Type 0
Takes P (Tuple parts) arity = arity ≡ 0
Takes P Attacker arity = arity ≡ 1
Takes P f arity = IsSymbolOf P f arity

abbrev pub head_of : Sym → ℕ → HeadRead
head_of (Tuple parts) arity = Names record { symbol = Tuple 0; arity = 0 }
head_of f arity = Names record { symbol = f; arity = arity }

module _ (P : Protocol) (names : HasNames P) (own : ℕ) where
  -- the head ends before its numbers, and behind these ends the text
  record HeadEnds (head : HeadRead) (bytes : List ℕ) (ns rest : List ℕ) : Type 0 where
    read : (at : ℕ) → Finds (read_head P bytes at) head (numbers_text ns rest)
    numbers : (spaced_numbers own).Text (numbers_text ns rest) rest

  word_starts : (w k : List ℕ) → IsWord w → starts_word P (w ++ k) ≡ true
  word_starts [] k is = absurd (let never : false ≡ true = is.begins in cc)
  word_starts (b ∷ w) k is = is.begins

  no_tuple : (w k mid : List ℕ) → IsWord w → w ++ k ≡ 40 ∷ 41 ∷ mid → ⊥
  no_tuple w k mid is e = let never : true ≡ false = sym (word_starts w k is) ∙ ap (starts_word P) e in cc

  -- behind a word that ends stands no point, or it stands there
  data TailStands (mid rest : List ℕ) : Type 0 where
    no_point : starts_point mid ≡ false → EndsAt is_in_word mid → (spaced_numbers own).Text mid rest → TailStands mid rest
    point : (inner end : List ℕ) → mid ≡ 64 ∷ inner → IsRun is_ascii_digit is_ascii_digit inner end → (spaced_numbers own).Text end rest → TailStands mid rest

  tail_of : (mid end rest : List ℕ) → EndsAt is_in_word mid → tails.Text mid end → (spaced_numbers own).Text end rest → TailStands mid rest
  tail_of mid end rest ends (inl (inner, opens, run)) numbers = point inner end opens run numbers
  tail_of mid end rest ends (inr (same, point_ends)) numbers = no_point (by mid (subst (EndsAt (λ b. b == 64)) (sym same) point_ends)) ends (subst (λ k. (spaced_numbers own).Text k rest) (sym same) numbers)
    where
      by : (k : List ℕ) → EndsAt (λ b. b == 64) k → starts_point k ≡ false
      by [] e = absurd e
      by (b ∷ k) e = e

  run_long : (inner end : List ℕ) → IsRun is_ascii_digit is_ascii_digit inner end → length end ≤ length inner
  run_long inner end run = omega (arith, ap length run.text, length-append run.run end)

  -- the parts of a text that a word begins: behind the word it goes on so
  parts_of : (w k rest mid : List ℕ) → IsWord w → (heads P).Text (w ++ k) mid → (spaced_numbers own).Text mid rest → ((end : List ℕ) → IsRun begins_word is_in_word (w ++ k) end → length rest ≤ length end → end ≡ k) → TailStands k rest
  parts_of w k rest mid is (inr text) numbers ends = absurd (no_tuple w k mid is text)
  parts_of w k rest mid is (inl (end, run, tail)) numbers ends =
      let less = long_text own mid rest numbers in
      let same = ends end run (by tail less) in
      subst (λ l. TailStands l rest) same (tail_of end mid rest run.ends tail numbers)
    where
      by : tails.Text end mid → length rest ≤ length mid → length rest ≤ length end
      by (inl (inner, opens, digits)) less = let shorter = run_long inner mid digits in omega (arith, less, shorter, ap length opens)
      by (inr (same, point_ends)) less = omega (arith, less, ap length same)

  -- a word alone, over numbers
  word_ends : (w ns rest mid : List ℕ) (named : HeadRead) → IsWord w → (heads P).Text (w ++ numbers_text ns rest) mid → (spaced_numbers own).Text mid rest
      → ((spaced : Bool) → (front (numbers_text ns rest) == 32) ≡ spaced → (ns ≡ [] → spaced ≡ false) → judge_head P (Alone w spaced) ≡ inr named) → HeadEnds named (w ++ numbers_text ns rest) ns rest
  word_ends w ns rest mid named is head numbers judged =
      by (parts_of w (numbers_text ns rest) rest mid is head numbers (λ end run long. ends_behind own is_in_word begins_word w ns rest end is.goes_on refl run long))
    where
      k : List ℕ
      k = numbers_text ns rest

      none_spaced : (ms : List ℕ) → (spaced_numbers own).Text (numbers_text ms rest) rest → ms ≡ [] → (front (numbers_text ms rest) == 32) ≡ false
      none_spaced [] text none = no_space own rest text
      none_spaced (m ∷ ms) text none = absurd (cc)

      -- no point stands before numbers, and none before their end
      no_point_there : (ms inner end : List ℕ) → numbers_text ms rest ≡ 64 ∷ inner → IsRun is_ascii_digit is_ascii_digit inner end → (spaced_numbers own).Text end rest → ⊥
      no_point_there [] inner end opens run text = let less = long_text own end rest text in let shorter = run_long inner end run in omega (arith, less, shorter, ap length opens)
      no_point_there (m ∷ ms) inner end opens run text = let never : false ≡ true = ap starts_point opens in cc

      by : TailStands (numbers_text ns rest) rest → HeadEnds named (w ++ numbers_text ns rest) ns rest
      by (point inner end opens run text) = absurd (no_point_there ns inner end opens run text)
      by (no_point other ends text) = record {
        read = λ at. head_found P (w ++ numbers_text ns rest) at (Alone w (front (numbers_text ns rest) == 32)) named (numbers_text ns rest) record { is_word = is; text = refl; ends = ends; no_point = other; space = refl }
            (judged (front (numbers_text ns rest) == 32) refl (none_spaced ns text)) (word_starts w (numbers_text ns rest) is);
        numbers = text;
      }

  symbol_ends : (w ns rest mid : List ℕ) (named : Named) → IsWord w → is_variable w ≡ false → symbol_called P w ≡ Some named → (heads P).Text (w ++ numbers_text ns rest) mid → (spaced_numbers own).Text mid rest → HeadEnds (Names named) (w ++ numbers_text ns rest) ns rest
  symbol_ends w ns rest mid named is other called head numbers = word_ends w ns rest mid (Names named) is head numbers (λ spaced so none. symbol_right P w spaced named other called)

  variable_ends : (x : ℕ) (rest mid : List ℕ) → IsShort x → (heads P).Text ((118 ∷ decimal x) ++ rest) mid → (spaced_numbers own).Text mid rest → HeadEnds (IsVariable x) ((118 ∷ decimal x) ++ rest) [] rest
  variable_ends x rest mid short head numbers =
      word_ends (118 ∷ decimal x) [] rest mid (IsVariable x) (variable_is_word x short) head numbers
      (λ spaced so none. subst (λ t. judge_head P (Alone (118 ∷ decimal x) t) ≡ inr (IsVariable x)) (sym (none refl)) (variable_right P x short))

  point_ends : (p n : ℕ) (ns rest mid : List ℕ) → IsSymbolOf P (Point p) n → (heads P).Text (word_at P p ++ (64 ∷ (decimal p ++ numbers_text ns rest))) mid → (spaced_numbers own).Text mid rest
      → HeadEnds (Names record { symbol = Point p; arity = n }) (word_at P p ++ (64 ∷ (decimal p ++ numbers_text ns rest))) ns rest
  point_ends p n ns rest mid is head numbers =
      let inner = decimal p ++ numbers_text ns rest in
      let w = word_at P p in
      let is_word = restriction_word_is_word P p n names is.0 in
      by is_word (parts_of w (64 ∷ inner) rest mid is_word head numbers (λ end run long. sym (run_apart is_in_word w run.run (64 ∷ inner) end is_word.goes_on run.all refl (stops_from is_in_word end run.ends) run.text).rest))
    where
      by : IsWord (word_at P p) → TailStands (64 ∷ (decimal p ++ numbers_text ns rest)) rest → HeadEnds (Names record { symbol = Point p; arity = n }) (word_at P p ++ (64 ∷ (decimal p ++ numbers_text ns rest))) ns rest
      by is_word (no_point other ends text) = absurd (let never : true ≡ false = other in cc)
      by is_word (point inner end opens run text) =
          let there : decimal p ++ numbers_text ns rest ≡ inner = cc in
          let digits : IsRun is_ascii_digit is_ascii_digit (decimal p ++ numbers_text ns rest) end = subst (λ bs. IsRun is_ascii_digit is_ascii_digit bs end) (sym there) run in
          let same = ends_behind own is_ascii_digit is_ascii_digit (decimal p) ns rest end (decimal_digits p is.1) refl digits (long_text own end rest text) in
          let ends : EndsAt is_ascii_digit (numbers_text ns rest) = subst (EndsAt is_ascii_digit) same digits.ends in
          let named : Named = record { symbol = Point p; arity = n } in
          record {
            read = λ at. head_found P (word_at P p ++ (64 ∷ (decimal p ++ numbers_text ns rest))) at (AtPoint (word_at P p) p) (Names named) (numbers_text ns rest)
                record { is_word = is_word; mid = decimal p ++ numbers_text ns rest; text = refl; number = decimal_there p (numbers_text ns rest) is.1 ends } (name_right P (word_at P p) p named (point_called P p n is.0)) (word_starts (word_at P p) (64 ∷ (decimal p ++ numbers_text ns rest)) is_word);
            numbers = subst (λ l. (spaced_numbers own).Text l rest) same text;
          }

  tuple_ends : (ns rest mid : List ℕ) → (heads P).Text (40 ∷ 41 ∷ numbers_text ns rest) mid → (spaced_numbers own).Text mid rest → HeadEnds (Names record { symbol = Tuple 0; arity = 0 }) (40 ∷ 41 ∷ numbers_text ns rest) ns rest
  tuple_ends ns rest mid (inl (end, run, tail)) numbers = absurd (by run.run run.some run.begin run.text)
    where
      by : (w : List ℕ) → 1 ≤ length w → begins_word (front w) ≡ true → 40 ∷ 41 ∷ numbers_text ns rest ≡ w ++ end → ⊥
      by [] some begin text = omega (arith, some)
      by (b ∷ w) some begin text = let first : 40 ≡ b = cc in let never : false ≡ true = ap begins_word first ∙ begin in cc
  tuple_ends ns rest mid (inr text) numbers =
      let same : numbers_text ns rest ≡ mid = cc in
      record { read = λ at. tuple_found P (numbers_text ns rest) at; numbers = subst (λ l. (spaced_numbers own).Text l rest) (sym same) numbers }

  -- The whole.

  abbrev AreLower : List ℕ → Type 0
  AreLower ns = AllByRecursion (λ n. IsShort n × (1 ≤ n) × (n < own)) ns

  abbrev BodyFound : HeadRead → List ℕ → List ℕ → List ℕ → Type 0
  BodyFound head bytes ns rest = (at : ℕ) → Finds (read_body P own bytes at) (with_numbers head ns) rest

  other_found : (head : HeadRead) (bytes ns rest : List ℕ) → starts_at bytes ≡ false → starts_bound bytes ≡ false → AreLower ns → HeadEnds head bytes ns rest → BodyFound head bytes ns rest
  other_found head bytes ns rest other no_bound lower ends at =
      let first = next (read_fixed (codes "@ ") bytes at) (λ _ p r. next (lower_number own r p) (λ n p r. Found (attacker_of n) p r)) in
      let second = next (read_bound (drop 1 bytes) (at + 1)) (λ h p r. Found (with_numbers h []) p r) in
      let third = next (read_head P bytes at) (λ h p r. next (read_spaced own r p) (λ ms p r. Found (with_numbers h ms) p r)) in
      when_false (starts_at bytes) first (if starts_bound bytes then second else third) (with_numbers head ns) rest other
      (when_false (starts_bound bytes) second third (with_numbers head ns) rest no_bound
      (joined (read_head P bytes at) (λ h p r. next (read_spaced own r p) (λ ms p r. Found (with_numbers h ms) p r)) head (numbers_text ns rest) (with_numbers head ns) rest (ends.read at)
      (λ p. joined (read_spaced own (numbers_text ns rest) p) (λ ms p r. Found (with_numbers head ms) p r) ns rest (with_numbers head ns) rest (numbers_are_read own ns rest p lower ends.numbers) (λ q. record { place = q; is = refl }))))

  attacker_found : (n : ℕ) (rest : List ℕ) → IsShort n → 1 ≤ n → n < own → (bodies P own).Text (64 ∷ 32 ∷ (decimal n ++ rest)) rest → BodyFound (Names record { symbol = Attacker; arity = 1 }) (64 ∷ 32 ∷ (decimal n ++ rest)) (n ∷ []) rest
  attacker_found n rest short some below (inr (inl (mid, opens, run))) at = absurd (let never : true ≡ false = ap starts_at opens in cc)
  attacker_found n rest short some below (inr (inr (mid, head, numbers))) at = absurd (let never : true ≡ false = head_front P 64 refl refl (64 ∷ 32 ∷ (decimal n ++ rest)) mid head in cc)
  attacker_found n rest short some below (inl (mid, opens, run)) at =
      let inner = decimal n ++ rest in
      let there : inner ≡ mid = cc in
      let ends : EndsAt is_ascii_digit rest = run.ends in
      joined (read_fixed (codes "@ ") (64 ∷ 32 ∷ inner) at) (λ _ p r. next (lower_number own r p) (λ n p r. Found (attacker_of n) p r)) tt inner (attacker_of n) rest (fixed_found (codes "@ ") inner at)
      (λ p. joined (lower_number own inner p) (λ n p r. Found (attacker_of n) p r) n rest (attacker_of n) rest (lower_read own n rest p short some below ends) (λ q. record { place = q; is = refl }))

  -- what stands behind the head and the numbers of a node that begins neither with `@` nor with `?`
  other_text : (bytes rest : List ℕ) → starts_at bytes ≡ false → starts_bound bytes ≡ false → (bodies P own).Text bytes rest → (mid : List ℕ) × (heads P).Text bytes mid × (spaced_numbers own).Text mid rest
  other_text bytes rest other no_bound (inl (mid, opens, run)) = absurd (let never : true ≡ false = sym (ap starts_at opens) ∙ other in cc)
  other_text bytes rest other no_bound (inr (inl (mid, opens, run))) = absurd (let never : true ≡ false = sym (ap starts_bound opens) ∙ no_bound in cc)
  other_text bytes rest other no_bound (inr (inr text)) = text

  -- no word begins with a byte that begins none
  no_front : (w k : List ℕ) (b : ℕ) → begins_word b ≡ false → IsWord w → (front (w ++ k) == b) ≡ false
  no_front [] k b none is = absurd (let never : false ≡ true = is.begins in cc)
  no_front (c ∷ w) k b none is = other_byte c b (λ same. let never : false ≡ true = sym none ∙ (ap begins_word (sym same) ∙ is.begins) in cc)

  symbol_found : (w ns rest : List ℕ) (named : Named) → IsWord w → is_variable w ≡ false → symbol_called P w ≡ Some named → AreLower ns → (bodies P own).Text (w ++ numbers_text ns rest) rest → BodyFound (Names named) (w ++ numbers_text ns rest) ns rest
  symbol_found w ns rest named is other called lower text =
      let no_at = no_front w (numbers_text ns rest) 64 refl is in
      let no_bound = no_front w (numbers_text ns rest) 63 refl is in
      let (mid, head, numbers) = other_text (w ++ numbers_text ns rest) rest no_at no_bound text in
      other_found (Names named) (w ++ numbers_text ns rest) ns rest no_at no_bound lower (symbol_ends w ns rest mid named is other called head numbers)

  own_body : (x : ℕ) (rest : List ℕ) → IsShort x → (bodies P own).Text ((118 ∷ decimal x) ++ rest) rest → BodyFound (IsVariable x) ((118 ∷ decimal x) ++ rest) [] rest
  own_body x rest short text =
      let (mid, head, numbers) = other_text ((118 ∷ decimal x) ++ rest) rest refl refl text in
      other_found (IsVariable x) ((118 ∷ decimal x) ++ rest) [] rest refl refl tt (variable_ends x rest mid short head numbers)

  bound_body : (i : ℕ) (rest : List ℕ) → IsShort i → (bodies P own).Text ((63 ∷ decimal i) ++ rest) rest → BodyFound (IsVariable (first_bound + i)) ((63 ∷ decimal i) ++ rest) [] rest
  bound_body i rest short (inl (mid, opens, run)) at = absurd (let never : false ≡ true = ap starts_at opens in cc)
  bound_body i rest short (inr (inr (mid, head, numbers))) at = absurd (let never : true ≡ false = head_front P 63 refl refl ((63 ∷ decimal i) ++ rest) mid head in cc)
  bound_body i rest short (inr (inl (mid, opens, run))) at =
      let inner = decimal i ++ rest in
      let head : HeadRead = IsVariable (first_bound + i) in
      let ends : EndsAt is_ascii_digit rest = run.ends in
      let stands = decimal_there i rest short ends in
      let read = number_found_so inner rest (at + 1) i stands.digits stands.short stands.is in
      joined (read_bound inner (at + 1)) (λ h p r. Found (with_numbers h []) p r) head rest (with_numbers head []) rest
      (joined (read_number inner (at + 1)) (λ j p r. Found (IsVariable (first_bound + j)) p r) i rest head rest record { place = read.0; is = read.1 } (λ p. record { place = p; is = refl })) (λ p. record { place = p; is = refl })

  -- a variable, which may be a bound one
  pub variable_body : (x : ℕ) (rest : List ℕ) → x < most_side_variables → (bodies P own).Text (node_text P (Variable x) rest) rest → BodyFound (IsVariable x) (node_text P (Variable x) rest) [] rest
  variable_body x rest below text = by (word_of_variable x below)
    where
      by : VariableWord x → BodyFound (IsVariable x) (variable_word x ++ rest) [] rest
      by (meant.own short word) = subst (λ w. BodyFound (IsVariable x) (w ++ rest) [] rest) (sym word) (own_body x rest short (subst (λ w. (bodies P own).Text (w ++ rest) rest) word text))
      by (meant.bound i short same word) =
          subst (λ w. BodyFound (IsVariable x) (w ++ rest) [] rest) (sym word)
          (subst (λ y. BodyFound (IsVariable y) ((63 ∷ decimal i) ++ rest) [] rest) same (bound_body i rest short (subst (λ w. (bodies P own).Text (w ++ rest) rest) word text)))

  pub symbol_body : (f : Sym) (arity : ℕ) (ns rest : List ℕ) → Takes P f arity → AreLower ns → (f ≡ Attacker → length ns ≡ 1) → (bodies P own).Text (node_text P (Over f ns) rest) rest → BodyFound (head_of f arity) (node_text P (Over f ns) rest) ns rest
  symbol_body (Ctor f) arity ns rest is lower one text =
      let word = constructor_word P false f arity names is in
      symbol_found (symbol_word P (Ctor f)) ns rest record { symbol = Ctor f; arity = arity } (symbol_word_is_word (symbol_word P (Ctor f)) word) word.1 (constructor_called P names false f arity is) lower text
  symbol_body (Data f) arity ns rest is lower one text =
      let word = constructor_word P true f arity names is in
      symbol_found (symbol_word P (Data f)) ns rest record { symbol = Data f; arity = arity } (symbol_word_is_word (symbol_word P (Data f)) word) word.1 (constructor_called P names true f arity is) lower text
  symbol_body (Free a) arity ns rest is lower one text =
      let word = free_word P a names is.0 in
      symbol_found (symbol_word P (Free a)) ns rest record { symbol = Free a; arity = arity } (symbol_word_is_word (symbol_word P (Free a)) word) word.1 (free_called P names a is.0 ∙ ap (λ n. Some record { symbol = Free a; arity = n }) (sym is.1)) lower text
  symbol_body (Point p) arity ns rest is lower one text =
      let w = word_at P p in
      let bytes = w ++ (64 ∷ (decimal p ++ numbers_text ns rest)) in
      let word = restriction_word_is_word P p arity names is.0 in
      let no_at = no_front w (64 ∷ (decimal p ++ numbers_text ns rest)) 64 refl word in
      let no_bound = no_front w (64 ∷ (decimal p ++ numbers_text ns rest)) 63 refl word in
      let (mid, head, numbers) = other_text bytes rest no_at no_bound text in
      other_found (Names record { symbol = Point p; arity = arity }) bytes ns rest no_at no_bound lower (point_ends p arity ns rest mid is head numbers)
  symbol_body (Tuple m) arity ns rest is lower one text =
      let (mid, head, numbers) = other_text (40 ∷ 41 ∷ numbers_text ns rest) rest refl refl text in
      other_found (Names record { symbol = Tuple 0; arity = 0 }) (40 ∷ 41 ∷ numbers_text ns rest) ns rest refl refl lower (tuple_ends ns rest mid head numbers)
  symbol_body Attacker arity ns rest is lower one text = by ns lower (one refl) text
    where
      by : (ms : List ℕ) → AreLower ms → length ms ≡ 1 → (bodies P own).Text (64 ∷ numbers_text ms rest) rest → BodyFound (Names record { symbol = Attacker; arity = arity }) (64 ∷ numbers_text ms rest) ms rest
      by [] l e t = absurd (omega (arith, e))
      by (n ∷ []) l e t = subst (λ k. BodyFound (Names record { symbol = Attacker; arity = k }) (64 ∷ 32 ∷ (decimal n ++ rest)) (n ∷ []) rest) (sym is) (attacker_found n rest l.0.0 l.0.1 l.0.2 t)
      by (m ∷ n ∷ ms) l e t = absurd (omega (arith, e))
