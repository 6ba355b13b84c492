-- Nodes that were read are what the bytes begin with, and stand in the order of a table.
use Rattle.std.proofs.Common.{◌≡◌, ℕ, zero, suc, ◌+◌, ◌-◌, ◌<◌, ◌≤◌, ◌==◌, ◌&&◌, ◌||◌, not, nat_le, if◌then◌else◌, Bool, true, false, List, [], ◌∷◌, ◌++◌, length, take, drop, Option, Some, None, codes, refl, sym, ◌∙◌, ap, subst, arith, append_assoc}
use Rattle.std.specs.Fmt.{decimal}
use Rattle.std.specs.List.{AllByRecursion, list_any, prefix_len}
use Rattle.std.proofs.lemmas.List.{take-append-drop}
use Rattle.std.proofs.lemmas.Bool.Decides.{nat_tests}
use Rattle.spec_trees.specs.Tree.{size}
use Rattle.spec_calculus.specs.Bounds.{most_symbols, most_arguments}
use Rattle.spec_calculus.specs.Syntax.{Protocol}
use Rattle.spec_protocol_tokens.specs.Bytes.{begins_word, is_in_word}
use Rattle.spec_protocol_scope.specs.Names.{is_variable}
use Rattle.spec_run_text.specs.Reading.{numeral}
use Rattle.spec_run_text.proofs.Numbers.{numeral_some}
use Rattle.spec_terms.specs.Term.{Sym, Ctor, Data, Tuple, Free, Point, Attacker, Term}
use Rattle.spec_clauses.specs.Fact.{same_term}
use Rattle.spec_clauses.proofs.Lists.{all_append}
use Rattle.spec_certificate_text.specs.Sides.{first_bound, variable_word}
use Rattle.spec_certificate_text.specs.Words.{symbol_word, word_at}
use Rattle.spec_certificate_text.specs.Text.{numbers_text}
use Rattle.spec_certificate_text.specs.OfProtocol.{IsShort, IsSymbolOf, IsRestriction}
use Rattle.spec_certificate_text.specs.Names.{Named, symbol_called, name_called}
use Rattle.spec_certificate_text.specs.Terms.{Arity, Count, NodeOrder, NodeLarge}
use Rattle.spec_certificate_text.specs.Steps.{with_parts}
use Rattle.spec_certificate_text.specs.Outcomes.{Outcome, Found, Faulty, next, front, ended, read_fixed, read_number}
use Rattle.spec_certificate_text.proofs.Parts.{parts, chosen, equal_byte, front_is, fixed_there, ended_found, number_there}
use Rattle.spec_certificate_text.proofs.Named.{IsWorded, symbol_called_is, name_called_is}
use Rattle.spec_certificate_text.proofs.Sides.{own_word, bound_word}
use Rattle.spec_certificate_text.proofs.SoundWords.{variable_rest}
use Rattle.spec_node_tables.specs.Nodes.{TableNode, term_of, terms_from}
use Rattle.spec_node_tables.specs.Text.{symbol_head, head_text, node_numbers, node_text, node_lines}
use Rattle.spec_node_tables.specs.OfProtocol.{IsNodeOf}
use Rattle.spec_node_tables.specs.Large.{is_over}
use Rattle.spec_node_tables.specs.Order.{IsNumberOf, StandInOrder}
use Rattle.spec_node_reading.specs.Nodes.{own_number}
use Rattle.spec_node_reading.specs.Loops.{lines_through}
use Rattle.spec_node_reading.specs.ReadNodes.{HeadRead, IsVariable, Names, as_variable, read_bound, as_symbol, word_head, read_head, lower_number, spaced_number, read_spaced, NodeRead, read_body, may_take, takes, node_read, judged_node, read_node_line}

-- What a head is that was read: `word` is what stands before its numbers.

module _ (P : Protocol) where
  -- a symbol over as many numbers as it may have has this text, and is of the protocol
  abbrev SymbolIs : Named → (List ℕ → List ℕ) → Type 0
  SymbolIs named text = (n : ℕ) → may_take named.symbol named.arity n ≡ true → ((rest : List ℕ) → head_text (symbol_head P (with_parts named.symbol n)) rest ≡ text rest) × IsSymbolOf P (with_parts named.symbol n) n

  abbrev HeadIs : HeadRead → (List ℕ → List ℕ) → Type 0
  HeadIs (IsVariable x) text = IsShort x × ((rest : List ℕ) → text rest ≡ 118 ∷ (decimal x ++ rest))
  HeadIs (Names named) text = SymbolIs named text

  record HeadThere (bytes : List ℕ) (head : HeadRead) (rest : List ℕ) : Type 0 where
    text : List ℕ → List ℕ
    is : HeadIs head text
    there : bytes ≡ text rest
    no_numbers : (x : ℕ) → head ≡ IsVariable x → (front rest == 32) ≡ false

  same_number : (n m : ℕ) → (n == m) ≡ true → n ≡ m
  same_number n m e = grind (arith, nat_tests)

  plain_is : (named : Named) (word : List ℕ) → IsWorded named.symbol → symbol_word P named.symbol ≡ word → IsSymbolOf P named.symbol named.arity → SymbolIs named (λ rest. word ++ rest)
  plain_is named word worded has is n takes_so = by named.symbol worded has is takes_so
    where
      by : (f : Sym) → IsWorded f → symbol_word P f ≡ word → IsSymbolOf P f named.arity → may_take f named.arity n ≡ true → ((rest : List ℕ) → head_text (symbol_head P (with_parts f n)) rest ≡ word ++ rest) × IsSymbolOf P (with_parts f n) n
      by (Ctor f) worded has is fits = ((λ rest. ap (λ w. w ++ rest) has), subst (IsSymbolOf P (Ctor f)) (sym (same_number n named.arity fits)) is)
      by (Data f) worded has is fits = ((λ rest. ap (λ w. w ++ rest) has), subst (IsSymbolOf P (Data f)) (sym (same_number n named.arity fits)) is)
      by (Free a) worded has is fits = ((λ rest. ap (λ w. w ++ rest) has), subst (IsSymbolOf P (Free a)) (sym (same_number n named.arity fits)) is)
      by (Tuple m) worded has is fits = absurd worded
      by (Point p) worded has is fits = absurd worded
      by Attacker worded has is fits = absurd worded

  point_is : (named : Named) (word : List ℕ) (point : ℕ) → named.symbol ≡ Point point → word_at P point ≡ word → IsRestriction P point named.arity → IsShort point → SymbolIs named (λ rest. word ++ (64 ∷ (decimal point ++ rest)))
  point_is named word point same has is short n takes_so =
      subst (λ f. may_take f named.arity n ≡ true → ((rest : List ℕ) → head_text (symbol_head P (with_parts f n)) rest ≡ word ++ (64 ∷ (decimal point ++ rest))) × IsSymbolOf P (with_parts f n) n) (sym same)
      (λ fits. ((λ rest. ap (λ w. w ++ (64 ∷ (decimal point ++ rest))) has), (subst (IsRestriction P point) (sym (same_number n named.arity fits)) is, short))) takes_so

  both_true : (a b : Bool) → (a && b) ≡ true → (a ≡ true) × (b ≡ true)
  both_true true b e = (refl, e)
  both_true false b e = absurd (cc)

  tuple_is : SymbolIs (record { symbol = Tuple 0; arity = 0 }) (λ rest. 40 ∷ 41 ∷ rest)
  tuple_is n fits =
      let (least, most) = both_true (nat_le 2 n) (nat_le n most_arguments) fits in
      ((λ rest. refl), (refl, grind (arith, nat_tests, least), grind (arith, nat_tests, most)))

  attacker_is : SymbolIs (record { symbol = Attacker; arity = 1 }) (λ rest. 64 ∷ rest)
  attacker_is n fits = ((λ rest. refl), same_number n 1 fits)

  -- behind a word
  point_there : (word : List ℕ) (from : ℕ) (bytes rest : List ℕ) (at : ℕ) (head : HeadRead) (p : ℕ) (r : List ℕ) → bytes ≡ word ++ (64 ∷ rest) → next (read_number rest at) (λ point q k. as_symbol from (name_called P word point) q k) ≡ Found head p r → HeadThere bytes head r
  point_there word from bytes rest at head p r text e =
      let cut = parts (read_number rest at) (λ point q k. as_symbol from (name_called P word point) q k) head p r e in
      let there = number_there rest at cut.value cut.place cut.rest cut.first in
      by cut.value cut.place cut.rest (name_called P word cut.value) refl cut.later there.text there.is
    where
      by : (point q : ℕ) (k : List ℕ) (o : Option Named) → name_called P word point ≡ o → as_symbol from o q k ≡ Found head p r → rest ≡ decimal point ++ k → IsShort point → HeadThere bytes head r
      by point q k None is told digits short = absurd (cc)
      by point q k (Some named) is told digits short =
          let so = name_called_is P word point named is in
          let made : Names named ≡ head = cc in
          let rests : k ≡ r = cc in
          subst (λ h. HeadThere bytes h r) made record {
            text = λ s. word ++ (64 ∷ (decimal point ++ s));
            is = point_is named word point so.symbol so.has_word so.is_of short;
            there = text ∙ ap (λ s. word ++ (64 ∷ s)) (digits ∙ ap (λ s. decimal point ++ s) rests);
            no_numbers = λ x never. absurd (cc);
          }

  symbol_there : (word : List ℕ) (from : ℕ) (bytes k : List ℕ) (q : ℕ) (head : HeadRead) (p : ℕ) (r : List ℕ) → bytes ≡ word ++ k → (o : Option Named) → symbol_called P word ≡ o → as_symbol from o q k ≡ Found head p r → HeadThere bytes head r
  symbol_there word from bytes k q head p r text None is told = absurd (cc)
  symbol_there word from bytes k q head p r text (Some named) is told =
      let so = symbol_called_is P word named is in
      let made : Names named ≡ head = cc in
      let rests : k ≡ r = cc in
      subst (λ h. HeadThere bytes h r) made record {
        text = λ s. word ++ s;
        is = plain_is named word so.worded so.has_word so.is_of;
        there = text ∙ ap (λ s. word ++ s) rests;
        no_numbers = λ x never. absurd (cc);
      }

  variable_there : (word : List ℕ) (from : ℕ) (bytes k : List ℕ) (q : ℕ) (head : HeadRead) (p : ℕ) (r : List ℕ) → bytes ≡ word ++ k → is_variable word ≡ true → (front k == 32) ≡ false → (o : Option ℕ) → numeral (drop 1 word) ≡ o → as_variable from o q k ≡ Found head p r → HeadThere bytes head r
  variable_there word from bytes k q head p r text is other None digits told = absurd (cc)
  variable_there word from bytes k q head p r text is other (Some x) digits told =
      let so = numeral_some (drop 1 word) x digits in
      let made : IsVariable x ≡ head = cc in
      let rests : k ≡ r = cc in
      subst (λ h. HeadThere bytes h r) made record {
        text = λ s. 118 ∷ (decimal x ++ s);
        is = (so.1, (λ s. refl));
        there = text ∙ (ap (λ w. w ++ k) (variable_rest word is ∙ ap (λ ds. 118 ∷ ds) so.0) ∙ ap (λ s. 118 ∷ (decimal x ++ s)) rests);
        no_numbers = λ y same. ap (λ s. front s == 32) (sym rests) ∙ other;
      }

  word_there : (word : List ℕ) (from q : ℕ) (bytes k : List ℕ) (head : HeadRead) (p : ℕ) (r : List ℕ) → bytes ≡ word ++ k → word_head P word from q k ≡ Found head p r → HeadThere bytes head r
  word_there word from q bytes k head p r text e =
      let point = next (read_number (drop 1 k) (q + 1)) (λ point q k. as_symbol from (name_called P word point) q k) in
      let alone = is_variable word && not (front k == 32) in
      let symbol = as_symbol from (symbol_called P word) q k in
      chosen (front k == 64) point (if alone then as_variable from (numeral (drop 1 word)) q k else symbol) head p r (HeadThere bytes head r) e
      (λ is told. point_there word from bytes (drop 1 k) (q + 1) head p r (text ∙ ap (λ s. word ++ s) (front_is k 64 (equal_byte (front k) 64 is) (λ never. absurd (cc)))) told)
      (λ isnt other. chosen alone (as_variable from (numeral (drop 1 word)) q k) symbol head p r (HeadThere bytes head r) other
      (λ variable told.
      let (is, none) = both_true (is_variable word) (not (front k == 32)) variable in
      variable_there word from bytes k q head p r text is (not_true (front k == 32) none) (numeral (drop 1 word)) refl told)
      (λ no_variable told. symbol_there word from bytes k q head p r text (symbol_called P word) refl told))
    where
      not_true : (b : Bool) → not b ≡ true → b ≡ false
      not_true true e = absurd (cc)
      not_true false e = refl

  head_there : (bytes : List ℕ) (at : ℕ) (head : HeadRead) (p : ℕ) (r : List ℕ) → read_head P bytes at ≡ Found head p r → HeadThere bytes head r
  head_there bytes at head p r e =
      let long = prefix_len is_in_word bytes in
      let named = word_head P (take long bytes) at (at + long) (drop long bytes) in
      let tuple : HeadRead = Names record { symbol = Tuple 0; arity = 0 } in
      chosen (begins_word (front bytes)) (ended (at + long) (drop long bytes) named) (next (read_fixed (codes "()") bytes at) (λ _ q k. Found tuple q k)) head p r (HeadThere bytes head r) e
      (λ begins told. word_there (take long bytes) at (at + long) bytes (drop long bytes) head p r (sym (take-append-drop long bytes)) (ended_found (at + long) (drop long bytes) named head p r told))
      (λ other told.
      let cut = parts (read_fixed (codes "()") bytes at) (λ _ q k. Found tuple q k) head p r told in
      let opens = fixed_there (codes "()") bytes at cut.value cut.place cut.rest cut.first in
      let made : tuple ≡ head = cc in
      let rests : cut.rest ≡ r = cc in
      subst (λ h. HeadThere bytes h r) made record { text = λ s. 40 ∷ 41 ∷ s; is = tuple_is; there = opens ∙ ap (λ s. 40 ∷ 41 ∷ s) rests; no_numbers = λ x never. absurd (cc) })

-- Numbers.

pub record LowerThere (own : ℕ) (bytes : List ℕ) (n : ℕ) (rest : List ℕ) : Type 0 where
  pub short : IsShort n
  pub text : bytes ≡ decimal n ++ rest
  pub some : 1 ≤ n
  pub below : n < own

pub lower_there : (own : ℕ) (bytes : List ℕ) (at n p : ℕ) (r : List ℕ) → lower_number own bytes at ≡ Found n p r → LowerThere own bytes n r
lower_there own bytes at n p r e =
    let cut = parts (read_number bytes at) (λ m q k. if (m == 0) || nat_le own m then Faulty at NodeOrder else Found m q k) n p r e in
    let there = number_there bytes at cut.value cut.place cut.rest cut.first in
    chosen ((cut.value == 0) || nat_le own cut.value) (Faulty at NodeOrder) (Found cut.value cut.place cut.rest) n p r (LowerThere own bytes n r) cut.later
    (λ wrong never. absurd (cc))
    (λ right end.
    let same : cut.value ≡ n = cc in
    let rests : cut.rest ≡ r = cc in
    let (some, below) = neither (cut.value == 0) (nat_le own cut.value) right in
    subst (λ m. LowerThere own bytes m r) same record { short = there.is; text = there.text ∙ ap (λ s. decimal cut.value ++ s) rests; some = grind (arith, nat_tests, some); below = grind (arith, nat_tests, below) })
  where
    neither : (a b : Bool) → (a || b) ≡ false → (a ≡ false) × (b ≡ false)
    neither true b e = absurd (cc)
    neither false b e = (refl, e)

pub record SpacedThere (own : ℕ) (bytes : List ℕ) (ns before : List ℕ) (rest : List ℕ) : Type 0 where
  pub others : List ℕ
  pub value : ns ≡ before ++ others
  pub short : AllByRecursion IsShort others
  pub below : AllByRecursion (λ n. (1 ≤ n) × (n < own)) others
  pub text : bytes ≡ numbers_text others rest
  pub none : (front bytes == 32) ≡ false → others ≡ []

module _ (own : ℕ) where
  abbrev read_more : ℕ → List ℕ → List ℕ → ℕ → Outcome (List ℕ)
  read_more most ns bytes at = lines_through 32 (spaced_number own) most ns bytes at

  spaced_more : (most : ℕ) (ns bytes : List ℕ) (at : ℕ) → read_more (suc most) ns bytes at ≡ (if front bytes == 32 then next (spaced_number own ns bytes at) (λ ms p k. read_more most ms k p) else Found ns at bytes)
  unfolding lines_through
  spaced_more most ns bytes at = refl

  spaced_full : (ns bytes : List ℕ) (at : ℕ) → read_more 0 ns bytes at ≡ (if front bytes == 32 then Faulty at Count else Found ns at bytes)
  unfolding lines_through
  spaced_full ns bytes at = refl

  no_spaced : (ms ns bytes rest : List ℕ) → ms ≡ ns → bytes ≡ rest → SpacedThere own bytes ns ms rest
  no_spaced ms ns bytes rest same rests = record { others = []; value = sym same ∙ sym (append_nil ms); short = tt; below = tt; text = rests; none = λ other. refl }
    where
      append_nil : (xs : List ℕ) → xs ++ [] ≡ xs
      append_nil [] = refl
      append_nil (x ∷ xs) = ap (λ ys. x ∷ ys) (append_nil xs)

  pub spaced_there : (most : ℕ) (ms bytes : List ℕ) (at : ℕ) (ns : List ℕ) (p : ℕ) (r : List ℕ) → read_more most ms bytes at ≡ Found ns p r → SpacedThere own bytes ns ms r
  spaced_there zero ms bytes at ns p r e =
      chosen (front bytes == 32) (Faulty at Count) (Found ms at bytes) ns p r (SpacedThere own bytes ns ms r) (sym (spaced_full ms bytes at) ∙ e) (λ is never. absurd (cc)) (λ isnt end. no_spaced ms ns bytes r (cc) (cc))
  spaced_there (suc most) ms bytes at ns p r e =
      chosen (front bytes == 32) (next (spaced_number own ms bytes at) (λ ms q k. read_more most ms k q)) (Found ms at bytes) ns p r (SpacedThere own bytes ns ms r) (sym (spaced_more most ms bytes at) ∙ e)
      (λ is goes.
      let cut = parts (spaced_number own ms bytes at) (λ ms q k. read_more most ms k q) ns p r goes in
      let begin = parts (read_fixed (codes " ") bytes at) (λ _ q k. next (lower_number own k q) (λ n q k. Found (ms ++ n ∷ []) q k)) cut.value cut.place cut.rest cut.first in
      let opens = fixed_there (codes " ") bytes at begin.value begin.place begin.rest begin.first in
      let end = parts (lower_number own begin.rest begin.place) (λ n q k. Found (ms ++ n ∷ []) q k) cut.value cut.place cut.rest begin.later in
      let one = lower_there own begin.rest begin.place end.value end.place end.rest end.first in
      let n = end.value in
      let made : ms ++ n ∷ [] ≡ cut.value = cc in
      let rests : end.rest ≡ cut.rest = cc in
      let others = spaced_there most cut.value cut.rest cut.place ns p r cut.later in
      record {
        others = n ∷ others.others;
        value = others.value ∙ (ap (λ xs. xs ++ others.others) (sym made) ∙ append_assoc ms (n ∷ []) others.others);
        short = (one.short, others.short);
        below = ((one.some, one.below), others.below);
        text = opens ∙ ap (λ s. 32 ∷ s) (one.text ∙ ap (λ s. decimal n ++ s) (rests ∙ others.text));
        none = λ other. absurd (let never : true ≡ false = sym is ∙ other in cc);
      })
      (λ isnt end. no_spaced ms ns bytes r (cc) (cc))

-- Whole nodes.

abbrev as_read : HeadRead → List ℕ → NodeRead
as_read head ns = record { head = head; numbers = ns }

module _ (P : Protocol) (before : List Term) where
  -- a node of the table that is new and within the limit
  pub record NodeThere (bytes : List ℕ) (after : List Term) (rest : List ℕ) : Type 0 where
    pub node : TableNode
    pub is : IsNodeOf P node
    pub below : AllByRecursion (IsNumberOf (length before)) (node_numbers node)
    pub new : AllByRecursion (λ t. same_term (term_of before node) t ≡ false) before
    pub small : size (term_of before node) ≤ most_symbols
    pub text : bytes ≡ 110 ∷ 32 ∷ node_text P node (10 ∷ rest)
    pub so : after ≡ before ++ (term_of before node ∷ [])

  -- what was read of a node: if it takes so many numbers, it is this
  record BodyThere (bytes : List ℕ) (x : NodeRead) (rest : List ℕ) : Type 0 where
    short : AllByRecursion IsShort x.numbers
    below : AllByRecursion (λ n. (1 ≤ n) × (n < own_number before)) x.numbers
    fits : takes x.head (length x.numbers) ≡ true → IsNodeOf P (node_read x.head x.numbers) × (bytes ≡ node_text P (node_read x.head x.numbers) rest)

  body_of : (head : HeadRead) (text : List ℕ → List ℕ) (ns bytes rest : List ℕ) → HeadIs P head text → bytes ≡ text (numbers_text ns rest) → AllByRecursion IsShort ns → ((x : ℕ) → head ≡ IsVariable x → ns ≡ []) → takes head (length ns) ≡ true
      → IsNodeOf P (node_read head ns) × (bytes ≡ node_text P (node_read head ns) rest)
  body_of (IsVariable x) text ns bytes rest is there short none fits =
      let own = is.0 in
      (omega (arith, own), there ∙ (is.1 (numbers_text ns rest) ∙ (ap (λ ms. 118 ∷ (decimal x ++ numbers_text ms rest)) (none x refl) ∙ ap (λ w. w ++ rest) (sym (own_word x own)))))
  body_of (Names named) text ns bytes rest is there short none fits =
      let so = is (length ns) fits in
      ((so.1, short), there ∙ sym (so.0 (numbers_text ns rest)))

  body_there : (bytes : List ℕ) (at : ℕ) (x : NodeRead) (p : ℕ) (r : List ℕ) → read_body P (own_number before) bytes at ≡ Found x p r → BodyThere bytes x r
  body_there bytes at x p r e =
      let attacker : HeadRead = Names record { symbol = Attacker; arity = 1 } in
      let own = own_number before in
      let first : Outcome NodeRead = next (read_fixed (codes "@ ") bytes at) (λ _ q k. next (lower_number own k q) (λ n q k. Found (as_read attacker (n ∷ [])) q k)) in
      let bound : Outcome NodeRead = next (read_bound (drop 1 bytes) (at + 1)) (λ head q k. Found (as_read head []) q k) in
      let second : Outcome NodeRead = next (read_head P bytes at) (λ head q k. next (read_spaced own k q) (λ ns q k. Found (as_read head ns) q k)) in
      chosen (front bytes == 64) first (if front bytes == 63 then bound else second) x p r (BodyThere bytes x r) e
      (λ is told.
      let cut = parts (read_fixed (codes "@ ") bytes at) (λ _ q k. next (lower_number own k q) (λ n q k. Found (as_read attacker (n ∷ [])) q k)) x p r told in
      let opens = fixed_there (codes "@ ") bytes at cut.value cut.place cut.rest cut.first in
      let end = parts (lower_number own cut.rest cut.place) (λ n q k. Found (as_read attacker (n ∷ [])) q k) x p r cut.later in
      let one = lower_there own cut.rest cut.place end.value end.place end.rest end.first in
      let made : as_read attacker (end.value ∷ []) ≡ x = cc in
      let rests : end.rest ≡ r = cc in
      subst (λ y. BodyThere bytes y r) made record {
        short = (one.short, tt);
        below = ((one.some, one.below), tt);
        fits = λ fits. body_of attacker (λ s. 64 ∷ s) (end.value ∷ []) bytes r (attacker_is P) (opens ∙ ap (λ s. 64 ∷ 32 ∷ s) (one.text ∙ ap (λ s. decimal end.value ++ s) rests)) (one.short, tt) (λ y never. absurd (cc)) fits;
      })
      (λ isnt other. chosen (front bytes == 63) bound second x p r (BodyThere bytes x r) other
      (λ is told.
      let cut = parts (read_bound (drop 1 bytes) (at + 1)) (λ head q k. Found (as_read head []) q k) x p r told in
      let number = parts (read_number (drop 1 bytes) (at + 1)) (λ i q k. Found (IsVariable (first_bound + i)) q k) cut.value cut.place cut.rest cut.first in
      let there = number_there (drop 1 bytes) (at + 1) number.value number.place number.rest number.first in
      let i = number.value in
      let y = first_bound + i in
      let short = there.is in
      let opens : bytes ≡ 63 ∷ drop 1 bytes = front_is bytes 63 (equal_byte (front bytes) 63 is) (λ never. absurd (cc)) in
      let head : IsVariable y ≡ cut.value = cc in
      let made : as_read cut.value [] ≡ x = cc in
      let whole : as_read (IsVariable y) [] ≡ x = ap (λ h. as_read h []) head ∙ made in
      let ends : number.rest ≡ cut.rest = cc in
      let rests : cut.rest ≡ r = cc in
      let back : y - first_bound ≡ i = omega arith in
      let word : variable_word y ≡ 63 ∷ decimal i = bound_word y (omega arith) ∙ ap (λ n. 63 ∷ decimal n) back in
      subst (λ z. BodyThere bytes z r) whole record {
        short = tt;
        below = tt;
        fits = λ fits. (omega (arith, short), opens ∙ (ap (λ s. 63 ∷ s) (there.text ∙ ap (λ s. decimal i ++ s) (ends ∙ rests)) ∙ ap (λ w. w ++ r) (sym word)));
      })
      (λ no_bound told.
      let cut = parts (read_head P bytes at) (λ head q k. next (read_spaced own k q) (λ ns q k. Found (as_read head ns) q k)) x p r told in
      let head = head_there P bytes at cut.value cut.place cut.rest cut.first in
      let numbers = parts (read_spaced own cut.rest cut.place) (λ ns q k. Found (as_read cut.value ns) q k) x p r cut.later in
      let all = parts (lines_through 32 (spaced_number own) (length cut.rest) [] cut.rest cut.place) (λ ns q k. ended q k (Found ns q k)) numbers.value numbers.place numbers.rest numbers.first in
      let end = ended_found all.place all.rest (Found all.value all.place all.rest) numbers.value numbers.place numbers.rest all.later in
      let there = spaced_there own (length cut.rest) [] cut.rest cut.place all.value all.place all.rest all.first in
      let values : all.value ≡ numbers.value = cc in
      let lasts : all.rest ≡ numbers.rest = cc in
      let made : as_read cut.value numbers.value ≡ x = cc in
      let rests : numbers.rest ≡ r = cc in
      let ns : there.others ≡ numbers.value = sym there.value ∙ values in
      subst (λ y. BodyThere bytes y r) made record {
        short = subst (AllByRecursion IsShort) ns there.short;
        below = subst (AllByRecursion (λ n. (1 ≤ n) × (n < own))) ns there.below;
        fits = λ fits. body_of cut.value head.text numbers.value bytes r head.is
            (head.there ∙ ap head.text (there.text ∙ (ap (numbers_text there.others) (lasts ∙ rests) ∙ ap (λ ms. numbers_text ms r) ns)))
            (subst (AllByRecursion IsShort) ns there.short) (λ y same. sym ns ∙ there.none (head.no_numbers y same)) fits;
      }))

  pub none_same : (t : Term) (us : List Term) → list_any (same_term t) us ≡ false → AllByRecursion (λ u. same_term t u ≡ false) us
  none_same t [] e = tt
  none_same t (u ∷ us) e = (or_first (same_term t u) (list_any (same_term t) us) e, none_same t us (or_second (same_term t u) (list_any (same_term t) us) e))
    where
      or_first : (a b : Bool) → (a || b) ≡ false → a ≡ false
      or_first true b e = absurd (cc)
      or_first false b e = refl

      or_second : (a b : Bool) → (a || b) ≡ false → b ≡ false
      or_second true b e = absurd (cc)
      or_second false b e = e

  lower_than : (ns : List ℕ) → AllByRecursion (λ n. (1 ≤ n) × (n < own_number before)) ns → AllByRecursion (IsNumberOf (length before)) ns
  lower_than [] below = tt
  lower_than (n ∷ ns) below = let some = below.0.0 in let less = below.0.1 in ((omega arith, omega arith), lower_than ns below.1)

  read_numbers : (head : HeadRead) (ns : List ℕ) → AllByRecursion (IsNumberOf (length before)) ns → AllByRecursion (IsNumberOf (length before)) (node_numbers (node_read head ns))
  read_numbers (IsVariable x) ns below = tt
  read_numbers (Names named) ns below = below

  pub node_line-there : (bytes : List ℕ) (at : ℕ) (after : List Term) (p : ℕ) (r : List ℕ) → read_node_line P before bytes at ≡ Found after p r → NodeThere bytes after r
  node_line-there bytes at after p r e =
      let begin = parts (read_fixed (codes "n ") bytes at) _ after p r e in
      let opens = fixed_there (codes "n ") bytes at begin.value begin.place begin.rest begin.first in
      let cut = parts (read_body P (own_number before) begin.rest begin.place) _ after p r begin.later in
      let x = cut.value in
      let body = body_there begin.rest begin.place x cut.place cut.rest cut.first in
      let judged = parts (judged_node before begin.place x cut.place cut.rest) _ after p r cut.later in
      let end = parts (read_fixed (codes "\n") judged.rest judged.place) _ after p r judged.later in
      let closes = fixed_there (codes "\n") judged.rest judged.place end.value end.place end.rest end.first in
      let made : judged.value ≡ after = cc in
      let rests : end.rest ≡ r = cc in
      let node = node_read x.head x.numbers in
      let t = term_of before node in
      let found = Found (before ++ (t ∷ [])) cut.place cut.rest in
      let large = if is_over most_symbols (size t) then Faulty begin.place NodeLarge else found in
      chosen (not (takes x.head (length x.numbers))) (Faulty begin.place Arity) (if list_any (same_term t) before then Faulty begin.place NodeOrder else large) judged.value judged.place judged.rest (NodeThere bytes after r) judged.first
      (λ wrong never. absurd (cc))
      (λ right later. chosen (list_any (same_term t) before) (Faulty begin.place NodeOrder) large judged.value judged.place judged.rest (NodeThere bytes after r) later
      (λ earlier never. absurd (cc))
      (λ new further. chosen (is_over most_symbols (size t)) (Faulty begin.place NodeLarge) found judged.value judged.place judged.rest (NodeThere bytes after r) further
      (λ over never. absurd (cc))
      (λ within last.
      let whole : before ++ (t ∷ []) ≡ judged.value = cc in
      let places : cut.rest ≡ judged.rest = cc in
      let fits = body.fits (is_true (takes x.head (length x.numbers)) right) in
      record {
        node = node;
        is = fits.0;
        below = read_numbers x.head x.numbers (lower_than x.numbers body.below);
        new = none_same t before new;
        small = grind (arith, nat_tests, within);
        text = opens ∙ ap (λ s. 110 ∷ 32 ∷ s) (fits.1 ∙ ap (node_text P node) (places ∙ (closes ∙ ap (λ s. 10 ∷ s) rests)));
        so = sym (whole ∙ made);
      })))
    where
      is_true : (b : Bool) → not b ≡ false → b ≡ true
      is_true true e = refl
      is_true false e = absurd (cc)

-- Nodes one behind another.

pub record NodesThere (P : Protocol) (before : List Term) (bytes : List ℕ) (after : List Term) (rest : List ℕ) : Type 0 where
  pub nodes : List TableNode
  pub are : AllByRecursion (IsNodeOf P) nodes
  pub order : StandInOrder before nodes
  pub text : bytes ≡ node_lines P nodes rest
  pub so : after ≡ terms_from before nodes
  pub small : AllByRecursion (λ t. size t ≤ most_symbols) before → AllByRecursion (λ t. size t ≤ most_symbols) after

module _ (P : Protocol) where
  abbrev read_lines : ℕ → List Term → List ℕ → ℕ → Outcome (List Term)
  read_lines most ts bytes at = lines_through 110 (read_node_line P) most ts bytes at

  lines_more : (most : ℕ) (ts : List Term) (bytes : List ℕ) (at : ℕ) → read_lines (suc most) ts bytes at ≡ (if front bytes == 110 then next (read_node_line P ts bytes at) (λ us p k. read_lines most us k p) else Found ts at bytes)
  unfolding lines_through
  lines_more most ts bytes at = refl

  lines_full : (ts : List Term) (bytes : List ℕ) (at : ℕ) → read_lines 0 ts bytes at ≡ (if front bytes == 110 then Faulty at Count else Found ts at bytes)
  unfolding lines_through
  lines_full ts bytes at = refl

  no_nodes : (before after : List Term) (bytes rest : List ℕ) → before ≡ after → bytes ≡ rest → NodesThere P before bytes after rest
  no_nodes before after bytes rest same rests = record { nodes = []; are = tt; order = tt; text = rests; so = sym same; small = λ small. subst (AllByRecursion (λ t. size t ≤ most_symbols)) same small }

  pub nodes_there : (most : ℕ) (before : List Term) (bytes : List ℕ) (at : ℕ) (after : List Term) (p : ℕ) (r : List ℕ) → read_lines most before bytes at ≡ Found after p r → NodesThere P before bytes after r
  nodes_there zero before bytes at after p r e =
      chosen (front bytes == 110) (Faulty at Count) (Found before at bytes) after p r (NodesThere P before bytes after r) (sym (lines_full before bytes at) ∙ e) (λ is never. absurd (cc)) (λ isnt end. no_nodes before after bytes r (cc) (cc))
  nodes_there (suc most) before bytes at after p r e =
      chosen (front bytes == 110) (next (read_node_line P before bytes at) (λ us q k. read_lines most us k q)) (Found before at bytes) after p r (NodesThere P before bytes after r) (sym (lines_more most before bytes at) ∙ e)
      (λ is goes.
      let cut = parts (read_node_line P before bytes at) (λ us q k. read_lines most us k q) after p r goes in
      let one = node_line-there P before bytes at cut.value cut.place cut.rest cut.first in
      let others = nodes_there most cut.value cut.rest cut.place after p r cut.later in
      let t = term_of before one.node in
      record {
        nodes = one.node ∷ others.nodes;
        are = (one.is, others.are);
        order = (one.below, one.new, subst (λ us. StandInOrder us others.nodes) one.so others.order);
        text = one.text ∙ ap (λ s. 110 ∷ 32 ∷ node_text P one.node (10 ∷ s)) others.text;
        so = others.so ∙ ap (λ us. terms_from us others.nodes) one.so;
        small = λ small. others.small (subst (AllByRecursion (λ u. size u ≤ most_symbols)) (sym one.so) (all_append (λ u. size u ≤ most_symbols) before (t ∷ []) small (one.small, tt)));
      })
      (λ isnt end. no_nodes before after bytes r (cc) (cc))
