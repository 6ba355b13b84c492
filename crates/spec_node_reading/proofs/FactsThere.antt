-- Facts and constraints by numbers that were read are what the bytes begin with, and the walk has gone through them.
use Rattle.std.proofs.Common.{◌≡◌, ℕ, zero, suc, ◌+◌, ◌<◌, ◌≤◌, ◌==◌, ◌||◌, ◌&&◌, not, if◌then◌else◌, Bool, true, false, List, [], ◌∷◌, ◌++◌, map, length, take, drop, Option, Some, None, codes, refl, sym, ◌∙◌, ap, subst, arith, append_assoc}
use Rattle.std.specs.Fmt.{decimal}
use Rattle.std.specs.List.{AllByRecursion, prefix_len}
use Rattle.std.proofs.lemmas.List.{take-append-drop, length-map, map-append}
use Rattle.std.proofs.lemmas.Bool.Decides.{nat_tests}
use Rattle.spec_trees.specs.Tree.{size}
use Rattle.spec_calculus.specs.Bounds.{most_symbols}
use Rattle.spec_calculus.specs.Syntax.{Declared, Protocol}
use Rattle.spec_protocol_tokens.specs.Bytes.{begins_word, is_in_word}
use Rattle.spec_terms.specs.Term.{Term}
use Rattle.spec_clauses.specs.Fact.{Fact, Att, Mess, Tab, Ev, Mev, Bad, terms_of, map_fact, total}
use Rattle.spec_clauses.proofs.Lists.{all_append}
use Rattle.spec_certificate_text.specs.Words.{declared_word}
use Rattle.spec_certificate_text.specs.OfProtocol.{IsShort, IsDeclaredOver, IsPhase}
use Rattle.spec_certificate_text.specs.Names.{CalledEvent, called_in}
use Rattle.spec_certificate_text.specs.Sides.{SidesOf, map_sides, holds_bound}
use Rattle.spec_certificate_text.specs.Text.{phase_text}
use Rattle.spec_certificate_text.specs.Terms.{Syntax, Symbol, Arity, NodeOrder, NodeLarge}
use Rattle.spec_certificate_text.specs.Outcomes.{Outcome, Found, Faulty, next, Reader, front, ended, read_fixed, read_number}
use Rattle.spec_certificate_text.specs.Facts.{Performed, performed, paired}
use Rattle.spec_certificate_text.proofs.Parts.{parts, chosen, equal_byte, fixed_there, ended_found, number_there}
use Rattle.spec_certificate_text.proofs.FactsThere.{phase_then}
use Rattle.spec_certificate_text.proofs.Called.{called_in_is}
use Rattle.spec_node_tables.specs.Nodes.{term_at}
use Rattle.spec_node_tables.specs.Text.{number_text, terms_text, call_over, fact_over, sides_over}
use Rattle.spec_node_tables.specs.OfProtocol.{IsFactOver, AreSidesOver}
use Rattle.spec_node_tables.specs.Large.{most_certificate_symbols, up_to_terms, AreUpTo, is_over}
use Rattle.spec_node_tables.proofs.Sizes.{total-append}
use Rattle.spec_node_faults.specs.Clauses.{is_out_of_order}
use Rattle.spec_node_faults.specs.Grammar.{MayBeHypothesis, MayBeConclusion}
use Rattle.spec_node_faults.proofs.Items.{AreOwn}
use Rattle.spec_node_faults.proofs.Orders.{InOrder}
use Rattle.spec_node_faults.proofs.Sums.{up_to_append}
use Rattle.spec_node_reading.specs.Walked.{Walked, with_signs, with_term}
use Rattle.spec_node_reading.specs.Loops.{Behind, with, row_from}
use Rattle.spec_node_reading.specs.ReadClauses.{judged_number, one_term, read_terms, read_applied, event_named, read_call, read_att, read_mess, read_called, read_performed, read_tab, read_bad, read_hypothesis, read_conclusion, read_sides, read_diff}
use Rattle.spec_node_reading.proofs.Parts.{Part, fact_part, diff_part, Through, through_none, through_more, order_append, Gone, gone_part}

-- what was found is one

found_value : {A : Type 0} (x y : A) (p q : ℕ) (r s : List ℕ) → Found x p r ≡ Found y q s → x ≡ y
found_value x y p q r s e = cc

found_rest : {A : Type 0} (x y : A) (p q : ℕ) (r s : List ℕ) → Found x p r ≡ Found y q s → r ≡ s
found_rest x y p q r s e = cc

module _ (P : Protocol) (table : List Term) where
  abbrev pub terms_at : List ℕ → List Term
  terms_at ns = map (term_at table) ns

  -- a number of a constraint, or of a fact
  abbrev one_tree : Bool → Walked → Reader (Behind Term)
  one_tree binds w bytes at = next (read_number bytes at) (λ n p r. judged_number P table binds w at n p r)

  -- a number was read that may follow
  record NumberThere (binds : Bool) (w : Walked) (bytes : List ℕ) (x : Behind Term) (rest : List ℕ) : Type 0 where
    number : ℕ
    short : IsShort number
    text : bytes ≡ decimal number ++ rest
    own : binds ≡ false → holds_bound (term_at table number) ≡ false
    order : is_out_of_order table w.seen number ≡ false
    small : w.clause + size (term_at table number) ≤ most_symbols
    together : w.all + size (term_at table number) ≤ most_certificate_symbols
    is : with (term_at table number) (with_term (term_at table number) w) ≡ x

  neither : (a b : Bool) → (a || b) ≡ false → (a ≡ false) × (b ≡ false)
  neither true b e = absurd (cc)
  neither false b e = (refl, e)

  own_there : (binds bound : Bool) → (not binds && bound) ≡ false → binds ≡ false → bound ≡ false
  own_there true bound fine outside = absurd (cc)
  own_there false bound fine outside = fine

  one_there : (binds : Bool) (w : Walked) (bytes : List ℕ) (at : ℕ) (x : Behind Term) (p : ℕ) (r : List ℕ) → one_tree binds w bytes at ≡ Found x p r → NumberThere binds w bytes x r
  one_there binds w bytes at x p r e =
      let cut = parts (read_number bytes at) (λ n q k. judged_number P table binds w at n q k) x p r e in
      let there = number_there bytes at cut.value cut.place cut.rest cut.first in
      let n = cut.value in
      let t = term_at table n in
      let large = is_over most_symbols (w.clause + size t) || is_over most_certificate_symbols (w.all + size t) in
      let found = Found (with t (with_term t w)) cut.place cut.rest in
      let in_order = if is_out_of_order table w.seen n then Faulty at NodeOrder else (if large then Faulty at NodeLarge else found) in
      chosen (not binds && holds_bound t) (Faulty at Symbol) in_order x p r (NumberThere binds w bytes x r) cut.later
      (λ bound never. absurd (cc))
      (λ fine judged. chosen (is_out_of_order table w.seen n) (Faulty at NodeOrder) (if large then Faulty at NodeLarge else found) x p r (NumberThere binds w bytes x r) judged
      (λ out never. absurd (cc))
      (λ order later. chosen large (Faulty at NodeLarge) found x p r (NumberThere binds w bytes x r) later
      (λ over never. absurd (cc))
      (λ within end.
      let (one, two) = neither (is_over most_symbols (w.clause + size t)) (is_over most_certificate_symbols (w.all + size t)) within in
      let same : with t (with_term t w) ≡ x = cc in
      let rests : cut.rest ≡ r = cc in
      record {
        number = n;
        short = there.is;
        text = there.text ∙ ap (λ k. decimal n ++ k) rests;
        own = own_there binds (holds_bound t) fine;
        order = order;
        small = grind (arith, nat_tests, one);
        together = grind (arith, nat_tests, two);
        is = same;
      })))

  -- numbers in a row, one at least, and the byte that closes it
  record NumbersThere (binds : Bool) (closing : ℕ) (w : Walked) (bytes : List ℕ) (x : Behind (List Term)) (before : List Term) (rest : List ℕ) : Type 0 where
    first : ℕ
    others : List ℕ
    value : x.value ≡ before ++ terms_at (first ∷ others)
    short : AllByRecursion IsShort (first ∷ others)
    text : bytes ≡ terms_text number_text P (first ∷ others) (closing ∷ rest)
    through : Through table binds w (first ∷ others) x.walked

  abbrev row_read : Bool → ℕ → ℕ → Behind (List Term) → Reader (Behind (List Term))
  row_read binds closing most xs bytes at = row_from (one_tree binds) 44 [] (closing ∷ []) most xs bytes at

  -- what is read behind a number of a row
  abbrev behind_number : Bool → ℕ → ℕ → List Term → Behind Term → ℕ → List ℕ → Outcome (Behind (List Term))
  behind_number binds closing most ts x p r =
      if front r == 44 then next (read_fixed (44 ∷ []) r p) (λ _ p r. row_read binds closing most (with (ts ++ x.value ∷ []) x.walked) r p)
      else next (read_fixed (closing ∷ []) r p) (λ _ p r. Found (with (ts ++ x.value ∷ []) x.walked) p r)

  row_more : (binds : Bool) (closing most : ℕ) (ts : List Term) (w : Walked) (bytes : List ℕ) (at : ℕ) → row_read binds closing (suc most) (with ts w) bytes at ≡ next (one_tree binds w bytes at) (λ x p r. behind_number binds closing most ts x p r)
  unfolding row_from
  row_more binds closing most ts w bytes at = refl

  row_none : (binds : Bool) (closing : ℕ) (xs : Behind (List Term)) (bytes : List ℕ) (at : ℕ) → row_read binds closing 0 xs bytes at ≡ Faulty at Syntax
  unfolding row_from
  row_none binds closing xs bytes at = refl

  row_there : (binds : Bool) (closing most : ℕ) (ts : List Term) (w : Walked) (bytes : List ℕ) (at : ℕ) (y : Behind (List Term)) (p : ℕ) (r : List ℕ) → row_read binds closing most (with ts w) bytes at ≡ Found y p r → NumbersThere binds closing w bytes y ts r
  row_there binds closing zero ts w bytes at y p r e = let never : Faulty at Syntax ≡ Found y p r = sym (row_none binds closing (with ts w) bytes at) ∙ e in absurd (cc)
  row_there binds closing (suc most) ts w bytes at y p r e =
      let cut = parts (one_tree binds w bytes at) (λ x q k. behind_number binds closing most ts x q k) y p r (sym (row_more binds closing most ts w bytes at) ∙ e) in
      let one = one_there binds w bytes at cut.value cut.place cut.rest cut.first in
      by (λ us v bs from z q k told. row_there binds closing most us v bs from z q k told) cut.value cut.place cut.rest one cut.later
    where
      by : ((us : List Term) (v : Walked) (bs : List ℕ) (from : ℕ) (z : Behind (List Term)) (q : ℕ) (k : List ℕ) → row_read binds closing most (with us v) bs from ≡ Found z q k → NumbersThere binds closing v bs z us k)
          → (x : Behind Term) (q : ℕ) (k : List ℕ) → NumberThere binds w bytes x k → behind_number binds closing most ts x q k ≡ Found y p r → NumbersThere binds closing w bytes y ts r
      by again x q k one found =
          let n = one.number in
          let t = term_at table n in
          let so = one.is in
          let comma = next (read_fixed (44 ∷ []) k q) (λ _ q k. row_read binds closing most (with (ts ++ x.value ∷ []) x.walked) k q) in
          let close = next (read_fixed (closing ∷ []) k q) (λ _ q k. Found (with (ts ++ x.value ∷ []) x.walked) q k) in
          chosen (front k == 44) comma close y p r (NumbersThere binds closing w bytes y ts r) found
          (λ is goes.
          let end = parts (read_fixed (44 ∷ []) k q) (λ _ q k. row_read binds closing most (with (ts ++ x.value ∷ []) x.walked) k q) y p r goes in
          let commas = fixed_there (44 ∷ []) k q end.value end.place end.rest end.first in
          let read : row_read binds closing most (with (ts ++ t ∷ []) (with_term t w)) end.rest end.place ≡ Found y p r =
          ap (λ z. row_read binds closing most (with (ts ++ z.value ∷ []) z.walked) end.rest end.place) so ∙ end.later in
          let others = again (ts ++ t ∷ []) (with_term t w) end.rest end.place y p r read in
          record {
            first = n;
            others = others.first ∷ others.others;
            value = others.value ∙ append_assoc ts (t ∷ []) (terms_at (others.first ∷ others.others));
            short = (one.short, others.short);
            text = one.text ∙ ap (λ s. decimal n ++ s) (commas ∙ ap (λ s. 44 ∷ s) others.text);
            through = through_more table binds w y.walked n (others.first ∷ others.others) one.own one.order one.small one.together others.through;
          })
          (λ isnt ends.
          let end = parts (read_fixed (closing ∷ []) k q) (λ _ q k. Found (with (ts ++ x.value ∷ []) x.walked) q k) y p r ends in
          let closes = fixed_there (closing ∷ []) k q end.value end.place end.rest end.first in
          let last : with (ts ++ x.value ∷ []) x.walked ≡ y = cc in
          let rests : end.rest ≡ r = cc in
          let whole : with (ts ++ t ∷ []) (with_term t w) ≡ y = ap (λ z. with (ts ++ z.value ∷ []) z.walked) so ∙ last in
          record {
            first = n;
            others = [];
            value = ap (λ z. z.value) (sym whole);
            short = (one.short, tt);
            text = one.text ∙ ap (λ s. decimal n ++ s) (closes ∙ ap (λ s. closing ∷ s) rests);
            through = through_more table binds w y.walked n [] one.own one.order one.small one.together (subst (λ z. Through table binds (with_term t w) [] z.walked) whole (through_none table binds (with_term t w)));
          })

  terms_there : (w : Walked) (bytes : List ℕ) (at : ℕ) (y : Behind (List Term)) (p : ℕ) (r : List ℕ) → read_terms P table w bytes at ≡ Found y p r → NumbersThere false 41 w bytes y [] r
  terms_there w bytes at y p r e = row_there false 41 (suc (length bytes)) [] w bytes at y p r e

  -- Events and entries.

  -- numbers behind the word of an event or a table, or none
  pub record AppliedThere (w : Walked) (word bytes : List ℕ) (x : Behind (List Term)) (rest : List ℕ) : Type 0 where
    pub numbers : List ℕ
    pub value : x.value ≡ terms_at numbers
    pub short : AllByRecursion IsShort numbers
    pub text : (ds : List Declared) (e : ℕ) → declared_word ds e ≡ word → word ++ bytes ≡ call_over number_text P ds e numbers rest
    pub through : Through table false w numbers x.walked

  pub applied_there : (w : Walked) (word bytes : List ℕ) (at : ℕ) (x : Behind (List Term)) (p : ℕ) (r : List ℕ) → read_applied P table w bytes at ≡ Found x p r → AppliedThere w word bytes x r
  applied_there w word bytes at x p r e =
      chosen (front bytes == 40) (next (read_fixed (codes "(") bytes at) (λ _ q k. read_terms P table w k q)) (Found (with [] w) at bytes) x p r (AppliedThere w word bytes x r) e
      (λ is goes.
      let cut = parts (read_fixed (codes "(") bytes at) (λ _ q k. read_terms P table w k q) x p r goes in
      let opens = fixed_there (codes "(") bytes at cut.value cut.place cut.rest cut.first in
      let there = terms_there w cut.rest cut.place x p r cut.later in
      record {
        numbers = there.first ∷ there.others;
        value = there.value;
        short = there.short;
        text = λ ds e same. ap (λ s. word ++ s) (opens ∙ ap (λ s. 40 ∷ s) there.text) ∙ ap (λ v. v ++ (40 ∷ terms_text number_text P (there.first ∷ there.others) (41 ∷ r))) (sym same);
        through = there.through;
      })
      (λ isnt alone.
      let same : with [] w ≡ x = cc in
      let rests : bytes ≡ r = cc in
      record {
        numbers = [];
        value = ap (λ z. z.value) (sym same);
        short = tt;
        text = λ ds e named. ap (λ s. word ++ s) rests ∙ ap (λ v. v ++ r) (sym named);
        through = subst (λ z. Through table false w [] z.walked) same (through_none table false w);
      })

  record CallThere (ds : List Declared) (w : Walked) (bytes : List ℕ) (x : Behind Performed) (rest : List ℕ) : Type 0 where
    numbers : List ℕ
    arguments : x.value.arguments ≡ terms_at numbers
    event : IsDeclaredOver ds x.value.event (length numbers)
    short : AllByRecursion IsShort numbers
    text : bytes ≡ call_over number_text P ds x.value.event numbers rest
    through : Through table false w numbers x.walked

  named_there : (ds : List Declared) (w : Walked) (bytes word : List ℕ) (called : Option CalledEvent) (from q : ℕ) (k : List ℕ) (x : Behind Performed) (p : ℕ) (r : List ℕ) → bytes ≡ word ++ k → called_in ds word ≡ called → event_named P table called w from q k ≡ Found x p r → CallThere ds w bytes x r
  named_there ds w bytes word None from q k x p r text is found = absurd (cc)
  named_there ds w bytes word (Some called) from q k x p r text is found =
      let named = called_in_is ds word called is in
      let cut = parts (read_applied P table w k q) (λ y q k. next (performed from called y.value q k) (λ e q k. Found (with e y.walked) q k)) x p r found in
      let there = applied_there w word k q cut.value cut.place cut.rest cut.first in
      by cut.value cut.place cut.rest there cut.later named.has_word named.is_of
    where
      by : (y : Behind (List Term)) (q : ℕ) (s : List ℕ) → AppliedThere w word k y s → next (performed from called y.value q s) (λ e q k. Found (with e y.walked) q k) ≡ Found x p r → declared_word ds called.number ≡ word → IsDeclaredOver ds called.number called.arity → CallThere ds w bytes x r
      by y q s there later has_word is_of =
          let made : Performed = record { event = called.number; arguments = y.value } in
          let cut = parts (performed from called y.value q s) (λ e q k. Found (with e y.walked) q k) x p r later in
          chosen (length y.value == called.arity) (Found made q s) (Faulty from Arity) cut.value cut.place cut.rest (CallThere ds w bytes x r) cut.first
          (λ fits end.
          let first : made ≡ cut.value = cc in
          let place : s ≡ cut.rest = cc in
          let last : with cut.value y.walked ≡ x = cc in
          let rests : cut.rest ≡ r = cc in
          let whole : with made y.walked ≡ x = ap (λ e. with e y.walked) first ∙ last in
          let many : length y.value ≡ length there.numbers = ap length there.value ∙ length-map there.numbers (term_at table) in
          subst (λ z. CallThere ds w bytes z r) whole record {
            numbers = there.numbers;
            arguments = there.value;
            event = subst (IsDeclaredOver ds called.number) (sym (equal_byte (length y.value) called.arity fits) ∙ many) is_of;
            short = there.short;
            text = text ∙ (there.text ds called.number has_word ∙ ap (call_over number_text P ds called.number there.numbers) (place ∙ rests));
            through = there.through;
          })
          (λ misfits never. absurd (cc))

  call_there : (ds : List Declared) (w : Walked) (bytes : List ℕ) (at : ℕ) (x : Behind Performed) (p : ℕ) (r : List ℕ) → read_call P table ds w bytes at ≡ Found x p r → CallThere ds w bytes x r
  call_there ds w bytes at x p r found =
      let long = prefix_len is_in_word bytes in
      let word = take long bytes in
      let named = event_named P table (called_in ds word) w at (at + long) (drop long bytes) in
      chosen (begins_word (front bytes)) (ended (at + long) (drop long bytes) named) (Faulty at Syntax) x p r (CallThere ds w bytes x r) found
      (λ begins some. named_there ds w bytes word (called_in ds word) at (at + long) (drop long bytes) x p r (sym (take-append-drop long bytes)) refl (ended_found (at + long) (drop long bytes) named x p r some))
      (λ none never. absurd (cc))

  -- Facts.

  -- a fact by numbers that means the one that was read, and the walk through it
  pub record FactThere (May : Fact Term → Type 0) (w : Walked) (bytes : List ℕ) (x : Behind (Fact Term)) (rest : List ℕ) : Type 0 where
    pub numbered : Fact ℕ
    pub meant : map_fact (term_at table) numbered ≡ x.value
    pub is : IsFactOver IsShort P numbered
    pub text : bytes ≡ fact_over number_text P numbered rest
    pub gone : Gone table w (fact_part numbered ∷ []) x.walked
    pub own : AreOwn table (terms_of numbered)
    pub may : May x.value

  att_there : (May : Fact Term → Type 0) → ((k : ℕ) (t : Term) → May (Att k t)) → (w : Walked) (bytes : List ℕ) (at : ℕ) (x : Behind (Fact Term)) (p : ℕ) (r : List ℕ) → read_att P table w bytes at ≡ Found x p r → FactThere May w bytes x r
  att_there May may w bytes at x p r e =
      let begin = phase_then P (codes "att") (λ k p r. next (one_term P table (with_signs 1 w) r p) (λ x p r. next (read_fixed (codes ")") r p) (λ _ p r. Found (with (Att k x.value) x.walked) p r))) bytes at x p r e in
      let phase = begin.phase in
      let cut = parts (one_term P table (with_signs 1 w) begin.rest begin.place) _ x p r begin.later in
      let one = one_there false (with_signs 1 w) begin.rest begin.place cut.value cut.place cut.rest cut.first in
      let end = parts (read_fixed (codes ")") cut.rest cut.place) _ x p r cut.later in
      let closes = fixed_there (codes ")") cut.rest cut.place end.value end.place end.rest end.first in
      let last : with (Att phase cut.value.value) cut.value.walked ≡ x = cc in
      let rests : end.rest ≡ r = cc in
      let n = one.number in
      let t = term_at table n in
      let so = one.is in
      let whole : with (Att phase t) (with_term t (with_signs 1 w)) ≡ x = ap (λ y. with (Att phase y.value) y.walked) so ∙ last in
      let through = through_more table false (with_signs 1 w) (with_term t (with_signs 1 w)) n [] one.own one.order one.small one.together (through_none table false (with_term t (with_signs 1 w))) in
      subst (λ y. FactThere May w bytes y r) whole record {
        numbered = Att phase n;
        meant = refl;
        is = (begin.is, (one.short, tt));
        text = begin.text ∙ ap (λ s. codes "att" ++ phase_text phase (40 ∷ s)) (one.text ∙ ap (λ s. decimal n ++ s) (closes ∙ ap (λ s. 41 ∷ s) rests));
        gone = gone_part table (fact_part (Att phase n)) w (with_term t (with_signs 1 w)) through;
        own = through.own refl;
        may = may phase t;
      }

  -- two numbers that may follow one another
  mess_of : (May : Fact Term → Type 0) (phase : ℕ) → IsPhase P phase → ((t u : Term) → May (Mess phase t u)) → (w : Walked) (bytes : List ℕ) (x : Behind (Fact Term)) (r : List ℕ)
      → (m : ℕ) → IsShort m → (false ≡ false → holds_bound (term_at table m) ≡ false) → is_out_of_order table w.seen m ≡ false → w.clause + 1 + size (term_at table m) ≤ most_symbols → w.all + 1 + size (term_at table m) ≤ most_certificate_symbols
      → (y z : Behind Term) (n : ℕ) → IsShort n → (false ≡ false → holds_bound (term_at table n) ≡ false) → with (term_at table m) (with_term (term_at table m) (with_signs 1 w)) ≡ y → is_out_of_order table y.walked.seen n ≡ false → y.walked.clause + size (term_at table n) ≤ most_symbols → y.walked.all + size (term_at table n) ≤ most_certificate_symbols
      → with (term_at table n) (with_term (term_at table n) y.walked) ≡ z → bytes ≡ codes "mess" ++ phase_text phase (40 ∷ (decimal m ++ (44 ∷ (decimal n ++ (41 ∷ r))))) → with (Mess phase y.value z.value) z.walked ≡ x → FactThere May w bytes x r
  mess_of May phase in_phase may w bytes x r m short own order small together y z n short_n own_n first order_n small_n together_n second text last =
      let t = term_at table m in
      let u = term_at table n in
      let v : Walked = with_term t (with_signs 1 w) in
      let end : Walked = with_term u v in
      let ordered : is_out_of_order table v.seen n ≡ false = ap (λ b. is_out_of_order table b.walked.seen n) first ∙ order_n in
      let fits : v.clause + size u ≤ most_symbols = subst (λ b. b.walked.clause + size u ≤ most_symbols) (sym first) small_n in
      let all_fit : v.all + size u ≤ most_certificate_symbols = subst (λ b. b.walked.all + size u ≤ most_certificate_symbols) (sym first) together_n in
      let through = through_more table false (with_signs 1 w) end m (n ∷ []) own order small together (through_more table false v end n [] own_n ordered fits all_fit (through_none table false end)) in
      let whole : with (Mess phase t u) end ≡ x = ap (λ b. with (Mess phase b.value u) (with_term u b.walked)) first ∙ (ap (λ b. with (Mess phase y.value b.value) b.walked) second ∙ last) in
      subst (λ b. FactThere May w bytes b r) whole record {
        numbered = Mess phase m n;
        meant = refl;
        is = (in_phase, (short, (short_n, tt)));
        text = text;
        gone = gone_part table (fact_part (Mess phase m n)) w end through;
        own = through.own refl;
        may = may t u;
      }

  mess_there : (May : Fact Term → Type 0) → ((k : ℕ) (t u : Term) → May (Mess k t u)) → (w : Walked) (bytes : List ℕ) (at : ℕ) (x : Behind (Fact Term)) (p : ℕ) (r : List ℕ) → read_mess P table w bytes at ≡ Found x p r → FactThere May w bytes x r
  mess_there May may w bytes at x p r e =
      let begin = phase_then P (codes "mess") (λ k p r. next (one_term P table (with_signs 1 w) r p) (λ x p r. next (read_fixed (codes ",") r p) (λ _ p r. next (one_term P table x.walked r p) (λ y p r. next (read_fixed (codes ")") r p) (λ _ p r. Found (with (Mess k x.value y.value) y.walked) p r))))) bytes at x p r e in
      let phase = begin.phase in
      let cut = parts (one_term P table (with_signs 1 w) begin.rest begin.place) _ x p r begin.later in
      let one = one_there false (with_signs 1 w) begin.rest begin.place cut.value cut.place cut.rest cut.first in
      let comma = parts (read_fixed (codes ",") cut.rest cut.place) _ x p r cut.later in
      let commas = fixed_there (codes ",") cut.rest cut.place comma.value comma.place comma.rest comma.first in
      let again = parts (one_term P table cut.value.walked comma.rest comma.place) _ x p r comma.later in
      let two = one_there false cut.value.walked comma.rest comma.place again.value again.place again.rest again.first in
      let end = parts (read_fixed (codes ")") again.rest again.place) _ x p r again.later in
      let closes = fixed_there (codes ")") again.rest again.place end.value end.place end.rest end.first in
      let last = found_value (with (Mess phase cut.value.value again.value.value) again.value.walked) x end.place p end.rest r end.later in
      let rests = found_rest (with (Mess phase cut.value.value again.value.value) again.value.walked) x end.place p end.rest r end.later in
      let text = begin.text ∙ ap (λ s. codes "mess" ++ phase_text phase (40 ∷ s)) (one.text ∙ ap (λ s. decimal one.number ++ s) (commas ∙ ap (λ s. 44 ∷ s) (two.text ∙ ap (λ s. decimal two.number ++ s) (closes ∙ ap (λ s. 41 ∷ s) rests)))) in
      mess_of May phase begin.is (may phase) w bytes x r one.number one.short one.own one.order one.small one.together cut.value again.value two.number two.short two.own one.is two.order two.small two.together two.is text last

  -- a fact of an event or a table
  called_there : (ds : List Declared) (May : Fact Term → Type 0) → (word : List ℕ) (by_numbers : ℕ → List ℕ → Fact ℕ) (fact : ℕ → List Term → Fact Term) → ((e : ℕ) (ns : List ℕ) → map_fact (term_at table) (by_numbers e ns) ≡ fact e (terms_at ns))
      → ((e : ℕ) (ns : List ℕ) → IsDeclaredOver ds e (length ns) → AllByRecursion IsShort ns → IsFactOver IsShort P (by_numbers e ns))
      → ((e : ℕ) (ns : List ℕ) (rest : List ℕ) → word ++ call_over number_text P ds e ns (41 ∷ rest) ≡ fact_over number_text P (by_numbers e ns) rest) → ((e : ℕ) (ns : List ℕ) → fact_part (by_numbers e ns) ≡ record { binds = false; signs = 2; numbers = ns }) → ((e : ℕ) (ts : List Term) → May (fact e ts))
      → (w : Walked) (bytes : List ℕ) (at : ℕ) (x : Behind (Fact Term)) (p : ℕ) (r : List ℕ) → read_called P table (read_call P table ds) word fact w bytes at ≡ Found x p r → FactThere May w bytes x r
  called_there ds May word by_numbers fact means is_over text_of parts_are may w bytes at x p r e =
      let begin = parts (read_fixed word bytes at) _ x p r e in
      let opens = fixed_there word bytes at begin.value begin.place begin.rest begin.first in
      let cut = parts (read_call P table ds (with_signs 2 w) begin.rest begin.place) _ x p r begin.later in
      let one = call_there ds (with_signs 2 w) begin.rest begin.place cut.value cut.place cut.rest cut.first in
      let end = parts (read_fixed (codes ")") cut.rest cut.place) _ x p r cut.later in
      let closes = fixed_there (codes ")") cut.rest cut.place end.value end.place end.rest end.first in
      let last : with (fact cut.value.value.event cut.value.value.arguments) cut.value.walked ≡ x = cc in
      let rests : end.rest ≡ r = cc in
      let ns = one.numbers in
      let event = cut.value.value.event in
      let v = cut.value.walked in
      let whole : with (fact event (terms_at ns)) v ≡ x = ap (λ ts. with (fact event ts) v) (sym one.arguments) ∙ last in
      subst (λ y. FactThere May w bytes y r) whole record {
        numbered = by_numbers event ns;
        meant = means event ns;
        is = is_over event ns one.event one.short;
        text = opens ∙ (ap (λ s. word ++ s) (one.text ∙ ap (call_over number_text P ds event ns) (closes ∙ ap (λ s. 41 ∷ s) rests)) ∙ text_of event ns r);
        gone = subst (λ q. Gone table w (q ∷ []) v) (sym (parts_are event ns)) (gone_part table (record { binds = false; signs = 2; numbers = ns }) w v one.through);
        own = subst (λ (q : Part). AreOwn table q.numbers) (sym (parts_are event ns)) (one.through.own refl);
        may = may event (terms_at ns);
      }

  ev_there : (May : Fact Term → Type 0) → ((e : ℕ) (ts : List Term) → May (Ev e ts)) → (w : Walked) (bytes : List ℕ) (at : ℕ) (x : Behind (Fact Term)) (p : ℕ) (r : List ℕ) → read_performed P table (codes "ev(") (λ e ts. Ev e ts) w bytes at ≡ Found x p r → FactThere May w bytes x r
  ev_there May may w bytes at x p r e =
      called_there P.events May (codes "ev(") (λ e ns. Ev e ns) (λ e ts. Ev e ts) (λ e ns. refl) (λ e ns is short. (is, short)) (λ e ns rest. refl) (λ e ns. refl) may w bytes at x p r e

  mev_there : (May : Fact Term → Type 0) → ((e : ℕ) (ts : List Term) → May (Mev e ts)) → (w : Walked) (bytes : List ℕ) (at : ℕ) (x : Behind (Fact Term)) (p : ℕ) (r : List ℕ) → read_performed P table (codes "mev(") (λ e ts. Mev e ts) w bytes at ≡ Found x p r → FactThere May w bytes x r
  mev_there May may w bytes at x p r e =
      called_there P.events May (codes "mev(") (λ e ns. Mev e ns) (λ e ts. Mev e ts) (λ e ns. refl) (λ e ns is short. (is, short)) (λ e ns rest. refl) (λ e ns. refl) may w bytes at x p r e

  tab_there : (May : Fact Term → Type 0) → ((n : ℕ) (ts : List Term) → May (Tab n ts)) → (w : Walked) (bytes : List ℕ) (at : ℕ) (x : Behind (Fact Term)) (p : ℕ) (r : List ℕ) → read_tab P table w bytes at ≡ Found x p r → FactThere May w bytes x r
  tab_there May may w bytes at x p r e =
      called_there P.tables May (codes "tab(") (λ n ns. Tab n ns) (λ n ts. Tab n ts) (λ n ns. refl) (λ n ns is short. (is, short)) (λ n ns rest. refl) (λ n ns. refl) may w bytes at x p r e

  bad_there : (May : Fact Term → Type 0) → ((ts : List Term) → May (Bad ts)) → (w : Walked) (bytes : List ℕ) (at : ℕ) (x : Behind (Fact Term)) (p : ℕ) (r : List ℕ) → read_bad P table w bytes at ≡ Found x p r → FactThere May w bytes x r
  bad_there May may w bytes at x p r e =
      let begin = parts (read_fixed (codes "bad(") bytes at) _ x p r e in
      let opens = fixed_there (codes "bad(") bytes at begin.value begin.place begin.rest begin.first in
      chosen (front begin.rest == 41) (next (read_fixed (codes ")") begin.rest begin.place) (λ _ q k. Found (with (Bad []) (with_signs 1 w)) q k)) (next (read_terms P table (with_signs 1 w) begin.rest begin.place) (λ y q k. Found (with (Bad y.value) y.walked) q k)) x p r (FactThere May w bytes x r) begin.later
      (λ is none.
      let end = parts (read_fixed (codes ")") begin.rest begin.place) (λ _ q k. Found (with (Bad []) (with_signs 1 w)) q k) x p r none in
      let closes = fixed_there (codes ")") begin.rest begin.place end.value end.place end.rest end.first in
      let last : with (Bad []) (with_signs 1 w) ≡ x = cc in
      let rests : end.rest ≡ r = cc in
      subst (λ y. FactThere May w bytes y r) last record {
        numbered = Bad [];
        meant = refl;
        is = (tt, tt);
        text = opens ∙ ap (λ s. codes "bad(" ++ s) (closes ∙ ap (λ s. 41 ∷ s) rests);
        gone = gone_part table (fact_part (Bad [])) w (with_signs 1 w) (through_none table false (with_signs 1 w));
        own = tt;
        may = may [];
      })
      (λ isnt some.
      let cut = parts (read_terms P table (with_signs 1 w) begin.rest begin.place) (λ y q k. Found (with (Bad y.value) y.walked) q k) x p r some in
      let there = terms_there (with_signs 1 w) begin.rest begin.place cut.value cut.place cut.rest cut.first in
      let last : with (Bad cut.value.value) cut.value.walked ≡ x = cc in
      let rests : cut.rest ≡ r = cc in
      let ns = there.first ∷ there.others in
      let v = cut.value.walked in
      let whole : with (Bad (terms_at ns)) v ≡ x = ap (λ ts. with (Bad ts) v) (sym there.value) ∙ last in
      subst (λ y. FactThere May w bytes y r) whole record {
        numbered = Bad ns;
        meant = refl;
        is = (tt, there.short);
        text = opens ∙ ap (λ s. codes "bad(" ++ s) (there.text ∙ ap (λ s. terms_text number_text P ns (41 ∷ s)) rests);
        gone = gone_part table (fact_part (Bad ns)) w v there.through;
        own = there.through.own refl;
        may = may (terms_at ns);
      })

  pub hypothesis_there : (w : Walked) (bytes : List ℕ) (at : ℕ) (x : Behind (Fact Term)) (p : ℕ) (r : List ℕ) → read_hypothesis P table w bytes at ≡ Found x p r → FactThere MayBeHypothesis w bytes x r
  hypothesis_there w bytes at x p r e =
      let mev = read_performed P table (codes "mev(") (λ e ts. Mev e ts) w bytes at in
      let ev = read_performed P table (codes "ev(") (λ e ts. Ev e ts) w bytes at in
      let tab_or = if front bytes == 116 then read_tab P table w bytes at else read_att P table w bytes at in
      let T = FactThere MayBeHypothesis w bytes x r in
      chosen (front bytes == 109) (if front (drop 2 bytes) == 118 then mev else read_mess P table w bytes at) (if front bytes == 101 then ev else tab_or) x p r T e
      (λ m found. chosen (front (drop 2 bytes) == 118) mev (read_mess P table w bytes at) x p r T found
      (λ v told. mev_there MayBeHypothesis (λ e ts. tt) w bytes at x p r told)
      (λ no_v told. mess_there MayBeHypothesis (λ k t u. tt) w bytes at x p r told))
      (λ no_m other. chosen (front bytes == 101) ev tab_or x p r T other
      (λ v told. ev_there MayBeHypothesis (λ e ts. tt) w bytes at x p r told)
      (λ no_v rest. chosen (front bytes == 116) (read_tab P table w bytes at) (read_att P table w bytes at) x p r T rest
      (λ is told. tab_there MayBeHypothesis (λ n ts. tt) w bytes at x p r told)
      (λ isnt told. att_there MayBeHypothesis (λ k t. tt) w bytes at x p r told)))

  pub conclusion_there : (w : Walked) (bytes : List ℕ) (at : ℕ) (x : Behind (Fact Term)) (p : ℕ) (r : List ℕ) → read_conclusion P table w bytes at ≡ Found x p r → FactThere MayBeConclusion w bytes x r
  conclusion_there w bytes at x p r e =
      let ev = read_performed P table (codes "ev(") (λ e ts. Ev e ts) w bytes at in
      let tab_or = if front bytes == 116 then read_tab P table w bytes at else read_att P table w bytes at in
      let bad_or = if front bytes == 98 then read_bad P table w bytes at else tab_or in
      let T = FactThere MayBeConclusion w bytes x r in
      chosen (front bytes == 109) (read_mess P table w bytes at) (if front bytes == 101 then ev else bad_or) x p r T e
      (λ m told. mess_there MayBeConclusion (λ k t u. tt) w bytes at x p r told)
      (λ no_m other. chosen (front bytes == 101) ev bad_or x p r T other
      (λ v told. ev_there MayBeConclusion (λ e ts. tt) w bytes at x p r told)
      (λ no_v rest. chosen (front bytes == 98) (read_bad P table w bytes at) tab_or x p r T rest
      (λ b told. bad_there MayBeConclusion (λ ts. tt) w bytes at x p r told)
      (λ no_b last. chosen (front bytes == 116) (read_tab P table w bytes at) (read_att P table w bytes at) x p r T last
      (λ is told. tab_there MayBeConclusion (λ n ts. tt) w bytes at x p r told)
      (λ isnt told. att_there MayBeConclusion (λ k t. tt) w bytes at x p r told))))

  -- Constraints.

  -- a constraint by numbers that was read, and the walk through it
  pub record DiffThere (w : Walked) (bytes : List ℕ) (x : Behind (SidesOf Term)) (rest : List ℕ) : Type 0 where
    pub numbered : SidesOf ℕ
    pub meant : map_sides (term_at table) numbered ≡ x.value
    pub is : AreSidesOver IsShort numbered
    pub text : bytes ≡ sides_over number_text P numbered rest
    pub gone : Gone table w (diff_part numbered ∷ []) x.walked

  through_append : (w u v : Walked) (ms ns : List ℕ) → Through table true w ms u → Through table true u ns v → Through table true w (ms ++ ns) v
  through_append w u v ms ns first later =
      let numbers : terms_at (ms ++ ns) ≡ terms_at ms ++ terms_at ns = map-append (term_at table) ms ns in
      let clause_is = first.clause in
      let all_is = first.all in
      let later_clause = later.clause in
      let later_all = later.all in
      let sizes : total size (terms_at (ms ++ ns)) ≡ total size (terms_at ms) + total size (terms_at ns) = ap (total size) numbers ∙ total-append size (terms_at ms) (terms_at ns) in
      record {
        own = λ outside. absurd (let never : true ≡ false = outside in cc);
        order = order_append table w.seen ms ns first.order (subst (λ us. InOrder table us ns) first.seen later.order);
        seen = later.seen ∙ (ap (λ us. us ++ terms_at ns) first.seen ∙ (append_assoc w.seen (terms_at ms) (terms_at ns) ∙ ap (λ us. w.seen ++ us) (sym numbers)));
        small = both most_symbols w.clause u.clause clause_is first.small later.small;
        together = both most_certificate_symbols w.all u.all all_is first.together later.together;
        clause = omega (arith, later_clause, clause_is, sizes);
        all = omega (arith, later_all, all_is, sizes);
      }
    where
      both : (most before middle : ℕ) → middle ≡ before + total size (terms_at ms) → AreUpTo most (up_to_terms before (terms_at ms)) → AreUpTo most (up_to_terms middle (terms_at ns)) → AreUpTo most (up_to_terms before (terms_at (ms ++ ns)))
      both most before middle is one other =
          let here = up_to_terms before (terms_at ms) in
          let behind = up_to_terms (before + total size (terms_at ms)) (terms_at ns) in
          subst (AreUpTo most) (sym (ap (up_to_terms before) (map-append (term_at table) ms ns) ∙ up_to_append before (terms_at ms) (terms_at ns)))
          (all_append (λ n. n ≤ most) here behind one (subst (λ n. AreUpTo most (up_to_terms n (terms_at ns))) is other))

  -- what was read of both rows, whatever their numbers
  pub record SidesThere (w : Walked) (bytes : List ℕ) (left right : Behind (List Term)) (rest : List ℕ) : Type 0 where
    pub numbered : SidesOf ℕ
    pub left_is : left.value ≡ terms_at numbered.left
    pub right_is : right.value ≡ terms_at numbered.right
    pub left_short : AllByRecursion IsShort numbered.left
    pub right_short : AllByRecursion IsShort numbered.right
    pub left_some : 1 ≤ length numbered.left
    pub right_some : 1 ≤ length numbered.right
    pub text : bytes ≡ sides_over number_text P numbered rest
    pub through : Through table true (with_signs 1 w) (numbered.left ++ numbered.right) right.walked

  pub sides_were_read : (w : Walked) (bytes : List ℕ) (at : ℕ) (u : Unit {0}) (p : ℕ) (k : List ℕ) (left : Behind (List Term)) (q : ℕ) (j : List ℕ) (right : Behind (List Term)) (z : ℕ) (r : List ℕ)
      → read_fixed (codes "diff(") bytes at ≡ Found u p k → read_sides P table (codes ";") (with_signs 1 w) k p ≡ Found left q j → read_sides P table (codes ")") left.walked j q ≡ Found right z r → SidesThere w bytes left right r
  sides_were_read w bytes at u p k left q j right z r begin first second =
      let opens = fixed_there (codes "diff(") bytes at u p k begin in
      let lefts = row_there true 59 (suc (length k)) [] (with_signs 1 w) k p left q j first in
      let rights = row_there true 41 (suc (length j)) [] left.walked j q right z r second in
      let ms = lefts.first ∷ lefts.others in
      let ns = rights.first ∷ rights.others in
      record {
        numbered = record { left = ms; right = ns };
        left_is = lefts.value;
        right_is = rights.value;
        left_short = lefts.short;
        right_short = rights.short;
        left_some = omega arith;
        right_some = omega arith;
        text = opens ∙ ap (λ s. codes "diff(" ++ s) (lefts.text ∙ ap (λ s. terms_text number_text P ms (59 ∷ s)) rights.text);
        through = through_append (with_signs 1 w) left.walked right.walked ms ns lefts.through rights.through;
      }

  pub diff_there : (w : Walked) (bytes : List ℕ) (at : ℕ) (x : Behind (SidesOf Term)) (p : ℕ) (r : List ℕ) → read_diff P table w bytes at ≡ Found x p r → DiffThere w bytes x r
  diff_there w bytes at x p r e =
      let begin = parts (read_fixed (codes "diff(") bytes at) _ x p r e in
      let left = parts (read_sides P table (codes ";") (with_signs 1 w) begin.rest begin.place) _ x p r begin.later in
      let right = parts (read_sides P table (codes ")") left.value.walked left.rest left.place) _ x p r left.later in
      let there = sides_were_read w bytes at begin.value begin.place begin.rest left.value left.place left.rest right.value right.place right.rest begin.first left.first right.first in
      let made : SidesOf Term = record { left = left.value.value; right = right.value.value } in
      let cut = parts (paired at left.value.value right.value.value right.place right.rest) (λ s q k. Found (with s right.value.walked) q k) x p r right.later in
      let numbered = there.numbered in
      let ms = numbered.left in
      let ns = numbered.right in
      chosen (length left.value.value == length right.value.value) (Found made right.place right.rest) (Faulty at Arity) cut.value cut.place cut.rest (DiffThere w bytes x r) cut.first
      (λ fits end.
      let first : made ≡ cut.value = cc in
      let place : right.rest ≡ cut.rest = cc in
      let last : with cut.value right.value.walked ≡ x = cc in
      let rests : cut.rest ≡ r = cc in
      let whole : with made right.value.walked ≡ x = ap (λ s. with s right.value.walked) first ∙ last in
      let many : length ms ≡ length ns = sym (length-map ms (term_at table)) ∙ (sym (ap length there.left_is) ∙ (equal_byte (length left.value.value) (length right.value.value) fits ∙ (ap length there.right_is ∙ length-map ns (term_at table)))) in
      let left_is = there.left_is in
      let right_is = there.right_is in
      let some = there.left_some in
      subst (λ z. DiffThere w bytes z r) whole record {
        numbered = numbered;
        meant = λ i. record { left = sym left_is i; right = sym right_is i };
        is = record { left = there.left_short; right = there.right_short; paired = many; some = omega (arith, some) };
        text = there.text ∙ ap (sides_over number_text P numbered) (place ∙ rests);
        gone = gone_part table (diff_part numbered) w right.value.walked there.through;
      })
      (λ misfits never. absurd (cc))
