-- Where a symbol stands over terms of which it takes another number, a fault of arity is told there.
use Rattle.std.proofs.Common.{Bool, ◌≡◌, ◌≢◌, ℕ, suc, ◌+◌, ◌<◌, ◌≤◌, inr, true, false, ◌==◌, ◌&&◌, List, [], ◌∷◌, ◌++◌, length, Some, refl, sym, ◌∙◌, ap, subst, arith, nat_le}
use Rattle.std.proofs.lemmas.Bool.Decides.{nat_tests}
use Rattle.std.proofs.lemmas.List.{length-append}
use Rattle.std.specs.Fmt.{decimal}
use Rattle.std.specs.List.{AllByRecursion}
use Rattle.spec_trees.specs.Tree.{Leaf, Node, trees, node, depth}
use Rattle.spec_calculus.specs.Bounds.{most_term_levels}
use Rattle.spec_calculus.specs.Syntax.{Protocol}
use Rattle.spec_protocol_scope.specs.Names.{is_variable}
use Rattle.spec_protocol_scope.specs.Words.{IsSymbolWord}
use Rattle.spec_terms.specs.Term.{Sym, Ctor, Data, Tuple, Free, Point, Attacker, Term}
use Rattle.spec_run_text.proofs.Numbers.{numeral-decimal}
use Rattle.spec_certificate_text.specs.Loose.{row}
use Rattle.spec_certificate_text.specs.Words.{declared_word, word_at}
use Rattle.spec_certificate_text.specs.Written.{written, written_row}
use Rattle.spec_certificate_text.specs.Text.{term_text}
use Rattle.spec_certificate_text.specs.Spelled.{IsWord, goes_on}
use Rattle.spec_certificate_text.specs.OfProtocol.{IsShort, HasNames}
use Rattle.spec_certificate_text.proofs.Names.{constructor_word, free_word, symbol_word_is_word, restriction_word_is_word, decimal_digits, decimal_some}
use Rattle.spec_certificate_text.specs.Names.{Named, symbol_called, name_called}
use Rattle.spec_certificate_text.specs.Terms.{Syntax, Arity, Open, Begins, InWord, InDigits, Ended, Reading, Goes, Fault, head_text}
use Rattle.spec_certificate_text.specs.Steps.{goes, unless_deep, opened, with_parts, has_arity, closed, closing_byte, may_close, may_go_on, after_name, after_term, after_point, after_number, step}
use Rattle.spec_certificate_text.specs.Runs.{Refused, followed, read_on}
use Rattle.spec_certificate_text.proofs.Complete.{reading, goes_to, taken, passed, shallow, begins_at, head_over, applied_read, digits_start}
use Rattle.spec_certificate_text.proofs.Called.{free_called, constructor_called, point_called}
use Rattle.spec_certificate_text.proofs.Read.{itself, close_ends, close_no_comma, goes_on_at, node_text, tree_read}
use Rattle.spec_certificate_faults.specs.Grammar.{EndsBefore}
use Rattle.spec_certificate_faults.specs.TermFaults.{TakesOthers, MayStandBelow, IsMisapplied}
use Rattle.spec_certificate_faults.proofs.Comes.{either, StandsBefore, word_through, through_both, one_byte}
use Rattle.spec_certificate_faults.proofs.Heads.{digits_through}
use Rattle.spec_certificate_faults.proofs.Trees.{alone_step}
use Rattle.spec_certificate_faults.proofs.Told.{IsTold, told_behind, told_sooner, told_there, ToldHere, digits_step}

other_number : (m n : ℕ) → m ≢ n → (n == m) ≡ false
other_number m n e = grind (arith, nat_tests)

too_many : (m n : ℕ) → m < n → nat_le n m ≡ false
too_many m n e = grind (arith, nat_tests)

-- a symbol that is opened, and does not take so many arguments
record Misfits (named : Named) (f : Sym) (n : ℕ) : Type 0 where
  arity : has_arity named.symbol named.arity n ≡ false
  closes : may_close named.symbol n ≡ true
  comma : 2 ≤ n → may_go_on named.symbol ≡ true
  closing : closing_byte named.symbol ≡ closing_byte f

record Opens (binds : Bool) (P : Protocol) (f : Sym) (n : ℕ) (inside : List ℕ) (at : ℕ) (heads : List Open) (from : ℕ) : Type 0 where
  named : Named
  place : ℕ
  misfits : Misfits named f n
  is : read_on binds P (head_text P f inside) at (reading heads Begins from) ≡ read_on binds P inside place (reading (head_over named at [] ∷ heads) Begins at)

worded_opens : (binds : Bool) (P : Protocol) (w : List ℕ) (f : Sym) (arity n : ℕ) (inside : List ℕ) (at : ℕ) (heads : List Open) (m from : ℕ) → IsSymbolWord w → symbol_called P w ≡ Some record { symbol = f; arity = arity } → Misfits record { symbol = f; arity = arity } f n → head_text P f inside ≡ w ++ (40 ∷ inside)
    → length heads + suc m ≤ most_term_levels → Opens binds P f n inside at heads from
worded_opens binds P w f arity n inside at heads m from word called misfits text room = record {
  named = record { symbol = f; arity = arity };
  place = at + length w + 1;
  misfits = misfits;
  is = ap (λ bs. read_on binds P bs at (reading heads Begins from)) text ∙ applied_read binds P w record { symbol = f; arity = arity } inside at heads m from (symbol_word_is_word w word) called room;
}

opens : (binds : Bool) (P : Protocol) → HasNames P → (f : Sym) (n : ℕ) → TakesOthers P f n → (inside : List ℕ) (at : ℕ) (heads : List Open) (m from : ℕ) → length heads + suc m ≤ most_term_levels → Opens binds P f n inside at heads from
opens binds P names (Ctor f) n wrong inside at heads m from room =
    worded_opens binds P (declared_word P.constructors f) (Ctor f) wrong.0 n inside at heads m from (constructor_word P false f wrong.0 names wrong.1) (constructor_called P names false f wrong.0 wrong.1)
    record { arity = other_number wrong.0 n wrong.2; closes = refl; comma = λ two. refl; closing = refl } refl room
opens binds P names (Data f) n wrong inside at heads m from room =
    worded_opens binds P (declared_word P.constructors f) (Data f) wrong.0 n inside at heads m from (constructor_word P true f wrong.0 names wrong.1) (constructor_called P names true f wrong.0 wrong.1)
    record { arity = other_number wrong.0 n wrong.2; closes = refl; comma = λ two. refl; closing = refl } refl room
opens binds P names (Free a) n wrong inside at heads m from room =
    let none : wrong.0 ≡ 0 = wrong.1.1 in
    worded_opens binds P (declared_word P.frees a) (Free a) 0 n inside at heads m from (free_word P a names wrong.1.0) (free_called P names a wrong.1.0)
    record { arity = other_number 0 n (λ e. wrong.2 (none ∙ e)); closes = refl; comma = λ two. refl; closing = refl } refl room
opens binds P names (Tuple parts) n wrong inside at heads m from room = record {
  named = record { symbol = Tuple 0; arity = 0 };
  place = at + 1;
  misfits = record { arity = too_many 16 n wrong; closes = two_parts n (omega (arith, wrong)); comma = λ two. refl; closing = refl };
  is = goes_to binds P 40 inside at (reading heads Begins from) (reading (head_over record { symbol = Tuple 0; arity = 0 } at [] ∷ heads) Begins at)
      (begins_at binds P at heads m 40 (goes (head_over record { symbol = Tuple 0; arity = 0 } at [] ∷ heads) Begins at) room refl
      (shallow heads m at (opened heads record { symbol = Tuple 0; arity = 0 } at) (goes (head_over record { symbol = Tuple 0; arity = 0 } at [] ∷ heads) Begins at) room refl));
}
  where
    two_parts : (k : ℕ) → 2 ≤ k → nat_le 2 k ≡ true
    two_parts k le = grind (arith, nat_tests)
opens binds P names (Point p) n wrong inside at heads m from room =
    let start = digits_start binds P (word_at P p) (decimal p) p record { symbol = Point p; arity = wrong.0 } inside at heads m from (restriction_word_is_word P p wrong.0 names wrong.1.0) (decimal_digits p wrong.1.1) (numeral-decimal p wrong.1.1) (point_called P p wrong.0 wrong.1.0) room in
    record {
      named = record { symbol = Point p; arity = wrong.0 };
      place = start.0;
      misfits = record { arity = other_number wrong.0 n wrong.2; closes = refl; comma = λ two. refl; closing = refl };
      is = start.1;
    }
opens binds P names Attacker n wrong inside at heads m from room = absurd wrong

-- the last argument ended: the symbol is closed, and there are not as many as it takes
closes_wrong : (binds : Bool) (P : Protocol) (heads : List Open) (named : Named) (f : Sym) (n since : ℕ) (done : List Term) (t : Term) (k : List ℕ) (place from : ℕ) → Misfits named f n → length done + 1 ≡ n
    → read_on binds P (closing_byte named.symbol ∷ k) place (reading (head_over named since done ∷ heads) (Ended t) from) ≡ Refused since Arity
closes_wrong binds P heads named f n since done t k place from misfits count =
    let b = closing_byte named.symbol in
    let o = head_over named since done in
    let all = done ++ t ∷ [] in
    let many : length all ≡ n = length-append done (t ∷ []) ∙ count in
    let ended = goes heads (Ended (node (with_parts named.symbol (length all)) all)) since in
    let closed_so : closed o heads all ≡ Fault since Arity = passed (has_arity named.symbol named.arity (length all)) (unless_deep heads since ended) (Fault since Arity) _ (ap (has_arity named.symbol named.arity) many ∙ misfits.arity) refl in
    let may : ((b == b) && may_close named.symbol (length done + 1)) ≡ true = ap (λ c. c && may_close named.symbol (length done + 1)) (itself b) ∙ (ap (may_close named.symbol) count ∙ misfits.closes) in
    ap (followed (read_on binds P k (place + 1)) place (b ∷ k))
    (passed ((b == 44) && may_go_on named.symbol) _ _ _ (ap (λ c. c && may_go_on named.symbol) (close_no_comma named.symbol))
    (taken ((b == b) && may_close named.symbol (length done + 1)) (closed o heads all) (Fault place Syntax) _ may closed_so))

-- arguments are read, behind those that were read
arguments_wrong : (binds : Bool) (P : Protocol) → HasNames P → (named : Named) (f : Sym) (n since : ℕ) → Misfits named f n → (heads : List Open) (t : Term) (ts : List Term) → AllByRecursion (MayStandBelow binds P (suc (length heads))) (t ∷ ts) → (done : List Term) → length done + suc (length ts) ≡ n → (at from : ℕ) (k : List ℕ)
    → read_on binds P (row (written_row P (trees (t ∷ ts))) (closing_byte named.symbol ∷ k)) at (reading (head_over named since done ∷ heads) Begins from) ≡ Refused since Arity
arguments_wrong binds P names named f n since misfits heads t [] each done count at from k =
    let reached = tree_read binds P names t each.0.0 (head_over named since done ∷ heads) (omega (arith, each.0.1)) at from (closing_byte named.symbol) k (close_ends named.symbol) in
    reached.is ∙ closes_wrong binds P heads named f n since done t k reached.place reached.from misfits count
arguments_wrong binds P names named f n since misfits heads t (u ∷ us) each done count at from k =
    let others = row (written_row P (trees (u ∷ us))) (closing_byte named.symbol ∷ k) in
    let reached = tree_read binds P names t each.0.0 (head_over named since done ∷ heads) (omega (arith, each.0.1)) at from 44 others refl in
    reached.is ∙ (goes_on_at binds P heads named since done t others reached.place reached.from (misfits.comma (omega (arith, count)))
    ∙ arguments_wrong binds P names named f n since misfits heads u us each.1 (done ++ t ∷ []) (omega (arith, count, length-append done (t ∷ []))) (reached.place + 1) reached.from k)

pub positive_depth : (t : Term) → 1 ≤ depth t
positive_depth (Leaf x) = omega arith
positive_depth (Node f ts) = omega arith

told_at : (binds : Bool) (P : Protocol) (bytes : List ℕ) (at : ℕ) (r : Reading) → read_on binds P bytes at r ≡ Refused at Arity → IsTold binds P bytes at r bytes Arity
told_at binds P bytes at r e = record { place = at; told = Arity; is = e; not_after = inr (refl, omega arith) }

some_told : (binds : Bool) (P : Protocol) → HasNames P → (f : Sym) (t : Term) (ts : List Term) (k : List ℕ) (heads : List Open) → AllByRecursion (MayStandBelow binds P (suc (length heads))) (t ∷ ts) → TakesOthers P f (suc (length ts)) → (at from : ℕ) → IsTold binds P (term_text P (node f (t ∷ ts)) k) at (reading heads Begins from) (term_text P (node f (t ∷ ts)) k) Arity
some_told binds P names f t ts k heads each wrong at from =
    let n = suc (length ts) in
    let inside = row (written_row P (trees (t ∷ ts))) (closing_byte f ∷ k) in
    let start = opens binds P names f n wrong inside at heads 0 from (omega (arith, each.0.1, positive_depth t)) in
    told_at binds P (term_text P (node f (t ∷ ts)) k) at (reading heads Begins from)
    (ap (λ bs. read_on binds P bs at (reading heads Begins from)) (node_text P f t (trees ts) k)
    ∙ (start.is
    ∙ (ap (λ c. read_on binds P (row (written_row P (trees (t ∷ ts))) (c ∷ k)) start.place (reading (head_over start.named at [] ∷ heads) Begins at)) (sym start.misfits.closing)
    ∙ arguments_wrong binds P names start.named f n at start.misfits heads t ts each [] (omega arith) start.place at k)))

-- a symbol without arguments
bare_told : (binds : Bool) (P : Protocol) (w : List ℕ) (named : Named) (b : ℕ) (k : List ℕ) → IsSymbolWord w → symbol_called P w ≡ Some named → named.arity ≢ 0 → goes_on b ≡ false → ToldHere binds P (w ++ b ∷ k) (w ++ b ∷ k) Arity
bare_told binds P w named b k word called takes ends at heads from before =
    let bytes = w ++ b ∷ k in
    let start = reading heads Begins from in
    let in_word = reading heads (InWord w) at in
    either (word_through binds P w (b ∷ k) at heads from (symbol_word_is_word w word) before)
    (λ stopped. told_sooner binds P bytes at start bytes bytes Arity (omega arith) stopped)
    (λ one.
    let some : (named.arity == 0) ≡ false = other_number 0 named.arity (λ e. takes (sym e)) in
    let ended = after_term one.place (node named.symbol []) heads at b in
    let here : step binds P one.place in_word b ≡ Fault at Arity =
    alone_step binds P w b one.place heads at ends
    ∙ (passed (is_variable w) _ (after_name one.place heads at (symbol_called P w) b) _ word.1 (ap (λ o. after_name one.place heads at o b) called ∙ passed (named.arity == 0) (unless_deep heads at ended) (Fault at Arity) _ some refl)) in
    told_behind binds P bytes at start (b ∷ k) in_word bytes Arity one (told_there binds P b k one.place in_word bytes Arity at Arity here (sym one.counted) (omega arith)))

-- a restricted name without arguments
bare_name_told : (binds : Bool) (P : Protocol) (w : List ℕ) (p arity : ℕ) (k : List ℕ) → IsWord w → IsShort p → name_called P w p ≡ Some record { symbol = Point p; arity = arity } → arity ≢ 0 → ToldHere binds P (w ++ (64 ∷ (decimal p ++ (91 ∷ 93 ∷ k)))) (w ++ (64 ∷ (decimal p ++ (91 ∷ 93 ∷ k)))) Arity
bare_name_told binds P w p arity k word short called takes at heads from before =
    let digits = decimal p in
    let bytes = w ++ (64 ∷ (digits ++ (91 ∷ 93 ∷ k))) in
    let start = reading heads Begins from in
    let in_digits = reading heads (InDigits w digits) at in
    let named : Named = record { symbol = Point p; arity = arity } in
    let o = head_over named at [] in
    let over = reading (o ∷ heads) Begins at in
    either (digits_through binds P w digits (91 ∷ 93 ∷ k) at heads from word (decimal_digits p short) before)
    (λ stopped. told_sooner binds P bytes at start bytes bytes Arity (omega arith) stopped)
    (λ one.
    let opens_so : step binds P one.place in_digits 91 ≡ Goes over =
    digits_step binds P w digits 91 one.place heads at (decimal_some p short) refl
    ∙ (ap (λ o. after_number P one.place heads at w digits o 91) (numeral-decimal p short) ∙ ap (λ o. after_point one.place heads at o 91) called) in
    let two = one_byte binds P 91 (93 ∷ k) one.place in_digits over opens_so in
    let ended = goes heads (Ended (node (Point p) [])) at in
    let here : step binds P two.place over 93 ≡ Fault at Arity = passed (has_arity (Point p) arity 0) (unless_deep heads at ended) (Fault at Arity) _ (other_number arity 0 takes) refl in
    told_behind binds P bytes at start (93 ∷ k) over bytes Arity (through_both binds P bytes at start (91 ∷ 93 ∷ k) in_digits (93 ∷ k) over one two)
    (told_there binds P 93 k two.place over bytes Arity at Arity here (sym (two.counted ∙ one.counted)) (omega arith)))

bare_symbol_told : (binds : Bool) (P : Protocol) → HasNames P → (f : Sym) (behind : List ℕ) → TakesOthers P f 0 → EndsBefore (written P (node f [])) behind → ToldHere binds P (term_text P (node f []) behind) (term_text P (node f []) behind) Arity
bare_symbol_told binds P names (Ctor f) [] wrong ends = absurd ends
bare_symbol_told binds P names (Ctor f) (b ∷ k) wrong ends =
    bare_told binds P (declared_word P.constructors f) record { symbol = Ctor f; arity = wrong.0 } b k (constructor_word P false f wrong.0 names wrong.1) (constructor_called P names false f wrong.0 wrong.1) wrong.2 ends
bare_symbol_told binds P names (Data f) [] wrong ends = absurd ends
bare_symbol_told binds P names (Data f) (b ∷ k) wrong ends =
    bare_told binds P (declared_word P.constructors f) record { symbol = Data f; arity = wrong.0 } b k (constructor_word P true f wrong.0 names wrong.1) (constructor_called P names true f wrong.0 wrong.1) wrong.2 ends
bare_symbol_told binds P names (Free a) behind wrong ends = absurd (wrong.2 wrong.1.1)
bare_symbol_told binds P names (Tuple parts) behind wrong ends = absurd (omega (arith, wrong))
bare_symbol_told binds P names (Point p) behind wrong ends =
    bare_name_told binds P (word_at P p) p wrong.0 behind (restriction_word_is_word P p wrong.0 names wrong.1.0) wrong.1.1 (point_called P p wrong.0 wrong.1.0) wrong.2
bare_symbol_told binds P names Attacker behind wrong ends = absurd wrong

pub misapplied_told : (binds : Bool) (P : Protocol) → HasNames P → (here : List ℕ) (heads : List Open) → IsMisapplied binds P (suc (length heads)) here → (at from : ℕ) → StandsBefore heads at → IsTold binds P here at (reading heads Begins from) here Arity
misapplied_told binds P names here heads is at from before =
    subst (λ bs. IsTold binds P bs at (reading heads Begins from) bs Arity) (sym is.text) (by is.arguments is.each is.wrong is.ends)
  where
    by : (ts : List Term) → AllByRecursion (MayStandBelow binds P (suc (length heads))) ts → TakesOthers P is.symbol (length ts) → EndsBefore (written P (node is.symbol ts)) is.behind → IsTold binds P (term_text P (node is.symbol ts) is.behind) at (reading heads Begins from) (term_text P (node is.symbol ts) is.behind) Arity
    by [] each wrong ends = bare_symbol_told binds P names is.symbol is.behind wrong ends at heads from before
    by (t ∷ ts) each wrong ends = some_told binds P names is.symbol t ts is.behind heads each wrong at from
