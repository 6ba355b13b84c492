-- Nodes of a protocol are told apart by their lines.
use Rattle.std.proofs.Common.{◌≡◌, ℕ, ◌-◌, ◌<◌, Bool, true, false, ◌==◌, List, [], ◌∷◌, ◌++◌, map, length, refl, sym, ◌∙◌, ap, subst, arith}
use Rattle.std.specs.Char.{is_ascii_digit}
use Rattle.std.specs.Prelude.{nat_lt}
use borrow.Author.Tests.{ltb-true, ltb-false}
use Rattle.std.specs.Fmt.{decimal}
use Rattle.std.specs.List.{list_all, AllByRecursion}
use Rattle.std.proofs.lemmas.List.{length-map}
use Rattle.std.proofs.lemmas.Bool.Decides.{nat_tests}
use Rattle.spec_trees.specs.Tree.{Leaf, Node, node, trees, items_of}
use Rattle.spec_trees.proofs.Rows.{items_of-trees}
use Rattle.spec_trees.proofs.Occurrence.{or_false}
use Rattle.spec_calculus.specs.Syntax.{Protocol}
use Rattle.spec_protocol_tokens.specs.Bytes.{is_in_word}
use Rattle.spec_terms.specs.Term.{Sym, Ctor, Data, Tuple, Free, Point, Attacker, Term}
use Rattle.spec_certificate_text.specs.Loose.{Head, Applied, Tupled, Made, Attackers, Loose, LooseRow}
use Rattle.spec_certificate_text.specs.Sides.{first_bound}
use Rattle.spec_certificate_text.specs.Words.{declared_word}
use Rattle.spec_certificate_text.specs.Spelled.{IsWord, IsHead, Stops, goes_on}
use Rattle.spec_certificate_text.specs.OfProtocol.{IsShort, IsSymbolOf, IsTermBelow, AreSidesOf, most_side_variables, HasNames}
use Rattle.spec_certificate_text.specs.Written.{applied, headed, written, written_row}
use Rattle.spec_certificate_text.specs.Text.{numbers_text}
use Rattle.spec_certificate_text.proofs.Runs.{first_same, later_same, run_apart}
use Rattle.spec_certificate_text.proofs.Apart.{no_word, word_begins}
use Rattle.spec_certificate_text.proofs.Sides.{own_word, bound_word}
use Rattle.spec_certificate_text.proofs.Names.{symbol_word_is_word, constructor_word, free_word, restriction_word_is_word, variable_is_word, decimal_digits, one_decimal}
use Rattle.spec_certificate_text.proofs.Terms.{sides_apart}
use Rattle.spec_certificate_text.proofs.Clauses.{Same}
use Rattle.spec_node_tables.specs.Nodes.{TableNode, Variable, Over}
use Rattle.spec_node_tables.specs.OfProtocol.{IsNodeOf}
use Rattle.spec_node_tables.specs.Text.{symbol_head, node_head, head_text, node_numbers, node_text, node_lines}

pub differ : (a b : ℕ) (x y : List ℕ) → (a == b) ≡ false → a ∷ x ≡ b ∷ y → ⊥
differ a b x y tests e = let same : a ≡ b = first_same a b x y e in absurd (grind (arith, nat_tests))

-- Numbers behind spaces, up to the end of a line.

numbers_stop_digits : (ns : List ℕ) (k : List ℕ) → Stops is_ascii_digit (numbers_text ns (10 ∷ k))
numbers_stop_digits [] k = refl
numbers_stop_digits (n ∷ ns) k = refl

numbers_stop_words : (ns : List ℕ) (k : List ℕ) → Stops goes_on (numbers_text ns (10 ∷ k))
numbers_stop_words [] k = refl
numbers_stop_words (n ∷ ns) k = refl

numbers_apart : (ms ns : List ℕ) (k l : List ℕ) → AllByRecursion IsShort ms → AllByRecursion IsShort ns → numbers_text ms (10 ∷ k) ≡ numbers_text ns (10 ∷ l) → Same ms ns k l
numbers_apart [] [] k l are_m are_n e = record { thing = refl; rest = later_same 10 10 k l e }
numbers_apart [] (n ∷ ns) k l are_m are_n e = absurd (differ 10 32 k (decimal n ++ numbers_text ns (10 ∷ l)) refl e)
numbers_apart (m ∷ ms) [] k l are_m are_n e = absurd (differ 32 10 (decimal m ++ numbers_text ms (10 ∷ k)) l refl e)
numbers_apart (m ∷ ms) (n ∷ ns) k l are_m are_n e =
    let x = numbers_text ms (10 ∷ k) in
    let y = numbers_text ns (10 ∷ l) in
    let first = run_apart is_ascii_digit (decimal m) (decimal n) x y (decimal_digits m are_m.0) (decimal_digits n are_n.0) (numbers_stop_digits ms k) (numbers_stop_digits ns l) (later_same 32 32 (decimal m ++ x) (decimal n ++ y) e) in
    let later = numbers_apart ms ns k l are_m.1 are_n.1 first.rest in
    record { thing = ap (λ b. b ∷ ms) (one_decimal m n are_m.0 are_n.0 first.run) ∙ ap (λ bs. n ∷ bs) later.thing; rest = later.rest }

-- Heads: the word that a head begins with, if it does, and what stands behind it.

front : Head → List ℕ
front (Applied word) = word
front Tupled = []
front (Made word digits) = word
front Attackers = []

tail : Head → List ℕ → List ℕ
tail (Applied word) rest = rest
tail Tupled rest = 40 ∷ 41 ∷ rest
tail (Made word digits) rest = 64 ∷ (digits ++ rest)
tail Attackers rest = 64 ∷ rest

head_text-parts : (h : Head) (rest : List ℕ) → head_text h rest ≡ front h ++ tail h rest
unfolding front tail
head_text-parts (Applied word) rest = refl
head_text-parts Tupled rest = refl
head_text-parts (Made word digits) rest = refl
head_text-parts Attackers rest = refl

front_is_word : (h : Head) → IsHead h → list_all is_in_word (front h) ≡ true
unfolding front
front_is_word (Applied word) is = is.goes_on
front_is_word Tupled is = refl
front_is_word (Made word digits) is = is.0.goes_on
front_is_word Attackers is = refl

stops_word : (k : List ℕ) → Stops goes_on k → Stops is_in_word k
stops_word [] stops = tt
stops_word (b ∷ k) stops = (or_false (is_in_word b) (b == 40) (or_false _ (b == 64) stops).0).0

tail_stops : (h : Head) (rest : List ℕ) → Stops goes_on rest → Stops is_in_word (tail h rest)
unfolding tail
tail_stops (Applied word) rest stops = stops_word rest stops
tail_stops Tupled rest stops = refl
tail_stops (Made word digits) rest stops = refl
tail_stops Attackers rest stops = refl

record HeadsApart (h i : Head) (x y : List ℕ) : Type 0 where
  head : h ≡ i
  behind : x ≡ y

not_at : (k x : List ℕ) → Stops goes_on k → k ≡ 64 ∷ x → ⊥
not_at k x stops e = let passes : true ≡ false = subst (Stops goes_on) e stops in cc

not_open : (k x : List ℕ) → Stops goes_on k → k ≡ 40 ∷ x → ⊥
not_open k x stops e = let passes : true ≡ false = subst (Stops goes_on) e stops in cc

by_parts : (h i : Head) (x y : List ℕ) → IsHead h → IsHead i → Stops goes_on x → Stops goes_on y → Stops is_ascii_digit x → Stops is_ascii_digit y → front h ≡ front i → tail h x ≡ tail i y → HeadsApart h i x y
unfolding front tail
by_parts (Applied v) (Applied w) x y is_h is_i stops_x stops_y ends_x ends_y fronts tails = record { head = ap Applied fronts; behind = tails }
by_parts (Applied v) Tupled x y is_h is_i stops_x stops_y ends_x ends_y fronts tails = absurd (no_word (subst IsWord fronts is_h))
by_parts (Applied v) (Made w d) x y is_h is_i stops_x stops_y ends_x ends_y fronts tails = absurd (not_at x (d ++ y) stops_x tails)
by_parts (Applied v) Attackers x y is_h is_i stops_x stops_y ends_x ends_y fronts tails = absurd (no_word (subst IsWord fronts is_h))
by_parts Tupled (Applied w) x y is_h is_i stops_x stops_y ends_x ends_y fronts tails = absurd (no_word (subst IsWord (sym fronts) is_i))
by_parts Tupled Tupled x y is_h is_i stops_x stops_y ends_x ends_y fronts tails = record { head = refl; behind = later_same 41 41 x y (later_same 40 40 (41 ∷ x) (41 ∷ y) tails) }
by_parts Tupled (Made w d) x y is_h is_i stops_x stops_y ends_x ends_y fronts tails = absurd (no_word (subst IsWord (sym fronts) is_i.0))
by_parts Tupled Attackers x y is_h is_i stops_x stops_y ends_x ends_y fronts tails = absurd (differ 40 64 (41 ∷ x) y refl tails)
by_parts (Made v c) (Applied w) x y is_h is_i stops_x stops_y ends_x ends_y fronts tails = absurd (not_at y (c ++ x) stops_y (sym tails))
by_parts (Made v c) Tupled x y is_h is_i stops_x stops_y ends_x ends_y fronts tails = absurd (no_word (subst IsWord fronts is_h.0))
by_parts (Made v c) (Made w d) x y is_h is_i stops_x stops_y ends_x ends_y fronts tails =
    let digits = run_apart is_ascii_digit c d x y is_h.1 is_i.1 ends_x ends_y (later_same 64 64 (c ++ x) (d ++ y) tails) in
    record { head = ap (λ u. Made u c) fronts ∙ ap (Made w) digits.run; behind = digits.rest }
by_parts (Made v c) Attackers x y is_h is_i stops_x stops_y ends_x ends_y fronts tails = absurd (no_word (subst IsWord fronts is_h.0))
by_parts Attackers (Applied w) x y is_h is_i stops_x stops_y ends_x ends_y fronts tails = absurd (no_word (subst IsWord (sym fronts) is_i))
by_parts Attackers Tupled x y is_h is_i stops_x stops_y ends_x ends_y fronts tails = absurd (differ 64 40 x (41 ∷ y) refl tails)
by_parts Attackers (Made w d) x y is_h is_i stops_x stops_y ends_x ends_y fronts tails = absurd (no_word (subst IsWord (sym fronts) is_i.0))
by_parts Attackers Attackers x y is_h is_i stops_x stops_y ends_x ends_y fronts tails = record { head = refl; behind = later_same 64 64 x y tails }

heads_apart : (h i : Head) (x y : List ℕ) → IsHead h → IsHead i → Stops goes_on x → Stops goes_on y → Stops is_ascii_digit x → Stops is_ascii_digit y → head_text h x ≡ head_text i y → HeadsApart h i x y
heads_apart h i x y is_h is_i stops_x stops_y ends_x ends_y e =
    let parts = run_apart is_in_word (front h) (front i) (tail h x) (tail i y) (front_is_word h is_h) (front_is_word i is_i) (tail_stops h x stops_x) (tail_stops i y stops_y) (sym (head_text-parts h x) ∙ (e ∙ head_text-parts i y)) in
    by_parts h i x y is_h is_i stops_x stops_y ends_x ends_y parts.run parts.rest

-- A node as a term, with a variable for each argument: so what is known of terms tells symbols apart.

zeros : List ℕ → List Term
zeros ns = map (λ n. Leaf 0) ns

sample : TableNode → Term
sample (Variable x) = Leaf x
sample (Over f ns) = node f (zeros ns)

zeros_are : (P : Protocol) (ns : List ℕ) → AreSidesOf P (trees (zeros ns))
unfolding zeros
zeros_are P [] = tt
zeros_are P (n ∷ ns) = (omega arith, zeros_are P ns)

zeros_length : (ns : List ℕ) → length (items_of (trees (zeros ns))) ≡ length ns
unfolding zeros
zeros_length ns = ap length (items_of-trees (map (λ n. Leaf 0) ns)) ∙ length-map ns (λ n. Leaf 0)

sample_is : (P : Protocol) (n : TableNode) → IsNodeOf P n → IsTermBelow most_side_variables P (sample n)
unfolding sample
sample_is P (Variable x) is = is
sample_is P (Over f ns) is = (subst (IsSymbolOf P f) (sym (zeros_length ns)) is.0, zeros_are P ns)

-- a head over loose terms
over : Head → LooseRow → Loose
over (Applied word) ts = applied word ts
over Tupled ts = Node Tupled ts
over (Made word digits) ts = Node (Made word digits) ts
over Attackers ts = Node Attackers ts

headed-over : (P : Protocol) (f : Sym) (ts : LooseRow) → headed P f ts ≡ over (symbol_head P f) ts
unfolding over
headed-over P (Ctor f) ts = refl
headed-over P (Data f) ts = refl
headed-over P (Tuple m) ts = refl
headed-over P (Free a) ts = refl
headed-over P (Point p) ts = refl
headed-over P Attacker ts = refl

written-sample : (P : Protocol) (n : TableNode) → written P (sample n) ≡ over (node_head P n) (written_row P (trees (zeros (node_numbers n))))
unfolding sample over zeros
written-sample P (Variable x) = refl
written-sample P (Over f ns) = headed-over P f (written_row P (trees (zeros ns)))

-- The heads of nodes, but for those of bound variables, are heads.

own_node : TableNode → Bool
own_node (Variable x) = nat_lt x first_bound
own_node (Over f ns) = true

pub symbol_head_is : (P : Protocol) → HasNames P → (f : Sym) (n : ℕ) → IsSymbolOf P f n → IsHead (symbol_head P f)
symbol_head_is P names (Ctor f) n is = symbol_word_is_word (declared_word P.constructors f) (constructor_word P false f n names is)
symbol_head_is P names (Data f) n is = symbol_word_is_word (declared_word P.constructors f) (constructor_word P true f n names is)
symbol_head_is P names (Tuple m) n is = tt
symbol_head_is P names (Free a) n is = symbol_word_is_word (declared_word P.frees a) (free_word P a names is.0)
symbol_head_is P names (Point p) n is = (restriction_word_is_word P p n names is.0, decimal_digits p is.1)
symbol_head_is P names Attacker n is = tt

node_head_is : (P : Protocol) → HasNames P → (n : TableNode) → IsNodeOf P n → own_node n ≡ true → IsHead (node_head P n)
unfolding own_node
node_head_is P names (Variable x) is own = let short = ltb-true x first_bound own in subst IsWord (sym (own_word x short)) (variable_is_word x short)
node_head_is P names (Over f ns) is own = symbol_head_is P names f (length ns) is.0

samples_apart : (a b : TableNode) → sample a ≡ sample b → node_numbers a ≡ node_numbers b → a ≡ b
unfolding sample
samples_apart (Variable x) (Variable y) e numbers = let same : x ≡ y = cc in ap Variable same
samples_apart (Variable x) (Over g ms) e numbers = absurd (cc)
samples_apart (Over f ns) (Variable y) e numbers = absurd (cc)
samples_apart (Over f ns) (Over g ms) e numbers = let same : f ≡ g = cc in ap (λ h. Over h ns) same ∙ ap (Over g) numbers

nodes_same : (P : Protocol) → HasNames P → (a b : TableNode) → IsNodeOf P a → IsNodeOf P b → node_head P a ≡ node_head P b → node_numbers a ≡ node_numbers b → a ≡ b
nodes_same P names a b is_a is_b heads numbers =
    let texts : written P (sample a) ≡ written P (sample b) =
    written-sample P a ∙ (ap (λ h. over h (written_row P (trees (zeros (node_numbers a))))) heads
    ∙ (ap (λ ns. over (node_head P b) (written_row P (trees (zeros ns)))) numbers ∙ sym (written-sample P b))) in
    samples_apart a b (sides_apart most_side_variables (omega arith) P names (sample a) (sample b) (sample_is P a is_a) (sample_is P b is_b) texts) numbers

short_numbers : (P : Protocol) (n : TableNode) → IsNodeOf P n → AllByRecursion IsShort (node_numbers n)
short_numbers P (Variable x) is = tt
short_numbers P (Over f ns) is = is.1

own_apart : (P : Protocol) → HasNames P → (a b : TableNode) (k l : List ℕ) → IsNodeOf P a → IsNodeOf P b → own_node a ≡ true → own_node b ≡ true → node_text P a (10 ∷ k) ≡ node_text P b (10 ∷ l) → Same a b k l
own_apart P names a b k l is_a is_b own_a own_b e =
    let x = numbers_text (node_numbers a) (10 ∷ k) in
    let y = numbers_text (node_numbers b) (10 ∷ l) in
    let heads = heads_apart (node_head P a) (node_head P b) x y (node_head_is P names a is_a own_a) (node_head_is P names b is_b own_b)
    (numbers_stop_words (node_numbers a) k) (numbers_stop_words (node_numbers b) l) (numbers_stop_digits (node_numbers a) k) (numbers_stop_digits (node_numbers b) l) e in
    let numbers = numbers_apart (node_numbers a) (node_numbers b) k l (short_numbers P a is_a) (short_numbers P b is_b) heads.behind in
    record { thing = nodes_same P names a b is_a is_b heads.head numbers.thing; rest = numbers.rest }

-- Bound variables: `?` and digits.

bound_text : (P : Protocol) (x : ℕ) (rest : List ℕ) → nat_lt x first_bound ≡ false → node_text P (Variable x) rest ≡ 63 ∷ (decimal (x - first_bound) ++ rest)
bound_text P x rest bound = ap (λ w. w ++ rest) (bound_word x (ltb-false x first_bound bound))

head_no_bound : (h : Head) (rest y : List ℕ) → IsHead h → head_text h rest ≡ 63 ∷ y → ⊥
head_no_bound (Applied word) rest y is e = word_begins word rest 63 y is refl e
head_no_bound Tupled rest y is e = differ 40 63 (41 ∷ rest) y refl e
head_no_bound (Made word digits) rest y is e = word_begins word (64 ∷ (digits ++ rest)) 63 y is.0 refl e
head_no_bound Attackers rest y is e = differ 64 63 rest y refl e

-- no other node begins so
no_bound : (P : Protocol) → HasNames P → (a b : TableNode) (k l : List ℕ) → IsNodeOf P a → own_node a ≡ true → own_node b ≡ false → node_text P a k ≡ node_text P b l → ⊥
unfolding own_node
no_bound P names a (Variable y) k l is own bound e = head_no_bound (node_head P a) (numbers_text (node_numbers a) k) (decimal (y - first_bound) ++ l) (node_head_is P names a is own) (e ∙ bound_text P y l bound)
no_bound P names a (Over g ms) k l is own bound e = absurd (cc)

bound_apart : (P : Protocol) (a b : TableNode) (k l : List ℕ) → IsNodeOf P a → IsNodeOf P b → own_node a ≡ false → own_node b ≡ false → node_text P a (10 ∷ k) ≡ node_text P b (10 ∷ l) → Same a b k l
unfolding own_node
bound_apart P (Variable x) (Variable y) k l is_a is_b bound_a bound_b e =
    let over_x = ltb-false x first_bound bound_a in
    let over_y = ltb-false y first_bound bound_b in
    let short_x : x - first_bound < first_bound = omega (arith, is_a, over_x) in
    let short_y : y - first_bound < first_bound = omega (arith, is_b, over_y) in
    let inside = later_same 63 63 (decimal (x - first_bound) ++ (10 ∷ k)) (decimal (y - first_bound) ++ (10 ∷ l)) (sym (bound_text P x (10 ∷ k) bound_a) ∙ (e ∙ bound_text P y (10 ∷ l) bound_b)) in
    let digits = run_apart is_ascii_digit (decimal (x - first_bound)) (decimal (y - first_bound)) (10 ∷ k) (10 ∷ l) (decimal_digits (x - first_bound) short_x) (decimal_digits (y - first_bound) short_y) refl refl inside in
    let same = one_decimal (x - first_bound) (y - first_bound) short_x short_y digits.run in
    let numbers : x ≡ y = omega (arith, same, over_x, over_y) in
    record { thing = ap Variable numbers; rest = later_same 10 10 k l digits.rest }
bound_apart P (Over f ns) b k l is_a is_b bound_a bound_b e = absurd (cc)
bound_apart P (Variable x) (Over g ms) k l is_a is_b bound_a bound_b e = absurd (cc)

node_apart : (P : Protocol) → HasNames P → (a b : TableNode) (k l : List ℕ) → IsNodeOf P a → IsNodeOf P b → node_text P a (10 ∷ k) ≡ node_text P b (10 ∷ l) → Same a b k l
node_apart P names a b k l is_a is_b e = go (own_node a) (own_node b) refl refl where
  go : (c d : Bool) → own_node a ≡ c → own_node b ≡ d → Same a b k l
  go true true own_a own_b = own_apart P names a b k l is_a is_b own_a own_b e
  go true false own_a bound_b = absurd (no_bound P names a b (10 ∷ k) (10 ∷ l) is_a own_a bound_b e)
  go false true bound_a own_b = absurd (no_bound P names b a (10 ∷ l) (10 ∷ k) is_b own_b bound_a (sym e))
  go false false bound_a bound_b = bound_apart P a b k l is_a is_b bound_a bound_b e

-- whether the byte is that letter
unfoldable pub is_letter : ℕ → ℕ → Bool
is_letter letter b = b == letter

pub begins_with : (letter : ℕ) (k x : List ℕ) → (letter == letter) ≡ true → Stops (is_letter letter) k → k ≡ letter ∷ x → ⊥
unfolding is_letter
begins_with letter k x itself stops e = let fails : (letter == letter) ≡ false = subst (Stops (is_letter letter)) e stops in cc

pub node_lines_apart : (P : Protocol) → HasNames P → (ns ms : List TableNode) (k l : List ℕ) → AllByRecursion (IsNodeOf P) ns → AllByRecursion (IsNodeOf P) ms → Stops (is_letter 110) k → Stops (is_letter 110) l → node_lines P ns k ≡ node_lines P ms l → Same ns ms k l
node_lines_apart P names [] [] k l are_a are_b stops_k stops_l e = record { thing = refl; rest = e }
node_lines_apart P names [] (b ∷ ms) k l are_a are_b stops_k stops_l e = absurd (begins_with 110 k (32 ∷ node_text P b (10 ∷ node_lines P ms l)) refl stops_k e)
node_lines_apart P names (a ∷ ns) [] k l are_a are_b stops_k stops_l e = absurd (begins_with 110 l (32 ∷ node_text P a (10 ∷ node_lines P ns k)) refl stops_l (sym e))
node_lines_apart P names (a ∷ ns) (b ∷ ms) k l are_a are_b stops_k stops_l e =
    let x = node_text P a (10 ∷ node_lines P ns k) in
    let y = node_text P b (10 ∷ node_lines P ms l) in
    let first = node_apart P names a b (node_lines P ns k) (node_lines P ms l) are_a.0 are_b.0 (later_same 32 32 x y (later_same 110 110 (32 ∷ x) (32 ∷ y) e)) in
    let later = node_lines_apart P names ns ms k l are_a.1 are_b.1 stops_k stops_l first.rest in
    record { thing = ap (λ c. c ∷ ns) first.thing ∙ ap (λ cs. b ∷ cs) later.thing; rest = later.rest }
