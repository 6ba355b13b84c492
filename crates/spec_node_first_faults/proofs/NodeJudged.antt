-- A node as a whole, behind those before it: a reader of it tells the first fault.
use Rattle.std.proofs.Common.{◌≡◌, ℕ, ◌+◌, ◌<◌, ◌≤◌, ◌==◌, ◌&&◌, ◌⊎◌, inl, inr, not, nat_le, if◌then◌else◌, Bool, true, false, List, [], ◌∷◌, ◌++◌, length, refl, sym, ◌∙◌, ap, subst, arith, length-append}
use Rattle.std.specs.List.{AllByRecursion, list_any}
use Rattle.std.proofs.lemmas.Bool.Decides.{nat_tests}
use Rattle.spec_trees.specs.Tree.{size}
use Rattle.spec_trees.proofs.Occurrence.{or_true}
use Rattle.spec_calculus.specs.Bounds.{most_symbols, most_arguments}
use Rattle.spec_calculus.specs.Syntax.{Protocol}
use Rattle.spec_terms.specs.Term.{Sym, Ctor, Data, Tuple, Free, Point, Attacker, Term}
use Rattle.spec_clauses.specs.Fact.{same_term}
use Rattle.spec_clauses.specs.Inclusion.{here, there, Has}
use Rattle.spec_clauses.proofs.Equality.{same_term-decides}
use Rattle.spec_clauses.proofs.Inclusion.{all_has}
use Rattle.spec_certificate_text.specs.OfProtocol.{IsShort, HasNames, IsSymbolOf}
use Rattle.spec_certificate_text.specs.Terms.{Code, Syntax, Number, Symbol, Arity, Count, NodeOrder, NodeLarge}
use Rattle.spec_certificate_text.specs.Outcomes.{Found, Faulty}
use Rattle.spec_certificate_text.proofs.Parts.{Finds, other_byte, same_byte}
use Rattle.spec_certificate_faults.specs.Grammar.{EndsAt}
use Rattle.spec_certificate_faults.proofs.Comes.{either}
use Rattle.spec_first_faults.specs.Kinds.{marked}
use Rattle.spec_first_faults.proofs.Tells.{Anything, GoesPastIt, Tells}
use Rattle.spec_first_faults.proofs.Marked.{judged, checked, IsJudged, marked_tells}
use Rattle.spec_node_tables.specs.Nodes.{TableNode, Variable, Over, term_of}
use Rattle.spec_node_tables.specs.Text.{node_numbers, node_text}
use Rattle.spec_node_tables.specs.OfProtocol.{IsNodeOf}
use Rattle.spec_node_tables.specs.Order.{IsNumberOf}
use Rattle.spec_node_tables.specs.Large.{is_over}
use Rattle.spec_node_reading.specs.Nodes.{heads, bodies, own_number, IsNodeThere, TakesOthers, IsMisapplied, IsEarlier, NodeFault}
use Rattle.spec_node_reading.specs.ReadNodes.{HeadRead, IsVariable, Names, NodeRead, read_body, takes, node_read, judged_node}
use Rattle.spec_node_reading.proofs.NodesThere.{none_same}
use Rattle.spec_node_first_faults.proofs.InClosed.{IsFirstHere, marked_more}
use Rattle.spec_node_first_faults.proofs.NodeSpaced.{node_goes_on, long_text}
use Rattle.spec_node_first_faults.proofs.NodeBodies.{with_numbers, BodyIs, bodies_tell, body_was_read}
use Rattle.spec_node_first_faults.proofs.NodeFound.{Takes, head_of, variable_body, symbol_body}

-- Which terms stand earlier.

any_has : (t : Term) (us : List Term) → list_any (same_term t) us ≡ true → Has us t
any_has t [] e = absurd (cc)
any_has t (u ∷ us) e =
    either (or_true (same_term t u) (list_any (same_term t) us) e)
    (λ same. let is : t ≡ u = (same_term-decides t u).0 same in subst (λ v. Has (v ∷ us) t) is (us, here))
    (λ later. let found = any_has t us later in (u ∷ found.0, there found.1))

-- How many numbers a symbol takes.

unfit_tuple : (n : ℕ) → (n < 2) ⊎ (most_arguments < n) → (nat_le 2 n && nat_le n most_arguments) ≡ false
unfit_tuple n (inl few) = let least : nat_le 2 n ≡ false = grind (arith, nat_tests, few) in ap (λ b. b && nat_le n most_arguments) least
unfit_tuple n (inr many) = by (nat_le 2 n)
  where
    by : (b : Bool) → (b && nat_le n most_arguments) ≡ false
    by true = grind (arith, nat_tests, many)
    by false = refl

fit_tuple : (n : ℕ) → 2 ≤ n → n ≤ most_arguments → (nat_le 2 n && nat_le n most_arguments) ≡ true
fit_tuple n least most =
    let one : nat_le 2 n ≡ true = grind (arith, nat_tests, least) in
    let two : nat_le n most_arguments ≡ true = grind (arith, nat_tests, most) in
    ap (λ b. b && nat_le n most_arguments) one ∙ two

-- a symbol that takes another number of numbers, as it is read
record UnfitSymbol (P : Protocol) (f : Sym) (n : ℕ) : Type 0 where
  arity : ℕ
  is : Takes P f arity
  unfit : takes (head_of f arity) n ≡ false
  other : f ≡ Attacker → n ≡ 1

unfit_symbol : (P : Protocol) (f : Sym) (n : ℕ) → TakesOthers P f n → UnfitSymbol P f n
unfit_symbol P (Ctor f) n (arity, is, other) = record { arity = arity; is = is; unfit = other_byte n arity (λ same. other (sym same)); other = λ never. absurd (cc) }
unfit_symbol P (Data f) n (arity, is, other) = record { arity = arity; is = is; unfit = other_byte n arity (λ same. other (sym same)); other = λ never. absurd (cc) }
unfit_symbol P (Free a) n (arity, is, other) = record { arity = arity; is = is; unfit = other_byte n arity (λ same. other (sym same)); other = λ never. absurd (cc) }
unfit_symbol P (Point p) n (arity, is, other) = record { arity = arity; is = is; unfit = other_byte n arity (λ same. other (sym same)); other = λ never. absurd (cc) }
unfit_symbol P (Tuple m) n wrong = record { arity = 0; is = refl; unfit = unfit_tuple n wrong; other = λ never. absurd (cc) }
unfit_symbol P Attacker n wrong = absurd wrong

module _ (P : Protocol) (names : HasNames P) (before : List Term) where
  abbrev own : ℕ
  own = own_number before

  abbrev node_of : NodeRead → TableNode
  node_of x = node_read x.head x.numbers

  abbrev fits : NodeRead → Bool
  fits x = takes x.head (length x.numbers)

  abbrev is_earlier : TableNode → Bool
  is_earlier node = list_any (same_term (term_of before node)) before

  abbrev is_large : TableNode → Bool
  is_large node = is_over most_symbols (size (term_of before node))

  judge_by : TableNode → (fit earlier over : Bool) → Code ⊎ List Term
  judge_by node false earlier over = inl Arity
  judge_by node true true over = inl NodeOrder
  judge_by node true false true = inl NodeLarge
  judge_by node true false false = inr (before ++ term_of before node ∷ [])

  pub judge_node : NodeRead → Code ⊎ List Term
  judge_node x = judge_by (node_of x) (fits x) (is_earlier (node_of x)) (is_large (node_of x))

  pub judged_as : (x : NodeRead) (from place : ℕ) (rest : List ℕ) → judged_node before from x place rest ≡ judged (judge_node x) from place rest
  unfolding judge_node judge_by
  judged_as x from place rest = by (fits x) (is_earlier (node_of x)) (is_large (node_of x))
    where
      by : (fit earlier over : Bool)
          → (if not fit then Faulty from Arity else (if earlier then Faulty from NodeOrder else (if over then Faulty from NodeLarge else Found (before ++ (term_of before (node_of x) ∷ [])) place rest)))
          ≡ judged (judge_by (node_of x) fit earlier over) from place rest
      by false earlier over = refl
      by true true over = refl
      by true false true = refl
      by true false false = refl

  -- what a node is judged to be
  data JudgedSo (x : NodeRead) (code : Code) : Type 0 where
    unfit : fits x ≡ false → code ≡ Arity → JudgedSo x code
    earlier : fits x ≡ true → is_earlier (node_of x) ≡ true → code ≡ NodeOrder → JudgedSo x code
    large : fits x ≡ true → is_earlier (node_of x) ≡ false → is_large (node_of x) ≡ true → code ≡ NodeLarge → JudgedSo x code

  judged_so : (x : NodeRead) (code : Code) → judge_node x ≡ inl code → JudgedSo x code
  unfolding judge_node judge_by
  judged_so x code e = by (fits x) refl (is_earlier (node_of x)) refl (is_large (node_of x)) refl e
    where
      by : (fit : Bool) → fits x ≡ fit → (old : Bool) → is_earlier (node_of x) ≡ old → (over : Bool) → is_large (node_of x) ≡ over → judge_by (node_of x) fit old over ≡ inl code → JudgedSo x code
      by false f old o over l told = let codes_are : Arity ≡ code = cc in unfit f (sym codes_are)
      by true f true o over l told = let codes_are : NodeOrder ≡ code = cc in earlier f o (sym codes_are)
      by true f false o true l told = let codes_are : NodeLarge ≡ code = cc in large f o l (sym codes_are)
      by true f false o false l told = absurd (cc)

  unfit_told : (x : NodeRead) → fits x ≡ false → judge_node x ≡ inl Arity
  unfolding judge_node judge_by
  unfit_told x f = ap (λ b. judge_by (node_of x) b (is_earlier (node_of x)) (is_large (node_of x))) f

  earlier_told : (x : NodeRead) → fits x ≡ true → is_earlier (node_of x) ≡ true → judge_node x ≡ inl NodeOrder
  unfolding judge_node judge_by
  earlier_told x f o = ap (λ b. judge_by (node_of x) b (is_earlier (node_of x)) (is_large (node_of x))) f ∙ ap (λ b. judge_by (node_of x) true b (is_large (node_of x))) o

  large_told : (x : NodeRead) → fits x ≡ true → is_earlier (node_of x) ≡ false → is_large (node_of x) ≡ true → judge_node x ≡ inl NodeLarge
  unfolding judge_node judge_by
  large_told x f o l =
      ap (λ b. judge_by (node_of x) b (is_earlier (node_of x)) (is_large (node_of x))) f
      ∙ (ap (λ b. judge_by (node_of x) true b (is_large (node_of x))) o ∙ ap (judge_by (node_of x) true false) l)

  -- What is read where a node stands.

  -- the node is read, and takes its numbers
  record NodeIsRead (node : TableNode) (bytes rest : List ℕ) (at : ℕ) : Type 0 where
    head : HeadRead
    finds : Finds (read_body P own bytes at) (with_numbers head (node_numbers node)) rest
    fit : takes head (length (node_numbers node)) ≡ true
    same : node_read head (node_numbers node) ≡ node

  lower_than : (ns : List ℕ) → AllByRecursion IsShort ns → AllByRecursion (IsNumberOf (length before)) ns → AllByRecursion (λ n. IsShort n × (1 ≤ n) × (n < own)) ns
  lower_than [] short below = tt
  lower_than (n ∷ ns) short below = let some = below.0.0 in let most = below.0.1 in ((short.0, some, omega arith), lower_than ns short.1 below.1)

  numbers_below : (ns : List ℕ) → AllByRecursion (λ n. (1 ≤ n) × (n < own)) ns → AllByRecursion (IsNumberOf (length before)) ns
  numbers_below [] below = tt
  numbers_below (n ∷ ns) below = let some = below.0.0 in let less = below.0.1 in ((some, omega arith), numbers_below ns below.1)

  symbol_is_read : (f : Sym) (ns : List ℕ) (bytes rest : List ℕ) (at : ℕ) → IsNodeOf P (Over f ns) → IsNodeThere P before (Over f ns) bytes rest → NodeIsRead (Over f ns) bytes rest at
  symbol_is_read f ns bytes rest at is stands = by f is.0 stands.text stands.whole
    where
      lower : AllByRecursion (λ n. IsShort n × (1 ≤ n) × (n < own)) ns
      lower = lower_than ns stands.short stands.below

      found : (g : Sym) (arity : ℕ) → Takes P g arity → (g ≡ Attacker → length ns ≡ 1) → bytes ≡ node_text P (Over g ns) rest → (bodies P own).Text bytes rest → Finds (read_body P own bytes at) (with_numbers (head_of g arity) ns) rest
      found g arity takes_so one text whole =
          subst (λ bs. Finds (read_body P own bs at) (with_numbers (head_of g arity) ns) rest) (sym text) (symbol_body P names own g arity ns rest takes_so lower one (subst (λ bs. (bodies P own).Text bs rest) text whole) at)

      by : (g : Sym) → IsSymbolOf P g (length ns) → bytes ≡ node_text P (Over g ns) rest → (bodies P own).Text bytes rest → NodeIsRead (Over g ns) bytes rest at
      by (Ctor c) of text whole = record { head = head_of (Ctor c) (length ns); finds = found (Ctor c) (length ns) of (λ never. absurd (cc)) text whole; fit = same_byte (length ns); same = refl }
      by (Data c) of text whole = record { head = head_of (Data c) (length ns); finds = found (Data c) (length ns) of (λ never. absurd (cc)) text whole; fit = same_byte (length ns); same = refl }
      by (Free a) of text whole = record { head = head_of (Free a) (length ns); finds = found (Free a) (length ns) of (λ never. absurd (cc)) text whole; fit = same_byte (length ns); same = refl }
      by (Point p) of text whole = record { head = head_of (Point p) (length ns); finds = found (Point p) (length ns) of (λ never. absurd (cc)) text whole; fit = same_byte (length ns); same = refl }
      by (Tuple m) of text whole = record { head = head_of (Tuple m) 0; finds = found (Tuple m) 0 refl (λ never. absurd (cc)) text whole; fit = fit_tuple (length ns) of.1 of.2; same = ap (λ k. Over (Tuple k) ns) (sym of.0) }
      by Attacker of text whole = record { head = head_of Attacker 1; finds = found Attacker 1 refl (λ same. of) text whole; fit = ap (λ n. n == 1) of; same = refl }

  node_is_read : (node : TableNode) (bytes rest : List ℕ) (at : ℕ) → IsNodeOf P node → IsNodeThere P before node bytes rest → NodeIsRead node bytes rest at
  node_is_read (Over f ns) bytes rest at is stands = symbol_is_read f ns bytes rest at is stands
  node_is_read (Variable x) bytes rest at is stands = record {
    head = IsVariable x;
    finds = subst (λ bs. Finds (read_body P own bs at) (with_numbers (IsVariable x) []) rest) (sym stands.text) (variable_body P names own x rest is (subst (λ bs. (bodies P own).Text bs rest) stands.text stands.whole) at);
    fit = refl;
    same = refl;
  }

  -- Faults that are told: of two at a place the one of the less number.

  record IsLargeAndNew (bytes : List ℕ) : Type 0 where
    node : TableNode
    rest : List ℕ
    is : IsNodeOf P node
    there : IsNodeThere P before node bytes rest
    new : is_earlier node ≡ false
    large : most_symbols < size (term_of before node)

  abbrev ToldFault : Code → List ℕ → Type 0
  ToldFault Arity bytes = IsMisapplied P before bytes
  ToldFault NodeOrder bytes = IsEarlier P before bytes
  ToldFault NodeLarge bytes = IsLargeAndNew bytes
  ToldFault code bytes = ⊥

  has_earlier : (node : TableNode) → Has before (term_of before node) → is_earlier node ≡ true
  has_earlier node has = by (is_earlier node) refl
    where
      by : (b : Bool) → is_earlier node ≡ b → is_earlier node ≡ true
      by true is = is
      by false is =
          let t = term_of before node in
          let none = all_has (λ u. same_term t u ≡ false) before t (none_same P before t before is) has in
          absurd (let never : true ≡ false = sym ((same_term-decides t t).1 refl) ∙ none in cc)

  told_misapplied : (bytes : List ℕ) (at : ℕ) → IsMisapplied P before bytes → IsJudged judge_node (read_body P own bytes at) Arity
  told_misapplied bytes at is =
      let unfit_one = unfit_symbol P is.symbol (length is.numbers) is.wrong in
      let head = head_of is.symbol unfit_one.arity in
      let found = symbol_body P names own is.symbol unfit_one.arity is.numbers is.rest unfit_one.is (lower_than is.numbers is.there.short is.there.below) unfit_one.other (subst (λ bs. (bodies P own).Text bs is.rest) is.there.text is.there.whole) at in
      record { value = with_numbers head is.numbers; place = found.place; rest = is.rest; is = ap (λ bs. read_body P own bs at) is.there.text ∙ found.is; so = unfit_told (with_numbers head is.numbers) unfit_one.unfit }

  told_earlier : (bytes : List ℕ) (at : ℕ) → IsEarlier P before bytes → IsJudged judge_node (read_body P own bytes at) NodeOrder
  told_earlier bytes at is =
      let read = node_is_read is.node bytes is.rest at is.is is.there in
      let x = with_numbers read.head (node_numbers is.node) in
      record { value = x; place = read.finds.place; rest = is.rest; is = read.finds.is; so = earlier_told x read.fit (ap is_earlier read.same ∙ has_earlier is.node is.earlier) }

  told_large : (bytes : List ℕ) (at : ℕ) → IsLargeAndNew bytes → IsJudged judge_node (read_body P own bytes at) NodeLarge
  told_large bytes at is =
      let read = node_is_read is.node bytes is.rest at is.is is.there in
      let x = with_numbers read.head (node_numbers is.node) in
      let size_of = size (term_of before is.node) in
      let over_so : most_symbols < size_of = is.large in
      let over : is_over most_symbols size_of ≡ true = grind (arith, nat_tests, over_so) in
      record { value = x; place = read.finds.place; rest = is.rest; is = read.finds.is; so = large_told x read.fit (ap is_earlier read.same ∙ is.new) (ap is_large read.same ∙ over) }

  -- what was read stands there
  there_of : (bytes : List ℕ) (x : NodeRead) (rest : List ℕ) → BodyIs P names own bytes x rest → (bodies P own).Text bytes rest → IsNodeThere P before (node_of x) bytes rest
  there_of bytes x rest is whole = record { text = is.text; whole = whole; short = by x.head is.short; below = by_below x.head (numbers_below x.numbers is.below) }
    where
      by : (head : HeadRead) → AllByRecursion IsShort x.numbers → AllByRecursion IsShort (node_numbers (node_read head x.numbers))
      by (IsVariable v) short = tt
      by (Names named) short = short

      by_below : (head : HeadRead) → AllByRecursion (IsNumberOf (length before)) x.numbers → AllByRecursion (IsNumberOf (length before)) (node_numbers (node_read head x.numbers))
      by_below (IsVariable v) below = tt
      by_below (Names named) below = below

  stands_there : (code : Code) (bytes : List ℕ) (x : NodeRead) (rest : List ℕ) → BodyIs P names own bytes x rest → (bodies P own).Text bytes rest → JudgedSo x code → ToldFault code bytes
  stands_there code bytes x rest is whole (unfit f codes_are) =
      let wrong = is.unfit f in
      let stands = subst (λ n. IsNodeThere P before n bytes rest) wrong.is (there_of bytes x rest is whole) in
      subst (λ c. ToldFault c bytes) (sym codes_are) record { symbol = wrong.symbol; numbers = x.numbers; rest = rest; there = stands; wrong = wrong.wrong }
  stands_there code bytes x rest is whole (earlier f o codes_are) =
      subst (λ c. ToldFault c bytes) (sym codes_are) record { node = node_of x; rest = rest; is = is.fits f; there = there_of bytes x rest is whole; earlier = any_has (term_of before (node_of x)) before o }
  stands_there code bytes x rest is whole (large f o l codes_are) =
      subst (λ c. ToldFault c bytes) (sym codes_are) record { node = node_of x; rest = rest; is = is.fits f; there = there_of bytes x rest is whole; new = o; large = grind (arith, nat_tests, l) }

  head_long : (bytes rest : List ℕ) → (heads P).Text bytes rest → length rest + 1 ≤ length bytes
  head_long bytes rest (inr text) = omega (arith, ap length text)
  head_long bytes rest (inl (mid, run, inr (same, ends))) = omega (arith, ap length run.text, length-append run.run mid, run.some, ap length same)
  head_long bytes rest (inl (mid, run, inl (inner, opens, digits))) = omega (arith, ap length run.text, length-append run.run mid, ap length opens, ap length digits.text, length-append digits.run rest)

  body_long : (bytes rest : List ℕ) → (bodies P own).Text bytes rest → length rest + 1 ≤ length bytes
  body_long bytes rest (inl (mid, opens, run)) = omega (arith, ap length opens, ap length run.text, length-append run.run rest)
  body_long bytes rest (inr (inl (mid, opens, run))) = omega (arith, ap length opens, ap length run.text, length-append run.run rest)
  body_long bytes rest (inr (inr (mid, head, numbers))) = let more = head_long bytes mid head in let less = long_text own mid rest numbers in omega (arith, more, less)

  text_past : (bytes rest : List ℕ) → (bodies P own).Text bytes rest → GoesPastIt (bodies P own) bytes bytes
  text_past [] rest text = let long = body_long [] rest text in absurd (omega (arith, long))
  text_past (b ∷ bytes) rest text = let long = body_long (b ∷ bytes) rest text in record { before = []; text = refl; first = b; later = bytes; begins = refl; extends = record { other = bytes; rest = rest; long = omega (arith, long); is = text } }

  told_past : (code : Code) (bytes : List ℕ) → ToldFault code bytes → GoesPastIt (bodies P own) bytes bytes
  told_past Arity bytes fault = text_past bytes fault.rest fault.there.whole
  told_past NodeOrder bytes fault = text_past bytes fault.rest fault.there.whole
  told_past NodeLarge bytes fault = text_past bytes fault.rest fault.there.whole
  told_past Syntax bytes fault = absurd fault
  told_past Number bytes fault = absurd fault
  told_past Symbol bytes fault = absurd fault
  told_past Count bytes fault = absurd fault

  told_judged : (code : Code) (bytes : List ℕ) (at : ℕ) → ToldFault code bytes → IsJudged judge_node (read_body P own bytes at) code
  told_judged Arity bytes at fault = told_misapplied bytes at fault
  told_judged NodeOrder bytes at fault = told_earlier bytes at fault
  told_judged NodeLarge bytes at fault = told_large bytes at fault
  told_judged Syntax bytes at fault = absurd fault
  told_judged Number bytes at fault = absurd fault
  told_judged Symbol bytes at fault = absurd fault
  told_judged Count bytes at fault = absurd fault

  exact : (code : Code) (bytes : List ℕ) → ToldFault code bytes → NodeFault P before code bytes
  exact Arity bytes fault = fault
  exact NodeOrder bytes fault = fault
  exact NodeLarge bytes fault = record { node = fault.node; rest = fault.rest; is = fault.is; there = fault.there; large = fault.large }
  exact Syntax bytes fault = fault
  exact Number bytes fault = fault
  exact Symbol bytes fault = fault
  exact Count bytes fault = fault

  first_of : (code : Code) (bytes : List ℕ) → NodeFault P before code bytes → IsFirstHere ToldFault code bytes
  first_of Arity bytes fault = record { told = Arity; is = fault; less = omega arith }
  first_of NodeOrder bytes fault = record { told = NodeOrder; is = fault; less = omega arith }
  first_of NodeLarge bytes fault = by (is_earlier fault.node) refl
    where
      by : (b : Bool) → is_earlier fault.node ≡ b → IsFirstHere ToldFault NodeLarge bytes
      by true o = record { told = NodeOrder; is = record { node = fault.node; rest = fault.rest; is = fault.is; there = fault.there; earlier = any_has (term_of before fault.node) before o }; less = omega arith }
      by false o = record { told = NodeLarge; is = record { node = fault.node; rest = fault.rest; is = fault.is; there = fault.there; new = o; large = fault.large }; less = omega arith }
  first_of Syntax bytes fault = absurd fault
  first_of Number bytes fault = absurd fault
  first_of Symbol bytes fault = absurd fault
  first_of Count bytes fault = absurd fault

  -- a node is read, and its first fault told
  pub nodes_tell : Tells ⊥ (marked (bodies P own) (NodeFault P before)) Anything (EndsAt node_goes_on) (checked judge_node (read_body P own))
  nodes_tell =
      let inner = bodies_tell P names own in
      marked_more (bodies P own) Anything (EndsAt node_goes_on) (checked judge_node (read_body P own)) ToldFault (NodeFault P before) exact first_of (λ bytes fault. fault)
      (marked_tells (bodies P own) Anything (EndsAt node_goes_on) (read_body P own) judge_node ToldFault inner
      record {
        text_long = body_long;
        judged_so = λ code bytes at of fault. told_judged code bytes at fault;
        is_here = λ code bytes at place x rest of e so. stands_there code bytes x rest (body_was_read P names own bytes at place x rest e) (inner.found bytes at place x rest of e) (judged_so x code so);
        past = told_past;
        other = λ bytes fault. fault;
        never = λ x code so is. no_syntax x code (judged_so x code so) is;
      })
    where
      no_syntax : (x : NodeRead) (code : Code) → JudgedSo x code → code ≡ Syntax → ⊥
      no_syntax x code (unfit f codes_are) is = let never : Arity ≡ Syntax = sym codes_are ∙ is in cc
      no_syntax x code (earlier f o codes_are) is = let never : NodeOrder ≡ Syntax = sym codes_are ∙ is in cc
      no_syntax x code (large f o l codes_are) is = let never : NodeLarge ≡ Syntax = sym codes_are ∙ is in cc
