-- A fault that stands somewhere is none of syntax: some text goes on with the byte there.
use Rattle.std.proofs.Common.{◌≤◌, ◌≡◌, ℕ, inl, inr, Bool, true, false, ◌==◌, ◌&&◌, ◌||◌, List, [], ◌∷◌, ◌++◌, length, refl, sym, ◌∙◌, ap, subst, arith, append_assoc}
use Rattle.std.proofs.lemmas.Bool.Decides.{nat_tests}
use Rattle.std.specs.Char.{is_ascii_digit}
use Rattle.std.specs.Fmt.{decimal}
use Rattle.std.specs.List.{list_all}
use Rattle.spec_trees.specs.Tree.{Leaf, Node, none, more, node}
use Rattle.spec_calculus.specs.Syntax.{Protocol}
use Rattle.spec_protocol_tokens.specs.Bytes.{begins_word}
use Rattle.spec_terms.specs.Term.{Sym, Ctor, Data, Tuple, Free, Point, Attacker, Term}
use Rattle.spec_certificate_text.specs.Loose.{Tupled, Made, Attackers, Loose, onto}
use Rattle.spec_certificate_text.specs.Spelled.{IsWord}
use Rattle.spec_certificate_text.specs.Words.{symbol_word}
use Rattle.spec_certificate_text.specs.Text.{term_text}
use Rattle.spec_certificate_text.specs.OfProtocol.{HasNames}
use Rattle.spec_certificate_text.proofs.Apart.{digits_in_word}
use Rattle.spec_certificate_text.proofs.Names.{constructor_word, free_word, symbol_word_is_word, restriction_word_is_word}
use Rattle.spec_certificate_text.proofs.Runs.{both_left}
use Rattle.spec_certificate_text.specs.Terms.{Code, Syntax, Number, Symbol, Arity, Count, NodeOrder, NodeLarge}
use Rattle.spec_certificate_text.proofs.Long.{onto_long}
use Rattle.spec_certificate_faults.specs.Grammar.{IsInGrammar, MayBegin}
use Rattle.spec_certificate_faults.specs.TermFaults.{begins_term, AreNoNumber, TakesOthers, TermFault, StandsInTerm}
use Rattle.spec_certificate_faults.specs.First.{IsTermText}
use Rattle.spec_certificate_faults.proofs.Standing.{BeginsTerm, word_begins}
use Rattle.spec_certificate_faults.proofs.Completes.{one_letter, simple, simple_in, completes}

-- some text goes on with these bytes up to there, and with the byte there
pub record GoesPast (bytes there : List ℕ) : Type 0 where
  pub before : List ℕ
  pub text : bytes ≡ before ++ there
  pub first : ℕ
  pub later : List ℕ
  pub begins : there ≡ first ∷ later
  pub other : List ℕ
  pub rest : List ℕ
  pub long : length rest ≤ length other
  pub is : IsTermText (before ++ first ∷ other) rest

-- a tree that begins with a byte with which a term may begin
record BeginsTree (b : ℕ) : Type 0 where
  tree : Loose
  is : IsInGrammar tree
  begins : (tail : List ℕ) → (k : List ℕ) × (onto tree tail ≡ b ∷ k) × (length tail ≤ length k)

tuple_of_two : Loose
tuple_of_two = Node Tupled (more simple (more simple none))

attackers_name : Loose
attackers_name = Node Attackers (more simple none)

bound_zero : Loose
bound_zero = Leaf (63 ∷ 48 ∷ [])

begins_tree : (b : ℕ) → begins_term b ≡ true → BeginsTree b
unfolding tuple_of_two attackers_name bound_zero
begins_tree b begins = by (begins_word b) refl begins
  where
    same : (c : ℕ) → (b == c) ≡ true → b ≡ c
    same c e = grind (arith, nat_tests)

    by_sign : (at_sign : Bool) → (b == 64) ≡ at_sign → (at_sign || (b == 63)) ≡ true → BeginsTree b
    by_sign true is marked = record { tree = attackers_name; is = (tt, refl, (simple_in, tt)); begins = λ tail. (91 ∷ onto simple (93 ∷ tail), ap (λ c. c ∷ 91 ∷ onto simple (93 ∷ tail)) (sym (same 64 is)), omega (arith, onto_long simple (93 ∷ tail))) }
    by_sign false isnt marked = record { tree = bound_zero; is = inr record { digits = 48 ∷ []; some = omega arith; all = refl; is = refl }; begins = λ tail. (48 ∷ tail, ap (λ c. c ∷ 48 ∷ tail) (sym (same 63 marked)), omega arith) }

    by_mark : (opens : Bool) → (b == 40) ≡ opens → (opens || (b == 64) || (b == 63)) ≡ true → BeginsTree b
    by_mark true is marked = record { tree = tuple_of_two; is = (tt, omega arith, (simple_in, (simple_in, tt))); begins = λ tail. (onto simple (44 ∷ onto simple (41 ∷ tail)), ap (λ c. c ∷ onto simple (44 ∷ onto simple (41 ∷ tail))) (sym (same 40 is)), omega (arith, onto_long simple (44 ∷ onto simple (41 ∷ tail)), onto_long simple (41 ∷ tail))) }
    by_mark false isnt marked = by_sign (b == 64) refl marked

    by : (word : Bool) → begins_word b ≡ word → (word || (b == 40) || (b == 64) || (b == 63)) ≡ true → BeginsTree b
    by true word marked = record { tree = Leaf (b ∷ []); is = one_letter b word; begins = λ tail. (tail, refl, omega arith) }
    by false no_word marked = by_mark (b == 40) refl marked

past_here : (bytes : List ℕ) (level : ℕ) (here : List ℕ) → MayBegin bytes level here → BeginsTerm here → GoesPast bytes here
past_here bytes level here may is =
    let c = completes bytes level here may in
    let t = begins_tree is.first is.begins in
    let done = c.each t.tree t.is in
    let front = t.begins done.tail in
    record { before = c.before; text = c.text; first = is.first; later = is.later; begins = is.text; other = front.0; rest = done.rest; long = omega (arith, done.long, front.2); is = subst (λ l. IsTermText (c.before ++ l) done.rest) front.1 done.is }

-- behind some bytes, which a tree begins with too
past_behind : (bytes : List ℕ) (level : ℕ) (here : List ℕ) → MayBegin bytes level here → (front there : List ℕ) → here ≡ front ++ there → (b : ℕ) (k : List ℕ) → there ≡ b ∷ k → (t : Loose) → IsInGrammar t → ((tail : List ℕ) → (other : List ℕ) × (onto t tail ≡ front ++ b ∷ other) × (length tail ≤ length other)) → GoesPast bytes there
past_behind bytes level here may front there text b k begins t is shown =
    let c = completes bytes level here may in
    let done = c.each t is in
    let same = shown done.tail in
    record {
      before = c.before ++ front;
      text = c.text ∙ (ap (λ l. c.before ++ l) text ∙ sym (append_assoc c.before front there));
      first = b;
      later = k;
      begins = begins;
      other = same.0;
      rest = done.rest;
      long = omega (arith, done.long, same.2);
      is = subst (λ l. IsTermText l done.rest) (ap (λ l. c.before ++ l) same.1 ∙ sym (append_assoc c.before front (b ∷ same.0))) done.is;
    }

first_digit : (d : ℕ) (ds : List ℕ) → AreNoNumber (d ∷ ds) → is_ascii_digit d ≡ true
first_digit d ds wrong = both_left (is_ascii_digit d) (list_all is_ascii_digit ds) wrong.all

past_variable : (bytes : List ℕ) (level : ℕ) (here there : List ℕ) → MayBegin bytes level here → (digits behind : List ℕ) → AreNoNumber digits → here ≡ 118 ∷ there → there ≡ digits ++ behind → GoesPast bytes there
past_variable bytes level here there may [] behind wrong text stand = absurd (let some = wrong.some in omega (arith, some))
past_variable bytes level here there may (d ∷ ds) behind wrong text stand =
    past_behind bytes level here may (118 ∷ []) there text d (ds ++ behind) stand (Leaf (118 ∷ d ∷ []))
    (inl record { begins = refl; goes_on = digits_in_word (d ∷ []) (ap (λ t. t && true) (first_digit d ds wrong)) }) (λ tail. (tail, refl, omega arith))

past_bound : (bytes : List ℕ) (level : ℕ) (here there : List ℕ) → MayBegin bytes level here → (digits behind : List ℕ) → AreNoNumber digits → here ≡ 63 ∷ there → there ≡ digits ++ behind → GoesPast bytes there
past_bound bytes level here there may [] behind wrong text stand = absurd (let some = wrong.some in omega (arith, some))
past_bound bytes level here there may (d ∷ ds) behind wrong text stand =
    past_behind bytes level here may (63 ∷ []) there text d (ds ++ behind) stand (Leaf (63 ∷ d ∷ []))
    (inr record { digits = d ∷ []; some = omega arith; all = ap (λ t. t && true) (first_digit d ds wrong); is = refl }) (λ tail. (tail, refl, omega arith))

past_point : (bytes : List ℕ) (level : ℕ) (here there : List ℕ) → MayBegin bytes level here → (word digits behind : List ℕ) → IsWord word → AreNoNumber digits → here ≡ word ++ (64 ∷ there) → there ≡ digits ++ behind → GoesPast bytes there
past_point bytes level here there may word [] behind is_word wrong text stand = absurd (let some = wrong.some in omega (arith, some))
past_point bytes level here there may word (d ∷ ds) behind is_word wrong text stand =
    past_behind bytes level here may (word ++ 64 ∷ []) there (text ∙ sym (append_assoc word (64 ∷ []) there)) d (ds ++ behind) stand (Node (Made word (d ∷ [])) none)
    ((is_word, ap (λ t. t && true) (first_digit d ds wrong), omega arith), tt, tt) (λ tail. (91 ∷ 93 ∷ tail, sym (append_assoc word (64 ∷ []) (d ∷ 91 ∷ 93 ∷ tail)), omega arith))

misapplied_begins : (P : Protocol) → HasNames P → (f : Sym) (ts : List Term) (k : List ℕ) → TakesOthers P f (length ts) → BeginsTerm (term_text P (node f ts) k)
misapplied_begins P names (Ctor f) [] k wrong = word_begins (symbol_word P (Ctor f)) k (symbol_word_is_word (symbol_word P (Ctor f)) (constructor_word P false f wrong.0 names wrong.1))
misapplied_begins P names (Ctor f) (t ∷ ts) k wrong = word_begins (symbol_word P (Ctor f)) _ (symbol_word_is_word (symbol_word P (Ctor f)) (constructor_word P false f wrong.0 names wrong.1))
misapplied_begins P names (Data f) [] k wrong = word_begins (symbol_word P (Data f)) k (symbol_word_is_word (symbol_word P (Data f)) (constructor_word P true f wrong.0 names wrong.1))
misapplied_begins P names (Data f) (t ∷ ts) k wrong = word_begins (symbol_word P (Data f)) _ (symbol_word_is_word (symbol_word P (Data f)) (constructor_word P true f wrong.0 names wrong.1))
misapplied_begins P names (Free a) [] k wrong = word_begins (symbol_word P (Free a)) k (symbol_word_is_word (symbol_word P (Free a)) (free_word P a names wrong.1.0))
misapplied_begins P names (Free a) (t ∷ ts) k wrong = word_begins (symbol_word P (Free a)) _ (symbol_word_is_word (symbol_word P (Free a)) (free_word P a names wrong.1.0))
misapplied_begins P names (Tuple n) ts k wrong = record { first = 40; later = _; text = refl; begins = refl }
misapplied_begins P names (Point p) ts k wrong = word_begins (symbol_word P (Point p)) _ (restriction_word_is_word P p wrong.0 names wrong.1.0)
misapplied_begins P names Attacker ts k wrong = absurd wrong

begins_at : (here text : List ℕ) → here ≡ text → BeginsTerm text → BeginsTerm here
begins_at here text e is = subst BeginsTerm (sym e) is

pub fault_shown : (binds : Bool) (P : Protocol) → HasNames P → (code : Code) (bytes there : List ℕ) → StandsInTerm binds P code bytes there → GoesPast bytes there
fault_shown binds P names code bytes there is = by code is.fault
  where
    at_here : BeginsTerm is.here → there ≡ is.here → GoesPast bytes there
    at_here begins same = subst (GoesPast bytes) (sym same) (past_here bytes is.level is.here is.may begins)

    by : (c : Code) → TermFault binds P is.level is.here c there → GoesPast bytes there
    by Syntax fault = absurd fault
    by Number (inl fault) = past_variable bytes is.level is.here there is.may fault.digits fault.behind fault.wrong fault.text fault.stand
    by Number (inr (inl fault)) = past_bound bytes is.level is.here there is.may fault.digits fault.behind fault.wrong fault.text fault.stand
    by Number (inr (inr fault)) = past_point bytes is.level is.here there is.may fault.word fault.digits fault.behind fault.is_word fault.wrong fault.text fault.stand
    by Symbol (same, inl fault) = at_here (begins_at is.here (fault.word ++ fault.next ∷ fault.behind) fault.text (word_begins fault.word (fault.next ∷ fault.behind) fault.is_word)) same
    by Symbol (same, inr (inl fault)) = at_here record { first = 63; later = fault.behind; text = fault.text; begins = refl } same
    by Symbol (same, inr (inr fault)) = at_here (begins_at is.here (fault.word ++ (64 ∷ (decimal fault.point ++ fault.behind))) fault.text (word_begins fault.word (64 ∷ (decimal fault.point ++ fault.behind)) fault.is_word)) same
    by Arity (same, fault) = at_here (begins_at is.here (term_text P (node fault.symbol fault.arguments) fault.behind) fault.text (misapplied_begins P names fault.symbol fault.arguments fault.behind fault.wrong)) same
    by Count (same, fault) = at_here record { first = fault.first; later = fault.later; text = fault.text; begins = fault.begins } same
    by NodeOrder fault = absurd fault
    by NodeLarge fault = absurd fault
