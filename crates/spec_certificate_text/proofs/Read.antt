-- The text of a term of the protocol is read as that term.
use Rattle.std.proofs.Common.{◌≡◌, ℕ, suc, ◌+◌, ◌-◌, ◌<◌, ◌≤◌, Bool, true, false, ◌==◌, ◌&&◌, List, [], ◌∷◌, ◌++◌, length, refl, sym, ◌∙◌, ap, arith, append_assoc, nat_le}
use Rattle.std.proofs.lemmas.Bool.Decides.{nat_tests}
use Rattle.std.proofs.lemmas.List.{length-append}
use Rattle.std.specs.Fmt.{decimal}
use Rattle.std.specs.Prelude.{nat_lt}
use borrow.Author.Tests.{ltb-true, ltb-false}
use Rattle.spec_trees.specs.Tree.{Trees, Leaf, Node, none, more, node, items_of, depth, depths}
use Rattle.spec_trees.proofs.Rows.{trees-items_of}
use Rattle.spec_calculus.specs.Bounds.{most_arguments, most_term_levels}
use Rattle.spec_calculus.specs.Syntax.{Protocol}
use Rattle.spec_terms.specs.Term.{Sym, Ctor, Data, Tuple, Free, Point, Attacker, Term}
use Rattle.spec_run_text.proofs.Numbers.{numeral-decimal}
use Rattle.spec_certificate_text.specs.Loose.{row}
use Rattle.spec_certificate_text.specs.Words.{declared_word, word_at}
use Rattle.spec_certificate_text.specs.Written.{written_row}
use Rattle.spec_certificate_text.specs.Text.{term_text}
use Rattle.spec_certificate_text.specs.Spelled.{goes_on}
use Rattle.spec_certificate_text.specs.OfProtocol.{IsSymbolOf, IsTermBelow, AreTermsBelow, IsTermOf, most_variables, HasNames}
use Rattle.spec_certificate_text.specs.Sides.{first_bound}
use Rattle.spec_certificate_text.proofs.Names.{constructor_word, free_word, symbol_word_is_word, restriction_word_is_word, decimal_digits}
use Rattle.spec_certificate_text.specs.Names.{Named}
use Rattle.spec_certificate_text.specs.Terms.{Arity, Syntax, Open, Begins, Ended, AtBracket, Fault, head_text}
use Rattle.spec_certificate_text.specs.Steps.{goes, unless_deep, opened, with_parts, has_arity, closed, closing_byte, may_close, may_go_on}
use Rattle.spec_certificate_text.specs.Runs.{read_on, read_tree, read_term, Done}
use Rattle.spec_certificate_text.proofs.Complete.{reading, goes_to, taken, passed, shallow, begins_at, Reaches, variable_read, bound_read, constant_read, head_over, applied_read, digits_start}
use Rattle.spec_certificate_text.proofs.Sides.{bound_word}
use Rattle.spec_certificate_text.proofs.Called.{free_called, constructor_called, point_called}

pub itself : (n : ℕ) → (n == n) ≡ true
itself n = grind (arith, nat_tests)

at_most : (m n : ℕ) → m ≤ n → nat_le m n ≡ true
at_most m n le = grind (arith, nat_tests)

pub close_ends : (s : Sym) → goes_on (closing_byte s) ≡ false
close_ends (Ctor f) = refl
close_ends (Data f) = refl
close_ends (Tuple n) = refl
close_ends (Free a) = refl
close_ends (Point p) = refl
close_ends Attacker = refl

pub close_no_comma : (s : Sym) → (closing_byte s == 44) ≡ false
close_no_comma (Ctor f) = refl
close_no_comma (Data f) = refl
close_no_comma (Tuple n) = refl
close_no_comma (Free a) = refl
close_no_comma (Point p) = refl
close_no_comma Attacker = refl

-- an opened symbol that is to take n arguments and then to be f of them
record Fits (named : Named) (f : Sym) (n : ℕ) : Type 0 where
  symbol : with_parts named.symbol n ≡ f
  arity : has_arity named.symbol named.arity n ≡ true
  closes : may_close named.symbol n ≡ true
  goes_on : 2 ≤ n → may_go_on named.symbol ≡ true
  closing : closing_byte named.symbol ≡ closing_byte f

-- a symbol before its arguments: with a word, it has some
some_arguments : Sym → ℕ → Type 0
some_arguments (Ctor f) n = 0 < n
some_arguments (Data f) n = 0 < n
some_arguments (Free a) n = 0 < n
some_arguments other n = Unit {0}

pub node_text : (P : Protocol) (f : Sym) (t : Term) (ts : Trees ℕ Sym) (k : List ℕ) → term_text P (Node f (more t ts)) k ≡ head_text P f (row (written_row P (more t ts)) (closing_byte f ∷ k))
node_text P (Ctor f) t ts k = refl
node_text P (Data f) t ts k = refl
node_text P (Tuple n) t ts k = refl
node_text P (Free a) t ts k = refl
node_text P (Point p) t ts k = refl
node_text P Attacker t ts k = refl

has_some : (f : Sym) (n : ℕ) → some_arguments f (suc n)
unfolding some_arguments
has_some (Ctor f) n = omega arith
has_some (Data f) n = omega arith
has_some (Free a) n = omega arith
has_some (Tuple m) n = tt
has_some (Point p) n = tt
has_some Attacker n = tt

-- there are arguments
HasSome : Trees ℕ Sym → Type 0
HasSome none = ⊥
HasSome (more t ts) = Unit {0}

-- the word of a variable, which may be a bound one in constraints alone
variable_anywhere : (binds : Bool) (P : Protocol) (x : ℕ) → x < most_variables binds → (heads : List Open) → length heads + 1 ≤ most_term_levels → (at from b : ℕ) (k : List ℕ) → goes_on b ≡ false → Reaches binds P (term_text P (Leaf x) (b ∷ k)) at (reading heads Begins from) (b ∷ k) heads (Leaf x)
variable_anywhere false P x is heads room at from b k ends = variable_read false P x b k at heads 0 from is room ends
variable_anywhere true P x is heads room at from b k ends = by (nat_lt x first_bound) refl
  where
    by : (t : Bool) → nat_lt x first_bound ≡ t → Reaches true P (term_text P (Leaf x) (b ∷ k)) at (reading heads Begins from) (b ∷ k) heads (Leaf x)
    by true e = variable_read true P x b k at heads 0 from (ltb-true x first_bound e) room ends
    by false e =
        let over = ltb-false x first_bound e in
        let i = x - first_bound in
        let short : i < first_bound = omega (arith, is, over) in
        let same : first_bound + i ≡ x = omega (arith, over) in
        let reached = bound_read P i b k at heads 0 from short room ends in
        record {
          place = reached.place;
          from = reached.from;
          is = ap (λ w. read_on true P (w ++ (b ∷ k)) at (reading heads Begins from)) (bound_word x over) ∙ (reached.is ∙ ap (λ y. read_on true P (b ∷ k) reached.place (reading heads (Ended (Leaf y)) reached.from)) same);
        }

-- in constraints, or in facts
module _ (binds : Bool) where
  record Opens (P : Protocol) (f : Sym) (n : ℕ) (inside : List ℕ) (at : ℕ) (heads : List Open) (from : ℕ) : Type 0 where
    named : Named
    place : ℕ
    since : ℕ
    fits : Fits named f n
    is : read_on binds P (head_text P f inside) at (reading heads Begins from) ≡ read_on binds P inside place (reading (head_over named at [] ∷ heads) Begins since)

  opens : (P : Protocol) → HasNames P → (f : Sym) (n : ℕ) → IsSymbolOf P f n → some_arguments f n → (inside : List ℕ) (at : ℕ) (heads : List Open) (m from : ℕ) → length heads + suc m ≤ most_term_levels → Opens P f n inside at heads from
  unfolding some_arguments
  opens P names (Ctor f) n is some inside at heads m from room = record {
    named = record { symbol = Ctor f; arity = n };
    place = at + length (declared_word P.constructors f) + 1;
    since = at;
    fits = record { symbol = refl; arity = itself n; closes = refl; goes_on = λ two. refl; closing = refl };
    is = applied_read binds P (declared_word P.constructors f) record { symbol = Ctor f; arity = n } inside at heads m from (symbol_word_is_word (declared_word P.constructors f) (constructor_word P false f n names is)) (constructor_called P names false f n is) room;
  }
  opens P names (Data f) n is some inside at heads m from room = record {
    named = record { symbol = Data f; arity = n };
    place = at + length (declared_word P.constructors f) + 1;
    since = at;
    fits = record { symbol = refl; arity = itself n; closes = refl; goes_on = λ two. refl; closing = refl };
    is = applied_read binds P (declared_word P.constructors f) record { symbol = Data f; arity = n } inside at heads m from (symbol_word_is_word (declared_word P.constructors f) (constructor_word P true f n names is)) (constructor_called P names true f n is) room;
  }
  opens P names (Tuple parts) n is some inside at heads m from room = record {
    named = record { symbol = Tuple 0; arity = 0 };
    place = at + 1;
    since = at;
    fits = record { symbol = ap Tuple (sym is.0); arity = at_most n most_arguments is.2; closes = at_most 2 n is.1; goes_on = λ two. refl; closing = refl };
    is = goes_to binds P 40 inside at (reading heads Begins from) (reading (head_over record { symbol = Tuple 0; arity = 0 } at [] ∷ heads) Begins at)
        (begins_at binds P at heads m 40 (goes (head_over record { symbol = Tuple 0; arity = 0 } at [] ∷ heads) Begins at) room refl
        (shallow heads m at (opened heads record { symbol = Tuple 0; arity = 0 } at) (goes (head_over record { symbol = Tuple 0; arity = 0 } at [] ∷ heads) Begins at) room refl));
  }
  opens P names (Free a) n is some inside at heads m from room = let none : n ≡ 0 = is.1 in absurd (omega (arith, some, none))
  opens P names (Point p) n is some inside at heads m from room =
      let word = restriction_word_is_word P p n names is.0 in
      let start = digits_start binds P (word_at P p) (decimal p) p record { symbol = Point p; arity = n } inside at heads m from word (decimal_digits p is.1) (numeral-decimal p is.1) (point_called P p n is.0) room in
      record {
        named = record { symbol = Point p; arity = n };
        place = start.0;
        since = at;
        fits = record { symbol = refl; arity = itself n; closes = refl; goes_on = λ two. refl; closing = refl };
        is = start.1;
      }
  opens P names Attacker n is some inside at heads m from room = record {
    named = record { symbol = Attacker; arity = 1 };
    place = at + 1 + 1;
    since = at;
    fits = record { symbol = refl; arity = ap (λ k. k == 1) is; closes = refl; goes_on = λ two. absurd (omega (arith, is, two)); closing = refl };
    is = goes_to binds P 64 (91 ∷ inside) at (reading heads Begins from) (reading heads AtBracket at)
        (begins_at binds P at heads m 64 (goes heads AtBracket at) room refl (shallow heads m at (goes heads AtBracket at) (goes heads AtBracket at) room refl))
        ∙ goes_to binds P 91 inside (at + 1) (reading heads AtBracket at) (reading (head_over record { symbol = Attacker; arity = 1 } at [] ∷ heads) Begins at) refl;
  }

  -- the last argument ends, and then the symbol
  closes_at : (P : Protocol) (heads : List Open) (named : Named) (f : Sym) (n : ℕ) (since : ℕ) (done : List Term) (t : Term) (k : List ℕ) (place from m : ℕ) → Fits named f n → length done + 1 ≡ n → length heads + suc m ≤ most_term_levels
      → read_on binds P (closing_byte named.symbol ∷ k) place (reading (head_over named since done ∷ heads) (Ended t) from) ≡ read_on binds P k (place + 1) (reading heads (Ended (node f (done ++ t ∷ []))) since)
  closes_at P heads named f n since done t k place from m fits count room =
      let o = head_over named since done in
      let many : length (done ++ t ∷ []) ≡ n = length-append done (t ∷ []) ∙ count in
      let end = goes heads (Ended (node (with_parts named.symbol (length (done ++ t ∷ []))) (done ++ t ∷ []))) since in
      let ended : end ≡ goes heads (Ended (node f (done ++ t ∷ []))) since =
      ap (λ s. goes heads (Ended (node s (done ++ t ∷ []))) since) (ap (with_parts named.symbol) many ∙ fits.symbol) in
      let closed_so : closed o heads (done ++ t ∷ []) ≡ goes heads (Ended (node f (done ++ t ∷ []))) since =
      taken (has_arity named.symbol named.arity (length (done ++ t ∷ []))) (unless_deep heads since end) (Fault since Arity) _ (ap (has_arity named.symbol named.arity) many ∙ fits.arity)
      (shallow heads m since end _ room ended) in
      let may : ((closing_byte named.symbol == closing_byte named.symbol) && may_close named.symbol (length done + 1)) ≡ true =
      ap (λ c. c && may_close named.symbol (length done + 1)) (itself (closing_byte named.symbol)) ∙ (ap (may_close named.symbol) count ∙ fits.closes) in
      goes_to binds P (closing_byte named.symbol) k place (reading (o ∷ heads) (Ended t) from) (reading heads (Ended (node f (done ++ t ∷ []))) since)
      (passed ((closing_byte named.symbol == 44) && may_go_on named.symbol) _ _ _ (ap (λ c. c && may_go_on named.symbol) (close_no_comma named.symbol))
      (taken ((closing_byte named.symbol == closing_byte named.symbol) && may_close named.symbol (length done + 1)) (closed o heads (done ++ t ∷ [])) (Fault place Syntax) _ may closed_so))

  -- an argument ends, and another comes
  pub goes_on_at : (P : Protocol) (heads : List Open) (named : Named) (since : ℕ) (done : List Term) (t : Term) (k : List ℕ) (place from : ℕ) → may_go_on named.symbol ≡ true
      → read_on binds P (44 ∷ k) place (reading (head_over named since done ∷ heads) (Ended t) from) ≡ read_on binds P k (place + 1) (reading (head_over named since (done ++ t ∷ []) ∷ heads) Begins from)
  goes_on_at P heads named since done t k place from may =
      goes_to binds P 44 k place (reading (head_over named since done ∷ heads) (Ended t) from) (reading (head_over named since (done ++ t ∷ []) ∷ heads) Begins from)
      (taken (may_go_on named.symbol) (goes (head_over named since (done ++ t ∷ []) ∷ heads) Begins from) _ _ may refl)

  -- a symbol without arguments
  bare_read : (P : Protocol) → HasNames P → (f : Sym) → IsSymbolOf P f 0 → (heads : List Open) (m : ℕ) → length heads + suc m ≤ most_term_levels → (at from b : ℕ) (k : List ℕ) → goes_on b ≡ false → Reaches binds P (term_text P (Node f none) (b ∷ k)) at (reading heads Begins from) (b ∷ k) heads (Node f none)
  bare_read P names (Ctor f) is heads m room at from b k ends = constant_read binds P (declared_word P.constructors f) record { symbol = Ctor f; arity = 0 } b k at heads m from (constructor_word P false f 0 names is) (constructor_called P names false f 0 is) refl room ends
  bare_read P names (Data f) is heads m room at from b k ends = constant_read binds P (declared_word P.constructors f) record { symbol = Data f; arity = 0 } b k at heads m from (constructor_word P true f 0 names is) (constructor_called P names true f 0 is) refl room ends
  bare_read P names (Free a) is heads m room at from b k ends = constant_read binds P (declared_word P.frees a) record { symbol = Free a; arity = 0 } b k at heads m from (free_word P a names is.0) (free_called P names a is.0) refl room ends
  bare_read P names (Tuple n) is heads m room at from b k ends = absurd (omega (arith, is.1))
  bare_read P names (Point p) is heads m room at from b k ends =
      let word = restriction_word_is_word P p 0 names is.0 in
      let start = digits_start binds P (word_at P p) (decimal p) p record { symbol = Point p; arity = 0 } (93 ∷ b ∷ k) at heads m from word (decimal_digits p is.1) (numeral-decimal p is.1) (point_called P p 0 is.0) room in
      let end = goes heads (Ended (node (Point p) [])) at in
      record {
        place = start.0 + 1;
        from = at;
        is = start.1 ∙ goes_to binds P 93 (b ∷ k) start.0 (reading (head_over record { symbol = Point p; arity = 0 } at [] ∷ heads) Begins at) (reading heads (Ended (node (Point p) [])) at) (shallow heads m at end end room refl);
      }
  bare_read P names Attacker is heads m room at from b k ends = absurd (omega (arith, is))

  -- a term is read wherever there is room for it
  abbrev pub IsRead : Protocol → Term → Type 0
  IsRead P t = (heads : List Open) → length heads + depth t ≤ most_term_levels → (at from b : ℕ) (k : List ℕ) → goes_on b ≡ false → Reaches binds P (term_text P t (b ∷ k)) at (reading heads Begins from) (b ∷ k) heads t

  -- so are arguments, the last of a symbol, behind those that were read
  abbrev AreRead : Protocol → Named → Sym → ℕ → ℕ → Trees ℕ Sym → Type 0
  AreRead P named f n since ts = HasSome ts → (done : List Term) → length done + length (items_of ts) ≡ n → (heads : List Open) → length heads + 1 + depths ts ≤ most_term_levels → (at from : ℕ) (k : List ℕ)
      → Reaches binds P (row (written_row P ts) (closing_byte named.symbol ∷ k)) at (reading (head_over named since done ∷ heads) Begins from) k heads (node f (done ++ items_of ts))

  one_argument : (P : Protocol) (named : Named) (f : Sym) (n since : ℕ) → Fits named f n → (t : Term) (ts : Trees ℕ Sym) → IsRead P t → AreRead P named f n since ts → AreRead P named f n since (more t ts)
  unfolding HasSome
  one_argument P named f n since fits t none first later some done count heads room at from k =
      let reached = first (head_over named since done ∷ heads) (omega (arith, room)) at from (closing_byte named.symbol) k (close_ends named.symbol) in
      record { place = reached.place + 1; from = since; is = reached.is ∙ closes_at P heads named f n since done t k reached.place reached.from 0 fits (omega (arith, count)) (omega (arith, room)) }
  one_argument P named f n since fits t (more u us) first later some done count heads room at from k =
      let others = row (written_row P (more u us)) (closing_byte named.symbol ∷ k) in
      let reached = first (head_over named since done ∷ heads) (omega (arith, room)) at from 44 others refl in
      let rest = later tt (done ++ t ∷ []) (omega (arith, count, length-append done (t ∷ []))) heads (omega (arith, room)) (reached.place + 1) reached.from k in
      record {
        place = rest.place;
        from = rest.from;
        is = reached.is ∙ (goes_on_at P heads named since done t others reached.place reached.from (fits.goes_on (omega (arith, count)))
            ∙ (rest.is ∙ ap (λ ts. read_on binds P k rest.place (reading heads (Ended (node f ts)) rest.from)) (append_assoc done (t ∷ []) (u ∷ items_of us))));
      }

  -- a symbol over some arguments
  headed_read : (P : Protocol) → HasNames P → (f : Sym) (t : Term) (ts : Trees ℕ Sym) → IsSymbolOf P f (suc (length (items_of ts))) → ((named : Named) (since : ℕ) → Fits named f (suc (length (items_of ts))) → AreRead P named f (suc (length (items_of ts))) since (more t ts)) → IsRead P (Node f (more t ts))
  unfolding HasSome
  headed_read P names f t ts is arguments heads room at from b k ends =
      let n = suc (length (items_of ts)) in
      let start = opens P names f n is (has_some f (length (items_of ts))) (row (written_row P (more t ts)) (closing_byte f ∷ b ∷ k)) at heads 0 from (omega (arith, room)) in
      let within = arguments start.named at start.fits tt [] (omega arith) heads (omega (arith, room)) start.place start.since (b ∷ k) in
      let bytes : term_text P (Node f (more t ts)) (b ∷ k) ≡ head_text P f (row (written_row P (more t ts)) (closing_byte f ∷ b ∷ k)) = node_text P f t ts (b ∷ k) in
      let same : node f (t ∷ items_of ts) ≡ Node f (more t ts) = ap (λ us. Node f (more t us)) (trees-items_of ts) in
      record {
        place = within.place;
        from = within.from;
        is = ap (λ bs. read_on binds P bs at (reading heads Begins from)) bytes ∙ (start.is
            ∙ (ap (λ c. read_on binds P (row (written_row P (more t ts)) (c ∷ b ∷ k)) start.place (reading (head_over start.named at [] ∷ heads) Begins start.since)) (sym start.fits.closing)
            ∙ (within.is ∙ ap (λ u. read_on binds P (b ∷ k) within.place (reading heads (Ended u) within.from)) same)));
      }

  no_arguments : (P : Protocol) (named : Named) (f : Sym) (n since : ℕ) → AreRead P named f n since none
  unfolding HasSome
  no_arguments P named f n since some = absurd some

  -- a symbol over its arguments, each of which is read
  node_read : (P : Protocol) → HasNames P → (f : Sym) (ts : Trees ℕ Sym) → IsSymbolOf P f (length (items_of ts)) → ((named : Named) (n since : ℕ) → Fits named f n → AreRead P named f n since ts) → IsRead P (Node f ts)
  node_read P names f none is arguments heads room at from b k ends = bare_read P names f is heads 0 (omega (arith, room)) at from b k ends
  node_read P names f (more t ts) is arguments heads room at from b k ends = headed_read P names f t ts is (λ named since. arguments named (suc (length (items_of ts))) since) heads room at from b k ends

  -- a variable is read as it is spelled
  variable_is_read : (P : Protocol) (x : ℕ) → x < most_variables binds → IsRead P (Leaf x)
  variable_is_read P x is heads room at from b k ends = variable_anywhere binds P x is heads (omega (arith, room)) at from b k ends

  mutual
    pub tree_read : (P : Protocol) → HasNames P → (t : Term) → IsTermBelow (most_variables binds) P t → IsRead P t
    tree_read P names (Leaf x) is = variable_is_read P x is
    tree_read P names (Node f ts) is = node_read P names f ts is.0 (arguments_read P names f ts is.1)

    arguments_read : (P : Protocol) → HasNames P → (f : Sym) (ts : Trees ℕ Sym) → AreTermsBelow (most_variables binds) P ts → (named : Named) (n since : ℕ) → Fits named f n → AreRead P named f n since ts
    arguments_read P names f none are named n since fits = no_arguments P named f n since
    arguments_read P names f (more t ts) are named n since fits = one_argument P named f n since fits t ts (tree_read P names t are.0) (arguments_read P names f ts are.1 named n since fits)

  -- a term or a side of the protocol is read of its text, where what follows begins with nothing that a word alone could go on with
  pub tree_text-read : (P : Protocol) → HasNames P → (t : Term) → IsTermBelow (most_variables binds) P t → depth t ≤ most_term_levels → (at b : ℕ) (k : List ℕ) → goes_on b ≡ false → (place : ℕ) × (read_tree binds P (term_text P t (b ∷ k)) at ≡ Done t place (b ∷ k))
  tree_text-read P names t is shallow_enough at b k ends =
      let reached = tree_read P names t is [] (omega (arith, shallow_enough)) at at b k ends in
      (reached.place, reached.is)

-- so is a term of a fact
pub term_text-read : (P : Protocol) → HasNames P → (t : Term) → IsTermOf P t → depth t ≤ most_term_levels → (at b : ℕ) (k : List ℕ) → goes_on b ≡ false → (place : ℕ) × (read_term P (term_text P t (b ∷ k)) at ≡ Done t place (b ∷ k))
term_text-read P names t is shallow_enough at b k ends = tree_text-read false P names t is shallow_enough at b k ends
