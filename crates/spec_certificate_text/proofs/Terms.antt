-- Terms of a protocol are told apart by how they are written.
use Rattle.std.proofs.Common.{◌≡◌, ◌⊎◌, ℕ, ◌-◌, ◌<◌, ◌≤◌, Bool, true, false, List, [], length, Some, inl, inr, refl, sym, ◌∙◌, ap, subst, arith}
use Rattle.std.specs.Prelude.{nat_lt}
use borrow.Author.Tests.{ltb-true, ltb-false}
use Rattle.std.proofs.lemmas.List.{append-nil}
use Rattle.std.specs.Fmt.{decimal}
use Rattle.spec_trees.specs.Tree.{Trees, Leaf, Node, none, more, items_of}
use Rattle.spec_calculus.specs.Syntax.{Protocol}
use Rattle.spec_well_formed.specs.Words as declared
use Rattle.spec_protocol_scope.specs.Names.{is_variable}
use Rattle.spec_protocol_scope.specs.Words.{IsSymbolWord}
use Rattle.spec_terms.specs.Term.{Sym, Ctor, Data, Tuple, Free, Point, Attacker, Term}
use Rattle.spec_certificate_text.specs.Loose.{Head, Applied, Tupled, Made, Attackers, Loose, LooseRow}
use Rattle.spec_certificate_text.specs.Words.{declared_word, word_at}
use Rattle.spec_certificate_text.specs.Written.{applied, headed, written, written_row}
use Rattle.spec_certificate_text.specs.Spelled.{IsWord, IsBoundWord, IsLoose, AreLoose}
use Rattle.spec_certificate_text.specs.OfProtocol.{IsDeclared, IsConstructor, IsShort, IsSymbolOf, IsTermBelow, AreTermsBelow, IsTermOf, AreTermsOf, most_side_variables, HasNames}
use Rattle.spec_certificate_text.specs.Sides.{first_bound, variable_word}
use Rattle.spec_certificate_text.proofs.Runs.{first_same, later_same}
use Rattle.spec_certificate_text.proofs.Apart.{word_begins}
use Rattle.spec_certificate_text.proofs.Sides.{own_word, bound_word}
use Rattle.spec_certificate_text.proofs.Names.{constructor_word, free_word, symbol_word_is_word, restriction_word_is_word, decimal_digits, decimal_some, one_decimal, variable_is_word, variable_is_variable, one_name, constructor_named, free_named}

-- What is written of a protocol's terms is loose.

pub applied_is_loose : (w : List ℕ) (ts : LooseRow) → IsWord w → AreLoose ts → IsLoose (applied w ts)
applied_is_loose w none word are = inl word
applied_is_loose w (more t ts) word are = (word, are)

headed_is_loose : (P : Protocol) → HasNames P → (f : Sym) (n : ℕ) (ts : LooseRow) → IsSymbolOf P f n → AreLoose ts → IsLoose (headed P f ts)
headed_is_loose P names (Ctor f) n ts is are = applied_is_loose (declared_word P.constructors f) ts (symbol_word_is_word (declared_word P.constructors f) (constructor_word P false f n names is)) are
headed_is_loose P names (Data f) n ts is are = applied_is_loose (declared_word P.constructors f) ts (symbol_word_is_word (declared_word P.constructors f) (constructor_word P true f n names is)) are
headed_is_loose P names (Tuple m) n ts is are = (tt, are)
headed_is_loose P names (Free a) n ts is are = applied_is_loose (declared_word P.frees a) ts (symbol_word_is_word (declared_word P.frees a) (free_word P a names is.0)) are
headed_is_loose P names (Point p) n ts is are = ((restriction_word_is_word P p n names is.0, decimal_digits p is.1), are)
headed_is_loose P names Attacker n ts is are = (tt, are)

-- the word of a variable
pub variable_is_loose : (x : ℕ) → x < most_side_variables → IsWord (variable_word x) ⊎ IsBoundWord (variable_word x)
variable_is_loose x below = go (nat_lt x first_bound) refl where
  go : (b : Bool) → nat_lt x first_bound ≡ b → IsWord (variable_word x) ⊎ IsBoundWord (variable_word x)
  go true e = inl (subst IsWord (sym (own_word x (ltb-true x first_bound e))) (variable_is_word x (ltb-true x first_bound e)))
  go false e =
      let over = ltb-false x first_bound e in
      let short : x - first_bound < first_bound = omega (arith, below, over) in
      inr record { digits = decimal (x - first_bound); some = decimal_some (x - first_bound) short; all = decimal_digits (x - first_bound) short; is = bound_word x over }

-- terms whose variables are spelled
module _ (most : ℕ) (low : most ≤ most_side_variables) where
  mutual
    pub sides_are_loose : (P : Protocol) → HasNames P → (t : Term) → IsTermBelow most P t → IsLoose (written P t)
    sides_are_loose P names (Leaf x) is = variable_is_loose x (omega (arith, is, low))
    sides_are_loose P names (Node f ts) is = headed_is_loose P names f (length (items_of ts)) (written_row P ts) is.0 (side_rows_are_loose P names ts is.1)

    pub side_rows_are_loose : (P : Protocol) → HasNames P → (ts : Trees ℕ Sym) → AreTermsBelow most P ts → AreLoose (written_row P ts)
    side_rows_are_loose P names none are = tt
    side_rows_are_loose P names (more t ts) are = (sides_are_loose P names t are.0, side_rows_are_loose P names ts are.1)

-- those of facts among them
pub facts_low : first_bound ≤ most_side_variables
facts_low = omega arith

pub written_is_loose : (P : Protocol) → HasNames P → (t : Term) → IsTermOf P t → IsLoose (written P t)
written_is_loose P names t is = sides_are_loose first_bound facts_low P names t is

pub written_are_loose : (P : Protocol) → HasNames P → (ts : Trees ℕ Sym) → AreTermsOf P ts → AreLoose (written_row P ts)
written_are_loose P names ts are = side_rows_are_loose first_bound facts_low P names ts are

-- And it is written of one term alone.

head_of : Loose → Head
head_of (Leaf w) = Applied w
head_of (Node h ts) = h

arguments_of : Loose → LooseRow
arguments_of (Leaf w) = none
arguments_of (Node h ts) = ts

symbol_head : Protocol → Sym → Head
symbol_head P (Ctor f) = Applied (declared_word P.constructors f)
symbol_head P (Data f) = Applied (declared_word P.constructors f)
symbol_head P (Tuple n) = Tupled
symbol_head P (Free a) = Applied (declared_word P.frees a)
symbol_head P (Point p) = Made (word_at P p) (decimal p)
symbol_head P Attacker = Attackers

head-applied : (w : List ℕ) (ts : LooseRow) → head_of (applied w ts) ≡ Applied w
unfolding head_of
head-applied w none = refl
head-applied w (more t ts) = refl

arguments-applied : (w : List ℕ) (ts : LooseRow) → arguments_of (applied w ts) ≡ ts
unfolding arguments_of
arguments-applied w none = refl
arguments-applied w (more t ts) = refl

pub record AppliedApart (v w : List ℕ) (ts us : LooseRow) : Type 0 where
  pub word : v ≡ w
  pub arguments : ts ≡ us

pub applied_apart : (v w : List ℕ) (ts us : LooseRow) → applied v ts ≡ applied w us → AppliedApart v w ts us
applied_apart v w ts us e =
    let heads : Applied v ≡ Applied w = sym (head-applied v ts) ∙ (ap head_of e ∙ head-applied w us) in
    record { word = cc; arguments = sym (arguments-applied v ts) ∙ (ap arguments_of e ∙ arguments-applied w us) }

head-headed : (P : Protocol) (f : Sym) (ts : LooseRow) → head_of (headed P f ts) ≡ symbol_head P f
unfolding head_of symbol_head
head-headed P (Ctor f) ts = head-applied (declared_word P.constructors f) ts
head-headed P (Data f) ts = head-applied (declared_word P.constructors f) ts
head-headed P (Tuple n) ts = refl
head-headed P (Free a) ts = head-applied (declared_word P.frees a) ts
head-headed P (Point p) ts = refl
head-headed P Attacker ts = refl

arguments-headed : (P : Protocol) (f : Sym) (ts : LooseRow) → arguments_of (headed P f ts) ≡ ts
unfolding arguments_of
arguments-headed P (Ctor f) ts = arguments-applied (declared_word P.constructors f) ts
arguments-headed P (Data f) ts = arguments-applied (declared_word P.constructors f) ts
arguments-headed P (Tuple n) ts = refl
arguments-headed P (Free a) ts = arguments-applied (declared_word P.frees a) ts
arguments-headed P (Point p) ts = refl
arguments-headed P Attacker ts = refl

-- a constructor that is a data constructor is none that is not
one_kind : (P : Protocol) (f m n : ℕ) → IsConstructor P false f m → IsConstructor P true f n → ⊥
one_kind P f m n plain kept =
    let both : Some plain.declared ≡ Some kept.declared = sym plain.there ∙ kept.there in
    let same : plain.declared ≡ kept.declared = cc in
    let differ : false ≡ true = sym plain.data_is ∙ (ap (λ d. d.is_data) same ∙ kept.data_is) in cc

constructors_same : (P : Protocol) → HasNames P → (b d : Bool) (f g m n : ℕ) → IsConstructor P b f m → IsConstructor P d g n → Applied (declared_word P.constructors f) ≡ Applied (declared_word P.constructors g) → f ≡ g
constructors_same P names b d f g m n is_f is_g e =
    let words : declared_word P.constructors f ≡ declared_word P.constructors g = cc in
    let same : declared.Constructor f ≡ declared.Constructor g = one_name P names (declared.Constructor f) (declared.Constructor g) (declared_word P.constructors f) (declared_word P.constructors g) (constructor_named P b f m is_f) (constructor_named P d g n is_g) words in
    cc

no_free : (P : Protocol) → HasNames P → (b : Bool) (f a m : ℕ) → IsConstructor P b f m → IsDeclared P.frees a → Applied (declared_word P.constructors f) ≡ Applied (declared_word P.frees a) → ⊥
no_free P names b f a m is_f is_a e =
    let words : declared_word P.constructors f ≡ declared_word P.frees a = cc in
    let same : declared.Constructor f ≡ declared.Free a = one_name P names (declared.Constructor f) (declared.Free a) (declared_word P.constructors f) (declared_word P.frees a) (constructor_named P b f m is_f) (free_named P a is_a) words in
    cc

frees_same : (P : Protocol) → HasNames P → (a b : ℕ) → IsDeclared P.frees a → IsDeclared P.frees b → Applied (declared_word P.frees a) ≡ Applied (declared_word P.frees b) → a ≡ b
frees_same P names a b is_a is_b e =
    let words : declared_word P.frees a ≡ declared_word P.frees b = cc in
    let same : declared.Free a ≡ declared.Free b = one_name P names (declared.Free a) (declared.Free b) (declared_word P.frees a) (declared_word P.frees b) (free_named P a is_a) (free_named P b is_b) words in
    cc

points_same : (p q : ℕ) (v w : List ℕ) → IsShort p → IsShort q → Made v (decimal p) ≡ Made w (decimal q) → p ≡ q
points_same p q v w short_p short_q e = let digits : decimal p ≡ decimal q = cc in one_decimal p q short_p short_q digits

symbols_apart : (P : Protocol) → HasNames P → (f g : Sym) (n : ℕ) → IsSymbolOf P f n → IsSymbolOf P g n → symbol_head P f ≡ symbol_head P g → f ≡ g
unfolding symbol_head
symbols_apart P names (Ctor f) (Ctor g) n is_f is_g e = ap Ctor (constructors_same P names false false f g n n is_f is_g e)
symbols_apart P names (Ctor f) (Data g) n is_f is_g e = absurd (one_kind P g n n (subst (λ h. IsConstructor P false h n) (constructors_same P names false true f g n n is_f is_g e) is_f) is_g)
symbols_apart P names (Ctor f) (Free a) n is_f is_g e = absurd (no_free P names false f a n is_f is_g.0 e)
symbols_apart P names (Data f) (Ctor g) n is_f is_g e = absurd (one_kind P g n n is_g (subst (λ h. IsConstructor P true h n) (constructors_same P names true false f g n n is_f is_g e) is_f))
symbols_apart P names (Data f) (Data g) n is_f is_g e = ap Data (constructors_same P names true true f g n n is_f is_g e)
symbols_apart P names (Data f) (Free a) n is_f is_g e = absurd (no_free P names true f a n is_f is_g.0 e)
symbols_apart P names (Free a) (Ctor g) n is_f is_g e = absurd (no_free P names false g a n is_g is_f.0 (sym e))
symbols_apart P names (Free a) (Data g) n is_f is_g e = absurd (no_free P names true g a n is_g is_f.0 (sym e))
symbols_apart P names (Free a) (Free b) n is_f is_g e = ap Free (frees_same P names a b is_f.0 is_g.0 e)
symbols_apart P names (Tuple k) (Tuple m) n is_f is_g e = ap Tuple (is_f.0 ∙ sym is_g.0)
symbols_apart P names (Point p) (Point q) n is_f is_g e = ap Point (points_same p q (word_at P p) (word_at P q) is_f.1 is_g.1 e)
symbols_apart P names Attacker Attacker n is_f is_g e = refl
symbols_apart P names f g n is_f is_g e = absurd (cc)

-- a variable is no symbol
no_variable : (w : List ℕ) (ts : LooseRow) (x : ℕ) → x < most_side_variables → IsSymbolWord w → Leaf (variable_word x) ≡ applied w ts → ⊥
no_variable w none x below is e = go (nat_lt x first_bound) refl where
  words : variable_word x ≡ w
  words = cc

  go : (b : Bool) → nat_lt x first_bound ≡ b → ⊥
  go true f =
      let short = ltb-true x first_bound f in
      let differ : true ≡ false = sym (variable_is_variable x short) ∙ (ap is_variable (sym (own_word x short) ∙ words) ∙ is.1) in cc
  go false f = word_begins w [] 63 (decimal (x - first_bound)) (symbol_word_is_word w is) refl (append-nil w ∙ (sym words ∙ bound_word x (ltb-false x first_bound f)))
no_variable w (more t ts) x below is e = cc

variables_apart : (P : Protocol) → HasNames P → (x : ℕ) (f : Sym) (n : ℕ) (ts : LooseRow) → x < most_side_variables → IsSymbolOf P f n → Leaf (variable_word x) ≡ headed P f ts → ⊥
variables_apart P names x (Ctor f) n ts below is e = no_variable (declared_word P.constructors f) ts x below (constructor_word P false f n names is) e
variables_apart P names x (Data f) n ts below is e = no_variable (declared_word P.constructors f) ts x below (constructor_word P true f n names is) e
variables_apart P names x (Tuple m) n ts below is e = cc
variables_apart P names x (Free a) n ts below is e = no_variable (declared_word P.frees a) ts x below (free_word P a names is.0) e
variables_apart P names x (Point p) n ts below is e = cc
variables_apart P names x Attacker n ts below is e = cc

variables_same : (x y : ℕ) → x < most_side_variables → y < most_side_variables → variable_word x ≡ variable_word y → x ≡ y
variables_same x y below_x below_y e = go (nat_lt x first_bound) (nat_lt y first_bound) refl refl where
  go : (a b : Bool) → nat_lt x first_bound ≡ a → nat_lt y first_bound ≡ b → x ≡ y
  go true true f g =
      let short_x = ltb-true x first_bound f in
      let short_y = ltb-true y first_bound g in
      one_decimal x y short_x short_y (later_same 118 118 (decimal x) (decimal y) (sym (own_word x short_x) ∙ (e ∙ own_word y short_y)))
  go true false f g = let first = first_same 118 63 _ _ (sym (own_word x (ltb-true x first_bound f)) ∙ (e ∙ bound_word y (ltb-false y first_bound g))) in absurd (omega (arith, first))
  go false true f g = let first = first_same 63 118 _ _ (sym (bound_word x (ltb-false x first_bound f)) ∙ (e ∙ own_word y (ltb-true y first_bound g))) in absurd (omega (arith, first))
  go false false f g =
      let over_x = ltb-false x first_bound f in
      let over_y = ltb-false y first_bound g in
      let short_x : x - first_bound < first_bound = omega (arith, below_x, over_x) in
      let short_y : y - first_bound < first_bound = omega (arith, below_y, over_y) in
      let same = one_decimal (x - first_bound) (y - first_bound) short_x short_y (later_same 63 63 _ _ (sym (bound_word x over_x) ∙ (e ∙ bound_word y over_y))) in
      omega (arith, same, over_x, over_y)

module _ (most : ℕ) (low : most ≤ most_side_variables) where
  mutual
    pub sides_apart : (P : Protocol) → HasNames P → (t u : Term) → IsTermBelow most P t → IsTermBelow most P u → written P t ≡ written P u → t ≡ u
    sides_apart P names (Leaf x) (Leaf y) is_t is_u e = let words : variable_word x ≡ variable_word y = cc in ap Leaf (variables_same x y (omega (arith, is_t, low)) (omega (arith, is_u, low)) words)
    sides_apart P names (Leaf x) (Node g us) is_t is_u e = absurd (variables_apart P names x g (length (items_of us)) (written_row P us) (omega (arith, is_t, low)) is_u.0 e)
    sides_apart P names (Node f ts) (Leaf y) is_t is_u e = absurd (variables_apart P names y f (length (items_of ts)) (written_row P ts) (omega (arith, is_u, low)) is_t.0 (sym e))
    sides_apart P names (Node f ts) (Node g us) is_t is_u e =
        let rows : ts ≡ us = side_rows_apart P names ts us is_t.1 is_u.1 (sym (arguments-headed P f (written_row P ts)) ∙ (ap arguments_of e ∙ arguments-headed P g (written_row P us))) in
        let heads : symbol_head P f ≡ symbol_head P g = sym (head-headed P f (written_row P ts)) ∙ (ap head_of e ∙ head-headed P g (written_row P us)) in
        let symbols : f ≡ g = symbols_apart P names f g (length (items_of us)) (subst (λ vs. IsSymbolOf P f (length (items_of vs))) rows is_t.0) is_u.0 heads in
        ap (λ h. Node h ts) symbols ∙ ap (Node g) rows

    pub side_rows_apart : (P : Protocol) → HasNames P → (ts us : Trees ℕ Sym) → AreTermsBelow most P ts → AreTermsBelow most P us → written_row P ts ≡ written_row P us → ts ≡ us
    side_rows_apart P names none none are_t are_u e = refl
    side_rows_apart P names none (more u us) are_t are_u e = absurd (cc)
    side_rows_apart P names (more t ts) none are_t are_u e = absurd (cc)
    side_rows_apart P names (more t ts) (more u us) are_t are_u e =
        let first : written P t ≡ written P u = cc in
        let later : written_row P ts ≡ written_row P us = cc in
        let same : t ≡ u = sides_apart P names t u are_t.0 are_u.0 first in
        let others : ts ≡ us = side_rows_apart P names ts us are_t.1 are_u.1 later in
        ap (λ v. more v ts) same ∙ ap (more u) others

-- those of facts
pub written_apart : (P : Protocol) → HasNames P → (t u : Term) → IsTermOf P t → IsTermOf P u → written P t ≡ written P u → t ≡ u
written_apart P names t u is_t is_u e = sides_apart first_bound facts_low P names t u is_t is_u e

pub rows_apart : (P : Protocol) → HasNames P → (ts us : Trees ℕ Sym) → AreTermsOf P ts → AreTermsOf P us → written_row P ts ≡ written_row P us → ts ≡ us
rows_apart P names ts us are_t are_u e = side_rows_apart first_bound facts_low P names ts us are_t are_u e
