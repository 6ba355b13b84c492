-- What a word names has that word.
use Rattle.std.proofs.Common.{◌≡◌, ℕ, suc, ◌+◌, Bool, true, false, List, [], ◌∷◌, Option, Some, None, slice_get, option_map, unwrap_or, refl, sym, ◌∙◌, ap, subst, arith}
use Rattle.std.specs.Str.{bytes_eq}
use Rattle.spec_calculus.specs.Syntax.{Declared, Process, Nil, Output, Input, Parallel, Replication, New, Let, Event, Phase, Insert, Get, Protocol}
use Rattle.spec_calculus.specs.Points.{numbered, nodes, name_arguments}
use Rattle.spec_terms.specs.Term.{Sym, Ctor, Data, Free, Point}
use Rattle.std.proofs.lemmas.Slice.Eq.{bytes_eq-Decides}
use Rattle.spec_certificate_text.specs.OfProtocol.{IsSymbolOf, IsRestriction}
use Rattle.spec_certificate_text.proofs.Names.{word_is}
use Rattle.spec_certificate_text.specs.Words.{word_of_process, word_at, symbol_word}
use Rattle.spec_certificate_text.specs.Names.{Found, find_from, Named, free_named, constructor_symbol, constructor_named, symbol_called, is_restriction_of, if_restriction, name_called}

-- a symbol that has no part but its word
abbrev pub IsWorded : Sym → Type 0
IsWorded (Ctor f) = Unit {0}
IsWorded (Data f) = Unit {0}
IsWorded (Free a) = Unit {0}
IsWorded other = ⊥

-- what was found stands at its number, counted from n, and has the word
pub record IsAt (n : ℕ) (ds : List Declared) (word : List ℕ) (f : Found) : Type 0 where
  pub index : ℕ
  pub number : f.number ≡ n + index
  pub there : slice_get ds index ≡ Some f.declared
  pub has_word : f.declared.word ≡ word

pub bytes_same : (xs ys : List ℕ) → bytes_eq xs ys ≡ true → xs ≡ ys
bytes_same xs ys e = (bytes_eq-Decides xs ys).0 e

pub found_at : (n : ℕ) (ds : List Declared) (word : List ℕ) (f : Found) → find_from n ds word ≡ Some f → IsAt n ds word f
found_at n [] word f e = absurd (cc)
found_at n (d ∷ ds) word f e = by (bytes_eq d.word word) refl (found_at (n + 1) ds word f)
  where
    by : (same : Bool) → bytes_eq d.word word ≡ same → (find_from (n + 1) ds word ≡ Some f → IsAt (n + 1) ds word f) → IsAt n (d ∷ ds) word f
    by true is later =
        let found : Found = record { number = n; declared = d } in
        let here : Some found ≡ Some f = rw is at e in
        let same : found ≡ f = cc in
        let at_once : IsAt n (d ∷ ds) word found = record { index = 0; number = omega arith; there = refl; has_word = bytes_same d.word word is } in
        subst (IsAt n (d ∷ ds) word) same at_once
    by false differs later =
        let there : find_from (n + 1) ds word ≡ Some f = rw differs at e in
        let at = later there in
        record { index = suc at.index; number = omega (arith, at.number); there = at.there; has_word = at.has_word }

pub numbered_is : (ds : List Declared) (word : List ℕ) (f : Found) → IsAt 1 ds word f → numbered ds f.number ≡ Some f.declared
numbered_is ds word f at = let next : f.number ≡ suc at.index = omega (arith, at.number) in rw next at.there

-- a word names this symbol, which takes so many arguments, and which has no part but its word
pub record IsNamed (P : Protocol) (word : List ℕ) (named : Named) : Type 0 where
  pub has_word : symbol_word P named.symbol ≡ word
  pub worded : IsWorded named.symbol
  pub is_of : IsSymbolOf P named.symbol named.arity

free_is : (P : Protocol) (word : List ℕ) (f : Found) → find_from 1 P.frees word ≡ Some f → IsNamed P word (free_named f)
free_is P word f e =
    let at = found_at 1 P.frees word f e in
    let there = numbered_is P.frees word f at in
    record { has_word = word_is P.frees f.number f.declared there ∙ at.has_word; worded = tt; is_of = (record { declared = f.declared; there = there }, refl) }

constructor_is : (P : Protocol) (word : List ℕ) (f : Found) → find_from 1 P.constructors word ≡ Some f → IsNamed P word (constructor_named f)
constructor_is P word f e = by f.declared.is_data refl
  where
    by : (b : Bool) → f.declared.is_data ≡ b → IsNamed P word record { symbol = constructor_symbol f.declared.is_data f.number; arity = f.declared.arity }
    by true is =
        let at = found_at 1 P.constructors word f e in
        let there = numbered_is P.constructors word f at in
        let named : IsNamed P word record { symbol = Data f.number; arity = f.declared.arity } = record { has_word = word_is P.constructors f.number f.declared there ∙ at.has_word; worded = tt; is_of = record { declared = f.declared; there = there; data_is = is; arity = refl } } in
        subst (λ c. IsNamed P word record { symbol = constructor_symbol c f.number; arity = f.declared.arity }) (sym is) named
    by false is =
        let at = found_at 1 P.constructors word f e in
        let there = numbered_is P.constructors word f at in
        let named : IsNamed P word record { symbol = Ctor f.number; arity = f.declared.arity } = record { has_word = word_is P.constructors f.number f.declared there ∙ at.has_word; worded = tt; is_of = record { declared = f.declared; there = there; data_is = is; arity = refl } } in
        subst (λ c. IsNamed P word record { symbol = constructor_symbol c f.number; arity = f.declared.arity }) (sym is) named

pub symbol_called_is : (P : Protocol) (word : List ℕ) (named : Named) → symbol_called P word ≡ Some named → IsNamed P word named
symbol_called_is P word named e = by (find_from 1 P.frees word) (find_from 1 P.constructors word) refl refl
  where
    by : (free constructor : Option Found) → find_from 1 P.frees word ≡ free → find_from 1 P.constructors word ≡ constructor → IsNamed P word named
    by (Some f) constructor is_free is_constructor =
        let here : Some (free_named f) ≡ Some named = rw is_free at e in
        let same : free_named f ≡ named = cc in
        subst (IsNamed P word) same (free_is P word f is_free)
    by None (Some f) is_free is_constructor =
        let here : Some (constructor_named f) ≡ Some named = rw (is_free, is_constructor) at e in
        let same : constructor_named f ≡ named = cc in
        subst (IsNamed P word) same (constructor_is P word f is_constructor)
    by None None is_free is_constructor = let none : None ≡ Some named = rw (is_free, is_constructor) at e in absurd (cc)

-- a word names the restriction at the point
pub record IsNameAt (P : Protocol) (word : List ℕ) (point : ℕ) (named : Named) : Type 0 where
  pub symbol : named.symbol ≡ Point point
  pub has_word : word_at P point ≡ word
  pub is_of : IsRestriction P point named.arity

restriction_is : (word : List ℕ) (node : Process) → is_restriction_of word node ≡ true → (next : Process) × (node ≡ New word next)
restriction_is word (New w next) e = (next, ap (λ v. New v next) (bytes_same w word e))
restriction_is word Nil e = absurd (cc)
restriction_is word (Output c m next) e = absurd (cc)
restriction_is word (Input c p next) e = absurd (cc)
restriction_is word (Parallel l r) e = absurd (cc)
restriction_is word (Replication p) e = absurd (cc)
restriction_is word (Let p x next otherwise) e = absurd (cc)
restriction_is word (Event x next) e = absurd (cc)
restriction_is word (Phase n next) e = absurd (cc)
restriction_is word (Insert n ts next) e = absurd (cc)
restriction_is word (Get n ps condition next otherwise) e = absurd (cc)

pub name_called_is : (P : Protocol) (word : List ℕ) (point : ℕ) (named : Named) → name_called P word point ≡ Some named → IsNameAt P word point named
name_called_is P word point named e = by_node (numbered (nodes P.main) point) refl
  where
    by_arguments : (node : Process) → numbered (nodes P.main) point ≡ Some node → is_restriction_of word node ≡ true → (arguments : Option ℕ) → numbered (name_arguments 0 P.main) point ≡ arguments → option_map (λ n. record { symbol = Point point; arity = n }) arguments ≡ Some named → IsNameAt P word point named
    by_arguments node there is None counted here = absurd (cc)
    by_arguments node there is (Some n) counted here =
        let named_so : Named = record { symbol = Point point; arity = n } in
        let same : named_so ≡ named = cc in
        let new = restriction_is word node is in
        let stands : numbered (nodes P.main) point ≡ Some (New word new.0) = there ∙ ap Some new.1 in
        let shown : IsNameAt P word point named_so = record { symbol = refl; has_word = ap (λ o. unwrap_or (option_map word_of_process o) []) stands; is_of = record { word = word; next = new.0; there = stands; arity = counted } } in
        subst (IsNameAt P word point) same shown

    by_test : (node : Process) → numbered (nodes P.main) point ≡ Some node → (is : Bool) → is_restriction_of word node ≡ is → if_restriction word point node (numbered (name_arguments 0 P.main) point) ≡ Some named → IsNameAt P word point named
    by_test node there true is here =
        let counted : option_map (λ n. record { symbol = Point point; arity = n }) (numbered (name_arguments 0 P.main) point) ≡ Some named = rw is at here in
        by_arguments node there is (numbered (name_arguments 0 P.main) point) refl counted
    by_test node there false isnt here = let none : None ≡ Some named = rw isnt at here in absurd (cc)

    by_node : (found : Option Process) → numbered (nodes P.main) point ≡ found → IsNameAt P word point named
    by_node None there = let none : None ≡ Some named = rw there at e in absurd (cc)
    by_node (Some node) there =
        let here : if_restriction word point node (numbered (name_arguments 0 P.main) point) ≡ Some named = rw there at e in
        by_test node there (is_restriction_of word node) refl here
