-- The word of a symbol names that symbol.
use Rattle.std.proofs.Common.{◌≡◌, ℕ, zero, suc, ◌+◌, Bool, true, false, List, [], ◌∷◌, Option, Some, None, slice_get, option_map, option_and_then, unwrap_or, refl, sym, ◌∙◌, ap, subst}
use Rattle.std.specs.Option.{option_or}
use Rattle.std.specs.Str.{bytes_eq}
use Rattle.std.proofs.lemmas.Slice.Eq.{bytes_eq-Decides}
use Rattle.spec_calculus.specs.Syntax.{Declared, New, Protocol}
use Rattle.spec_calculus.specs.Points.{numbered, name_arguments}
use Rattle.spec_well_formed.specs.Words as declared
use Rattle.spec_terms.specs.Term.{Free, Point}
use Rattle.spec_certificate_text.specs.Words.{declared_word, word_of_process, word_at}
use Rattle.spec_certificate_text.specs.OfProtocol.{IsDeclared, IsConstructor, IsDeclaredOver, IsEvent, IsTable, IsRestriction, HasNames}
use Rattle.spec_certificate_text.proofs.Names.{word_is, one_name, constructor_named, free_named, event_named, table_named}
use Rattle.spec_certificate_text.specs.Names as called
use Rattle.spec_certificate_text.specs.Names.{Found, find_from, constructor_symbol, symbol_called, if_restriction, name_called, CalledEvent, called_in, event_called, table_called}
use Rattle.spec_certificate_text.proofs.Named.{found_at, numbered_is}

-- where nothing was found no declaration has the word
abbrev found_so : ℕ → Declared → Found
found_so n d = record { number = n; declared = d }

none_there : (n : ℕ) (ds : List Declared) (word : List ℕ) (i : ℕ) (d : Declared) → find_from n ds word ≡ None → slice_get ds i ≡ Some d → d.word ≡ word → ⊥
none_there n [] word zero d none there same = cc
none_there n [] word (suc i) d none there same = cc
none_there n (c ∷ ds) word i d none there same = by (bytes_eq c.word word) refl i there (none_there (n + 1) ds word)
  where
    by : (eq : Bool) → bytes_eq c.word word ≡ eq → (j : ℕ) → slice_get (c ∷ ds) j ≡ Some d → ((k : ℕ) (e : Declared) → find_from (n + 1) ds word ≡ None → slice_get ds k ≡ Some e → e.word ≡ word → ⊥) → ⊥
    by true is j at later = let found : Some (found_so n c) ≡ None = rw is at none in cc
    by false differs zero at later = let yes : bytes_eq c.word word ≡ true = (bytes_eq-Decides c.word word).1 (let first : c ≡ d = cc in ap (λ x. x.word) first ∙ same) in cc
    by false differs (suc j) at later = let rest : find_from (n + 1) ds word ≡ None = rw differs at none in later j d rest at same

pub none_numbered : (ds : List Declared) (word : List ℕ) (number : ℕ) (d : Declared) → find_from 1 ds word ≡ None → numbered ds number ≡ Some d → d.word ≡ word → ⊥
none_numbered ds word zero d none there same = cc
none_numbered ds word (suc i) d none there same = none_there 1 ds word i d none there same

-- what was found of the word is declared with it
pub record IsThere (ds : List Declared) (word : List ℕ) (f : Found) : Type 0 where
  pub there : numbered ds f.number ≡ Some f.declared
  pub has_word : declared_word ds f.number ≡ word

pub found_there : (ds : List Declared) (word : List ℕ) (f : Found) → find_from 1 ds word ≡ Some f → IsThere ds word f
found_there ds word f e =
    let at = found_at 1 ds word f e in
    let there = numbered_is ds word f at in
    record { there = there; has_word = word_is ds f.number f.declared there ∙ at.has_word }

pub free_called : (P : Protocol) → HasNames P → (a : ℕ) → IsDeclared P.frees a → symbol_called P (declared_word P.frees a) ≡ Some record { symbol = Free a; arity = 0 }
free_called P names a is = by (find_from 1 P.frees (declared_word P.frees a)) refl
  where
    by : (found : Option Found) → find_from 1 P.frees (declared_word P.frees a) ≡ found → symbol_called P (declared_word P.frees a) ≡ Some record { symbol = Free a; arity = 0 }
    by None e = absurd (none_numbered P.frees (declared_word P.frees a) a is.declared e is.there (sym (word_is P.frees a is.declared is.there)))
    by (Some f) e =
        let here = found_there P.frees (declared_word P.frees a) f e in
        let other : IsDeclared P.frees f.number = record { declared = f.declared; there = here.there } in
        let one : declared.Free f.number ≡ declared.Free a = one_name P names (declared.Free f.number) (declared.Free a) (declared_word P.frees f.number) (declared_word P.frees a) (free_named P f.number other) (free_named P a is) here.has_word in
        let same : f.number ≡ a = cc in
        ap (λ o. option_or (option_map called.free_named o) (option_map called.constructor_named (find_from 1 P.constructors (declared_word P.frees a)))) e
        ∙ ap (λ m. Some record { symbol = Free m; arity = 0 }) same

pub constructor_called : (P : Protocol) → HasNames P → (is_data : Bool) (f n : ℕ) → IsConstructor P is_data f n → symbol_called P (declared_word P.constructors f) ≡ Some record { symbol = constructor_symbol is_data f; arity = n }
constructor_called P names is_data f n is = by (find_from 1 P.frees word) (find_from 1 P.constructors word) refl refl
  where
    word : List ℕ
    word = declared_word P.constructors f

    by : (free found : Option Found) → find_from 1 P.frees (declared_word P.constructors f) ≡ free → find_from 1 P.constructors (declared_word P.constructors f) ≡ found → symbol_called P (declared_word P.constructors f) ≡ Some record { symbol = constructor_symbol is_data f; arity = n }
    by (Some g) found e c =
        let here = found_there P.frees (declared_word P.constructors f) g e in
        let other : IsDeclared P.frees g.number = record { declared = g.declared; there = here.there } in
        let one : declared.Free g.number ≡ declared.Constructor f = one_name P names (declared.Free g.number) (declared.Constructor f) (declared_word P.frees g.number) (declared_word P.constructors f) (free_named P g.number other) (constructor_named P is_data f n is) here.has_word in
        absurd (cc)
    by None None e c = absurd (none_numbered P.constructors (declared_word P.constructors f) f is.declared c is.there (sym (word_is P.constructors f is.declared is.there)))
    by None (Some g) e c =
        let here = found_there P.constructors (declared_word P.constructors f) g c in
        let other : IsConstructor P g.declared.is_data g.number g.declared.arity = record { declared = g.declared; there = here.there; data_is = refl; arity = refl } in
        let one : declared.Constructor g.number ≡ declared.Constructor f = one_name P names (declared.Constructor g.number) (declared.Constructor f) (declared_word P.constructors g.number) (declared_word P.constructors f) (constructor_named P g.declared.is_data g.number g.declared.arity other) (constructor_named P is_data f n is) here.has_word in
        let same : g.number ≡ f = cc in
        let both : Some g.declared ≡ Some is.declared = sym here.there ∙ (ap (numbered P.constructors) same ∙ is.there) in
        let one_declared : g.declared ≡ is.declared = cc in
        ap (λ o. option_or (option_map called.free_named o) (option_map called.constructor_named (find_from 1 P.constructors (declared_word P.constructors f)))) e
        ∙ (ap (option_map called.constructor_named) c
        ∙ (ap (λ d. Some record { symbol = constructor_symbol d.is_data g.number; arity = d.arity }) one_declared
        ∙ (ap (λ b. Some record { symbol = constructor_symbol b g.number; arity = is.declared.arity }) is.data_is
        ∙ (ap (λ m. Some record { symbol = constructor_symbol is_data m; arity = is.declared.arity }) same
        ∙ ap (λ m. Some record { symbol = constructor_symbol is_data f; arity = m }) is.arity))))

pub point_called : (P : Protocol) (point n : ℕ) → IsRestriction P point n → name_called P (word_at P point) point ≡ Some record { symbol = Point point; arity = n }
point_called P point n is =
    let same : word_at P point ≡ is.word = ap (λ o. unwrap_or (option_map word_of_process o) []) is.there in
    let equal : bytes_eq is.word (word_at P point) ≡ true = (bytes_eq-Decides is.word (word_at P point)).1 (sym same) in
    let found : if_restriction (word_at P point) point (New is.word is.next) (Some n) ≡ Some record { symbol = Point point; arity = n } = rw equal refl in
    ap (option_and_then (λ node. if_restriction (word_at P point) point node (numbered (name_arguments 0 P.main) point))) is.there
    ∙ (ap (if_restriction (word_at P point) point (New is.word is.next)) is.arity ∙ found)

abbrev event_of : Found → CalledEvent
event_of f = record { number = f.number; arity = f.declared.arity }

-- no two of these declarations have one word
abbrev pub HasOwnWords : List Declared → Type 0
HasOwnWords ds = (g e m n : ℕ) → IsDeclaredOver ds g m → IsDeclaredOver ds e n → declared_word ds g ≡ declared_word ds e → g ≡ e

-- the word of such a declaration names it
pub declared_word_called : (ds : List Declared) → HasOwnWords ds → (e n : ℕ) → IsDeclaredOver ds e n → called_in ds (declared_word ds e) ≡ Some record { number = e; arity = n }
declared_word_called ds own e n is = by (find_from 1 ds (declared_word ds e)) refl
  where
    by : (found : Option Found) → find_from 1 ds (declared_word ds e) ≡ found → called_in ds (declared_word ds e) ≡ Some record { number = e; arity = n }
    by None none = absurd (none_numbered ds (declared_word ds e) e is.declared none is.there (sym (word_is ds e is.declared is.there)))
    by (Some f) some =
        let here = found_there ds (declared_word ds e) f some in
        let other : IsDeclaredOver ds f.number f.declared.arity = record { declared = f.declared; there = here.there; arity = refl } in
        let same : f.number ≡ e = own f.number e f.declared.arity n other is here.has_word in
        let both : Some f.declared ≡ Some is.declared = sym here.there ∙ (ap (numbered ds) same ∙ is.there) in
        let one_declared : f.declared ≡ is.declared = cc in
        ap (option_map event_of) some
        ∙ (ap (λ d. Some record { number = f.number; arity = d.arity }) one_declared
        ∙ (ap (λ m. Some record { number = m; arity = is.declared.arity }) same
        ∙ ap (λ m. Some record { number = e; arity = m }) is.arity))

pub events_own_words : (P : Protocol) → HasNames P → HasOwnWords P.events
events_own_words P names g e m n is_g is_e same =
    let one : declared.Event g ≡ declared.Event e = one_name P names (declared.Event g) (declared.Event e) (declared_word P.events g) (declared_word P.events e) (event_named P g m is_g) (event_named P e n is_e) same in
    cc

pub tables_own_words : (P : Protocol) → HasNames P → HasOwnWords P.tables
tables_own_words P names g e m n is_g is_e same =
    let one : declared.Table g ≡ declared.Table e = one_name P names (declared.Table g) (declared.Table e) (declared_word P.tables g) (declared_word P.tables e) (table_named P g m is_g) (table_named P e n is_e) same in
    cc

-- the word of an event names that event, and that of a table the table
pub event_word_called : (P : Protocol) → HasNames P → (e n : ℕ) → IsEvent P e n → event_called P (declared_word P.events e) ≡ Some record { number = e; arity = n }
event_word_called P names e n is = declared_word_called P.events (events_own_words P names) e n is

pub table_word_called : (P : Protocol) → HasNames P → (t n : ℕ) → IsTable P t n → table_called P (declared_word P.tables t) ≡ Some record { number = t; arity = n }
table_word_called P names t n is = declared_word_called P.tables (tables_own_words P names) t n is

-- what a word names among declarations has that word
pub record IsCalledIn (ds : List Declared) (word : List ℕ) (called : CalledEvent) : Type 0 where
  pub has_word : declared_word ds called.number ≡ word
  pub is_of : IsDeclaredOver ds called.number called.arity

pub called_in_is : (ds : List Declared) (word : List ℕ) (called : CalledEvent) → called_in ds word ≡ Some called → IsCalledIn ds word called
called_in_is ds word called e = by (find_from 1 ds word) refl e
  where
    by : (found : Option Found) → find_from 1 ds word ≡ found → option_map event_of found ≡ Some called → IsCalledIn ds word called
    by None is none = absurd (cc)
    by (Some f) is some =
        let here = found_there ds word f is in
        let same : event_of f ≡ called = cc in
        let told : IsCalledIn ds word (event_of f) = record { has_word = here.has_word; is_of = record { declared = f.declared; there = here.there; arity = refl } } in
        subst (IsCalledIn ds word) same told

abbrev pub IsCalled : Protocol → List ℕ → CalledEvent → Type 0
IsCalled P word called = IsCalledIn P.events word called

pub event_called_is : (P : Protocol) (word : List ℕ) (called : CalledEvent) → event_called P word ≡ Some called → IsCalled P word called
event_called_is P word called e = called_in_is P.events word called e
