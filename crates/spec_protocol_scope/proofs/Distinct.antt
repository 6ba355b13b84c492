-- No two declared names have one word.
use Rattle.std.proofs.Common.{◌≡◌, ℕ, zero, suc, ◌+◌, Bool, true, false, nat_le, List, [], ◌∷◌, ◌++◌, length, slice_get, Option, None, Some, option_map, is_some, ◌⊎◌, inl, inr, Ok, refl, ap, subst, ◌∙◌, sym, if◌then◌else◌}
use Rattle.std.specs.Option.{option_or}
use Rattle.std.specs.Str.{bytes_eq}
use Rattle.std.proofs.lemmas.Slice.Eq.{bytes_eq-Decides}
use Rattle.spec_calculus.specs.Bounds.{most_rules}
use Rattle.spec_calculus.specs.Syntax as calculus
use Rattle.spec_calculus.specs.Points.{numbered}
use Rattle.spec_well_formed.specs.Signature.{Signature}
use Rattle.spec_well_formed.specs.Words.{DeclaredName, word_of, AreDistinct}
use Rattle.spec_well_formed.specs.Words as declared
use Rattle.spec_protocol_grammar.specs.Sketch.{ProcessSketch, RuleSketch, DeclarationSketch, Free, Fun, Data, Reduc, Event, Table, Query, Definition}
use Rattle.spec_protocol_scope.specs.Names.{signature_with, Names, Scope, Texts, no_names, find_from, declared_meaning, MeansFree, MeansConstructor, MeansDestructor, MeansEvent, MeansTable, arity_of}
use Rattle.spec_protocol_scope.specs.Declarations as rules
use Rattle.spec_protocol_scope.specs.Declarations.{among}
use Rattle.spec_protocol_scope.proofs.Stepped.{stepped, kept, found_one}
use Rattle.spec_protocol_scope.proofs.Declarations.{IsNew, new_name, new_symbol}

-- what is not found stands nowhere in the list
not_found : {X : Type 0} (spelling : X → List ℕ) (number : ℕ) (xs : List X) (word : List ℕ) → is_some (find_from spelling number xs word) ≡ false → (index : ℕ) → option_map spelling (slice_get xs index) ≡ Some word → ⊥
not_found spelling number [] word none index e = cc
not_found {X} spelling number (y ∷ xs) word none index e = by (bytes_eq (spelling y) word) refl (λ h k f. not_found spelling (number + 1) xs word h k f) none index e
  where
    by : (b : Bool) → bytes_eq (spelling y) word ≡ b → (is_some (find_from spelling (number + 1) xs word) ≡ false → (k : ℕ) → option_map spelling (slice_get xs k) ≡ Some word → ⊥)
        → is_some (if b then Some (number, y) else find_from spelling (number + 1) xs word) ≡ false → (index : ℕ) → option_map spelling (slice_get (y ∷ xs) index) ≡ Some word → ⊥
    by true is later none index e = cc
    by false is later none zero e = let d = bytes_eq-Decides (spelling y) word in let yes : bytes_eq (spelling y) word ≡ true = d.1 (let same = e in cc) in cc
    by false is later none (suc index) e = later none index e

none_numbered : {X : Type 0} (spelling : X → List ℕ) (xs : List X) (word : List ℕ) → is_some (find_from spelling 1 xs word) ≡ false → (number : ℕ) → option_map spelling (numbered xs number) ≡ Some word → ⊥
none_numbered spelling xs word none zero e = cc
none_numbered spelling xs word none (suc index) e = not_found spelling 1 xs word none index e

none_of : {X : Type 0} (o p : Option X) → is_some (option_or o p) ≡ false → (is_some o ≡ false) × (is_some p ≡ false)
none_of None p e = (refl, e)
none_of (Some x) p e = absurd (let same = e in cc)

none_mapped : {X Y : Type 0} (f : X → Y) (o : Option X) → is_some (option_map f o) ≡ false → is_some o ≡ false
none_mapped f None e = refl
none_mapped f (Some x) e = absurd (let same = e in cc)

-- a word that means nothing is that of no declared name
record Unfound (names : Names) (word : List ℕ) : Type 0 where
  frees : is_some (find_from (λ d. d.word) 1 names.frees word) ≡ false
  constructors : is_some (find_from (λ d. d.word) 1 names.constructors word) ≡ false
  destructors : is_some (find_from (λ d. d.word) 1 names.destructors word) ≡ false
  events : is_some (find_from (λ d. d.word) 1 names.events word) ≡ false
  tables : is_some (find_from (λ d. d.word) 1 names.tables word) ≡ false

unfound : (names : Names) (word : List ℕ) → is_some (declared_meaning names word) ≡ false → Unfound names word
unfound names word none =
    let free = λ (f : ℕ × calculus.Declared). MeansFree f.0 in
    let constructor = λ (f : ℕ × calculus.Declared). MeansConstructor f.0 f.1.arity f.1.is_data in
    let destructor = λ (f : ℕ × calculus.Destructor). MeansDestructor f.0 (arity_of f.1.rules) in
    let event = λ (f : ℕ × calculus.Declared). MeansEvent f.0 f.1.arity in
    let table = λ (f : ℕ × calculus.Declared). MeansTable f.0 f.1.arity in
    let a = none_of (option_map free (find_from (λ d. d.word) 1 names.frees word)) _ none in
    let b = none_of (option_map constructor (find_from (λ d. d.word) 1 names.constructors word)) _ a.1 in
    let c = none_of (option_map destructor (find_from (λ d. d.word) 1 names.destructors word)) _ b.1 in
    let d = none_of (option_map event (find_from (λ d. d.word) 1 names.events word)) (option_map table (find_from (λ d. d.word) 1 names.tables word)) c.1 in
    record {
      frees = none_mapped free (find_from (λ d. d.word) 1 names.frees word) a.0;
      constructors = none_mapped constructor (find_from (λ d. d.word) 1 names.constructors word) b.0;
      destructors = none_mapped destructor (find_from (λ d. d.word) 1 names.destructors word) c.0;
      events = none_mapped event (find_from (λ d. d.word) 1 names.events word) d.0;
      tables = none_mapped table (find_from (λ d. d.word) 1 names.tables word) d.1;
    }

unfound_fresh : (names : Names) (word : List ℕ) → Unfound names word → (x : DeclaredName) → word_of (signature_with names) x ≡ Some word → ⊥
unfound_fresh names word u (declared.Free number) e = none_numbered (λ d. d.word) names.frees word u.frees number e
unfound_fresh names word u (declared.Constructor number) e = none_numbered (λ d. d.word) names.constructors word u.constructors number e
unfound_fresh names word u (declared.Destructor number) e = none_numbered (λ d. d.word) names.destructors word u.destructors number e
unfound_fresh names word u (declared.Event number) e = none_numbered (λ d. d.word) names.events word u.events number e
unfound_fresh names word u (declared.Table number) e = none_numbered (λ d. d.word) names.tables word u.tables number e

fresh : (s : Scope) (n : ℕ) (word : List ℕ) → IsNew s n word → (x : DeclaredName) → word_of (signature_with s.names) x ≡ Some word → ⊥
fresh s n word new x e =
    let none = none_of (declared_meaning s.names (s.text n)) _ new.unknown in
    unfound_fresh s.names (s.text n) (unfound s.names (s.text n) none.0) x (e ∙ ap (λ (w : List ℕ). Some w) new.is)

-- a signature with one name more
abbrev Adds : Signature → Signature → DeclaredName → List ℕ → Type 0
Adds a b at word = (x : DeclaredName) (w : List ℕ) → word_of b x ≡ Some w → (word_of a x ≡ Some w) ⊎ ((x ≡ at) × (w ≡ word))

distinct_more : (a b : Signature) (at : DeclaredName) (word : List ℕ) → AreDistinct a → ((x : DeclaredName) → word_of a x ≡ Some word → ⊥) → Adds a b at word → AreDistinct b
distinct_more a b at word distinct new adds x y w p q = by (adds x w p) (adds y w q)
  where
    by : (word_of a x ≡ Some w) ⊎ ((x ≡ at) × (w ≡ word)) → (word_of a y ≡ Some w) ⊎ ((y ≡ at) × (w ≡ word)) → x ≡ y
    by (inl h) (inl k) = distinct x y w h k
    by (inl h) (inr k) = absurd (new x (h ∙ ap (λ (v : List ℕ). Some v) k.1))
    by (inr h) (inl k) = absurd (new y (k ∙ ap (λ (v : List ℕ). Some v) h.1))
    by (inr h) (inr k) = h.0 ∙ sym k.0

-- an item of a list with one more is one of before, or the last
last_or_before : {X : Type 0} (spelling : X → List ℕ) (xs : List X) (d : X) (index : ℕ) (w : List ℕ) → option_map spelling (slice_get (xs ++ d ∷ []) index) ≡ Some w
    → (option_map spelling (slice_get xs index) ≡ Some w) ⊎ ((index ≡ length xs) × (w ≡ spelling d))
last_or_before spelling [] d zero w e = inr (refl, let same = e in cc)
last_or_before spelling [] d (suc index) w e = absurd (let same = e in cc)
last_or_before spelling (x ∷ xs) d zero w e = inl e
last_or_before spelling (x ∷ xs) d (suc index) w e = elim (last_or_before spelling xs d index w e) [ inl h ↦ inl h | inr h ↦ inr (ap suc h.0, h.1) ]

last_number : {X : Type 0} (spelling : X → List ℕ) (xs : List X) (d : X) (number : ℕ) (w : List ℕ) → option_map spelling (numbered (xs ++ d ∷ []) number) ≡ Some w
    → (option_map spelling (numbered xs number) ≡ Some w) ⊎ ((number ≡ suc (length xs)) × (w ≡ spelling d))
last_number spelling xs d zero w e = inl e
last_number spelling xs d (suc index) w e = elim (last_or_before spelling xs d index w e) [ inl h ↦ inl h | inr h ↦ inr (ap suc h.0, h.1) ]

adds_free : (names : Names) (d : calculus.Declared) → Adds (signature_with names) (signature_with (rules.with_free names d)) (declared.Free (suc (length names.frees))) d.word
adds_free names d (declared.Free number) w e = elim (last_number (λ d. d.word) names.frees d number w e) [ inl h ↦ inl h | inr h ↦ inr (ap declared.Free h.0, h.1) ]
adds_free names d (declared.Constructor number) w e = inl e
adds_free names d (declared.Destructor number) w e = inl e
adds_free names d (declared.Event number) w e = inl e
adds_free names d (declared.Table number) w e = inl e

adds_constructor : (names : Names) (d : calculus.Declared) → Adds (signature_with names) (signature_with (rules.with_constructor names d)) (declared.Constructor (suc (length names.constructors))) d.word
adds_constructor names d (declared.Free number) w e = inl e
adds_constructor names d (declared.Constructor number) w e = elim (last_number (λ d. d.word) names.constructors d number w e) [ inl h ↦ inl h | inr h ↦ inr (ap declared.Constructor h.0, h.1) ]
adds_constructor names d (declared.Destructor number) w e = inl e
adds_constructor names d (declared.Event number) w e = inl e
adds_constructor names d (declared.Table number) w e = inl e

adds_destructor : (names : Names) (d : calculus.Destructor) → Adds (signature_with names) (signature_with (rules.with_destructor names d)) (declared.Destructor (suc (length names.destructors))) d.word
adds_destructor names d (declared.Free number) w e = inl e
adds_destructor names d (declared.Constructor number) w e = inl e
adds_destructor names d (declared.Destructor number) w e = elim (last_number (λ d. d.word) names.destructors d number w e) [ inl h ↦ inl h | inr h ↦ inr (ap declared.Destructor h.0, h.1) ]
adds_destructor names d (declared.Event number) w e = inl e
adds_destructor names d (declared.Table number) w e = inl e

adds_event : (names : Names) (d : calculus.Declared) → Adds (signature_with names) (signature_with (rules.with_event names d)) (declared.Event (suc (length names.events))) d.word
adds_event names d (declared.Free number) w e = inl e
adds_event names d (declared.Constructor number) w e = inl e
adds_event names d (declared.Destructor number) w e = inl e
adds_event names d (declared.Event number) w e = elim (last_number (λ d. d.word) names.events d number w e) [ inl h ↦ inl h | inr h ↦ inr (ap declared.Event h.0, h.1) ]
adds_event names d (declared.Table number) w e = inl e

adds_table : (names : Names) (d : calculus.Declared) → Adds (signature_with names) (signature_with (rules.with_table names d)) (declared.Table (suc (length names.tables))) d.word
adds_table names d (declared.Free number) w e = inl e
adds_table names d (declared.Constructor number) w e = inl e
adds_table names d (declared.Destructor number) w e = inl e
adds_table names d (declared.Event number) w e = inl e
adds_table names d (declared.Table number) w e = elim (last_number (λ d. d.word) names.tables d number w e) [ inl h ↦ inl h | inr h ↦ inr (ap declared.Table h.0, h.1) ]

abbrev Distinct : Names → Type 0
Distinct names = AreDistinct (signature_with names)

nothing_distinct : Distinct no_names
nothing_distinct (declared.Free zero) b w e f = absurd (let same = e in cc)
nothing_distinct (declared.Free (suc k)) b w e f = absurd (let same = e in cc)
nothing_distinct (declared.Constructor zero) b w e f = absurd (let same = e in cc)
nothing_distinct (declared.Constructor (suc k)) b w e f = absurd (let same = e in cc)
nothing_distinct (declared.Destructor zero) b w e f = absurd (let same = e in cc)
nothing_distinct (declared.Destructor (suc k)) b w e f = absurd (let same = e in cc)
nothing_distinct (declared.Event zero) b w e f = absurd (let same = e in cc)
nothing_distinct (declared.Event (suc k)) b w e f = absurd (let same = e in cc)
nothing_distinct (declared.Table zero) b w e f = absurd (let same = e in cc)
nothing_distinct (declared.Table (suc k)) b w e f = absurd (let same = e in cc)

module _ (text : Texts) where
  module _ (names : Names) (distinct : Distinct names) where
    free : (public : Bool) (n : ℕ) (next : Names) → rules.declare_free text names public n ≡ Ok next → Distinct next
    free public n next e =
        let a = stepped (rules.free_name (among text names) public n) _ next e in
        let b = stepped (rules.new_symbol (among text names) n) _ a.value a.first in
        let new = new_symbol (among text names) n b.value b.first in
        let d : calculus.Declared = record { word = b.value; arity = 0; public = public; is_data = false } in
        subst Distinct (ap (rules.with_free names) (found_one d a.value b.later) ∙ found_one (rules.with_free names a.value) next a.later)
        (distinct_more (signature_with names) (signature_with (rules.with_free names d)) (declared.Free (suc (length names.frees))) b.value distinct (fresh (among text names) n b.value new.0) (adds_free names d))

    constructor : (public is_data : Bool) (n size : ℕ) (next : Names) → rules.declare_constructor text names public is_data n size ≡ Ok next → Distinct next
    constructor public is_data n size next e =
        let a = stepped (rules.constructor (among text names) public is_data n size) _ next e in
        let b = stepped (rules.new_symbol (among text names) n) _ a.value a.first in
        let c = stepped (rules.arity text size) _ a.value b.later in
        let new = new_symbol (among text names) n b.value b.first in
        let d : calculus.Declared = record { word = b.value; arity = c.value; public = public; is_data = is_data } in
        subst Distinct (ap (rules.with_constructor names) (found_one d a.value c.later) ∙ found_one (rules.with_constructor names a.value) next a.later)
        (distinct_more (signature_with names) (signature_with (rules.with_constructor names d)) (declared.Constructor (suc (length names.constructors))) b.value distinct (fresh (among text names) n b.value new.0) (adds_constructor names d))

    destructor : (n : ℕ) (first : RuleSketch) (others : List RuleSketch) (next : Names) → rules.declare_destructor text names n first others ≡ Ok next → Distinct next
    destructor n first others next e =
        let a = stepped (rules.destructor (among text names) n first others) _ next e in
        let b = stepped (rules.new_name (among text names) first.first) _ a.value a.first in
        let c = stepped (rules.rule (among text names) first) _ a.value b.later in
        let more = stepped (rules.further_rules (among text names) first others) _ a.value c.later in
        let d : calculus.Destructor = record { word = b.value; rules = c.value ∷ more.value } in
        let k = kept (nat_le (1 + length others) most_rules) n d a.value more.later in
        let new = new_name (among text names) first.first b.value b.first in
        subst Distinct (ap (rules.with_destructor names) (sym k.1) ∙ found_one (rules.with_destructor names a.value) next a.later)
        (distinct_more (signature_with names) (signature_with (rules.with_destructor names d)) (declared.Destructor (suc (length names.destructors))) b.value distinct (fresh (among text names) first.first b.value new) (adds_destructor names d))

    event : (n size : ℕ) (next : Names) → rules.declare_event text names n size ≡ Ok next → Distinct next
    event n size next e =
        let a = stepped (rules.event (among text names) n size) _ next e in
        let b = stepped (rules.new_name (among text names) n) _ a.value a.first in
        let c = stepped (rules.arity text size) _ a.value b.later in
        let new = new_name (among text names) n b.value b.first in
        let d : calculus.Declared = record { word = b.value; arity = c.value; public = true; is_data = false } in
        subst Distinct (ap (rules.with_event names) (found_one d a.value c.later) ∙ found_one (rules.with_event names a.value) next a.later)
        (distinct_more (signature_with names) (signature_with (rules.with_event names d)) (declared.Event (suc (length names.events))) b.value distinct (fresh (among text names) n b.value new) (adds_event names d))

    table : (n size : ℕ) (next : Names) → rules.declare_table text names n size ≡ Ok next → Distinct next
    table n size next e =
        let a = stepped (rules.event (among text names) n size) _ next e in
        let b = stepped (rules.new_name (among text names) n) _ a.value a.first in
        let c = stepped (rules.arity text size) _ a.value b.later in
        let new = new_name (among text names) n b.value b.first in
        let d : calculus.Declared = record { word = b.value; arity = c.value; public = true; is_data = false } in
        subst Distinct (ap (rules.with_table names) (found_one d a.value c.later) ∙ found_one (rules.with_table names a.value) next a.later)
        (distinct_more (signature_with names) (signature_with (rules.with_table names d)) (declared.Table (suc (length names.tables))) b.value distinct (fresh (among text names) n b.value new) (adds_table names d))

    macro : (n : ℕ) (body : ProcessSketch) (next : Names) → rules.declare_macro text names n body ≡ Ok next → Distinct next
    macro n body next e =
        let a = stepped (rules.new_name (among text names) n) _ next e in
        subst Distinct (found_one (rules.with_macro names (record { name = n; body = body })) next a.later) distinct

  frees : (ns : List ℕ) (names : Names) → Distinct names → (public : Bool) (next : Names) → rules.declare_frees text names public ns ≡ Ok next → Distinct next
  frees [] names distinct public next e = subst Distinct (found_one names next e) distinct
  frees (n ∷ ns) names distinct public next e =
      let a = stepped (rules.declare_free text names public n) _ next e in
      frees ns a.value (free names distinct public n a.value a.first) public next a.later

  one : (d : DeclarationSketch) (names : Names) → Distinct names → (next : Names) → rules.declare text names d ≡ Ok next → Distinct next
  one (Free n public x xs) names distinct next e = frees (x ∷ xs) names distinct public next e
  one (Fun n public x a) names distinct next e = constructor names distinct public false x a next e
  one (Data n x a) names distinct next e = constructor names distinct true true x a next e
  one (Reduc n r rs) names distinct next e = destructor names distinct n r rs next e
  one (Event n x a) names distinct next e = event names distinct x a next e
  one (Table n x a) names distinct next e = table names distinct x a next e
  one (Query n q) names distinct next e = subst Distinct (found_one names next e) distinct
  one (Definition n x body) names distinct next e = macro names distinct x body next e

  all_distinct : (ds : List DeclarationSketch) (names : Names) → Distinct names → (next : Names) → rules.declare_all text names ds ≡ Ok next → Distinct next
  all_distinct [] names distinct next e = subst Distinct (found_one names next e) distinct
  all_distinct (d ∷ ds) names distinct next e =
      let a = stepped (rules.declare text names d) _ next e in
      all_distinct ds a.value (one d names distinct a.value a.first) next a.later

  -- the words that a file declares are distinct
  pub file_distinct : (ds : List DeclarationSketch) (names : Names) → rules.declare_all text no_names ds ≡ Ok names → Distinct names
  file_distinct ds names e = all_distinct ds no_names nothing_distinct names e
