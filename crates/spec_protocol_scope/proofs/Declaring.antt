-- Each declaration keeps what is declared as it should be.
use Rattle.std.proofs.Common.{◌≡◌, ℕ, ◌+◌, ◌≤◌, Bool, true, false, List, [], ◌∷◌, ◌++◌, length, Ok, refl, ap, subst, ◌∙◌, sym, arith}
use Rattle.std.specs.List.{AllByRecursion}
use Rattle.std.proofs.lemmas.List.{length-append}
use Rattle.spec_calculus.specs.Bounds.{most_names, most_arguments}
use Rattle.spec_calculus.specs.Syntax as calculus
use Rattle.spec_calculus.proofs.Items.{each-append, each-weaker}
use Rattle.spec_protocol_grammar.specs.Sketch.{ProcessSketch, RuleSketch, DeclarationSketch, Free, Fun, Data, Reduc, Event, Table, Query, Definition}
use Rattle.spec_protocol_scope.specs.Names.{signature_with, Texts, Names, Macro, no_names, count_of, is_variable}
use Rattle.spec_protocol_scope.specs.Declarations as rules
use Rattle.spec_protocol_scope.specs.Declarations.{among}
use Rattle.spec_protocol_scope.proofs.Stepped.{stepped, found_one}
use Rattle.spec_protocol_scope.proofs.Solid.{IsSolidProcess, IsSolidRule, IsSolidDeclaration}
use Rattle.spec_protocol_scope.proofs.Widening.{wider_arity}
use Rattle.spec_protocol_scope.proofs.Declarations.{AreDeclared, IsWordOf, IsNew, new_name, new_symbol, arity, Destructed, destructor, wider_destructor}

module _ (IsName : ℕ → Type 0) (Plain : Type 0) (text : Texts) where
  no_names_declared : AreDeclared IsName Plain text no_names
  no_names_declared = record { few = omega arith; frees = tt; constructors = tt; arities = tt; destructors = tt; rules = tt; events = tt; event_arities = tt; tables = tt; table_arities = tt; no_tables = λ p. refl; macros = tt }

  -- one item more is one name more
  one_more : {X : Type 0} (xs : List X) (x : X) → length (xs ++ x ∷ []) ≡ length xs + 1
  one_more xs x = length-append xs (x ∷ []) ∙ refl

  is_word : (names : Names) (n : ℕ) (word : List ℕ) → IsName n → IsNew (among text names) n word → IsWordOf IsName text word
  is_word names n word name new = (n, name, sym new.is)

  module _ (names : Names) (are : AreDeclared IsName Plain text names) where
    free_declared : (d : calculus.Declared) → count_of names + 1 ≤ most_names → IsWordOf IsName text d.word × (is_variable d.word ≡ false) → AreDeclared IsName Plain text (rules.with_free names d)
    free_declared d room word = record {
      few = let more = one_more names.frees d in omega arith;
      frees = each-append _ names.frees (d ∷ []) are.frees (word, tt);
      constructors = are.constructors;
      arities = are.arities;
      destructors = are.destructors;
      rules = each-weaker _ _ (wider_destructor (signature_with names) (signature_with (rules.with_free names d)) (λ number arity h. h)) names.destructors are.rules;
      events = are.events;
      event_arities = are.event_arities;
      tables = are.tables;
      table_arities = are.table_arities;
      no_tables = are.no_tables;
      macros = are.macros;
    }

    constructor_declared : (d : calculus.Declared) → count_of names + 1 ≤ most_names → IsWordOf IsName text d.word × (is_variable d.word ≡ false) → d.arity ≤ most_arguments → AreDeclared IsName Plain text (rules.with_constructor names d)
    constructor_declared d room word small = record {
      few = let more = one_more names.constructors d in omega arith;
      frees = are.frees;
      constructors = each-append _ names.constructors (d ∷ []) are.constructors (word, tt);
      arities = each-append _ names.constructors (d ∷ []) are.arities (small, tt);
      destructors = are.destructors;
      rules = each-weaker _ _ (wider_destructor (signature_with names) (signature_with (rules.with_constructor names d)) (λ number arity h. wider_arity names.constructors (d ∷ []) number arity h)) names.destructors are.rules;
      events = are.events;
      event_arities = are.event_arities;
      tables = are.tables;
      table_arities = are.table_arities;
      no_tables = are.no_tables;
      macros = are.macros;
    }

    destructor_declared : (n : ℕ) (d : calculus.Destructor) → IsName n → Destructed (among text names) n d → AreDeclared IsName Plain text (rules.with_destructor names d)
    destructor_declared n d name h = record {
      few = let more = one_more names.destructors d in let room = h.new.room in omega arith;
      frees = are.frees;
      constructors = are.constructors;
      arities = are.arities;
      destructors = each-append _ names.destructors (d ∷ []) are.destructors (is_word names n d.word name h.new, tt);
      rules = each-append _ names.destructors (d ∷ [])
          (each-weaker _ _ (wider_destructor (signature_with names) (signature_with (rules.with_destructor names d)) (λ number arity h. h)) names.destructors are.rules)
          (wider_destructor (signature_with names) (signature_with (rules.with_destructor names d)) (λ number arity h. h) d h.over, tt);
      events = are.events;
      event_arities = are.event_arities;
      tables = are.tables;
      table_arities = are.table_arities;
      no_tables = are.no_tables;
      macros = are.macros;
    }

    event_declared : (d : calculus.Declared) → count_of names + 1 ≤ most_names → IsWordOf IsName text d.word → d.arity ≤ most_arguments → AreDeclared IsName Plain text (rules.with_event names d)
    event_declared d room word small = record {
      few = let more = one_more names.events d in omega arith;
      frees = are.frees;
      constructors = are.constructors;
      arities = are.arities;
      destructors = are.destructors;
      rules = each-weaker _ _ (wider_destructor (signature_with names) (signature_with (rules.with_event names d)) (λ number arity h. h)) names.destructors are.rules;
      events = each-append _ names.events (d ∷ []) are.events (word, tt);
      event_arities = each-append _ names.events (d ∷ []) are.event_arities (small, tt);
      tables = are.tables;
      table_arities = are.table_arities;
      no_tables = are.no_tables;
      macros = are.macros;
    }

    table_declared : (Plain → ⊥) → (d : calculus.Declared) → count_of names + 1 ≤ most_names → IsWordOf IsName text d.word → d.arity ≤ most_arguments → AreDeclared IsName Plain text (rules.with_table names d)
    table_declared never d room word small = record {
      few = let more = one_more names.tables d in omega arith;
      frees = are.frees;
      constructors = are.constructors;
      arities = are.arities;
      destructors = are.destructors;
      rules = each-weaker _ _ (wider_destructor (signature_with names) (signature_with (rules.with_table names d)) (λ number arity h. h)) names.destructors are.rules;
      events = are.events;
      event_arities = are.event_arities;
      tables = each-append _ names.tables (d ∷ []) are.tables (word, tt);
      table_arities = each-append _ names.tables (d ∷ []) are.table_arities (small, tt);
      no_tables = λ p. absurd (never p);
      macros = are.macros;
    }

    macro_declared : (m : Macro) → count_of names + 1 ≤ most_names → IsSolidProcess IsName Plain m.body → AreDeclared IsName Plain text (rules.with_macro names m)
    macro_declared m room solid = record {
      few = let more = one_more names.macros m in omega arith;
      frees = are.frees;
      constructors = are.constructors;
      arities = are.arities;
      destructors = are.destructors;
      rules = each-weaker _ _ (wider_destructor (signature_with names) (signature_with (rules.with_macro names m)) (λ number arity h. h)) names.destructors are.rules;
      events = are.events;
      event_arities = are.event_arities;
      tables = are.tables;
      table_arities = are.table_arities;
      no_tables = are.no_tables;
      macros = each-append _ names.macros (m ∷ []) are.macros (solid, tt);
    }

    free : (public : Bool) (n : ℕ) → IsName n → (next : Names) → rules.declare_free text names public n ≡ Ok next → AreDeclared IsName Plain text next
    free public n name next e =
        let a = stepped (rules.free_name (among text names) public n) _ next e in
        let b = stepped (rules.new_symbol (among text names) n) _ a.value a.first in
        let new = new_symbol (among text names) n b.value b.first in
        let d : calculus.Declared = record { word = b.value; arity = 0; public = public; is_data = false } in
        subst (AreDeclared IsName Plain text) (ap (rules.with_free names) (found_one d a.value b.later) ∙ found_one (rules.with_free names a.value) next a.later)
        (free_declared d new.0.room (is_word names n b.value name new.0, subst (λ (w : List ℕ). is_variable w ≡ false) (sym new.0.is) new.1))

    constructor : (public is_data : Bool) (n size : ℕ) → IsName n → (next : Names) → rules.declare_constructor text names public is_data n size ≡ Ok next → AreDeclared IsName Plain text next
    constructor public is_data n size name next e =
        let a = stepped (rules.constructor (among text names) public is_data n size) _ next e in
        let b = stepped (rules.new_symbol (among text names) n) _ a.value a.first in
        let c = stepped (rules.arity text size) _ a.value b.later in
        let new = new_symbol (among text names) n b.value b.first in
        let d : calculus.Declared = record { word = b.value; arity = c.value; public = public; is_data = is_data } in
        subst (AreDeclared IsName Plain text) (ap (rules.with_constructor names) (found_one d a.value c.later) ∙ found_one (rules.with_constructor names a.value) next a.later)
        (constructor_declared d new.0.room (is_word names n b.value name new.0, subst (λ (w : List ℕ). is_variable w ≡ false) (sym new.0.is) new.1) (arity text size c.value c.first))

    reduction : (n : ℕ) (first : RuleSketch) (others : List RuleSketch) → IsSolidRule IsName first → AllByRecursion (IsSolidRule IsName) others
        → (next : Names) → rules.declare_destructor text names n first others ≡ Ok next → AreDeclared IsName Plain text next
    reduction n first others solid all next e =
        let a = stepped (rules.destructor (among text names) n first others) _ next e in
        subst (AreDeclared IsName Plain text) (found_one (rules.with_destructor names a.value) next a.later)
        (destructor_declared first.first a.value solid.name (destructor IsName (among text names) n first others solid all a.value a.first))

    event : (n size : ℕ) → IsName n → (next : Names) → rules.declare_event text names n size ≡ Ok next → AreDeclared IsName Plain text next
    event n size name next e =
        let a = stepped (rules.event (among text names) n size) _ next e in
        let b = stepped (rules.new_name (among text names) n) _ a.value a.first in
        let c = stepped (rules.arity text size) _ a.value b.later in
        let new = new_name (among text names) n b.value b.first in
        let d : calculus.Declared = record { word = b.value; arity = c.value; public = true; is_data = false } in
        subst (AreDeclared IsName Plain text) (ap (rules.with_event names) (found_one d a.value c.later) ∙ found_one (rules.with_event names a.value) next a.later)
        (event_declared d new.room (is_word names n b.value name new) (arity text size c.value c.first))

    table : (n size : ℕ) → IsName n → (Plain → ⊥) → (next : Names) → rules.declare_table text names n size ≡ Ok next → AreDeclared IsName Plain text next
    table n size name never next e =
        let a = stepped (rules.event (among text names) n size) _ next e in
        let b = stepped (rules.new_name (among text names) n) _ a.value a.first in
        let c = stepped (rules.arity text size) _ a.value b.later in
        let new = new_name (among text names) n b.value b.first in
        let d : calculus.Declared = record { word = b.value; arity = c.value; public = true; is_data = false } in
        subst (AreDeclared IsName Plain text) (ap (rules.with_table names) (found_one d a.value c.later) ∙ found_one (rules.with_table names a.value) next a.later)
        (table_declared never d new.room (is_word names n b.value name new) (arity text size c.value c.first))

    macro : (n : ℕ) (body : ProcessSketch) → IsSolidProcess IsName Plain body → (next : Names) → rules.declare_macro text names n body ≡ Ok next → AreDeclared IsName Plain text next
    macro n body solid next e =
        let a = stepped (rules.new_name (among text names) n) _ next e in
        let new = new_name (among text names) n a.value a.first in
        subst (AreDeclared IsName Plain text) (found_one (rules.with_macro names (record { name = n; body = body })) next a.later) (macro_declared (record { name = n; body = body }) new.room solid)

  frees : (ns : List ℕ) (names : Names) (are : AreDeclared IsName Plain text names) (public : Bool) → AllByRecursion IsName ns → (next : Names) → rules.declare_frees text names public ns ≡ Ok next → AreDeclared IsName Plain text next
  frees [] names are public all next e = subst (AreDeclared IsName Plain text) (found_one names next e) are
  frees (n ∷ ns) names are public all next e =
      let a = stepped (rules.declare_free text names public n) _ next e in
      frees ns a.value (free names are public n all.0 a.value a.first) public all.1 next a.later

  declared : (d : DeclarationSketch) (names : Names) (are : AreDeclared IsName Plain text names) → IsSolidDeclaration IsName Plain d → (next : Names) → rules.declare text names d ≡ Ok next → AreDeclared IsName Plain text next
  declared (Free n public x xs) names are solid next e = frees (x ∷ xs) names are public solid next e
  declared (Fun n public x a) names are solid next e = constructor names are public false x a solid next e
  declared (Data n x a) names are solid next e = constructor names are true true x a solid next e
  declared (Reduc n r rs) names are solid next e = reduction names are n r rs solid.0 solid.1 next e
  declared (Event n x a) names are solid next e = event names are x a solid next e
  declared (Table n x a) names are solid next e = table names are x a solid.0 solid.1 next e
  declared (Query n q) names are solid next e = subst (AreDeclared IsName Plain text) (found_one names next e) are
  declared (Definition n x body) names are solid next e = macro names are x body solid next e

  all_declared : (ds : List DeclarationSketch) (names : Names) (are : AreDeclared IsName Plain text names) → AllByRecursion (IsSolidDeclaration IsName Plain) ds
      → (next : Names) → rules.declare_all text names ds ≡ Ok next → AreDeclared IsName Plain text next
  all_declared [] names are solid next e = subst (AreDeclared IsName Plain text) (found_one names next e) are
  all_declared (d ∷ ds) names are solid next e =
      let a = stepped (rules.declare text names d) _ next e in
      all_declared ds a.value (declared d names are solid.0 a.value a.first) solid.1 next a.later

  -- all that a file declares is as it should be
  pub file_declared : (ds : List DeclarationSketch) → AllByRecursion (IsSolidDeclaration IsName Plain) ds → (names : Names) → rules.declare_all text no_names ds ≡ Ok names → AreDeclared IsName Plain text names
  file_declared ds solid names e = all_declared ds no_names no_names_declared solid names e
