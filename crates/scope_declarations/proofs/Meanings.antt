-- One name more, in the lists and in the table that finds them.
use Rattle.std.proofs.Common.{◌≡◌, ℕ, ◌+◌, ◌≤◌, Bool, true, false, cond, List, [], ◌∷◌, ◌++◌, length, Option, Some, None, option_map, bytes_eq, refl, sym, ap, subst, ◌∙◌, arith}
use Rattle.std.specs.Option.{option_or}
use Rattle.std.proofs.lemmas.List.{length-append}
use Rattle.std.specs.Cmp.Lexicographic.{bytes_decides}
use Rattle.std.specs.HashMap.{get_by}
use Rattle.scope_declarations.proofs.Texts.{updates_text}
use Rattle.scope_declarations.proofs.Found.{none_some, missed, hit, unmapped}
use Rattle.spec_calculus.specs.Bounds.{most_names}
use Rattle.spec_calculus.specs.Syntax.{Declared, Destructor}
use Rattle.spec_protocol_scope.specs.Names as own
use Rattle.spec_protocol_scope.specs.Names.{Texts, find_from, find_declared, arity_of, declared_meaning}
use Rattle.spec_protocol_scope.specs.Declarations.{with_free, with_constructor, with_destructor, with_event, with_table, with_macro}
use Rattle.scope_declarations.specs.declared.names.Meaning.{Meaning}
use Rattle.scope_declarations.specs.declared.names.Names.{Names}
use Rattle.scope_declarations.specs.Names.{names_of, meaning_of, IsKept}
use Rattle.scope_declarations.specs.Tables.{Table, TellsBesides}

-- the names with one of their lists as it is now
abbrev frees_are : own.Names → List Declared → own.Names
frees_are names ds = record { frees = ds; constructors = names.constructors; destructors = names.destructors; events = names.events; tables = names.tables; macros = names.macros }

abbrev constructors_are : own.Names → List Declared → own.Names
constructors_are names ds = record { frees = names.frees; constructors = ds; destructors = names.destructors; events = names.events; tables = names.tables; macros = names.macros }

abbrev destructors_are : own.Names → List Destructor → own.Names
destructors_are names ds = record { frees = names.frees; constructors = names.constructors; destructors = ds; events = names.events; tables = names.tables; macros = names.macros }

abbrev events_are : own.Names → List Declared → own.Names
events_are names ds = record { frees = names.frees; constructors = names.constructors; destructors = names.destructors; events = ds; tables = names.tables; macros = names.macros }

abbrev tables_are : own.Names → List Declared → own.Names
tables_are names ds = record { frees = names.frees; constructors = names.constructors; destructors = names.destructors; events = names.events; tables = ds; macros = names.macros }

abbrev macros_are : own.Names → List own.Macro → own.Names
macros_are names ms = record { frees = names.frees; constructors = names.constructors; destructors = names.destructors; events = names.events; tables = names.tables; macros = ms }

-- one item more in one list is one name more
pub one_more_free : (names : own.Names) (ds : List Declared) (d : Declared) → ds ≡ names.frees ++ d ∷ [] → frees_are names ds ≡ with_free names d
one_more_free names ds d h = ap (frees_are names) h

pub one_more_constructor : (names : own.Names) (ds : List Declared) (d : Declared) → ds ≡ names.constructors ++ d ∷ [] → constructors_are names ds ≡ with_constructor names d
one_more_constructor names ds d h = ap (constructors_are names) h

pub one_more_destructor : (names : own.Names) (ds : List Destructor) (d : Destructor) → ds ≡ names.destructors ++ d ∷ [] → destructors_are names ds ≡ with_destructor names d
one_more_destructor names ds d h = ap (destructors_are names) h

pub one_more_event : (names : own.Names) (ds : List Declared) (d : Declared) → ds ≡ names.events ++ d ∷ [] → events_are names ds ≡ with_event names d
one_more_event names ds d h = ap (events_are names) h

pub one_more_table : (names : own.Names) (ds : List Declared) (d : Declared) → ds ≡ names.tables ++ d ∷ [] → tables_are names ds ≡ with_table names d
one_more_table names ds d h = ap (tables_are names) h

pub one_more_macro : (names : own.Names) (ms : List own.Macro) (m : own.Macro) → ms ≡ names.macros ++ m ∷ [] → macros_are names ms ≡ with_macro names m
one_more_macro names ms m h = ap (macros_are names) h

-- what a word means, by what is found of each kind
abbrev chain : (a b c d e f : Option own.Meaning) → Option own.Meaning
chain a b c d e f = option_or (option_or a (option_or b (option_or c (option_or d e)))) f

record AllNone (a b c d e f : Option own.Meaning) : Type 0 where
  pub first : a ≡ None
  pub second : b ≡ None
  pub third : c ≡ None
  pub fourth : d ≡ None
  pub fifth : e ≡ None
  pub sixth : f ≡ None

all_none : (a b c d e f : Option own.Meaning) → chain a b c d e f ≡ None → AllNone a b c d e f
all_none (Some x) b c d e f h = absurd (none_some h)
all_none None (Some x) c d e f h = absurd (none_some h)
all_none None None (Some x) d e f h = absurd (none_some h)
all_none None None None (Some x) e f h = absurd (none_some h)
all_none None None None None (Some x) f h = absurd (none_some h)
all_none None None None None None (Some x) h = absurd (none_some h)
all_none None None None None None None h = record { first = refl; second = refl; third = refl; fourth = refl; fifth = refl; sixth = refl }

-- what is found of each kind
abbrev frees_at : own.Names → List ℕ → Option own.Meaning
frees_at names word = option_map (λ f. own.MeansFree f.0) (find_declared names.frees word)

abbrev constructors_at : own.Names → List ℕ → Option own.Meaning
constructors_at names word = option_map (λ f. own.MeansConstructor f.0 f.1.arity f.1.is_data) (find_declared names.constructors word)

abbrev destructors_at : own.Names → List ℕ → Option own.Meaning
destructors_at names word = option_map (λ f. own.MeansDestructor f.0 (arity_of f.1.rules)) (find_from (λ d. d.word) 1 names.destructors word)

abbrev events_at : own.Names → List ℕ → Option own.Meaning
events_at names word = option_map (λ f. own.MeansEvent f.0 f.1.arity) (find_declared names.events word)

abbrev tables_at : own.Names → List ℕ → Option own.Meaning
tables_at names word = option_map (λ f. own.MeansTable f.0 f.1.arity) (find_declared names.tables word)

abbrev macros_at : Texts → own.Names → List ℕ → Option own.Meaning
macros_at text names word = option_map (λ f. own.MeansMacro) (find_from (λ m. text m.name) 1 names.macros word)

none_at : (text : Texts) (names : own.Names) (word : List ℕ) → own.meaning_of text names word ≡ None
    → AllNone (frees_at names word) (constructors_at names word) (destructors_at names word) (events_at names word) (tables_at names word) (macros_at text names word)
none_at text names word h = all_none (frees_at names word) (constructors_at names word) (destructors_at names word) (events_at names word) (tables_at names word) (macros_at text names word) h

-- the names new have one name more than old: this word, which means that
abbrev pub HasMore : Texts → own.Names → own.Names → List ℕ → own.Meaning → Type 0
HasMore text old new added meaning =
    (word : List ℕ) → own.meaning_of text new word ≡ cond (bytes_eq added word) (Some meaning) (own.meaning_of text old word)

by_test : (b : Bool) (added word : List ℕ) (meaning : own.Meaning) (old new : Option own.Meaning) → bytes_eq added word ≡ b
    → (bytes_eq added word ≡ true → new ≡ Some meaning) → (bytes_eq added word ≡ false → new ≡ old) → new ≡ cond b (Some meaning) old
by_test true added word meaning old new e here elsewhere = here e
by_test false added word meaning old new e here elsewhere = elsewhere e

-- at the word itself nothing was found before
at_word : (text : Texts) (names : own.Names) (added word : List ℕ) → own.meaning_of text names added ≡ None → bytes_eq added word ≡ true → own.meaning_of text names word ≡ None
at_word text names added word fresh e = ap (own.meaning_of text names) (sym ((bytes_decides added word).0 e)) ∙ fresh

more_free : (text : Texts) (names : own.Names) (d : Declared) → own.meaning_of text names d.word ≡ None
    → HasMore text names (with_free names d) d.word (own.MeansFree (length names.frees + 1))
more_free text names d fresh word =
    by_test (bytes_eq d.word word) d.word word (own.MeansFree (length names.frees + 1)) (own.meaning_of text names word) (own.meaning_of text (with_free names d) word) refl
    (λ e. let none = none_at text names word (at_word text names d.word word fresh e) in
    ap (λ o. chain (option_map (λ f. own.MeansFree f.0) o) (constructors_at names word) (destructors_at names word) (events_at names word) (tables_at names word) (macros_at text names word))
    (hit (λ (x : Declared). x.word) 1 names.frees d word e (unmapped _ (find_declared names.frees word) none.first))
    ∙ ap (λ (n : ℕ). Some (own.MeansFree n)) (omega arith))
    (λ e. ap (λ o. chain (option_map (λ f. own.MeansFree f.0) o) (constructors_at names word) (destructors_at names word) (events_at names word) (tables_at names word) (macros_at text names word))
    (missed (λ (x : Declared). x.word) 1 names.frees d word e))

more_constructor : (text : Texts) (names : own.Names) (d : Declared) → own.meaning_of text names d.word ≡ None
    → HasMore text names (with_constructor names d) d.word (own.MeansConstructor (length names.constructors + 1) d.arity d.is_data)
more_constructor text names d fresh word =
    by_test (bytes_eq d.word word) d.word word (own.MeansConstructor (length names.constructors + 1) d.arity d.is_data) (own.meaning_of text names word) (own.meaning_of text (with_constructor names d) word) refl
    (λ e. let none = none_at text names word (at_word text names d.word word fresh e) in
    ap (λ o. chain (frees_at names word) (option_map (λ f. own.MeansConstructor f.0 f.1.arity f.1.is_data) o) (destructors_at names word) (events_at names word) (tables_at names word) (macros_at text names word))
    (hit (λ (x : Declared). x.word) 1 names.constructors d word e (unmapped _ (find_declared names.constructors word) none.second))
    ∙ (ap (λ o. chain o (Some (own.MeansConstructor (1 + length names.constructors) d.arity d.is_data)) (destructors_at names word) (events_at names word) (tables_at names word) (macros_at text names word)) none.first
    ∙ ap (λ (n : ℕ). Some (own.MeansConstructor n d.arity d.is_data)) (omega arith)))
    (λ e. ap (λ o. chain (frees_at names word) (option_map (λ f. own.MeansConstructor f.0 f.1.arity f.1.is_data) o) (destructors_at names word) (events_at names word) (tables_at names word) (macros_at text names word))
    (missed (λ (x : Declared). x.word) 1 names.constructors d word e))

more_destructor : (text : Texts) (names : own.Names) (d : Destructor) → own.meaning_of text names d.word ≡ None
    → HasMore text names (with_destructor names d) d.word (own.MeansDestructor (length names.destructors + 1) (arity_of d.rules))
more_destructor text names d fresh word =
    by_test (bytes_eq d.word word) d.word word (own.MeansDestructor (length names.destructors + 1) (arity_of d.rules)) (own.meaning_of text names word) (own.meaning_of text (with_destructor names d) word) refl
    (λ e. let none = none_at text names word (at_word text names d.word word fresh e) in
    ap (λ o. chain (frees_at names word) (constructors_at names word) (option_map (λ f. own.MeansDestructor f.0 (arity_of f.1.rules)) o) (events_at names word) (tables_at names word) (macros_at text names word))
    (hit (λ (x : Destructor). x.word) 1 names.destructors d word e (unmapped _ (find_from (λ (x : Destructor). x.word) 1 names.destructors word) none.third))
    ∙ (ap (λ o. chain o (constructors_at names word) (Some (own.MeansDestructor (1 + length names.destructors) (arity_of d.rules))) (events_at names word) (tables_at names word) (macros_at text names word)) none.first
    ∙ (ap (λ o. chain None o (Some (own.MeansDestructor (1 + length names.destructors) (arity_of d.rules))) (events_at names word) (tables_at names word) (macros_at text names word)) none.second
    ∙ ap (λ (n : ℕ). Some (own.MeansDestructor n (arity_of d.rules))) (omega arith))))
    (λ e. ap (λ o. chain (frees_at names word) (constructors_at names word) (option_map (λ f. own.MeansDestructor f.0 (arity_of f.1.rules)) o) (events_at names word) (tables_at names word) (macros_at text names word))
    (missed (λ (x : Destructor). x.word) 1 names.destructors d word e))

more_event : (text : Texts) (names : own.Names) (d : Declared) → own.meaning_of text names d.word ≡ None
    → HasMore text names (with_event names d) d.word (own.MeansEvent (length names.events + 1) d.arity)
more_event text names d fresh word =
    by_test (bytes_eq d.word word) d.word word (own.MeansEvent (length names.events + 1) d.arity) (own.meaning_of text names word) (own.meaning_of text (with_event names d) word) refl
    (λ e. let none = none_at text names word (at_word text names d.word word fresh e) in
    ap (λ o. chain (frees_at names word) (constructors_at names word) (destructors_at names word) (option_map (λ f. own.MeansEvent f.0 f.1.arity) o) (tables_at names word) (macros_at text names word))
    (hit (λ (x : Declared). x.word) 1 names.events d word e (unmapped _ (find_declared names.events word) none.fourth))
    ∙ (ap (λ o. chain o (constructors_at names word) (destructors_at names word) (Some (own.MeansEvent (1 + length names.events) d.arity)) (tables_at names word) (macros_at text names word)) none.first
    ∙ (ap (λ o. chain None o (destructors_at names word) (Some (own.MeansEvent (1 + length names.events) d.arity)) (tables_at names word) (macros_at text names word)) none.second
    ∙ (ap (λ o. chain None None o (Some (own.MeansEvent (1 + length names.events) d.arity)) (tables_at names word) (macros_at text names word)) none.third
    ∙ ap (λ (n : ℕ). Some (own.MeansEvent n d.arity)) (omega arith)))))
    (λ e. ap (λ o. chain (frees_at names word) (constructors_at names word) (destructors_at names word) (option_map (λ f. own.MeansEvent f.0 f.1.arity) o) (tables_at names word) (macros_at text names word))
    (missed (λ (x : Declared). x.word) 1 names.events d word e))

more_table : (text : Texts) (names : own.Names) (d : Declared) → own.meaning_of text names d.word ≡ None
    → HasMore text names (with_table names d) d.word (own.MeansTable (length names.tables + 1) d.arity)
more_table text names d fresh word =
    by_test (bytes_eq d.word word) d.word word (own.MeansTable (length names.tables + 1) d.arity) (own.meaning_of text names word) (own.meaning_of text (with_table names d) word) refl
    (λ e. let none = none_at text names word (at_word text names d.word word fresh e) in
    ap (λ o. chain (frees_at names word) (constructors_at names word) (destructors_at names word) (events_at names word) (option_map (λ f. own.MeansTable f.0 f.1.arity) o) (macros_at text names word))
    (hit (λ (x : Declared). x.word) 1 names.tables d word e (unmapped _ (find_declared names.tables word) none.fifth))
    ∙ (ap (λ o. chain o (constructors_at names word) (destructors_at names word) (events_at names word) (Some (own.MeansTable (1 + length names.tables) d.arity)) (macros_at text names word)) none.first
    ∙ (ap (λ o. chain None o (destructors_at names word) (events_at names word) (Some (own.MeansTable (1 + length names.tables) d.arity)) (macros_at text names word)) none.second
    ∙ (ap (λ o. chain None None o (events_at names word) (Some (own.MeansTable (1 + length names.tables) d.arity)) (macros_at text names word)) none.third
    ∙ (ap (λ o. chain None None None o (Some (own.MeansTable (1 + length names.tables) d.arity)) (macros_at text names word)) none.fourth
    ∙ ap (λ (n : ℕ). Some (own.MeansTable n d.arity)) (omega arith))))))
    (λ e. ap (λ o. chain (frees_at names word) (constructors_at names word) (destructors_at names word) (events_at names word) (option_map (λ f. own.MeansTable f.0 f.1.arity) o) (macros_at text names word))
    (missed (λ (x : Declared). x.word) 1 names.tables d word e))

more_macro : (text : Texts) (names : own.Names) (m : own.Macro) → own.meaning_of text names (text m.name) ≡ None
    → HasMore text names (with_macro names m) (text m.name) own.MeansMacro
more_macro text names m fresh word =
    by_test (bytes_eq (text m.name) word) (text m.name) word own.MeansMacro (own.meaning_of text names word) (own.meaning_of text (with_macro names m) word) refl
    (λ e. let none = none_at text names word (at_word text names (text m.name) word fresh e) in
    ap (λ o. chain (frees_at names word) (constructors_at names word) (destructors_at names word) (events_at names word) (tables_at names word) (option_map (λ f. own.MeansMacro) o))
    (hit (λ (x : own.Macro). text x.name) 1 names.macros m word e (unmapped _ (find_from (λ (x : own.Macro). text x.name) 1 names.macros word) none.sixth))
    ∙ (ap (λ o. chain o (constructors_at names word) (destructors_at names word) (events_at names word) (tables_at names word) (Some own.MeansMacro)) none.first
    ∙ (ap (λ o. chain None o (destructors_at names word) (events_at names word) (tables_at names word) (Some own.MeansMacro)) none.second
    ∙ (ap (λ o. chain None None o (events_at names word) (tables_at names word) (Some own.MeansMacro)) none.third
    ∙ (ap (λ o. chain None None None o (tables_at names word) (Some own.MeansMacro)) none.fourth
    ∙ ap (λ o. chain None None None None o (Some own.MeansMacro)) none.fifth)))))
    (λ e. ap (λ o. chain (frees_at names word) (constructors_at names word) (destructors_at names word) (events_at names word) (tables_at names word) (option_map (λ f. own.MeansMacro) o))
    (missed (λ (x : own.Macro). text x.name) 1 names.macros m word e))

picked : (b : Bool) (meaning : Meaning) (old new : Option Meaning) (before after : Option own.Meaning)
    → new ≡ cond b (Some meaning) old → option_map meaning_of old ≡ before → after ≡ cond b (Some (meaning_of meaning)) before → option_map meaning_of new ≡ after
picked true meaning old new before after put was is = ap (option_map meaning_of) put ∙ sym is
picked false meaning old new before after put was is = ap (option_map meaning_of) put ∙ (was ∙ sym is)

-- the names new have one name more than old, in number and in meaning
pub record Adds (text : Texts) (old new : own.Names) (added : List ℕ) (meaning : own.Meaning) : Type 0 where
  pub counted : own.count_of new ≡ own.count_of old + 1
  pub means : HasMore text old new added meaning

pub adds_free : (text : Texts) (names : own.Names) (d : Declared) (number : ℕ) → own.meaning_of text names d.word ≡ None → number ≡ length names.frees + 1
    → Adds text names (with_free names d) d.word (own.MeansFree number)
adds_free text names d number fresh is = record {
  counted = omega (arith, length-append names.frees (d ∷ []));
  means = subst (λ (n : ℕ). HasMore text names (with_free names d) d.word (own.MeansFree n)) (sym is) (more_free text names d fresh);
}

pub adds_constructor : (text : Texts) (names : own.Names) (d : Declared) (number arity : ℕ) (is_data : Bool) → own.meaning_of text names d.word ≡ None
    → number ≡ length names.constructors + 1 → arity ≡ d.arity → is_data ≡ d.is_data
    → Adds text names (with_constructor names d) d.word (own.MeansConstructor number arity is_data)
adds_constructor text names d number arity is_data fresh is takes flag = record {
  counted = omega (arith, length-append names.constructors (d ∷ []));
  means = subst (λ (m : own.Meaning). HasMore text names (with_constructor names d) d.word m)
      (ap (λ (n : ℕ). own.MeansConstructor n d.arity d.is_data) (sym is) ∙ (ap (λ (n : ℕ). own.MeansConstructor number n d.is_data) (sym takes) ∙ ap (own.MeansConstructor number arity) (sym flag)))
      (more_constructor text names d fresh);
}

pub adds_destructor : (text : Texts) (names : own.Names) (d : Destructor) (number arity : ℕ) → own.meaning_of text names d.word ≡ None
    → number ≡ length names.destructors + 1 → arity ≡ arity_of d.rules
    → Adds text names (with_destructor names d) d.word (own.MeansDestructor number arity)
adds_destructor text names d number arity fresh is takes = record {
  counted = omega (arith, length-append names.destructors (d ∷ []));
  means = subst (λ (m : own.Meaning). HasMore text names (with_destructor names d) d.word m)
      (ap (λ (n : ℕ). own.MeansDestructor n (arity_of d.rules)) (sym is) ∙ ap (own.MeansDestructor number) (sym takes))
      (more_destructor text names d fresh);
}

pub adds_event : (text : Texts) (names : own.Names) (d : Declared) (number arity : ℕ) → own.meaning_of text names d.word ≡ None
    → number ≡ length names.events + 1 → arity ≡ d.arity
    → Adds text names (with_event names d) d.word (own.MeansEvent number arity)
adds_event text names d number arity fresh is takes = record {
  counted = omega (arith, length-append names.events (d ∷ []));
  means = subst (λ (m : own.Meaning). HasMore text names (with_event names d) d.word m)
      (ap (λ (n : ℕ). own.MeansEvent n d.arity) (sym is) ∙ ap (own.MeansEvent number) (sym takes))
      (more_event text names d fresh);
}

pub adds_table : (text : Texts) (names : own.Names) (d : Declared) (number arity : ℕ) → own.meaning_of text names d.word ≡ None
    → number ≡ length names.tables + 1 → arity ≡ d.arity
    → Adds text names (with_table names d) d.word (own.MeansTable number arity)
adds_table text names d number arity fresh is takes = record {
  counted = omega (arith, length-append names.tables (d ∷ []));
  means = subst (λ (m : own.Meaning). HasMore text names (with_table names d) d.word m)
      (ap (λ (n : ℕ). own.MeansTable n d.arity) (sym is) ∙ ap (own.MeansTable number) (sym takes))
      (more_table text names d fresh);
}

pub adds_macro : (text : Texts) (names : own.Names) (m : own.Macro) → own.meaning_of text names (text m.name) ≡ None
    → Adds text names (with_macro names m) (text m.name) own.MeansMacro
adds_macro text names m fresh = record {
  counted = omega (arith, length-append names.macros (m ∷ []));
  means = more_macro text names m fresh;
}

-- the table with one entry more finds the names with one name more
pub found_more : (text : Texts) (old new : Table) (names more : own.Names) (added spelled : List ℕ) (meaning : Meaning)
    → spelled ≡ added → TellsBesides spelled meaning old new
    → ((word : List ℕ) → option_map meaning_of (get_by (λ k. bytes_eq word k.items) old) ≡ own.meaning_of text names word)
    → HasMore text names more added (meaning_of meaning)
    → (word : List ℕ) → option_map meaning_of (get_by (λ k. bytes_eq word k.items) new) ≡ own.meaning_of text more word
found_more text old new names more added spelled meaning same put was is word =
    picked (bytes_eq added word) meaning (get_by (λ k. bytes_eq word k.items) old) (get_by (λ k. bytes_eq word k.items) new) (own.meaning_of text names word) (own.meaning_of text more word)
    (updates_text spelled old new (Some meaning) put word ∙ ap (λ (w : List ℕ). cond (bytes_eq w word) (Some meaning) (get_by (λ k. bytes_eq word k.items) old)) same) (was word) (is word)

-- names with one more are kept; the table was the one that is changed
pub kept_more : (text : Texts) (old new : Names) (more : own.Names) (added spelled : List ℕ) (meaning : Meaning) (table : Table)
    → names_of new ≡ more → own.count_of (names_of old) + 1 ≤ most_names → spelled ≡ added → table ≡ old.meanings
    → TellsBesides spelled meaning table new.meanings
    → IsKept text old → Adds text (names_of old) more added (meaning_of meaning)
    → IsKept text new
kept_more text old new more added spelled meaning table is few same was put kept adds = record {
  few = omega (arith, few, ap own.count_of is, adds.counted);
  finds = λ word. found_more text table new.meanings (names_of old) more added spelled meaning same put
      (λ other. ap (λ (m : Table). option_map meaning_of (get_by (λ k. bytes_eq other k.items) m)) was ∙ kept.finds other) adds.means word
      ∙ ap (λ (n : own.Names). own.meaning_of text n word) (sym is);
}
