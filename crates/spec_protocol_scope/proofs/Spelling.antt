-- What holds of a protocol that bytes spell, from its parts.
use Rattle.std.proofs.Common.{◌≡◌, ℕ, List, [], Option, None, Some, Ok, IfSome, refl, subst, arith}
use Rattle.std.specs.List.{AllByRecursion}
use Rattle.std.specs.Option.{option_map_or}
use Rattle.spec_calculus.specs.Syntax.{Name, Process, Nil, Output, Input, Parallel, Replication, New, Let, Event, Phase, Insert, Get, Query, Rule, Destructor, Protocol}
use Rattle.spec_calculus.specs.Points.{numbered}
use Rattle.spec_calculus.specs.Refusals.{AreUniform}
use Rattle.spec_calculus.specs.Plain.{IsPlain, IsPlainQuery}
use Rattle.spec_calculus.proofs.Items.{each-numbered, each-weaker}
use Rattle.spec_calculus.proofs.Plain.{plain_greatest}
use Rattle.spec_well_formed.specs.Signature.{Signature}
use Rattle.spec_well_formed.specs.Queries.{HasQueryLeaves}
use Rattle.spec_well_formed.specs.Processes.{HasLinearPatterns, IsProcessBelow}
use Rattle.spec_well_formed.specs.Limits.{IsWithinLimits}
use Rattle.spec_well_formed.specs.WellFormed.{IsWellScoped}
use Rattle.spec_well_formed.specs.Words.{AreDistinct, HasDistinctWords}
use Rattle.spec_well_formed.specs.Rules.{IsProperRule, HasProperRules}
use Rattle.spec_protocol_grammar.specs.Classes.{source}
use Rattle.spec_protocol_grammar.specs.Sketch.{FileSketch}
use Rattle.spec_protocol_scope.specs.Names.{signature_with, Texts, Names, Scope, no_names}
use Rattle.spec_protocol_scope.specs.Declarations.{declare_all}
use Rattle.spec_protocol_scope.specs.Processes.{main_process}
use Rattle.spec_protocol_scope.specs.Queries.{queries}
use Rattle.spec_protocol_scope.specs.Scope.{scope, protocol_of}
use Rattle.spec_protocol_scope.specs.Spells.{texts, Spells}
use Rattle.spec_protocol_scope.specs.Words.{IsIdentifier, HasWords}
use Rattle.spec_protocol_scope.proofs.Identifiers.{named_word, each_word-weaker}
use Rattle.spec_protocol_scope.proofs.Stepped.{stepped, found_one}
use Rattle.spec_protocol_scope.proofs.Solid.{IsSolidFile}
use Rattle.spec_protocol_scope.proofs.Spelled.{IsNamed, ArePlain, sketch_solid}
use Rattle.spec_protocol_scope.proofs.Declarations.{AreDeclared}
use Rattle.spec_protocol_scope.proofs.Placed.{Placed}
use Rattle.spec_protocol_scope.proofs.Processes.{main_placed}
use Rattle.spec_protocol_scope.proofs.Points.{main_points}
use Rattle.spec_protocol_scope.proofs.Queries as asked
use Rattle.spec_protocol_scope.proofs.Declarations.{IsWordOf}
use Rattle.spec_protocol_scope.proofs.Distinct.{file_distinct}
use Rattle.spec_protocol_scope.proofs.Declaring.{file_declared}

-- the parts of a protocol: its names, its process and its queries, as the rules of scope give them
pub record HasParts (IsName : ℕ → Type 0) (Plain : Type 0) (text : Texts) (f : FileSketch) (p : Protocol) : Type 0 where
  pub solid : IsSolidFile IsName Plain f
  pub names : Names
  pub declared : AreDeclared IsName Plain text names
  pub distinct : AreDistinct (signature_with names)
  pub main : Process
  pub main_is : main_process (record { text = text; names = names }) f.main ≡ Ok main
  pub asked : List Query
  pub asked_are : queries (record { text = text; names = names }) main 0 f.declarations ≡ Ok asked
  pub is : protocol_of names main asked ≡ p

pub parts : (IsName : ℕ → Type 0) (Plain : Type 0) (text : Texts) (f : FileSketch) (p : Protocol) → IsSolidFile IsName Plain f → scope text f ≡ Ok p → HasParts IsName Plain text f p
parts IsName Plain text f p solid e =
    let a = stepped (declare_all text no_names f.declarations) _ p e in
    let s : Scope = record { text = text; names = a.value } in
    let b = stepped (main_process s f.main) _ p a.later in
    let c = stepped (queries s b.value 0 f.declarations) _ p b.later in
    record {
      solid = solid;
      names = a.value;
      declared = file_declared IsName Plain text f.declarations solid.declarations a.value a.first;
      distinct = file_distinct text f.declarations a.value a.first;
      main = b.value;
      main_is = b.first;
      asked = c.value;
      asked_are = c.first;
      is = found_one (protocol_of a.value b.value c.value) p c.later;
    }

-- the parts of a protocol that bytes spell
pub spelled_parts : (bytes : List ℕ) (p : Protocol) (h : Spells bytes p) → HasParts (IsNamed (source bytes h.1.tokens)) (ArePlain (source bytes h.1.tokens)) (texts bytes h.1.tokens) h.1.sketch p
spelled_parts bytes p h = parts (IsNamed (source bytes h.1.tokens)) (ArePlain (source bytes h.1.tokens)) (texts bytes h.1.tokens) h.1.sketch p (sketch_solid (source bytes h.1.tokens) h.1.sketch h.1.read) h.1.scoped

-- what holds of the rules of each destructor, and of none
of_rules : (Q : List Rule → Type 0) → Q [] → (ds : List Destructor) → AllByRecursion (λ d. Q d.rules) ds → (d : ℕ) → Q (option_map_or (λ destructor. destructor.rules) (numbered ds d) [])
of_rules Q none ds all d = by (numbered ds d) (each-numbered (λ x. Q x.rules) ds d all)
  where
    by : (o : Option Destructor) → IfSome o (λ x. Q x.rules) → Q (option_map_or (λ destructor. destructor.rules) o [])
    by None h = none
    by (Some x) h = h

pub proper_rules : (IsName : ℕ → Type 0) (Plain : Type 0) (text : Texts) (f : FileSketch) (p : Protocol) → HasParts IsName Plain text f p → HasProperRules p
proper_rules IsName Plain text f p h = subst HasProperRules h.is (record {
  proper = of_rules (λ rs. AllByRecursion IsProperRule rs) tt h.names.destructors (each-weaker _ _ (λ d k. k.proper) h.names.destructors h.declared.rules);
  uniform = of_rules AreUniform tt h.names.destructors (each-weaker _ _ (λ d k. k.uniform) h.names.destructors h.declared.rules);
})

-- a process below what is bound has linear patterns
linear_below : (signature : Signature) (process : Process) (bound : List Name) (point : ℕ) → IsProcessBelow signature bound point process → HasLinearPatterns process
linear_below signature Nil bound point h = tt
linear_below signature (Output channel message next) bound point h = linear_below signature next _ _ h.2
linear_below signature (Input channel pattern next) bound point h = (h.1.linear, linear_below signature next _ _ h.2)
linear_below signature (Parallel left right) bound point h = (linear_below signature left _ _ h.0, linear_below signature right _ _ h.1)
linear_below signature (Replication copied) bound point h = linear_below signature copied _ _ h
linear_below signature (New word next) bound point h = linear_below signature next _ _ h.1
linear_below signature (Let pattern expression next otherwise) bound point h = (h.0.linear, linear_below signature next _ _ h.2, linear_below signature otherwise _ _ h.3)
linear_below signature (Event performed next) bound point h = linear_below signature next _ _ h.1
linear_below signature (Phase number next) bound point h = linear_below signature next _ _ h
linear_below signature (Insert table arguments next) bound point h = linear_below signature next _ _ h.2
linear_below signature (Get table patterns condition next otherwise) bound point h = (h.1.linear, linear_below signature next _ _ h.3, linear_below signature otherwise _ _ h.4)

module _ (IsName : ℕ → Type 0) (Plain : Type 0) (text : Texts) (f : FileSketch) (p : Protocol) (h : HasParts IsName Plain text f p) where
  abbrev scope_of : Scope
  scope_of = record { text = text; names = h.names }

  -- the main process, placed below nothing
  placed : Placed (signature_with h.names) (IsWordOf IsName text) Plain [] 0 0 (record { point = 1; variable = 1 }) (h.main, (main_placed scope_of IsName Plain (each-weaker _ _ (λ d k. k.uniform) h.names.destructors h.declared.rules) h.declared.table_arities h.declared.macros f.main h.solid.main h.main h.main_is).0)
  placed = (main_placed scope_of IsName Plain (each-weaker _ _ (λ d k. k.uniform) h.names.destructors h.declared.rules) h.declared.table_arities h.declared.macros f.main h.solid.main h.main h.main_is).1

  queries_asked : asked.AllAsked Plain scope_of h.main 0 h.asked
  queries_asked = asked.queries Plain scope_of IsName h.main f.declarations h.solid.declarations 0 (omega arith) h.asked h.asked_are

  pub linear_patterns : HasLinearPatterns p.main
  linear_patterns = subst (λ (q : Protocol). HasLinearPatterns q.main) h.is (linear_below (signature_with h.names) h.main [] 1 placed.below)

  pub query_leaves : AllByRecursion (HasQueryLeaves p) p.queries
  query_leaves = subst (λ (q : Protocol). AllByRecursion (HasQueryLeaves q) q.queries) h.is (each-weaker _ _ (λ q k. k.has_leaves) h.asked queries_asked.each)

  -- where the file is plain, so is the protocol
  pub plain : Plain → IsPlain p.main × AllByRecursion IsPlainQuery p.queries × (p.tables ≡ [])
  plain is = subst (λ (q : Protocol). IsPlain q.main × AllByRecursion IsPlainQuery q.queries × (q.tables ≡ [])) h.is
      (placed.plain is, each-weaker _ _ (λ q k. k.plain is (plain_greatest h.main (placed.plain is))) h.asked queries_asked.each, h.declared.no_tables is)

  pub within_limits : IsWithinLimits p
  within_limits = subst IsWithinLimits h.is (record {
    names = let few = h.declared.few in omega arith;
    constructors = h.declared.arities;
    events = h.declared.event_arities;
    destructors = each-weaker _ _ (λ d k. k.small) h.names.destructors h.declared.rules;
    queries = let few = queries_asked.few in omega arith;
    asked = each-weaker _ _ (λ q k. k.small) h.asked queries_asked.each;
    points = main_points scope_of f.main h.main h.main_is;
    way = let w = placed.way in omega arith;
    tables = h.declared.table_arities;
    phases = placed.phases;
    entries = placed.entries;
  })

  pub well_scoped : IsWellScoped p
  well_scoped = subst IsWellScoped h.is (record {
    rules = each-weaker _ _ (λ d k. k.over) h.names.destructors h.declared.rules;
    process = placed.below;
    phases = placed.ordered;
    queries = each-weaker _ _ (λ q k. k.over) h.asked queries_asked.each;
  })

  pub distinct_words : HasDistinctWords p
  distinct_words = subst HasDistinctWords h.is h.distinct

  -- where the text of each token that declares a name is an identifier, so are all words
  words_by : ((word : List ℕ) → IsWordOf IsName text word → IsIdentifier word) → HasWords p
  words_by word = subst HasWords h.is (record {
    frees = each-weaker _ _ (λ d k. (word d.word k.0, k.1)) h.names.frees h.declared.frees;
    constructors = each-weaker _ _ (λ d k. (word d.word k.0, k.1)) h.names.constructors h.declared.constructors;
    destructors = each-weaker _ _ (λ d k. word d.word k) h.names.destructors h.declared.destructors;
    events = each-weaker _ _ (λ d k. word d.word k) h.names.events h.declared.events;
    tables = each-weaker _ _ (λ d k. word d.word k) h.names.tables h.declared.tables;
    restrictions = each_word-weaker (IsWordOf IsName text) IsIdentifier word h.main placed.words;
  })

pub well_scoped_by : (bytes : List ℕ) (p : Protocol) → Spells bytes p → IsWellScoped p
well_scoped_by bytes p h = well_scoped (IsNamed (source bytes h.1.tokens)) (ArePlain (source bytes h.1.tokens)) (texts bytes h.1.tokens) h.1.sketch p (spelled_parts bytes p h)

pub within_limits_by : (bytes : List ℕ) (p : Protocol) → Spells bytes p → IsWithinLimits p
within_limits_by bytes p h = within_limits (IsNamed (source bytes h.1.tokens)) (ArePlain (source bytes h.1.tokens)) (texts bytes h.1.tokens) h.1.sketch p (spelled_parts bytes p h)

pub words_are : (bytes : List ℕ) (p : Protocol) → Spells bytes p → HasWords p
words_are bytes p h =
    let is = named_word bytes h.1.tokens h.1.lexed in
    words_by (IsNamed (source bytes h.1.tokens)) (ArePlain (source bytes h.1.tokens)) (texts bytes h.1.tokens) h.1.sketch p (spelled_parts bytes p h)
    (λ word w. subst IsIdentifier w.2 (is w.0 w.1))
