-- How contracts store these data: what the models of types that are seen as them take.
use Rattle.std.specs.Prelude.{◌≡◌, ℕ, zero, suc, ◌⊎◌, List, Option, None, Some, refl}
use Rattle.std.proofs.Common.{inl, inr}
use Rattle.std.specs.Coded.{Coded, code_by, coded×, coded⊎, coded_ℕ, coded_list, coded_option}
use Rattle.spec_trees.specs.Code.{coded_tree}
use Rattle.spec_calculus.specs.Syntax.{Name, Free, Made, Variable, Symbol, Constructor, Tuple, Term, Hole, Bind, Equal, Pattern, Head, Builds, Calls, Expression, Rule, EventTerm, Destructor, Query, Secret, SecretNew, Correspondence}
use Rattle.spec_calculus.specs.Values.{Atom, FreeName, MadeName, AttackerName, Value, Binding, Environment}
use Rattle.spec_calculus.specs.Runs.{Thread, At, Ended, Performed}

abbrev name_pair : Name → ℕ × ℕ
name_pair (Free n) = (0, n)
name_pair (Made p) = (1, p)
name_pair (Variable i) = (2, i)

abbrev pair_name : ℕ × ℕ → Name
pair_name (zero, n) = Free n
pair_name (suc zero, p) = Made p
pair_name (suc (suc k), i) = Variable i

pub pair_name-name_pair : (x : Name) → pair_name (name_pair x) ≡ x
pair_name-name_pair (Free n) = refl
pair_name-name_pair (Made p) = refl
pair_name-name_pair (Variable i) = refl

abbrev pub coded_name : Coded Name
coded_name = code_by (ℕ × ℕ) (coded× coded_ℕ coded_ℕ) name_pair pair_name pair_name-name_pair

abbrev symbol_pair : Symbol → ℕ × ℕ
symbol_pair (Constructor n) = (0, n)
symbol_pair Tuple = (1, 0)

abbrev pair_symbol : ℕ × ℕ → Symbol
pair_symbol (zero, n) = Constructor n
pair_symbol (suc k, n) = Tuple

pub pair_symbol-symbol_pair : (f : Symbol) → pair_symbol (symbol_pair f) ≡ f
pair_symbol-symbol_pair (Constructor n) = refl
pair_symbol-symbol_pair Tuple = refl

abbrev pub coded_symbol : Coded Symbol
coded_symbol = code_by (ℕ × ℕ) (coded× coded_ℕ coded_ℕ) symbol_pair pair_symbol pair_symbol-symbol_pair

abbrev pub coded_term : Coded Term
coded_term = coded_tree coded_name coded_symbol

abbrev pub coded_terms : Coded (List Term)
coded_terms = coded_list coded_term

abbrev hole_parts : Hole → ℕ ⊎ Term
hole_parts (Bind i) = inl i
hole_parts (Equal term) = inr term

abbrev parts_hole : ℕ ⊎ Term → Hole
parts_hole (inl i) = Bind i
parts_hole (inr term) = Equal term

pub parts_hole-hole_parts : (h : Hole) → parts_hole (hole_parts h) ≡ h
parts_hole-hole_parts (Bind i) = refl
parts_hole-hole_parts (Equal term) = refl

abbrev pub coded_hole : Coded Hole
coded_hole = code_by (ℕ ⊎ Term) (coded⊎ coded_ℕ coded_term) hole_parts parts_hole parts_hole-hole_parts

abbrev pub coded_patterns : Coded (List Pattern)
coded_patterns = coded_list (coded_tree coded_hole coded_symbol)

abbrev head_parts : Head ℕ → Symbol ⊎ ℕ
head_parts (Builds f) = inl f
head_parts (Calls d) = inr d

abbrev parts_head : Symbol ⊎ ℕ → Head ℕ
parts_head (inl f) = Builds f
parts_head (inr d) = Calls d

pub parts_head-head_parts : (h : Head ℕ) → parts_head (head_parts h) ≡ h
parts_head-head_parts (Builds f) = refl
parts_head-head_parts (Calls d) = refl

abbrev pub coded_head : Coded (Head ℕ)
coded_head = code_by (Symbol ⊎ ℕ) (coded⊎ coded_symbol coded_ℕ) head_parts parts_head parts_head-head_parts

abbrev pub coded_expressions : Coded (List Expression)
coded_expressions = coded_list (coded_tree coded_term coded_head)

abbrev pub coded_rule : Coded Rule
coded_rule = code_by (List Term × Term) (coded× coded_terms coded_term) (λ r. (r.left, r.right)) (λ p. record { left = p.0; right = p.1 }) (λ _. refl)

abbrev pub coded_rules : Coded (List Rule)
coded_rules = coded_list coded_rule

abbrev pub coded_destructor : Coded Destructor
coded_destructor = code_by (List ℕ × List Rule) (coded× (coded_list coded_ℕ) coded_rules) (λ d. (d.word, d.rules)) (λ p. record { word = p.0; rules = p.1 }) (λ _. refl)

abbrev pub coded_destructors : Coded (List Destructor)
coded_destructors = coded_list coded_destructor

abbrev pub coded_event : Coded EventTerm
coded_event = code_by (ℕ × List Term) (coded× coded_ℕ coded_terms) (λ e. (e.event, e.arguments)) (λ p. record { event = p.0; arguments = p.1 }) (λ _. refl)

abbrev pub coded_events : Coded (List EventTerm)
coded_events = coded_list coded_event

abbrev pub coded_alternatives : Coded (List (List EventTerm))
coded_alternatives = coded_list coded_events

abbrev pub QueryParts : Type 0
QueryParts = (Term × ℕ) ⊎ ((ℕ × ℕ) ⊎ (EventTerm × List (List EventTerm)))

abbrev query_parts : Query → QueryParts
query_parts (Secret message phase) = inl (message, phase)
query_parts (SecretNew point phase) = inr (inl (point, phase))
query_parts (Correspondence left alternatives) = inr (inr (left, alternatives))

abbrev parts_query : QueryParts → Query
parts_query (inl (message, phase)) = Secret message phase
parts_query (inr (inl (point, phase))) = SecretNew point phase
parts_query (inr (inr (left, alternatives))) = Correspondence left alternatives

pub parts_query-query_parts : (q : Query) → parts_query (query_parts q) ≡ q
parts_query-query_parts (Secret message phase) = refl
parts_query-query_parts (SecretNew point phase) = refl
parts_query-query_parts (Correspondence left alternatives) = refl

abbrev pub coded_query : Coded Query
coded_query = code_by QueryParts (coded⊎ (coded× coded_term coded_ℕ) (coded⊎ (coded× coded_ℕ coded_ℕ) (coded× coded_event coded_alternatives))) query_parts parts_query parts_query-query_parts

abbrev pub coded_queries : Coded (List Query)
coded_queries = coded_list coded_query

abbrev atom_parts : Atom → ℕ × (ℕ × ℕ)
atom_parts (FreeName n) = (0, (0, n))
atom_parts (MadeName p n) = (1, (p, n))
atom_parts (AttackerName n) = (2, (0, n))

abbrev parts_atom : ℕ × (ℕ × ℕ) → Atom
parts_atom (zero, (p, n)) = FreeName n
parts_atom (suc zero, (p, n)) = MadeName p n
parts_atom (suc (suc k), (p, n)) = AttackerName n

pub parts_atom-atom_parts : (x : Atom) → parts_atom (atom_parts x) ≡ x
parts_atom-atom_parts (FreeName n) = refl
parts_atom-atom_parts (MadeName p n) = refl
parts_atom-atom_parts (AttackerName n) = refl

abbrev pub coded_atom : Coded Atom
coded_atom = code_by (ℕ × (ℕ × ℕ)) (coded× coded_ℕ (coded× coded_ℕ coded_ℕ)) atom_parts parts_atom parts_atom-atom_parts

abbrev pub coded_values : Coded (List Value)
coded_values = coded_list (coded_tree coded_atom coded_symbol)

abbrev pub coded_value : Coded Value
coded_value = coded_tree coded_atom coded_symbol

abbrev pub coded_binding : Coded Binding
coded_binding = code_by (Name × Value) (coded× coded_name coded_value) (λ b. (b.name, b.value)) (λ p. record { name = p.0; value = p.1 }) (λ _. refl)

abbrev pub coded_environment : Coded Environment
coded_environment = coded_list coded_binding

abbrev thread_parts : Thread → Option (ℕ × Environment)
thread_parts (At point environment) = Some (point, environment)
thread_parts Ended = None

abbrev parts_thread : Option (ℕ × Environment) → Thread
parts_thread (Some (point, environment)) = At point environment
parts_thread None = Ended

pub parts_thread-thread_parts : (t : Thread) → parts_thread (thread_parts t) ≡ t
parts_thread-thread_parts (At point environment) = refl
parts_thread-thread_parts Ended = refl

abbrev pub coded_threads : Coded (List Thread)
coded_threads = coded_list (code_by (Option (ℕ × Environment)) (coded_option (coded× coded_ℕ coded_environment)) thread_parts parts_thread parts_thread-thread_parts)

abbrev pub coded_performed : Coded (List Performed)
coded_performed = coded_list (code_by (ℕ × List Value) (coded× coded_ℕ coded_values) (λ p. (p.event, p.arguments)) (λ p. record { event = p.0; arguments = p.1 }) (λ _. refl))
