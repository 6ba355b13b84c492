-- Reading a file from left to right: what stands at a place, and the place behind it. The laws in proofs/ say that
-- this finds exactly what is spelled, and faults exactly where the file is refused.
use Rattle.std.specs.Prelude.{ℕ, zero, suc, ◌+◌, Bool, true, false, cond, List, [], ◌∷◌, ◌⊎◌, Option, Some, None}
use Rattle.std.proofs.Common.{inl, inr}
use Rattle.spec_calculus.specs.Bounds.{most_levels}
use Rattle.spec_protocol_grammar.specs.declared.class.Class.{Class}
use Rattle.spec_protocol_grammar.specs.declared.class.Class.TheVariants as w
use Rattle.spec_protocol_grammar.specs.Classes.{Source, same, fits}
use Rattle.spec_protocol_grammar.specs.Sketch.{TermSketch, Named, Grouped, PatternSketch, NamedPattern, Equal, GroupedPattern, AtomSketch, ConditionSketch, always, such_that, ProcessSketch, Process, BesideSketch, alone, beside, UnitSketch, Zero, Macro, Inner, Replicated, New, Output, Input, Happens, Let, If, Phase, Insert, Get, NextSketch, omitted, given, AlternativeSketch, QuerySketch, AttackerNew, Attacker, Correspondence, RuleSketch, DeclarationSketch, Free, Fun, Data, Reduc, Event, Table, Query, Definition, FileSketch, terms_sketch, patterns_sketch}

-- what reading gives: a value and the place behind it, or a fault at a place. Tired: too many parts in a row
pub data Read (X : Type 0) : Type 0 where
  Found : (value : X) → (behind : ℕ) → Read X
  Unexpected : (place : ℕ) → Read X
  TooDeep : (place : ℕ) → Read X
  Tired : (place : ℕ) → Read X

-- what reads a kind of thing at a place
abbrev pub Reader : Type 0 → Type 0
Reader X = Source → ℕ → Read X

-- one step after another
abbrev pub step : {X Y : Type 0} → Read X → (X → ℕ → Read Y) → Read Y
step (Found x e) f = f x e
step (Unexpected i) f = Unexpected i
step (TooDeep i) f = TooDeep i
step (Tired i) f = Tired i

-- something is made of what was read
abbrev pub built : {X Y : Type 0} → (X → Y) → Reader X → Reader Y
built f r s at = step (r s at) (λ x e. Found (f x) e)

abbrev pub done : Reader (Unit {0})
done s at = Found tt at

abbrev pub refused : {X : Type 0} → Reader X
refused s at = Unexpected at

-- a word of this class, with its number
abbrev pub with_place : {X : Type 0} → Class → Reader X → Reader (ℕ × X)
with_place c r s at = cond (fits c (s at).class) (step (r s (at + 1)) (λ x e. Found ((s at).number, x) e)) (Unexpected at)

-- something, a word of this class, and something else
abbrev pub then_marked : {X Y : Type 0} → Reader X → Class → Reader Y → Reader (X × Y)
then_marked r c q s at =
    step (r s at) (λ x e. cond (fits c (s e).class) (step (q s (e + 1)) (λ y e'. Found (x, y) e')) (Unexpected e))

-- nothing, or a word of this class and something behind it
abbrev pub optional : {X : Type 0} → Class → Reader X → Reader (Option X)
optional c r s at = cond (same c (s at).class) (step (r s (at + 1)) (λ x e. Found (Some x) e)) (Found None at)

-- something, and what may follow
abbrev pub both : {X Y : Type 0} → Reader X → Reader Y → Reader (X × Y)
both r q s at = step (r s at) (λ x e. step (q s e) (λ y e'. Found (x, y) e'))

-- the first where a word of this class comes next, else the second
abbrev pub either : {X Y : Type 0} → Class → Reader X → Reader Y → Reader (X ⊎ Y)
either c r q s at =
    cond (same c (s at).class) (step (r s at) (λ x e. Found (inl x) e)) (step (q s at) (λ y e. Found (inr y) e))

-- nothing can be read below the last level
abbrev pub deep : {X : Type 0} → (Class → Bool) → Reader X
deep begins s at = cond (begins (s at).class) (TooDeep at) (Unexpected at)

-- the parts of a list behind the first
abbrev pub others_of : {X : Type 0} → Option (X × List X) → List X
others_of None = []
others_of (Some parts) = parts.0 ∷ parts.1

-- at least one, and at most so many, a word of this class between them
unfoldable pub list_at : {X : Type 0} → ℕ → Class → Reader X → Reader (X × List X)
list_at zero c r s at = Tired at
list_at (suc most) c r s at = both r (built others_of (optional c (list_at most c r))) s at

abbrev pub list_of : {X : Type 0} → X × List X → List X
list_of parts = parts.0 ∷ parts.1

abbrev pub parts_of : {X : Type 0} → X × Unit {0} → X
parts_of parts = parts.0

-- a list in parentheses; of the first the reader has the number
abbrev pub arguments_of : {X : Type 0} → Option ((X × List X) × Unit {0}) → List X
arguments_of None = []
arguments_of (Some parts) = list_of parts.0

-- nothing, or arguments in parentheses
unfoldable pub arguments_at : {X : Type 0} → ℕ → Reader X → Reader (List X)
arguments_at most r s at = built arguments_of (optional w.Open (then_marked (list_at most w.Comma r) w.Close done)) s at

abbrev pub begins_term : Class → Bool
begins_term w.Name = true
begins_term w.Open = true
begins_term _ = false

abbrev pub named : ℕ × List TermSketch → TermSketch
named parts = Named parts.0 (terms_sketch parts.1)

abbrev pub grouped : ℕ × ((TermSketch × List TermSketch) × Unit {0}) → TermSketch
grouped parts = Grouped parts.0 (terms_sketch (list_of parts.1.0))

-- a term by the class of its first word
abbrev pub term_by : ℕ → Reader TermSketch → Class → Reader TermSketch
term_by most below w.Name = built named (with_place w.Name (arguments_at most below))
term_by most below w.Open = built grouped (with_place w.Open (then_marked (list_at most w.Comma below) w.Close done))
term_by most below _ = refused

-- a term, with so many levels left
unfoldable pub term_at : ℕ → ℕ → Reader TermSketch
term_at most zero s at = deep begins_term s at
term_at most (suc left) s at = term_by most (term_at most left) (s at).class s at

abbrev pub begins_pattern : Class → Bool
begins_pattern w.Name = true
begins_pattern w.Equals = true
begins_pattern w.Open = true
begins_pattern _ = false

abbrev pub named_pattern : ℕ × List PatternSketch → PatternSketch
named_pattern parts = NamedPattern parts.0 (patterns_sketch parts.1)

abbrev pub equal : ℕ × TermSketch → PatternSketch
equal parts = Equal parts.0 parts.1

abbrev pub grouped_pattern : ℕ × ((PatternSketch × List PatternSketch) × Unit {0}) → PatternSketch
grouped_pattern parts = GroupedPattern parts.0 (patterns_sketch (list_of parts.1.0))

-- a pattern by the class of its first word
abbrev pub pattern_by : ℕ → ℕ → Reader PatternSketch → Class → Reader PatternSketch
pattern_by most left below w.Name = built named_pattern (with_place w.Name (arguments_at most below))
pattern_by most left below w.Equals = built equal (with_place w.Equals (term_at most left))
pattern_by most left below w.Open = built grouped_pattern (with_place w.Open (then_marked (list_at most w.Comma below) w.Close done))
pattern_by most left below _ = refused

-- a pattern, with so many levels left
unfoldable pub pattern_at : ℕ → ℕ → Reader PatternSketch
pattern_at most zero s at = deep begins_pattern s at
pattern_at most (suc left) s at = pattern_by most left (pattern_at most left) (s at).class s at

abbrev pub begins_atom : Class → Bool
begins_atom w.Name = true
begins_atom _ = false

abbrev pub atom_from : ℕ × List TermSketch → AtomSketch
atom_from parts = record { first = parts.0; arguments = terms_sketch parts.1 }

-- an event, with so many levels left
unfoldable pub atom_at : ℕ → ℕ → Reader AtomSketch
atom_at most zero s at = deep begins_atom s at
atom_at most (suc left) s at = built atom_from (with_place w.Name (arguments_at most (term_at most left))) s at

abbrev pub condition_from : Option (TermSketch × TermSketch) → ConditionSketch
condition_from None = always
condition_from (Some parts) = such_that parts.0 parts.1

-- nothing, or `suchthat left = right`, with so many levels left for its terms
abbrev pub condition_at : ℕ → ℕ → Reader ConditionSketch
condition_at most left = built condition_from (optional w.Suchthat (then_marked (term_at most left) w.Equals (term_at most left)))

abbrev pub begins_unit : Class → Bool
begins_unit w.Zero = true
begins_unit w.Name = true
begins_unit w.Open = true
begins_unit w.Bang = true
begins_unit w.New = true
begins_unit w.Out = true
begins_unit w.In = true
begins_unit w.Event = true
begins_unit w.Let = true
begins_unit w.If = true
begins_unit w.Phase = true
begins_unit w.Insert = true
begins_unit w.Get = true
begins_unit _ = false

abbrev pub next_from : Option UnitSketch → NextSketch
next_from None = omitted
next_from (Some u) = given u

abbrev pub beside_from : Option ProcessSketch → BesideSketch
beside_from None = alone
beside_from (Some p) = beside p

-- a unit behind this word, or nothing
abbrev pub next_at : Class → Reader UnitSketch → Reader NextSketch
next_at c below = built next_from (optional c below)

abbrev pub zero_unit : ℕ × Unit {0} → UnitSketch
zero_unit parts = Zero parts.0

abbrev pub macro : ℕ × Unit {0} → UnitSketch
macro parts = Macro parts.0

abbrev pub inner : ℕ × (ProcessSketch × Unit {0}) → UnitSketch
inner parts = Inner parts.0 parts.1.0

abbrev pub replicated : ℕ × UnitSketch → UnitSketch
replicated parts = Replicated parts.0 parts.1

abbrev pub new : ℕ × (ℕ × NextSketch) → UnitSketch
new parts = New parts.0 parts.1.0 parts.1.1

abbrev pub output : ℕ × (Unit {0} × (TermSketch × (TermSketch × NextSketch))) → UnitSketch
output parts = Output parts.0 parts.1.1.0 parts.1.1.1.0 parts.1.1.1.1

abbrev pub input : ℕ × (Unit {0} × (TermSketch × (PatternSketch × NextSketch))) → UnitSketch
input parts = Input parts.0 parts.1.1.0 parts.1.1.1.0 parts.1.1.1.1

abbrev pub happens : ℕ × (AtomSketch × NextSketch) → UnitSketch
happens parts = Happens parts.0 parts.1.0 parts.1.1

abbrev pub let_unit : ℕ × (PatternSketch × (TermSketch × (UnitSketch × NextSketch))) → UnitSketch
let_unit parts = Let parts.0 parts.1.0 parts.1.1.0 parts.1.1.1.0 parts.1.1.1.1

abbrev pub if_unit : ℕ × (TermSketch × (TermSketch × (UnitSketch × NextSketch))) → UnitSketch
if_unit parts = If parts.0 parts.1.0 parts.1.1.0 parts.1.1.1.0 parts.1.1.1.1

abbrev pub phase_unit : ℕ × (ℕ × NextSketch) → UnitSketch
phase_unit parts = Phase parts.0 parts.1.0 parts.1.1

abbrev pub insert : ℕ × (AtomSketch × NextSketch) → UnitSketch
insert parts = Insert parts.0 parts.1.0 parts.1.1

abbrev pub get_unit : ℕ × (ℕ × ((List PatternSketch × ConditionSketch) × (UnitSketch × NextSketch))) → UnitSketch
get_unit parts = Get parts.0 parts.1.0 (patterns_sketch parts.1.1.0.0) parts.1.1.0.1 parts.1.1.1.0 parts.1.1.1.1

-- a unit by the class of its first word
abbrev pub unit_by : ℕ → ℕ → Reader UnitSketch → Reader ProcessSketch → Class → Reader UnitSketch
unit_by most left below inside w.Zero = built zero_unit (with_place w.Zero done)
unit_by most left below inside w.Name = built macro (with_place w.Name done)
unit_by most left below inside w.Open = built inner (with_place w.Open (then_marked inside w.Close done))
unit_by most left below inside w.Bang = built replicated (with_place w.Bang below)
unit_by most left below inside w.New = built new (with_place w.New (with_place w.Name (next_at w.Semicolon below)))
unit_by most left below inside w.Out =
    built output (with_place w.Out (then_marked done w.Open (then_marked (term_at most left) w.Comma (then_marked (term_at most left) w.Close (next_at w.Semicolon below)))))
unit_by most left below inside w.In =
    built input (with_place w.In (then_marked done w.Open (then_marked (term_at most left) w.Comma (then_marked (pattern_at most left) w.Close (next_at w.Semicolon below)))))
unit_by most left below inside w.Event = built happens (with_place w.Event (both (atom_at most left) (next_at w.Semicolon below)))
unit_by most left below inside w.Let =
    built let_unit (with_place w.Let (then_marked (pattern_at most left) w.Equals (then_marked (term_at most left) w.In (both below (next_at w.Else below)))))
unit_by most left below inside w.If =
    built if_unit (with_place w.If (then_marked (term_at most left) w.Equals (then_marked (term_at most left) w.Then (both below (next_at w.Else below)))))
unit_by most left below inside w.Phase = built phase_unit (with_place w.Phase (with_place w.Number (next_at w.Semicolon below)))
unit_by most left below inside w.Insert = built insert (with_place w.Insert (both (atom_at most left) (next_at w.Semicolon below)))
unit_by most left below inside w.Get =
    built get_unit (with_place w.Get (with_place w.Name (then_marked (both (arguments_at most (pattern_at most left)) (condition_at most left)) w.In (both below (next_at w.Else below)))))
unit_by most left below inside _ = refused

abbrev pub process_from : UnitSketch × BesideSketch → ProcessSketch
process_from parts = Process parts.0 parts.1

unfoldable mutual
  -- a unit, with so many levels left
  pub unit_at : ℕ → ℕ → Reader UnitSketch
  unit_at most zero s at = deep begins_unit s at
  unit_at most (suc left) s at = unit_by most left (unit_at most left) (process_at most left) (s at).class s at

  -- a process, with so many levels left
  pub process_at : ℕ → ℕ → Reader ProcessSketch
  process_at most zero s at = deep begins_unit s at
  process_at most (suc left) s at = built process_from (both (unit_at most left) (built beside_from (optional w.Bar (process_at most left)))) s at

abbrev pub name_from : ℕ × Unit {0} → ℕ
name_from parts = parts.0

abbrev pub name_at : Reader ℕ
name_at = built name_from (with_place w.Name done)

abbrev pub happening_from : Unit {0} × AtomSketch → AtomSketch
happening_from parts = parts.1

-- `event atom`
abbrev pub happening_at : ℕ → Reader AtomSketch
happening_at most = built happening_from (then_marked done w.Event (atom_at most most_levels))

abbrev pub alternative_from : AtomSketch × List AtomSketch → AlternativeSketch
alternative_from parts = record { atom = parts.0; others = parts.1 }

unfoldable pub alternative_at : ℕ → Reader AlternativeSketch
alternative_at most s at = built alternative_from (list_at most w.And (happening_at most)) s at

abbrev pub alternatives_from : (Unit {0} × Unit {0}) ⊎ (AlternativeSketch × List AlternativeSketch) → List AlternativeSketch
alternatives_from (inl none) = []
alternatives_from (inr parts) = list_of parts

unfoldable pub alternatives_at : ℕ → Reader (List AlternativeSketch)
alternatives_at most s at =
    built alternatives_from (either w.False (then_marked done w.False done) (list_at most w.Or (alternative_at most))) s at

abbrev pub phase_from : Option (ℕ × Unit {0}) → Option ℕ
phase_from None = None
phase_from (Some parts) = Some parts.0

-- nothing, or `phase number`
abbrev pub phase_at : Reader (Option ℕ)
phase_at = built phase_from (optional w.Phase (with_place w.Number done))

abbrev pub attacker_from : ℕ × (Unit {0} × ((Unit {0} × (ℕ × (Unit {0} × Option ℕ))) ⊎ (TermSketch × Option ℕ))) → QuerySketch
attacker_from (n, (_, inl name)) = AttackerNew n name.1.0 name.1.1.1
attacker_from (n, (_, inr message)) = Attacker n message.0 message.1

abbrev pub correspondence : ℕ × (AtomSketch × List AlternativeSketch) → QuerySketch
correspondence parts = Correspondence parts.0 parts.1.0 parts.1.1

-- what a query asks, by its first word
abbrev pub question_by : ℕ → Class → Reader QuerySketch
question_by most w.Attacker =
    built attacker_from (with_place w.Attacker (then_marked done w.Open
    (either w.New (then_marked done w.New (with_place w.Name (then_marked done w.Close phase_at))) (then_marked (term_at most most_levels) w.Close phase_at))))
question_by most w.Event = built correspondence (with_place w.Event (then_marked (atom_at most most_levels) w.Implies (alternatives_at most)))
question_by most _ = refused

unfoldable pub question_at : ℕ → Reader QuerySketch
question_at most s at = question_by most (s at).class s at

abbrev pub rule_from : ℕ × (Unit {0} × ((TermSketch × List TermSketch) × (Unit {0} × TermSketch))) → RuleSketch
rule_from parts = record { first = parts.0; arguments = terms_sketch (list_of parts.1.1.0); result = parts.1.1.1.1 }

unfoldable pub rule_at : ℕ → Reader RuleSketch
rule_at most s at =
    built rule_from (with_place w.Name (then_marked done w.Open (then_marked (list_at most w.Comma (term_at most most_levels)) w.Close
    (then_marked done w.Arrow (term_at most most_levels))))) s at

-- `name/arity.`
abbrev pub sized_at : Reader (ℕ × (Unit {0} × (ℕ × (Unit {0} × Unit {0}))))
sized_at = with_place w.Name (then_marked done w.Slash (with_place w.Number (then_marked done w.Dot done)))

-- `name, others.`
abbrev pub names_at : ℕ → Reader ((ℕ × List ℕ) × Unit {0})
names_at most = then_marked (list_at most w.Comma name_at) w.Dot done

abbrev pub free : Bool → ℕ × ((ℕ × List ℕ) × Unit {0}) → DeclarationSketch
free public parts = Free parts.0 public parts.1.0.0 parts.1.0.1

abbrev pub fun : Bool → ℕ × (ℕ × (Unit {0} × (ℕ × (Unit {0} × Unit {0})))) → DeclarationSketch
fun public parts = Fun parts.0 public parts.1.0 parts.1.1.1.0

abbrev pub hidden : ℕ × ((Unit {0} × ((ℕ × List ℕ) × Unit {0})) ⊎ (Unit {0} × (ℕ × (Unit {0} × (ℕ × (Unit {0} × Unit {0})))))) → DeclarationSketch
hidden (n, inl names) = free false (n, names.1)
hidden (n, inr parts) = fun false (n, parts.1)

abbrev pub data_from : ℕ × (ℕ × (Unit {0} × (ℕ × (Unit {0} × Unit {0})))) → DeclarationSketch
data_from parts = Data parts.0 parts.1.0 parts.1.1.1.0

abbrev pub event_from : ℕ × (ℕ × (Unit {0} × (ℕ × (Unit {0} × Unit {0})))) → DeclarationSketch
event_from parts = Event parts.0 parts.1.0 parts.1.1.1.0

abbrev pub table_from : ℕ × (ℕ × (Unit {0} × (ℕ × (Unit {0} × Unit {0})))) → DeclarationSketch
table_from parts = Table parts.0 parts.1.0 parts.1.1.1.0

abbrev pub reduc : ℕ × ((RuleSketch × List RuleSketch) × Unit {0}) → DeclarationSketch
reduc parts = Reduc parts.0 parts.1.0.0 parts.1.0.1

abbrev pub query : ℕ × (QuerySketch × Unit {0}) → DeclarationSketch
query parts = Query parts.0 parts.1.0

abbrev pub definition : ℕ × (ℕ × (Unit {0} × (ProcessSketch × Unit {0}))) → DeclarationSketch
definition parts = Definition parts.0 parts.1.0 parts.1.1.1.0

-- a declaration by the class of its first word
abbrev pub declaration_by : ℕ → Class → Reader DeclarationSketch
declaration_by most w.Private = built hidden (with_place w.Private (either w.Free (then_marked done w.Free (names_at most)) (then_marked done w.Fun sized_at)))
declaration_by most w.Free = built (free true) (with_place w.Free (names_at most))
declaration_by most w.Fun = built (fun true) (with_place w.Fun sized_at)
declaration_by most w.Data = built data_from (with_place w.Data sized_at)
declaration_by most w.Reduc = built reduc (with_place w.Reduc (then_marked (list_at most w.Semicolon (rule_at most)) w.Dot done))
declaration_by most w.Event = built event_from (with_place w.Event sized_at)
declaration_by most w.Table = built table_from (with_place w.Table sized_at)
declaration_by most w.Query = built query (with_place w.Query (then_marked (question_at most) w.Dot done))
declaration_by most w.Let = built definition (with_place w.Let (with_place w.Name (then_marked done w.Equals (then_marked (process_at most most_levels) w.Dot done))))
declaration_by most _ = refused

unfoldable pub declaration_at : ℕ → Reader DeclarationSketch
declaration_at most s at = declaration_by most (s at).class s at

-- the main process
unfoldable pub main_at : ℕ → Reader (ℕ × (ProcessSketch × Unit {0}))
main_at most s at = with_place w.Process (then_marked (process_at most most_levels) w.End done) s at

abbrev pub Rest : Type 0
Rest = ℕ × (ProcessSketch × Unit {0})

abbrev pub declarations_from : Rest ⊎ (DeclarationSketch × (List DeclarationSketch × Rest)) → List DeclarationSketch × Rest
declarations_from (inl rest) = ([], rest)
declarations_from (inr parts) = (parts.0 ∷ parts.1.0, parts.1.1)

-- at most so many declarations, and the main process
unfoldable pub declarations_at : ℕ → ℕ → Reader (List DeclarationSketch × Rest)
declarations_at most zero s at = Tired at
declarations_at most (suc rounds) s at =
    built declarations_from (either w.Process (main_at most) (both (declaration_at most) (declarations_at most rounds))) s at

abbrev pub file_from : List DeclarationSketch × Rest → FileSketch
file_from parts = record { declarations = parts.0; first = parts.1.0; main = parts.1.1.0 }

-- a file; of no list are more than so many parts read
unfoldable pub file_at : ℕ → Reader FileSketch
file_at most s at = built file_from (declarations_at most most) s at
