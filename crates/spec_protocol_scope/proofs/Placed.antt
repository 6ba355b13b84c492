-- What holds of each process that the rules of scope give, form by form.
use Rattle.std.proofs.Common.{◌≡◌, ℕ, ◌+◌, ◌<◌, ◌≤◌, true, nat_le, List, [], ◌∷◌, ◌++◌, length, filter_map, Contains, unwrap_or, Ok, ap, subst, arith}
use Rattle.std.specs.List.{AllByRecursion}
use Rattle.std.proofs.lemmas.Bool.{leb-true}
use Rattle.spec_trees.proofs.Equality.{and_true}
use Rattle.spec_calculus.specs.Bounds.{most_arguments, most_points, most_points_above, most_phases}
use Rattle.spec_calculus.specs.Syntax as calculus
use Rattle.spec_calculus.specs.Syntax.{Name, Free, Made, Variable, Term, Hole, Bind, Pattern, Expression, EventTerm}
use Rattle.spec_calculus.specs.Points.{nodes, greatest_phase}
use Rattle.spec_calculus.specs.Plain.{IsPlain}
use Rattle.spec_calculus.proofs.Items.{each-weaker, each-contains}
use Rattle.spec_well_formed.specs.Signature.{Signature}
use Rattle.spec_well_formed.specs.Terms.{IsKnown, IsTermBelow, IsPatternBelow, IsRowBelow, IsConditionBelow, IsExpressionBelow, IsEventOver, HasArity, bound_by_hole, bound_by, bound_by_row}
use Rattle.spec_well_formed.specs.Processes.{IsProcessBelow, ArePhasesOrdered, AreSmallEntries, EachWord, height}
use Rattle.spec_protocol_scope.specs.Answers.{TooMany, fault}
use Rattle.spec_protocol_scope.specs.Names.{Scope, Bound}
use Rattle.spec_protocol_scope.specs.Processes as rules
use Rattle.spec_protocol_scope.specs.Processes.{Numbers, Site, Macros, is_room, counted, with_variables}
use Rattle.spec_protocol_grammar.specs.Sketch.{UnitSketch}
use Rattle.spec_protocol_scope.proofs.Stepped.{passed, faulty}
use Rattle.spec_protocol_scope.proofs.Known.{IsBindable}
use Rattle.spec_protocol_scope.proofs.Patterns.{names_of, AreBindable, BindsIn}
use Rattle.spec_protocol_scope.proofs.Points.{together, crowded_in}

-- a point where there is room, and the numbers behind it
pub record Room (above : ℕ) (now next : Numbers) : Type 0 where
  pub is : next ≡ counted now
  pub few : above ≤ most_points_above

room_by : (site : Site) (now next : Numbers) → (is_room site now ≡ true) × (next ≡ counted now) → Room site.above now next
room_by site now next h = record { is = h.1; few = leb-true site.above most_points_above (and_true (nat_le now.point most_points) (nat_le site.above most_points_above) h.0).1 }

pub room : (site : Site) (now : Numbers) (n : ℕ) (next : Numbers) → rules.reached site now n ≡ Ok next → Room site.above now next
room site now n next e = room_by site now next (passed (is_room site now) (counted now) next (fault TooMany (unwrap_or site.used n)) (faulty TooMany (unwrap_or site.used n)) e)

pub both_room : (s : Scope) (macros : Macros) (site : Site) (now : Numbers) (u : UnitSketch) (next : Numbers) → rules.both_reached s macros site now u ≡ Ok next → Room site.above now next
both_room s macros site now u next e = room_by site now next (passed (is_room site now) (counted now) next (rules.crowded_in s macros site.used u) (crowded_in s macros site.used u) e)

-- what is bound was bound before
abbrev pub IsEarlier : Numbers → Name → Type 0
IsEarlier now (Free n) = ⊥
IsEarlier now (Made p) = p < now.point
IsEarlier now (Variable i) = i < now.variable

abbrev pub AreEarlier : Numbers → List Name → Type 0
AreEarlier now names = AllByRecursion (IsEarlier now) names

earlier_later : (now later : Numbers) → now.point ≤ later.point → now.variable ≤ later.variable → (x : Name) → IsEarlier now x → IsEarlier later x
earlier_later now later p v (Free n) h = h
earlier_later now later p v (Made n) h = omega (arith, h)
earlier_later now later p v (Variable i) h = omega (arith, h)

pub are_earlier : (now later : Numbers) → now.point ≤ later.point → now.variable ≤ later.variable → (names : List Name) → AreEarlier now names → AreEarlier later names
are_earlier now later p v names h = each-weaker (IsEarlier now) (IsEarlier later) (earlier_later now later p v) names h

bindable_earlier : (now : Numbers) (x : Name) → IsEarlier now x → IsBindable x
bindable_earlier now (Free n) h = h
bindable_earlier now (Made p) h = tt
bindable_earlier now (Variable i) h = tt

pub are_bindable : (now : Numbers) (bound : List Bound) → AreEarlier now (names_of bound) → AreBindable bound
are_bindable now [] h = tt
are_bindable now (b ∷ bound) h = (bindable_earlier now b.name h.0, are_bindable now bound h.1)

-- what the holes bind is new where it is bound, and earlier behind it
pub holes_new : (now : Numbers) (names : List Name) → AreEarlier now names → (high : ℕ) (hs : List Hole) → AllByRecursion (BindsIn now.variable high) hs → AllByRecursion (λ x. Contains names x → ⊥) (filter_map bound_by_hole hs)
holes_new now names earlier high [] h = tt
holes_new now names earlier high (Bind i ∷ hs) h =
    (λ at. let under : i < now.variable = each-contains (IsEarlier now) names (Variable i) earlier at in omega (arith, h.0.0), holes_new now names earlier high hs h.1)
holes_new now names earlier high (calculus.Equal t ∷ hs) h = holes_new now names earlier high hs h.1

pub holes_earlier : (low : ℕ) (later : Numbers) (hs : List Hole) → AllByRecursion (BindsIn low later.variable) hs → AreEarlier later (filter_map bound_by_hole hs)
holes_earlier low later [] h = tt
holes_earlier low later (Bind i ∷ hs) h = (h.0.1, holes_earlier low later hs h.1)
holes_earlier low later (calculus.Equal t ∷ hs) h = holes_earlier low later hs h.1

module _ (signature : Signature) (IsWord : List ℕ → Type 0) (Plain : Type 0) where
  -- a process where these are bound, so many points stand above it and this phase is in force, with the numbers behind it
  pub record Placed (names : List Name) (above phase : ℕ) (now : Numbers) (read : calculus.Process × Numbers) : Type 0 where
    pub below : IsProcessBelow signature names now.point read.0
    pub counts : read.1.point ≡ now.point + length (nodes read.0)
    pub up : now.variable ≤ read.1.variable
    pub way : above + height read.0 ≤ 1 + most_points_above
    pub words : EachWord IsWord read.0
    pub ordered : ArePhasesOrdered phase read.0
    pub phases : greatest_phase read.0 ≤ most_phases
    pub entries : AreSmallEntries read.0
    pub plain : Plain → IsPlain read.0

  module _ (names : List Name) (above phase : ℕ) (now next : Numbers) (room : Room above now next) where
    pub nil_placed : Placed names above phase now (calculus.Nil, next)
    nil_placed = record {
      below = tt;
      counts = ap (λ (m : Numbers). m.point) room.is;
      up = let e = ap (λ (m : Numbers). m.variable) room.is in omega arith;
      way = let few = room.few in omega arith;
      words = tt;
      ordered = tt;
      phases = omega arith;
      entries = tt;
      plain = λ p. tt;
    }

    -- a process below, where the numbers are those behind the point
    at_next : (inner : List Name) (deeper within : ℕ) (part : calculus.Process × Numbers) → Placed inner deeper within next part → Placed inner deeper within (counted now) part
    at_next inner deeper within part h = subst (λ (m : Numbers). Placed inner deeper within m part) room.is h

    pub parallel_placed : (left right : calculus.Process × Numbers) → Placed names (above + 1) phase next left → Placed names (above + 1) phase left.1 right → Placed names above phase now (calculus.Parallel left.0 right.0, right.1)
    parallel_placed left right h k = by (at_next names (above + 1) phase left h)
      where
        by : Placed names (above + 1) phase (counted now) left → Placed names above phase now (calculus.Parallel left.0 right.0, right.1)
        by l = record {
          below = (l.below, subst (λ (p : ℕ). IsProcessBelow signature names p right.0) l.counts k.below);
          counts = let a = l.counts in let b = k.counts in let c = together left.0 right.0 in omega arith;
          up = let a = l.up in let b = k.up in omega arith;
          way = let a = l.way in let b = k.way in omega arith;
          words = (l.words, k.words);
          ordered = (l.ordered, k.ordered);
          phases = let a = l.phases in let b = k.phases in omega arith;
          entries = (l.entries, k.entries);
          plain = λ p. (l.plain p, k.plain p);
        }

    pub replication_placed : (copied : calculus.Process × Numbers) → Placed names (above + 1) phase next copied → Placed names above phase now (calculus.Replication copied.0, copied.1)
    replication_placed copied h = by (at_next names (above + 1) phase copied h)
      where
        by : Placed names (above + 1) phase (counted now) copied → Placed names above phase now (calculus.Replication copied.0, copied.1)
        by c = record {
          below = c.below;
          counts = let a = c.counts in omega arith;
          up = c.up;
          way = let a = c.way in omega arith;
          words = c.words;
          ordered = c.ordered;
          phases = c.phases;
          entries = c.entries;
          plain = c.plain;
        }

    pub new_placed : (word : List ℕ) (rest : calculus.Process × Numbers) → IsWord word → AreEarlier now names → Placed (Made now.point ∷ names) (above + 1) phase next rest → Placed names above phase now (calculus.New word rest.0, rest.1)
    new_placed word rest is_word earlier h = by (at_next (Made now.point ∷ names) (above + 1) phase rest h)
      where
        by : Placed (Made now.point ∷ names) (above + 1) phase (counted now) rest → Placed names above phase now (calculus.New word rest.0, rest.1)
        by c = record {
          below = ((λ at. let under : now.point < now.point = each-contains (IsEarlier now) names (Made now.point) earlier at in omega arith), c.below);
          counts = let a = c.counts in omega arith;
          up = c.up;
          way = let a = c.way in omega arith;
          words = (is_word, c.words);
          ordered = c.ordered;
          phases = c.phases;
          entries = c.entries;
          plain = c.plain;
        }

    pub output_placed : (channel message : Term) (rest : calculus.Process × Numbers) → IsTermBelow signature names channel → IsTermBelow signature names message
        → Placed names (above + 1) phase next rest → Placed names above phase now (calculus.Output channel message rest.0, rest.1)
    output_placed channel message rest on sent h = by (at_next names (above + 1) phase rest h)
      where
        by : Placed names (above + 1) phase (counted now) rest → Placed names above phase now (calculus.Output channel message rest.0, rest.1)
        by c = record {
          below = (on, sent, c.below);
          counts = let a = c.counts in omega arith;
          up = c.up;
          way = let a = c.way in omega arith;
          words = c.words;
          ordered = c.ordered;
          phases = c.phases;
          entries = c.entries;
          plain = c.plain;
        }

    pub event_placed : (performed : EventTerm) (rest : calculus.Process × Numbers) → IsEventOver signature (IsKnown signature names) performed
        → Placed names (above + 1) phase next rest → Placed names above phase now (calculus.Event performed rest.0, rest.1)
    event_placed performed rest over h = by (at_next names (above + 1) phase rest h)
      where
        by : Placed names (above + 1) phase (counted now) rest → Placed names above phase now (calculus.Event performed rest.0, rest.1)
        by c = record {
          below = (over, c.below);
          counts = let a = c.counts in omega arith;
          up = c.up;
          way = let a = c.way in omega arith;
          words = c.words;
          ordered = c.ordered;
          phases = c.phases;
          entries = c.entries;
          plain = c.plain;
        }

    pub phase_placed : (number : ℕ) (rest : calculus.Process × Numbers) → (Plain → ⊥) → phase < number → number ≤ most_phases
        → Placed names (above + 1) number next rest → Placed names above phase now (calculus.Phase number rest.0, rest.1)
    phase_placed number rest never later few h = by (at_next names (above + 1) number rest h)
      where
        by : Placed names (above + 1) number (counted now) rest → Placed names above phase now (calculus.Phase number rest.0, rest.1)
        by c = record {
          below = c.below;
          counts = let a = c.counts in omega arith;
          up = c.up;
          way = let a = c.way in omega arith;
          words = c.words;
          ordered = (later, c.ordered);
          phases = let a = c.phases in omega (arith, few);
          entries = c.entries;
          plain = λ p. absurd (never p);
        }

    pub insert_placed : (table : ℕ) (arguments : List Term) (rest : calculus.Process × Numbers) → (Plain → ⊥) → HasArity signature.tables table (length arguments) → AllByRecursion (IsTermBelow signature names) arguments
        → Placed names (above + 1) phase next rest → Placed names above phase now (calculus.Insert table arguments rest.0, rest.1)
    insert_placed table arguments rest never declared over h = by (at_next names (above + 1) phase rest h)
      where
        by : Placed names (above + 1) phase (counted now) rest → Placed names above phase now (calculus.Insert table arguments rest.0, rest.1)
        by c = record {
          below = (declared, over, c.below);
          counts = let a = c.counts in omega arith;
          up = c.up;
          way = let a = c.way in omega arith;
          words = c.words;
          ordered = c.ordered;
          phases = c.phases;
          entries = c.entries;
          plain = λ p. absurd (never p);
        }

    -- below a pattern, so many variables later
    at_variables : (found : List Bound) (inner : List Name) (part : calculus.Process × Numbers) → Placed inner (above + 1) phase (with_variables found next) part → Placed inner (above + 1) phase (with_variables found (counted now)) part
    at_variables found inner part h = subst (λ (m : Numbers). Placed inner (above + 1) phase (with_variables found m) part) room.is h

    pub input_placed : (channel : Term) (pattern : Pattern) (found : List Bound) (rest : calculus.Process × Numbers) → IsTermBelow signature names channel → IsPatternBelow signature names pattern
        → Placed (bound_by pattern ++ names) (above + 1) phase (with_variables found next) rest → Placed names above phase now (calculus.Input channel pattern rest.0, rest.1)
    input_placed channel pattern found rest on is h = by (at_variables found (bound_by pattern ++ names) rest h)
      where
        by : Placed (bound_by pattern ++ names) (above + 1) phase (with_variables found (counted now)) rest → Placed names above phase now (calculus.Input channel pattern rest.0, rest.1)
        by c = record {
          below = (on, is, c.below);
          counts = let a = c.counts in omega arith;
          up = let a = c.up in omega arith;
          way = let a = c.way in omega arith;
          words = c.words;
          ordered = c.ordered;
          phases = c.phases;
          entries = c.entries;
          plain = c.plain;
        }

    pub let_placed : (pattern : Pattern) (expression : Expression) (found : List Bound) (then otherwise : calculus.Process × Numbers) → IsPatternBelow signature names pattern → IsExpressionBelow signature names expression
        → Placed (bound_by pattern ++ names) (above + 1) phase (with_variables found next) then → Placed names (above + 1) phase then.1 otherwise → Placed names above phase now (calculus.Let pattern expression then.0 otherwise.0, otherwise.1)
    let_placed pattern expression found then otherwise is evaluates h k = by (at_variables found (bound_by pattern ++ names) then h)
      where
        by : Placed (bound_by pattern ++ names) (above + 1) phase (with_variables found (counted now)) then → Placed names above phase now (calculus.Let pattern expression then.0 otherwise.0, otherwise.1)
        by c = record {
          below = (is, evaluates, c.below, subst (λ (p : ℕ). IsProcessBelow signature names p otherwise.0) c.counts k.below);
          counts = let a = c.counts in let b = k.counts in let d = together then.0 otherwise.0 in omega arith;
          up = let a = c.up in let b = k.up in omega arith;
          way = let a = c.way in let b = k.way in omega arith;
          words = (c.words, k.words);
          ordered = (c.ordered, k.ordered);
          phases = let a = c.phases in let b = k.phases in omega arith;
          entries = (c.entries, k.entries);
          plain = λ p. (c.plain p, k.plain p);
        }

    pub get_placed : (table : ℕ) (patterns : List Pattern) (condition : calculus.Condition) (found : List Bound) (then otherwise : calculus.Process × Numbers) → (Plain → ⊥) → HasArity signature.tables table (length patterns)
        → length patterns ≤ most_arguments → IsRowBelow signature names patterns → IsConditionBelow signature (bound_by_row patterns ++ names) condition
        → Placed (bound_by_row patterns ++ names) (above + 1) phase (with_variables found next) then → Placed names (above + 1) phase then.1 otherwise → Placed names above phase now (calculus.Get table patterns condition then.0 otherwise.0, otherwise.1)
    get_placed table patterns condition found then otherwise never declared small is asks h k = by (at_variables found (bound_by_row patterns ++ names) then h)
      where
        by : Placed (bound_by_row patterns ++ names) (above + 1) phase (with_variables found (counted now)) then → Placed names above phase now (calculus.Get table patterns condition then.0 otherwise.0, otherwise.1)
        by c = record {
          below = (declared, is, asks, c.below, subst (λ (p : ℕ). IsProcessBelow signature names p otherwise.0) c.counts k.below);
          counts = let a = c.counts in let b = k.counts in let d = together then.0 otherwise.0 in omega arith;
          up = let a = c.up in let b = k.up in omega arith;
          way = let a = c.way in let b = k.way in omega arith;
          words = (c.words, k.words);
          ordered = (c.ordered, k.ordered);
          phases = let a = c.phases in let b = k.phases in omega arith;
          entries = (small, c.entries, k.entries);
          plain = λ p. absurd (never p);
        }

-- a row of patterns that was read, and what it binds
pub record EntryRead (signature : Signature) (outer found : List Bound) (now : Numbers) (ps : List Pattern) : Type 0 where
  pub below : IsRowBelow signature (names_of outer) ps
  pub names : names_of (found ++ outer) ≡ bound_by_row ps ++ names_of outer
  pub earlier : AreEarlier (with_variables found now) (names_of (found ++ outer))

-- a pattern that was read, and what it binds
pub record PatternRead (signature : Signature) (outer found : List Bound) (now : Numbers) (p : Pattern) : Type 0 where
  pub below : IsPatternBelow signature (names_of outer) p
  pub names : names_of (found ++ outer) ≡ bound_by p ++ names_of outer
  pub earlier : AreEarlier (with_variables found now) (names_of (found ++ outer))
