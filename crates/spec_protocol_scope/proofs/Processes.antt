-- What holds of each process that the rules of scope give.
use Rattle.std.proofs.Common.{◌≡◌, ℕ, ◌+◌, ◌≤◌, Bool, true, false, List, [], ◌∷◌, ◌++◌, length, Option, None, Some, Ok, refl, ap, subst, ◌∙◌, sym, arith, if◌then◌else◌}
use Rattle.std.specs.List.{AllByRecursion}
use Rattle.std.specs.Str.{bytes_eq}
use Rattle.std.proofs.lemmas.List.{map-append}
use Rattle.spec_trees.specs.Tree.{Leaf}
use Rattle.spec_calculus.specs.Syntax as calculus
use Rattle.spec_calculus.specs.Syntax.{Name, Pattern, Term}
use Rattle.spec_calculus.specs.Refusals.{AreUniform}
use Rattle.spec_calculus.specs.Bounds.{most_arguments}
use Rattle.spec_calculus.specs.Points.{numbered}
use Rattle.spec_calculus.proofs.Items.{each-append, each-numbered, each-weaker, if_some-is}
use Rattle.spec_well_formed.specs.Signature.{Signature}
use Rattle.spec_well_formed.specs.Leaves.{leaves, leaves_of}
use Rattle.spec_well_formed.specs.Terms.{HasArity, IsTermBelow, IsPatternBelow, IsConditionBelow, bound_by, bound_by_row}
use Rattle.spec_protocol_grammar.specs.Sketch.{PatternSketch, PatternsSketch, ConditionSketch, always, such_that, ProcessSketch, Process, alone, beside, UnitSketch, Zero, Macro, Inner, Replicated, New, Output, Input, Happens, Let, If, Phase, Insert, Get, NextSketch, omitted, given}
use Rattle.spec_protocol_scope.specs.Answers.{◌>>=◌}
use Rattle.spec_protocol_scope.specs.Names as names
use Rattle.spec_protocol_scope.specs.Names.{signature_with, Scope, Bound}
use Rattle.spec_protocol_scope.specs.Terms as terms
use Rattle.spec_protocol_scope.specs.Expressions as expressions
use Rattle.spec_protocol_scope.specs.Terms.{InProcess}
use Rattle.spec_protocol_scope.specs.Patterns as patterns
use Rattle.spec_protocol_scope.specs.Phases.{later_phase}
use Rattle.spec_protocol_scope.specs.Processes as rules
use Rattle.spec_protocol_scope.specs.Processes.{Numbers, Site, Expansion, Macros, counted, with_variables}
use Rattle.spec_protocol_scope.proofs.Stepped.{stepped, found_one}
use Rattle.spec_protocol_scope.proofs.Solid.{IsSolidPattern, AreSolidPatterns, IsSolidCondition, IsSolidProcess, IsSolidUnit, IsSolidNext}
use Rattle.spec_protocol_scope.proofs.Patterns.{names_of, AreBindable, pattern_read, patterns_read, BindsIn, binds_in-wider, term_below}
use Rattle.spec_protocol_scope.proofs.Events.{event_over, table_arity, entry_over}
use Rattle.spec_protocol_scope.proofs.Expressions.{plain_below, expression_below}
use Rattle.spec_protocol_scope.proofs.Declarations.{IsWordOf}
use Rattle.spec_protocol_scope.proofs.Phases.{phase_named}
use Rattle.spec_protocol_scope.proofs.Points.{used_macro}
use Rattle.spec_protocol_scope.proofs.Placed.{Room, room, both_room, AreEarlier, are_earlier, are_bindable, holes_new, holes_earlier, Placed, EntryRead, PatternRead, nil_placed, parallel_placed, replication_placed, new_placed, output_placed, event_placed, input_placed, phase_placed, insert_placed, let_placed, get_placed}

-- the pattern that a sketch stands for, with what it binds
pattern_placed : (s : Scope) (outer : List Bound) (now : Numbers) → AreEarlier now (names_of outer) → (p : PatternSketch) → IsSolidPattern p → (read : Pattern × List Bound)
    → patterns.pattern s outer now.variable [] p ≡ Ok read → PatternRead (signature_with s.names) outer read.1 now read.0
pattern_placed s outer now earlier p solid read e =
    let o = pattern_read s outer now.variable (are_bindable now outer earlier) p solid [] read e in
    let within : AllByRecursion (BindsIn now.variable (now.variable + length read.1)) (leaves read.0) =
    each-weaker _ _ (binds_in-wider (now.variable + length {A = Bound} []) (now.variable + length read.1) now.variable (now.variable + length read.1) (omega arith) (omega arith)) (leaves read.0) o.binds.within in
    let named : names_of (read.1 ++ outer) ≡ bound_by read.0 ++ names_of outer =
    map-append (λ b. b.name) read.1 outer ∙ ap (λ (xs : List Name). xs ++ names_of outer) o.binds.names in
    record {
      below = record { linear = o.linear; new = holes_new now (names_of outer) earlier (now.variable + length read.1) (leaves read.0) within; holes = o.binds.holes; arities = o.arities };
      names = named;
      earlier = subst (AreEarlier (with_variables read.1 now)) (sym named) (each-append _ (bound_by read.0) (names_of outer)
          (holes_earlier now.variable (with_variables read.1 now) (leaves read.0) within)
          (are_earlier now (with_variables read.1 now) (omega arith) (omega arith) (names_of outer) earlier));
    }

-- the row of patterns that sketches stand for, with what it binds
row_placed : (s : Scope) (outer : List Bound) (now : Numbers) → AreEarlier now (names_of outer) → (ps : PatternsSketch) → AreSolidPatterns ps → (read : List Pattern × List Bound)
    → patterns.patterns s outer now.variable [] ps ≡ Ok read → EntryRead (signature_with s.names) outer read.1 now read.0 × (length read.0 ≡ patterns.count ps)
row_placed s outer now earlier ps solid read e =
    let o = patterns_read s outer now.variable (are_bindable now outer earlier) ps solid [] read e in
    let within : AllByRecursion (BindsIn now.variable (now.variable + length read.1)) (leaves_of read.0) =
    each-weaker _ _ (binds_in-wider (now.variable + length {A = Bound} []) (now.variable + length read.1) now.variable (now.variable + length read.1) (omega arith) (omega arith)) (leaves_of read.0) o.row.binds.within in
    let named : names_of (read.1 ++ outer) ≡ bound_by_row read.0 ++ names_of outer =
    map-append (λ b. b.name) read.1 outer ∙ ap (λ (xs : List Name). xs ++ names_of outer) o.row.binds.names in (
      record {
        below = record { linear = o.row.linear; new = holes_new now (names_of outer) earlier (now.variable + length read.1) (leaves_of read.0) within; holes = o.row.binds.holes; arities = o.row.arities };
        names = named;
        earlier = subst (AreEarlier (with_variables read.1 now)) (sym named) (each-append _ (bound_by_row read.0) (names_of outer)
            (holes_earlier now.variable (with_variables read.1 now) (leaves_of read.0) within)
            (are_earlier now (with_variables read.1 now) (omega arith) (omega arith) (names_of outer) earlier));
      },
      o.counts,
    )

-- the terms of a condition
condition_below : (s : Scope) (bound : List Bound) → AreBindable bound → (c : ConditionSketch) → IsSolidCondition c → (x : calculus.Condition) → rules.condition s bound c ≡ Ok x → IsConditionBelow (signature_with s.names) (names_of bound) x
condition_below s bound bindable always solid x e = subst (IsConditionBelow (signature_with s.names) (names_of bound)) (found_one None x e) tt
condition_below s bound bindable (such_that t v) solid x e =
    let a = stepped (terms.process_term s bound t) _ x e in
    let b = stepped (terms.process_term s bound v) _ x a.later in
    subst (IsConditionBelow (signature_with s.names) (names_of bound)) (found_one (Some (a.value, b.value)) x b.later)
    (term_below s bound bindable t solid.0 a.value a.first, (term_below s bound bindable v solid.1 b.value b.first, tt))

-- the tables take no more terms than the limit of arguments
few_terms : (s : Scope) → AllByRecursion (λ d. d.arity ≤ most_arguments) s.names.tables → (table size : ℕ) → HasArity s.names.tables table size → size ≤ most_arguments
few_terms s small table size h =
    subst (λ (k : ℕ). k ≤ most_arguments) h.is
    (if_some-is (λ d. d.arity ≤ most_arguments) (numbered s.names.tables table) h.declared (each-numbered (λ d. d.arity ≤ most_arguments) s.names.tables table small) h.stands)

-- what is earlier at a point is earlier behind it
next_earlier : (above : ℕ) (now next : Numbers) → Room above now next → (xs : List Name) → AreEarlier now xs → AreEarlier next xs
next_earlier above now next r xs h = subst (λ (m : Numbers). AreEarlier m xs) (sym r.is) (are_earlier now (counted now) (omega arith) (omega arith) xs h)

made_earlier : (above : ℕ) (now next : Numbers) → Room above now next → (xs : List Name) → AreEarlier now xs → AreEarlier next (calculus.Made now.point ∷ xs)
made_earlier above now next r xs h = subst (λ (m : Numbers). AreEarlier m (calculus.Made now.point ∷ xs)) (sym r.is) (omega arith, are_earlier now (counted now) (omega arith) (omega arith) xs h)

module _ (s : Scope) (IsName : ℕ → Type 0) (Plain : Type 0) (uniform : AllByRecursion (λ d. AreUniform d.rules) s.names.destructors) (small : AllByRecursion (λ d. d.arity ≤ most_arguments) s.names.tables) where
  abbrev PlacedAt : List Name → (above phase : ℕ) → Numbers → calculus.Process × Numbers → Type 0
  PlacedAt xs above phase now read = Placed (signature_with s.names) (IsWordOf IsName s.text) Plain xs above phase now read

  abbrev signature : Signature
  signature = signature_with s.names

  abbrev IsWord : List ℕ → Type 0
  IsWord word = IsWordOf IsName s.text word

  -- behind a process that was placed, what was earlier is so
  behind_earlier : (xs : List Name) (above phase : ℕ) (now : Numbers) (part : calculus.Process × Numbers) → PlacedAt xs above phase now part → (ys : List Name) → AreEarlier now ys → AreEarlier part.1 ys
  behind_earlier xs above phase now part h ys earlier = are_earlier now part.1 (let c = h.counts in omega arith) h.up ys earlier

  -- so is what a macro stands for at each place
  abbrev Places : Expansion → Type 0
  Places e = (site : Site) (now : Numbers) → AreEarlier now (names_of site.bound) → (read : calculus.Process × Numbers) → e site now ≡ Ok read → PlacedAt (names_of site.bound) site.above site.phase now read

  abbrev AllPlace : Macros → Type 0
  AllPlace macros = (word : List ℕ) (e : Expansion) → macros word ≡ Some e → Places e

  zero_placed : (site : Site) (now : Numbers) (n : ℕ) (read : calculus.Process × Numbers) → (rules.reached site now n >>= λ next. Ok (calculus.Nil, next)) ≡ Ok read → PlacedAt (names_of site.bound) site.above site.phase now read
  zero_placed site now n read e =
      let a = stepped (rules.reached site now n) _ read e in
      subst (PlacedAt (names_of site.bound) site.above site.phase now) (found_one (calculus.Nil, a.value) read a.later)
      (nil_placed signature IsWord Plain (names_of site.bound) site.above site.phase now a.value (room site now n a.value a.first))

  -- `if M = N`: a `let` that compares
  compares : (xs : List Name) (t : Term) → IsTermBelow signature xs t → IsPatternBelow signature xs (Leaf (calculus.Equal t))
  compares xs t h = record { linear = tt; new = tt; holes = (h, tt); arities = tt }

  -- no variable more
  no_variables : (now : Numbers) (xs : List Name) (above phase : ℕ) (part : calculus.Process × Numbers) → PlacedAt xs above phase now part → PlacedAt xs above phase (with_variables [] now) part
  no_variables now xs above phase part h =
      record { below = h.below; counts = h.counts; up = let u = h.up in omega arith; way = h.way; words = h.words; ordered = h.ordered; phases = h.phases; entries = h.entries; plain = h.plain }

  module _ (macros : Macros) (all : AllPlace macros) where
    mutual
      process_placed : (p : ProcessSketch) → IsSolidProcess IsName Plain p → (site : Site) (now : Numbers) → AreEarlier now (names_of site.bound) → (read : calculus.Process × Numbers)
          → rules.process s macros site now p ≡ Ok read → PlacedAt (names_of site.bound) site.above site.phase now read
      process_placed (Process u alone) solid site now earlier read e = unit_placed u solid.0 site now earlier read e
      process_placed (Process u (beside p)) solid site now earlier read e =
          let a = stepped (rules.both_reached s macros site now u) _ read e in
          let b = stepped (rules.unit s macros (rules.below site) a.value u) _ read a.later in
          let c = stepped (rules.process s macros (rules.below site) b.value.1 p) _ read b.later in
          let r = both_room s macros site now u a.value a.first in
          let early = next_earlier site.above now a.value r (names_of site.bound) earlier in
          let left = unit_placed u solid.0 (rules.below site) a.value early b.value b.first in
          let right = process_placed p solid.1 (rules.below site) b.value.1 (behind_earlier (names_of site.bound) (site.above + 1) site.phase a.value b.value left (names_of site.bound) early) c.value c.first in
          subst (PlacedAt (names_of site.bound) site.above site.phase now) (found_one (calculus.Parallel b.value.0 c.value.0, c.value.1) read c.later)
          (parallel_placed signature IsWord Plain (names_of site.bound) site.above site.phase now a.value r b.value c.value left right)

      unit_placed : (u : UnitSketch) → IsSolidUnit IsName Plain u → (site : Site) (now : Numbers) → AreEarlier now (names_of site.bound) → (read : calculus.Process × Numbers)
          → rules.unit s macros site now u ≡ Ok read → PlacedAt (names_of site.bound) site.above site.phase now read
      unit_placed (Zero n) solid site now earlier read e = zero_placed site now n read e
      unit_placed (Macro n) solid site now earlier read e =
          let a = stepped (rules.used_macro s macros n) _ read e in
          all (s.text n) a.value (used_macro s macros n a.value (macros (s.text n)) refl a.first) (rules.within_macro n site) now earlier read a.later
      unit_placed (Inner n p) solid site now earlier read e = process_placed p solid site now earlier read e
      unit_placed (Replicated n u) solid site now earlier read e =
          let a = stepped (rules.reached site now n) _ read e in
          let b = stepped (rules.unit s macros (rules.below site) a.value u) _ read a.later in
          let r = room site now n a.value a.first in
          subst (PlacedAt (names_of site.bound) site.above site.phase now) (found_one (calculus.Replication b.value.0, b.value.1) read b.later)
          (replication_placed signature IsWord Plain (names_of site.bound) site.above site.phase now a.value r b.value
          (unit_placed u solid (rules.below site) a.value (next_earlier site.above now a.value r (names_of site.bound) earlier) b.value b.first))
      unit_placed (New n x k) solid site now earlier read e =
          let a = stepped (rules.reached site now n) _ read e in
          let b = stepped (rules.after s macros (rules.binding (rules.made x now ∷ []) site) a.value n k) _ read a.later in
          let r = room site now n a.value a.first in
          subst (PlacedAt (names_of site.bound) site.above site.phase now) (found_one (calculus.New (s.text x) b.value.0, b.value.1) read b.later)
          (new_placed signature IsWord Plain (names_of site.bound) site.above site.phase now a.value r (s.text x) b.value (x, solid.0, refl) earlier
          (next_placed k solid.1 (rules.binding (rules.made x now ∷ []) site) a.value n (made_earlier site.above now a.value r (names_of site.bound) earlier) b.value b.first))
      unit_placed (Output n c m k) solid site now earlier read e =
          let a = stepped (rules.reached site now n) _ read e in
          let channel = stepped (terms.process_term s site.bound c) _ read a.later in
          let message = stepped (terms.process_term s site.bound m) _ read channel.later in
          let b = stepped (rules.after s macros (rules.below site) a.value n k) _ read message.later in
          let r = room site now n a.value a.first in
          let bindable = are_bindable now site.bound earlier in
          subst (PlacedAt (names_of site.bound) site.above site.phase now) (found_one (calculus.Output channel.value message.value b.value.0, b.value.1) read b.later)
          (output_placed signature IsWord Plain (names_of site.bound) site.above site.phase now a.value r channel.value message.value b.value
          (term_below s site.bound bindable c solid.0 channel.value channel.first) (term_below s site.bound bindable m solid.1 message.value message.first)
          (next_placed k solid.2 (rules.below site) a.value n (next_earlier site.above now a.value r (names_of site.bound) earlier) b.value b.first))
      unit_placed (Input n c p k) solid site now earlier read e =
          let a = stepped (rules.reached site now n) _ read e in
          let channel = stepped (terms.process_term s site.bound c) _ read a.later in
          let received = stepped (patterns.pattern s site.bound a.value.variable [] p) _ read channel.later in
          let b = stepped (rules.after s macros (rules.binding received.value.1 site) (with_variables received.value.1 a.value) n k) _ read received.later in
          let r = room site now n a.value a.first in
          let early = next_earlier site.above now a.value r (names_of site.bound) earlier in
          let q = pattern_placed s site.bound a.value early p solid.1 received.value received.first in
          subst (PlacedAt (names_of site.bound) site.above site.phase now) (found_one (calculus.Input channel.value received.value.0 b.value.0, b.value.1) read b.later)
          (input_placed signature IsWord Plain (names_of site.bound) site.above site.phase now a.value r channel.value received.value.0 received.value.1 b.value
          (term_below s site.bound (are_bindable now site.bound earlier) c solid.0 channel.value channel.first) q.below
          (subst (λ (xs : List Name). PlacedAt xs (site.above + 1) site.phase (with_variables received.value.1 a.value) b.value) q.names
          (next_placed k solid.2 (rules.binding received.value.1 site) (with_variables received.value.1 a.value) n q.earlier b.value b.first)))
      unit_placed (Happens n h k) solid site now earlier read e =
          let a = stepped (rules.reached site now n) _ read e in
          let performed = stepped (terms.event s (InProcess site.bound) [] h) _ read a.later in
          let b = stepped (rules.after s macros (rules.below site) a.value n k) _ read performed.later in
          let r = room site now n a.value a.first in
          subst (PlacedAt (names_of site.bound) site.above site.phase now) (found_one (calculus.Event performed.value.0 b.value.0, b.value.1) read b.later)
          (event_placed signature IsWord Plain (names_of site.bound) site.above site.phase now a.value r performed.value.0 b.value
          (event_over s (InProcess site.bound) (are_bindable now site.bound earlier) [] h solid.0 performed.value performed.first)
          (next_placed k solid.1 (rules.below site) a.value n (next_earlier site.above now a.value r (names_of site.bound) earlier) b.value b.first))
      unit_placed (Let n p t u k) solid site now earlier read e =
          let a = stepped (rules.reached site now n) _ read e in
          let matched = stepped (patterns.pattern s site.bound a.value.variable [] p) _ read a.later in
          let evaluated = stepped (expressions.expression s site.bound t) _ read matched.later in
          let b = stepped (rules.unit s macros (rules.binding matched.value.1 site) (with_variables matched.value.1 a.value) u) _ read evaluated.later in
          let c = stepped (rules.after s macros (rules.below site) b.value.1 n k) _ read b.later in
          let r = room site now n a.value a.first in
          let early = next_earlier site.above now a.value r (names_of site.bound) earlier in
          let q = pattern_placed s site.bound a.value early p solid.0 matched.value matched.first in
          let first = unit_placed u solid.2 (rules.binding matched.value.1 site) (with_variables matched.value.1 a.value) q.earlier b.value b.first in
          let behind = behind_earlier (names_of (matched.value.1 ++ site.bound)) (site.above + 1) site.phase (with_variables matched.value.1 a.value) b.value first (names_of site.bound)
          (are_earlier a.value (with_variables matched.value.1 a.value) (omega arith) (omega arith) (names_of site.bound) early) in
          subst (PlacedAt (names_of site.bound) site.above site.phase now) (found_one (calculus.Let matched.value.0 evaluated.value b.value.0 c.value.0, c.value.1) read c.later)
          (let_placed signature IsWord Plain (names_of site.bound) site.above site.phase now a.value r matched.value.0 evaluated.value matched.value.1 b.value c.value q.below
          (expression_below s uniform site.bound (are_bindable now site.bound earlier) t solid.1 evaluated.value evaluated.first)
          (subst (λ (xs : List Name). PlacedAt xs (site.above + 1) site.phase (with_variables matched.value.1 a.value) b.value) q.names first)
          (next_placed k solid.3 (rules.below site) b.value.1 n behind c.value c.first))
      unit_placed (If n t v u k) solid site now earlier read e =
          let a = stepped (rules.reached site now n) _ read e in
          let left = stepped (terms.process_term s site.bound t) _ read a.later in
          let right = stepped (terms.process_term s site.bound v) _ read left.later in
          let b = stepped (rules.unit s macros (rules.below site) a.value u) _ read right.later in
          let c = stepped (rules.after s macros (rules.below site) b.value.1 n k) _ read b.later in
          let r = room site now n a.value a.first in
          let early = next_earlier site.above now a.value r (names_of site.bound) earlier in
          let bindable = are_bindable now site.bound earlier in
          let first = unit_placed u solid.2 (rules.below site) a.value early b.value b.first in
          let behind = behind_earlier (names_of site.bound) (site.above + 1) site.phase a.value b.value first (names_of site.bound) early in
          subst (PlacedAt (names_of site.bound) site.above site.phase now) (found_one (calculus.Let (Leaf (calculus.Equal right.value)) (Leaf left.value) b.value.0 c.value.0, c.value.1) read c.later)
          (let_placed signature IsWord Plain (names_of site.bound) site.above site.phase now a.value r (Leaf (calculus.Equal right.value)) (Leaf left.value) [] b.value c.value
          (compares (names_of site.bound) right.value (term_below s site.bound bindable v solid.1 right.value right.first))
          (plain_below signature (names_of site.bound) left.value (term_below s site.bound bindable t solid.0 left.value left.first)) (no_variables a.value (names_of site.bound) (site.above + 1) site.phase b.value first)
          (next_placed k solid.3 (rules.below site) b.value.1 n behind c.value c.first))
      unit_placed (Phase n x k) solid site now earlier read e =
          let a = stepped (rules.reached site now n) _ read e in
          let number = stepped (later_phase s.text site.phase x) _ read a.later in
          let b = stepped (rules.after s macros (rules.entering number.value site) a.value n k) _ read number.later in
          let r = room site now n a.value a.first in
          let later = phase_named s.text site.phase x number.value number.first in
          subst (PlacedAt (names_of site.bound) site.above site.phase now) (found_one (calculus.Phase number.value b.value.0, b.value.1) read b.later)
          (phase_placed signature IsWord Plain (names_of site.bound) site.above site.phase now a.value r number.value b.value solid.0 later.0 later.1
          (next_placed k solid.1 (rules.entering number.value site) a.value n (next_earlier site.above now a.value r (names_of site.bound) earlier) b.value b.first))
      unit_placed (Insert n h k) solid site now earlier read e =
          let a = stepped (rules.reached site now n) _ read e in
          let written = stepped (terms.entry s site.bound h) _ read a.later in
          let b = stepped (rules.after s macros (rules.below site) a.value n k) _ read written.later in
          let r = room site now n a.value a.first in
          let entry = entry_over s site.bound (are_bindable now site.bound earlier) h solid.1 written.value written.first in
          subst (PlacedAt (names_of site.bound) site.above site.phase now) (found_one (calculus.Insert written.value.0 written.value.1 b.value.0, b.value.1) read b.later)
          (insert_placed signature IsWord Plain (names_of site.bound) site.above site.phase now a.value r written.value.0 written.value.1 b.value solid.0 entry.declared entry.arguments
          (next_placed k solid.2 (rules.below site) a.value n (next_earlier site.above now a.value r (names_of site.bound) earlier) b.value b.first))
      unit_placed (Get n t ps x u k) solid site now earlier read e =
          let a = stepped (rules.reached site now n) _ read e in
          let table = stepped (terms.table_named t (patterns.count ps) (names.look s t)) _ read a.later in
          let row = stepped (patterns.patterns s site.bound a.value.variable [] ps) _ read table.later in
          let asked = stepped (rules.condition s (row.value.1 ++ site.bound) x) _ read row.later in
          let b = stepped (rules.unit s macros (rules.binding row.value.1 site) (with_variables row.value.1 a.value) u) _ read asked.later in
          let c = stepped (rules.after s macros (rules.below site) b.value.1 n k) _ read b.later in
          let r = room site now n a.value a.first in
          let early = next_earlier site.above now a.value r (names_of site.bound) earlier in
          let q = row_placed s site.bound a.value early ps solid.1 row.value row.first in
          let declared = subst (HasArity s.names.tables table.value) (sym q.1) (table_arity s t (patterns.count ps) (names.look s t) table.value refl table.first) in
          let asks = condition_below s (row.value.1 ++ site.bound) (are_bindable (with_variables row.value.1 a.value) (row.value.1 ++ site.bound) q.0.earlier) x solid.2 asked.value asked.first in
          let first = unit_placed u solid.3 (rules.binding row.value.1 site) (with_variables row.value.1 a.value) q.0.earlier b.value b.first in
          let behind = behind_earlier (names_of (row.value.1 ++ site.bound)) (site.above + 1) site.phase (with_variables row.value.1 a.value) b.value first (names_of site.bound)
          (are_earlier a.value (with_variables row.value.1 a.value) (omega arith) (omega arith) (names_of site.bound) early) in
          subst (PlacedAt (names_of site.bound) site.above site.phase now) (found_one (calculus.Get table.value row.value.0 asked.value b.value.0 c.value.0, c.value.1) read c.later)
          (get_placed signature IsWord Plain (names_of site.bound) site.above site.phase now a.value r table.value row.value.0 asked.value row.value.1 b.value c.value solid.0 declared
          (few_terms s small table.value (length row.value.0) declared) q.0.below
          (subst (λ (xs : List Name). IsConditionBelow signature xs asked.value) q.0.names asks)
          (subst (λ (xs : List Name). PlacedAt xs (site.above + 1) site.phase (with_variables row.value.1 a.value) b.value) q.0.names first)
          (next_placed k solid.4 (rules.below site) b.value.1 n behind c.value c.first))

      next_placed : (k : NextSketch) → IsSolidNext IsName Plain k → (site : Site) (now : Numbers) (n : ℕ) → AreEarlier now (names_of site.bound) → (read : calculus.Process × Numbers)
          → rules.after s macros site now n k ≡ Ok read → PlacedAt (names_of site.bound) site.above site.phase now read
      next_placed omitted solid site now n earlier read e = zero_placed site now n read e
      next_placed (given u) solid site now n earlier read e = unit_placed u solid site now earlier read e

  -- either this macro, or what another list has
  chosen_places : (test : Bool) (expansion : Expansion) (other : Option Expansion) (e : Expansion) → Places expansion → (other ≡ Some e → Places e)
      → (if test then Some expansion else other) ≡ Some e → Places e
  chosen_places true expansion other e places others is = subst Places (let same = is in cc) places
  chosen_places false expansion other e places others is = others is

  macros_placed : (ms : List names.Macro) → AllByRecursion (λ m. IsSolidProcess IsName Plain m.body) ms → (macros : Macros) → AllPlace macros → AllPlace (rules.macros_of s macros ms)
  macros_placed [] solid macros all = all
  macros_placed (m ∷ ms) solid macros all = macros_placed ms solid.1 (rules.with_macro macros (s.text m.name) (rules.expand s macros m))
      (λ word e is. chosen_places (bytes_eq (s.text m.name) word) (rules.expand s macros m) (macros word) e
      (λ site now earlier read h. process_placed macros all m.body solid.0 site now earlier read h) (all word e) is)

  -- the main process, with nothing bound
  pub main_placed : AllByRecursion (λ m. IsSolidProcess IsName Plain m.body) s.names.macros → (main : ProcessSketch) → IsSolidProcess IsName Plain main → (p : calculus.Process) → rules.main_process s main ≡ Ok p
      → (behind : Numbers) × PlacedAt [] 0 0 (record { point = 1; variable = 1 }) (p, behind)
  main_placed solid main solid_main p e =
      let a = stepped (rules.process s (rules.macros_of s rules.no_macros s.names.macros) (record { bound = []; above = 0; used = None; phase = 0 }) (record { point = 1; variable = 1 }) main) _ p e in
      let h = process_placed (rules.macros_of s rules.no_macros s.names.macros) (macros_placed s.names.macros solid rules.no_macros (λ word x is. absurd (let same = is in cc)))
      main solid_main (record { bound = []; above = 0; used = None; phase = 0 }) (record { point = 1; variable = 1 }) tt a.value a.first in
      (a.value.1, subst (λ (q : calculus.Process). PlacedAt [] 0 0 (record { point = 1; variable = 1 }) (q, a.value.1)) (found_one a.value.0 p a.later) h)
