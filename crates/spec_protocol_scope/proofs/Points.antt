-- A process has no more points than the limit, and the number behind them counts them.
use Rattle.std.proofs.Common.{◌≡◌, ℕ, suc, ◌+◌, ◌≤◌, Bool, true, false, if◌then◌else◌, nat_le, List, [], ◌∷◌, ◌++◌, length, Option, Some, None, unwrap_or, Ok, refl, ap, subst, ◌∙◌, arith}
use Rattle.std.proofs.lemmas.Bool.{leb-true}
use Rattle.std.proofs.lemmas.List.{length-append}
use Rattle.std.specs.Str.{bytes_eq}
use Rattle.spec_trees.specs.Tree.{Leaf}
use Rattle.spec_trees.proofs.Equality.{and_true}
use Rattle.spec_calculus.specs.Bounds.{most_points, most_points_above}
use Rattle.spec_calculus.specs.Syntax as calculus
use Rattle.spec_calculus.specs.Points.{nodes}
use Rattle.spec_protocol_grammar.specs.Sketch.{ProcessSketch, Process, alone, beside, UnitSketch, Zero, Macro, Inner, Replicated, New, Output, Input, Happens, Let, If, Phase, Insert, Get, NextSketch, omitted, given, FileSketch}
use Rattle.spec_protocol_scope.specs.Answers.{◌>>=◌, TooMany, fault}
use Rattle.spec_protocol_scope.proofs.Stepped.{stepped, Refused, passed, faulty, found, found_one}
use Rattle.spec_protocol_scope.specs.Names as names
use Rattle.spec_protocol_scope.specs.Names.{Scope}
use Rattle.spec_protocol_scope.specs.Terms as terms
use Rattle.spec_protocol_scope.specs.Expressions as expressions
use Rattle.spec_protocol_scope.specs.Patterns as patterns
use Rattle.spec_protocol_scope.specs.Phases.{later_phase}
use Rattle.spec_protocol_scope.specs.Declarations.{declare_all}
use Rattle.spec_protocol_scope.specs.Queries.{queries}
use Rattle.spec_protocol_scope.specs.Scope.{scope, protocol_of}
use Rattle.spec_protocol_scope.specs.Processes as rules
use Rattle.spec_protocol_scope.specs.Processes.{Numbers, Site, Expansion, Macros, is_room, counted}

-- a process with its points numbered from here: the number behind them counts them, and they are no more than the limit
record Counted (now : Numbers) (read : calculus.Process × Numbers) : Type 0 where
  counts : read.1.point ≡ now.point + length (nodes read.0)
  few : read.1.point ≤ most_points + 1

-- so is what a macro stands for at each place
abbrev Counts : Expansion → Type 0
Counts e = (site : Site) (now : Numbers) (read : calculus.Process × Numbers) → e site now ≡ Ok read → Counted now read

abbrev AllCount : Macros → Type 0
AllCount macros = (word : List ℕ) (e : Expansion) → macros word ≡ Some e → Counts e

-- a point that is reached is the next one
record Reached (now next : Numbers) : Type 0 where
  is : next ≡ counted now
  few : now.point ≤ most_points

by_room : (site : Site) (now next : Numbers) → (is_room site now ≡ true) × (next ≡ counted now) → Reached now next
by_room site now next h = record { is = h.1; few = leb-true now.point most_points (and_true (nat_le now.point most_points) (nat_le site.above most_points_above) h.0).0 }

reached : (site : Site) (now : Numbers) (n : ℕ) (next : Numbers) → rules.reached site now n ≡ Ok next → Reached now next
reached site now n next e = by_room site now next (passed (is_room site now) (counted now) next (fault TooMany (unwrap_or site.used n)) (faulty TooMany (unwrap_or site.used n)) e)

crowded : (s : Scope) (macros : Macros) (u : UnitSketch) → Refused (rules.crowded s macros u)
crowded s macros (Zero n) = faulty TooMany n
crowded s macros (Macro n) = λ value e.
    let found = stepped (rules.used_macro s macros n) (λ expansion. fault TooMany n) value e in faulty TooMany n value found.later
crowded s macros (Inner n p) = faulty TooMany n
crowded s macros (Replicated n u) = faulty TooMany n
crowded s macros (New n x k) = faulty TooMany n
crowded s macros (Output n c m k) = faulty TooMany n
crowded s macros (Input n c p k) = faulty TooMany n
crowded s macros (Happens n a k) = faulty TooMany n
crowded s macros (Let n p t u k) = faulty TooMany n
crowded s macros (If n t v u k) = faulty TooMany n
crowded s macros (Phase n x k) = faulty TooMany n
crowded s macros (Insert n a k) = faulty TooMany n
crowded s macros (Get n t ps c u k) = faulty TooMany n

pub crowded_in : (s : Scope) (macros : Macros) (used : Option ℕ) (u : UnitSketch) → Refused (rules.crowded_in s macros used u)
crowded_in s macros (Some used) u = faulty TooMany used
crowded_in s macros None u = crowded s macros u

both_reached : (s : Scope) (macros : Macros) (site : Site) (now : Numbers) (u : UnitSketch) (next : Numbers) → rules.both_reached s macros site now u ≡ Ok next → Reached now next
both_reached s macros site now u next e = by_room site now next (passed (is_room site now) (counted now) next (rules.crowded_in s macros site.used u) (crowded_in s macros site.used u) e)

-- the macro that is used is one of these
pub used_macro : (s : Scope) (macros : Macros) (n : ℕ) (e : Expansion) (found : Option Expansion) → macros (s.text n) ≡ found → rules.expansion_or n (names.look s n) found ≡ Ok e → macros (s.text n) ≡ Some e
used_macro s macros n e (Some expansion) is h = is ∙ (let same = h in cc)
used_macro s macros n e None is h = absurd (let same = h in cc)

settled : (now : Numbers) (q read : calculus.Process × Numbers) → Counted now q → found q ≡ found read → Counted now read
settled now q read c e = subst (Counted now) (found_one q read e) c

-- `0` is one point
nil_counted : (now next : Numbers) → Reached now next → Counted now (calculus.Nil, next)
nil_counted now next r = record { counts = ap (λ (m : Numbers). m.point) r.is; few = omega (arith, r.few, ap (λ (m : Numbers). m.point) r.is) }

zero_counted : (site : Site) (now : Numbers) (n : ℕ) (read : calculus.Process × Numbers) → (rules.reached site now n >>= λ next. found (calculus.Nil, next)) ≡ Ok read → Counted now read
zero_counted site now n read e =
    let a = stepped (rules.reached site now n) (λ next. found (calculus.Nil, next)) read e in
    settled now (calculus.Nil, a.value) read (nil_counted now a.value (reached site now n a.value a.first)) a.later

-- one process below a point
one_below : (now next from : Numbers) (q part : calculus.Process × Numbers) → Reached now next → from.point ≡ next.point → Counted from part
    → length (nodes q.0) ≡ suc (length (nodes part.0)) → q.1 ≡ part.1 → Counted now q
one_below now next from q part r here c more end = record {
  counts = omega (arith, ap (λ (m : Numbers). m.point) r.is, here, c.counts, more, ap (λ (m : Numbers). m.point) end);
  few = omega (arith, c.few, ap (λ (m : Numbers). m.point) end);
}

-- two processes below a point
two_below : (now next from middle : Numbers) (q left right : calculus.Process × Numbers) → Reached now next → from.point ≡ next.point → Counted from left → middle ≡ left.1 → Counted middle right
    → length (nodes q.0) ≡ suc (length (nodes left.0) + length (nodes right.0)) → q.1 ≡ right.1 → Counted now q
two_below now next from middle q left right r here c between d more end = record {
  counts = omega (arith, ap (λ (m : Numbers). m.point) r.is, here, c.counts, ap (λ (m : Numbers). m.point) between, d.counts, more, ap (λ (m : Numbers). m.point) end);
  few = omega (arith, d.few, ap (λ (m : Numbers). m.point) end);
}

-- the nodes of two processes, and one above them
pub together : (p q : calculus.Process) → suc (length (nodes p ++ nodes q)) ≡ suc (length (nodes p) + length (nodes q))
together p q = ap suc (length-append (nodes p) (nodes q))

-- either this macro, or what another list has
chosen_counts : (test : Bool) (expansion : Expansion) (other : Option Expansion) (e : Expansion) → Counts expansion → (other ≡ Some e → Counts e)
    → (if test then Some expansion else other) ≡ Some e → Counts e
chosen_counts true expansion other e counts others is = subst Counts (let same = is in cc) counts
chosen_counts false expansion other e counts others is = others is

mutual
  process_counted : (s : Scope) (macros : Macros) (all : AllCount macros) (site : Site) (now : Numbers) (p : ProcessSketch) (read : calculus.Process × Numbers) → rules.process s macros site now p ≡ Ok read → Counted now read
  process_counted s macros all site now (Process u alone) read e = unit_counted s macros all site now u read e
  process_counted s macros all site now (Process u (beside p)) read e =
      let a = stepped (rules.both_reached s macros site now u) _ read e in
      let b = stepped (rules.unit s macros (rules.below site) a.value u) _ read a.later in
      let c = stepped (rules.process s macros (rules.below site) b.value.1 p) _ read b.later in
      settled now (calculus.Parallel b.value.0 c.value.0, c.value.1) read (two_below now a.value a.value b.value.1 (calculus.Parallel b.value.0 c.value.0, c.value.1) b.value c.value
      (both_reached s macros site now u a.value a.first) refl (unit_counted s macros all (rules.below site) a.value u b.value b.first) refl
      (process_counted s macros all (rules.below site) b.value.1 p c.value c.first) (together b.value.0 c.value.0) refl) c.later

  unit_counted : (s : Scope) (macros : Macros) (all : AllCount macros) (site : Site) (now : Numbers) (u : UnitSketch) (read : calculus.Process × Numbers) → rules.unit s macros site now u ≡ Ok read → Counted now read
  unit_counted s macros all site now (Zero n) read e = zero_counted site now n read e
  unit_counted s macros all site now (Macro n) read e =
      let a = stepped (rules.used_macro s macros n) _ read e in
      all (s.text n) a.value (used_macro s macros n a.value (macros (s.text n)) refl a.first) (rules.within_macro n site) now read a.later
  unit_counted s macros all site now (Inner n p) read e = process_counted s macros all site now p read e
  unit_counted s macros all site now (Replicated n u) read e =
      let a = stepped (rules.reached site now n) _ read e in
      let b = stepped (rules.unit s macros (rules.below site) a.value u) _ read a.later in
      settled now (calculus.Replication b.value.0, b.value.1) read (one_below now a.value a.value (calculus.Replication b.value.0, b.value.1) b.value
      (reached site now n a.value a.first) refl (unit_counted s macros all (rules.below site) a.value u b.value b.first) refl refl) b.later
  unit_counted s macros all site now (New n x k) read e =
      let a = stepped (rules.reached site now n) _ read e in
      let b = stepped (rules.after s macros (rules.binding (rules.made x now ∷ []) site) a.value n k) _ read a.later in
      settled now (calculus.New (s.text x) b.value.0, b.value.1) read (one_below now a.value a.value (calculus.New (s.text x) b.value.0, b.value.1) b.value
      (reached site now n a.value a.first) refl (after_counted s macros all (rules.binding (rules.made x now ∷ []) site) a.value n k b.value b.first) refl refl) b.later
  unit_counted s macros all site now (Output n c m k) read e =
      let a = stepped (rules.reached site now n) _ read e in
      let channel = stepped (terms.process_term s site.bound c) _ read a.later in
      let message = stepped (terms.process_term s site.bound m) _ read channel.later in
      let b = stepped (rules.after s macros (rules.below site) a.value n k) _ read message.later in
      settled now (calculus.Output channel.value message.value b.value.0, b.value.1) read (one_below now a.value a.value (calculus.Output channel.value message.value b.value.0, b.value.1) b.value
      (reached site now n a.value a.first) refl (after_counted s macros all (rules.below site) a.value n k b.value b.first) refl refl) b.later
  unit_counted s macros all site now (Input n c p k) read e =
      let a = stepped (rules.reached site now n) _ read e in
      let channel = stepped (terms.process_term s site.bound c) _ read a.later in
      let received = stepped (patterns.pattern s site.bound a.value.variable [] p) _ read channel.later in
      let b = stepped (rules.after s macros (rules.binding received.value.1 site) (rules.with_variables received.value.1 a.value) n k) _ read received.later in
      settled now (calculus.Input channel.value received.value.0 b.value.0, b.value.1) read (one_below now a.value (rules.with_variables received.value.1 a.value) (calculus.Input channel.value received.value.0 b.value.0, b.value.1) b.value
      (reached site now n a.value a.first) refl (after_counted s macros all (rules.binding received.value.1 site) (rules.with_variables received.value.1 a.value) n k b.value b.first) refl refl) b.later
  unit_counted s macros all site now (Happens n h k) read e =
      let a = stepped (rules.reached site now n) _ read e in
      let performed = stepped (terms.event s (terms.InProcess site.bound) [] h) _ read a.later in
      let b = stepped (rules.after s macros (rules.below site) a.value n k) _ read performed.later in
      settled now (calculus.Event performed.value.0 b.value.0, b.value.1) read (one_below now a.value a.value (calculus.Event performed.value.0 b.value.0, b.value.1) b.value
      (reached site now n a.value a.first) refl (after_counted s macros all (rules.below site) a.value n k b.value b.first) refl refl) b.later
  unit_counted s macros all site now (Let n p t u k) read e =
      let a = stepped (rules.reached site now n) _ read e in
      let matched = stepped (patterns.pattern s site.bound a.value.variable [] p) _ read a.later in
      let evaluated = stepped (expressions.expression s site.bound t) _ read matched.later in
      let b = stepped (rules.unit s macros (rules.binding matched.value.1 site) (rules.with_variables matched.value.1 a.value) u) _ read evaluated.later in
      let c = stepped (rules.after s macros (rules.below site) b.value.1 n k) _ read b.later in
      settled now (calculus.Let matched.value.0 evaluated.value b.value.0 c.value.0, c.value.1) read (two_below now a.value (rules.with_variables matched.value.1 a.value) b.value.1 (calculus.Let matched.value.0 evaluated.value b.value.0 c.value.0, c.value.1) b.value c.value
      (reached site now n a.value a.first) refl (unit_counted s macros all (rules.binding matched.value.1 site) (rules.with_variables matched.value.1 a.value) u b.value b.first) refl
      (after_counted s macros all (rules.below site) b.value.1 n k c.value c.first) (together b.value.0 c.value.0) refl) c.later
  unit_counted s macros all site now (If n t v u k) read e =
      let a = stepped (rules.reached site now n) _ read e in
      let left = stepped (terms.process_term s site.bound t) _ read a.later in
      let right = stepped (terms.process_term s site.bound v) _ read left.later in
      let b = stepped (rules.unit s macros (rules.below site) a.value u) _ read right.later in
      let c = stepped (rules.after s macros (rules.below site) b.value.1 n k) _ read b.later in
      settled now (calculus.Let (Leaf (calculus.Equal right.value)) (Leaf left.value) b.value.0 c.value.0, c.value.1) read
      (two_below now a.value a.value b.value.1 (calculus.Let (Leaf (calculus.Equal right.value)) (Leaf left.value) b.value.0 c.value.0, c.value.1) b.value c.value
      (reached site now n a.value a.first) refl (unit_counted s macros all (rules.below site) a.value u b.value b.first) refl
      (after_counted s macros all (rules.below site) b.value.1 n k c.value c.first) (together b.value.0 c.value.0) refl) c.later
  unit_counted s macros all site now (Phase n x k) read e =
      let a = stepped (rules.reached site now n) _ read e in
      let number = stepped (later_phase s.text site.phase x) _ read a.later in
      let b = stepped (rules.after s macros (rules.entering number.value site) a.value n k) _ read number.later in
      settled now (calculus.Phase number.value b.value.0, b.value.1) read (one_below now a.value a.value (calculus.Phase number.value b.value.0, b.value.1) b.value
      (reached site now n a.value a.first) refl (after_counted s macros all (rules.entering number.value site) a.value n k b.value b.first) refl refl) b.later
  unit_counted s macros all site now (Insert n h k) read e =
      let a = stepped (rules.reached site now n) _ read e in
      let written = stepped (terms.entry s site.bound h) _ read a.later in
      let b = stepped (rules.after s macros (rules.below site) a.value n k) _ read written.later in
      settled now (calculus.Insert written.value.0 written.value.1 b.value.0, b.value.1) read (one_below now a.value a.value (calculus.Insert written.value.0 written.value.1 b.value.0, b.value.1) b.value
      (reached site now n a.value a.first) refl (after_counted s macros all (rules.below site) a.value n k b.value b.first) refl refl) b.later
  unit_counted s macros all site now (Get n t ps x u k) read e =
      let a = stepped (rules.reached site now n) _ read e in
      let table = stepped (terms.table_named t (patterns.count ps) (names.look s t)) _ read a.later in
      let row = stepped (patterns.patterns s site.bound a.value.variable [] ps) _ read table.later in
      let asked = stepped (rules.condition s (row.value.1 ++ site.bound) x) _ read row.later in
      let b = stepped (rules.unit s macros (rules.binding row.value.1 site) (rules.with_variables row.value.1 a.value) u) _ read asked.later in
      let c = stepped (rules.after s macros (rules.below site) b.value.1 n k) _ read b.later in
      settled now (calculus.Get table.value row.value.0 asked.value b.value.0 c.value.0, c.value.1) read
      (two_below now a.value (rules.with_variables row.value.1 a.value) b.value.1 (calculus.Get table.value row.value.0 asked.value b.value.0 c.value.0, c.value.1) b.value c.value
      (reached site now n a.value a.first) refl (unit_counted s macros all (rules.binding row.value.1 site) (rules.with_variables row.value.1 a.value) u b.value b.first) refl
      (after_counted s macros all (rules.below site) b.value.1 n k c.value c.first) (together b.value.0 c.value.0) refl) c.later

  after_counted : (s : Scope) (macros : Macros) (all : AllCount macros) (site : Site) (now : Numbers) (n : ℕ) (k : NextSketch) (read : calculus.Process × Numbers) → rules.after s macros site now n k ≡ Ok read → Counted now read
  after_counted s macros all site now n omitted read e = zero_counted site now n read e
  after_counted s macros all site now n (given u) read e = unit_counted s macros all site now u read e

-- one macro more
with_counted : (macros : Macros) (all : AllCount macros) (name : List ℕ) (expansion : Expansion) → Counts expansion → AllCount (rules.with_macro macros name expansion)
with_counted macros all name expansion counts word e is = chosen_counts (bytes_eq name word) expansion (macros word) e counts (all word e) is

macros_counted : (s : Scope) (macros : Macros) (all : AllCount macros) (ms : List names.Macro) → AllCount (rules.macros_of s macros ms)
macros_counted s macros all [] = all
macros_counted s macros all (m ∷ ms) =
    macros_counted s (rules.with_macro macros (s.text m.name) (rules.expand s macros m))
    (with_counted macros all (s.text m.name) (rules.expand s macros m) (λ site now read e. process_counted s macros all site now m.body read e)) ms

no_macros_counted : AllCount rules.no_macros
no_macros_counted word e is = absurd (let same = is in cc)

-- the main process has no more points than the limit
pub main_points : (s : Scope) (main : ProcessSketch) (p : calculus.Process) → rules.main_process s main ≡ Ok p → length (nodes p) ≤ most_points
main_points s main p e =
    let a = stepped (rules.process s (rules.macros_of s rules.no_macros s.names.macros) (record { bound = []; above = 0; used = None; phase = 0 }) (record { point = 1; variable = 1 }) main) _ p e in
    let c = process_counted s (rules.macros_of s rules.no_macros s.names.macros) (macros_counted s rules.no_macros no_macros_counted s.names.macros) (record { bound = []; above = 0; used = None; phase = 0 }) (record { point = 1; variable = 1 }) main a.value a.first in
    subst (λ (q : calculus.Process). length (nodes q) ≤ most_points) (found_one a.value.0 p a.later) (omega (arith, c.counts, c.few))

-- and so has the main process of a protocol
pub scope_points : (text : names.Texts) (f : FileSketch) (p : calculus.Protocol) → scope text f ≡ Ok p → length (nodes p.main) ≤ most_points
scope_points text f p e =
    let a = stepped (declare_all text names.no_names f.declarations) _ p e in
    let b = stepped (rules.main_process (record { text = text; names = a.value }) f.main) _ p a.later in
    let c = stepped (queries (record { text = text; names = a.value }) b.value 0 f.declarations) _ p b.later in
    subst (λ (q : calculus.Protocol). length (nodes q.main) ≤ most_points) (found_one (protocol_of a.value b.value c.value) p c.later) (main_points (record { text = text; names = a.value }) f.main b.value b.first)
