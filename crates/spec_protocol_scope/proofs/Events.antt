-- Events and entries that the rules of scope give.
use Rattle.std.proofs.Common.{◌≡◌, ℕ, List, [], length, Option, None, Some, Ok, refl, subst, ◌∙◌, sym}
use Rattle.std.specs.List.{AllByRecursion}
use Rattle.spec_calculus.specs.Syntax.{Term, EventTerm}
use Rattle.spec_well_formed.specs.Terms.{HasArity, IsTermBelow, IsEventOver}
use Rattle.spec_protocol_grammar.specs.Sketch.{AtomSketch}
use Rattle.spec_protocol_scope.specs.Answers.{Kind, Unknown}
use Rattle.spec_protocol_scope.specs.Names.{signature_with, Scope, Meaning, MeansFree, MeansConstructor, MeansDestructor, MeansEvent, MeansTable, MeansMacro, look, Bound}
use Rattle.spec_protocol_scope.specs.Terms as rules
use Rattle.spec_protocol_scope.specs.Terms.{Setting, InProcess, count}
use Rattle.spec_protocol_scope.proofs.Stepped.{stepped, faulty, found_one}
use Rattle.spec_protocol_scope.proofs.Solid.{AreSolid}
use Rattle.spec_protocol_scope.proofs.Terms.{row_holds, taken}
use Rattle.spec_protocol_scope.proofs.Meanings.{is_meant}
use Rattle.spec_protocol_scope.proofs.Patterns.{names_of, AreBindable}
use Rattle.spec_protocol_scope.proofs.Known.{IsLeafIn, BindsNoFree, Over, OverRow, over}

-- an event that is named
event_arity : (s : Scope) (n given : ℕ) (m : Option Meaning) (number : ℕ) → look s n ≡ m → rules.event_named n given m ≡ Ok number → HasArity s.names.events number given
event_arity s n given None number is e = absurd (faulty Unknown n number e)
event_arity s n given (Some (MeansEvent i arity)) number is e =
    let t = taken n i arity given number e in
    let m = is_meant s.text s.names (s.text n) (MeansEvent i arity) is in
    subst (λ (j : ℕ). HasArity s.names.events j given) (sym t.1) (record { declared = m.item; stands = m.stands; is = m.is ∙ t.0 })
event_arity s n given (Some (MeansFree i)) number is e = absurd (faulty Kind n number e)
event_arity s n given (Some (MeansConstructor i arity is_data)) number is e = absurd (faulty Kind n number e)
event_arity s n given (Some (MeansDestructor i arity)) number is e = absurd (faulty Kind n number e)
event_arity s n given (Some (MeansTable i arity)) number is e = absurd (faulty Kind n number e)
event_arity s n given (Some MeansMacro) number is e = absurd (faulty Kind n number e)

-- an event, with the variables before and behind it
pub event_over : (s : Scope) (setting : Setting) → BindsNoFree setting → (v : List ℕ) (a : AtomSketch) → AreSolid a.arguments → (read : EventTerm × List ℕ) → rules.event s setting v a ≡ Ok read
    → IsEventOver (signature_with s.names) (IsLeafIn (signature_with s.names) setting) read.0
event_over s setting proper v a solid read e =
    let b = stepped (rules.event_named a.first (count a.arguments) (look s a.first)) _ read e in
    let c = stepped (rules.terms s setting v a.arguments) _ read b.later in
    let r = row_holds s setting (Over s setting) (OverRow s setting) (over s setting proper) a.arguments solid v c.value c.first in
    subst (λ (x : EventTerm × List ℕ). IsEventOver (signature_with s.names) (IsLeafIn (signature_with s.names) setting) x.0)
    (found_one (record { event = b.value; arguments = c.value.0 }, c.value.1) read c.later)
    (record {
      declared = subst (HasArity s.names.events b.value) (sym r.counts) (event_arity s a.first (count a.arguments) (look s a.first) b.value refl b.first);
      arguments = r.row;
    })

-- a table that is named
pub table_arity : (s : Scope) (n given : ℕ) (m : Option Meaning) (number : ℕ) → look s n ≡ m → rules.table_named n given m ≡ Ok number → HasArity s.names.tables number given
table_arity s n given None number is e = absurd (faulty Unknown n number e)
table_arity s n given (Some (MeansTable i arity)) number is e =
    let t = taken n i arity given number e in
    let m = is_meant s.text s.names (s.text n) (MeansTable i arity) is in
    subst (λ (j : ℕ). HasArity s.names.tables j given) (sym t.1) (record { declared = m.item; stands = m.stands; is = m.is ∙ t.0 })
table_arity s n given (Some (MeansFree i)) number is e = absurd (faulty Kind n number e)
table_arity s n given (Some (MeansConstructor i arity is_data)) number is e = absurd (faulty Kind n number e)
table_arity s n given (Some (MeansDestructor i arity)) number is e = absurd (faulty Kind n number e)
table_arity s n given (Some (MeansEvent i arity)) number is e = absurd (faulty Kind n number e)
table_arity s n given (Some MeansMacro) number is e = absurd (faulty Kind n number e)

-- an entry that is written
pub record IsEntry (s : Scope) (bound : List Bound) (read : ℕ × List Term) : Type 0 where
  pub declared : HasArity s.names.tables read.0 (length read.1)
  pub arguments : AllByRecursion (IsTermBelow (signature_with s.names) (names_of bound)) read.1

pub entry_over : (s : Scope) (bound : List Bound) → AreBindable bound → (a : AtomSketch) → AreSolid a.arguments → (read : ℕ × List Term) → rules.entry s bound a ≡ Ok read → IsEntry s bound read
entry_over s bound proper a solid read e =
    let b = stepped (rules.table_named a.first (count a.arguments) (look s a.first)) _ read e in
    let c = stepped (rules.terms s (InProcess bound) [] a.arguments) _ read b.later in
    let r = row_holds s (InProcess bound) (Over s (InProcess bound)) (OverRow s (InProcess bound)) (over s (InProcess bound) proper) a.arguments solid [] c.value c.first in
    subst (IsEntry s bound) (found_one (b.value, c.value.0) read c.later)
    (record {
      declared = subst (HasArity s.names.tables b.value) (sym r.counts) (table_arity s a.first (count a.arguments) (look s a.first) b.value refl b.first);
      arguments = r.row;
    })
