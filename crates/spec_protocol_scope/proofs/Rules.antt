-- The rules of destructors that the rules of scope give.
use Rattle.std.proofs.Common.{◌≡◌, ℕ, ◌+◌, ◌≤◌, nat_le, List, [], ◌++◌, length, Ok, subst, sym}
use Rattle.std.specs.List.{AllByRecursion}
use Rattle.std.proofs.lemmas.Bool.{leb-true}
use Rattle.spec_trees.specs.Tree.{trees, size, sizes}
use Rattle.spec_trees.proofs.Equality.{and_true}
use Rattle.spec_calculus.specs.Bounds.{most_arguments, most_written_symbols}
use Rattle.spec_calculus.specs.Syntax.{Name, Term}
use Rattle.spec_calculus.specs.Syntax as calculus
use Rattle.spec_calculus.proofs.Items.{each-append}
use Rattle.spec_well_formed.specs.Leaves.{leaves, leaves_of}
use Rattle.spec_well_formed.specs.Rules.{IsVariable, IsProperRule}
use Rattle.spec_well_formed.specs.Terms.{IsTermOver}
use Rattle.spec_well_formed.specs.Limits.{IsSmallRule}
use Rattle.spec_well_formed.specs.WellFormed.{IsRuleOver}
use Rattle.spec_protocol_grammar.specs.Sketch.{RuleSketch}
use Rattle.spec_protocol_scope.specs.Names.{signature_with, Scope}
use Rattle.spec_protocol_scope.specs.Terms as rules
use Rattle.spec_protocol_scope.specs.Terms.{OnLeft, OnRight, count}
use Rattle.spec_protocol_scope.specs.Declarations as declarations
use Rattle.spec_protocol_scope.proofs.Stepped.{stepped, kept}
use Rattle.spec_protocol_scope.proofs.Solid.{IsSolid, AreSolid}
use Rattle.spec_protocol_scope.proofs.Terms.{term_holds, row_holds}
use Rattle.spec_protocol_scope.proofs.Numbering.{Leads, leads-append, leads_numbered, leads_up_to, IsUpTo, closed_up_to}
use Rattle.spec_protocol_scope.proofs.Leaves.{Leading, LeadingRow, leading, Unchanged, UnchangedRow, unchanging}
use Rattle.spec_protocol_scope.proofs.Known.{Over, OverRow, over, rows_known}

-- a rule as it should be, with so many arguments
pub record Ruled (s : Scope) (given : ℕ) (rule : calculus.Rule) : Type 0 where
  pub proper : IsProperRule rule
  pub over : IsRuleOver (signature_with s.names) rule
  pub small : IsSmallRule rule
  pub counts : length rule.left ≡ given

-- the rule of two sides that were read
module _ (s : Scope) (left : List Term) (right : Term) (v w : List ℕ) where
  abbrev made : calculus.Rule
  made = record { left = left; right = right }

  proper_rule : Leads 0 (leaves_of left) (length v) → Leads (length v) (leaves right) (length w) → v ≡ w
      → AllByRecursion (IsTermOver (signature_with s.names) IsVariable) left → IsTermOver (signature_with s.names) IsVariable right → IsProperRule made
  proper_rule l r same lefts over_right = record {
    variables = each-append IsVariable (leaves_of left) (leaves right) (rows_known (signature_with s.names) IsVariable left lefts) over_right.known;
    numbered = leads_numbered (leaves_of left ++ leaves right) 0 (length w) (leads-append (leaves_of left) (leaves right) 0 (length v) (length w) l r);
    closed = closed_up_to made (length v) l over_right.known (subst (λ (u : List ℕ). AllByRecursion (IsUpTo (length u)) (leaves right)) (sym same) (leads_up_to (leaves right) (length v) (length w) r));
  }

pub ruled : (s : Scope) (r : RuleSketch) → AreSolid r.arguments → IsSolid r.result → (rule : calculus.Rule) → declarations.rule s r ≡ Ok rule → Ruled s (count r.arguments) rule
ruled s r arguments result rule e =
    let a = stepped (rules.terms s OnLeft [] r.arguments) _ rule e in
    let b = stepped (rules.term s OnRight a.value.1 r.result) _ rule a.later in
    let k = kept _ r.first (made s a.value.0 b.value.0 a.value.1 b.value.1) rule b.later in
    let both = and_true (nat_le (count r.arguments) most_arguments) (nat_le (1 + sizes (trees a.value.0) + size b.value.0) most_written_symbols) k.0 in
    let l = row_holds s OnLeft Leading LeadingRow (leading s OnLeft tt) r.arguments arguments [] a.value a.first in
    let r' = term_holds s OnRight Leading LeadingRow (leading s OnRight tt) r.result result a.value.1 b.value b.first in
    let same = term_holds s OnRight Unchanged UnchangedRow (unchanging s) r.result result a.value.1 b.value b.first in
    let lefts = row_holds s OnLeft (Over s OnLeft) (OverRow s OnLeft) (over s OnLeft tt) r.arguments arguments [] a.value a.first in
    let over_right = term_holds s OnRight (Over s OnRight) (OverRow s OnRight) (over s OnRight tt) r.result result a.value.1 b.value b.first in
    subst (Ruled s (count r.arguments)) (sym k.1) (record {
      proper = proper_rule s a.value.0 b.value.0 a.value.1 b.value.1 l.row r' same lefts.row over_right;
      over = record { left = lefts.row; right = over_right };
      small = record {
        arguments = subst (λ (n : ℕ). n ≤ most_arguments) (sym l.counts) (leb-true (count r.arguments) most_arguments both.0);
        symbols = leb-true (1 + sizes (trees a.value.0) + size b.value.0) most_written_symbols both.1;
      };
      counts = l.counts;
    })
