-- What is read meets the conditions, and terms of queries are made as those of rules.
use Rattle.std.proofs.Common.{◌≡◌, ℕ, ◌+◌, ◌-◌, ◌^◌, ◌≤◌, max, List, [], ◌∷◌, length, length-append, refl, ap, arith}
use Rattle.std.specs.List.{AllByRecursion}
use Rattle.spec_trees.specs.Tree.{Tree, Trees, Leaf, Node, none, more, trees, size, sizes}
use Rattle.spec_trees.specs.Leaves.{leaves, row_leaves}
use Rattle.spec_calculus.specs.Bounds.{most_written_symbols}
use Rattle.spec_calculus.specs.Tables.{row_pattern}
use Rattle.spec_calculus.specs.Syntax.{Name, Free, Made, Variable, Symbol, Constructor, Tuple, Hole, Bind, Equal, Pattern, Rule, Protocol}
use Rattle.spec_calculus.specs.Syntax as calculus
use Rattle.spec_well_formed.specs.Signature.{Signature}
use Rattle.spec_well_formed.specs.Leaves.{leaves_of, AreNumberedBehind}
use Rattle.spec_well_formed.specs.Terms.{EachSymbol, EachSymbolInRow, TakesArguments, TakesPatterns, IsTermOver, IsHoleBelow, IsPatternBelow}
use Rattle.spec_well_formed.specs.Rules.{IsVariable, rule_leaves, IsProperRule}
use Rattle.spec_well_formed.specs.WellFormed.{IsRuleOver}
use Rattle.spec_well_formed.specs.Limits.{IsSmallRule}
use Rattle.spec_clauses.proofs.Lists.{all_weaker, all_first, all_second}
use Rattle.spec_translation.specs.Conversion.{converted, rule_leaf, rule_term}
use Rattle.spec_translation.specs.Goal.{query_leaf, query_term}
use Rattle.clause_terms.specs.Conditions.{IsShort, HasShortTuples, IsShortHole, IsShortPattern, IsShortRule, IsRoomFor, HasRoomForRule}

-- what holds of each symbol and the number of its arguments
mutual
  each_weaker : {L S : Type 0} (Q R : S → ℕ → Type 0) → ((f : S) (n : ℕ) → Q f n → R f n) → (t : Tree L S) → EachSymbol Q t → EachSymbol R t
  each_weaker Q R gives (Leaf x) h = tt
  each_weaker Q R gives (Node f args) h = (gives f _ h.0, row_weaker Q R gives args h.1)

  row_weaker : {L S : Type 0} (Q R : S → ℕ → Type 0) → ((f : S) (n : ℕ) → Q f n → R f n) → (ts : Trees L S) → EachSymbolInRow Q ts → EachSymbolInRow R ts
  row_weaker Q R gives none h = tt
  row_weaker Q R gives (more t ts) h = (each_weaker Q R gives t h.0, row_weaker Q R gives ts h.1)

short_symbol : (signature : Signature) (f : Symbol) (n : ℕ) → TakesArguments signature f n → IsShort f n
short_symbol signature (Constructor c) n h = tt
short_symbol signature Tuple n h = h.1

short_pattern_symbol : (signature : Signature) (f : Symbol) (n : ℕ) → TakesPatterns signature f n → IsShort f n
short_pattern_symbol signature (Constructor c) n h = tt
short_pattern_symbol signature Tuple n h = h.1

pub short_term : (signature : Signature) (IsLeaf : Name → Type 0) (t : calculus.Term) → IsTermOver signature IsLeaf t → HasShortTuples t
short_term signature IsLeaf t over = each_weaker (TakesArguments signature) IsShort (short_symbol signature) t over.arities

pub short_terms : (signature : Signature) (IsLeaf : Name → Type 0) (ts : List calculus.Term) → AllByRecursion (IsTermOver signature IsLeaf) ts → AllByRecursion HasShortTuples ts
short_terms signature IsLeaf ts over = all_weaker (IsTermOver signature IsLeaf) HasShortTuples (short_term signature IsLeaf) ts over

short_hole : (signature : Signature) (bound : List Name) (h : Hole) → IsHoleBelow signature bound h → IsShortHole h
short_hole signature bound (Bind i) below = tt
short_hole signature bound (Equal t) below = short_term signature _ t below

pub short_pattern : (signature : Signature) (bound : List Name) (p : Pattern) → IsPatternBelow signature bound p → IsShortPattern p
short_pattern signature bound p below = record {
  tuples = each_weaker (TakesPatterns signature) IsShort (short_pattern_symbol signature) p below.arities;
  holes = all_weaker (IsHoleBelow signature bound) IsShortHole (short_hole signature bound) (leaves p) below.holes;
}

-- and so is each pattern of a row
pub short_row : (signature : Signature) (bound : List Name) (ps : List Pattern) → AllByRecursion (IsHoleBelow signature bound) (leaves (row_pattern ps)) → EachSymbolInRow (TakesPatterns signature) (trees ps) → AllByRecursion IsShortPattern ps
short_row signature bound [] holes arities = tt
short_row signature bound (p ∷ ps) holes arities = (
  record {
    tuples = each_weaker (TakesPatterns signature) IsShort (short_pattern_symbol signature) p arities.0;
    holes = all_weaker (IsHoleBelow signature bound) IsShortHole (short_hole signature bound) (leaves p) (all_first (IsHoleBelow signature bound) (leaves p) (leaves (row_pattern ps)) holes);
  },
  short_row signature bound ps (all_second (IsHoleBelow signature bound) (leaves p) (leaves (row_pattern ps)) holes) arities.1,
)

pub short_rule : (signature : Signature) (rule : Rule) → IsRuleOver signature rule → IsShortRule rule
short_rule signature rule over = record { left = short_terms signature IsVariable rule.left over.left; right = short_term signature IsVariable rule.right over.right }

-- variables that are numbered by first occurrence have no greater number than there are leaves
abbrev IsUpTo : ℕ → Name → Type 0
IsUpTo n (Free a) = Unit {0}
IsUpTo n (Made p) = Unit {0}
IsUpTo n (Variable i) = i ≤ n

numbered_up_to : (n before : ℕ) (xs : List Name) → before + length xs ≤ n → AreNumberedBehind before xs → AllByRecursion (IsUpTo n) xs
numbered_up_to n before [] few h = tt
numbered_up_to n before (Free a ∷ xs) few h = (tt, numbered_up_to n before xs (omega arith) h)
numbered_up_to n before (Made p ∷ xs) few h = (tt, numbered_up_to n before xs (omega arith) h)
numbered_up_to n before (Variable i ∷ xs) few h = let next = h.1 in (omega arith, numbered_up_to n (max before i) xs (omega arith) h.2)

mutual
  few_leaves : {L S : Type 0} (t : Tree L S) → length (leaves t) ≤ size t
  few_leaves (Leaf x) = omega arith
  few_leaves (Node f args) = omega (arith, few_row_leaves args)

  few_row_leaves : {L S : Type 0} (ts : Trees L S) → length (row_leaves ts) ≤ sizes ts
  few_row_leaves none = omega arith
  few_row_leaves (more t ts) = omega (arith, few_leaves t, few_row_leaves ts, length-append (leaves t) (row_leaves ts))

room_for : (base : ℕ) → base + most_written_symbols ≤ 2 ^ 32 → (x : Name) → IsUpTo most_written_symbols x → IsRoomFor base x
room_for base room (Free n) h = tt
room_for base room (Made p) h = tt
room_for base room (Variable i) h = omega arith

pub rule_room : (base : ℕ) (rule : Rule) → IsProperRule rule → IsSmallRule rule → base + most_written_symbols ≤ 2 ^ 32 → HasRoomForRule base rule
rule_room base rule proper small room =
    let symbols = small.symbols in
    let few : 0 + length (rule_leaves rule) ≤ most_written_symbols = omega (arith, symbols, few_row_leaves (trees rule.left), few_leaves rule.right, length-append (leaves_of rule.left) (leaves rule.right)) in
    all_weaker (IsUpTo most_written_symbols) (IsRoomFor base) (room_for base room) (rule_leaves rule) (numbered_up_to most_written_symbols 0 (rule_leaves rule) few proper.numbered)

-- a term of a query
query_leaf-rule : (x : Name) → query_leaf x ≡ rule_leaf 0 x
query_leaf-rule (Free n) = refl
query_leaf-rule (Made p) = refl
query_leaf-rule (Variable i) = let same : i - 1 ≡ 0 + (i - 1) = omega arith in ap (λ n. Leaf n) same

pub query_term-rule : (P : Protocol) (t : calculus.Term) → query_term P t ≡ rule_term P 0 t
query_term-rule P t = λ k. converted P (λ x. query_leaf-rule x k) t
