-- Macros, of which the latest with a name counts.
use Rattle.std.proofs.Common.{◌≡◌, ℕ, zero, suc, ◌+◌, ◌<◌, ◌≤◌, List, [], ◌∷◌, Ok, map, take, length, get_or, refl, sym, ap, ◌∙◌, arith, add-one}
use Rattle.spec_protocol_grammar.specs.Sketch as own
use Rattle.spec_protocol_scope.specs.Answers.{Answer, ◌>>=◌, TooMany, fault}
use Rattle.spec_protocol_scope.specs.Names.{Scope}
use Rattle.spec_protocol_scope.specs.Processes as rules
use Rattle.scope_declarations.specs.declared.names.Macro.{Macro}
use Rattle.scope_declarations.specs.Names.{macro_of}
use Rattle.pi_parser.specs.Processes.{process_of}
use Rattle.scope_check.specs.Forms.{macros_of, expansion_at, process_weight, macros_weight}

-- one macro more, behind some
abbrev more : Scope → rules.Macros → Macro → rules.Macros
more s before m = rules.with_macro before (s.text m.name) (rules.expand s before (macro_of m))

from : (s : Scope) (k : rules.Macros) (ms : List Macro) (i : ℕ) (m : Macro) → i < length ms → m ≡ get_or ms i m
    → rules.macros_of s k (map macro_of (take (suc i) ms)) ≡ more s (rules.macros_of s k (map macro_of (take i ms))) m
from s k [] i m b is = absurd (omega arith)
from s k (x ∷ ms) zero m b is = ap (λ (y : Macro). more s k y) (sym is)
from s k (x ∷ ms) (suc i) m b is = from s (more s k x) ms i m (omega arith) is

-- the macros up to one of them
pub macros_up_to : (s : Scope) (ms : List Macro) (i : ℕ) (m : Macro) → i < length ms → m ≡ get_or ms i m
    → macros_of s (take (i + 1) ms) ≡ rules.with_macro (macros_of s (take i ms)) (s.text m.name) (rules.expand s (macros_of s (take i ms)) (macro_of m))
macros_up_to s ms i m b is = ap (λ (n : ℕ). macros_of s (take n ms)) (add-one i) ∙ from s rules.no_macros ms i m b is

-- a macro weighs more than those before it and its body
pub weight_up_to : (ms : List Macro) (i : ℕ) (m : Macro) → i < length ms → m ≡ get_or ms i m
    → 1 + process_weight (process_of m.body.now) + macros_weight (take i ms) ≤ macros_weight ms
weight_up_to [] i m b is = absurd (omega arith)
weight_up_to (x ∷ ms) zero m b is = omega (arith, ap (λ (y : Macro). process_weight (process_of y.body.now)) is)
weight_up_to (x ∷ ms) (suc i) m b is = let rest : 1 + process_weight (process_of m.body.now) + macros_weight (take i ms) ≤ macros_weight ms = weight_up_to ms i m (omega arith) is in omega (arith, rest)

-- a macro that is there
pub record IsThere (ms : List Macro) (i : ℕ) : Type 0 where
  pub item : Macro
  pub is : item ≡ get_or ms i item

pub there : (ms : List Macro) (i : ℕ) → i < length ms → IsThere ms i
there [] i b = absurd (omega arith)
there (m ∷ ms) zero b = record { item = m; is = refl }
there (m ∷ ms) (suc i) b = let t = there ms i (omega arith) in record { item = t.item; is = t.is }

-- a point past the limits that begins with its use
pub crowded_use : (s : Scope) (ms : List Macro) (n i : ℕ) → i < length ms → ((m : Macro) → m ≡ get_or ms i m → rules.used_macro s (macros_of s ms) n ≡ Ok (expansion_at s ms i m))
    → rules.crowded s (macros_of s ms) (own.Macro n) ≡ fault TooMany n
crowded_use s ms n i b h = let t = there ms i b in ap (λ (a : Answer rules.Expansion). a >>= λ expansion. fault TooMany n) (h t.item t.is)
