-- Forms of processes, the macros that they see, and how much of them there is to be read.
use Rattle.std.specs.Prelude.{ℕ, ◌+◌, Bool, true, false, List, [], ◌∷◌, map, take, Option}
use Rattle.spec_protocol_grammar.specs.Sketch.{ProcessSketch, Process, BesideSketch, alone, beside, UnitSketch, Zero, Macro, Inner, Replicated, New, Output, Input, Happens, Let, If, Phase, Insert, Get, NextSketch, omitted, given}
use Rattle.spec_protocol_scope.specs.Names as names
use Rattle.spec_protocol_scope.specs.Processes as rules
use Rattle.pi_parser.specs.Processes.{process_of, unit_of}
use Rattle.scope_declarations.specs.Names.{macro_of}
use Rattle.scope_declarations.specs.Bound.{bound_of}
use Rattle.scope_check.specs.Numbers.{numbers_of}
use Rattle.scope_declarations.specs.Scope.{scope_of}
use Rattle.scope_declarations.specs.declared.names.Macro.{Macro as RustMacro}
use Rattle.scope_check.specs.declared.site.Site.{Site}
use Rattle.scope_check.specs.declared.site.Form.{Form}
use Rattle.scope_check.specs.declared.site.Form.TheVariants as f

-- a form as a process
abbrev pub form_of : Form → ProcessSketch
form_of (f.Both u p) = Process (unit_of u.now) (beside (process_of p.now))
form_of (f.Unit u) = Process (unit_of u.now) alone

-- where a process stands
abbrev pub site_of : Site → rules.Site
site_of s = record { bound = bound_of s.place.bound.now; above = s.above; used = s.used; phase = s.phase }

-- what these macros stand for
abbrev pub macros_of : names.Scope → List RustMacro → rules.Macros
macros_of s items = rules.macros_of s rules.no_macros (map macro_of items)

-- the process that a sketch stands for where it sees these macros
abbrev pub reading_of : names.Scope → List RustMacro → rules.Site → rules.Numbers → ProcessSketch → rules.Numbered
reading_of s items site now p = rules.process s (macros_of s items) site now p

-- the process that a sketch stands for at a site, where it sees the macros there and gets the numbers there
abbrev pub read_at : Site → ProcessSketch → rules.Numbered
read_at site p = reading_of (scope_of site.place.scope) site.macros.now (site_of site) (numbers_of site.numbers) p

abbrev pub unit_at : Site → UnitSketch → rules.Numbered
unit_at site u = rules.unit (scope_of site.place.scope) (macros_of (scope_of site.place.scope) site.macros.now) (site_of site) (numbers_of site.numbers) u

-- and what a continuation or else branch of the unit that begins with this token stands for
abbrev pub after_at : Site → ℕ → NextSketch → rules.Numbered
after_at site first next = rules.after (scope_of site.place.scope) (macros_of (scope_of site.place.scope) site.macros.now) (site_of site) (numbers_of site.numbers) first next

-- the site with this macro use
abbrev pub used_at : Option ℕ → rules.Site → rules.Site
used_at used site = record { bound = site.bound; above = site.above; used = used; phase = site.phase }

-- what the macro at that place stands for: it sees those before it
abbrev pub expansion_at : names.Scope → List RustMacro → ℕ → RustMacro → rules.Expansion
expansion_at s items at m = rules.expand s (macros_of s (take at items)) (macro_of m)

-- whether a process begins with a point: it is no parentheses and no macro alone
abbrev pub begins : UnitSketch → BesideSketch → Bool
begins (Inner n p) alone = false
begins (Macro n) alone = false
begins u b = true

abbrev pub is_point : ProcessSketch → Bool
is_point (Process u b) = begins u b

-- how many parts a sketch has
abbrev mutual
  pub process_weight : ProcessSketch → ℕ
  process_weight (Process u b) = 1 + unit_weight u + beside_weight b

  pub beside_weight : BesideSketch → ℕ
  beside_weight alone = 0
  beside_weight (beside p) = 3 + process_weight p

  pub unit_weight : UnitSketch → ℕ
  unit_weight (Zero n) = 1
  unit_weight (Macro n) = 1
  unit_weight (Inner n p) = 2 + process_weight p
  unit_weight (Replicated n u) = 4 + unit_weight u
  unit_weight (New n x k) = 4 + next_weight k
  unit_weight (Output n c m k) = 4 + next_weight k
  unit_weight (Input n c p k) = 4 + next_weight k
  unit_weight (Happens n a k) = 4 + next_weight k
  unit_weight (Let n p t u k) = 4 + unit_weight u + next_weight k
  unit_weight (If n t v u k) = 4 + unit_weight u + next_weight k
  unit_weight (Phase n x k) = 4 + next_weight k
  unit_weight (Insert n a k) = 4 + next_weight k
  unit_weight (Get n t ps c u k) = 4 + unit_weight u + next_weight k

  pub next_weight : NextSketch → ℕ
  next_weight omitted = 1
  next_weight (given u) = 4 + unit_weight u

-- how many parts the bodies of macros have
abbrev pub macros_weight : List RustMacro → ℕ
macros_weight [] = 0
macros_weight (m ∷ ms) = 1 + process_weight (process_of m.body.now) + macros_weight ms

-- how much there is to be read at most
abbrev pub weight_of : List RustMacro → ProcessSketch → ℕ
weight_of items p = macros_weight items + process_weight p
