-- How far the walk through clauses by numbers is, and the kind of their numbers.
use Rattle.std.specs.Prelude.{◌≡◌, ℕ, ◌+◌, ◌<◌, ◌≤◌, ◌⊎◌, Bool, true, false, List, [], ◌∷◌, ◌++◌}
use Rattle.spec_trees.specs.Tree.{size}
use Rattle.spec_calculus.specs.Bounds.{most_symbols}
use Rattle.spec_terms.specs.Term.{Term}
use Rattle.spec_certificate_text.specs.Sides.{holds_bound}
use Rattle.spec_certificate_text.specs.OfProtocol.{IsShort}
use Rattle.spec_certificate_text.specs.Terms.{Code, Symbol, NodeOrder, NodeLarge}
use Rattle.spec_first_faults.specs.Numbers.{numbers}
use Rattle.spec_node_tables.specs.Nodes.{term_at}
use Rattle.spec_node_tables.specs.Large.{most_certificate_symbols}
use Rattle.spec_node_faults.specs.Clauses.{is_out_of_order}
use Rattle.spec_node_reading.specs.Kinds.{KindIn}
use Rattle.spec_node_reading.specs.Numbers.{IsNumberThere}

-- the terms of the numbers so far, of all clauses, and the symbols so far, of the clause at hand and of all
pub record Walked : Type 0 where
  pub seen : List Term
  pub clause : ℕ
  pub all : ℕ

abbrev pub nothing_yet : Walked
nothing_yet = record { seen = []; clause = 0; all = 0 }

-- a further clause begins
abbrev pub next_clause : Walked → Walked
next_clause w = record { seen = w.seen; clause = 0; all = w.all }

-- so many symbols that are not in terms
abbrev pub with_signs : ℕ → Walked → Walked
with_signs signs w = record { seen = w.seen; clause = w.clause + signs; all = w.all + signs }

-- and a term
abbrev pub with_term : Term → Walked → Walked
with_term t w = record { seen = w.seen ++ (t ∷ []); clause = w.clause + size t; all = w.all + size t }

-- the number is one of the table, and the walk through its term completes the next nodes of the table, if any, and no others; and the
-- symbols up to and with the term are within both limits; outside of constraints no bound variable stands in it
pub record MayFollow (binds : Bool) (table : List Term) (w : Walked) (number : ℕ) : Type 0 where
  pub own : binds ≡ false → holds_bound (term_at table number) ≡ false
  pub in_order : is_out_of_order table w.seen number ≡ false
  pub clause : w.clause + size (term_at table number) ≤ most_symbols
  pub all : w.all + size (term_at table number) ≤ most_certificate_symbols

-- numbers that may follow one another
abbrev pub MayFollowAll : Bool → List Term → Walked → List ℕ → Type 0
MayFollowAll binds table w [] = Unit {0}
MayFollowAll binds table w (n ∷ ns) = IsShort n × MayFollow binds table w n × MayFollowAll binds table (with_term (term_at table n) w) ns

-- Symbol: a bound variable stands in the term, outside of constraints
pub record IsUnbound (binds : Bool) (table : List Term) (bytes : List ℕ) : Type 0 where
  pub outside : binds ≡ false
  pub number : ℕ
  pub rest : List ℕ
  pub there : IsNumberThere bytes number rest
  pub wrong : holds_bound (term_at table number) ≡ true

-- NodeOrder
pub record IsOutOfOrder (table : List Term) (w : Walked) (bytes : List ℕ) : Type 0 where
  pub number : ℕ
  pub rest : List ℕ
  pub there : IsNumberThere bytes number rest
  pub wrong : is_out_of_order table w.seen number ≡ true

-- NodeLarge
pub record IsTooMuch (table : List Term) (w : Walked) (bytes : List ℕ) : Type 0 where
  pub number : ℕ
  pub rest : List ℕ
  pub there : IsNumberThere bytes number rest
  pub large : (most_symbols < w.clause + size (term_at table number)) ⊎ (most_certificate_symbols < w.all + size (term_at table number))

abbrev pub TableFault : Bool → List Term → Walked → Code → List ℕ → Type 0
TableFault binds table w Symbol bytes = IsUnbound binds table bytes
TableFault binds table w NodeOrder bytes = IsOutOfOrder table w bytes
TableFault binds table w NodeLarge bytes = IsTooMuch table w bytes
TableFault binds table w code bytes = ⊥

-- the bytes are a number that may follow, and the walk has gone through its term
pub record WalksOn (binds : Bool) (table : List Term) (w : Walked) (bytes rest : List ℕ) (v : Walked) : Type 0 where
  pub number : ℕ
  pub there : IsNumberThere bytes number rest
  pub may : MayFollow binds table w number
  pub so : v ≡ with_term (term_at table number) w

-- numbers in constraints, or in facts
abbrev pub table_numbers : Bool → List Term → KindIn Walked
table_numbers binds table = record {
  Text = numbers.Text;
  Leads = WalksOn binds table;
  Fault = λ w code bytes there. numbers.Fault code bytes there ⊎ ((there ≡ bytes) × TableFault binds table w code bytes);
}
