-- A fact by its parts: its head, which says all but the terms, and its terms in order.
use Rattle.std.specs.Prelude.{ℕ, Bool, true, false, nat_eq, List, ◌∷◌}
use Rattle.spec_clauses.specs.Fact.{Fact}
use Rattle.spec_clauses.specs.Fact as fact

-- the predicate, its phase where it has one, and the event or the table where there is one
pub data Head : Type 0 where
  Att : (phase : ℕ) → Head
  Mess : (phase : ℕ) → Head
  Tab : (table : ℕ) → Head
  Ev : (event : ℕ) → Head
  Mev : (event : ℕ) → Head
  Bad : Head

abbrev pub head_of : {X : Type 0} → Fact X → Head
head_of (fact.Att k t) = Att k
head_of (fact.Mess k t u) = Mess k
head_of (fact.Tab n ts) = Tab n
head_of (fact.Ev e ts) = Ev e
head_of (fact.Mev e ts) = Mev e
head_of (fact.Bad ts) = Bad

-- the fact that has these parts; terms that are too few for the head stand in `bad`
abbrev pub made_of : {X : Type 0} → Head → List X → Fact X
made_of (Att k) (t ∷ ts) = fact.Att k t
made_of (Mess k) (t ∷ u ∷ ts) = fact.Mess k t u
made_of (Tab n) ts = fact.Tab n ts
made_of (Ev e) ts = fact.Ev e ts
made_of (Mev e) ts = fact.Mev e ts
made_of _ ts = fact.Bad ts

-- whether two heads are the same
abbrev pub same_head : Head → Head → Bool
same_head (Att k) (Att l) = nat_eq k l
same_head (Mess k) (Mess l) = nat_eq k l
same_head (Tab n) (Tab m) = nat_eq n m
same_head (Ev e) (Ev g) = nat_eq e g
same_head (Mev e) (Mev g) = nat_eq e g
same_head Bad Bad = true
same_head _ _ = false

-- the symbols that a fact has besides those of its terms: its predicate, and the name of an event or a table
abbrev pub head_size : Head → ℕ
head_size (Tab n) = 2
head_size (Ev e) = 2
head_size (Mev e) = 2
head_size _ = 1
