-- The keys of offers: triples in dictionary order, which say when a clause is offered to the log.
use Rattle.std.specs.Prelude.{ℕ, Bool, ◌&&◌, ◌||◌, nat_eq, nat_lt, List, filter}
use Rattle.spec_terms.specs.Term.{Term}
use Rattle.spec_clauses.specs.Fact.{Clause}

-- the later entry of a pair, the earlier one, and the number of the resolvent; of a given clause 0, 0 and its number
pub record Key : Type 0 where
  pub major : ℕ
  pub minor : ℕ
  pub number : ℕ

abbrev pub key : ℕ → ℕ → ℕ → Key
key major minor number = record { major = major; minor = minor; number = number }

-- whether the first key comes before the second in dictionary order
abbrev pub is_before : Key → Key → Bool
is_before a b = nat_lt a.major b.major || (nat_eq a.major b.major && (nat_lt a.minor b.minor || (nat_eq a.minor b.minor && nat_lt a.number b.number)))

-- an entry of the log: a clause and the key at which it was offered
pub record Entry : Type 0 where
  pub key : Key
  pub clause : Clause Term

-- the entries with keys before k
abbrev pub below : Key → List Entry → List Entry
below k log = filter (λ e. is_before e.key k) log
