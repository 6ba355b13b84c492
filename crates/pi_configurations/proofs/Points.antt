-- Points of threads, and of what comes after them.
use Rattle.std.proofs.Common.{◌≡◌, ℕ, zero, suc, ◌+◌, ◌≤◌, ◌⊎◌, inl, inr, List, [], ◌∷◌, ◌++◌, length, slice_get, Some, IfSome, sym, ap, subst, arith, length-append}
use Rattle.std.specs.List.{AllByRecursion}
use Rattle.spec_calculus.specs.Syntax.{Process, Nil, Output, Input, Parallel, Replication, New, Let, Event, Phase, Insert, Get, Protocol}
use Rattle.spec_calculus.specs.Points.{numbered, nodes}
use Rattle.spec_calculus.specs.Runs.{Thread, Configuration, start}
use Rattle.spec_calculus.proofs.Items.{each-slice_get, if_some-is}
use Rattle.pi_configurations.specs.declared.configurations.Conf.{Conf}
use Rattle.pi_configurations.specs.Configurations.{configuration_of, IsPointOf, IsConfigurationOf}

each-numbered : {A : Type 0} (Q : A → Type 0) (items : List A) (i : ℕ) → AllByRecursion Q items → IfSome (numbered items i) Q
each-numbered Q items zero h = tt
each-numbered Q items (suc k) h = each-slice_get Q items k h

-- the point of a thread of the protocol is there
pub thread-point : (P : Protocol) (threads : List Thread) (i : ℕ) (thread : Thread) → AllByRecursion (IsPointOf P) threads → numbered threads i ≡ Some thread → IsPointOf P thread
thread-point P threads i thread h e = if_some-is (IsPointOf P) (numbered threads i) thread (each-numbered (IsPointOf P) threads i h) e

-- a process has a node
pub nodes-some : (q : Process) → 1 ≤ length (nodes q)
nodes-some Nil = omega arith
nodes-some (Output channel message next) = omega arith
nodes-some (Input channel pattern next) = omega arith
nodes-some (Parallel left right) = omega arith
nodes-some (Replication copied) = omega arith
nodes-some (New word next) = omega arith
nodes-some (Let pattern expression next otherwise) = omega arith
nodes-some (Event performed next) = omega arith
nodes-some (Phase number next) = omega arith
nodes-some (Insert table arguments next) = omega arith
nodes-some (Get table patterns condition next otherwise) = omega arith

-- what stands there in two lists is in the one or the other
in-append : {A : Type 0} (xs ys : List A) (k : ℕ) (x : A) → slice_get (xs ++ ys) k ≡ Some x → (slice_get xs k ≡ Some x) ⊎ ((j : ℕ) × (k ≡ length xs + j) × (slice_get ys j ≡ Some x))
in-append [] ys k x h = inr (k, omega arith, h)
in-append (z ∷ xs) ys zero x h = inl h
in-append (z ∷ xs) ys (suc k) x h = later (in-append xs ys k x h)
  where
    later : (slice_get xs k ≡ Some x) ⊎ ((j : ℕ) × (k ≡ length xs + j) × (slice_get ys j ≡ Some x)) → (slice_get xs k ≡ Some x) ⊎ ((j : ℕ) × (suc k ≡ length (z ∷ xs) + j) × (slice_get ys j ≡ Some x))
    later (inl e) = inl e
    later (inr (j, e, f)) = inr (j, omega arith, f)

-- the nodes of a process that stands in another are within the other's
first : (p q : Process) → Some p ≡ Some q → length (nodes p) ≤ length (nodes p) → length (nodes q) ≤ length (nodes p)
first p q e h = let same : p ≡ q = cc in subst (λ x. length (nodes x) ≤ length (nodes p)) same h

within-two : (left right q : Process) (k : ℕ) → (slice_get (nodes left) k ≡ Some q → k + length (nodes q) ≤ length (nodes left)) → ((j : ℕ) → slice_get (nodes right) j ≡ Some q → j + length (nodes q) ≤ length (nodes right)) → (slice_get (nodes left) k ≡ Some q) ⊎ ((j : ℕ) × (k ≡ length (nodes left) + j) × (slice_get (nodes right) j ≡ Some q)) → suc k + length (nodes q) ≤ length (nodes (Parallel left right))
within-two left right q k first_part second_part (inl e) = let within = first_part e in omega (arith, within, length-append (nodes left) (nodes right))
within-two left right q k first_part second_part (inr (j, e, f)) = let within = second_part j f in omega (arith, e, within, length-append (nodes left) (nodes right))

pub nodes-within : (p q : Process) (k : ℕ) → slice_get (nodes p) k ≡ Some q → k + length (nodes q) ≤ length (nodes p)
nodes-within Nil q zero h = let e = first Nil q h (omega arith) in omega arith
nodes-within Nil q (suc k) h = cc
nodes-within (Output channel message next) q zero h = let e = first (Output channel message next) q h (omega arith) in omega arith
nodes-within (Output channel message next) q (suc k) h = let e = nodes-within next q k h in omega arith
nodes-within (Input channel pattern next) q zero h = let e = first (Input channel pattern next) q h (omega arith) in omega arith
nodes-within (Input channel pattern next) q (suc k) h = let e = nodes-within next q k h in omega arith
nodes-within (Parallel left right) q zero h = let e = first (Parallel left right) q h (omega arith) in omega arith
nodes-within (Parallel left right) q (suc k) h = within-two left right q k (nodes-within left q k) (λ j. nodes-within right q j) (in-append (nodes left) (nodes right) k q h)
nodes-within (Replication copied) q zero h = let e = first (Replication copied) q h (omega arith) in omega arith
nodes-within (Replication copied) q (suc k) h = let e = nodes-within copied q k h in omega arith
nodes-within (New word next) q zero h = let e = first (New word next) q h (omega arith) in omega arith
nodes-within (New word next) q (suc k) h = let e = nodes-within next q k h in omega arith
nodes-within (Let pattern expression next otherwise) q zero h = let e = first (Let pattern expression next otherwise) q h (omega arith) in omega arith
nodes-within (Let pattern expression next otherwise) q (suc k) h = within-two next otherwise q k (nodes-within next q k) (λ j. nodes-within otherwise q j) (in-append (nodes next) (nodes otherwise) k q h)
nodes-within (Event performed next) q zero h = let e = first (Event performed next) q h (omega arith) in omega arith
nodes-within (Event performed next) q (suc k) h = let e = nodes-within next q k h in omega arith
nodes-within (Phase number next) q zero h = let e = first (Phase number next) q h (omega arith) in omega arith
nodes-within (Phase number next) q (suc k) h = let e = nodes-within next q k h in omega arith
nodes-within (Insert table arguments next) q zero h = let e = first (Insert table arguments next) q h (omega arith) in omega arith
nodes-within (Insert table arguments next) q (suc k) h = let e = nodes-within next q k h in omega arith
nodes-within (Get table patterns condition next otherwise) q zero h = let e = first (Get table patterns condition next otherwise) q h (omega arith) in omega arith
nodes-within (Get table patterns condition next otherwise) q (suc k) h = within-two next otherwise q k (nodes-within next q k) (λ j. nodes-within otherwise q j) (in-append (nodes next) (nodes otherwise) k q h)

pub point-within : (P : Protocol) (point : ℕ) (q : Process) → numbered (nodes P.main) point ≡ Some q → point + length (nodes q) ≤ length (nodes P.main) + 1
point-within P zero q h = cc
point-within P (suc k) q h = omega (arith, nodes-within P.main q k h)

-- the start is a configuration of the protocol
pub start-of : (P : Protocol) (conf : Conf) → configuration_of conf ≡ start P → IsConfigurationOf P conf
start-of P conf e = record {
  points = subst (λ (c : Configuration). AllByRecursion (IsPointOf P) c.threads) (sym e) (((omega arith, nodes-some P.main)), tt);
  names = let zero_next : conf.next ≡ 0 = ap (λ (c : Configuration). c.next) e in omega arith;
}

-- the nodes of two processes side by side
pub nodes-append : (xs ys : List Process) → length (xs ++ ys) ≡ length xs + length ys
nodes-append xs ys = length-append xs ys

pub ruleset of_standing = (thread-point, point-within)

pub ruleset of_points = (nodes-some, nodes-append)

pub ruleset of_start = (start-of)
