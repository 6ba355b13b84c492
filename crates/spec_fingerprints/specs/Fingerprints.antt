-- Fingerprints of facts: what stands at some positions of their terms. Facts of which two instances are the same have fingerprints that
-- may meet, so most others are told apart by their fingerprints alone (fingerprint indexing: Schulz 2012).
use Rattle.std.specs.Prelude.{ℕ, ◌+◌, ◌-◌, ◌*◌, ◌%◌, ◌^◌, nat_eq, Bool, false, ◌&&◌, Option, Some, None, option_map, List, [], ◌∷◌, map, slice_get}
use Rattle.std.specs.Option.{unwrap_or}
use Rattle.spec_trees.specs.Tree.{Leaf, Node, items_of}
use Rattle.spec_terms.specs.Term.{Sym, Ctor, Data, Tuple, Free, Point, Attacker, Term}
use Rattle.spec_clauses.specs.Fact.{Fact, Clause, terms_of}
use Rattle.spec_clauses.specs.Head.{Head, Att, Mess, Tab, Ev, Mev, Bad, head_of}
use Rattle.spec_clauses.specs.Selection.{select}
use Rattle.spec_features.specs.Features.{are_at_most}

-- What stands at a position in the instances of a term: anything, where the term has a variable there or above; nothing, where a
-- symbol above has too few arguments; or a symbol.
pub data Root : Type 0 where
  Anything : Root
  Nothing : Root
  Symbol : (f : Sym) → Root

abbrev pub root_of : Term → Root
root_of (Leaf x) = Anything
root_of (Node f args) = Symbol f

-- what stands where something was found, or was not
abbrev pub found : Option Root → Root
found root = unwrap_or root Nothing

-- what stands below a term at the end of a way, which has the number of an argument, from 0, for each level
abbrev pub root_below : List ℕ → Term → Root
root_below [] t = root_of t
root_below (i ∷ way) (Leaf x) = Anything
root_below (i ∷ way) (Node f args) = found (option_map (root_below way) (slice_get (items_of args) i))

-- and among terms, the first number of the way being that of a term
abbrev pub root_among : List ℕ → List Term → Root
root_among [] ts = Nothing
root_among (i ∷ way) ts = found (option_map (root_below way) (slice_get ts i))

-- at each of these positions
abbrev pub roots_among : List (List ℕ) → List Term → List Root
roots_among ways ts = map (λ way. root_among way ts) ways

-- the number of a symbol, of its kind and the low bits of its own number
abbrev pub number_of : Sym → ℕ
number_of (Ctor f) = (8 * f + 1) % 2 ^ 16
number_of (Data f) = (8 * f + 2) % 2 ^ 16
number_of (Tuple n) = (8 * n + 3) % 2 ^ 16
number_of (Free a) = (8 * a + 4) % 2 ^ 16
number_of (Point p) = (8 * p + 5) % 2 ^ 16
number_of Attacker = 6

-- the least and the greatest number that what stands at a position may have; where nothing stands, one that no symbol has
abbrev pub least_of : Root → ℕ
least_of Anything = 0
least_of Nothing = 0
least_of (Symbol f) = number_of f

abbrev pub most_of : Root → ℕ
most_of Anything = 2 ^ 16 - 1
most_of Nothing = 0
most_of (Symbol f) = number_of f

-- Where fingerprints look, in the first two terms of a fact: at the term, at four arguments of it, and below these at four, three, two
-- and two.
unfoldable pub positions : List (List ℕ)
positions =
    (0 ∷ [])
    ∷ (0 ∷ 0 ∷ [])
    ∷ (0 ∷ 1 ∷ [])
    ∷ (0 ∷ 2 ∷ [])
    ∷ (0 ∷ 3 ∷ [])
    ∷ (0 ∷ 0 ∷ 0 ∷ [])
    ∷ (0 ∷ 0 ∷ 1 ∷ [])
    ∷ (0 ∷ 0 ∷ 2 ∷ [])
    ∷ (0 ∷ 0 ∷ 3 ∷ [])
    ∷ (0 ∷ 1 ∷ 0 ∷ [])
    ∷ (0 ∷ 1 ∷ 1 ∷ [])
    ∷ (0 ∷ 1 ∷ 2 ∷ [])
    ∷ (0 ∷ 2 ∷ 0 ∷ [])
    ∷ (0 ∷ 2 ∷ 1 ∷ [])
    ∷ (0 ∷ 3 ∷ 0 ∷ [])
    ∷ (0 ∷ 3 ∷ 1 ∷ [])
    ∷ (1 ∷ [])
    ∷ (1 ∷ 0 ∷ [])
    ∷ (1 ∷ 1 ∷ [])
    ∷ (1 ∷ 2 ∷ [])
    ∷ (1 ∷ 3 ∷ [])
    ∷ (1 ∷ 0 ∷ 0 ∷ [])
    ∷ (1 ∷ 0 ∷ 1 ∷ [])
    ∷ (1 ∷ 0 ∷ 2 ∷ [])
    ∷ (1 ∷ 0 ∷ 3 ∷ [])
    ∷ (1 ∷ 1 ∷ 0 ∷ [])
    ∷ (1 ∷ 1 ∷ 1 ∷ [])
    ∷ (1 ∷ 1 ∷ 2 ∷ [])
    ∷ (1 ∷ 2 ∷ 0 ∷ [])
    ∷ (1 ∷ 2 ∷ 1 ∷ [])
    ∷ (1 ∷ 3 ∷ 0 ∷ [])
    ∷ (1 ∷ 3 ∷ 1 ∷ [])
    ∷ []

-- the number of a head, of its kind and of its phase, its table or its event
abbrev pub number_of_head : Head → ℕ
number_of_head (Att k) = 8 * k
number_of_head (Mess k) = 8 * k + 1
number_of_head (Tab n) = 8 * n + 2
number_of_head (Ev e) = 8 * e + 3
number_of_head (Mev e) = 8 * e + 4
number_of_head Bad = 5

-- the number of a fact's head, and at each position the least and the greatest number of what may stand there
pub record Fingerprint : Type 0 where
  pub head : ℕ
  pub least : List ℕ
  pub most : List ℕ

abbrev pub fingerprint_of : Fact Term → Fingerprint
fingerprint_of f = let roots = roots_among positions (terms_of f) in record { head = number_of_head (head_of f); least = map least_of roots; most = map most_of roots }

-- whether the heads are the same, and at each position some number may stand in both
abbrev pub may_meet : Fingerprint → Fingerprint → Bool
may_meet a b = nat_eq a.head b.head && (are_at_most a.least b.most && are_at_most b.least a.most)

-- the fingerprint of a clause's selected hypothesis, where it has one
abbrev pub hypothesis_print : Clause Term → Option Fingerprint
hypothesis_print c = option_map (λ at. fingerprint_of at.fact) (select c.hypotheses)

-- the fingerprint of the fact on which a clause is resolved: of that hypothesis, or of the conclusion of a solved clause
abbrev pub clause_print : Clause Term → Fingerprint
clause_print c = unwrap_or (hypothesis_print c) (fingerprint_of c.conclusion)

-- whether a solved clause with this fingerprint of its conclusion may have resolvents with one that has this of its hypothesis
abbrev pub may_resolve : Fingerprint → Option Fingerprint → Bool
may_resolve conclusion None = false
may_resolve conclusion (Some hypothesis) = may_meet conclusion hypothesis
