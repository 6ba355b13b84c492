-- What the accessors of a protocol tell.
use Rattle.std.specs.Prelude.{ℕ, ◌^◌, ◌-◌, ◌<◌, ◌≤◌, min, Bool, false, List, [], ◌∷◌, length, Option, None, Some, option_map, option_and_then, IsTrue}
use Rattle.std.specs.Option.{option_map_or}
use Rattle.spec_calculus.specs.Syntax as calculus
use Rattle.spec_calculus.specs.Points.{numbered, nodes, is_restriction}
use Rattle.pi_tree.specs.declared.accessors.Kind.{Kind}
use Rattle.pi_tree.specs.declared.accessors.Kind.TheVariants.{Free, Ctor, Dtor, Event, Table, Query, Point}

-- a number as it is told: 2^32 - 1 where it is greater
abbrev pub capped : ℕ → ℕ
capped n = min n (2 ^ 32 - 1)

-- how many there are of the kind
abbrev pub count_of : calculus.Protocol → Kind → ℕ
count_of P Free = length P.frees
count_of P Ctor = length P.constructors
count_of P Dtor = length P.destructors
count_of P Event = length P.events
count_of P Table = length P.tables
count_of P Query = length P.queries
count_of P Point = length (nodes P.main)

-- the number is that of one of the kind, from 1
abbrev pub IsThere : calculus.Protocol → Kind → ℕ → Type 0
IsThere P kind number = (0 < number) × (number ≤ count_of P kind)

-- a restriction stands at the point
abbrev pub IsRestriction : calculus.Protocol → ℕ → Type 0
IsRestriction P point = IsTrue (option_map_or is_restriction (numbered (nodes P.main) point) false)

-- it has a word: each declared name has, and of the points a restriction
abbrev pub HasWord : calculus.Protocol → Kind → ℕ → Type 0
HasWord P Free number = Unit {0}
HasWord P Ctor number = Unit {0}
HasWord P Dtor number = Unit {0}
HasWord P Event number = Unit {0}
HasWord P Table number = Unit {0}
HasWord P Query number = ⊥
HasWord P Point number = IsRestriction P number

abbrev pub restriction_word : calculus.Process → Option (List ℕ)
restriction_word (calculus.New word next) = Some word
restriction_word other = None

abbrev pub word_of : calculus.Protocol → Kind → ℕ → Option (List ℕ)
word_of P Free number = option_map (λ d. d.word) (numbered P.frees number)
word_of P Ctor number = option_map (λ d. d.word) (numbered P.constructors number)
word_of P Dtor number = option_map (λ d. d.word) (numbered P.destructors number)
word_of P Event number = option_map (λ d. d.word) (numbered P.events number)
word_of P Table number = option_map (λ d. d.word) (numbered P.tables number)
word_of P Query number = None
word_of P Point number = option_and_then restriction_word (numbered (nodes P.main) number)

-- what is public or private: free names and constructors
abbrev pub HasPublicity : Kind → Type 0
HasPublicity Free = Unit {0}
HasPublicity Ctor = Unit {0}
HasPublicity kind = ⊥

abbrev pub publicity_of : calculus.Protocol → Kind → ℕ → Option Bool
publicity_of P Free number = option_map (λ d. d.public) (numbered P.frees number)
publicity_of P Ctor number = option_map (λ d. d.public) (numbered P.constructors number)
publicity_of P kind number = None

-- what has arguments: constructors, destructors, events and tables
abbrev pub HasArity : Kind → Type 0
HasArity Ctor = Unit {0}
HasArity Dtor = Unit {0}
HasArity Event = Unit {0}
HasArity Table = Unit {0}
HasArity kind = ⊥

-- how many arguments a destructor takes: as many as its first rule, since all have as many
abbrev pub destructor_arity : List calculus.Rule → ℕ
destructor_arity [] = 0
destructor_arity (rule ∷ rules) = capped (length rule.left)

abbrev pub arity_of : calculus.Protocol → Kind → ℕ → Option ℕ
arity_of P Ctor number = option_map (λ d. d.arity) (numbered P.constructors number)
arity_of P Dtor number = option_map (λ d. destructor_arity d.rules) (numbered P.destructors number)
arity_of P Event number = option_map (λ d. d.arity) (numbered P.events number)
arity_of P Table number = option_map (λ d. d.arity) (numbered P.tables number)
arity_of P kind number = None
