-- Which names stand in the values of a configuration.
use Rattle.std.specs.Prelude.{◌≡◌, ℕ, Bool, false, nat_le}
use Rattle.std.specs.List.{AllByRecursion}
use Rattle.spec_trees.specs.Tree.{some_leaf}
use Rattle.spec_calculus.specs.Values.{Atom, FreeName, MadeName, AttackerName, Value, Environment}
use Rattle.spec_calculus.specs.Tables.{Held}
use Rattle.spec_calculus.specs.Runs.{Thread, At, Ended, Performed, Configuration, Step, Fresh, Make, Next}

-- no name in the value passes the test
abbrev pub Lacks : (Atom → Bool) → Value → Type 0
Lacks test v = some_leaf test v ≡ false

abbrev pub EnvironmentLacks : (Atom → Bool) → Environment → Type 0
EnvironmentLacks test environment = AllByRecursion (λ b. Lacks test b.value) environment

abbrev pub ThreadLacks : (Atom → Bool) → Thread → Type 0
ThreadLacks test (At point environment) = EnvironmentLacks test environment
ThreadLacks test Ended = Unit {0}

abbrev pub EventLacks : (Atom → Bool) → Performed → Type 0
EventLacks test performed = AllByRecursion (Lacks test) performed.arguments

abbrev pub EntryLacks : (Atom → Bool) → Held → Type 0
EntryLacks test held = AllByRecursion (Lacks test) held.arguments

-- no name in what is known, bound, performed or written passes the test
pub record IsLacking (test : Atom → Bool) (c : Configuration) : Type 0 where
  pub known : AllByRecursion (Lacks test) c.known
  pub threads : AllByRecursion (ThreadLacks test) c.threads
  pub events : AllByRecursion (EventLacks test) c.events
  pub entries : AllByRecursion (EntryLacks test) c.entries

-- whether a made name has that number or a later one; a free name has none
abbrev pub is_numbered_from : ℕ → Atom → Bool
is_numbered_from n (FreeName number) = false
is_numbered_from n (MadeName point number) = nat_le n number
is_numbered_from n (AttackerName number) = nat_le n number

-- the name that is made next stands nowhere yet
abbrev pub NextIsNew : Configuration → Type 0
NextIsNew c = IsLacking (is_numbered_from c.next) c

-- how many names a step makes
abbrev pub names_made : Step → ℕ
names_made Fresh = 1
names_made (Make i) = 1
names_made step = 0

-- how many phases begin with a step
abbrev pub phases_begun : Step → ℕ
phases_begun Next = 1
phases_begun step = 0
