-- The numbers of live entries, listed by the classes of the facts on which the entries are resolved.
use Rattle.std.specs.Prelude.{◌≡◌, ℕ, true, Option, Some, None, List, length}
use Rattle.spec_calculus.specs.Points.{numbered}
use Rattle.spec_fingerprints.specs.Fingerprints.{Fingerprint}
use Rattle.fact_classes.specs.declared.classes.Classes.{Classes}
use Rattle.fact_classes.specs.Classes.{class_of, listed}
use Rattle.log_entries.specs.declared.log.Entry.{Entry}
use Rattle.log_entries.specs.Numbers.{IsAmong, AreNumbersWithin, is_live_at}

-- the class of a number, by fingerprints in order
abbrev pub class_if : Option Fingerprint → Option ℕ
class_if None = None
class_if (Some p) = class_of p

abbrev pub class_at : List Fingerprint → ℕ → Option ℕ
class_at prints number = class_if (numbered prints number)

-- They are numbers of entries, ascending: of those among the numbers of live entries whose facts are in the class all, and
-- of entries that are live no more.
pub record AreOfClass (entries : List Entry) (prints : List Fingerprint) (numbers : List ℕ) (class : Option ℕ) (own : List ℕ) : Type 0 where
  pub within : AreNumbersWithin (length entries) own
  pub live : (number : ℕ) → IsAmong own number → is_live_at entries number ≡ true → IsAmong numbers number
  pub every : (number : ℕ) → IsAmong numbers number → class_at prints number ≡ class → IsAmong own number

abbrev pub AreClassed : List Entry → List Fingerprint → List ℕ → Classes → Type 0
AreClassed entries prints numbers classes = (class : Option ℕ) → AreOfClass entries prints numbers class (listed classes class)
