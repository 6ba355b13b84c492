-- Classes of facts, by what stands at some positions of their terms, of which facts of two classes never meet; and numbers that
-- are listed by classes.
use Rattle.std.specs.Prelude.{◌≡◌, ℕ, ◌+◌, ◌*◌, ◌%◌, Bool, ◌&&◌, nat_eq, cond, Option, Some, None, List, [], ◌∷◌, ◌++◌, map, get_or}
use Rattle.spec_fingerprints.specs.Fingerprints.{Fingerprint}
use Rattle.fact_classes.specs.declared.classes.Classes.{Classes}

-- whether one number alone may stand at a position
abbrev pub is_told_at : Fingerprint → ℕ → Bool
is_told_at p i = nat_eq (get_or p.least i 0) (get_or p.most i 0)

-- whether it is told what stands at the roots of the first two terms, and of their second arguments
abbrev pub are_told : Fingerprint → Bool
are_told p = ((is_told_at p 0 && is_told_at p 2) && is_told_at p 16) && is_told_at p 18

-- the class of facts with the fingerprint, if that is told: a remainder of a sum of these numbers
abbrev pub mixed : Fingerprint → ℕ
mixed p = ((get_or p.least 0 0 + 5 * get_or p.least 16 0) + (3 * get_or p.least 2 0 + 7 * get_or p.least 18 0)) % 251

abbrev pub class_of : Fingerprint → Option ℕ
class_of p = cond (are_told p) (Some (mixed p)) None

-- the numbers that are listed of a class, or of none
abbrev pub listed : Classes → Option ℕ → List ℕ
listed classes None = classes.rest.items
listed classes (Some class) = get_or (map (λ l. l.items) classes.lists.items) class []

-- nothing is listed; the same is listed
pub record IsEmptyClasses (classes : Classes) : Type 0 where
  pub lists : classes.lists.items ≡ []
  pub rest : classes.rest.items ≡ []

pub record AreSameClasses (old new : Classes) : Type 0 where
  pub lists : map (λ l. l.items) new.lists.items ≡ map (λ l. l.items) old.lists.items
  pub rest : new.rest.items ≡ old.rest.items

-- the number stands at the end of the list of the class, and all else is the same
pub record IsClassListed (class : Option ℕ) (number : ℕ) (old new : Classes) : Type 0 where
  pub here : listed new class ≡ listed old class ++ number ∷ []
  pub elsewhere : (other : Option ℕ) → (other ≡ class → ⊥) → listed new other ≡ listed old other
