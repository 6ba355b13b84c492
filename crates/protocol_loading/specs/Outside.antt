-- What is seen of the files in a call, and what is said of the bytes of one that was read.
use Rattle.std.specs.Prelude.{◌≡◌, ℕ, ◌+◌, List, [], ◌∷◌, Option, IfSome, take}
use Rattle.hv_io.specs.Faults.{IsFaultCounted}
use Rattle.hv_io.specs.Files.{Load, with_loads}

-- what the object tells: what each name holds and, before the call and after it, the count of faults of each name and the loads that
-- gave bytes
pub record Outside : Type 0 where
  pub held : List ℕ → Option (List ℕ)
  pub faults : List ℕ → ℕ
  pub faults_after : List ℕ → ℕ
  pub loads : Option (List Load)
  pub loads_after : Option (List Load)

-- it by the meanings of the object's type, and the object before the call and after it
abbrev pub outside : {D : Type 0} → (D → List ℕ → Option (List ℕ)) → (D → List ℕ → ℕ) → (D → Option (List Load)) → D → D → Outside
outside held faults loads old new = record { held = held old; faults = faults old; faults_after = faults new; loads = loads old; loads_after = loads new }

-- a fault was counted for the name
abbrev pub IsFaulty : Outside → List ℕ → Type 0
IsFaulty files name = IsFaultCounted (files.faults name) (files.faults_after name)

-- no load gave bytes
abbrev pub IsNothingLoaded : Outside → Type 0
IsNothingLoaded files = files.loads_after ≡ files.loads

-- the load of a file that may have so many bytes: of one that has more, it gives the first of them, one more than it may have
abbrev pub load_of : List ℕ → ℕ → List ℕ → Load
load_of name most bytes = record { name = name; bytes = take (most + 1) bytes }

-- a file that may have so many bytes was read, and this is so of its bytes: where those that it holds are told, they are these, and
-- where the loads are told, one load of these was made
pub record OfFile (files : Outside) (name : List ℕ) (most : ℕ) (Fact : List ℕ → Type 0) : Type 0 where
  pub bytes : List ℕ
  pub as_held : IfSome (files.held name) (λ all. bytes ≡ all)
  pub as_loaded : files.loads_after ≡ with_loads files.loads (load_of name most bytes ∷ [])
  pub fact : Fact bytes
