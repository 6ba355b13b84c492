-- Files that were read, and those that were not.
use Rattle.std.proofs.Common.{◌≡◌, ◌<◌, ◌≤◌, ◌+◌, ℕ, List, [], ◌∷◌, length, take, Option, None, Some, IfSome, inl, inr, refl, sym, ap, subst, ◌∙◌, arith}
use Rattle.std.proofs.lemmas.List.{length-take, take_all}
use Rattle.spec_calculus.specs.Bounds.{most_bytes}
use Rattle.spec_protocol_scope.specs.Spells.{LongFile}
use Rattle.hv_io.specs.Files.{Load, HoldsFirst, with_loads}
use Rattle.protocol_loading.specs.declared.loading.Unloaded.{Unloaded}
use Rattle.protocol_loading.specs.declared.loading.Unloaded.TheVariants as unloaded
use Rattle.protocol_loading.specs.declared.loading.Unread.{Unread}
use Rattle.protocol_loading.specs.declared.loading.Unread.TheVariants as unread
use Rattle.protocol_loading.specs.Codes.{refusal_by}
use Rattle.protocol_loading.specs.Outside.{Outside, OfFile, load_of}
use Rattle.protocol_loading.specs.Reading.{IsNoReading, IsNoText, IsRefusedAt, IsUnread, not_loaded}

-- what follows from what is said of a file's bytes is said too
pub of_file : (files : Outside) (name : List ℕ) (most : ℕ) (F G : List ℕ → Type 0) → ((bytes : List ℕ) → F bytes → G bytes) → OfFile files name most F → OfFile files name most G
of_file files name most F G h x = record { bytes = x.bytes; as_held = x.as_held; as_loaded = x.as_loaded; fact = h x.bytes x.fact }

-- what is said of bytes that are all of a file is said of the file
pub of_all : (files : Outside) (name : List ℕ) (most : ℕ) (F : List ℕ → Type 0) (bytes : List ℕ) → F bytes → OfFile files name most (λ all. bytes ≡ all) → OfFile files name most F
of_all files name most F bytes h = of_file files name most (λ all. bytes ≡ all) F (λ all e. subst F e h)

-- The bytes that a load gave, and those of the file.

-- bytes that are no more than one load gives are what it gives of them
given : (name : List ℕ) (most : ℕ) (bytes : List ℕ) → length bytes ≤ most + 1 → load_of name most bytes ≡ record { name = name; bytes = bytes }
given name most bytes fits = ap (λ (some : List ℕ). record { name = name; bytes = some }) (take_all (most + 1) bytes fits)

all_held : (held : Option (List ℕ)) (most : ℕ) (bytes : List ℕ) → HoldsFirst (most + 1) held bytes → length bytes ≤ most → IfSome held (λ all. bytes ≡ all)
all_held None most bytes first fits = tt
all_held (Some all) most bytes first fits =
    let counted : length bytes ≡ length (take (most + 1) all) = ap (λ (some : List ℕ). length some) first in
    first ∙ take_all (most + 1) all (omega (arith, fits, counted, length-take (most + 1) all))

pub whole_file : (files : Outside) (name : List ℕ) (most : ℕ) (bytes : List ℕ) → HoldsFirst (most + 1) (files.held name) bytes
    → files.loads_after ≡ with_loads files.loads (record { name = name; bytes = bytes } ∷ []) → length bytes ≤ most → OfFile files name most (λ all. bytes ≡ all)
whole_file files name most bytes first loaded fits = record {
  bytes = bytes;
  as_held = all_held (files.held name) most bytes first fits;
  as_loaded = loaded ∙ ap (λ (load : Load). with_loads files.loads (load ∷ [])) (sym (given name most bytes (omega (arith, fits))));
  fact = refl;
}

pub long_file : (files : Outside) (name : List ℕ) (most : ℕ) (bytes : List ℕ) → HoldsFirst (most + 1) (files.held name) bytes
    → files.loads_after ≡ with_loads files.loads (record { name = name; bytes = bytes } ∷ []) → length bytes ≤ most + 1 → most < length bytes → OfFile files name most (λ all. most < length all)
long_file files name most bytes first loaded fits more = by_held (files.held name) refl first
  where
    Is : List ℕ → Option (List ℕ) → Type 0
    Is some held = IfSome held (λ all. some ≡ all)

    by_held : (held : Option (List ℕ)) → files.held name ≡ held → HoldsFirst (most + 1) held bytes → OfFile files name most (λ all. most < length all)
    by_held None e h = record {
      bytes = bytes;
      as_held = subst (Is bytes) (sym e) tt;
      as_loaded = loaded ∙ ap (λ (load : Load). with_loads files.loads (load ∷ [])) (sym (given name most bytes fits));
      fact = more;
    }
    by_held (Some all) e h = record {
      bytes = all;
      as_held = subst (Is all) (sym e) refl;
      as_loaded = loaded ∙ ap (λ (some : List ℕ). with_loads files.loads (record { name = name; bytes = some } ∷ [])) h;
      fact = let counted : length bytes ≡ length (take (most + 1) all) = ap (λ (some : List ℕ). length some) h in omega (arith, more, counted, length-take (most + 1) all);
    }

-- A text that was not loaded leaves no protocol, and so does one in which none was read.

pub no_protocol : (files : Outside) (file : List ℕ) (why : Unloaded) → IsNoText files file most_bytes why → IsUnread files file (not_loaded why)
no_protocol files file unloaded.Failed is = is
no_protocol files file unloaded.TooLong is =
    of_file files file most_bytes (λ bytes. most_bytes < length bytes) (λ bytes. IsRefusedAt bytes LongFile 1 1) (λ bytes more. record { place = 0; refused = (more, refl); on_line = refl; in_column = refl }) is
no_protocol files file unloaded.Memory is = inr is

pub not_in : (files : Outside) (file bytes : List ℕ) (why : Unread) → IsNoReading bytes why → OfFile files file most_bytes (λ all. bytes ≡ all) → IsUnread files file why
not_in files file bytes unread.Fault is x = absurd is
not_in files file bytes (unread.Refused line column why) is x = of_all files file most_bytes (λ all. IsRefusedAt all (refusal_by why) line column) bytes is x
not_in files file bytes unread.Memory is x = inl (of_all files file most_bytes (λ all. Unit {0}) bytes tt x)
