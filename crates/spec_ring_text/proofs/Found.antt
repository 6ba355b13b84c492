-- The words of a ring among its declared names.
use Rattle.std.proofs.Common.{◌≡◌, ℕ, ◌+◌, ◌<◌, ◌≤◌, Bool, true, false, cond, List, [], ◌∷◌, ◌++◌, Option, Some, None, inl, inr, refl, ap, ◌∙◌, arith}
use Rattle.std.specs.Prelude.{◌≢◌, zero, suc, nat_eq, codes}
use Rattle.std.specs.Fmt.{decimal}
use Rattle.std.specs.Str.{bytes_eq}
use Rattle.std.proofs.lemmas.Fmt.{decimal_injective}
use Rattle.std.proofs.lemmas.Bool.Decides.{eqb_tells}
use Rattle.std.proofs.lemmas.Slice.Eq.{bytes_eq-Decides}
use Rattle.spec_calculus.specs.Syntax.{Declared}
use Rattle.spec_protocol_scope.specs.Names.{Names, Texts, Scope, MeansFree, MeansConstructor, MeansDestructor, find_from, find_declared, meaning_of, look, is_variable}
use Rattle.spec_ring_text.specs.Text.{key}
use Rattle.spec_ring_text.specs.Meaning.{free_name, keys, encryption, decryption}

-- the names of a ring that has declared these free names
abbrev pub names_of : List Declared → Names
names_of frees = record { frees = frees; constructors = encryption ∷ []; destructors = decryption ∷ []; events = []; tables = []; macros = [] }

-- the free names before the keys, and all of them
abbrev pub two_frees : List Declared
two_frees = free_name (codes "c") true ∷ free_name (codes "s") false ∷ []

abbrev pub all_frees : ℕ → List Declared
all_frees n = two_frees ++ keys 1 n

-- the words of two keys are two
pub keys_differ : (i j : ℕ) → i < 1000 → j < 1000 → i ≢ j → bytes_eq (key i) (key j) ≡ false
keys_differ i j small_i small_j other = by (bytes_eq (decimal i) (decimal j)) refl
  where
    by : (b : Bool) → bytes_eq (decimal i) (decimal j) ≡ b → b ≡ false
    by false e = refl
    by true e = absurd (other (decimal_injective i j (omega arith) (omega arith) ((bytes_eq-Decides (decimal i) (decimal j)).0 e)))

key_equal : (i j : ℕ) → i ≡ j → bytes_eq (key i) (key j) ≡ true
key_equal i j e = (bytes_eq-Decides (key i) (key j)).1 (ap key e)

-- a word that begins with no `k` is that of no key
pub no_key : (number i m b : ℕ) (bytes : List ℕ) → nat_eq 107 b ≡ false → find_from (λ d. d.word) number (keys i m) (b ∷ bytes) ≡ None
no_key number i zero b bytes e = refl
no_key number i (suc m) b bytes e = rw e (no_key (number + 1) (i + 1) m b bytes e)

-- the first key is found or not, by whether it is the one
abbrev found_here : ℕ → ℕ → Option (ℕ × Declared) → Bool → Option (ℕ × Declared)
found_here number i other b = cond b (Some (number, free_name (key i) false)) other

-- a key is found at its place
pub key_found : (number i m j place : ℕ) → i ≤ j → j < i + m → i + m ≤ 1000 → place + i ≡ number + j → find_from (λ d. d.word) number (keys i m) (key j) ≡ Some (place, free_name (key j) false)
key_found number i zero j place low high small at = absurd (omega arith)
key_found number i (suc m) j place low high small at =
    elim (eqb_tells i j) [
      | inl h ↦ (let same : i ≡ j = h.1 in let first : number ≡ place = omega arith in
          ap (found_here number i (find_from (λ d. d.word) (number + 1) (keys (i + 1) m) (key j))) (key_equal i j same)
          ∙ (ap (λ (k : ℕ). Some (k, free_name (key i) false)) first ∙ ap (λ (k : ℕ). Some (place, free_name (key k) false)) same))
      | inr h ↦ (let other : i ≢ j = h.1 in
          ap (found_here number i (find_from (λ d. d.word) (number + 1) (keys (i + 1) m) (key j))) (keys_differ i j (omega arith) (omega arith) other)
          ∙ key_found (number + 1) (i + 1) m j place (omega arith) (omega arith) (omega arith) (omega arith))
    ]

-- what is not found stands not before a name of another word
pub not_found_before : (number : ℕ) (frees : List Declared) (d : Declared) (word : List ℕ) → find_from (λ d. d.word) number frees word ≡ None → bytes_eq d.word word ≡ false → find_from (λ d. d.word) number (frees ++ d ∷ []) word ≡ None
not_found_before number [] d word none other = rw other refl
not_found_before number (f ∷ frees) d word none other = by (bytes_eq f.word word) none (λ h. not_found_before (number + 1) frees d word h other)
  where
    by : (b : Bool) → cond b (Some (number, f)) (find_from (λ d. d.word) (number + 1) frees word) ≡ None → (find_from (λ d. d.word) (number + 1) frees word ≡ None → find_from (λ d. d.word) (number + 1) (frees ++ d ∷ []) word ≡ None) → cond b (Some (number, f)) (find_from (λ d. d.word) (number + 1) (frees ++ d ∷ []) word) ≡ None
    by true e later = absurd (let wrong = e in cc)
    by false e later = later e

-- a key that is not found means nothing
pub key_means_nothing : (T : Texts) (frees : List Declared) (i : ℕ) → find_declared frees (key i) ≡ None → meaning_of T (names_of frees) (key i) ≡ None
key_means_nothing T frees i e = rw e refl

pub key_no_variable : (digits : List ℕ) → is_variable (107 ∷ digits) ≡ false
key_no_variable [] = refl
key_no_variable (d ∷ digits) = refl

-- the scope of a ring's process
abbrev pub ring_scope : Texts → ℕ → Scope
ring_scope T n = record { text = T; names = names_of (all_frees n) }

module _ (T : Texts) (n t : ℕ) where
  pub channel_meant : T t ≡ codes "c" → look (ring_scope T n) t ≡ Some (MeansFree 1)
  channel_meant e = ap (meaning_of T (names_of (all_frees n))) e

  pub secret_meant : T t ≡ codes "s" → look (ring_scope T n) t ≡ Some (MeansFree 2)
  secret_meant e = ap (meaning_of T (names_of (all_frees n))) e

  pub encryption_meant : T t ≡ codes "enc" → look (ring_scope T n) t ≡ Some (MeansConstructor 1 2 false)
  encryption_meant e = ap (meaning_of T (names_of (all_frees n))) e ∙ rw (no_key 3 1 n 101 (codes "nc") refl) refl

  pub decryption_meant : T t ≡ codes "dec" → look (ring_scope T n) t ≡ Some (MeansDestructor 1 2)
  decryption_meant e = ap (meaning_of T (names_of (all_frees n))) e ∙ rw (no_key 3 1 n 100 (codes "ec") refl) refl

  pub key_meant : (j : ℕ) → 1 ≤ j → j ≤ n → n < 900 → T t ≡ key j → look (ring_scope T n) t ≡ Some (MeansFree (j + 2))
  key_meant j low high small e =
      ap (meaning_of T (names_of (all_frees n))) e ∙ rw (key_found 3 1 n j (j + 2) low (omega arith) (omega arith) (omega arith)) refl
