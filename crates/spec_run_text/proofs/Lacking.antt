-- No space stands in a word or in a number.
use Rattle.std.proofs.Common.{◌≡◌, ℕ, ◌<◌, true, false, List, [], ◌∷◌, map, refl, arith}
use Rattle.std.specs.Prelude.{◌==◌, nat_lt}
use Rattle.std.specs.List.{AllByRecursion, list_all}
use Rattle.std.specs.Str.{all_ascii_digits}
use Rattle.std.specs.Fmt.{decimal}
use Rattle.std.proofs.lemmas.Bool.Decides.{nat_tests}
use Rattle.spec_calculus.specs.Runs.{Step, Build, Reduce, Part, Fresh, Split, Copy, Make, Pass, Hear, Say, Take, Fail, Mark, Next, Put, Fetch, Miss}
use Rattle.spec_run_text.specs.Spelling.{word_of, IsSmall}
use Rattle.spec_run_text.proofs.Numbers.{decimal_is_numeral}
use Rattle.spec_run_text.proofs.Fields.{Lacks}

-- what is below the small letters stands in no row of them
Lacks-letters : (b : ℕ) (xs : List ℕ) → b < 97 → list_all (λ x. nat_lt 96 x) xs ≡ true → Lacks b xs
Lacks-letters b [] low h = tt
Lacks-letters b (x ∷ xs) low h =
    let here : x == b ≡ false = grind (arith, nat_tests) in
    let later : list_all (λ y. nat_lt 96 y) xs ≡ true = grind (arith, nat_tests) in
    (here, Lacks-letters b xs low later)

word_of-letters : (s : Step) → list_all (λ x. nat_lt 96 x) (word_of s) ≡ true
word_of-letters (Build constructor arguments) = refl
word_of-letters (Reduce destructor rule arguments) = refl
word_of-letters (Part value part) = refl
word_of-letters Fresh = refl
word_of-letters (Split thread) = refl
word_of-letters (Copy thread) = refl
word_of-letters (Make thread) = refl
word_of-letters (Pass sender receiver) = refl
word_of-letters (Hear thread) = refl
word_of-letters (Say thread value) = refl
word_of-letters (Take thread label) = refl
word_of-letters (Fail thread) = refl
word_of-letters (Mark thread) = refl
word_of-letters Next = refl
word_of-letters (Put thread) = refl
word_of-letters (Fetch thread entry) = refl
word_of-letters (Miss thread) = refl

pub word_of-Lacks : (b : ℕ) (s : Step) → b < 97 → Lacks b (word_of s)
word_of-Lacks b s low = Lacks-letters b (word_of s) low (word_of-letters s)

-- what is below the digits stands in no row of digits
pub Lacks-digits : (b : ℕ) (digits : List ℕ) → b < 48 → all_ascii_digits digits ≡ true → Lacks b digits
Lacks-digits b [] low h = tt
Lacks-digits b (x ∷ xs) low h =
    let here : x == b ≡ false = grind (arith, nat_tests) in
    let later : all_ascii_digits xs ≡ true = grind (arith, nat_tests) in
    (here, Lacks-digits b xs low later)

pub Lacks-decimals : (b : ℕ) (ns : List ℕ) → b < 48 → AllByRecursion IsSmall ns → AllByRecursion (Lacks b) (map decimal ns)
Lacks-decimals b [] low small = tt
Lacks-decimals b (n ∷ ns) low small = (Lacks-digits b (decimal n) low (decimal_is_numeral n small.0).all_digits, Lacks-decimals b ns low small.1)
