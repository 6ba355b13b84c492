-- The numbers of a node that was read are those of nodes before it.
use Rattle.std.proofs.Common.{◌≡◌, ℕ, zero, suc, ◌+◌, ◌≤◌, ◌==◌, ◌||◌, nat_le, if◌then◌else◌, Bool, true, false, List, [], ◌∷◌, ◌++◌, length, drop, codes, refl, sym, ◌∙◌, subst, arith}
use Rattle.std.specs.List.{AllByRecursion}
use Rattle.std.proofs.lemmas.Bool.Decides.{nat_tests}
use Rattle.spec_calculus.specs.Syntax.{Protocol}
use Rattle.spec_calculus.proofs.Items.{each-append}
use Rattle.spec_terms.specs.Term.{Attacker}
use Rattle.spec_certificate_text.specs.Terms.{Count, NodeOrder}
use Rattle.spec_certificate_text.specs.Outcomes.{Outcome, Found, Faulty, next, front, ended, read_fixed, read_number, Reader}
use Rattle.spec_certificate_text.proofs.Parts.{parts, chosen}
use Rattle.spec_node_tables.specs.Text.{node_numbers}
use Rattle.spec_node_tables.specs.Order.{IsNumberOf}
use Rattle.spec_node_reading.specs.Loops.{lines_through}
use Rattle.spec_node_reading.specs.ReadNodes.{HeadRead, IsVariable, Names, read_bound, read_head, lower_number, spaced_number, read_spaced, NodeRead, read_body, node_read}
use Rattle.spec_node_counts.proofs.Steps.{behind_line, line_more, line_full}

neither : (a b : Bool) → (a || b) ≡ false → (a ≡ false) × (b ≡ false)
neither true b e = absurd (cc)
neither false b e = (refl, e)

in_order : (nodes at m p : ℕ) (r : List ℕ) (n place : ℕ) (rest : List ℕ) → (if (m == 0) || nat_le (suc nodes) m then Faulty at NodeOrder else Found m p r) ≡ Found n place rest → IsNumberOf nodes n
in_order nodes at m p r n place rest e = chosen ((m == 0) || nat_le (suc nodes) m) (Faulty at NodeOrder) (Found m p r) n place rest (IsNumberOf nodes n) e
    (λ is never. absurd (cc))
    (λ test found.
    let tests = neither (m == 0) (nat_le (suc nodes) m) test in
    let no_zero : (m == 0) ≡ false = tests.0 in
    let not_over : nat_le (suc nodes) m ≡ false = tests.1 in
    let same : m ≡ n = cc in
    let some : 1 ≤ m = grind (arith, nat_tests) in
    let few : m ≤ nodes = grind (arith, nat_tests) in
    subst (IsNumberOf nodes) same (some, few))

lower_is : (nodes : ℕ) (bytes : List ℕ) (at n place : ℕ) (rest : List ℕ) → lower_number (suc nodes) bytes at ≡ Found n place rest → IsNumberOf nodes n
lower_is nodes bytes at n place rest e =
    let number = parts (read_number bytes at) (λ n p r. if (n == 0) || nat_le (suc nodes) n then Faulty at NodeOrder else Found n p r) n place rest e in
    in_order nodes at number.value number.place number.rest n place rest number.later

abbrev put : List ℕ → ℕ → ℕ → List ℕ → Outcome (List ℕ)
put ns n place rest = Found (ns ++ n ∷ []) place rest

spaced_is : (nodes : ℕ) (ns bytes : List ℕ) (at : ℕ) (ms : List ℕ) (place : ℕ) (rest : List ℕ) → AllByRecursion (IsNumberOf nodes) ns → spaced_number (suc nodes) ns bytes at ≡ Found ms place rest
    → AllByRecursion (IsNumberOf nodes) ms
spaced_is nodes ns bytes at ms place rest are e =
    let space = parts (read_fixed (codes " ") bytes at) (λ _ p r. next (lower_number (suc nodes) r p) (put ns)) ms place rest e in
    let number = parts (lower_number (suc nodes) space.rest space.place) (put ns) ms place rest space.later in
    let same : ns ++ number.value ∷ [] ≡ ms = cc in
    subst (AllByRecursion (IsNumberOf nodes)) same
    (each-append (IsNumberOf nodes) ns (number.value ∷ []) are (lower_is nodes space.rest space.place number.value number.place number.rest number.first, tt))

-- what holds of a state holds behind all lines
lines_keep : {S : Type 0} (Q : S → Type 0) (letter : ℕ) (one : S → Reader S) → ((s : S) (bytes : List ℕ) (at : ℕ) (t : S) (place : ℕ) (rest : List ℕ) → Q s → one s bytes at ≡ Found t place rest → Q t)
    → (most : ℕ) (s : S) (bytes : List ℕ) (at : ℕ) (t : S) (place : ℕ) (rest : List ℕ) → Q s → lines_through letter one most s bytes at ≡ Found t place rest → Q t
lines_keep {S} Q letter one each zero s bytes at t place rest is e =
    chosen (front bytes == letter) (Faulty at Count) (Found s at bytes) t place rest (Q t) (sym (line_full letter one s bytes at) ∙ e)
    (λ more never. absurd (cc))
    (λ none found. let same : s ≡ t = cc in subst Q same is)
lines_keep {S} Q letter one each (suc most) s bytes at t place rest is e =
    chosen (front bytes == letter) (next (one s bytes at) (behind_line letter one most)) (Found s at bytes) t place rest (Q t) (sym (line_more letter one most s bytes at) ∙ e)
    (λ more found.
    let line = parts (one s bytes at) (behind_line letter one most) t place rest found in
    lines_keep Q letter one each most line.value line.rest line.place t place rest (each s bytes at line.value line.place line.rest is line.first) line.later)
    (λ none found. let same : s ≡ t = cc in subst Q same is)

before_byte : (nodes : ℕ) (ms ns : List ℕ) (p : ℕ) (r : List ℕ) (place : ℕ) (rest : List ℕ) → ended p r (Found ms p r) ≡ Found ns place rest → AllByRecursion (IsNumberOf nodes) ms → AllByRecursion (IsNumberOf nodes) ns
before_byte nodes ms ns p [] place rest e are = absurd (cc)
before_byte nodes ms ns p (b ∷ r) place rest e are = let same : ms ≡ ns = cc in subst (AllByRecursion (IsNumberOf nodes)) same are

read_spaced_is : (nodes : ℕ) (bytes : List ℕ) (at : ℕ) (ns : List ℕ) (place : ℕ) (rest : List ℕ) → read_spaced (suc nodes) bytes at ≡ Found ns place rest → AllByRecursion (IsNumberOf nodes) ns
read_spaced_is nodes bytes at ns place rest e =
    let all = parts (lines_through 32 (spaced_number (suc nodes)) (length bytes) [] bytes at) (λ ns p r. ended p r (Found ns p r)) ns place rest e in
    before_byte nodes all.value ns all.place all.rest place rest all.later
    (lines_keep (AllByRecursion (IsNumberOf nodes)) 32 (spaced_number (suc nodes)) (λ ns bytes at ms p r are told. spaced_is nodes ns bytes at ms p r are told) (length bytes) [] bytes at all.value all.place all.rest tt all.first)

abbrev attackers : ℕ → ℕ → List ℕ → Outcome NodeRead
attackers n place rest = Found (record { head = Names record { symbol = Attacker; arity = 1 }; numbers = n ∷ [] }) place rest

abbrev headed : HeadRead → List ℕ → ℕ → List ℕ → Outcome NodeRead
headed head ns place rest = Found (record { head = head; numbers = ns }) place rest

attackers_is : (nodes : ℕ) (bytes : List ℕ) (at : ℕ) (x : NodeRead) (place : ℕ) (rest : List ℕ) → next (read_fixed (codes "@ ") bytes at) (λ _ p r. next (lower_number (suc nodes) r p) attackers) ≡ Found x place rest
    → AllByRecursion (IsNumberOf nodes) x.numbers
attackers_is nodes bytes at x place rest e =
    let sign = parts (read_fixed (codes "@ ") bytes at) (λ _ p r. next (lower_number (suc nodes) r p) attackers) x place rest e in
    let number = parts (lower_number (suc nodes) sign.rest sign.place) attackers x place rest sign.later in
    let y : NodeRead = record { head = Names record { symbol = Attacker; arity = 1 }; numbers = number.value ∷ [] } in
    let told : Found y number.place number.rest ≡ Found x place rest = number.later in
    let same : y ≡ x = cc in
    subst (λ (z : NodeRead). AllByRecursion (IsNumberOf nodes) z.numbers) same (lower_is nodes sign.rest sign.place number.value number.place number.rest number.first, tt)

headed_is : (P : Protocol) (nodes : ℕ) (bytes : List ℕ) (at : ℕ) (x : NodeRead) (place : ℕ) (rest : List ℕ) → next (read_head P bytes at) (λ head p r. next (read_spaced (suc nodes) r p) (headed head)) ≡ Found x place rest
    → AllByRecursion (IsNumberOf nodes) x.numbers
headed_is P nodes bytes at x place rest e =
    let head = parts (read_head P bytes at) (λ head p r. next (read_spaced (suc nodes) r p) (headed head)) x place rest e in
    let numbers = parts (read_spaced (suc nodes) head.rest head.place) (headed head.value) x place rest head.later in
    let y : NodeRead = record { head = head.value; numbers = numbers.value } in
    let told : Found y numbers.place numbers.rest ≡ Found x place rest = numbers.later in
    let same : y ≡ x = cc in
    subst (λ (z : NodeRead). AllByRecursion (IsNumberOf nodes) z.numbers) same (read_spaced_is nodes head.rest head.place numbers.value numbers.place numbers.rest numbers.first)

bound_is : (nodes : ℕ) (bytes : List ℕ) (at : ℕ) (x : NodeRead) (place : ℕ) (rest : List ℕ) → next (read_bound (drop 1 bytes) (at + 1)) (λ head p r. headed head [] p r) ≡ Found x place rest → AllByRecursion (IsNumberOf nodes) x.numbers
bound_is nodes bytes at x place rest e =
    let head = parts (read_bound (drop 1 bytes) (at + 1)) (λ head p r. headed head [] p r) x place rest e in
    let y : NodeRead = record { head = head.value; numbers = [] } in
    let told : Found y head.place head.rest ≡ Found x place rest = head.later in
    let same : y ≡ x = cc in
    subst (λ (z : NodeRead). AllByRecursion (IsNumberOf nodes) z.numbers) same tt

pub body_is : (P : Protocol) (nodes : ℕ) (bytes : List ℕ) (at : ℕ) (x : NodeRead) (place : ℕ) (rest : List ℕ) → read_body P (suc nodes) bytes at ≡ Found x place rest → AllByRecursion (IsNumberOf nodes) x.numbers
body_is P nodes bytes at x place rest e =
    let bound_or : Outcome NodeRead = if front bytes == 63 then next (read_bound (drop 1 bytes) (at + 1)) (λ head p r. headed head [] p r) else next (read_head P bytes at) (λ head p r. next (read_spaced (suc nodes) r p) (headed head)) in
    chosen (front bytes == 64) (next (read_fixed (codes "@ ") bytes at) (λ _ p r. next (lower_number (suc nodes) r p) attackers)) bound_or
    x place rest (AllByRecursion (IsNumberOf nodes) x.numbers) e
    (λ is told. attackers_is nodes bytes at x place rest told)
    (λ isnt other. chosen (front bytes == 63) (next (read_bound (drop 1 bytes) (at + 1)) (λ head p r. headed head [] p r)) (next (read_head P bytes at) (λ head p r. next (read_spaced (suc nodes) r p) (headed head)))
    x place rest (AllByRecursion (IsNumberOf nodes) x.numbers) other
    (λ is told. bound_is nodes bytes at x place rest told)
    (λ no_bound told. headed_is P nodes bytes at x place rest told))

pub node_numbers_are : (nodes : ℕ) (head : HeadRead) (ns : List ℕ) → AllByRecursion (IsNumberOf nodes) ns → AllByRecursion (IsNumberOf nodes) (node_numbers (node_read head ns))
node_numbers_are nodes (IsVariable x) ns are = tt
node_numbers_are nodes (Names named) ns are = are
