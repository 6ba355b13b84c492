-- Starts of nodes, and walks through rows of numbers.
use Rattle.std.proofs.Common.{◌≡◌, ℕ, zero, suc, ◌+◌, ◌-◌, ◌<◌, ◌≤◌, List, length, drop, get_or, refl, sym, ap, ◌∙◌, arith}
use Rattle.std.proofs.lemmas.Option.{unwrap_or-slice_get}
use Rattle.std.specs.Option.{unwrap_or}
use Rattle.spec_calculus.proofs.Items.{numbered-past}
use Rattle.spec_node_starts.specs.Starts.{start_at, Row, through, through_row}
use Rattle.term_reader.proofs.Walk.{next_byte, all_dropped}

pub start_of_none : (starts : List ℕ) (n : ℕ) → n ≡ 0 → 0 ≡ start_at starts n
start_of_none starts zero e = refl
start_of_none starts (suc n) e = absurd (omega (arith, e))

pub start_past : (starts : List ℕ) (n : ℕ) → length starts < n → 0 ≡ start_at starts n
start_past starts n past = sym (ap (λ o. unwrap_or o 0) (numbered-past starts n past))

pub start_there : (starts : List ℕ) (n : ℕ) → 0 < n → get_or starts (n - 1) 0 ≡ start_at starts n
start_there starts zero some = absurd (omega (arith, some))
start_there starts (suc n) some = let less : suc n - 1 ≡ n = omega arith in ap (λ i. get_or starts i 0) less ∙ sym (unwrap_or-slice_get starts n 0)

pub ruleset start = (start_of_none, start_past, start_there)

-- a walk has gone through so many of the numbers
pub record IsThrough (starts ns : List ℕ) (whole : Row) (row : Row) (i : ℕ) : Type 0 where
  pub goes : through_row starts row (drop i ns) ≡ whole

pub through_start : (starts ns : List ℕ) (row : Row) → IsThrough starts ns (through_row starts row ns) row 0
through_start starts ns row = record { goes = refl }

pub through_on : (starts ns : List ℕ) (whole row next : Row) (i : ℕ) → IsThrough starts ns whole row i → i < length ns → next ≡ through starts row (get_or ns i 0) → IsThrough starts ns whole next (i + 1)
through_on starts ns whole row next i going below is =
    record { goes = ap (λ r. through_row starts r (drop (i + 1) ns)) is ∙ (sym (ap (through_row starts row) (next_byte ns i below)) ∙ going.goes) }

pub through_end : (starts ns : List ℕ) (whole row : Row) (i : ℕ) → IsThrough starts ns whole row i → length ns ≤ i → row ≡ whole
through_end starts ns whole row i going past = sym (ap (through_row starts row) (all_dropped ns i past)) ∙ going.goes

pub ruleset rows = (through_start, through_on, through_end)
