-- What the attacker keeps and can do in later phases, one phase more.
use Rattle.std.proofs.Common.{◌≡◌, ℕ, zero, suc, ◌+◌, ◌∷◌, ◌++◌, sym, ap, ◌∙◌, arith, append_assoc, append-nil}
use Rattle.spec_calculus.specs.Syntax.{Protocol}
use Rattle.spec_translation.specs.Attacker.{kept_known}
use Rattle.spec_attack_runs.specs.Gathered.{idle, deeds_in, deeds_after}

phase_behind : (P : Protocol) (n k : ℕ) → deeds_after P n k ++ (idle (kept_known (n + k)) ∷ deeds_in P (n + k + 1)) ≡ deeds_after P n (suc k)
phase_behind P n zero =
    let same : n + 0 ≡ n = omega arith in
    ap (λ m. idle (kept_known m) ∷ deeds_in P (m + 1)) same ∙ ap (λ cs. idle (kept_known n) ∷ cs) (sym (append-nil (deeds_in P (n + 1))))
phase_behind P n (suc k) =
    let same : n + suc k ≡ n + 1 + k = omega arith in
    let last = idle (kept_known (n + suc k)) ∷ deeds_in P (n + suc k + 1) in
    ap (λ cs. idle (kept_known n) ∷ cs)
    (append_assoc (deeds_in P (n + 1)) (deeds_after P (n + 1) k) last
    ∙ ap (λ cs. deeds_in P (n + 1) ++ cs) (ap (λ m. deeds_after P (n + 1) k ++ (idle (kept_known m) ∷ deeds_in P (m + 1))) same ∙ phase_behind P (n + 1) k))

pub one_phase_more : (P : Protocol) (k : ℕ) → deeds_after P 0 k ++ (idle (kept_known k) ∷ deeds_in P (k + 1)) ≡ deeds_after P 0 (k + 1)
one_phase_more P k =
    let none : 0 + k ≡ k = omega arith in
    let next : suc k ≡ k + 1 = omega arith in
    ap (λ m. deeds_after P 0 k ++ (idle (kept_known m) ∷ deeds_in P (m + 1))) (sym none) ∙ (phase_behind P 0 k ∙ ap (deeds_after P 0) next)
