-- Laws of `appended`, what was written with more bytes after it.
use Rattle.std.proofs.Common.{◌≡◌, List, ◌++◌, ◌+◌, ◌-◌, ◌∙◌, ℕ, refl, ap, sym, append_assoc, take, drop, length}
use Rattle.std.proofs.Math.Seq.{take-add}
use Rattle.std.proofs.lemmas.List.{take_rest}
use Rattle.std.specs.Prelude.{Option, Some, None}
use Rattle.hv_io.specs.Sink.{appended}

-- what is appended in two parts is appended whole
pub appended-appended : (written : Option (List ℕ)) (a b : List ℕ) → appended (appended written a) b ≡ appended written (a ++ b)
appended-appended None a b = refl
appended-appended (Some before) a b = ap Some (append_assoc before a b)

-- a piece that is taken from the rest of the bytes lengthens what was appended of them
pub appended_more : (start now next : Option (List ℕ)) (bytes : List ℕ) (done n : ℕ) → now ≡ appended start (take done bytes) → next ≡ appended now (take n (take (length bytes - done) (drop done bytes))) → next ≡ appended start (take (done + n) bytes)
appended_more start now next bytes done n before after =
    after ∙ ap (λ w. appended w (take n (take (length bytes - done) (drop done bytes)))) before
    ∙ ap (λ rest. appended (appended start (take done bytes)) (take n rest)) (take_rest bytes done)
    ∙ appended-appended start (take done bytes) (take n (drop done bytes))
    ∙ ap (appended start) (sym (take-add done n bytes))
