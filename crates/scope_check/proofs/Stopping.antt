-- A fault of one step is the fault of the whole.
use Rattle.std.proofs.Common.{◌≡◌, ◌∙◌, List, Ok, Err, refl, ap}
use Rattle.spec_calculus.specs.Syntax.{Process, Query}
use Rattle.spec_protocol_grammar.specs.Sketch.{FileSketch}
use Rattle.spec_protocol_scope.specs.Answers.{Answer, ◌>>=◌}
use Rattle.spec_protocol_scope.specs.Names as own
use Rattle.spec_protocol_scope.specs.Declarations.{declare_all}
use Rattle.spec_protocol_scope.specs.Processes.{main_process}
use Rattle.spec_protocol_scope.specs.Queries.{queries}
use Rattle.spec_protocol_scope.specs.Scope.{protocol_of, protocol_with, scope}
use Rattle.scope_declarations.specs.Answer.{Stops}
use Rattle.scope_check.specs.Error.{main_then_queries}
use Rattle.scope_declarations.specs.declared.stop.Stop.{Stop}
use Rattle.scope_declarations.specs.declared.stop.Stop.TheVariants as stop

pub stops_step : {A B : Type 0} (e : Stop) (a : Answer A) (f : A → Answer B) → Stops e a → Stops e (a >>= f)
stops_step (stop.Fault code token) a f h = ap (λ x. x >>= f) h
stops_step (stop.Memory e) a f h = tt

-- the protocol of these names is that of its process and its queries
of_queries : (names : own.Names) (main : Process) (asked : Answer (List Query))
    → (asked >>= λ qs. Ok (protocol_of names main qs)) ≡ ((asked >>= λ qs. Ok (main, qs)) >>= λ (x : Process × List Query). Ok (protocol_of names x.0 x.1))
of_queries names main (Ok qs) = refl
of_queries names main (Err e) = refl

of_main : (names : own.Names) (main : Answer Process) (ask : Process → Answer (List Query))
    → (main >>= λ p. ask p >>= λ qs. Ok (protocol_of names p qs))
    ≡ ((main >>= λ p. ask p >>= λ qs. Ok (p, qs)) >>= λ (x : Process × List Query). Ok (protocol_of names x.0 x.1))
of_main names (Ok p) ask = of_queries names p (ask p)
of_main names (Err e) ask = refl

with_main : (text : own.Texts) (names : own.Names) (f : FileSketch)
    → protocol_with text names f ≡ (main_then_queries text names f >>= λ (x : Process × List Query). Ok (protocol_of names x.0 x.1))
with_main text names f =
    of_main names (main_process (record { text = text; names = names }) f.main) (λ p. queries (record { text = text; names = names }) p 0 f.declarations)

-- where the names are declared and the process or the queries have a fault, the file has it
pub stops_main : (e : Stop) (text : own.Texts) (names : own.Names) (f : FileSketch) → declare_all text own.no_names f.declarations ≡ Ok names
    → Stops e (main_then_queries text names f) → Stops e (scope text f)
stops_main (stop.Fault code token) text names f declared h =
    ap (λ (a : Answer own.Names). a >>= λ found. protocol_with text found f) declared
    ∙ (with_main text names f ∙ ap (λ (a : Answer (Process × List Query)). a >>= λ x. Ok (protocol_of names x.0 x.1)) h)
stops_main (stop.Memory e) text names f declared h = tt

-- where they have none, the file stands for their protocol
pub found_main : (text : own.Texts) (names : own.Names) (f : FileSketch) (read : Process × List Query) → declare_all text own.no_names f.declarations ≡ Ok names
    → main_then_queries text names f ≡ Ok read → scope text f ≡ Ok (protocol_of names read.0 read.1)
found_main text names f read declared h =
    ap (λ (a : Answer own.Names). a >>= λ found. protocol_with text found f) declared
    ∙ (with_main text names f ∙ ap (λ (a : Answer (Process × List Query)). a >>= λ x. Ok (protocol_of names x.0 x.1)) h)
