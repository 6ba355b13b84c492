-- An entry has one answer.
use Rattle.std.proofs.Common.{◌≡◌, ◌∙◌, ap, refl, sym, subst, ℕ, List, Option, None, Some}
use Rattle.spec_calculus.specs.Syntax.{Query, Protocol}
use Rattle.spec_calculus.specs.Runs.{Step}
use Rattle.spec_calculus.proofs.Items.{of_some}
use Rattle.spec_saturation.specs.Key.{Entry}
use Rattle.spec_attack_runs.specs.Source.{Source}
use Rattle.spec_attack_runs.specs.Instance.{ComesFrom}
use Rattle.spec_attack_runs.specs.Attack.{compiled_steps, IsCompiled, IsAttack, Reconstructed}
use Rattle.spec_attack_runs.proofs.OneList.{one_list}
use Rattle.spec_attack_runs.proofs.OneDescent.{one_origin}

pub one_compiled : (P : Protocol) (q : Query) (log : List Entry) (number : ℕ) (a b : List Step) → IsCompiled P q log number a → IsCompiled P q log number b → a ≡ b
one_compiled P q log number a b x y =
    let sources = one_list P q x.sources y.sources x.are_sources y.are_sources in
    let come = subst (λ (s : List Source). ComesFrom s log number y.instances) (sym sources) y.come in
    let instances = one_origin x.sources log number x.instances y.instances x.come come in
    of_some a b (sym x.compiles ∙ (ap (compiled_steps P) instances ∙ y.compiles))

pub one_attack : (P : Protocol) (q : Query) (log : List Entry) (number : ℕ) (a b : List Step) → IsAttack P q log number a → IsAttack P q log number b → a ≡ b
one_attack P q log number a b x y = one_compiled P q log number a b x.compiled y.compiled

pub one_answer : (P : Protocol) (q : Query) (log : List Entry) (number : ℕ) (a b : Option (List Step)) → Reconstructed P q log number a → Reconstructed P q log number b → a ≡ b
one_answer P q log number None None x y = refl
one_answer P q log number None (Some b) x y = absurd (x b y)
one_answer P q log number (Some a) None x y = absurd (y a x)
one_answer P q log number (Some a) (Some b) x y = ap Some (one_attack P q log number a b x y)
