-- What stays as it was while positions are tried.
use Rattle.std.proofs.Common.{◌≡◌, ◌∙◌, ℕ, ◌-◌, Bool, false, List, length, drop, set, refl, ap, sym, subst}
use Rattle.spec_terms.specs.Term.{Term}
use Rattle.spec_clauses.specs.Fact as horn
use Rattle.term_tree.specs.declared.bank.Id.{Id}
use Rattle.unify_match.specs.declared.bound.Bound.{Bound}
use Rattle.unify_match.specs.Trail.{Extends}
use Rattle.fact_placing.specs.declared.board.Ending.{Ending}
use Rattle.fact_placing.specs.Boards.{IsPlacing, IsAsBefore, IsPut, AreLinkedOn}
use Rattle.fact_placing.proofs.Putting.{is_taken_back}

pub as_itself : (pairs : List Bound) (taken : List Bool) → IsAsBefore pairs pairs taken taken
as_itself pairs taken = record { bindings = refl; flags = refl }

pub as_before-trans : (a b c : List Bound) (f g h : List Bool) → IsAsBefore a b f g → IsAsBefore b c g h → IsAsBefore a c f h
as_before-trans a b c f g h first second = record { bindings = second.bindings ∙ first.bindings; flags = second.flags ∙ first.flags }

-- what is so of one is so of the other
pub as_back : (P : List Bound → List Bool → Type 0) (old new : List Bound) (taken_old taken_new : List Bool) → IsAsBefore old new taken_old taken_new → P new taken_new → P old taken_old
as_back P old new taken_old taken_new same p = subst (λ (flags : List Bool). P old flags) same.flags (subst (λ (pairs : List Bound). P pairs taken_new) same.bindings p)

pub as_forth : (P : List Bound → List Bool → Type 0) (old new : List Bound) (taken_old taken_new : List Bool) → IsAsBefore old new taken_old taken_new → P old taken_old → P new taken_new
as_forth P old new taken_old taken_new same p = subst (λ (flags : List Bool). P new flags) (sym same.flags) (subst (λ (pairs : List Bound). P pairs taken_old) (sym same.bindings) p)

pub placing_as : (all : List Term) (hyps : List (horn.Fact Id)) (old new : List Bound) (taken_old taken_new : List Bool) → IsAsBefore old new taken_old taken_new → IsPlacing all hyps old taken_old → IsPlacing all hyps new taken_new
placing_as all hyps old new taken_old taken_new same placing = as_forth (IsPlacing all hyps) old new taken_old taken_new same placing

pub linked_as : (all : List Term) (ending : Ending) (old new : List Bound) (taken_old taken_new : List Bool) (facts : List (horn.Fact Id)) → IsAsBefore old new taken_old taken_new → AreLinkedOn all ending old facts → AreLinkedOn all ending new facts
linked_as all ending old new taken_old taken_new facts same linked = subst (λ (pairs : List Bound). AreLinkedOn all ending pairs facts) (sym same.bindings) linked

-- what was put is taken back, with nothing placed besides in between
pub is_taken_back_later : (all : List Term) (hyps : List (horn.Fact Id)) (old new later back : List Bound) (taken_old taken_new taken_later taken_back : List Bool) (fact : horn.Fact Id) (p level : ℕ) → level ≡ length old → IsPut all hyps old new taken_old taken_new fact p → Extends old new
    → IsAsBefore new later taken_new taken_later → back ≡ drop (length later - level) later → taken_back ≡ set taken_later p false → IsAsBefore old back taken_old taken_back
is_taken_back_later all hyps old new later back taken_old taken_new taken_later taken_back fact p level at put extends same bindings flags =
    is_taken_back all hyps old new back taken_old taken_new taken_back fact p level at put extends (bindings ∙ ap (λ (pairs : List Bound). drop (length pairs - level) pairs) same.bindings) (flags ∙ ap (λ (fs : List Bool). set fs p false) same.flags)
