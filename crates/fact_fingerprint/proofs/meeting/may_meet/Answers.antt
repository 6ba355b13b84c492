use Rattle.std.specs.Prelude.{nat_eq}
use Rattle.std.proofs.Common.{◌≡◌, true, ◌&&◌, ◌∙◌}
use Rattle.std.proofs.lemmas.Bool.{eqb-true}
use Rattle.spec_trees.proofs.Equality.{and_true}
use Rattle.spec_terms.specs.Term.{Term, Subst}
use Rattle.spec_clauses.specs.Fact.{Fact, fact_under}
use Rattle.spec_features.specs.Features.{are_at_most}
use Rattle.spec_fingerprints.specs.Fingerprints.{fingerprint_of, may_meet}
use Rattle.spec_fingerprints.proofs.Meeting.{meeting}
use Rattle.fact_fingerprint.specs.declared.fingerprints.Fingerprint.{Fingerprint}
use Rattle.fact_fingerprint.specs.Seen.{fingerprint_seen}
use Rattle.fact_fingerprint.proofs.meeting.may_meet.Goals as goal

-- of facts that meet the numbers of the heads are one, and the ranges meet
both_meet : (left right : Fingerprint) (f h : Fact Term) (s t : Subst) → fingerprint_seen left ≡ fingerprint_of f → fingerprint_seen right ≡ fingerprint_of h → fact_under s f ≡ fact_under t h
    → (nat_eq left.head right.head ≡ true) × ((are_at_most left.least right.most && are_at_most right.least left.most) ≡ true)
both_meet left right f h s t p q e =
    and_true (nat_eq left.head right.head) (are_at_most left.least right.most && are_at_most right.least left.most) ((λ i. may_meet (p i) (q i)) ∙ meeting f h s t e)

pub returns-then-left-right-clause-meeting : goal.returns-then-left-right-clause-meeting
returns-then-left-right-clause-meeting c = λ f h s t p q e. c.ranges_meet.ensures ∙ (both_meet c.args.left.now c.args.right.now f h s t p q e).1

pub returns-else-left-right-clause-meeting : goal.returns-else-left-right-clause-meeting
returns-else-left-right-clause-meeting c = λ f h s t p q e. absurd (c.if-left-right.false (eqb-true c.args.left.now.head c.args.right.now.head (both_meet c.args.left.now c.args.right.now f h s t p q e).0))
