use Rattle.std.proofs.Common.{◌≡◌, ◌+◌, ◌*◌, length}
use Rattle.spec_calculus.specs.Points.{nodes}
use Rattle.spec_ring_text.specs.Meaning.{ring_protocol}
use Rattle.spec_ring_text.proofs.Sizes.{ring_points, with_keys}
use Rattle.spec_ring_text.proofs.ring_shapes.Goals as goal

pub returns-clause-points : goal.returns-clause-points
returns-clause-points c = with_keys (λ n. length (nodes (ring_protocol n).main) ≡ 7 * n + 2) ring_points
