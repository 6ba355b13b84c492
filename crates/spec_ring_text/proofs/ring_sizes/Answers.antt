use Rattle.std.proofs.Common.{◌≡◌, ◌+◌, ◌*◌, length}
use Rattle.spec_ring_text.specs.Text.{ring_text}
use Rattle.spec_ring_text.specs.Size.{digit_count}
use Rattle.spec_ring_text.proofs.Sizes.{ring_size, with_keys}
use Rattle.spec_ring_text.proofs.ring_sizes.Goals as goal

pub returns : goal.returns
returns c = with_keys (λ n. length (ring_text n) ≡ 107 + 64 * n + 3 * digit_count 1 n) ring_size
