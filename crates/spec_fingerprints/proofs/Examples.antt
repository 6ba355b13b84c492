-- What is computed of the positions and of the worked example.
use Rattle.std.proofs.Common.{◌≡◌, true, false, length, refl}
use Rattle.spec_fingerprints.specs.Fingerprints.{positions, fingerprint_of, may_meet}
use Rattle.spec_fingerprints.specs.Examples.{encrypted, encrypted_somehow}

pub positions_few : length positions ≡ 32
unfolding positions
positions_few = refl

pub keys_apart : may_meet (fingerprint_of (encrypted 1)) (fingerprint_of (encrypted 2)) ≡ false
unfolding positions
keys_apart = refl

pub key_same : may_meet (fingerprint_of (encrypted 1)) (fingerprint_of (encrypted 1)) ≡ true
unfolding positions
key_same = refl

pub key_any : may_meet (fingerprint_of (encrypted 1)) (fingerprint_of encrypted_somehow) ≡ true
unfolding positions
key_any = refl
