-- What is sealed anew is of a kind that opens.
use Rattle.std.proofs.Common.{◌≡◌, ◌<◌, ◌≤◌, true, refl}
use Rattle.p12.specs.AlgorithmIdentifier.{count, openable}
use Rattle.p12.specs.MacData.{is_mac_digest}
use Rattle.p12.specs.declared.algorithm_identifier.AlgorithmIdentifier.{AlgorithmIdentifier}
use Rattle.p12.specs.declared.mac_data.MacData.{MacData}
use Rattle.rekey_core.specs.Kinds.{count_for, digest_for, kind_for, mac_kind}
use Rattle.rekey_core.specs.declared.kinds.MacAnew.{MacAnew}
use Rattle.rekey_core.specs.declared.kinds.MacAnew.TheVariants as made
use Rattle.rekey_core.specs.declared.kinds.Kinds.{Kinds}
use Rattle.rekey_core.specs.declared.kinds.Kinds.TheVariants.{Kept, Renewed}

pub kind_opens : (to : Kinds) (a : AlgorithmIdentifier) → openable a ≡ true → openable (kind_for to a) ≡ true
kind_opens Kept a o = o
kind_opens (Renewed rounds) a o = refl

pub kind_counts : (to : Kinds) (a : AlgorithmIdentifier) → 0 < count a → 0 < count (kind_for to a)
kind_counts Kept a o = o
kind_counts (Renewed rounds) a o = rounds.some

pub digest_known : (to : Kinds) (m : MacData) → is_mac_digest m.mac.digest_algorithm ≡ true → is_mac_digest (digest_for to m) ≡ true
digest_known Kept m e = e
digest_known (Renewed rounds) m e = refl

pub count_some : (to : Kinds) (m : MacData) → 1 ≤ m.iterations → 1 ≤ count_for to m
count_some Kept m e = e
count_some (Renewed rounds) m e = rounds.some

pub kind_known : (mac : MacAnew) → is_mac_digest (mac_kind mac).digest ≡ true
kind_known (made.Sha1 rounds) = refl
kind_known (made.Sha256 rounds) = refl
