-- A MAC that is made here agrees.
use Rattle.std.proofs.Common.{◌≡◌, ℕ, ◌≤◌, List, true, refl, ap, ◌∙◌, arith}
use Rattle.std.proofs.lemmas.Slice.Eq.{bytes_eq-Decides}
use Rattle.std.proofs.lemmas.Bool.{lt-ltb}
use Rattle.p12.specs.MacData.{is_mac_digest, mac_agrees, mac_of, mac_value}
use Rattle.p12.specs.declared.algorithm_identifier.AlgorithmIdentifier.{AlgorithmIdentifier}
use Rattle.p12.specs.declared.mac_data.MacData.{MacData}

abbrev pub made_mac : AlgorithmIdentifier → List ℕ → List ℕ → ℕ → MacData
made_mac a d s r = record { mac = record { digest_algorithm = a; digest = d }; salt = s; iterations = r }

pub mac_is : (a : AlgorithmIdentifier) (q v salt d s : List ℕ) (r : ℕ) → d ≡ mac_value a q salt r v → s ≡ salt → made_mac a d s r ≡ mac_of a q v salt r
unfolding mac_of
mac_is a q v salt d s r e f = ap (λ (x : List ℕ). made_mac a x s r) e ∙ ap (λ (x : List ℕ). made_mac a (mac_value a q salt r v) x r) f

pub mac_of_agrees : (a : AlgorithmIdentifier) (q v salt : List ℕ) (r : ℕ) → is_mac_digest a ≡ true → 1 ≤ r → mac_agrees (mac_of a q v salt r) q v ≡ true
unfolding mac_of mac_agrees
mac_of_agrees a q v salt r is h = rw (is, lt-ltb 0 r (omega (arith, h)), (bytes_eq-Decides (mac_value a q salt r v) (mac_value a q salt r v)).1 refl) refl
