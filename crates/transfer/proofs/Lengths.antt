-- The lengths of what a store holds.
use Rattle.std.proofs.Common.{ℕ, ◌≡◌, ◌≤◌, List, length, arith, subst}
use Rattle.std.specs.Prelude.{All, Option, Some, IfSome}
use Rattle.p12.specs.declared.content_info.ContentInfo.{ContentInfo}
use Rattle.p12.specs.declared.content_info.ContentInfo.TheVariants as content
use Rattle.p12.specs.declared.mac_data.MacData.{MacData}
use Rattle.p12.specs.declared.pfx.PFX.{PFX}
use Rattle.p12.specs.ContentInfo.{ContentFits, IsContents}
use Rattle.p12.specs.Pfx.{IsStore}
use Rattle.p12.proofs.DefinitionLaws.{contents_fit, store_fits}
use Rattle.transfer.specs.Limits.{store_limit}

at_some : (P : MacData → Type 0) (o : Option MacData) (m : MacData) → o ≡ Some m → IfSome o P → P m
at_some P o m is h = let Q : Option MacData → Type 0 = λ o. IfSome o P in subst Q is h

pub text_fits : (b : List ℕ) (s : PFX) (v : List ℕ) → length b ≤ store_limit → IsStore b s → s.auth_safe ≡ content.Data v → length v ≤ store_limit
text_fits b s v le is at =
    let Q : ContentInfo → Type 0 = λ c. ContentFits (length b) c in
    omega (arith, le, (subst Q at (store_fits b s is).0).0)

pub salt_fits : (b : List ℕ) (s : PFX) (m : MacData) → length b ≤ store_limit → IsStore b s → s.mac_data ≡ Some m → length m.salt ≤ store_limit
salt_fits b s m le is has = omega (arith, le, at_some (λ m. length m.salt ≤ length b) s.mac_data m has (store_fits b s is).1)

pub contents_within : (v : List ℕ) (cs : List ContentInfo) → length v ≤ store_limit → IsContents v cs → All (ContentFits store_limit) cs
contents_within v cs le is = λ k d lt. let f = contents_fit v cs is k d lt in (omega (arith, f.0, le), omega (arith, f.1, le))
