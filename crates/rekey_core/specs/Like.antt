-- Stores that are like others: each part sealed anew as is asked.
use Rattle.std.specs.Prelude.{ℕ, List}
use Rattle.p12.specs.declared.algorithm_identifier.AlgorithmIdentifier.{AlgorithmIdentifier}
use Rattle.p12.specs.declared.content_info.ContentInfo.{ContentInfo}
use Rattle.p12.specs.declared.safe_bag.SafeBag.{SafeBag}
use Rattle.p12.specs.declared.safe_bag.SafeBagKind.{SafeBagKind}
use Rattle.rekey_core.specs.Anew.{anew, drawn_for}
use Rattle.rekey_core.specs.Kinds.{count_for, digest_for, kind_for, mac_salt}
use Rattle.rekey_core.specs.Resealing.{BagResealed, ContentResealed, FormResealed, IsResealed, KindResealed, Resealing}
use Rattle.rekey_core.specs.Unlocking.{Unlocking}
use Rattle.rekey_core.specs.declared.kinds.Kinds.{Kinds}
use Rattle.rekey_core.specs.declared.kinds.Kinds.TheVariants.{Kept}

-- a change to these kinds
abbrev pub resealing : Kinds → Resealing
resealing to = record {
  drawn = λ a. drawn_for (kind_for to a);
  target = λ a z. anew (kind_for to a) z;
  digest = digest_for to;
  count = count_for to;
  salt = mac_salt to;
}

-- a change of the password alone
abbrev pub rekeying : Resealing
rekeying = resealing Kept

abbrev pub IsAnew : Kinds → List ℕ → AlgorithmIdentifier → AlgorithmIdentifier → Type 0
IsAnew to z a b = IsResealed (resealing to) z a b

abbrev pub KindLike : Kinds → Unlocking → List ℕ → List ℕ → SafeBagKind → SafeBagKind → Type 0
KindLike to u q z k l = KindResealed u (resealing to) q z k l

abbrev pub BagLike : Kinds → Unlocking → List ℕ → List ℕ → SafeBag → SafeBag → Type 0
BagLike to u q z g h = BagResealed u (resealing to) q z g h

abbrev pub FormLike : Kinds → List ℕ → ContentInfo → ContentInfo → Type 0
FormLike to z c e = FormResealed (resealing to) z c e

abbrev pub ContentLike : Kinds → Unlocking → List ℕ → List ℕ → ContentInfo → ContentInfo → Type 0
ContentLike to u q d c e = ContentResealed u (resealing to) q d c e
