-- The work of opening a changed store.
use Rattle.std.specs.Prelude.{ℕ, ◌+◌, List}
use Rattle.std.specs.List.{sum_by}
use Rattle.p12.specs.AlgorithmIdentifier.{cost}
use Rattle.p12.specs.declared.content_info.ContentInfo.{ContentInfo}
use Rattle.p12.specs.declared.content_info.ContentInfo.TheVariants as content
use Rattle.p12.specs.declared.encrypted_private_key_info.EncryptedPrivateKeyInfo.{EncryptedPrivateKeyInfo}
use Rattle.p12.specs.declared.mac_data.MacData.{MacData}
use Rattle.p12.specs.declared.safe_bag.SafeBag.{SafeBag}
use Rattle.transfer.specs.Opening.{all_shrouded}
use Rattle.rekey_core.specs.Kinds.{count_for, kind_for}
use Rattle.rekey_core.specs.declared.kinds.Kinds.{Kinds}

-- the most that a content has of the work, once it is sealed anew
abbrev pub content_work : Kinds → ContentInfo → ℕ
content_work to (content.Data v) = 0
content_work to (content.EncryptedData d) =
    cost (kind_for to d.encrypted_content_info.content_encryption_algorithm)
content_work to (content.OtherContext o) = 0

-- and an encrypted key
abbrev pub key_work : Kinds → EncryptedPrivateKeyInfo → ℕ
key_work to k = cost (kind_for to k.encryption_algorithm)

-- the most work of opening a store that is changed to these kinds: for the MAC, the contents and
-- the keys, each its count of rounds where they are renewed
abbrev pub work_to : Kinds → MacData → List ContentInfo → List (List SafeBag) → ℕ
work_to to m cs gss =
    count_for to m + sum_by (content_work to) cs + sum_by (key_work to) (all_shrouded gss)
