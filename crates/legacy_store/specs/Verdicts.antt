-- Which stores open, and to what, whatever the order of the causes.
use Rattle.std.specs.Prelude.{◌⊎◌, ℕ, ◌+◌, ◌≤◌, ◌≡◌, List, [], length, Some, Result, Err, IsOk, None, true}
use Rattle.std.specs.List.{sum_by}
use Rattle.asn1_core.specs.Sets.{Each}
use Rattle.p12.specs.declared.pfx.PFX.{PFX}
use Rattle.p12.specs.declared.mac_data.MacData.{MacData}
use Rattle.p12.specs.declared.content_info.ContentInfo.{ContentInfo}
use Rattle.p12.specs.declared.content_info.ContentInfo.TheVariants as content
use Rattle.p12.specs.declared.safe_bag.SafeBag.{SafeBag}
use Rattle.transfer.specs.Limits.{store_limit}
use Rattle.transfer.specs.Opening.{all_shrouded}
use Rattle.transfer.specs.Transferred.{IsRefusal}
use Rattle.transfer.specs.declared.store.error.TransferError.{TransferError}
use Rattle.transfer.specs.declared.store.error.TransferError.TheVariants.{Memory}
use Rattle.legacy_store.specs.Forms.{Forms, forms_of, forms_without_mac, null_forms}
use Rattle.legacy_store.specs.declared.mac_rule.MacRule.{MacRule}
use Rattle.legacy_store.specs.declared.mac_rule.MacRule.TheVariants.{Required, Optional}
use Rattle.legacy_store.specs.Mac.{is_legacy_digest, legacy_agrees, mac_cost, mac_count}
use Rattle.legacy_store.specs.Opening.{FirstCauseUnder, LegacyHolds, LegacyKeyOpens, legacy_key_share, legacy_share}
use Rattle.legacy_store.specs.Texts.{IsLegacySafe, IsLegacyStore}

-- The MAC agrees under these forms of the password, and n steps say so: under the password itself,
-- or where that is empty and does not agree under no octets.
abbrev pub AgreesIn : List ℕ → List ℕ → MacData → Forms → ℕ → Type 0
AgreesIn p v m f n =
    ((legacy_agrees m (forms_of p) v ≡ true) × (f ≡ forms_of p) × (n ≡ mac_cost m))
    ⊎ ((legacy_agrees m (forms_of p) v ≡ true → ⊥) × (p ≡ [])
    × (legacy_agrees m null_forms v ≡ true) × (f ≡ null_forms) × (n ≡ mac_cost m + mac_cost m))

-- The MAC of a store can be tested, and agrees under these forms of the password after n steps.
pub record LegacyMacOk (p v : List ℕ) (m : MacData) (f : Forms) (n : ℕ) : Type 0 where
  pub known : is_legacy_digest m.mac.digest_algorithm ≡ true
  pub some_rounds : 1 ≤ mac_count m
  pub agrees : AgreesIn p v m f n

-- A text lists these contents, each opens to these bags, and the encrypted keys among them to these
-- texts.
pub record IsLegacyOpening (f : Forms) (v : List ℕ) (cs : List ContentInfo)
    (gss : List (List SafeBag)) (ks : List (List ℕ)) : Type 0 where
  pub contents : IsLegacySafe v cs
  pub bags : Each (LegacyHolds f) cs gss
  pub keys : Each (LegacyKeyOpens f) (all_shrouded gss) ks

-- A store opens to these bags and keys, by so much work, whatever the limit.
pub record LegacyOpens (b p : List ℕ) (gss : List (List SafeBag)) (ks : List (List ℕ)) (n : ℕ)
    : Type 0 where
  pub short : length b ≤ store_limit
  pub store : PFX
  pub is : IsLegacyStore b store
  pub text : List ℕ
  pub is_data : store.auth_safe ≡ content.Data text
  pub mac : MacData
  pub has : store.mac_data ≡ Some mac
  pub forms : Forms
  pub tested : ℕ
  pub mac_ok : LegacyMacOk p text mac forms tested
  pub parts : List ContentInfo
  pub opening : IsLegacyOpening forms text parts gss ks
  pub work : n ≡ tested + sum_by legacy_share parts + sum_by legacy_key_share (all_shrouded gss)

-- A store without a MAC opens to these bags and keys under a password, by so much work.
pub record BareOpens (b p : List ℕ) (gss : List (List SafeBag)) (ks : List (List ℕ)) (n : ℕ)
    : Type 0 where
  pub short : length b ≤ store_limit
  pub store : PFX
  pub is : IsLegacyStore b store
  pub text : List ℕ
  pub is_data : store.auth_safe ≡ content.Data text
  pub bare : store.mac_data ≡ None
  pub parts : List ContentInfo
  pub opening : IsLegacyOpening (forms_without_mac p) text parts gss ks
  pub work : n ≡ sum_by legacy_share parts + sum_by legacy_key_share (all_shrouded gss)

-- A store opens to these bags and keys where a MAC is required, or is not.
abbrev pub OpensUnder : MacRule → List ℕ → List ℕ → List (List SafeBag) → List (List ℕ) → ℕ → Type 0
OpensUnder Required b p gss ks n = LegacyOpens b p gss ks n
OpensUnder Optional b p gss ks n = LegacyOpens b p gss ks n ⊎ BareOpens b p gss ks n

-- A store that a cause refuses is refused for that cause, and one that no cause refuses is opened,
-- running out of memory apart.
pub record IsDecidedUnder {T : Type 0} (rule : MacRule) (b p : List ℕ) (limit : ℕ)
    (r : Result T TransferError) : Type 0 where
  pub refuses : (e : TransferError) → FirstCauseUnder rule b p limit (Some e) → IsRefusal r e
  pub completes : FirstCauseUnder rule b p limit None → IsOk r ⊎ (r ≡ Err Memory)
