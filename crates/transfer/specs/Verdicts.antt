-- Each store has one verdict, and which stores are valid.
use Rattle.std.specs.Prelude.{ℕ, ◌+◌, ◌≤◌, ◌≡◌, ◌↔◌, List, length, Some, true}
use Rattle.std.specs.List.{sum_by}
use Rattle.p12.specs.declared.pfx.PFX.{PFX}
use Rattle.p12.specs.declared.mac_data.MacData.{MacData}
use Rattle.p12.specs.declared.content_info.ContentInfo.{ContentInfo}
use Rattle.p12.specs.declared.content_info.ContentInfo.TheVariants as content
use Rattle.p12.specs.declared.safe_bag.SafeBag.{SafeBag}
use Rattle.p12.specs.MacData.{is_mac_digest}
use Rattle.p12.specs.ContentInfo.{IsContents}
use Rattle.p12.specs.MacData.{mac_agrees}
use Rattle.pkcs12_kdf.specs.Password.{bmp_password}
use Rattle.p12.specs.Pfx.{IsStore}
use Rattle.transfer.specs.Limits.{store_limit}
use Rattle.transfer.specs.declared.store.error.TransferError.{TransferError}
use Rattle.asn1_core.specs.Sets.{Each}
use Rattle.p12.specs.Collected.{HoldsBags}
use Rattle.transfer.specs.Opening.{HasVerdict, FirstCause, KeyOpens, Verdict, all_shrouded, content_share, key_share, opened}

-- The MAC of a store agrees under a password.
pub record IsMacOk (p v : List ℕ) (m : MacData) : Type 0 where
  pub known : is_mac_digest m.mac.digest_algorithm ≡ true
  pub some_rounds : 1 ≤ m.iterations
  pub agrees : mac_agrees m (bmp_password p) v ≡ true

-- The text of a store lists these contents, each opens to these bags, and the encrypted keys among
-- them to these texts.
pub record IsOpening (p v : List ℕ) (cs : List ContentInfo) (gss : List (List SafeBag))
    (ks : List (List ℕ)) : Type 0 where
  pub contents : IsContents v cs
  pub bags : Each (HoldsBags p) cs gss
  pub keys : Each (KeyOpens p) (all_shrouded gss) ks

-- the work of a store: the count of its MAC, then the share of each content, then that of each
-- encrypted key
abbrev pub work : MacData → List ContentInfo → List (List SafeBag) → ℕ
work m cs gss = m.iterations + sum_by content_share cs + sum_by key_share (all_shrouded gss)

-- A store opens to these bags and keys, by so much work, whatever the limit.
pub record StoreOpens (b p : List ℕ) (gss : List (List SafeBag)) (ks : List (List ℕ)) (n : ℕ)
    : Type 0 where
  pub short : length b ≤ store_limit
  pub store : PFX
  pub is : IsStore b store
  pub text : List ℕ
  pub is_data : store.auth_safe ≡ content.Data text
  pub mac : MacData
  pub has : store.mac_data ≡ Some mac
  pub mac_ok : IsMacOk p text mac
  pub parts : List ContentInfo
  pub opening : IsOpening p text parts gss ks
  pub work : n ≡ work mac parts gss

-- A store is valid under a password and a limit.
abbrev pub IsValid : List ℕ → List ℕ → ℕ → Type 0
IsValid b p limit = (gss : List (List SafeBag)) × (ks : List (List ℕ)) × (n : ℕ)
    × StoreOpens b p gss ks n × (n ≤ limit)

-- A table gives at most one result and one number of steps.
abbrev pub Sole : {V : Type 0} → (V → ℕ → Type 0) → Type 0
Sole {V} T = (v w : V) (m n : ℕ) → T v m → T w n → (v ≡ w) × (m ≡ n)

-- One store has one verdict, after one number of steps.
abbrev pub OneVerdict : Type 0
OneVerdict = (b p : List ℕ) (limit : ℕ) → Sole (HasVerdict b p limit)

-- A store opens in one way: to the same bags and keys, by the same work.
abbrev pub OneOpening : Type 0
OneOpening = (b p : List ℕ) (gss hss : List (List SafeBag)) (ks js : List (List ℕ)) (n m : ℕ)
    → StoreOpens b p gss ks n → StoreOpens b p hss js m → (gss ≡ hss) × (ks ≡ js) × (n ≡ m)

-- Each list of octets has a verdict, after a number of steps, under each password and each limit.
abbrev pub EachHasVerdict : Type 0
EachHasVerdict = (b p : List ℕ) (limit : ℕ) → (w : Verdict) × (n : ℕ) × HasVerdict b p limit w n

-- A store comes to be opened exactly where it opens within the limit, and then its work is the
-- number of steps.
abbrev pub OpenedExactly : Type 0
OpenedExactly = (b p : List ℕ) (limit : ℕ) (gss : List (List SafeBag)) (ks : List (List ℕ)) (n : ℕ)
    → HasVerdict b p limit (opened gss ks) n ↔ (StoreOpens b p gss ks n × (n ≤ limit))

-- No cause refuses a store exactly where it is valid.
abbrev pub ValidExactly : Type 0
ValidExactly = (b p : List ℕ) (limit : ℕ)
    → ((e : TransferError) → FirstCause b p limit (Some e) → ⊥) ↔ IsValid b p limit
