-- The store whose text is written.
use Rattle.std.specs.Prelude.{ℕ, ◌≡◌, ◌≤◌, ◌++◌, List, length, Some, true}
use Rattle.asn1_core.specs.Der.{IsShort}
use Rattle.p12.specs.Canonical.{contents_canon, store_canon}
use Rattle.p12.specs.ContentInfo.{IsContents}
use Rattle.p12.specs.MacData.{is_mac_digest, mac_of}
use Rattle.p12.specs.Pfx.{IsStore}
use Rattle.p12.specs.declared.content_info.ContentInfo.{ContentInfo}
use Rattle.p12.specs.declared.content_info.ContentInfo.TheVariants as content
use Rattle.p12.specs.declared.error.Error.{Error}
use Rattle.p12.specs.declared.error.Error.TheVariants as errors
use Rattle.p12.specs.declared.mac_data.MacData.{MacData}
use Rattle.p12.specs.declared.pfx.PFX.{PFX}
use Rattle.pkcs12_kdf.specs.Password.{bmp_password}
use Rattle.rekey_core.specs.Like.{resealing}
use Rattle.rekey_core.specs.Kinds.{MacKind, mac_for, mac_salt}
use Rattle.rekey_core.specs.declared.kinds.Kinds.{Kinds}
use Rattle.rekey_core.specs.Resealing.{EachDrawn, Reseals}
use Rattle.rekey_core.specs.Sealing.{ContentSealed}
use Rattle.rekey_core.specs.Size.{changed_size}
use Rattle.rekey_core.specs.Unlocking.{HoldsBy, KeyOpensBy, Unlocking}
use Rattle.transfer.specs.Limits.{store_limit}
use Rattle.transfer.specs.Opening.{all_shrouded}
use Rattle.asn1_core.specs.Sets.{Each}
use Rattle.p12.specs.declared.safe_bag.SafeBag.{SafeBag}

-- why a value that can be written is not
abbrev pub IsWritingRefusal : Error → Type 0
IsWritingRefusal errors.TooLong = Unit {0}
IsWritingRefusal errors.Memory = Unit {0}
IsWritingRefusal errors.Malformed = ⊥
IsWritingRefusal errors.Invalid = ⊥
IsWritingRefusal errors.Rng = ⊥

-- the store of these contents, with a MAC of this kind under the password q and a salt
abbrev pub store_anew : ℕ → MacKind → List ℕ → List ℕ → List ContentInfo → PFX
store_anew version k q salt es = record {
  version = version;
  auth_safe = content.Data (contents_canon es);
  mac_data = Some (mac_of k.digest (bmp_password q) (contents_canon es) salt k.count);
}

-- The store that is made of contents that are sealed anew is a change of the old one, however its
-- parts open, and its text is read as it.
abbrev pub MadeStoresAreChanges : Type 0
MadeStoresAreChanges =
    (to : Kinds) (u : Unlocking) (b v q : List ℕ) (s : PFX) (m : MacData) (cs es : List ContentInfo) (d salt : List ℕ)
    → IsStore b s → s.auth_safe ≡ content.Data v → s.mac_data ≡ Some m
    → is_mac_digest m.mac.digest_algorithm ≡ true → 1 ≤ m.iterations → IsContents v cs
    → EachDrawn (ContentSealed to u q) cs es d → length salt ≡ mac_salt to
    → IsShort (contents_canon es) → IsShort (store_canon (store_anew s.version (mac_for to m) q salt es))
    → Reseals u (resealing to) b (store_canon (store_anew s.version (mac_for to m) q salt es)) q (d ++ salt)

-- Its text is as long as it is stated.
abbrev pub MadeStoresAreSized : Type 0
MadeStoresAreSized =
    (to : Kinds) (u : Unlocking) (q : List ℕ) (version : ℕ) (m : MacData) (cs es : List ContentInfo)
    (gss : List (List SafeBag)) (d salt : List ℕ) → is_mac_digest m.mac.digest_algorithm ≡ true
    → EachDrawn (ContentSealed to u q) cs es d → Each (HoldsBy u) cs gss
    → length salt ≡ mac_salt to
    → length (store_canon (store_anew version (mac_for to m) q salt es))
    ≡ changed_size to version (mac_for to m) u cs gss

-- The text b is that of a store of this version and such a MAC, made of contents that are sealed anew, and
-- it is short enough.
pub record TextSealed (to : Kinds) (u : Unlocking) (q : List ℕ) (version : ℕ) (k : MacKind)
    (cs : List ContentInfo) (drawn b : List ℕ) : Type 0 where
  pub contents : List ContentInfo
  pub taken : List ℕ
  pub salt : List ℕ
  pub order : drawn ≡ taken ++ salt
  pub salt_drawn : length salt ≡ mac_salt to
  pub sealed : EachDrawn (ContentSealed to u q) cs contents taken
  pub is : b ≡ store_canon (store_anew version k q salt contents)
  pub short : length b ≤ store_limit

-- The contents hold these bags as u opens them, and these are the keys among them.
pub record HeldOpen (u : Unlocking) (cs : List ContentInfo) (gss : List (List SafeBag))
    (keys : List (List ℕ)) : Type 0 where
  pub bags : Each (HoldsBy u) cs gss
  pub are_opened : Each (KeyOpensBy u) (all_shrouded gss) keys

-- The text of a store with plain contents and a MAC.
abbrev pub IsMacked : List ℕ → Type 0
IsMacked b = (s : PFX) × (v : List ℕ) × (m : MacData) × IsStore b s × (s.auth_safe ≡ content.Data v)
    × (s.mac_data ≡ Some m)
