-- What the calls of a store give that collect its bags, one content after the other, or why they
-- give none.
use Rattle.std.specs.Prelude.{◌⊎◌, ◌≡◌, ℕ, List, [], ◌∷◌, ◌++◌, Option, Some, None, Bool, true, false}
use Rattle.std.specs.List.{flat_map}
use Rattle.p12.specs.AlgorithmIdentifier.{unlock}
use Rattle.p12.specs.ContentInfo.{IsContents, NoContents}
use Rattle.p12.specs.MacData.{mac_agrees}
use Rattle.pkcs12_kdf.specs.Password.{bmp_password}
use Rattle.p12.specs.SafeBag.{IsBags, NoBags, x509_of, sdsi_of}
use Rattle.p12.specs.declared.content_info.ContentInfo.{ContentInfo}
use Rattle.p12.specs.declared.content_info.ContentInfo.TheVariants as content
use Rattle.p12.specs.declared.error.Error.{Error}
use Rattle.p12.specs.declared.error.Error.TheVariants.{Malformed, Invalid, Memory}
use Rattle.p12.specs.declared.mac_data.MacData.{MacData}
use Rattle.p12.specs.declared.pfx.PFX.{PFX}
use Rattle.p12.specs.declared.safe_bag.SafeBag.{SafeBag}
use Rattle.p12.specs.declared.safe_bag.SafeBagKind.{SafeBagKind}
use Rattle.p12.specs.declared.safe_bag.SafeBagKind.TheVariants as kind

-- the plain octets of a content under the password p, in UTF-8
abbrev pub plain_text : List ℕ → ContentInfo → Option (List ℕ)
plain_text p (content.Data v) = Some v
plain_text p (content.EncryptedData d) =
    unlock d.encrypted_content_info.content_encryption_algorithm p
    d.encrypted_content_info.encrypted_content
plain_text p (content.OtherContext o) = None

-- a content opens to octets that list these bags
abbrev pub HoldsBags : List ℕ → ContentInfo → List SafeBag → Type 0
HoldsBags p c gs = (m : List ℕ) × (plain_text p c ≡ Some m) × IsBags m gs

-- why it gives none: Invalid where it does not open, Malformed where it opens to octets that list
-- no bags
abbrev pub ContentFault : List ℕ → ContentInfo → Error → Type 0
ContentFault p c e = ((plain_text p c ≡ None) × (e ≡ Invalid))
    ⊎ ((m : List ℕ) × (plain_text p c ≡ Some m) × NoBags m × (e ≡ Malformed))

-- these are the bags of all contents, in order
abbrev pub HoldAll : List ℕ → List ContentInfo → List SafeBag → Type 0
HoldAll p [] gs = gs ≡ []
HoldAll p (c ∷ cs) gs = (first more : List SafeBag) × HoldsBags p c first × HoldAll p cs more
    × (gs ≡ first ++ more)

-- this is the fault of the first content that has one
abbrev pub FirstFault : List ℕ → List ContentInfo → Error → Type 0
FirstFault p [] e = ⊥
FirstFault p (c ∷ cs) e = ContentFault p c e
    ⊎ ((gs : List SafeBag) × HoldsBags p c gs × FirstFault p cs e)

-- a store's outer content opens to a list of contents, which hold these bags
abbrev pub StoreHolds : List ℕ → PFX → List SafeBag → Type 0
StoreHolds p s gs = (v : List ℕ) × (cs : List ContentInfo) × (plain_text p s.auth_safe ≡ Some v)
    × IsContents v cs × HoldAll p cs gs

-- the first fault in the order of the store: of the outer content, of the list, of a content
abbrev pub StoreFault : List ℕ → PFX → Error → Type 0
StoreFault p s e =
    ((plain_text p s.auth_safe ≡ None) × (e ≡ Invalid))
    ⊎ ((v : List ℕ) × (plain_text p s.auth_safe ≡ Some v)
    × ((NoContents v × (e ≡ Malformed))
    ⊎ ((cs : List ContentInfo) × IsContents v cs × FirstFault p cs e)))

-- a refusal: the fault F, or Memory at any point
abbrev pub Refuses : (Error → Type 0) → Error → Type 0
Refuses F e = (e ≡ Memory) ⊎ F e

-- ---- what is taken from the bags

abbrev pub at_most_one : {A : Type 0} → Option A → List A
at_most_one None = []
at_most_one (Some x) = x ∷ []

-- the X.509 certificates, in order
abbrev pub certificates_among : List SafeBag → List (List ℕ)
certificates_among gs = flat_map (λ (g : SafeBag). at_most_one (x509_of g.bag)) gs

-- the SDSI certificates, in order
abbrev pub sdsi_among : List SafeBag → List (List ℕ)
sdsi_among gs = flat_map (λ (g : SafeBag). at_most_one (sdsi_of g.bag)) gs

-- the plain octets of an encrypted key under the password p, in UTF-8
abbrev pub key_text : List ℕ → SafeBagKind → Option (List ℕ)
key_text p (kind.CertBag c) = None
key_text p (kind.Pkcs8ShroudedKeyBag e) = unlock e.encryption_algorithm p e.encrypted_data
key_text p (kind.OtherBagKind o) = None

-- those of the encrypted keys that open, in order
abbrev pub keys_among : List ℕ → List SafeBag → List (List ℕ)
keys_among p gs = flat_map (λ (g : SafeBag). at_most_one (key_text p g.bag)) gs

-- ---- the MAC of a store

-- whether a store of these opened octets has no MAC, or one that agrees; one whose octets do not
-- open has none that agrees
abbrev pub agrees_over : List ℕ → Option MacData → Option (List ℕ) → Bool
agrees_over p None v = true
agrees_over p (Some m) None = false
agrees_over p (Some m) (Some v) = mac_agrees m (bmp_password p) v

abbrev pub store_agrees : List ℕ → PFX → Bool
store_agrees p s = agrees_over p s.mac_data (plain_text p s.auth_safe)
