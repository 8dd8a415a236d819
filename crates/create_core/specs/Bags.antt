-- The bags of a store.
use Rattle.std.specs.Prelude.{ℕ, ◌≡◌, List, [], ◌∷◌, ◌++◌, map, Option, Some, None, IfSome, ⊤}
use Rattle.std.specs.List.{slice_get}
use Rattle.std.specs.Str.{IsUtf8}
use Rattle.sha1.specs.Sha1.{sha1}
use Rattle.p12.specs.Building.{certificate_bag}
use Rattle.p12.specs.declared.attribute.PKCS12Attribute.{PKCS12Attribute}
use Rattle.p12.specs.declared.attribute.PKCS12Attribute.TheVariants.{FriendlyName, LocalKeyId}
use Rattle.p12.specs.declared.safe_bag.SafeBag.{SafeBag}
use Rattle.p12.specs.declared.safe_bag.SafeBagKind.TheVariants as kind
use Rattle.transfer.specs.Opening.{IsKeyText, key_with}
use Rattle.create_core.specs.Parts.{Seals, under}
use Rattle.sealing_core.specs.declared.drawn.IvAndSalt.{IvAndSalt}
use Rattle.create_core.specs.declared.entry.CertificateEntry.{CertificateEntry}
use Rattle.create_core.specs.declared.entry.KeyEntry.{KeyEntry}

-- ---- what is asked

-- the key is the text of a private key
abbrev pub HasKeyText : KeyEntry → Type 0
HasKeyText e = IsKeyText e.key

-- a name, where there is one, is UTF-8
abbrev pub IsTextName : Option (List ℕ) → Type 0
IsTextName name = IfSome name IsUtf8

abbrev pub IsNamedInText : KeyEntry → Type 0
IsNamedInText e = IsTextName e.name

abbrev pub IsCertificateNamedInText : CertificateEntry → Type 0
IsCertificateNamedInText c = IsTextName c.name

-- ---- certificates

abbrev pub name_attributes : Option (List ℕ) → List PKCS12Attribute
name_attributes None = []
name_attributes (Some t) = FriendlyName t ∷ []

-- of a key and of its certificate: the name, and the SHA-1 of the certificate, by which a key finds
-- it
abbrev pub own_attributes : KeyEntry → List PKCS12Attribute
own_attributes e = name_attributes e.name ++ LocalKeyId (sha1 e.certificate) ∷ []

abbrev pub own_certificate_bag : KeyEntry → SafeBag
own_certificate_bag e = certificate_bag (own_attributes e) e.certificate

abbrev pub further_bag : CertificateEntry → SafeBag
further_bag c = certificate_bag (name_attributes c.name) c.certificate

-- those of the keys first
abbrev pub certificate_bags : List KeyEntry → List CertificateEntry → List SafeBag
certificate_bags keys certificates = map own_certificate_bag keys ++ map further_bag certificates

-- ---- keys

-- the key of an entry, of which c is encrypted
abbrev pub key_bag : ℕ → KeyEntry → IvAndSalt → List ℕ → SafeBag
key_bag r e d c = record {
  bag = kind.Pkcs8ShroudedKeyBag (key_with (under r d) c);
  attributes = own_attributes e;
}

-- The bag holds the key of the entry, sealed under what was drawn for it.
pub record IsKeySealed (r : ℕ) (p : List ℕ) (e : KeyEntry) (d : IvAndSalt) (g : SafeBag)
    : Type 0 where
  pub ciphertext : List ℕ
  pub seals : Seals r p d e.key ciphertext
  pub is : g ≡ key_bag r e d ciphertext

-- One bag for each key, in order, each under what was drawn for it.
abbrev pub KeysSealed : ℕ → List ℕ → List KeyEntry → List IvAndSalt → List SafeBag → Type 0
KeysSealed r p [] [] [] = ⊤
KeysSealed r p [] [] (g ∷ gs) = ⊥
KeysSealed r p [] (d ∷ ds) gs = ⊥
KeysSealed r p (e ∷ es) [] gs = ⊥
KeysSealed r p (e ∷ es) (d ∷ ds) [] = ⊥
KeysSealed r p (e ∷ es) (d ∷ ds) (g ∷ gs) = IsKeySealed r p e d g × KeysSealed r p es ds gs

-- the same of one key, under what was drawn at this place
abbrev pub IsKeySealedAt : ℕ → List ℕ → KeyEntry → List IvAndSalt → ℕ → SafeBag → Type 0
IsKeySealedAt r p e ds place g = (d : IvAndSalt) × (slice_get ds place ≡ Some d)
    × IsKeySealed r p e d g
