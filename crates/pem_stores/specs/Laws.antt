-- What is kept of the texts that a store is made of.
use Rattle.std.specs.Prelude.{ℕ, ◌≡◌, ◌≤◌, ◌<◌, ◌^◌, List, [], ◌∷◌, Option}
use Rattle.create_core.specs.Created.{Creates}
use Rattle.create_core.specs.Laws.{certificates_of}
use Rattle.p12.specs.declared.safe_bag.SafeBag.{SafeBag}
use Rattle.pem_stores.specs.EachOnce.{has_octets}
use Rattle.pem_stores.specs.Texts.{AreEntries}
use Rattle.pem_stores.specs.declared.text_entries.TextEntries.{TextEntries}
use Rattle.transfer.specs.Opening.{all_certificates}
use Rattle.transfer.specs.Verdicts.{StoreOpens}

-- The entries have a certificate exactly where the PEM text has it.
abbrev pub CertificatesAreKept : Type 0
CertificatesAreKept = (key certificates : List ℕ) (name password : Option (List ℕ)) (limit : ℕ)
    (e : TextEntries) (h : AreEntries key certificates name password limit e) (b : List ℕ)
    → has_octets (certificates_of e.keys.items e.further.certificates.items) b ≡ has_octets h.all b

-- A store that is made of the entries opens to the private key of the one PEM text alone, and to a
-- certificate exactly where the other has it.
abbrev pub StoresKeepTexts : Type 0
StoresKeepTexts = (key certificates : List ℕ) (name password : Option (List ℕ)) (limit : ℕ)
    (e : TextEntries) (h : AreEntries key certificates name password limit e)
    (p : List ℕ) (r : ℕ) (drawn b : List ℕ) → 1 ≤ r → r < 2 ^ 32
    → Creates e.keys.items e.further.certificates.items p r drawn b
    → (gss : List (List SafeBag)) (ks : List (List ℕ)) (n : ℕ) → StoreOpens b p gss ks n
    → (ks ≡ h.key_text ∷ [])
    × ((c : List ℕ) → has_octets (all_certificates gss) c ≡ has_octets h.all c)
