-- What a store holds, line by line: a line for each certificate, then a line for each private key.
use Rattle.std.specs.Prelude.{ℕ, ◌≡◌, List, ◌++◌, Option, Some, None, map}
use Rattle.p12.specs.Collected.{at_most_one}
use Rattle.std.specs.List.{flat_map}
use Rattle.asn1_core.specs.Gives.{IsNone}
use Rattle.asn1_core.specs.Sets.{Each}
use Rattle.frame.specs.DueText.{joined}
use Rattle.p12.specs.SafeBag.{first_key_id, x509_of}
use Rattle.p12.specs.declared.safe_bag.SafeBag.{SafeBag}
use Rattle.transfer.specs.Opening.{all_certificates, shrouded_in}
use Rattle.inventory_core.specs.Certificate.{Certificate, IsCertificate}
use Rattle.inventory_core.specs.Lines.{AreLines, CertificateLine, KeyLine}

-- What is kept of the certificate whose text these octets are; none where they are that of none.
abbrev pub IsKept : List ℕ → Option Certificate → Type 0
IsKept b None = IsNone IsCertificate b
IsKept b (Some c) = IsCertificate b c

-- ---- Which certificate a key has

-- the first local key id of a bag, if it has a certificate and if it has an encrypted key
abbrev pub certificate_id : SafeBag → List (Option (List ℕ))
certificate_id g = map (λ certificate. first_key_id g.attributes) (at_most_one (x509_of g.bag))

abbrev pub key_id : SafeBag → List (Option (List ℕ))
key_id g = map (λ key. first_key_id g.attributes) (shrouded_in g.bag)

-- those of all contents, in order
abbrev pub certificate_ids : List (List SafeBag) → List (Option (List ℕ))
certificate_ids gss = flat_map (λ gs. flat_map certificate_id gs) gss

abbrev pub key_ids : List (List SafeBag) → List (Option (List ℕ))
key_ids gss = flat_map (λ gs. flat_map key_id gs) gss

-- ---- The table

-- The text is the table of a store that opens to these bags.
pub record IsTable (bags : List (List SafeBag)) (text : List ℕ) : Type 0 where
  pub certificates : List (Option Certificate)
  pub read : Each IsKept (all_certificates bags) certificates
  pub certificate_lines : List (List ℕ)
  pub for_certificates : AreLines (CertificateLine certificates) 0 certificates certificate_lines
  pub key_lines : List (List ℕ)
  pub for_keys : AreLines (KeyLine certificates (certificate_ids bags)) 0 (key_ids bags) key_lines
  pub is : text ≡ joined (certificate_lines ++ key_lines)
