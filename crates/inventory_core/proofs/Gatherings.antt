-- What is gathered from bags is what the definitions say.
use Rattle.std.proofs.Common.{◌≡◌, ℕ, List, [], ◌∷◌, ◌++◌, Some, None, Result, Ok, Err, map, refl, sym, ap, ◌∙◌}
use Rattle.p12.specs.Collected.{at_most_one, certificates_among}
use Rattle.p12.specs.SafeBag.{x509_of}
use Rattle.std.specs.List.{flat_map}
use Rattle.std.proofs.lemmas.List.{map-append}
use Rattle.asn1_core.specs.Gives.{IsNone}
use Rattle.asn1_core.specs.Reading.{Fault, whole}
use Rattle.asn1_core.specs.Sets.{Each}
use Rattle.asn1_core.specs.ExactLaws.{whole-exact}
use Rattle.asn1_core.specs.StandLaws.{whole_found, whole_none}
use Rattle.p12.specs.declared.safe_bag.SafeBag.{SafeBag}
use Rattle.transfer.specs.Opening.{all_certificates}
use Rattle.inventory_core.specs.Certificate.{Certificate, CertificateText, IsCertificate}
use Rattle.inventory_core.specs.CertificateReading.{certificate_at}
use Rattle.inventory_core.specs.Gathering.{certificate_of, certificate_part, if_read}
use Rattle.inventory_core.specs.Table.{IsKept}
use Rattle.inventory_core.proofs.Certificates.{certificate_read}

-- ---- One certificate

pub read_some : (b : List ℕ) (c : Certificate) → IsCertificate b c → Some c ≡ certificate_of b
unfolding certificate_of
read_some b c h = sym (ap if_read ((whole-exact CertificateText certificate_at certificate_read).again b c h.0 h.1))

none_of : (b : List ℕ) (r : Result Certificate Fault) → whole certificate_at b ≡ r → IsNone IsCertificate b → None ≡ if_read r
none_of b (Ok c) e none = absurd (none c (whole_found CertificateText certificate_at certificate_read b c e))
none_of b (Err f) e none = refl

pub read_none : (b : List ℕ) → IsNone IsCertificate b → None ≡ certificate_of b
unfolding certificate_of
read_none b none = none_of b (whole certificate_at b) refl none

read_by : (b : List ℕ) (r : Result Certificate Fault) → whole certificate_at b ≡ r → IsKept b (if_read r)
read_by b (Ok c) e = whole_found CertificateText certificate_at certificate_read b c e
read_by b (Err f) e = whole_none CertificateText certificate_at certificate_read b f e

pub is_read : (b : List ℕ) → IsKept b (certificate_of b)
unfolding certificate_of
is_read b = read_by b (whole certificate_at b) refl

pub each_read : (bs : List (List ℕ)) → Each IsKept bs (map certificate_of bs)
each_read [] = tt
each_read (b ∷ bs) = (is_read b, each_read bs)

-- ---- All certificates

parts_in : (gs : List SafeBag) → flat_map certificate_part gs ≡ map certificate_of (certificates_among gs)
parts_in [] = refl
parts_in (g ∷ gs) = ap (λ t. certificate_part g ++ t) (parts_in gs) ∙ sym (map-append certificate_of (at_most_one (x509_of g.bag)) (certificates_among gs))

pub all_parts : (gss : List (List SafeBag)) → flat_map (λ gs. flat_map certificate_part gs) gss ≡ map certificate_of (all_certificates gss)
all_parts [] = refl
all_parts (gs ∷ gss) =
    ap (λ t. flat_map certificate_part gs ++ t) (all_parts gss) ∙ ap (λ t. t ++ map certificate_of (all_certificates gss)) (parts_in gs)
    ∙ sym (map-append certificate_of (certificates_among gs) (all_certificates gss))
