-- How many octets of a store the bags of certificates and of encrypted keys take.
use Rattle.std.proofs.Common.{◌≡◌, ℕ, ◌+◌, ◌≤◌, List, [], ◌∷◌, length, ap, arith, length-append}
use Rattle.std.specs.List.{sum_by}
use Rattle.std.proofs.lemmas.List.Sums.{sum_by-append}
use Rattle.asn1_core.specs.Der.{oid, octets}
use Rattle.asn1_core.specs.Oid.{oid_octets}
use Rattle.asn1_core.specs.Texts.{Many, Oid}
use Rattle.asn1_core.specs.declared.identifier.ObjectIdentifier.{ObjectIdentifier}
use Rattle.pkcs5.specs.Kinds.{cipher_oid, iv_of}
use Rattle.pkcs5.specs.Parameters.{ParametersText}
use Rattle.pkcs5.specs.declared.pbes2.parameters.Parameters.{Parameters}
use Rattle.p12.specs.declared.algorithm_identifier.AlgorithmIdentifier.{AlgorithmIdentifier}
use Rattle.p12.specs.declared.algorithm_identifier.AlgorithmIdentifier.TheVariants.{Sha1, Sha256, PbewithSHAAnd40BitRC2CBC, PbeWithSHAAnd3KeyTripleDESCBC, Pbes2, OtherAlg}
use Rattle.p12.specs.declared.cert_bag.CertBag.TheVariants.{X509, SDSI}
use Rattle.p12.specs.declared.encrypted_private_key_info.EncryptedPrivateKeyInfo.{EncryptedPrivateKeyInfo}
use Rattle.p12.specs.declared.pkcs12_pbe_params.Pkcs12PbeParams.{Pkcs12PbeParams}
use Rattle.p12.specs.declared.safe_bag.SafeBag.{SafeBag}
use Rattle.p12.specs.declared.safe_bag.SafeBagKind.{SafeBagKind}
use Rattle.p12.specs.declared.safe_bag.SafeBagKind.TheVariants as kind
use Rattle.p12.specs.AlgorithmIdentifier.{AlgorithmCase, AlgorithmText, ParamsText}
use Rattle.p12.specs.CertBag.{CertBagText}
use Rattle.p12.specs.Collected.{at_most_one, certificates_among}
use Rattle.p12.specs.EncryptedPrivateKeyInfo.{EncryptedKeyText}
use Rattle.p12.specs.SafeBag.{BagText, IsBags, KindCase, x509_of}
use Rattle.transfer.specs.Opening.{shrouded_among, shrouded_in}
use Rattle.pkcs12_c.proofs.ElementLengths.{el_least}

-- ---- what parts take

-- at least so many octets of an algorithm, of those that open
abbrev pub algorithm_room : AlgorithmIdentifier → ℕ
algorithm_room Sha1 = 0
algorithm_room Sha256 = 0
algorithm_room (PbewithSHAAnd40BitRC2CBC p) = 0
algorithm_room (PbeWithSHAAnd3KeyTripleDESCBC p) = 20
algorithm_room (Pbes2 par) = 20
algorithm_room (OtherAlg o) = 0

-- of the bag of an encrypted key, and of that of a certificate
abbrev pub key_room : EncryptedPrivateKeyInfo → ℕ
key_room k = 21 + algorithm_room k.encryption_algorithm + length k.encrypted_data

abbrev pub certificate_room : List ℕ → ℕ
certificate_room v = 35 + length v

-- of both
abbrev pub keys_room : List EncryptedPrivateKeyInfo → ℕ
keys_room = sum_by key_room

abbrev pub certificates_room : List (List ℕ) → ℕ
certificates_room = sum_by certificate_room

-- ---- algorithms

oid_least : (b : List ℕ) (k : ObjectIdentifier) (octets : List ℕ) → oid_octets k ≡ octets → Oid b k → 2 + length octets ≤ length b
oid_least b k octets same r = omega (arith, ap length r.2, el_least 0x06 r.0, ap length r.1, ap length same)

params_least : (b : List ℕ) (p : Pkcs12PbeParams) → ParamsText b p → 6 ≤ length b
params_least b p r =
    let salt = r.1 in
    let count = salt.3 in
    omega (
      arith,
      ap length r.2,
      el_least 0x30 r.0,
      ap length salt.4,
      length-append salt.0 salt.1,
      ap length salt.2.2,
      el_least 0x04 salt.2.0,
      ap length count.4,
      length-append count.0 count.1,
      ap length count.2.2,
      el_least 0x02 count.2.0,
    )

scheme_least : (b : List ℕ) (par : Parameters) → ParametersText b par → 7 ≤ length b
scheme_least b par r =
    let parts = r.1 in
    let derivation = parts.2 in
    let cipher = parts.3 in
    let named = oid (cipher_oid par.encryption) in
    omega (
      arith,
      ap length r.2,
      el_least 0x30 r.0,
      ap length parts.4,
      length-append parts.0 parts.1,
      ap length derivation.2,
      el_least 0x30 derivation.0,
      ap length cipher.2,
      el_least 0x30 cipher.0,
      ap length cipher.1.1,
      length-append named (octets (iv_of par.encryption)),
      el_least 0x06 (cipher_oid par.encryption),
    )

case_least : (k : ObjectIdentifier) (p q : List ℕ) (a : AlgorithmIdentifier) → Oid p k → AlgorithmCase k q a → algorithm_room a ≤ 2 + length p + length q
case_least k p q Sha1 named r = omega arith
case_least k p q Sha256 named r = omega arith
case_least k p q (PbewithSHAAnd40BitRC2CBC params) named r = omega arith
case_least k p q (PbeWithSHAAnd3KeyTripleDESCBC params) named r = omega (arith, oid_least p k _ r.0 named, params_least q params r.1)
case_least k p q (Pbes2 par) named r = omega (arith, oid_least p k _ r.0 named, scheme_least q par r.1)
case_least k p q (OtherAlg o) named r = omega arith

pub algorithm_least : (b : List ℕ) (a : AlgorithmIdentifier) → AlgorithmText b a → algorithm_room a ≤ length b
algorithm_least b a r =
    let on = r.1 in
    omega (arith, ap length r.2, el_least 0x30 r.0, ap length on.5, length-append on.0 on.1, case_least on.2 on.0 on.1 a on.3 on.4)

-- ---- bags

encrypted_key_least : (b : List ℕ) (e : EncryptedPrivateKeyInfo) → EncryptedKeyText b e → 4 + algorithm_room e.encryption_algorithm + length e.encrypted_data ≤ length b
encrypted_key_least b e r =
    let algorithm = r.1 in
    let text = algorithm.3 in
    omega (
      arith,
      ap length r.2,
      el_least 0x30 r.0,
      ap length algorithm.4,
      length-append algorithm.0 algorithm.1,
      algorithm_least algorithm.0 _ algorithm.2,
      ap length text.4,
      length-append text.0 text.1,
      ap length text.2.2,
      el_least 0x04 text.2.0,
      ap length text.2.1,
    )

x509_least : (b v : List ℕ) → CertBagText b (X509 v) → 18 + length v ≤ length b
x509_least b v r =
    let on = r.1 in
    let value = on.4.1 in
    let inside = value.1 in
    omega (
      arith,
      ap length r.2,
      el_least 0x30 r.0,
      ap length on.5,
      length-append on.0 on.1,
      oid_least on.0 on.2 _ on.4.0 on.3,
      ap length value.2,
      el_least 0xa0 value.0,
      ap length inside.2,
      el_least 0x04 inside.0,
      ap length inside.1,
    )

-- what the value of a bag gives
abbrev keys_in : SafeBagKind → ℕ
keys_in v = keys_room (shrouded_in v)

abbrev certificates_in : SafeBagKind → ℕ
certificates_in v = certificates_room (at_most_one (x509_of v))

kind_least : (k : ObjectIdentifier) (p q : List ℕ) (v : SafeBagKind) → Oid p k → KindCase k q v → keys_in v + certificates_in v ≤ 4 + length p + length q
kind_least k p q (kind.CertBag (X509 v)) named r = omega (arith, oid_least p k _ r.0 named, x509_least q v r.1)
kind_least k p q (kind.CertBag (SDSI t)) named r = omega arith
kind_least k p q (kind.Pkcs8ShroudedKeyBag e) named r = omega (arith, oid_least p k _ r.0 named, encrypted_key_least q e r.1)
kind_least k p q (kind.OtherBagKind o) named r = omega arith

bag_least : (b : List ℕ) (g : SafeBag) → BagText b g → keys_in g.bag + certificates_in g.bag ≤ length b
bag_least b g r =
    let on = r.1 in
    let value = on.4 in
    let inside = value.2 in
    omega (
      arith,
      ap length r.2,
      el_least 0x30 r.0,
      ap length on.5,
      length-append on.0 on.1,
      ap length value.4,
      length-append value.0 value.1,
      ap length inside.2,
      el_least 0xa0 inside.0,
      kind_least on.2 on.0 inside.0 g.bag on.3 inside.1,
    )

many_bags_least : (b : List ℕ) (gs : List SafeBag) → Many BagText b gs → keys_room (shrouded_among gs) + certificates_room (certificates_among gs) ≤ length b
many_bags_least b [] r = omega arith
many_bags_least b (g ∷ gs) (p, q, one, more, e) =
    omega (
      arith,
      ap length e,
      length-append p q,
      bag_least p g one,
      many_bags_least q gs more,
      sum_by-append key_room (shrouded_in g.bag) (shrouded_among gs),
      sum_by-append certificate_room (at_most_one (x509_of g.bag)) (certificates_among gs),
    )

pub bags_least : (b : List ℕ) (gs : List SafeBag) → IsBags b gs → keys_room (shrouded_among gs) + certificates_room (certificates_among gs) ≤ length b
unfolding IsBags
bags_least b gs r = let w = r.0 in omega (arith, ap length w.2, el_least 0x30 w.0, many_bags_least w.0 gs w.1)
