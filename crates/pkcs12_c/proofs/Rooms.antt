-- The text of what a store opens to is no longer than five times the store.
use Rattle.std.proofs.Common.{◌≡◌, ℕ, ◌+◌, ◌*◌, ◌≤◌, List, [], ◌∷◌, length, refl, ap, arith, length-append}
use Rattle.std.specs.Prelude.{codes}
use Rattle.std.specs.List.{flat_map}
use Rattle.std.proofs.lemmas.List.Sums.{sum_by-cons}
use Rattle.asn1_core.specs.Sets.{Each}
use Rattle.p12.specs.declared.encrypted_private_key_info.EncryptedPrivateKeyInfo.{EncryptedPrivateKeyInfo}
use Rattle.pem_text.specs.Pem.{pem}
use Rattle.transfer.specs.Limits.{rounds_limit, store_limit}
use Rattle.transfer.specs.Opening.{KeyOpens, all_certificates, all_shrouded}
use Rattle.transfer.specs.Sealing.{AreDrawn}
use Rattle.transfer.proofs.Valid.{verdict_open}
use Rattle.pkcs12_c.specs.PemText.{certificate_texts}
use Rattle.pkcs12_c.specs.Room.{ChangesDrawWithin, OpeningsFit, StoresOutnumber, TransfersFit}
use Rattle.pkcs12_c.proofs.DocumentLengths.{KeysAreShortest, document_size}
use Rattle.pkcs12_c.proofs.PemLengths.{pem_size}
use Rattle.pkcs12_c.proofs.BagLengths.{certificate_room, certificates_room, key_room, keys_room}
use Rattle.pkcs12_c.proofs.KeyLengths.{KeyTakes, TripleDesLengths, key_takes}
use Rattle.pkcs12_c.proofs.StoreLengths.{change_takes, store_takes}

-- ---- texts

certificate_fits : (v : List ℕ) → length (pem (codes "CERTIFICATE") v) ≤ 5 * certificate_room v
certificate_fits v = let label : length (codes "CERTIFICATE") ≡ 11 = refl in omega (arith, pem_size (codes "CERTIFICATE") v, label)

certificates_fit : (vs : List (List ℕ)) → length (certificate_texts vs) ≤ 5 * certificates_room vs
certificates_fit [] = omega arith
certificates_fit (v ∷ vs) = omega (arith, sum_by-cons certificate_room v vs, length-append (pem (codes "CERTIFICATE") v) (certificate_texts vs), certificate_fits v, certificates_fit vs)

key_fits : (k : EncryptedPrivateKeyInfo) (m : List ℕ) → KeyTakes k m → length (pem (codes "PRIVATE KEY") m) ≤ 5 * key_room k
key_fits k m t = let label : length (codes "PRIVATE KEY") ≡ 11 = refl in omega (arith, pem_size (codes "PRIVATE KEY") m, label, t.longer)

document_fits : (k : EncryptedPrivateKeyInfo) (m d : List ℕ) → KeyTakes k m → length d ≤ 127 + length m → length (pem (codes "ENCRYPTED PRIVATE KEY") d) ≤ 5 * key_room k
document_fits k m d t size = let label : length (codes "ENCRYPTED PRIVATE KEY") ≡ 21 = refl in omega (arith, pem_size (codes "ENCRYPTED PRIVATE KEY") d, label, t.some, t.longer, size)

module _ (shortest : KeysAreShortest) (triple : TripleDesLengths) (p : List ℕ) where
  keys_fit : (ks : List EncryptedPrivateKeyInfo) (ms : List (List ℕ)) → Each (KeyOpens p) ks ms → length (flat_map (pem (codes "PRIVATE KEY")) ms) ≤ 5 * keys_room ks
  keys_fit [] [] each = omega arith
  keys_fit [] (m ∷ ms) each = absurd each
  keys_fit (k ∷ ks) [] each = absurd each
  keys_fit (k ∷ ks) (m ∷ ms) each =
      omega (arith, sum_by-cons key_room k ks, length-append (pem (codes "PRIVATE KEY") m) (flat_map (pem (codes "PRIVATE KEY")) ms), key_fits k m (key_takes shortest triple p k m each.0), keys_fit ks ms each.1)

  documents_fit : (rounds : ℕ) (q : List ℕ) (ks : List EncryptedPrivateKeyInfo) (ms ds : List (List ℕ)) (drawn : List ℕ) → rounds ≤ rounds_limit → keys_room ks ≤ store_limit
      → Each (KeyOpens p) ks ms → AreDrawn rounds q ms ds drawn → length (flat_map (pem (codes "ENCRYPTED PRIVATE KEY")) ds) ≤ 5 * keys_room ks
  documents_fit rounds q [] [] [] drawn most short each are = omega arith
  documents_fit rounds q [] [] (d ∷ ds) drawn most short each are = absurd are
  documents_fit rounds q [] (m ∷ ms) ds drawn most short each are = absurd each
  documents_fit rounds q (k ∷ ks) [] ds drawn most short each are = absurd each
  documents_fit rounds q (k ∷ ks) (m ∷ ms) [] drawn most short each are = absurd are
  documents_fit rounds q (k ∷ ks) (m ∷ ms) (d ∷ ds) drawn most short each (first, rest, split, one, more) =
      let t = key_takes shortest triple p k m each.0 in
      let sum = sum_by-cons key_room k ks in
      let size = document_size shortest rounds one.iv one.salt q m d most one.of_16 one.and_16 (omega (arith, sum, short, t.longer)) one.is in
      omega (
        arith,
        sum,
        length-append (pem (codes "ENCRYPTED PRIVATE KEY") d) (flat_map (pem (codes "ENCRYPTED PRIVATE KEY")) ds),
        document_fits k m d t size,
        documents_fit rounds q ks ms ds rest most (omega (arith, sum, short)) each.1 more,
      )

  -- each key takes more than 32 octets
  keys_outnumbered : (ks : List EncryptedPrivateKeyInfo) (ms : List (List ℕ)) → Each (KeyOpens p) ks ms → 32 * length ms ≤ keys_room ks
  keys_outnumbered [] [] each = omega arith
  keys_outnumbered [] (m ∷ ms) each = absurd each
  keys_outnumbered (k ∷ ks) [] each = absurd each
  keys_outnumbered (k ∷ ks) (m ∷ ms) each = omega (arith, sum_by-cons key_room k ks, (key_takes shortest triple p k m each.0).longer, keys_outnumbered ks ms each.1)

-- ---- stores

pub transfers_fit : KeysAreShortest → TripleDesLengths → TransfersFit
transfers_fit shortest triple b p q random limit rounds certificates documents most d =
    let t = d.transfers in
    let o = (verdict_open b p limit t.bags t.keys t.work t.verdict).0 in
    let takes = store_takes triple b p t.bags t.keys t.work o in
    let second = documents_fit shortest triple p rounds q (all_shrouded t.bags) t.keys documents t.sealed.drawn most (omega (arith, takes, o.short)) o.opening.keys t.sealed.by in
    omega (
      arith,
      length-append (certificate_texts certificates) (flat_map (pem (codes "ENCRYPTED PRIVATE KEY")) documents),
      ap (λ vs. length (certificate_texts vs)) t.in_order,
      certificates_fit (all_certificates t.bags),
      second,
      takes,
      o.short,
    )

pub openings_fit : KeysAreShortest → TripleDesLengths → OpeningsFit
openings_fit shortest triple b p limit bags keys (n, o, within) =
    omega (
      arith,
      length-append (certificate_texts (all_certificates bags)) (flat_map (pem (codes "PRIVATE KEY")) keys),
      certificates_fit (all_certificates bags),
      keys_fit shortest triple p (all_shrouded bags) keys o.opening.keys,
      store_takes triple b p bags keys n o,
      o.short,
    )

pub stores_outnumber : KeysAreShortest → TripleDesLengths → StoresOutnumber
stores_outnumber shortest triple b p random limit (bags, keys, n, verdict, within, short) =
    let o = (verdict_open b p limit bags keys n verdict).0 in
    omega (arith, short, keys_outnumbered shortest triple p (all_shrouded bags) keys o.opening.keys, store_takes triple b p bags keys n o)

pub changes_draw_within : TripleDesLengths → ChangesDrawWithin
changes_draw_within triple b p limit a = change_takes triple b p a.bags a.keys a.work a.opens
