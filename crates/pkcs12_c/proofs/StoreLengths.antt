-- How many octets of a store its certificates and its encrypted keys take, and what a change of its password draws.
use Rattle.std.proofs.Common.{◌≡◌, ℕ, ◌+◌, ◌≤◌, List, [], ◌∷◌, length, Some, ap, subst, arith, length-append}
use Rattle.std.specs.List.{sum_by}
use Rattle.std.proofs.lemmas.List.Sums.{sum_by-append, sum_by-cons}
use Rattle.asn1_core.specs.Sets.{Each}
use Rattle.asn1_core.specs.Texts.{Many}
use Rattle.asn1_core.specs.declared.identifier.ObjectIdentifier.{ObjectIdentifier}
use Rattle.p12.specs.declared.algorithm_identifier.AlgorithmIdentifier.{AlgorithmIdentifier}
use Rattle.p12.specs.declared.algorithm_identifier.AlgorithmIdentifier.TheVariants.{Sha1, Sha256, PbewithSHAAnd40BitRC2CBC, PbeWithSHAAnd3KeyTripleDESCBC, Pbes2, OtherAlg}
use Rattle.p12.specs.declared.content_info.ContentInfo.{ContentInfo}
use Rattle.p12.specs.declared.content_info.ContentInfo.TheVariants as content
use Rattle.p12.specs.declared.encrypted_private_key_info.EncryptedPrivateKeyInfo.{EncryptedPrivateKeyInfo}
use Rattle.p12.specs.declared.pfx.PFX.{PFX}
use Rattle.p12.specs.declared.safe_bag.SafeBag.{SafeBag}
use Rattle.p12.specs.Collected.{HoldsBags, certificates_among, plain_text}
use Rattle.p12.specs.ContentInfo.{ContentCase, ContentText, IsContents, held}
use Rattle.p12.specs.EncryptedData.{EncryptedDataText}
use Rattle.p12.specs.Pfx.{IsStore}
use Rattle.p12.specs.declared.encrypted_data.EncryptedData.{EncryptedData}
use Rattle.p12.proofs.Fits.{Fits, inside_fits, value_fits}
use Rattle.rekey_core.specs.Anew.{change_draws, content_draws, drawn_for, key_draws}
use Rattle.rekey_core.specs.declared.kinds.Kinds.TheVariants.{Kept}
use Rattle.transfer.specs.Opening.{all_certificates, all_shrouded, shrouded_among}
use Rattle.transfer.specs.Verdicts.{StoreOpens}
use Rattle.pkcs12_c.proofs.BagLengths.{algorithm_least, algorithm_room, bags_least, certificate_room, certificates_room, key_room, keys_room}
use Rattle.pkcs12_c.proofs.ElementLengths.{el_least}
use Rattle.pkcs12_c.proofs.KeyLengths.{TripleDesLengths, opened_shorter}

-- ---- contents

-- what is drawn for a part when its store is changed is less than its algorithm and what is around it take
drawn_within : (a : AlgorithmIdentifier) → drawn_for a ≤ 12 + algorithm_room a
drawn_within Sha1 = omega arith
drawn_within Sha256 = omega arith
drawn_within (PbewithSHAAnd40BitRC2CBC p) = omega arith
drawn_within (PbeWithSHAAnd3KeyTripleDESCBC p) = omega arith
drawn_within (Pbes2 par) = omega arith
drawn_within (OtherAlg o) = omega arith

encrypted_least : (b : List ℕ) (d : EncryptedData) → EncryptedDataText b d
    → 10 + algorithm_room d.encrypted_content_info.content_encryption_algorithm + length d.encrypted_content_info.encrypted_content ≤ length b
encrypted_least b d r =
    let version = r.1 in
    let info = version.3 in
    let e = info.2 in
    let named = e.1 in
    let algorithm = named.3 in
    let text = algorithm.3 in
    let inner : 4 + algorithm_room d.encrypted_content_info.content_encryption_algorithm + length d.encrypted_content_info.encrypted_content ≤ length e.0 =
    omega (
      arith,
      ap length named.4,
      length-append named.0 named.1,
      ap length named.2.2,
      el_least 0x06 named.2.0,
      ap length algorithm.4,
      length-append algorithm.0 algorithm.1,
      algorithm_least algorithm.0 _ algorithm.2,
      ap length text.4,
      length-append text.0 text.1,
      ap length text.2.2,
      el_least 0x80 text.2.0,
      ap length text.2.1,
    ) in
    omega (
      arith,
      ap length r.2,
      el_least 0x30 r.0,
      ap length version.4,
      length-append version.0 version.1,
      ap length version.2.2,
      el_least 0x02 version.2.0,
      ap length info.4,
      length-append info.0 info.1,
      ap length e.2,
      el_least 0x30 e.0,
      inner,
    )

case_holds : (k : ObjectIdentifier) (q : List ℕ) (c : ContentInfo) → ContentCase k q c → content_draws Kept c + length (held c) ≤ length q
case_holds k q (content.Data v) r = let w = r.1 in omega (arith, inside_fits 0x04 w.0 v w.1, value_fits 0xa0 w.0 q w.2)
case_holds k q (content.EncryptedData d) r =
    let w = r.1 in
    omega (arith, encrypted_least w.0 d w.1, drawn_within d.encrypted_content_info.content_encryption_algorithm, ap length w.2, el_least 0xa0 w.0)
case_holds k q (content.OtherContext o) r = let w = r.3 in omega (arith, ap length w.2, el_least 0xa0 w.0, ap length w.1.0)

content_holds : (b : List ℕ) (c : ContentInfo) → ContentText b c → 4 + content_draws Kept c + length (held c) ≤ length b
content_holds b c r =
    let on = r.1 in
    omega (arith, ap length r.2, el_least 0x30 r.0, ap length on.5, length-append on.0 on.1, ap length on.3.2, el_least 0x06 on.3.0, case_holds on.2 on.1 c on.4)

some_is : (v m : List ℕ) → Some v ≡ Some m → v ≡ m
some_is v m e = cc

plain_fits : TripleDesLengths → (p m : List ℕ) (c : ContentInfo) → plain_text p c ≡ Some m → Fits m (held c)
plain_fits triple p m (content.Data v) e = omega (arith, ap length (some_is v m e))
plain_fits triple p m (content.EncryptedData d) e = omega (arith, (opened_shorter triple _ p _ m e).0)
plain_fits triple p m (content.OtherContext o) e = absurd cc

many_contents_least : TripleDesLengths → (p b : List ℕ) (cs : List ContentInfo) (gss : List (List SafeBag)) → Many ContentText b cs → Each (HoldsBags p) cs gss
    → sum_by (content_draws Kept) cs + keys_room (all_shrouded gss) + certificates_room (all_certificates gss) ≤ length b
many_contents_least triple p b [] [] r each = omega arith
many_contents_least triple p b [] (gs ∷ gss) r each = absurd each
many_contents_least triple p b (c ∷ cs) [] r each = absurd each
many_contents_least triple p b (c ∷ cs) (gs ∷ gss) (t, q, one, more, e) ((m, plain, bags), each) =
    omega (
      arith,
      sum_by-cons (content_draws Kept) c cs,
      ap length e,
      length-append t q,
      content_holds t c one,
      plain_fits triple p m c plain,
      bags_least m gs bags,
      many_contents_least triple p q cs gss more each,
      sum_by-append key_room (shrouded_among gs) (all_shrouded gss),
      sum_by-append certificate_room (certificates_among gs) (all_certificates gss),
    )

contents_least : TripleDesLengths → (p b : List ℕ) (cs : List ContentInfo) (gss : List (List SafeBag)) → IsContents b cs → Each (HoldsBags p) cs gss
    → sum_by (content_draws Kept) cs + keys_room (all_shrouded gss) + certificates_room (all_certificates gss) ≤ length b
unfolding IsContents
contents_least triple p b cs gss r each = let w = r.0 in omega (arith, ap length w.2, el_least 0x30 w.0, many_contents_least triple p w.0 cs gss w.1 each)

-- ---- stores

data_least : (b v : List ℕ) (c : ContentInfo) → ContentText b c → c ≡ content.Data v → 4 + length v ≤ length b
data_least b v c r is = let P : ContentInfo → Type 0 = λ c. ContentText b c in content_holds b (content.Data v) (subst P is r)

text_least : (b v : List ℕ) (s : PFX) → IsStore b s → s.auth_safe ≡ content.Data v → 8 + length v ≤ length b
unfolding IsStore
text_least b v s p is =
    let r = p.0 in
    let version = r.1 in
    let safe = version.3 in
    omega (
      arith,
      ap length r.2,
      el_least 0x30 r.0,
      ap length version.4,
      length-append version.0 version.1,
      ap length version.2.2,
      el_least 0x02 version.2.0,
      ap length safe.4,
      length-append safe.0 safe.1,
      data_least safe.0 v s.auth_safe safe.2 is,
    )

-- What a store opens to, and what is drawn for its contents when it is changed, is in its octets.
pub store_takes : TripleDesLengths → (b p : List ℕ) (gss : List (List SafeBag)) (ks : List (List ℕ)) (n : ℕ) (o : StoreOpens b p gss ks n)
    → 8 + sum_by (content_draws Kept) o.parts + keys_room (all_shrouded gss) + certificates_room (all_certificates gss) ≤ length b
store_takes triple b p gss ks n o =
    omega (arith, contents_least triple p o.text o.parts gss o.opening.contents o.opening.bags, text_least b o.text o.store o.is o.is_data)

-- ---- what is drawn for a change

keys_drawn : (ks : List EncryptedPrivateKeyInfo) → sum_by (key_draws Kept) ks ≤ keys_room ks
keys_drawn [] = omega arith
keys_drawn (k ∷ ks) = omega (arith, sum_by-cons (key_draws Kept) k ks, sum_by-cons key_room k ks, drawn_within k.encryption_algorithm, keys_drawn ks)

-- A store has as many octets as its change draws.
pub change_takes : TripleDesLengths → (b p : List ℕ) (gss : List (List SafeBag)) (ks : List (List ℕ)) (n : ℕ) (o : StoreOpens b p gss ks n) → change_draws Kept o.parts gss ≤ length b
change_takes triple b p gss ks n o =
    omega (arith, keys_drawn (all_shrouded gss), store_takes triple b p gss ks n o)
