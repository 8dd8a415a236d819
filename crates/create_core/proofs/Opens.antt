-- A store that was made opens to what it was made of.
use Rattle.std.proofs.Common.{◌≡◌, ℕ, mul-suc, ◌+◌, ◌*◌, ◌≤◌, List, [], ◌∷◌, ◌++◌, map, length, refl, sym, ap, subst, ◌∙◌, arith, append-nil}
use Rattle.std.specs.Prelude.{All}
use Rattle.std.specs.List.{sum_by}
use Rattle.std.proofs.lemmas.List.Sums.{sum_by-cons}
use Rattle.std.proofs.lemmas.List.Elements.{All-head, All-tail}
use Rattle.asn1_core.specs.Der.{IsShort, seq}
use Rattle.asn1_core.specs.Sets.{Each, IsRead}
use Rattle.asn1_core.specs.Texts.{Many}
use Rattle.p12.specs.Canonical.{bags_canon, contents_canon, store_canon}
use Rattle.p12.specs.Collected.{certificates_among}
use Rattle.p12.specs.ContentInfo.{ContentFits, IsContents}
use Rattle.p12.specs.MacData.{mac_of}
use Rattle.p12.specs.Pfx.{IsStore}
use Rattle.p12.specs.SafeBag.{BagText, IsBags}
use Rattle.p12.specs.Same.{SameBag}
use Rattle.p12.proofs.Again.{bags_again}
use Rattle.p12.proofs.DefinitionLaws.{contents_fit}
use Rattle.p12.proofs.Macs.{mac_of_agrees}
use Rattle.p12.specs.declared.algorithm_identifier.AlgorithmIdentifier.TheVariants.{Sha256}
use Rattle.p12.specs.declared.content_info.ContentInfo.TheVariants as content
use Rattle.p12.specs.declared.encrypted_private_key_info.EncryptedPrivateKeyInfo.{EncryptedPrivateKeyInfo}
use Rattle.p12.specs.declared.safe_bag.SafeBag.{SafeBag}
use Rattle.pkcs12_kdf.specs.Password.{bmp_password}
use Rattle.transfer.specs.Limits.{store_limit}
use Rattle.transfer.specs.Opening.{KeyOpens, all_certificates, all_shrouded, content_share, key_share, key_with, shrouded_among}
use Rattle.transfer.specs.Verdicts.{work}
use Rattle.transfer.proofs.Valid.{one_opening, opened_exactly}
use Rattle.create_core.specs.Bags.{HasKeyText, KeysSealed, certificate_bags, further_bag, key_bag}
use Rattle.create_core.specs.Created.{store_of, two_contents}
use Rattle.create_core.specs.Laws.{CreatedOpens, NoCauseWithinWork, OpensToNothingElse, certificates_of, created_work, keys_of}
use Rattle.create_core.specs.Parts.{under}
use Rattle.sealing_core.specs.declared.drawn.IvAndSalt.{IvAndSalt}
use Rattle.create_core.specs.declared.entry.CertificateEntry.{CertificateEntry}
use Rattle.create_core.specs.declared.entry.KeyEntry.{KeyEntry}
use Rattle.create_core.proofs.Sizes.{certificates_fit, contents_in}
use Rattle.create_core.proofs.Texts.{certificates_read, keys_read, store_made, two_made}

-- ---- bags that are read again

read_back : (hs : List SafeBag) → IsRead (Many BagText) hs → IsShort (bags_canon hs) → (us : List SafeBag) × IsBags (bags_canon hs) us × Each SameBag us hs
unfolding IsBags
read_back hs (b, m) short = let d = bags_again hs (seq b, (b, m, refl)) in (d.0, (d.1, short), d.2)

same_certificates : (gs hs : List SafeBag) → Each SameBag gs hs → certificates_among gs ≡ certificates_among hs
same_certificates [] [] e = refl
same_certificates [] (h ∷ hs) e = absurd e
same_certificates (g ∷ gs) [] e = absurd e
same_certificates (g ∷ gs) (h ∷ hs) e = rw (e.0.0, same_certificates gs hs e.1) refl

same_shrouded : (gs hs : List SafeBag) → Each SameBag gs hs → shrouded_among gs ≡ shrouded_among hs
same_shrouded [] [] e = refl
same_shrouded [] (h ∷ hs) e = absurd e
same_shrouded (g ∷ gs) [] e = absurd e
same_shrouded (g ∷ gs) (h ∷ hs) e = rw (e.0.0, same_shrouded gs hs e.1) refl

-- ---- what the bags give

further_certificates : (certificates : List CertificateEntry) → certificates_among (map further_bag certificates) ≡ map (λ (c : CertificateEntry). c.certificate) certificates
further_certificates [] = refl
further_certificates (c ∷ certificates) = ap (λ (l : List (List ℕ)). c.certificate ∷ l) (further_certificates certificates)

all_made : (keys : List KeyEntry) (certificates : List CertificateEntry) → certificates_among (certificate_bags keys certificates) ≡ certificates_of keys certificates
all_made [] certificates = further_certificates certificates
all_made (e ∷ keys) certificates = ap (λ (l : List (List ℕ)). e.certificate ∷ l) (all_made keys certificates)

further_shrouded : (certificates : List CertificateEntry) → shrouded_among (map further_bag certificates) ≡ []
further_shrouded [] = refl
further_shrouded (c ∷ certificates) = further_shrouded certificates

none_shrouded : (keys : List KeyEntry) (certificates : List CertificateEntry) → shrouded_among (certificate_bags keys certificates) ≡ []
none_shrouded [] certificates = further_shrouded certificates
none_shrouded (e ∷ keys) certificates = none_shrouded keys certificates

no_certificates : (r : ℕ) (p : List ℕ) (es : List KeyEntry) (ds : List IvAndSalt) (gs : List SafeBag) → KeysSealed r p es ds gs → certificates_among gs ≡ []
no_certificates r p [] [] [] h = refl
no_certificates r p [] [] (g ∷ gs) h = absurd h
no_certificates r p [] (d ∷ ds) gs h = absurd h
no_certificates r p (e ∷ es) [] gs h = absurd h
no_certificates r p (e ∷ es) (d ∷ ds) [] h = absurd h
no_certificates r p (e ∷ es) (d ∷ ds) (g ∷ gs) h = rw (h.0.is) (no_certificates r p es ds gs h.1)

keys_open : (r : ℕ) (p : List ℕ) (es : List KeyEntry) (ds : List IvAndSalt) (gs : List SafeBag) → All HasKeyText es → KeysSealed r p es ds gs → Each (KeyOpens p) (shrouded_among gs) (keys_of es)
keys_open r p [] [] [] are h = tt
keys_open r p [] [] (g ∷ gs) are h = absurd h
keys_open r p [] (d ∷ ds) gs are h = absurd h
keys_open r p (e ∷ es) [] gs are h = absurd h
keys_open r p (e ∷ es) (d ∷ ds) [] are h = absurd h
keys_open r p (e ∷ es) (d ∷ ds) (g ∷ gs) are h =
    let one : KeyOpens p (key_with (under r d) h.0.ciphertext) e.key = (h.0.seals.opens, All-head HasKeyText e es are) in
    let all : Each (KeyOpens p) (shrouded_among (key_bag r e d h.0.ciphertext ∷ gs)) (keys_of (e ∷ es)) = (one, keys_open r p es ds gs (All-tail HasKeyText e es are) h.1) in
    subst (λ (x : SafeBag). Each (KeyOpens p) (shrouded_among (x ∷ gs)) (keys_of (e ∷ es))) (sym h.0.is) all

shares : (r : ℕ) (p : List ℕ) (es : List KeyEntry) (ds : List IvAndSalt) (gs : List SafeBag) → KeysSealed r p es ds gs → sum_by key_share (shrouded_among gs) ≡ r * length es
shares r p [] [] [] h = omega arith
shares r p [] [] (g ∷ gs) h = absurd h
shares r p [] (d ∷ ds) gs h = absurd h
shares r p (e ∷ es) [] gs h = absurd h
shares r p (e ∷ es) (d ∷ ds) [] h = absurd h
shares r p (e ∷ es) (d ∷ ds) (g ∷ gs) h =
    let one : shrouded_among (g ∷ gs) ≡ shrouded_among (key_bag r e d h.0.ciphertext ∷ gs) = ap (λ (x : SafeBag). shrouded_among (x ∷ gs)) h.0.is in
    let more = shares r p es ds gs h.1 in
    ap (sum_by key_share) one ∙ omega (arith, sum_by-cons key_share (key_with (under r d) h.0.ciphertext) (shrouded_among gs), more, mul-suc r (length es))

-- ---- the store

short_parts : (r : ℕ) (p salt : List ℕ) (d : IvAndSalt) (c : List ℕ) (gs : List SafeBag) → length (store_canon (store_of r p salt (two_contents r d c gs))) ≤ store_limit → IsShort (contents_canon (two_contents r d c gs))
short_parts r p salt d c gs h = omega (arith, h, contents_in r p salt (two_contents r d c gs))

keys_short : (r : ℕ) (d : IvAndSalt) (c : List ℕ) (gs : List SafeBag) → IsContents (contents_canon (two_contents r d c gs)) (two_contents r d c gs) → IsShort (contents_canon (two_contents r d c gs)) → IsShort (bags_canon gs)
keys_short r d c gs is short =
    let t = contents_canon (two_contents r d c gs) in
    let fits : ContentFits (length t) (content.Data (bags_canon gs)) = contents_fit t (two_contents r d c gs) is 1 (content.Data (bags_canon gs)) (omega arith) in
    omega (arith, fits.0, short)

content_cost : (r : ℕ) (d : IvAndSalt) (c : List ℕ) (gs : List SafeBag) → sum_by content_share (two_contents r d c gs) ≡ r
content_cost r d c gs = omega arith

mul-two : (r n : ℕ) → r * (n + 2) ≡ r * n + r + r
mul-two r n = omega arith

total : (r n shares all keys : ℕ) → shares ≡ r → all ≡ r + shares + keys → keys ≡ r * n → r * (n + 2) ≡ all
total r n shares all keys e f g = omega (arith, e, f, g, mul-two r n)

pub created_opens : CreatedOpens
unfolding mac_of
created_opens keys certificates p r drawn b some small m =
    let d = m.of_certificates in
    let cs = two_contents r d m.sealed m.bags in
    let t = contents_canon cs in
    let short_store : length (store_canon (store_of r p m.salt cs)) ≤ store_limit = subst (λ (x : List ℕ). length x ≤ store_limit) m.is m.short in
    let short = short_parts r p m.salt d m.sealed m.bags short_store in
    let lists = two_made r d m.sealed m.bags small m.certificates_of_16 short in
    let first = read_back (certificate_bags keys certificates) (certificates_read keys certificates m.key_names m.certificate_names) (omega (arith, short, certificates_fit r p d (bags_canon (certificate_bags keys certificates)) m.sealed m.bags m.certificates_sealed)) in
    let second = read_back m.bags (keys_read r p keys m.of_keys m.bags small m.keys_of_16 m.key_names m.keys_sealed) (keys_short r d m.sealed m.bags lists short) in
    let gss = first.0 ∷ second.0 ∷ [] in
    let none : shrouded_among first.0 ≡ [] = same_shrouded first.0 (certificate_bags keys certificates) first.2 ∙ none_shrouded keys certificates in
    let back : shrouded_among second.0 ≡ shrouded_among m.bags = same_shrouded second.0 m.bags second.2 in
    let all : all_shrouded gss ≡ shrouded_among m.bags = ap (λ (l : List EncryptedPrivateKeyInfo). l ++ (shrouded_among second.0 ++ [])) none ∙ append-nil (shrouded_among second.0) ∙ back in
    let cost : sum_by key_share (all_shrouded gss) ≡ r * length keys = ap (sum_by key_share) all ∙ shares r p keys m.of_keys m.bags m.keys_sealed in
    let mac = mac_of Sha256 (bmp_password p) t m.salt r in
    record {
      of_certificates = first.0;
      of_keys = second.0;
      opens = record {
        short = m.short;
        store = store_of r p m.salt cs;
        is = subst (λ (x : List ℕ). IsStore x (store_of r p m.salt cs)) (sym m.is) (store_made r p m.salt cs small (omega (arith, short_store)));
        text = t;
        is_data = refl;
        mac = mac;
        has = refl;
        mac_ok = record { known = refl; some_rounds = some; agrees = mac_of_agrees Sha256 (bmp_password p) t m.salt r refl some };
        parts = cs;
        opening = record {
          contents = lists;
          bags = ((bags_canon (certificate_bags keys certificates), m.certificates_sealed.opens, first.1), ((bags_canon m.bags, refl, second.1), tt));
          keys = subst (λ (l : List EncryptedPrivateKeyInfo). Each (KeyOpens p) l (keys_of keys)) (sym all) (keys_open r p keys m.of_keys m.bags m.are_keys m.keys_sealed);
        };
        work = total r (length keys) (sum_by content_share cs) (work mac cs gss) (sum_by key_share (all_shrouded gss)) (content_cost r d m.sealed m.bags) refl cost;
      };
      same = first.2;
      in_order = ap (λ (l : List (List ℕ)). l ++ (certificates_among second.0 ++ [])) (same_certificates first.0 (certificate_bags keys certificates) first.2 ∙ all_made keys certificates)
          ∙ ap (λ (l : List (List ℕ)). certificates_of keys certificates ++ (l ++ [])) (same_certificates second.0 m.bags second.2 ∙ no_certificates r p keys m.of_keys m.bags m.keys_sealed)
          ∙ append-nil (certificates_of keys certificates);
    }

pub nothing_else : OpensToNothingElse
nothing_else keys certificates p r drawn b some small m gss ks n o =
    let x = created_opens keys certificates p r drawn b some small m in
    let one = one_opening b p gss (x.of_certificates ∷ x.of_keys ∷ []) ks (keys_of keys) n (created_work r keys) o x.opens in
    (one.1, ap all_certificates one.0 ∙ x.in_order, one.2)

pub no_cause : NoCauseWithinWork
no_cause keys certificates p r drawn b limit some small m within =
    let x = created_opens keys certificates p r drawn b some small m in
    (x.of_certificates ∷ x.of_keys ∷ [], keys_of keys, created_work r keys, (opened_exactly b p limit (x.of_certificates ∷ x.of_keys ∷ []) (keys_of keys) (created_work r keys)).1 (x.opens, within))
