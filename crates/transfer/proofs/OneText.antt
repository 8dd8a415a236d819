-- A transfer gives one text of a store, a command and the octets to be drawn, and a sample one of its number of keys.
use Rattle.std.proofs.Common.{◌≡◌, ◌∙◌, ℕ, ◌<◌, List, [], ◌∷◌, ◌++◌, length, take, drop, refl, sym, ap, ap₂, subst}
use Rattle.std.specs.Prelude.{All, Option, Some, None}
use Rattle.std.specs.Io.KnownBytes.{Consumes}
use Rattle.std.proofs.lemmas.List.{drop_at, take_at}
use Rattle.asn1_core.specs.Sets.{Each}
use Rattle.p12.specs.AlgorithmIdentifier.{unlock, unlock_pbe}
use Rattle.p12.specs.Canonical.{bags_canon, contents_canon, store_canon}
use Rattle.pkcs12_kdf.specs.Password.{bmp_password}
use Rattle.p12.specs.declared.algorithm_identifier.AlgorithmIdentifier.TheVariants.{PbeWithSHAAnd3KeyTripleDESCBC}
use Rattle.p12.specs.declared.pfx.PFX.{PFX}
use Rattle.p12.specs.declared.pkcs12_pbe_params.Pkcs12PbeParams.{Pkcs12PbeParams}
use Rattle.p12.specs.declared.safe_bag.SafeBag.{SafeBag}
use Rattle.frame.specs.Calls.{Effects, effects}
use Rattle.frame.specs.Stream.{stream}
use Rattle.transfer.specs.Answers.{OneText}
use Rattle.transfer.specs.DueText.{out}
use Rattle.transfer.specs.Document.{IsDocument, OneDocument}
use Rattle.transfer.specs.Opening.{all_certificates, opened}
use Rattle.transfer.specs.Sample.{IsKeyBag, IsSampleStore, OneSample, OpensTo, behind_keys, certificate_bags, content_salt_at, drawn_octets, key_at, key_bag, mac_salt_at, salt_at, sample_command, sample_password, sample_text, starts, store_of, two_contents}
use Rattle.transfer.specs.Sealing.{AreDrawn, IsDrawn, SealsAll}
use Rattle.transfer.specs.Transferred.{Transfers}
use Rattle.transfer.specs.Words.{Command}
use Rattle.transfer.proofs.Drawn.{sealed_length}
use Rattle.transfer.proofs.Sole.{verdict_sole}
use Rattle.transfer.proofs.Valid.{first_same, second_same}

-- ---- Drawn octets

front_same : (a b c d : List ℕ) → a ++ b ≡ c ++ d → length a ≡ length c → a ≡ c
front_same a b c d is long = sym (take_at a b (length c) long) ∙ ap (take (length c)) is ∙ take_at c d (length c) refl

rest_same : (a b c d : List ℕ) → a ++ b ≡ c ++ d → length a ≡ length c → b ≡ d
rest_same a b c d is long = sym (drop_at a b (length c) long) ∙ ap (drop (length c)) is ∙ drop_at c d (length c) refl

drawn_same : (d : List ℕ) (after other : Option (List ℕ)) (x y : List ℕ) → Consumes (Some d) after x → Consumes (Some d) other y → length x ≡ length y → x ≡ y
drawn_same d None other x y p q long = absurd p
drawn_same d (Some a) None x y p q long = absurd q
drawn_same d (Some a) (Some b) x y p q long = front_same x a y b (sym p ∙ q) long

-- ---- Documents

document_same : OneDocument → (rounds : ℕ) (q k d e first other : List ℕ) → first ≡ other → IsDrawn rounds q first k d → IsDrawn rounds q other k e → d ≡ e
document_same one rounds q k d e first other same x y =
    let whole : x.iv ++ x.salt ≡ y.iv ++ y.salt = sym x.are ∙ same ∙ y.are in
    let long : length x.iv ≡ length y.iv = x.of_16 ∙ sym y.of_16 in
    let iv = front_same x.iv x.salt y.iv y.salt whole long in
    let salt = rest_same x.iv x.salt y.iv y.salt whole long in
    one d e rounds y.iv y.salt q k y.of_16 (subst (λ (v : List ℕ). IsDocument d rounds v y.salt q k) iv (subst (λ (s : List ℕ). IsDocument d rounds x.iv s q k) salt x.is)) y.is

documents_same : OneDocument → (rounds : ℕ) (q : List ℕ) (ks ds es : List (List ℕ)) (b c : List ℕ) → b ≡ c → AreDrawn rounds q ks ds b → AreDrawn rounds q ks es c → ds ≡ es
documents_same one rounds q [] [] [] b c same x y = refl
documents_same one rounds q [] [] (e ∷ es) b c same x y = absurd y
documents_same one rounds q [] (d ∷ ds) es b c same x y = absurd x
documents_same one rounds q (k ∷ ks) [] es b c same x y = absurd x
documents_same one rounds q (k ∷ ks) (d ∷ ds) [] b c same x y = absurd y
documents_same one rounds q (k ∷ ks) (d ∷ ds) (e ∷ es) b c same x y =
    let whole : x.0 ++ x.1 ≡ y.0 ++ y.1 = sym x.2 ∙ same ∙ y.2 in
    let long : length x.0 ≡ length y.0 = sealed_length rounds q x.0 k d x.3 ∙ sym (sealed_length rounds q y.0 k e y.3) in
    ap₂ (λ (v : List ℕ) (vs : List (List ℕ)). v ∷ vs) (document_same one rounds q k d e x.0 y.0 (front_same x.0 x.1 y.0 y.1 whole long) x.3 y.3)
    (documents_same one rounds q ks ds es x.1 y.1 (rest_same x.0 x.1 y.0 y.1 whole long) x.4 y.4)

sealed_same : OneDocument → (rounds : ℕ) (q d : List ℕ) (after other : Option (List ℕ)) (ks ds es : List (List ℕ)) → SealsAll rounds q (Some d) after ks ds → SealsAll rounds q (Some d) other ks es → ds ≡ es
sealed_same one rounds q d after other ks ds es x y =
    documents_same one rounds q ks ds es x.drawn y.drawn (drawn_same d after other x.drawn y.drawn x.took y.took (x.each_32 ∙ sym y.each_32)) x.by y.by

-- ---- What a store is transferred to

pub record AreSame (cs es ds fs : List (List ℕ)) : Type 0 where
  pub certificates : cs ≡ es
  pub documents : ds ≡ fs

pub transferred_same : OneDocument → (c : Command) (e f : Effects) (store d : List ℕ) (cs es ds fs : List (List ℕ)) → e.draw.told ≡ Some d → f.draw.told ≡ Some d
    → Transfers c e store cs ds → Transfers c f store es fs → AreSame cs es ds fs
transferred_same one c e f store d cs es ds fs of_e of_f x y =
    let same = (verdict_sole store c.password c.limit (opened x.bags x.keys) (opened y.bags y.keys) x.work y.work x.verdict y.verdict).0 in
    let keys = second_same x.bags y.bags x.keys y.keys same in
    let first = subst (λ (told : Option (List ℕ)). SealsAll c.rounds c.new_password told e.draw.told_after x.keys ds) of_e x.sealed in
    let second = subst (λ (told : Option (List ℕ)). SealsAll c.rounds c.new_password told f.draw.told_after y.keys fs) of_f y.sealed in
    record {
      certificates = x.in_order ∙ ap all_certificates (first_same x.bags y.bags x.keys y.keys same) ∙ sym y.in_order;
      documents = sealed_same one c.rounds c.new_password d e.draw.told_after f.draw.told_after y.keys ds fs
          (subst (λ (ks : List (List ℕ)). SealsAll c.rounds c.new_password (Some d) e.draw.told_after ks ds) keys first) second;
    }

pub one_text : OneDocument → OneText
one_text one c e f store d t u of_e of_f (cs, ds, x, is) (es, fs, y, are) =
    let same = transferred_same one c e f store d cs es ds fs of_e of_f x y in
    is ∙ ap₂ out same.certificates same.documents ∙ sym are

-- ---- The store of a sample

-- What `p12` says of ciphertexts under Triple DES.
abbrev OneCiphertext : Type 0
OneCiphertext = (p : Pkcs12PbeParams) (q c d m : List ℕ) → All (λ octet. octet < 256) c → All (λ octet. octet < 256) d
    → unlock_pbe (PbeWithSHAAnd3KeyTripleDESCBC p) q c ≡ Some m → unlock_pbe (PbeWithSHAAnd3KeyTripleDESCBC p) q d ≡ Some m → c ≡ d

ciphertext_same : OneCiphertext → (salt m c d : List ℕ) → OpensTo salt m c → OpensTo salt m d → c ≡ d
unfolding unlock
ciphertext_same one salt m c d x y = one (record { salt = salt; iterations = 1 }) (bmp_password sample_password) c d m x.0 y.0 x.1 y.1

keys_same : OneCiphertext → (ys : List ℕ) (gs hs : List SafeBag) → Each IsKeyBag ys gs → Each IsKeyBag ys hs → gs ≡ hs
keys_same one [] [] [] x y = refl
keys_same one [] [] (h ∷ hs) x y = absurd y
keys_same one [] (g ∷ gs) hs x y = absurd x
keys_same one (n ∷ ns) [] hs x y = absurd x
keys_same one (n ∷ ns) (g ∷ gs) [] x y = absurd y
keys_same one (n ∷ ns) (g ∷ gs) (h ∷ hs) ((c, o, is), x) ((d, p, are), y) =
    let key : g ≡ h = is ∙ ap (key_bag (salt_at n)) (ciphertext_same one (salt_at n) (key_at n) c d o p) ∙ sym are in
    ap₂ (λ (v : SafeBag) (vs : List SafeBag). v ∷ vs) key (keys_same one ns gs hs x y)

store_same : OneCiphertext → (keys : ℕ) (s t : PFX) → IsSampleStore keys s → IsSampleStore keys t → s ≡ t
store_same one keys s t x y =
    let z = behind_keys keys keys in
    let encrypted = ciphertext_same one (content_salt_at z) (bags_canon (certificate_bags (starts keys keys))) x.encrypted y.encrypted x.certificates y.certificates in
    let bags = keys_same one (starts keys keys) x.bags y.bags x.sealed y.sealed in
    x.is ∙ ap₂ (λ (c : List ℕ) (gs : List SafeBag). store_of (contents_canon (two_contents (content_salt_at z) c gs)) (mac_salt_at z)) encrypted bags ∙ sym y.is

pub sample_same : OneDocument → OneCiphertext → OneSample
sample_same one once keys a b c d t u x y =
    let store = store_same once keys x.store y.store x.is y.is in
    let moved = subst (λ (s : PFX). Transfers (sample_command keys) (effects (stream (Some (drawn_octets keys)) x.rest 0 0) a b) (store_canon s) x.certificates x.documents) store x.transferred in
    let same = transferred_same one (sample_command keys) (effects (stream (Some (drawn_octets keys)) x.rest 0 0) a b) (effects (stream (Some (drawn_octets keys)) y.rest 0 0) c d)
    (store_canon y.store) (drawn_octets keys) x.certificates y.certificates x.documents y.documents refl refl moved y.transferred in
    x.lines ∙ ap (λ (s : PFX). sample_text keys (store_canon s) x.certificates x.documents) store
    ∙ ap₂ (λ (cs ds : List (List ℕ)). sample_text keys (store_canon y.store) cs ds) same.certificates same.documents ∙ sym y.lines
