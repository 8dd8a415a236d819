-- The spellings of a private key whose parts are any elements.
use Rattle.std.proofs.Common.{◌≡◌, ℕ, List, [], ◌∷◌, ◌++◌, Option, Some, None, refl, sym, ap, subst, ◌∙◌}
use Rattle.std.proofs.lemmas.List.{append-nil}
use Rattle.std.specs.Prelude.{◌↔◌}
use Rattle.asn1_core.specs.Der.{el, seq, uint, octets, IsShort}
use Rattle.asn1_core.specs.Reading.{Front, any_tag, within, left}
use Rattle.asn1_core.specs.Texts.{Exact, Within, Left, Perhaps, seen_option}
use Rattle.asn1_core.specs.ExactLaws.{IsShort-left, IsShort-right, IsShort-inside}
use Rattle.asn1_core.specs.ElementLaws.{inside-exact}
use Rattle.asn1_core.specs.StandLaws.{whole_sole}
use Rattle.asn1_core.specs.declared.identifier.ObjectIdentifier.{ObjectIdentifier}
use Rattle.der_core.specs.Any.{AnyText, any_at}
use Rattle.der_core.specs.BitString.{BitsOf, bits_of}
use Rattle.der_core.specs.StringLaws.{bits_of-exact}
use Rattle.spki.specs.Algorithm.{algorithm}
use Rattle.spki.specs.AnyLaws.{any-exact, any-whole}
use Rattle.spki.specs.Seen.{AnyAlgorithm}
use Rattle.spki.specs.Spelling.{algorithm_text, AreParameters}
use Rattle.spki.proofs.Spellings.{algorithm_written, algorithms_spelled}
use Rattle.pkcs8.specs.PrivateKeyInfo.{private_key, version_of, AreAttributes, AreFurther, public_key_content, private_key_content, PrivateKeyText, private_key_at}
use Rattle.pkcs8.specs.PrivateKeyLaws.{private_key-exact}
use Rattle.pkcs8.specs.Seen.{AnyPrivateKey, IsPrivateKey}
use Rattle.pkcs8.specs.Spelling.{key_parts, private_key_spelling, private_key_text, AreBits}

abbrev pub AnyPrivateKeyText : List ℕ → AnyPrivateKey → Type 0
AnyPrivateKeyText = PrivateKeyText AnyText (Within 0x04 Left) BitsOf

abbrev pub any_private_key_at : Front AnyPrivateKey
any_private_key_at = private_key_at any_tag any_at (within 0x04 left) bits_of

pub any_private_key-exact : Exact AnyPrivateKeyText any_private_key_at
any_private_key-exact = private_key-exact any_tag AnyText any_at any-exact any-whole (Within 0x04 Left) (within 0x04 left) (inside-exact 0x04 refl) BitsOf bits_of bits_of-exact

pub one_private_key : (b : List ℕ) (k l : AnyPrivateKey) → IsPrivateKey b k → IsPrivateKey b l → k ≡ l
one_private_key = whole_sole AnyPrivateKeyText any_private_key_at any_private_key-exact

-- ---- public keys

abbrev same : ℕ × List ℕ → ℕ × List ℕ
same q = q

public_to : (q : List ℕ) (o : Option (ℕ × List ℕ)) → Perhaps (Within 0x81 BitsOf) q o → AreBits o × (q ≡ public_key_content same o)
public_to q None r = (tt, r)
public_to q (Some p) (w, (bits, is), e) = (bits, e ∙ ap (λ (l : List ℕ). el 0x81 l) is)

public_from : (o : Option (ℕ × List ℕ)) → AreBits o → Perhaps (Within 0x81 BitsOf) (public_key_content same o) o
public_from None h = refl
public_from (Some p) h = (p.0 ∷ p.1, (h, refl), refl)

-- ---- spellings, without cases

abbrev value_octets : ℕ → List ℕ → List ℕ → List ℕ → List ℕ → List ℕ → List ℕ
value_octets n a k x q y = uint n ++ a ++ k ++ x ++ q ++ y

parts_are : (a : AnyAlgorithm) (k : List ℕ) (o : Option (ℕ × List ℕ)) (x y : List ℕ) → key_parts a k o x y ≡ seq (value_octets (version_of o) (algorithm_text a) (octets k) x (public_key_content same o) y)
parts_are a k None x y = ap (λ (l : List ℕ). seq (l ++ y)) (sym (append-nil (uint 0 ++ algorithm_text a ++ octets k ++ x)))
parts_are a k (Some q) x y = refl

-- what is written has nothing in the places of attributes and further fields
pub key_written : {A B : Type 0} (seen : A → ℕ × List ℕ) (bits : B → ℕ × List ℕ) (o : ObjectIdentifier) (p : Option A) (k : List ℕ) (q : Option B)
    → el 0x30 (private_key_content (λ a. el (seen a).0 (seen a).1) octets bits o p k q) ≡ private_key_text (private_key (algorithm o (seen_option seen p)) k (seen_option bits q))
key_written seen bits o p k None =
    let front = uint 0 ++ algorithm_text (algorithm o (seen_option seen p)) ++ octets k in
    ap (λ (l : List ℕ). seq (uint 0 ++ l ++ octets k ++ [])) (algorithm_written seen o p) ∙ ap (λ (l : List ℕ). seq l) (sym (append-nil (front ++ [])))
key_written seen bits o p k (Some q) =
    let front = uint 1 ++ algorithm_text (algorithm o (seen_option seen p)) ++ octets k in
    let public = el 0x81 ((bits q).0 ∷ (bits q).1) in
    ap (λ (l : List ℕ). seq (uint 1 ++ l ++ octets k ++ public)) (algorithm_written seen o p)
    ∙ ap (λ (l : List ℕ). seq l) (ap (λ (l : List ℕ). l ++ public) (sym (append-nil front)) ∙ sym (append-nil (front ++ [] ++ public)))

-- the algorithm's text is no longer than the whole
algorithm_short : (n : ℕ) (a k x q y : List ℕ) → IsShort (seq (value_octets n a k x q y)) → IsShort a
algorithm_short n a k x q y h =
    let u = uint n in
    IsShort-right u a (IsShort-left (u ++ a) k (IsShort-left (u ++ a ++ k) x (IsShort-left (u ++ a ++ k ++ x) q (IsShort-left (u ++ a ++ k ++ x ++ q) y (IsShort-inside 0x30 (value_octets n a k x q y) h)))))

abbrev Spelled : List ℕ → AnyPrivateKey → Type 0
Spelled b k = AreParameters k.algorithm.parameters × AreBits k.public_key × ((x : List ℕ) × (y : List ℕ) × AreAttributes x × AreFurther y × (b ≡ private_key_spelling k x y)) × IsShort b

spelled_to : (b : List ℕ) (k : AnyPrivateKey) → IsPrivateKey b k → Spelled b k
spelled_to b k ((w, (a, l, x, q, y, ra, (v, left, e4), fx, rq, fy, is), e), short) =
    let n = version_of k.public_key in
    let whole : b ≡ seq (value_octets n a l x q y) = e ∙ ap (λ (z : List ℕ). seq z) is in
    let t = (algorithms_spelled a k.algorithm).0 (ra, algorithm_short n a l x q y (subst IsShort whole short)) in
    let key : l ≡ octets k.private_key = e4 ∙ ap (λ (z : List ℕ). octets z) (sym left) in
    let p = public_to q k.public_key rq in
    let told : b ≡ private_key_spelling k x y =
    whole ∙ ap (λ (z : List ℕ). seq (value_octets n z l x q y)) t.1 ∙ ap (λ (z : List ℕ). seq (value_octets n (algorithm_text k.algorithm) z x q y)) key
    ∙ ap (λ (z : List ℕ). seq (value_octets n (algorithm_text k.algorithm) (octets k.private_key) x z y)) p.1 ∙ sym (parts_are k.algorithm k.private_key k.public_key x y) in
    (t.0, p.0, (x, y, fx, fy, told), short)

spelled_from : (b : List ℕ) (k : AnyPrivateKey) → Spelled b k → IsPrivateKey b k
spelled_from b k (parameters, public, (x, y, fx, fy, is), short) =
    let n = version_of k.public_key in
    let a = algorithm_text k.algorithm in
    let q = public_key_content same k.public_key in
    let whole : b ≡ seq (value_octets n a (octets k.private_key) x q y) = is ∙ parts_are k.algorithm k.private_key k.public_key x y in
    let t = (algorithms_spelled a k.algorithm).1 (parameters, refl, algorithm_short n a (octets k.private_key) x q y (subst IsShort whole short)) in
    ((value_octets n a (octets k.private_key) x q y, (a, octets k.private_key, x, q, y, t.0, (k.private_key, refl, refl), fx, public_from k.public_key public, fy, refl), whole), short)

pub private_keys_spelled : (b : List ℕ) (k : AnyPrivateKey) → IsPrivateKey b k ↔ Spelled b k
private_keys_spelled b k = (spelled_to b k, spelled_from b k)

pub private_keys_texts : (k : AnyPrivateKey) → AreParameters k.algorithm.parameters → AreBits k.public_key → IsShort (private_key_text k) → IsPrivateKey (private_key_text k) k
private_keys_texts k parameters public short =
    spelled_from (private_key_text k) k (parameters, public, ([], [], (None, refl), ([], refl), refl), short)
