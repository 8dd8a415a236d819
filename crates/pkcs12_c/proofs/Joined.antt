-- Texts, one after another.
use Rattle.std.proofs.Common.{ℕ, ◌≡◌, ◌∙◌, ◌+◌, ◌<◌, List, [], ◌∷◌, ◌++◌, length, take, get_or, ap, sym}
use Rattle.std.specs.List.{flat_map}
use Rattle.std.proofs.lemmas.List.{take_more, append_assoc, append-nil}
use Rattle.std.specs.Prelude.{OnOk, Ok, Err, Result, codes}
use Rattle.p12.specs.declared.safe_bag.SafeBagKind.{SafeBagKind}
use Rattle.p12.specs.declared.safe_bag.SafeBagKind.TheVariants.{CertBag}
use Rattle.p12.specs.declared.cert_bag.CertBag.TheVariants.{X509}
use Rattle.pem_text.specs.Pem.{pem}
use Rattle.p12.specs.Collected.{at_most_one}
use Rattle.p12.specs.SafeBag.{x509_of}
use Rattle.pkcs12_c.specs.PemText.{certificate_texts}
use Rattle.std.proofs.lemmas.Grind.{flat_map-append}

flat_one : {X A : Type 0} (f : X → List A) (xs : List X) (i : ℕ) (x : X) → i < length xs → x ≡ get_or xs i x → flat_map f (take (i + 1) xs) ≡ flat_map f (take i xs) ++ f x
flat_one f xs i x lt at =
    ap (flat_map f) (take_more xs i x lt ∙ ap (λ y. take i xs ++ y ∷ []) (sym at)) ∙ flat_map-append f (take i xs) (x ∷ []) ∙ ap (λ t. flat_map f (take i xs) ++ t) (append-nil (f x))

-- the text grows by that of one part
pub grown : {X : Type 0} (f : X → List ℕ) (xs : List X) (i : ℕ) (x : X) (old now new : List ℕ) → i < length xs → x ≡ get_or xs i x → now ≡ old ++ flat_map f (take i xs) → new ≡ now ++ f x
    → new ≡ old ++ flat_map f (take (i + 1) xs)
grown f xs i x old now new lt at so more =
    more ∙ ap (λ t. t ++ f x) so ∙ append_assoc old (flat_map f (take i xs)) (f x) ∙ ap (λ t. old ++ t) (sym (flat_one f xs i x lt at))

-- the same where a part has parts of its own
pub grown_by_all : {X Y : Type 0} (g : X → List Y) (f : Y → List ℕ) (xs : List X) (i : ℕ) (x : X) (old now new : List ℕ) → i < length xs → x ≡ get_or xs i x
    → now ≡ old ++ flat_map f (flat_map g (take i xs)) → new ≡ now ++ flat_map f (g x) → new ≡ old ++ flat_map f (flat_map g (take (i + 1) xs))
grown_by_all g f xs i x old now new lt at so more =
    more ∙ ap (λ t. t ++ flat_map f (g x)) so ∙ append_assoc old (flat_map f (flat_map g (take i xs))) (flat_map f (g x))
    ∙ ap (λ t. old ++ t) (sym (ap (flat_map f) (flat_one g xs i x lt at) ∙ flat_map-append f (flat_map g (take i xs)) (g x)))

pub on_ok_as : {T E : Type 0} (r : Result T E) (P Q : Type 0) → (P → Q) → OnOk r P → OnOk r Q
on_ok_as (Ok t) P Q f h = f h
on_ok_as (Err e) P Q f h = tt

-- the text of the certificate in a bag
pub one_text : (k : SafeBagKind) (v w : List ℕ) → k ≡ CertBag (X509 v) → w ≡ v → pem (codes "CERTIFICATE") w ≡ certificate_texts (at_most_one (x509_of k))
one_text k v w is same = ap (pem (codes "CERTIFICATE")) same ∙ sym (append-nil (pem (codes "CERTIFICATE") v)) ∙ sym (ap (λ (g : SafeBagKind). certificate_texts (at_most_one (x509_of g))) is)
