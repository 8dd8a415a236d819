-- Bags that are made one after the other, and what can be written of them.
use Rattle.std.proofs.Common.{◌≡◌, ℕ, ◌+◌, ◌<◌, ◌≤◌, ◌^◌, List, [], ◌∷◌, ◌++◌, length, map, take, get_or, Option, Some, None, refl, sym, ap, subst, ◌∙◌, arith}
use Rattle.std.specs.Prelude.{All}
use Rattle.std.proofs.lemmas.List.{take_all, take_more}
use Rattle.std.proofs.lemmas.List.Elements.{All-nil, All-cons, All-append, All-head, All-tail}
use Rattle.std.proofs.lemmas.Option.{get_or_from_slice_get, slice_get_within}
use Rattle.pkcs5.specs.Parameters.{AreParameters}
use Rattle.p12.specs.Canonical.{WritableAttribute, WritableBag}
use Rattle.p12.specs.declared.attribute.PKCS12Attribute.{PKCS12Attribute}
use Rattle.p12.specs.declared.attribute.PKCS12Attribute.TheVariants.{FriendlyName, LocalKeyId}
use Rattle.p12.specs.declared.safe_bag.SafeBag.{SafeBag}
use Rattle.sha1.specs.Sha1.{sha1}
use Rattle.create_core.specs.Bags.{HasKeyText, IsKeySealed, IsKeySealedAt, KeysSealed, certificate_bags, further_bag, key_bag, name_attributes, own_attributes, own_certificate_bag}
use Rattle.sealing_core.specs.Drawn.{AreOf16}
use Rattle.create_core.specs.Parts.{IsSealedAt, Seals, parameters_under}
use Rattle.sealing_core.specs.declared.drawn.IvAndSalt.{IvAndSalt}
use Rattle.create_core.specs.declared.entry.CertificateEntry.{CertificateEntry}
use Rattle.create_core.specs.declared.entry.KeyEntry.{KeyEntry}
use Rattle.p12.specs.declared.algorithm_identifier.AlgorithmIdentifier.{AlgorithmIdentifier}
use Rattle.p12.specs.declared.safe_bag.SafeBagKind.TheVariants as kind
use Rattle.transfer.specs.Opening.{NoKeyText, key_with}
use Rattle.pkcs8.specs.Seen.{IsPrivateKey}

-- ---- steps of loops

pub take_one : {X : Type 0} (xs : List X) (i : ℕ) (x : X) → i < length xs → x ≡ get_or xs i x → take (i + 1) xs ≡ take i xs ++ x ∷ []
take_one xs i x lt at = take_more xs i x lt ∙ ap (λ y. take i xs ++ y ∷ []) (sym at)

pub all_next : {X : Type 0} (P : X → Type 0) (xs : List X) (i : ℕ) (x : X) → i < length xs → x ≡ get_or xs i x → P x → All P (take i xs) → All P (take (i + 1) xs)
all_next P xs i x lt at h all = subst (All P) (sym (take_one xs i x lt at)) (All-append P (take i xs) (x ∷ []) all (All-cons P x [] h (All-nil P)))

sealed_more : (r : ℕ) (p : List ℕ) (es : List KeyEntry) (ds : List IvAndSalt) (gs : List SafeBag) (e : KeyEntry) (d : IvAndSalt) (g : SafeBag) → KeysSealed r p es ds gs → IsKeySealed r p e d g
    → KeysSealed r p (es ++ e ∷ []) (ds ++ d ∷ []) (gs ++ g ∷ [])
sealed_more r p [] [] [] e d g h one = (one, tt)
sealed_more r p [] [] (x ∷ gs) e d g h one = absurd h
sealed_more r p [] (y ∷ ds) gs e d g h one = absurd h
sealed_more r p (z ∷ es) [] gs e d g h one = absurd h
sealed_more r p (z ∷ es) (y ∷ ds) [] e d g h one = absurd h
sealed_more r p (z ∷ es) (y ∷ ds) (x ∷ gs) e d g h one = (h.0, sealed_more r p es ds gs e d g h.1 one)

pub keys_next : (r : ℕ) (p : List ℕ) (keys : List KeyEntry) (i : ℕ) (e : KeyEntry) (ds : List IvAndSalt) (before after : List SafeBag) (g : SafeBag) → i < length keys → e ≡ get_or keys i e
    → IsKeySealedAt r p e ds i g → after ≡ before ++ g ∷ [] → KeysSealed r p (take i keys) (take i ds) before → KeysSealed r p (take (i + 1) keys) (take (i + 1) ds) after
keys_next r p keys i e ds before after g lt at (d, there, one) more was =
    let parts : take (i + 1) ds ≡ take i ds ++ d ∷ [] = take_one ds i d (slice_get_within ds i d there) (sym (get_or_from_slice_get ds i d d there)) in
    let entries : take (i + 1) keys ≡ take i keys ++ e ∷ [] = take_one keys i e lt at in
    rw (entries, parts, more) (sealed_more r p (take i keys) (take i ds) before e d g was one)

-- ---- the bag of a key

pub bag_sealed : (r : ℕ) (p : List ℕ) (e : KeyEntry) (ds : List IvAndSalt) (i : ℕ) (a : AlgorithmIdentifier) (c m : List ℕ) (vs : List PKCS12Attribute) → m ≡ e.key → vs ≡ own_attributes e → IsSealedAt r p ds i m a c
    → IsKeySealedAt r p e ds i (record { bag = kind.Pkcs8ShroudedKeyBag (key_with a c); attributes = vs })
bag_sealed r p e ds i a c m vs text own s = (
  s.part,
  s.at,
  record { ciphertext = c; seals = subst (λ (x : List ℕ). Seals r p s.part x c) text s.seals; is = rw (s.algorithm, own) refl },
)

-- ---- what can be written

pub are_parameters : (r : ℕ) (d : IvAndSalt) → r < 2 ^ 32 → AreOf16 d → AreParameters (parameters_under r d)
are_parameters r d small of = ((omega (arith, of.1), omega (arith, small), tt), of.0)

names_write : (name : Option (List ℕ)) (vs : List PKCS12Attribute) → All WritableAttribute vs → All WritableAttribute (name_attributes name ++ vs)
names_write None vs h = h
names_write (Some t) vs h = All-cons WritableAttribute (FriendlyName t) vs tt h

name_write : (name : Option (List ℕ)) → All WritableAttribute (name_attributes name)
name_write None = All-nil WritableAttribute
name_write (Some t) = All-cons WritableAttribute (FriendlyName t) [] tt (All-nil WritableAttribute)

own_write : (e : KeyEntry) → All WritableAttribute (own_attributes e)
own_write e = names_write e.name (LocalKeyId (sha1 e.certificate) ∷ []) (All-cons WritableAttribute (LocalKeyId (sha1 e.certificate)) [] tt (All-nil WritableAttribute))

own_bags_write : (keys : List KeyEntry) → All WritableBag (map own_certificate_bag keys)
own_bags_write [] = All-nil WritableBag
own_bags_write (e ∷ keys) = All-cons WritableBag (own_certificate_bag e) (map own_certificate_bag keys) (tt, own_write e) (own_bags_write keys)

further_write : (certificates : List CertificateEntry) → All WritableBag (map further_bag certificates)
further_write [] = All-nil WritableBag
further_write (c ∷ certificates) = All-cons WritableBag (further_bag c) (map further_bag certificates) (tt, name_write c.name) (further_write certificates)

pub certificates_write : (keys : List KeyEntry) (certificates : List CertificateEntry) → All WritableBag (certificate_bags keys certificates)
certificates_write keys certificates = All-append WritableBag (map own_certificate_bag keys) (map further_bag certificates) (own_bags_write keys) (further_write certificates)

pub keys_write : (r : ℕ) (p : List ℕ) (es : List KeyEntry) (ds : List IvAndSalt) (gs : List SafeBag) → r < 2 ^ 32 → All AreOf16 ds → KeysSealed r p es ds gs → All WritableBag gs
keys_write r p [] [] [] small of h = All-nil WritableBag
keys_write r p [] [] (g ∷ gs) small of h = absurd h
keys_write r p [] (d ∷ ds) gs small of h = absurd h
keys_write r p (e ∷ es) [] gs small of h = absurd h
keys_write r p (e ∷ es) (d ∷ ds) [] small of h = absurd h
keys_write r p (e ∷ es) (d ∷ ds) (g ∷ gs) small of h =
    let can : WritableBag (key_bag r e d h.0.ciphertext) = (are_parameters r d small (All-head AreOf16 d ds of), own_write e) in
    All-cons WritableBag g gs (subst WritableBag (sym h.0.is) can) (keys_write r p es ds gs small (All-tail AreOf16 d ds of) h.1)

-- ---- what all entries have

pub all_done : {X : Type 0} (P : X → Type 0) (xs : List X) (i : ℕ) → length xs ≤ i → All P (take i xs) → All P xs
all_done P xs i le all = subst (All P) (take_all i xs le) all

pub not_all : (entries : List KeyEntry) (i : ℕ) (e : KeyEntry) (text : List ℕ) → i < length entries → e ≡ get_or entries i e → text ≡ e.key → NoKeyText text → All HasKeyText entries → ⊥
not_all entries i e text lt at is none all =
    let one : HasKeyText e = subst HasKeyText (sym at) (all i e lt) in
    none one.0 (subst (λ (x : List ℕ). IsPrivateKey x one.0) (sym is) one.1)
