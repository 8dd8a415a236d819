-- When a store is refused that is being made.
use Rattle.std.proofs.Common.{◌≡◌, ◌∙◌, ℕ, ◌<◌, ◌^◌, List, [], ◌∷◌, map, length, Ok, Err, ap, subst, inl, inr, arith}
use Rattle.std.specs.Prelude.{All, IfErr, IfOk, OnOk, Result}
use Rattle.std.proofs.lemmas.List.Elements.{All-cons, All-nil}
use Rattle.p12.specs.Building.{Entry, IsCiphertext, IsTooLong, IsTooLongStore, RefusesBags, RefusesStore, Salts, certificate_bag, certificate_bags, key_bag, outer_length, own_attributes, sealed_content, two_contents}
use Rattle.p12.specs.Canonical.{WritableAttribute, WritableBag, WritableContent, bags_canon, contents_canon}
use Rattle.p12.specs.MacData.{mac_of}
use Rattle.p12.specs.Writing.{EncodesText}
use Rattle.p12.specs.declared.algorithm_identifier.AlgorithmIdentifier.{AlgorithmIdentifier}
use Rattle.p12.specs.declared.attribute.PKCS12Attribute.TheVariants.{FriendlyName, LocalKeyId}
use Rattle.p12.specs.declared.content_info.ContentInfo.TheVariants as content
use Rattle.p12.specs.declared.error.Error.{Error}
use Rattle.p12.specs.declared.error.Error.TheVariants.{Malformed, Invalid, Rng, TooLong, Memory}
use Rattle.p12.specs.declared.mac_data.MacData.{MacData}
use Rattle.p12.specs.declared.safe_bag.SafeBag.{SafeBag}
use Rattle.sha1.specs.Sha1.{sha1}
use Rattle.p12.proofs.MadeSizes.{Seals, key_size, two_size}

-- ---- what is made can be written

own_writable : (e : Entry) → All WritableAttribute (own_attributes e)
own_writable e =
    All-cons WritableAttribute (FriendlyName e.name) (LocalKeyId (sha1 e.certificate) ∷ []) tt (All-cons WritableAttribute (LocalKeyId (sha1 e.certificate)) [] tt (All-nil WritableAttribute))

others_writable : (vs : List (List ℕ)) → All WritableBag (map (certificate_bag []) vs)
others_writable [] = All-nil WritableBag
others_writable (v ∷ vs) = All-cons WritableBag (certificate_bag [] v) (map (certificate_bag []) vs) (tt, All-nil WritableAttribute) (others_writable vs)

certificates_writable : (e : Entry) → All WritableBag (certificate_bags e)
certificates_writable e = All-cons WritableBag (certificate_bag (own_attributes e) e.certificate) (map (certificate_bag []) e.others) (tt, own_writable e) (others_writable e.others)

key_writable : (e : Entry) (salt v : List ℕ) → All WritableBag (key_bag e salt v ∷ [])
key_writable e salt v = All-cons WritableBag (key_bag e salt v) [] (tt, own_writable e) (All-nil WritableBag)

two_writable : (e : Entry) (s : Salts) (c v : List ℕ) → All WritableContent (two_contents e s c v)
two_writable e s c v =
    let second = content.Data (bags_canon (key_bag e s.key v ∷ [])) in
    All-cons WritableContent (sealed_content s.certificates c) (second ∷ []) tt (All-cons WritableContent second [] tt (All-nil WritableContent))

-- ---- refusals of the steps

certificates_refused : (e : Entry) (f : Error) → RefusesBags (certificate_bags e) f → RefusesStore e f
certificates_refused e Malformed r = absurd (r (certificates_writable e))
certificates_refused e Invalid r = r
certificates_refused e Rng r = r
certificates_refused e TooLong r = inr (inl r)
certificates_refused e Memory r = r

pub seal_refused : {V : Type 0} (e : Entry) (gs : List SafeBag) (r : Result V Error) → gs ≡ certificate_bags e → IfErr r (RefusesBags gs) → IfErr r (RefusesStore e)
seal_refused e gs (Ok v) is h = tt
seal_refused e gs (Err f) is h = certificates_refused e f (subst (λ (x : List SafeBag). RefusesBags x f) is h)

key_text_refused : (e : Entry) (salt v : List ℕ) → length salt ≡ 8 → Seals e.key v → (f : Error) → EncodesText (All WritableBag (key_bag e salt v ∷ [])) (bags_canon (key_bag e salt v ∷ [])) (Err f) → RefusesStore e f
key_text_refused e salt v h g Malformed r = absurd (r (key_writable e salt v))
key_text_refused e salt v h g Invalid r = r
key_text_refused e salt v h g Rng r = r
key_text_refused e salt v h g TooLong r = inr (inr (omega (arith, r, key_size e salt v h g)))
key_text_refused e salt v h g Memory r = r

-- the text of the key's bag was made, or why not
module _ (e : Entry) (salt v : List ℕ) (k : SafeBag) (is : k ≡ key_bag e salt v) where
  pub key_made : (q : List ℕ) → IsCiphertext q salt e.key v → (r : Result (List ℕ) Error) → EncodesText (All WritableBag (k ∷ [])) (bags_canon (k ∷ [])) r
      → IfOk r (λ t. (c : List ℕ) × IsCiphertext q salt e.key c × (t ≡ bags_canon (key_bag e salt c ∷ [])))
  key_made q c (Ok t) m = (v, c, m.0 ∙ ap (λ (x : SafeBag). bags_canon (x ∷ [])) is)
  key_made q c (Err f) m = tt

  pub key_refused : length salt ≡ 8 → Seals e.key v → (r : Result (List ℕ) Error) → EncodesText (All WritableBag (k ∷ [])) (bags_canon (k ∷ [])) r → IfErr r (RefusesStore e)
  key_refused h g (Ok t) m = tt
  key_refused h g (Err f) m = key_text_refused e salt v h g f (subst (λ (x : SafeBag). EncodesText (All WritableBag (x ∷ [])) (bags_canon (x ∷ [])) (Err f)) is m)

outer_text_refused : (e : Entry) (s : Salts) (c v : List ℕ) → length (contents_canon (two_contents e s c v)) ≡ outer_length e → (f : Error)
    → EncodesText (All WritableContent (two_contents e s c v)) (contents_canon (two_contents e s c v)) (Err f) → RefusesStore e f
outer_text_refused e s c v size Malformed r = absurd (r (two_writable e s c v))
outer_text_refused e s c v size Invalid r = r
outer_text_refused e s c v size Rng r = r
outer_text_refused e s c v size TooLong r = inr (inr (omega (arith, r, size)))
outer_text_refused e s c v size Memory r = r

-- none of the three texts is too long
none_too_long : (e : Entry) → ¬ (IsTooLong e.key) → ¬ (IsTooLong (bags_canon (certificate_bags e))) → outer_length e < 2 ^ 32 → ¬ (IsTooLongStore e)
none_too_long e key certificates short (inl long) = key long
none_too_long e key certificates short (inr (inl long)) = certificates long
none_too_long e key certificates short (inr (inr long)) = absurd (omega (arith, long, short))

-- the text of both contents was made, or why not
module _ (e : Entry) (s : Salts) (c v : List ℕ) (k : length s.key ≡ 8) (h : length s.certificates ≡ 8) (f : Seals (bags_canon (certificate_bags e)) c) (g : Seals e.key v) where
  pub outer_refused : (r : Result (List ℕ) Error) → EncodesText (All WritableContent (two_contents e s c v)) (contents_canon (two_contents e s c v)) r → IfErr r (RefusesStore e)
  outer_refused (Ok t) m = tt
  outer_refused (Err x) m = outer_text_refused e s c v (two_size e s c v k h f g) x m

  pub outer_fitting : ¬ (IsTooLong e.key) → ¬ (IsTooLong (bags_canon (certificate_bags e))) → (r : Result (List ℕ) Error) → EncodesText (All WritableContent (two_contents e s c v)) (contents_canon (two_contents e s c v)) r
      → OnOk r (¬ (IsTooLongStore e))
  outer_fitting key certificates (Ok t) (is, short, can) = none_too_long e key certificates (omega (arith, short, ap length is, two_size e s c v k h f g))
  outer_fitting key certificates (Err x) m = tt

-- the salt of a MAC that was made
pub made_salt : (a : AlgorithmIdentifier) (q v salt : List ℕ) (r : ℕ) (m : MacData) → m ≡ mac_of a q v salt r → m.salt ≡ salt
unfolding mac_of
made_salt a q v salt r m is = ap (λ (x : MacData). x.salt) is
