-- Drawn octets, and documents sealed under them.
use Rattle.std.proofs.Common.{ℕ, ◌≡◌, ◌+◌, ◌*◌, ◌≤◌, ◌<◌, suc, List, [], ◌∷◌, ◌++◌, length, refl, sym, ap, ◌∙◌, arith, subst, take, get_or}
use Rattle.std.specs.Prelude.{All, Option, Some, None, Result, Ok, Err, IfOk}
use Rattle.std.specs.Io.KnownBytes.{Consumes}
use Rattle.std.proofs.lemmas.List.{append_assoc, append-nil, get_or-map, length-append, length-map}
use Rattle.pkcs5.specs.declared.pbes2.parameters.Parameters.{Parameters}
use Rattle.pkcs8.specs.Sealing.{IsSealed}
use Rattle.transfer.specs.declared.store.error.TransferError.{TransferError}
use Rattle.transfer.specs.declared.store.key_text.OpenedKey.{OpenedKey}
use Rattle.transfer.specs.Document.{IsDocument, document_key}
use Rattle.sealing_core.proofs.Draws.{consumes_more, length-octets_of, octets_more}
use Rattle.sealing_core.specs.Drawn.{AreOf16, octets_of}
use Rattle.sealing_core.specs.declared.drawn.IvAndSalt.{IvAndSalt}
use Rattle.mac_modes.specs.Hmac.{hmac}
use Rattle.mac_modes.specs.HmacLaws.{length-hmac}
use Rattle.pbkdf2.proofs.Xors.{has_its_length}
use Rattle.sha2.specs.Sha256.{sha256}
use Rattle.sha2.proofs.Facts256.{length-sha256}
use Rattle.std.proofs.lemmas.List.Elements.{All-drop, All-take}
use Rattle.std.proofs.Math.Seq.{drop-append_seam, take-append_seam}
use Rattle.transfer.specs.Sealing.{AreDrawn, IsDrawn, SealsAll, document_keys}
use Rattle.transfer.specs.InPlace.{texts_of}
use Rattle.transfer.proofs.Faults.{take_one}
use Rattle.transfer.proofs.Overwriting.{map_more}

pub sealed_length : (rounds : ℕ) (q drawn : List ℕ) (k : List ℕ) (b : List ℕ) → IsDrawn rounds q drawn k b → length drawn ≡ 32
sealed_length rounds q drawn k b s = ap length s.are ∙ length-append s.iv s.salt ∙ omega (arith, s.of_16, s.and_16)

-- What is sealed, under equal names.
pub sealed_as : (par pas : Parameters) (q m n b c : List ℕ) → par ≡ pas → m ≡ n → c ≡ b → IsSealed par q m b → IsSealed pas q n c
sealed_as par pas q m n b c same text is s =
    subst (λ x. IsSealed pas q n x) (sym is) (subst (λ x. IsSealed pas q x b) text (subst (λ x. IsSealed x q m b) same s))

-- Further keys after those that are sealed.
drawn_both : (rounds : ℕ) (q : List ℕ) (ks bs : List (List ℕ)) (d : List ℕ) (js cs : List (List ℕ)) (e : List ℕ)
    → AreDrawn rounds q ks bs d → AreDrawn rounds q js cs e → AreDrawn rounds q (ks ++ js) (bs ++ cs) (d ++ e)
drawn_both rounds q [] [] d js cs e a f = subst (λ t. AreDrawn rounds q js cs (t ++ e)) (sym a) f
drawn_both rounds q [] (c ∷ bs) d js cs e a f = absurd a
drawn_both rounds q (j ∷ ks) [] d js cs e a f = absurd a
drawn_both rounds q (j ∷ ks) (c ∷ bs) d js cs e a f =
    (a.0, a.1 ++ e, ap (λ t. t ++ e) a.2 ∙ append_assoc a.0 a.1 e, a.3, drawn_both rounds q ks bs a.1 js cs e a.4 f)

-- One more key after those that are sealed.
pub sealed_append : (rounds : ℕ) (q : List ℕ) (ks : List (List ℕ)) (bs : List (List ℕ)) (k : List ℕ) (b d drawn : List ℕ)
    → AreDrawn rounds q ks bs d → IsDrawn rounds q drawn k b → AreDrawn rounds q (ks ++ k ∷ []) (bs ++ b ∷ []) (d ++ drawn)
sealed_append rounds q ks bs k b d drawn a s = drawn_both rounds q ks bs d (k ∷ []) (b ∷ []) drawn a (drawn, [], sym (append-nil drawn), s, refl)

-- No key is sealed under no octets.
consumes_none : (o : Option (List ℕ)) → Consumes o o []
consumes_none None = tt
consumes_none (Some x) = refl

pub seals_none : (rounds : ℕ) (q : List ℕ) (o : Option (List ℕ)) → SealsAll rounds q o o [] []
seals_none rounds q o = record { drawn = []; by = refl; took = consumes_none o; each_one = refl; each_32 = refl }

-- A group of keys after those that are sealed.
pub seals_both : (rounds : ℕ) (q : List ℕ) (old mid new : Option (List ℕ)) (keys group more bs cs ds : List (List ℕ))
    → SealsAll rounds q old mid keys bs → SealsAll rounds q mid new group cs → more ≡ keys ++ group → ds ≡ bs ++ cs → SealsAll rounds q old new more ds
seals_both rounds q old mid new keys group more bs cs ds a b is are = record {
  drawn = a.drawn ++ b.drawn;
  by = rw (is, are) (drawn_both rounds q keys bs a.drawn group cs b.drawn a.by b.by);
  took = consumes_more old mid new a.drawn b.drawn a.took b.took;
  each_one = omega (arith, ap length is, ap length are, length-append keys group, length-append bs cs, a.each_one, b.each_one);
  each_32 = omega (arith, ap length is, length-append keys group, length-append a.drawn b.drawn, a.each_32, b.each_32);
}

-- What all of two lists in a row have, all of each have.
all_left : {A : Type 0} (P : A → Type 0) (xs ys : List A) → All P (xs ++ ys) → All P xs
all_left P xs ys h = subst (All P) (take-append_seam xs ys) (All-take P (length xs) (xs ++ ys) h)

all_right : {A : Type 0} (P : A → Type 0) (xs ys : List A) → All P (xs ++ ys) → All P ys
all_right P xs ys h = subst (All P) (drop-append_seam xs ys) (All-drop P (length xs) (xs ++ ys) h)

-- The next of a list: what each of the list has each of these has, and 32 octets each are within those of all.
pub all_group : {A : Type 0} (P : A → Type 0) (xs done rest group after : List A) → xs ≡ done ++ rest → rest ≡ group ++ after → All P xs → All P group
all_group P xs done rest group after split is all = all_left P group after (subst (All P) is (all_right P done rest (subst (All P) split all)))

pub group_fits : {A : Type 0} (xs done rest group after : List A) → xs ≡ done ++ rest → rest ≡ group ++ after → (n : ℕ) → n ≡ 32 * length done → n + 32 * length group ≤ 32 * length xs
group_fits xs done rest group after split is n e = omega (arith, e, ap length split, length-append done rest, ap length is, length-append group after)

-- The key at a place is sealed under the IV and the salt at that place.
pub sealed_next : (rounds : ℕ) (q : List ℕ) (keys : List OpenedKey) (i : ℕ) (key : OpenedKey) (ds : List IvAndSalt) (d : IvAndSalt) (bs : List (List ℕ)) (b : List ℕ)
    → i < length keys → i < length ds → key ≡ get_or keys i key → d ≡ get_or ds i d → All AreOf16 ds
    → AreDrawn rounds q (texts_of (take i keys)) bs (octets_of (take i ds)) → IsDocument b rounds d.iv d.salt q key.text.now
    → AreDrawn rounds q (texts_of (take (i + 1) keys)) (bs ++ b ∷ []) (octets_of (take (i + 1) ds))
sealed_next rounds q keys i key ds d bs b lt less at there all a h =
    let of = subst AreOf16 (sym there) (all i d less) in
    let drawn : IsDrawn rounds q (d.iv ++ d.salt) key.text.now b = record { iv = d.iv; salt = d.salt; are = refl; of_16 = of.0; and_16 = of.1; is = h } in
    let keys_more : texts_of (take (i + 1) keys) ≡ texts_of (take i keys) ++ key.text.now ∷ [] =
    ap texts_of (take_one keys i key lt at) ∙ map_more (λ (k : OpenedKey). k.text.now) (take i keys) key in
    let drawn_more : octets_of (take (i + 1) ds) ≡ octets_of (take i ds) ++ (d.iv ++ d.salt) = ap octets_of (take_one ds i d less there) ∙ octets_more (take i ds) d in
    subst (λ t. AreDrawn rounds q t (bs ++ b ∷ []) (octets_of (take (i + 1) ds))) (sym keys_more)
    (subst (AreDrawn rounds q (texts_of (take i keys) ++ key.text.now ∷ []) (bs ++ b ∷ [])) (sym drawn_more)
    (sealed_append rounds q (texts_of (take i keys)) bs key.text.now b (octets_of (take i ds)) (d.iv ++ d.salt) a drawn))

-- As many documents as keys.
drawn_each : (rounds : ℕ) (q : List ℕ) (ks bs : List (List ℕ)) (d : List ℕ) → AreDrawn rounds q ks bs d → length bs ≡ length ks
drawn_each rounds q [] [] d a = refl
drawn_each rounds q [] (b ∷ bs) d a = absurd a
drawn_each rounds q (k ∷ ks) [] d a = absurd a
drawn_each rounds q (k ∷ ks) (b ∷ bs) d a = ap suc (drawn_each rounds q ks bs a.1 a.4)

-- What is drawn at first and then sealed is sealed under the octets of the draw.
sealed_all : (rounds : ℕ) (q : List ℕ) (old new : Option (List ℕ)) (keys : List OpenedKey) (ds : List IvAndSalt) (bs : List (List ℕ)) → All AreOf16 ds
    → length ds ≡ length keys → Consumes old new (octets_of ds) → AreDrawn rounds q (texts_of keys) bs (octets_of ds) → SealsAll rounds q old new (texts_of keys) bs
sealed_all rounds q old new keys ds bs of many took by = record {
  drawn = octets_of ds;
  by = by;
  took = took;
  each_one = drawn_each rounds q (texts_of keys) bs (octets_of ds) by;
  each_32 = omega (arith, length-octets_of ds of, many, length-map keys (λ (k : OpenedKey). k.text.now));
}

-- The same of a result, under the keys that were derived for it.
pub sealed_if : (r : Result (List (List ℕ)) TransferError) (rounds : ℕ) (q : List ℕ) (old new : Option (List ℕ)) (keys : List OpenedKey) (ds : List IvAndSalt)
    (derived : List (List ℕ)) → All AreOf16 ds → length ds ≡ length keys → Consumes old new (octets_of ds) → derived ≡ document_keys rounds q ds
    → IfOk r (λ bs. (q : List ℕ) → derived ≡ document_keys rounds q ds → AreDrawn rounds q (texts_of keys) bs (octets_of ds))
    → IfOk r (λ bs. SealsAll rounds q old new (texts_of keys) bs)
sealed_if (Ok bs) rounds q old new keys ds derived of many took e h = sealed_all rounds q old new keys ds bs of many took (h q e)
sealed_if (Err f) rounds q old new keys ds derived of many took e h = tt

-- The key of a document has 32 octets.
pub length-document_key : (rounds : ℕ) (salt q : List ℕ) → length (document_key rounds salt q) ≡ 32
length-document_key rounds salt q = has_its_length (hmac sha256 64 q) 32 salt rounds 32 (omega arith) (length-hmac sha256 64 32 length-sha256 q)

-- The key at a place is that of the salt there.
pub key_at : (rounds : ℕ) (q : List ℕ) (ds : List IvAndSalt) (keys : List (List ℕ)) (i : ℕ) (d : IvAndSalt) (key : List ℕ) → i < length ds
    → keys ≡ document_keys rounds q ds → key ≡ get_or keys i key → d ≡ get_or ds i d → key ≡ document_key rounds d.salt q
key_at rounds q ds keys i d key lt e at there =
    at ∙ ap (λ ks. get_or ks i key) e ∙ get_or-map (λ (d : IvAndSalt). document_key rounds d.salt q) ds i d key lt
    ∙ ap (λ (d : IvAndSalt). document_key rounds d.salt q) (sym there)
