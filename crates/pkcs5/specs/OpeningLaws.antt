-- lemmas only: nothing to believe here
-- The function that opens gives the text that a ciphertext opens to, and none exactly where there is none.
use Rattle.std.proofs.Common.{◌≡◌, ℕ, ◌+◌, ◌-◌, ◌*◌, ◌<◌, ◌%◌, Bool, true, false, ◌&&◌, List, ◌++◌, length, take, get_or, replicate, bit_xor, suc, Option, Some, None, refl, sym, ap, ◌∙◌, arith, length-append, IsTrue, nat_lt, nat_eq, lit<}
use Rattle.std.specs.Prelude.{slice_index, if◌then◌else◌}
use Rattle.std.specs.Str.{bytes_eq}
use Rattle.std.proofs.lemmas.Bool.{lt-ltb, ltb-true, eq-eqb, eqb-true}
use Rattle.std.proofs.lemmas.Slice.Eq.{bytes_eq-Decides}
use Rattle.std.proofs.lemmas.List.{take_at, length-replicate, get_or-replicate}
use Rattle.std.proofs.lemmas.List.FromFn.{length-map-range_with_len}
use Rattle.std.proofs.Math.Seq.{get_or-append_right}
use Rattle.std.proofs.lemmas.Nat.{mod_below}
use Rattle.asn1_core.specs.OctetLaws.{both}
use Rattle.block_core.specs.AesRounds.{add_round_key, encrypt_with, state_by}
use Rattle.mac_modes.specs.Cbc.{uncbc}
use Rattle.mac_modes.specs.Gcm.{counter, gcm, tag, under_stream}
use Rattle.mac_modes.specs.GcmLaws.{tag-length, under_twice}
use Rattle.mac_modes.specs.Padding.{pad_count, padded}
use Rattle.pkcs5.specs.Opening.{Decrypts, Unseals, OpensBy, unpadded, decrypted, unsealed, opened_by, opened, Opens, key_under}
use Rattle.pkcs5.specs.declared.pbes2.encryption_scheme.EncryptionScheme.{EncryptionScheme}
use Rattle.pkcs5.specs.declared.pbes2.encryption_scheme.EncryptionScheme.TheVariants.{Aes128Cbc, Aes192Cbc, Aes256Cbc, Aes128Gcm, Aes256Gcm, DesEde3Cbc, DesCbc}
use Rattle.pkcs5.specs.declared.pbes2.parameters.Parameters.{Parameters}

if_some : {A : Type 0} (t : Bool) (x : Option A) (n : A) → (if t then x else None) ≡ Some n → IsTrue t × (x ≡ Some n)
if_some true x n e = (refl, e)
if_some false x n e = absurd cc

some_is : {A : Type 0} (m n : A) → Some m ≡ Some n → m ≡ n
some_is m n e = cc

-- ---- CBC

-- the last octet of a padded text is the number of the padding's octets
last_is : (m : List ℕ) (k : ℕ) → 0 < k → slice_index (m ++ replicate k k) (length (m ++ replicate k k) - 1) ≡ k
last_is m k h =
    let size : length (m ++ replicate k k) ≡ length m + k = length-append m (replicate k k) ∙ ap (λ (n : ℕ). length m + n) (length-replicate k k) in
    let at : length (m ++ replicate k k) - 1 ≡ length m + (k - 1) = omega (arith, size, h) in
    let behind : length m + (k - 1) - length m ≡ k - 1 = omega arith in
    ap (slice_index (m ++ replicate k k)) at ∙ get_or-append_right m (replicate k k) (length m + (k - 1)) 0 (omega arith) ∙ ap (λ (i : ℕ). get_or (replicate k k) i 0) behind ∙ get_or-replicate k (k - 1) k 0 (omega (arith, h))

unpadded_of : (n : ℕ) (m : List ℕ) → 0 < n → unpadded n (padded m n) ≡ Some m
unfolding unpadded
unpadded_of n m h =
    let k = pad_count n (length m) in
    let some : 0 < k = let lt = mod_below (length m) n h in omega (arith, lt) in
    let last = last_is m k some in
    let size : length (padded m n) - k ≡ length m = omega (arith, length-append m (replicate k k), length-replicate k k) in
    let front : take (length (padded m n) - slice_index (padded m n) (length (padded m n) - 1)) (padded m n) ≡ m =
    ap (λ (j : ℕ). take (length (padded m n) - j) (padded m n)) last ∙ ap (λ (j : ℕ). take j (padded m n)) size ∙ take_at m (replicate k k) (length m) refl in
    rw (front, (bytes_eq-Decides (padded m n) (padded m n)).1 refl) refl

unpadded_is : (n : ℕ) (t m : List ℕ) → unpadded n t ≡ Some m → padded m n ≡ t
unfolding unpadded
unpadded_is n t m e =
    let k = take (length t - slice_index t (length t - 1)) t in
    let h = if_some (bytes_eq (padded k n) t) (Some k) m e in
    ap (λ (x : List ℕ). padded x n) (sym (some_is k m h.1)) ∙ (bytes_eq-Decides (padded k n) t).0 h.0

decrypted_some : (n : ℕ) (D : List ℕ → List ℕ) (iv c m : List ℕ) → 0 < n → Decrypts n D iv c m → decrypted n D iv c ≡ Some m
unfolding decrypted
decrypted_some n D iv c m pos h =
    rw (lt-ltb 0 (length c) h.blocks.some, eq-eqb (length c % n) 0 h.blocks.whole) (ap (unpadded n) h.text ∙ unpadded_of n m pos)

decrypted_is : (n : ℕ) (D : List ℕ → List ℕ) (iv c m : List ℕ) → decrypted n D iv c ≡ Some m → Decrypts n D iv c m
unfolding decrypted
decrypted_is n D iv c m e =
    let h = if_some (nat_lt 0 (length c) && nat_eq (length c % n) 0) (unpadded n (uncbc D n iv c)) m e in
    let t = both (nat_lt 0 (length c)) (nat_eq (length c % n) 0) h.0 in
    record { blocks = record { some = ltb-true 0 (length c) t.0; whole = eqb-true (length c % n) 0 t.1 }; text = sym (unpadded_is n (uncbc D n iv c) m h.1) }

-- ---- GCM

-- AES gives blocks of 16 octets
state_16 : (f : ℕ → ℕ) → length (state_by f) ≡ 16
state_16 f = length-map-range_with_len f 0 16

key_16 : (keys : List ℕ) (n : ℕ) (s : List ℕ) → length (add_round_key keys n s) ≡ 16
unfolding add_round_key
key_16 keys n s = state_16 (λ (i : ℕ). bit_xor (slice_index s i) (slice_index keys (16 * n + i)))

pub gives_16 : (keys : List ℕ) (n : ℕ) (s : List ℕ) → length (encrypt_with keys n s) ≡ 16
unfolding encrypt_with
gives_16 keys n s = key_16 keys (suc n) _

-- a text under the stream comes back
pub unsealed_text : (E : List ℕ → List ℕ) (nonce : List ℕ) → ((b : List ℕ) → length (E b) ≡ 16) → (c m : List ℕ) → Unseals E nonce c m → under_stream E nonce (take (length c - 16) c) ≡ m
unfolding gcm
unsealed_text E nonce l c m h =
    let u : List ℕ = under_stream E nonce m in
    let v : List ℕ = tag E nonce u in
    let lc : length c ≡ length u + length v = ap length (sym h.text) ∙ length-append u v in
    let lu : length u ≡ length c - 16 = omega (arith, lc, tag-length E nonce (λ n. l (counter nonce n)) u) in
    let front : take (length c - 16) c ≡ u = ap (take (length c - 16)) (sym h.text) ∙ take_at u v (length c - 16) lu in
    ap (under_stream E nonce) front ∙ under_twice E nonce (λ n. l (counter nonce n)) m

unsealed_some : (E : List ℕ → List ℕ) (nonce : List ℕ) → ((b : List ℕ) → length (E b) ≡ 16) → (c m : List ℕ) → Unseals E nonce c m → unsealed E nonce c ≡ Some m
unfolding unsealed
unsealed_some E nonce l c m h =
    rw (unsealed_text E nonce l c m h, eq-eqb (length c) (length m + 16) h.long, (bytes_eq-Decides (gcm E nonce m) c).1 h.text) refl

unsealed_is : (E : List ℕ → List ℕ) (nonce c m : List ℕ) → unsealed E nonce c ≡ Some m → Unseals E nonce c m
unfolding unsealed
unsealed_is E nonce c m e =
    let x : List ℕ = under_stream E nonce (take (length c - 16) c) in
    let h = if_some (nat_eq (length c) (length x + 16) && bytes_eq (gcm E nonce x) c) (Some x) m e in
    let t = both (nat_eq (length c) (length x + 16)) (bytes_eq (gcm E nonce x) c) h.0 in
    let same : x ≡ m = some_is x m h.1 in
    record {
      long = eqb-true (length c) (length x + 16) t.0 ∙ ap (λ (y : List ℕ). length y + 16) same;
      text = ap (gcm E nonce) (sym same) ∙ (bytes_eq-Decides (gcm E nonce x) c).0 t.1;
    }

-- ---- by the cipher

opened_by_some : (e : EncryptionScheme) (key c m : List ℕ) → OpensBy e key c m → opened_by e key c ≡ Some m
unfolding OpensBy opened_by
opened_by_some (Aes128Cbc iv) key c m h = decrypted_some 16 _ iv c m (lit< tt) h
opened_by_some (Aes192Cbc iv) key c m h = decrypted_some 16 _ iv c m (lit< tt) h
opened_by_some (Aes256Cbc iv) key c m h = decrypted_some 16 _ iv c m (lit< tt) h
opened_by_some (Aes128Gcm nonce) key c m h = unsealed_some _ nonce (gives_16 _ _) c m h
opened_by_some (Aes256Gcm nonce) key c m h = unsealed_some _ nonce (gives_16 _ _) c m h
opened_by_some (DesEde3Cbc iv) key c m h = decrypted_some 8 _ iv c m (lit< tt) h
opened_by_some (DesCbc iv) key c m h = decrypted_some 8 _ iv c m (lit< tt) h

opened_by_is : (e : EncryptionScheme) (key c m : List ℕ) → opened_by e key c ≡ Some m → OpensBy e key c m
unfolding OpensBy opened_by
opened_by_is (Aes128Cbc iv) key c m h = decrypted_is 16 _ iv c m h
opened_by_is (Aes192Cbc iv) key c m h = decrypted_is 16 _ iv c m h
opened_by_is (Aes256Cbc iv) key c m h = decrypted_is 16 _ iv c m h
opened_by_is (Aes128Gcm nonce) key c m h = unsealed_is _ nonce c m h
opened_by_is (Aes256Gcm nonce) key c m h = unsealed_is _ nonce c m h
opened_by_is (DesEde3Cbc iv) key c m h = decrypted_is 8 _ iv c m h
opened_by_is (DesCbc iv) key c m h = decrypted_is 8 _ iv c m h

pub opened_some : (par : Parameters) (q c m : List ℕ) → Opens par q c m → opened par q c ≡ Some m
opened_some par q c m h = opened_by_some par.encryption (key_under par q) c m h

pub opened_is : (par : Parameters) (q c m : List ℕ) → opened par q c ≡ Some m → Opens par q c m
opened_is par q c m e = opened_by_is par.encryption (key_under par q) c m e

pub opened_none : (par : Parameters) (q c : List ℕ) → ((m : List ℕ) → Opens par q c m → ⊥) → opened par q c ≡ None
opened_none par q c h = by_case (opened par q c) refl
  where
    by_case : (r : Option (List ℕ)) → opened par q c ≡ r → opened par q c ≡ None
    by_case None e = e
    by_case (Some m) e = absurd (h m (opened_is par q c m e))

-- a ciphertext opens to one text
pub opened_once : (par : Parameters) (q c m n : List ℕ) → Opens par q c m → Opens par q c n → m ≡ n
opened_once par q c m n h k = some_is m n (sym (opened_some par q c m h) ∙ opened_some par q c n k)
