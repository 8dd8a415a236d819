-- What the schemes open, and what opening shows.
use Rattle.std.proofs.Common.{◌<◌, ◌≡◌, ◌≢◌, ◌⊎◌, inl, inr, ◌%◌, ℕ, ◌+◌, ◌*◌, ◌≤◌, ◌^◌, List, ◌++◌, length, length-append, take, Bool, true, false, Option, Some, None, refl, sym, ap, subst, ◌∙◌, arith, IsTrue, nat_lt}
use Rattle.std.specs.Prelude.{if◌then◌else◌, ◌&&◌, IfSome, IfNone, OnOk, Result, Ok, Err}
use Rattle.std.proofs.lemmas.List.{length-take-le}
use Rattle.std.proofs.lemmas.Bool.{ltb-true}
use Rattle.asn1_core.specs.OctetLaws.{both}
use Rattle.sha1.specs.Sha1.{sha1}
use Rattle.mac_modes.specs.Cbc.{uncbc}
use Rattle.mac_modes.specs.Padding.{padded}
use Rattle.p12.proofs.Paddings.{unpadded_none, unpadded_some}
use Rattle.pkcs5.specs.Opening.{opened, unpadded}
use Rattle.pkcs5.specs.declared.pbes2.kdf.Kdf.{Kdf}
use Rattle.pkcs5.specs.declared.pbes2.kdf.Kdf.TheVariants.{Pbkdf2, Scrypt}
use Rattle.pkcs5.specs.declared.pbes2.parameters.Parameters.{Parameters}
use Rattle.pkcs12_kdf.specs.Derivation.{derive12, turns}
use Rattle.p12.specs.declared.algorithm_identifier.AlgorithmIdentifier.{AlgorithmIdentifier}
use Rattle.p12.specs.declared.algorithm_identifier.AlgorithmIdentifier.TheVariants.{Sha1, Sha256, PbewithSHAAnd40BitRC2CBC, PbeWithSHAAnd3KeyTripleDESCBC, Pbes2, OtherAlg}
use Rattle.p12.specs.AlgorithmIdentifier.{is_blocks, salt_of, taken_pbe, triple_des_text, unlock_pbe}
use Rattle.p12.proofs.DefinitionLaws.{taken_most, unlock_opened}
use Rattle.legacy_store.specs.declared.scheme.OldCipher.{OldCipher}
use Rattle.legacy_store.specs.declared.scheme.OldCipher.TheVariants.{Rc2Of40, Rc2Of128, TwoKeyTripleDes}
use Rattle.legacy_store.specs.Algorithm.{IsSchemeOpened, SchemeOf, legacy_unlock, of_old, of_p12, of_scrypt, old_or_own, own_scheme, p12_taken, pbes2_scheme, p12_unlock, scheme_cost, scheme_count, scheme_of, scheme_openable, scheme_salt, scheme_taken, scheme_unlock}
use Rattle.legacy_store.specs.Forms.{Forms}
use Rattle.legacy_store.specs.Scrypt.{scrypt_opens}
use Rattle.legacy_store.specs.Scheme.{SchemeParts, key_octets, old_fits, old_inverse, old_scheme, old_taken, old_text, old_unlock, opens_with, salt_limit}

-- ---- Old schemes

-- what blocks decrypt to under a key and an IV that were derived
pub text_of_keys : (s : SchemeParts) (q b key iv : List ℕ) → key ≡ derive12 sha1 20 q s.salt s.iterations 1 (key_octets s.cipher) → iv ≡ derive12 sha1 20 q s.salt s.iterations 2 8
    → uncbc (old_inverse s.cipher key) 8 iv b ≡ old_text s q b
unfolding old_text
text_of_keys s q b key iv k v =
    ap (λ (x : List ℕ). uncbc (old_inverse s.cipher x) 8 iv b) k ∙ ap (λ (x : List ℕ). uncbc (old_inverse s.cipher (derive12 sha1 20 q s.salt s.iterations 1 (key_octets s.cipher))) 8 x b) v

-- each key is within one digest of SHA-1
pub one_turn : (k : OldCipher) → turns (key_octets k) 20 ≡ 1
one_turn Rc2Of40 = refl
one_turn Rc2Of128 = refl
one_turn TwoKeyTripleDes = refl

pub short_key : (k : OldCipher) → key_octets k ≤ 2 ^ 32
short_key Rc2Of40 = omega arith
short_key Rc2Of128 = omega arith
short_key TwoKeyTripleDes = omega arith

-- three keys that are made of two
pub two_keys : (k : List ℕ) → length k ≡ 16 → length (k ++ take 8 k) ≡ 24
two_keys k is = omega (arith, is, length-append k (take 8 k), length-take-le 8 k (omega (arith, is)))

-- what blocks open to under a cipher that is known
pub some_by : (k h : OldCipher) (key iv b new : List ℕ) (m : Option ℕ) → k ≡ h
    → IfSome m (λ len. (len ≤ length new) × (unpadded 8 (uncbc (old_inverse h key) 8 iv b) ≡ Some (take len new)))
    → IfSome m (λ len. (len ≤ length new) × (unpadded 8 (uncbc (old_inverse k key) 8 iv b) ≡ Some (take len new)))
some_by k h key iv b new m is = subst (λ (x : OldCipher). IfSome m (λ len. (len ≤ length new) × (unpadded 8 (uncbc (old_inverse x key) 8 iv b) ≡ Some (take len new)))) (sym is)

pub none_by : (k h : OldCipher) (key iv b : List ℕ) (m : Option ℕ) → k ≡ h → IfNone m (unpadded 8 (uncbc (old_inverse h key) 8 iv b) ≡ None)
    → IfNone m (unpadded 8 (uncbc (old_inverse k key) 8 iv b) ≡ None)
none_by k h key iv b m is = subst (λ (x : OldCipher). IfNone m (unpadded 8 (uncbc (old_inverse x key) 8 iv b) ≡ None)) (sym is)

-- what decrypted blocks open to, under a cipher of blocks of 8 octets
pub text_opens : (d e : List ℕ → List ℕ) (b : ℕ) (iv c m : List ℕ) → b ≡ 8 → d ≡ e → padded m b ≡ uncbc d b iv c → unpadded 8 (uncbc e 8 iv c) ≡ Some m
text_opens d e b iv c m block same h =
    let t = subst (λ (x : ℕ). padded m x ≡ uncbc d x iv c) block h in
    unpadded_some 8 (uncbc e 8 iv c) m (omega arith) (t ∙ ap (λ (f : List ℕ → List ℕ). uncbc f 8 iv c) same)

pub text_bad : (d e : List ℕ → List ℕ) (b : ℕ) (iv c : List ℕ) → b ≡ 8 → d ≡ e → ((m : List ℕ) → padded m b ≢ uncbc d b iv c) → unpadded 8 (uncbc e 8 iv c) ≡ None
text_bad d e b iv c block same h =
    let t = subst (λ (x : ℕ). (m : List ℕ) → padded m x ≢ uncbc d x iv c) block h in
    unpadded_none 8 (uncbc e 8 iv c) (λ m is. t m (is ∙ sym (ap (λ (f : List ℕ → List ℕ). uncbc f 8 iv c) same)))

pub whole_blocks : (n b : ℕ) → b ≡ 8 → 0 < n → n % 8 ≡ 0 → (n ≡ 0) ⊎ (n % b ≢ 0) → ⊥
whole_blocks n b block some whole (inl z) = omega (arith, z, some)
whole_blocks n b block some whole (inr x) = x (subst (λ (k : ℕ). n % k ≡ 0) (sym block) whole)

-- the steps of deriving a key
pub key_steps : (k : OldCipher) (n r old new : ℕ) → n ≡ key_octets k → new ≡ old + r * turns n 20 → new ≡ old + r
key_steps k n r old new is h =
    let t : turns n 20 ≡ 1 = ap (λ (x : ℕ). turns x 20) is ∙ one_turn k in
    let s : new ≡ old + r * 1 = h ∙ ap (λ (x : ℕ). old + r * x) t in
    omega (arith, s)

pub key_most : (k : OldCipher) (n r old new : ℕ) → n ≡ key_octets k → new ≤ old + r * turns n 20 → new ≤ old + r
key_most k n r old new is h =
    let t : turns n 20 ≡ 1 = ap (λ (x : ℕ). turns x 20) is ∙ one_turn k in
    let s : new ≤ old + r * 1 = subst (λ (x : ℕ). new ≤ old + r * x) t h in
    omega (arith, s)

pub ok_steps : {T E : Type 0} (r : Result T E) (old new n : ℕ) → new ≡ old + n → OnOk r (new ≡ old + n)
ok_steps (Ok x) old new n h = h
ok_steps (Err e) old new n h = tt

not_none : (t : Bool) (r : Option (List ℕ)) (m : List ℕ) → (if t then r else None) ≡ Some m → IsTrue t
not_none true r m e = refl
not_none false r m e = absurd cc

none_some : {P : Type 0} (m : List ℕ) → None ≡ Some m → P
none_some m e = absurd cc

at_most : (t : Bool) (n : ℕ) → (if t then n else 0) ≤ n
at_most true n = omega arith
at_most false n = omega arith

is_then : (t : Bool) (r : Option (List ℕ)) (m : List ℕ) → (if t then r else None) ≡ Some m → r ≡ Some m
is_then true r m e = e
is_then false r m e = absurd cc

old_opened : (has_mac : Bool) (s : SchemeParts) (q c m : List ℕ) → (if opens_with has_mac s.cipher then old_unlock s q c else None) ≡ Some m → IsSchemeOpened has_mac (of_old s) c
unfolding old_unlock old_taken scheme_openable scheme_count scheme_taken scheme_cost
old_opened has_mac s q c m h =
    let o : opens_with has_mac s.cipher ≡ true = not_none (opens_with has_mac s.cipher) (old_unlock s q c) m h in
    let t = not_none (old_fits s c) (unpadded 8 (old_text s q c)) m (is_then (opens_with has_mac s.cipher) (old_unlock s q c) m h) in
    let x = both (nat_lt (length s.salt) salt_limit) (nat_lt 0 s.iterations && is_blocks c) t in
    let r = both (nat_lt 0 s.iterations) (is_blocks c) x.1 in
    record { openable = rw o x.0; some_rounds = ltb-true 0 s.iterations r.0; all = rw t refl }

-- ---- As p12 opens

triple_des_opened : (has_mac : Bool) (p : _) (q c m : List ℕ) → unlock_pbe (PbeWithSHAAnd3KeyTripleDESCBC p) q c ≡ Some m → IsSchemeOpened has_mac (of_p12 (PbeWithSHAAnd3KeyTripleDESCBC p)) c
unfolding unlock_pbe p12_taken taken_pbe scheme_openable scheme_count scheme_taken scheme_cost
triple_des_opened has_mac p q c m h =
    let t = both (nat_lt 0 p.iterations) (is_blocks c) (not_none (nat_lt 0 p.iterations && is_blocks c) (unpadded 8 (triple_des_text q p.salt p.iterations c)) m h) in
    record { openable = refl; some_rounds = ltb-true 0 p.iterations t.0; all = rw t.1 refl }

own_opened : (f : Forms) (a : AlgorithmIdentifier) (c m : List ℕ) → p12_unlock f a c ≡ Some m → IsSchemeOpened f.has_mac (of_p12 a) c
unfolding p12_unlock p12_taken scheme_openable scheme_count scheme_taken scheme_cost
own_opened f Sha1 c m h = none_some m h
own_opened f Sha256 c m h = none_some m h
own_opened f (PbewithSHAAnd40BitRC2CBC p) c m h = none_some m h
own_opened f (PbeWithSHAAnd3KeyTripleDESCBC p) c m h = triple_des_opened f.has_mac p f.units c m h
own_opened f (Pbes2 par) c m h =
    let o = unlock_opened (Pbes2 par) f.utf8 c m h in
    record { openable = o.openable; some_rounds = o.some_rounds; all = o.all }
own_opened f (OtherAlg o) c m h = none_some m h

own_taken_most : (a : AlgorithmIdentifier) (c : List ℕ) → p12_taken a c ≤ scheme_cost (of_p12 a)
unfolding p12_taken taken_pbe scheme_cost
own_taken_most Sha1 c = omega arith
own_taken_most Sha256 c = omega arith
own_taken_most (PbewithSHAAnd40BitRC2CBC p) c = omega arith
own_taken_most (PbeWithSHAAnd3KeyTripleDESCBC p) c = at_most (is_blocks c) (3 * p.iterations)
own_taken_most (Pbes2 par) c = taken_most (Pbes2 par) c
own_taken_most (OtherAlg o) c = omega arith

-- ---- Schemes

scrypt_opened : (f : Forms) (par : Parameters) (c m : List ℕ) → (if scrypt_opens par then opened par f.utf8 c else None) ≡ Some m → IsSchemeOpened f.has_mac (of_scrypt par) c
unfolding scheme_openable scheme_count scheme_taken scheme_cost
scrypt_opened f par c m h = record { openable = not_none (scrypt_opens par) (opened par f.utf8 c) m h; some_rounds = omega arith; all = refl }

pub scheme_opened : (f : Forms) (s : SchemeOf) (c m : List ℕ) → scheme_unlock f s c ≡ Some m → IsSchemeOpened f.has_mac s c
unfolding scheme_unlock
scheme_opened f (of_old s) c m h = old_opened f.has_mac s f.units c m h
scheme_opened f (of_scrypt par) c m h = scrypt_opened f par c m h
scheme_opened f (of_p12 a) c m h = own_opened f a c m h

pub scheme_taken_most : (s : SchemeOf) (c : List ℕ) → scheme_taken s c ≤ scheme_cost s
unfolding old_taken scheme_taken scheme_cost
scheme_taken_most (of_old s) c = at_most (old_fits s c) (2 * s.iterations)
scheme_taken_most (of_scrypt par) c = omega arith
scheme_taken_most (of_p12 a) c = own_taken_most a c

pbes2_salt : (par : Parameters) (k : Kdf) → length (scheme_salt (pbes2_scheme par k)) < 2 ^ 59
unfolding scheme_salt
pbes2_salt par (Pbkdf2 p) = omega arith
pbes2_salt par (Scrypt p) = omega arith

own_salt : (a : AlgorithmIdentifier) → length (salt_of a) < 2 ^ 59 → length (scheme_salt (own_scheme a)) < 2 ^ 59
unfolding scheme_salt
own_salt Sha1 h = h
own_salt Sha256 h = h
own_salt (PbewithSHAAnd40BitRC2CBC p) h = h
own_salt (PbeWithSHAAnd3KeyTripleDESCBC p) h = h
own_salt (Pbes2 par) h = pbes2_salt par par.kdf
own_salt (OtherAlg o) h = h

salt_kept : (a : AlgorithmIdentifier) (o : Option SchemeParts) → length (salt_of a) < 2 ^ 59 → length (scheme_salt (old_or_own a o)) < 2 ^ 59
unfolding scheme_salt
salt_kept a (Some s) h = omega arith
salt_kept a None h = own_salt a h

pub short_salt : (a : AlgorithmIdentifier) → length (salt_of a) < 2 ^ 59 → length (scheme_salt (scheme_of a)) < 2 ^ 59
unfolding scheme_of
short_salt a h = salt_kept a (old_scheme a) h

-- ---- Algorithms

pub legacy_opened : (f : Forms) (a : AlgorithmIdentifier) (c m : List ℕ) → legacy_unlock f a c ≡ Some m → IsSchemeOpened f.has_mac (scheme_of a) c
unfolding legacy_unlock
legacy_opened f a c m h = scheme_opened f (scheme_of a) c m h
