-- Writing a store that is sealed anew.
use Rattle.std.proofs.Common.{◌≡◌, ℕ, ◌<◌, ◌≤◌, ◌^◌, List, ◌++◌, length, take, drop, Some, true, refl, sym, ap, subst, arith}
use Rattle.std.specs.Prelude.{Err}
use Rattle.asn1_core.specs.Der.{octets, oid, ctx, uint}
use Rattle.asn1_core.specs.Writing.{IsOverlong}
use Rattle.pkcs5.specs.Generation.{pbkdf2_sha256}
use Rattle.pkcs5.specs.declared.pbes2.encryption_scheme.EncryptionScheme.TheVariants.{Aes256Cbc}
use Rattle.pkcs12_kdf.specs.Password.{bmp_password}
use Rattle.pkcs12_kdf.proofs.PasswordSizes.{password_fits}
use Rattle.p12.specs.AlgorithmIdentifier.{RefusesToSeal, unlock}
use Rattle.p12.specs.Canonical.{WritableAlgorithm, WritableStore, content_canon, contents_canon, store_canon}
use Rattle.p12.specs.Identifiers.{data_oid}
use Rattle.p12.specs.MacData.{is_mac_digest, mac_of}
use Rattle.p12.specs.Writing.{EncodesText}
use Rattle.p12.specs.declared.algorithm_identifier.AlgorithmIdentifier.{AlgorithmIdentifier}
use Rattle.p12.specs.declared.algorithm_identifier.AlgorithmIdentifier.TheVariants.{Sha1, Sha256, PbewithSHAAnd40BitRC2CBC, PbeWithSHAAnd3KeyTripleDESCBC, Pbes2, OtherAlg}
use Rattle.p12.specs.declared.content_info.ContentInfo.{ContentInfo}
use Rattle.p12.specs.declared.content_info.ContentInfo.TheVariants as content
use Rattle.p12.specs.declared.error.Error.{Error}
use Rattle.p12.specs.declared.error.Error.TheVariants as errors
use Rattle.p12.specs.declared.mac_data.MacData.{MacData}
use Rattle.p12.proofs.Fits.{left_fits, right_fits, through, value_fits}
use Rattle.transfer.specs.Limits.{store_limit}
use Rattle.transfer.specs.declared.store.error.TransferError.{TransferError}
use Rattle.rekey_core.specs.Anew.{sha256_anew}
use Rattle.rekey_core.specs.Like.{IsAnew}
use Rattle.rekey_core.specs.Making.{IsWritingRefusal, store_anew}
use Rattle.rekey_core.specs.Sealing.{LongOnly}
use Rattle.rekey_core.specs.Size.{sealed_size}
use Rattle.rekey_core.proofs.Sizes.{sealed_length}
use Rattle.rekey_core.proofs.Supplying.{long_map}
use Rattle.rekey_core.specs.Kinds.{MacKind, kind_for}
use Rattle.rekey_core.specs.declared.kinds.Kinds.{Kinds}

pub params_are : (z iv salt : List ℕ) (n : ℕ) → iv ≡ take 16 z → salt ≡ drop 16 z → pbkdf2_sha256 n salt (Aes256Cbc iv) ≡ sha256_anew n z
params_are z iv salt n e f = rw (e, f) refl

pub units_fit : (p q : List ℕ) → q ≡ bmp_password p → length p < 2 ^ 57 → length q < 2 ^ 59
units_fit p q e h = omega (arith, ap length e, password_fits p, h)

pub sealed_size_is : (to : Kinds) (a b : AlgorithmIdentifier) (z q c m : List ℕ) → IsAnew to z a b → unlock b q c ≡ Some m → length c ≡ sealed_size (kind_for to a) (length m)
sealed_size_is to a b z q c m n e = sealed_length (kind_for to a) z q c m (subst (λ (x : AlgorithmIdentifier). unlock x q c ≡ Some m) n.algorithm e)

pub sealed_long : (to : Kinds) (a b : AlgorithmIdentifier) (z q m : List ℕ) (f : Error) → IsAnew to z a b → f ≡ errors.TooLong → RefusesToSeal (unlock b q) m f → 2 ^ 32 ≤ sealed_size (kind_for to a) (length m)
sealed_long to a b z q m errors.TooLong n is (c, e, long) = omega (arith, long, sealed_size_is to a b z q c m n e)
sealed_long to a b z q m errors.Malformed n is h = absurd h
sealed_long to a b z q m errors.Invalid n is h = absurd h
sealed_long to a b z q m errors.Rng n is h = absurd h
sealed_long to a b z q m errors.Memory n is h = absurd cc

-- ---- refusals to write

pub writing_refusal : (can : Type 0) (text : List ℕ) (e : Error) → can → EncodesText can text (Err e) → IsWritingRefusal e
writing_refusal can text errors.Malformed c h = h c
writing_refusal can text errors.Invalid c h = h
writing_refusal can text errors.Rng c h = h
writing_refusal can text errors.TooLong c h = tt
writing_refusal can text errors.Memory c h = tt

pub overlong : (can : Type 0) (text : List ℕ) (e : Error) → EncodesText can text (Err e) → e ≡ errors.TooLong → IsOverlong (length text)
overlong can text errors.TooLong h is = h
overlong can text errors.Malformed h is = absurd cc
overlong can text errors.Invalid h is = absurd cc
overlong can text errors.Rng h is = absurd cc
overlong can text errors.Memory h is = absurd cc

-- the text of the contents stands in that of the store
pub outer_in : (version : ℕ) (m : MacKind) (q salt : List ℕ) (es : List ContentInfo) → length (contents_canon es) ≤ length (store_canon (store_anew version m q salt es))
outer_in version m q salt es =
    let t = contents_canon es in
    let c = content_canon (content.Data t) in
    let one = through t _ c (through t _ (oid data_oid ++ ctx 0 (octets t)) (through t _ (ctx 0 (octets t)) (value_fits 0x04 t _ refl) (value_fits 0xa0 _ _ refl)) (right_fits (oid data_oid) _ _ refl)) (value_fits 0x30 _ _ refl) in
    through t _ (store_canon (store_anew version m q salt es)) (through t _ _ (through t c _ one (left_fits c _ _ refl)) (right_fits (uint version) _ _ refl)) (value_fits 0x30 _ _ refl)

pub long_outer : (can : Type 0) (version : ℕ) (m : MacKind) (q salt : List ℕ) (es : List ContentInfo) (e : Error) (f : TransferError) → EncodesText can (contents_canon es) (Err e) → LongOnly (e ≡ errors.TooLong) f
    → LongOnly (store_limit < length (store_canon (store_anew version m q salt es))) f
long_outer can version m q salt es e f h l = long_map _ _ f (λ is. omega (arith, overlong can (contents_canon es) e h is, outer_in version m q salt es)) l

digest_writes : (a : AlgorithmIdentifier) → is_mac_digest a ≡ true → WritableAlgorithm a
digest_writes Sha1 e = tt
digest_writes Sha256 e = tt
digest_writes (PbewithSHAAnd40BitRC2CBC p) e = absurd cc
digest_writes (PbeWithSHAAnd3KeyTripleDESCBC p) e = absurd cc
digest_writes (Pbes2 par) e = absurd cc
digest_writes (OtherAlg o) e = absurd cc

pub store_writes : (version : ℕ) (m : MacKind) (q salt : List ℕ) (es : List ContentInfo) → is_mac_digest m.digest ≡ true → WritableStore (store_anew version m q salt es)
unfolding mac_of
store_writes version m q salt es known = (tt, digest_writes m.digest known)

pub mac_writes : (mac : MacData) (a : AlgorithmIdentifier) (q v salt : List ℕ) (r : ℕ) → mac ≡ mac_of a q v salt r → is_mac_digest a ≡ true → WritableAlgorithm mac.mac.digest_algorithm
unfolding mac_of
mac_writes mac a q v salt r e known = subst (λ (x : MacData). WritableAlgorithm x.mac.digest_algorithm) (sym e) (digest_writes a known)
