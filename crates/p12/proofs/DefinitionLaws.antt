-- Laws of the definitions, for the crates above.
use Rattle.std.proofs.Common.{◌<◌, ◌≡◌, ◌∙◌, ℕ, ◌*◌, ◌≤◌, List, length, Bool, true, false, Option, Some, None, Ok, refl, sym, ap, arith, IsTrue, nat_lt}
use Rattle.std.specs.Prelude.{All, if◌then◌else◌, ◌&&◌}
use Rattle.std.proofs.lemmas.Bool.{ltb-true}
use Rattle.asn1_core.specs.Texts.{Within, Many}
use Rattle.asn1_core.specs.OctetLaws.{both}
use Rattle.asn1_core.specs.ExactLaws.{whole-exact}
use Rattle.asn1_core.specs.Reading.{whole}
use Rattle.asn1_core.specs.StandLaws.{whole_found, whole_sole}
use Rattle.p12.specs.declared.algorithm_identifier.AlgorithmIdentifier.{AlgorithmIdentifier}
use Rattle.p12.specs.declared.algorithm_identifier.AlgorithmIdentifier.TheVariants.{Sha1, Sha256, PbewithSHAAnd40BitRC2CBC, PbeWithSHAAnd3KeyTripleDESCBC, Pbes2, OtherAlg}
use Rattle.p12.specs.declared.content_info.ContentInfo.{ContentInfo}
use Rattle.p12.specs.declared.pfx.PFX.{PFX}
use Rattle.p12.specs.declared.safe_bag.SafeBag.{SafeBag}
use Rattle.pkcs5.specs.Kinds.{key_size, rounds_of}
use Rattle.pkcs5.specs.Opening.{opened, states_length, steps_of, unpadded}
use Rattle.pkcs5.specs.declared.pbes2.parameters.Parameters.{Parameters}
use Rattle.p12.specs.AlgorithmIdentifier.{IsOpened, cost, is_blocks, taken, taken_pbe, unlock, unlock_pbe, unlock_pbes2, triple_des_text}
use Rattle.p12.specs.ContentInfo.{ContentFits, ContentText, IsContents}
use Rattle.pkcs12_kdf.specs.Password.{bmp_password}
use Rattle.p12.specs.Pfx.{IsStore, PfxText, StoreFits}
use Rattle.p12.specs.BagView.{ListsBags, bags_of}
use Rattle.p12.specs.Reading.{bags_at}
use Rattle.p12.specs.SafeBag.{BagFits, BagText, BagWithin, IsBags}
use Rattle.p12.specs.Walk.{read_or_none}
use Rattle.p12.proofs.Pbes2.{by_rounds, unlock_pbes2-is}
use Rattle.p12.proofs.BagRows.{bags-exact}
use Rattle.p12.proofs.ContentRows.{contents-exact, pfx-exact}
use Rattle.p12.proofs.Fits as fits

-- ---- one text has one value

pub store_sole : (b : List ℕ) (s t : PFX) → IsStore b s → IsStore b t → s ≡ t
unfolding IsStore
store_sole b s t p q = whole_sole PfxText _ pfx-exact b s t p q

pub contents_sole : (b : List ℕ) (s t : List ContentInfo) → IsContents b s → IsContents b t → s ≡ t
unfolding IsContents
contents_sole b s t p q = whole_sole (Within 0x30 (Many ContentText)) _ contents-exact b s t p q

pub bags_sole : (b : List ℕ) (s t : List SafeBag) → IsBags b s → IsBags b t → s ≡ t
unfolding IsBags
bags_sole b s t p q = whole_sole (Within 0x30 (Many BagText)) _ bags-exact b s t p q

-- ---- bags that stay in the octets that list them

read_so : (b : List ℕ) (gs : List SafeBag) → IsBags b gs → whole bags_at b ≡ Ok gs
unfolding IsBags
read_so b gs p = (whole-exact (Within 0x30 (Many BagText)) _ bags-exact).again b gs p.0 p.1

pub bags_are : (b : List ℕ) (gs : List SafeBag) → IsBags b gs → bags_of b ≡ gs
bags_are b gs p = ap read_or_none (read_so b gs p)

pub lists : (b : List ℕ) (gs : List SafeBag) → IsBags b gs → ListsBags b
lists b gs p = read_so b gs p ∙ ap Ok (sym (bags_are b gs p))

pub listed : (b : List ℕ) → ListsBags b → IsBags b (bags_of b)
unfolding IsBags
listed b e = whole_found (Within 0x30 (Many BagText)) _ bags-exact b (bags_of b) e

-- ---- a part is no longer than the whole

pub store_fits : (b : List ℕ) (s : PFX) → IsStore b s → StoreFits (length b) s
store_fits b s p = fits.store_fits b s p

pub contents_fit : (b : List ℕ) (cs : List ContentInfo) → IsContents b cs → All (ContentFits (length b)) cs
contents_fit b cs p = fits.contents_fit b cs p

pub bags_fit : (b : List ℕ) (gs : List SafeBag) → IsBags b gs → All BagFits gs
bags_fit b gs p = fits.bags_fit b gs p

pub bags_fit_within : (n : ℕ) (b : List ℕ) (gs : List SafeBag) → length b ≤ n → IsBags b gs → All (BagWithin n) gs
bags_fit_within n b gs h p = fits.bags_fit_within n b gs h p

-- ---- opening a text

not_none : (t : Bool) (r : Option (List ℕ)) (m : List ℕ) → (if t then r else None) ≡ Some m → IsTrue t
not_none true r m e = refl
not_none false r m e = absurd cc

none_some : {P : Type 0} (m : List ℕ) → None ≡ Some m → P
none_some m e = absurd cc

triple_des_opened : (p : _) (q c m : List ℕ) → unlock_pbe (PbeWithSHAAnd3KeyTripleDESCBC p) q c ≡ Some m → IsOpened (PbeWithSHAAnd3KeyTripleDESCBC p) c
unfolding unlock_pbe taken taken_pbe
triple_des_opened p q c m h =
    let t = both (nat_lt 0 p.iterations) (is_blocks c) (not_none (nat_lt 0 p.iterations && is_blocks c) (unpadded 8 (triple_des_text q p.salt p.iterations c)) m h) in
    record { openable = refl; some_rounds = ltb-true 0 p.iterations t.0; all = rw t.1 refl }

pbes2_opened : (par : Parameters) (p c m : List ℕ) → unlock_pbes2 par p c ≡ Some m → IsOpened (Pbes2 par) c
unfolding taken
pbes2_opened par p c m h =
    let fits = states_length par.kdf (key_size par.encryption) in
    let some = nat_lt 0 (rounds_of par.kdf) in
    let t = both fits some (not_none (fits && some) (opened par p c) m (sym (unlock_pbes2-is par p c) ∙ h)) in
    let rounds : 0 < rounds_of par.kdf = ltb-true 0 (rounds_of par.kdf) t.1 in
    record { openable = rw (by_rounds par.kdf rounds) t.0; some_rounds = rounds; all = rw t.0 refl }

pub unlock_opened : (a : AlgorithmIdentifier) (p c m : List ℕ) → unlock a p c ≡ Some m → IsOpened a c
unfolding unlock
unlock_opened Sha1 p c m h = none_some m h
unlock_opened Sha256 p c m h = none_some m h
unlock_opened (PbewithSHAAnd40BitRC2CBC params) p c m h = none_some m h
unlock_opened (PbeWithSHAAnd3KeyTripleDESCBC params) p c m h = triple_des_opened params (bmp_password p) c m h
unlock_opened (Pbes2 par) p c m h = pbes2_opened par p c m h
unlock_opened (OtherAlg o) p c m h = none_some m h

at_most : (t : Bool) (n : ℕ) → (if t then n else 0) ≤ n
at_most true n = omega arith
at_most false n = omega arith

pub taken_most : (a : AlgorithmIdentifier) (c : List ℕ) → taken a c ≤ cost a
unfolding taken taken_pbe
taken_most Sha1 c = omega arith
taken_most Sha256 c = omega arith
taken_most (PbewithSHAAnd40BitRC2CBC p) c = omega arith
taken_most (PbeWithSHAAnd3KeyTripleDESCBC p) c = at_most (is_blocks c) (3 * p.iterations)
taken_most (Pbes2 par) c = at_most (states_length par.kdf (key_size par.encryption)) (rounds_of par.kdf * steps_of par)
taken_most (OtherAlg o) c = omega arith
