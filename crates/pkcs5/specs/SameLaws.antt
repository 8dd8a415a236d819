-- lemmas only: nothing to believe here
-- Equal values are those of which the same is seen: they are equal field by field.
use Rattle.std.proofs.Common.{◌≡◌, ℕ, Bool, true, false, ◌&&◌, List, Option, Some, None, nat_eq, refl, sym, ap, ◌∙◌}
use Rattle.std.specs.Option.{option_eq}
use Rattle.std.specs.Cmp.Lexicographic.{pointwise}
use denote.Enum.Bare.{sameb, same_true, true_same}
use Rattle.asn1_core.specs.OctetLaws.{both, and_true}
use Rattle.der_core.specs.SameLaws.{octets_same, number_same}
use Rattle.pkcs5.specs.contracts.pbes2.pbkdf2_prf.Pbkdf2Prf.{the_type}
use Rattle.pkcs5.specs.Pbkdf2Params.{pbkdf2_params}
use Rattle.pkcs5.specs.declared.pbes2.pbkdf2_params.Pbkdf2Params.{Pbkdf2Params}
use Rattle.pkcs5.specs.Parameters.{parameters}
use Rattle.pkcs5.specs.declared.pbes2.pbkdf2_prf.Pbkdf2Prf.{Pbkdf2Prf}
use Rattle.pkcs5.specs.declared.pbes2.kdf.Kdf.{Kdf}
use Rattle.pkcs5.specs.declared.pbes2.kdf.Kdf.TheVariants.{Pbkdf2, Scrypt}
use Rattle.pkcs5.specs.declared.pbes2.scrypt_params.ScryptParams.{ScryptParams}
use Rattle.pkcs5.specs.ScryptParams.{scrypt_params}
use Rattle.pkcs5.specs.declared.pbes2.encryption_scheme.EncryptionScheme.{EncryptionScheme as Cipher}
use Rattle.pkcs5.specs.declared.pbes2.encryption_scheme.EncryptionScheme.TheVariants.{Aes128Cbc, Aes192Cbc, Aes256Cbc, Aes128Gcm, Aes256Gcm, DesEde3Cbc, DesCbc}
use Rattle.pkcs5.specs.Alike.{kind_of, of_kind, alike}
use Rattle.pkcs5.specs.Kinds.{iv_of}
use Rattle.pkcs5.specs.declared.pbes2.parameters.Parameters.{Parameters}
use Rattle.pkcs5.specs.declared.encryption_scheme.EncryptionScheme.{EncryptionScheme as Scheme}
use Rattle.pkcs5.specs.declared.encryption_scheme.EncryptionScheme.TheVariants.{Pbes1, Pbes2}
use Rattle.pkcs5.specs.contracts.pbes1.encryption_scheme.EncryptionScheme.{the_type as pbe_type}
use Rattle.pkcs5.specs.declared.pbes1.encryption_scheme.EncryptionScheme.{EncryptionScheme as Pbe}
use Rattle.pkcs5.specs.declared.pbes1.parameters.Parameters.{Parameters as PbeParameters}
use Rattle.pkcs5.specs.declared.pbes1.algorithm.Algorithm.{Algorithm}
use Rattle.pkcs5.specs.Pbes1.{pbe, pbe_params}

pub prf_same : (f g : Pbkdf2Prf) → (f ≡ g → sameb the_type f g ≡ true) × (sameb the_type f g ≡ true → f ≡ g)
prf_same f g = (λ e. true_same the_type f g e, λ h. same_true the_type tt f g h)

lengths_same : (k l : Option ℕ) → (k ≡ l → option_eq nat_eq k l ≡ true) × (option_eq nat_eq k l ≡ true → k ≡ l)
lengths_same None None = (λ e. refl, λ h. refl)
lengths_same None (Some n) = (λ e. absurd cc, λ h. absurd cc)
lengths_same (Some n) None = (λ e. absurd cc, λ h. absurd cc)
lengths_same (Some m) (Some n) = (λ e. let f : m ≡ n = cc in (number_same m n).0 f, λ h. ap (λ (x : ℕ). Some x) ((number_same m n).1 h))

-- the four fields' tests
abbrev pub params_eq : Pbkdf2Params → Pbkdf2Params → Bool
params_eq v w = pointwise nat_eq v.salt w.salt && (nat_eq v.iteration_count w.iteration_count && (option_eq nat_eq v.key_length w.key_length && sameb the_type v.prf w.prf))

params_told : (v w : Pbkdf2Params) → params_eq v w ≡ true → v ≡ w
params_told v w h =
    let x = both (pointwise nat_eq v.salt w.salt) _ h in
    let y = both (nat_eq v.iteration_count w.iteration_count) _ x.1 in
    let z = both (option_eq nat_eq v.key_length w.key_length) (sameb the_type v.prf w.prf) y.1 in
    ap (λ (s : List ℕ). pbkdf2_params s v.iteration_count v.key_length v.prf) ((octets_same v.salt w.salt).1 x.0)
    ∙ ap (λ (n : ℕ). pbkdf2_params w.salt n v.key_length v.prf) ((number_same v.iteration_count w.iteration_count).1 y.0)
    ∙ ap (λ (k : Option ℕ). pbkdf2_params w.salt w.iteration_count k v.prf) ((lengths_same v.key_length w.key_length).1 z.0)
    ∙ ap (λ (f : Pbkdf2Prf). pbkdf2_params w.salt w.iteration_count w.key_length f) ((prf_same v.prf w.prf).1 z.1)

params_itself : (v w : Pbkdf2Params) → v ≡ w → params_eq v w ≡ true
params_itself v w e =
    and_true (pointwise nat_eq v.salt w.salt) _ ((octets_same v.salt w.salt).0 (ap (λ (x : Pbkdf2Params). x.salt) e))
    (and_true (nat_eq v.iteration_count w.iteration_count) _ ((number_same v.iteration_count w.iteration_count).0 (ap (λ (x : Pbkdf2Params). x.iteration_count) e))
    (and_true (option_eq nat_eq v.key_length w.key_length) (sameb the_type v.prf w.prf) ((lengths_same v.key_length w.key_length).0 (ap (λ (x : Pbkdf2Params). x.key_length) e))
    ((prf_same v.prf w.prf).0 (ap (λ (x : Pbkdf2Params). x.prf) e))))

pub pbkdf2_params_same : (v w : Pbkdf2Params) → (v ≡ w → params_eq v w ≡ true) × (params_eq v w ≡ true → v ≡ w)
pbkdf2_params_same v w = (params_itself v w, params_told v w)

-- the five of scrypt's
abbrev pub scrypt_eq : ScryptParams → ScryptParams → Bool
scrypt_eq v w =
    pointwise nat_eq v.salt w.salt && (nat_eq v.cost_parameter w.cost_parameter && (nat_eq v.block_size w.block_size
    && (nat_eq v.parallelization w.parallelization && option_eq nat_eq v.key_length w.key_length)))

scrypt_told : (v w : ScryptParams) → scrypt_eq v w ≡ true → v ≡ w
scrypt_told v w h =
    let x = both (pointwise nat_eq v.salt w.salt) _ h in
    let y = both (nat_eq v.cost_parameter w.cost_parameter) _ x.1 in
    let z = both (nat_eq v.block_size w.block_size) _ y.1 in
    let u = both (nat_eq v.parallelization w.parallelization) (option_eq nat_eq v.key_length w.key_length) z.1 in
    ap (λ (s : List ℕ). scrypt_params s v.cost_parameter v.block_size v.parallelization v.key_length) ((octets_same v.salt w.salt).1 x.0)
    ∙ ap (λ (n : ℕ). scrypt_params w.salt n v.block_size v.parallelization v.key_length) ((number_same v.cost_parameter w.cost_parameter).1 y.0)
    ∙ ap (λ (n : ℕ). scrypt_params w.salt w.cost_parameter n v.parallelization v.key_length) ((number_same v.block_size w.block_size).1 z.0)
    ∙ ap (λ (n : ℕ). scrypt_params w.salt w.cost_parameter w.block_size n v.key_length) ((number_same v.parallelization w.parallelization).1 u.0)
    ∙ ap (λ (k : Option ℕ). scrypt_params w.salt w.cost_parameter w.block_size w.parallelization k) ((lengths_same v.key_length w.key_length).1 u.1)

scrypt_itself : (v w : ScryptParams) → v ≡ w → scrypt_eq v w ≡ true
scrypt_itself v w e =
    and_true (pointwise nat_eq v.salt w.salt) _ ((octets_same v.salt w.salt).0 (ap (λ (x : ScryptParams). x.salt) e))
    (and_true (nat_eq v.cost_parameter w.cost_parameter) _ ((number_same v.cost_parameter w.cost_parameter).0 (ap (λ (x : ScryptParams). x.cost_parameter) e))
    (and_true (nat_eq v.block_size w.block_size) _ ((number_same v.block_size w.block_size).0 (ap (λ (x : ScryptParams). x.block_size) e))
    (and_true (nat_eq v.parallelization w.parallelization) (option_eq nat_eq v.key_length w.key_length) ((number_same v.parallelization w.parallelization).0 (ap (λ (x : ScryptParams). x.parallelization) e))
    ((lengths_same v.key_length w.key_length).0 (ap (λ (x : ScryptParams). x.key_length) e)))))

pub scrypt_params_same : (v w : ScryptParams) → (v ≡ w → scrypt_eq v w ≡ true) × (scrypt_eq v w ≡ true → v ≡ w)
scrypt_params_same v w = (scrypt_itself v w, scrypt_told v w)

-- ---- algorithms of PBES1

pub pbe_scheme_same : (f g : Pbe) → (f ≡ g → sameb pbe_type f g ≡ true) × (sameb pbe_type f g ≡ true → f ≡ g)
pbe_scheme_same f g = (λ e. true_same pbe_type f g e, λ h. same_true pbe_type tt f g h)

abbrev pub pbe_params_eq : PbeParameters → PbeParameters → Bool
pbe_params_eq v w = pointwise nat_eq v.salt w.salt && nat_eq v.iteration_count w.iteration_count

pub pbe_params_same : (v w : PbeParameters) → (v ≡ w → pbe_params_eq v w ≡ true) × (pbe_params_eq v w ≡ true → v ≡ w)
pbe_params_same v w = (
  λ e. and_true (pointwise nat_eq v.salt w.salt) (nat_eq v.iteration_count w.iteration_count)
      ((octets_same v.salt w.salt).0 (ap (λ (x : PbeParameters). x.salt) e)) ((number_same v.iteration_count w.iteration_count).0 (ap (λ (x : PbeParameters). x.iteration_count) e)),
  λ h.
      let x = both (pointwise nat_eq v.salt w.salt) (nat_eq v.iteration_count w.iteration_count) h in
      ap (λ (s : List ℕ). pbe_params s v.iteration_count) ((octets_same v.salt w.salt).1 x.0) ∙ ap (λ (n : ℕ). pbe_params w.salt n) ((number_same v.iteration_count w.iteration_count).1 x.1),
)

abbrev pub pbe_eq : Algorithm → Algorithm → Bool
pbe_eq v w = sameb pbe_type v.encryption w.encryption && pbe_params_eq v.parameters w.parameters

pub pbe_same : (v w : Algorithm) → (v ≡ w → pbe_eq v w ≡ true) × (pbe_eq v w ≡ true → v ≡ w)
pbe_same v w = (
  λ e. and_true (sameb pbe_type v.encryption w.encryption) (pbe_params_eq v.parameters w.parameters)
      ((pbe_scheme_same v.encryption w.encryption).0 (ap (λ (x : Algorithm). x.encryption) e)) ((pbe_params_same v.parameters w.parameters).0 (ap (λ (x : Algorithm). x.parameters) e)),
  λ h.
      let x = both (sameb pbe_type v.encryption w.encryption) (pbe_params_eq v.parameters w.parameters) h in
      ap (λ (s : Pbe). pbe s v.parameters) ((pbe_scheme_same v.encryption w.encryption).1 x.0) ∙ ap (λ (p : PbeParameters). pbe w.encryption p) ((pbe_params_same v.parameters w.parameters).1 x.1),
)

-- q says whether two values are one
abbrev pub Tells : {A : Type 0} → (A → A → Bool) → Type 0
Tells {A = A} q = (v w : A) → (v ≡ w → q v w ≡ true) × (q v w ≡ true → v ≡ w)

-- ---- by the test at each variant

module _ (q : Kdf → Kdf → Bool)
    (a : (v w : Pbkdf2Params) → q (Pbkdf2 v) (Pbkdf2 w) ≡ params_eq v w) (b : (v w : ScryptParams) → q (Scrypt v) (Scrypt w) ≡ scrypt_eq v w)
    (c : (v : Pbkdf2Params) (w : ScryptParams) → q (Pbkdf2 v) (Scrypt w) ≡ false) (d : (v : ScryptParams) (w : Pbkdf2Params) → q (Scrypt v) (Pbkdf2 w) ≡ false) where
  pub kdf_same : Tells q
  kdf_same (Pbkdf2 v) (Pbkdf2 w) = (
    λ e. let f : v ≡ w = cc in a v w ∙ params_itself v w f,
    λ h. ap (λ (x : Pbkdf2Params). Pbkdf2 x) (params_told v w (sym (a v w) ∙ h)),
  )
  kdf_same (Scrypt v) (Scrypt w) = (
    λ e. let f : v ≡ w = cc in b v w ∙ (scrypt_params_same v w).0 f,
    λ h. ap (λ (x : ScryptParams). Scrypt x) ((scrypt_params_same v w).1 (sym (b v w) ∙ h)),
  )
  kdf_same (Pbkdf2 v) (Scrypt w) = (λ e. absurd cc, λ h. let z : true ≡ false = sym h ∙ c v w in absurd cc)
  kdf_same (Scrypt v) (Pbkdf2 w) = (λ e. absurd cc, λ h. let z : true ≡ false = sym h ∙ d v w in absurd cc)

-- ---- ciphers, by their kind and their vector

again : (c : Cipher) → of_kind (kind_of c) (iv_of c) ≡ Some c
again (Aes128Cbc v) = refl
again (Aes192Cbc v) = refl
again (Aes256Cbc v) = refl
again (Aes128Gcm v) = refl
again (Aes256Gcm v) = refl
again (DesEde3Cbc v) = refl
again (DesCbc v) = refl

-- two of one kind and one vector are one
pub cipher_told : (v w : Cipher) → kind_of v ≡ kind_of w → iv_of v ≡ iv_of w → v ≡ w
cipher_told v w k e =
    let s : Some v ≡ Some w = sym (again v) ∙ (λ i. of_kind (k i) (e i)) ∙ again w in cc

pub cipher_same : (v w : Cipher) → (v ≡ w → alike v w ≡ true) × (alike v w ≡ true → v ≡ w)
cipher_same v w = (
  λ e. and_true (nat_eq (kind_of v) (kind_of w)) (pointwise nat_eq (iv_of v) (iv_of w))
      ((number_same (kind_of v) (kind_of w)).0 (ap (λ (c : Cipher). kind_of c) e)) ((octets_same (iv_of v) (iv_of w)).0 (ap (λ (c : Cipher). iv_of c) e)),
  λ h.
      let x = both (nat_eq (kind_of v) (kind_of w)) (pointwise nat_eq (iv_of v) (iv_of w)) h in
      cipher_told v w ((number_same (kind_of v) (kind_of w)).1 x.0) ((octets_same (iv_of v) (iv_of w)).1 x.1),
)

pub parameters_same : (p : Kdf → Kdf → Bool) → Tells p → (q : Cipher → Cipher → Bool) → Tells q → Tells (λ (v w : Parameters). p v.kdf w.kdf && q v.encryption w.encryption)
parameters_same p kdfs q ciphers v w = (
  λ e. and_true (p v.kdf w.kdf) (q v.encryption w.encryption) ((kdfs v.kdf w.kdf).0 (ap (λ (x : Parameters). x.kdf) e)) ((ciphers v.encryption w.encryption).0 (ap (λ (x : Parameters). x.encryption) e)),
  λ h.
      let x = both (p v.kdf w.kdf) (q v.encryption w.encryption) h in
      ap (λ (k : Kdf). parameters k v.encryption) ((kdfs v.kdf w.kdf).1 x.0) ∙ ap (λ (c : Cipher). parameters w.kdf c) ((ciphers v.encryption w.encryption).1 x.1),
)

module _ (q : Scheme → Scheme → Bool) (p : Parameters → Parameters → Bool)
    (a : (v w : Parameters) → q (Pbes2 v) (Pbes2 w) ≡ p v w) (tells : Tells p) (b : (v w : Algorithm) → q (Pbes1 v) (Pbes1 w) ≡ pbe_eq v w)
    (c : (v : Algorithm) (w : Parameters) → q (Pbes1 v) (Pbes2 w) ≡ false) (d : (v : Parameters) (w : Algorithm) → q (Pbes2 v) (Pbes1 w) ≡ false) where
  pub scheme_same : Tells q
  scheme_same (Pbes1 v) (Pbes1 w) = (
    λ e. let f : v ≡ w = cc in b v w ∙ (pbe_same v w).0 f,
    λ h. ap (λ (x : Algorithm). Pbes1 x) ((pbe_same v w).1 (sym (b v w) ∙ h)),
  )
  scheme_same (Pbes2 v) (Pbes2 w) = (
    λ e. let f : v ≡ w = cc in a v w ∙ (tells v w).0 f,
    λ h. ap (λ (x : Parameters). Pbes2 x) ((tells v w).1 (sym (a v w) ∙ h)),
  )
  scheme_same (Pbes1 v) (Pbes2 w) = (λ e. absurd cc, λ h. let z : true ≡ false = sym h ∙ c v w in absurd cc)
  scheme_same (Pbes2 v) (Pbes1 w) = (λ e. absurd cc, λ h. let z : true ≡ false = sym h ∙ d v w in absurd cc)
