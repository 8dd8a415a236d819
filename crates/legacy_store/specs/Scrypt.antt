-- Texts under PBES2 with scrypt (RFC 7914; RFC 8018 section 6.2), within a bound on memory.
use Rattle.std.specs.Prelude.{ℕ, zero, suc, ◌+◌, ◌*◌, ◌^◌, ◌==◌, ◌&&◌, ◌||◌, nat_lt, nat_le, Bool, false}
use Rattle.pkcs5.specs.Kinds.{key_size}
use Rattle.pkcs5.specs.Opening.{states_length}
use Rattle.pkcs5.specs.declared.pbes2.kdf.Kdf.{Kdf}
use Rattle.pkcs5.specs.declared.pbes2.kdf.Kdf.TheVariants.{Pbkdf2, Scrypt}
use Rattle.pkcs5.specs.declared.pbes2.parameters.Parameters.{Parameters}
use Rattle.pkcs5.specs.declared.pbes2.scrypt_params.ScryptParams.{ScryptParams}

-- the most octets of memory that scrypt may take
abbrev pub scrypt_memory_limit : ℕ
scrypt_memory_limit = 67108864

-- those that it takes at most: N blocks of 128 * r octets, and twice the p pieces beside them
abbrev pub scrypt_memory : ScryptParams → ℕ
scrypt_memory s = 128 * (s.block_size * s.cost_parameter)
    + 256 * (s.block_size * s.parallelization)

-- n is 2 to the power of one of the numbers 1 to k
unfoldable pub is_power : ℕ → ℕ → Bool
is_power zero n = false
is_power (suc k) n = (n == 2 ^ suc k) || is_power k n

-- N is a power of two that scrypt takes: below 2 ^ (16 * r), which is 2 ^ 19 and more from r = 2 on,
-- and there are no more turns than 2 ^ 19 in so much memory
abbrev pub takes_turns : ℕ → ℕ → Bool
takes_turns n r = is_power 63 n && (nat_lt 1 r || nat_lt n 65536)

-- whether scrypt takes these costs, within the bound on memory
unfoldable pub scrypt_fits : ScryptParams → Bool
scrypt_fits s = nat_le (scrypt_memory s) scrypt_memory_limit
    && (nat_lt 0 s.block_size && (nat_lt 0 s.parallelization
    && takes_turns s.cost_parameter s.block_size))

-- whether a key of n octets is derived: by scrypt, where a length that is stated is n
unfoldable pub scrypt_derives : Kdf → ℕ → Bool
scrypt_derives (Pbkdf2 p) n = false
scrypt_derives (Scrypt s) n = states_length (Scrypt s) n && scrypt_fits s

-- whether texts are opened under these parameters
abbrev pub scrypt_opens : Parameters → Bool
scrypt_opens par = scrypt_derives par.kdf (key_size par.encryption)

-- the Salsa20/8 cores that scrypt computes: ROMix mixes each of the p pieces 2 * N times, and each
-- time takes 2 * r of them
abbrev pub scrypt_cores : ScryptParams → ℕ
scrypt_cores s = 4 * (s.cost_parameter * (s.block_size * s.parallelization))

-- the steps of opening a text
unfoldable pub scrypt_steps : Kdf → ℕ
scrypt_steps (Pbkdf2 p) = 0
scrypt_steps (Scrypt s) = scrypt_cores s
