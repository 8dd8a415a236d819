-- Equality of ciphers: by their kind, and their initialization vector or nonce.
use Rattle.std.specs.Prelude.{ℕ, List, Option, Some, None, nat_eq, if◌then◌else◌, Bool, ◌&&◌}
use Rattle.std.specs.Cmp.Lexicographic.{pointwise}
use Rattle.pkcs5.specs.Kinds.{iv_of}
use Rattle.pkcs5.specs.declared.pbes2.encryption_scheme.EncryptionScheme.{EncryptionScheme}
use Rattle.pkcs5.specs.declared.pbes2.encryption_scheme.EncryptionScheme.TheVariants.{Aes128Cbc, Aes192Cbc, Aes256Cbc, Aes128Gcm, Aes256Gcm, DesEde3Cbc, DesCbc}

-- a number for each kind
abbrev pub kind_of : EncryptionScheme → ℕ
kind_of (Aes128Cbc v) = 1
kind_of (Aes192Cbc v) = 2
kind_of (Aes256Cbc v) = 3
kind_of (Aes128Gcm v) = 4
kind_of (Aes256Gcm v) = 5
kind_of (DesEde3Cbc v) = 6
kind_of (DesCbc v) = 7

-- the cipher of a kind
abbrev pub of_kind : ℕ → List ℕ → Option EncryptionScheme
of_kind k v =
    if nat_eq k 1 then Some (Aes128Cbc v)
    else (if nat_eq k 2 then Some (Aes192Cbc v) else (if nat_eq k 3 then Some (Aes256Cbc v)
    else (if nat_eq k 4 then Some (Aes128Gcm v)
    else (if nat_eq k 5 then Some (Aes256Gcm v) else (if nat_eq k 6 then Some (DesEde3Cbc v)
    else (if nat_eq k 7 then Some (DesCbc v) else None))))))

abbrev pub alike : EncryptionScheme → EncryptionScheme → Bool
alike v w = nat_eq (kind_of v) (kind_of w) && pointwise nat_eq (iv_of v) (iv_of w)
