-- Parts that were read are no longer than what they were read from.
use Rattle.std.proofs.Common.{◌≡◌, ℕ, ◌+◌, ◌≤◌, List, length, Ok, ap, arith, length-append}
use Rattle.asn1_core.specs.Texts.{Inside, Taken}
use Rattle.p12.specs.Reading.{encrypted_data_at}
use Rattle.p12.specs.declared.encrypted_data.EncryptedData.{EncryptedData}
use Rattle.p12.proofs.Fits.{Fits, through, left_fits, right_fits, inside_fits, encrypted_fits}
use Rattle.p12.proofs.ContentRows.{encrypted_data-exact}

pub rest_within : {A : Type 0} (R : List ℕ → A → Type 0) (b : List ℕ) (v : A) (rest : List ℕ) → Taken R b v rest → Fits rest b
rest_within R b v rest t = right_fits t.text rest b t.is

pub inside_parts : (tag : ℕ) (b v rest : List ℕ) → Taken (Inside tag) b v rest → length v + length rest ≤ length b
inside_parts tag b v rest t = omega (arith, inside_fits tag t.text v t.holds, ap length t.is, length-append t.text rest)

pub inside_within : (tag : ℕ) (b v rest : List ℕ) → Taken (Inside tag) b v rest → Fits v b
inside_within tag b v rest t = omega (arith, inside_parts tag b v rest t)

pub encrypted_within : (b rest : List ℕ) (d : EncryptedData) → encrypted_data_at b ≡ Ok (d, rest) → Fits d.encrypted_content_info.encrypted_content b
encrypted_within b rest d e =
    let t = encrypted_data-exact.found b d rest e in
    through _ _ _ (encrypted_fits t.text d t.holds).0 (left_fits t.text rest b t.is)
