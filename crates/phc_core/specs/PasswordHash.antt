-- PHC strings: `$id`, then `$v=n`, `$name=value,name=value`, `$salt` and `$hash`, each where it is
-- there (the PHC string format, "Specification").
use Rattle.std.specs.Prelude.{◌≡◌, ◌≢◌, ℕ, All, ◌<◌, ◌^◌, Option, Some, None, IfSome, List, [], ◌∷◌, ◌++◌, decimal}
use Rattle.base64.specs.Engines.{standard_no_pad}
use Rattle.base64.specs.GeneralPurpose.{encode_of}
use Rattle.phc_core.specs.Ident.{IsIdent}
use Rattle.phc_core.specs.ParamsString.{IsParams}
use Rattle.phc_core.specs.Salt.{IsSalt}
use Rattle.phc_core.specs.Output.{IsOutput}
use Rattle.phc_core.specs.declared.password_hash.PasswordHash.{PasswordHash}

-- what comes after a field: nothing, or `$` and the remainder
abbrev pub tail : Option (List ℕ) → List ℕ
tail None = []
tail (Some r) = 36 ∷ r

-- standard Base64 without padding (RFC 4648 section 4)
abbrev pub base64 : List ℕ → List ℕ
base64 m = encode_of standard_no_pad m

-- the remainder that has the hash
abbrev pub hash_rest : Option (List ℕ) → Option (List ℕ)
hash_rest None = None
hash_rest (Some o) = Some (base64 o)

-- the remainder from the salt on; without a salt there is no hash
abbrev pub salt_rest : Option (List ℕ) → Option (List ℕ) → Option (List ℕ)
salt_rest None h = None
salt_rest (Some s) h = Some (base64 s ++ tail (hash_rest h))

-- the remainder from the parameters on; an empty list writes no field
abbrev pub params_rest : List ℕ → Option (List ℕ) → Option (List ℕ) → Option (List ℕ)
params_rest [] s h = salt_rest s h
params_rest (c ∷ cs) s h = Some ((c ∷ cs) ++ tail (salt_rest s h))

-- the remainder from the version on
abbrev pub version_rest : Option ℕ → List ℕ → Option (List ℕ) → Option (List ℕ) → Option (List ℕ)
version_rest None p s h = params_rest p s h
version_rest (Some n) p s h = Some ((118 ∷ 61 ∷ decimal n) ++ tail (params_rest p s h))

-- the text of a value; where there is no salt the hash is left out
abbrev pub phc_text : PasswordHash → List ℕ
phc_text h = 36 ∷ h.algorithm ++ tail (version_rest h.version h.params h.salt h.hash)

-- there is a hash only where there is a salt
abbrev pub Salted : Option (List ℕ) → Option (List ℕ) → Type 0
Salted None h = h ≡ None
Salted (Some s) h = Unit {0}

-- the text t has the value h
pub record Phc (t : List ℕ) (h : PasswordHash) : Type 0 where
  pub algorithm : IsIdent h.algorithm
  pub version : IfSome h.version (λ n. n < 2 ^ 32)
  pub params : IsParams h.params
  pub salt : IfSome h.salt IsSalt
  pub hash : IfSome h.hash IsOutput
  pub salted : Salted h.salt h.hash
  pub text : t ≡ phc_text h

-- one text has one value
abbrev pub OneValue : Type 0
OneValue = (t : List ℕ) (h g : PasswordHash) → Phc t h → Phc t g → h ≡ g

-- one value has one text
abbrev pub OneText : Type 0
OneText = (t u : List ℕ) (h : PasswordHash) → Phc t h → Phc u h → t ≡ u

-- a text is one line of ASCII: each octet is below 128, and none is a line feed (10)
abbrev pub IsOneLine : List ℕ → Type 0
IsOneLine t = All (λ b. (b ≢ 10) × (b < 128)) t

-- each text is one line
abbrev pub OneLine : Type 0
OneLine = (t : List ℕ) (h : PasswordHash) → Phc t h → IsOneLine t
