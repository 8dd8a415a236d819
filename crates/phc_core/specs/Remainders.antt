-- Remainders of PHC strings, as they are read: nothing, or what comes after a `$`.
use Rattle.std.specs.Prelude.{◌≡◌, ◌≢◌, ℕ, ◌<◌, ◌^◌, Option, Some, None, IfSome, List, ◌++◌, All}
use Rattle.phc_core.specs.ParamsString.{IsParams}
use Rattle.phc_core.specs.Salt.{IsSalt}
use Rattle.phc_core.specs.Output.{IsOutput}
use Rattle.phc_core.specs.PasswordHash.{tail, hash_rest, salt_rest, params_rest, version_rest, Salted}
use denote.Ref.{Bor}

-- a lent text, where there is one
abbrev pub seen : Option (Bor (List ℕ)) → Option (List ℕ)
seen None = None
seen (Some x) = Some x.now

-- f is all before the first `$` of t, and r is what comes after it
abbrev pub Cuts : List ℕ → List ℕ → Option (List ℕ) → Type 0
Cuts t f r = (t ≡ f ++ tail r) × All (λ b. b ≢ 36) f

-- the remainder has this hash
abbrev pub HashRest : Option (List ℕ) → Option (List ℕ) → Type 0
HashRest r h = IfSome h IsOutput × (r ≡ hash_rest h)

-- the remainder has this salt and hash
abbrev pub SaltRest : Option (List ℕ) → Option (List ℕ) × Option (List ℕ) → Type 0
SaltRest r v = IfSome v.0 IsSalt × IfSome v.1 IsOutput × Salted v.0 v.1 × (r ≡ salt_rest v.0 v.1)

-- the remainder has these parameters, salt and hash
abbrev pub ParamsRest : Option (List ℕ) → List ℕ × Option (List ℕ) × Option (List ℕ) → Type 0
ParamsRest r v = IsParams v.0 × IfSome v.1 IsSalt × IfSome v.2 IsOutput × Salted v.1 v.2
    × (r ≡ params_rest v.0 v.1 v.2)

-- the remainder has this version and these parameters, salt and hash
abbrev pub VersionRest : Option (List ℕ) → Option ℕ × List ℕ × Option (List ℕ) × Option (List ℕ)
    → Type 0
VersionRest r v = IfSome v.0 (λ n. n < 2 ^ 32) × IsParams v.1 × IfSome v.2 IsSalt
    × IfSome v.3 IsOutput × Salted v.2 v.3 × (r ≡ version_rest v.0 v.1 v.2 v.3)

-- the remainder has no hash that can be read
abbrev pub NoHashRest : Option (List ℕ) → Type 0
NoHashRest r = (v : Option (List ℕ)) → HashRest r v → ⊥

-- the remainder has no salt and hash that can be read
abbrev pub NoSaltRest : Option (List ℕ) → Type 0
NoSaltRest r = (v : Option (List ℕ) × Option (List ℕ)) → SaltRest r v → ⊥

-- the remainder has no parameters, salt and hash that can be read
abbrev pub NoParamsRest : Option (List ℕ) → Type 0
NoParamsRest r = (v : List ℕ × Option (List ℕ) × Option (List ℕ)) → ParamsRest r v → ⊥

-- the remainder has no version, parameters, salt and hash that can be read
abbrev pub NoVersionRest : Option (List ℕ) → Type 0
NoVersionRest r = (v : Option ℕ × List ℕ × Option (List ℕ) × Option (List ℕ)) → VersionRest r v → ⊥
