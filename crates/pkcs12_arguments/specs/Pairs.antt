-- The private keys that `create` is asked for, with their certificates and names.
use Rattle.std.specs.Prelude.{ℕ, ◌≡◌, ◌≢◌, ◌⊎◌, All, List, [], Some, None, length, map, ⊤}
use Rattle.std.specs.Option.{option_copied}
use Rattle.pkcs12_arguments.specs.declared.arguments_error.ArgumentsError.{ArgumentsError}
use Rattle.pkcs12_arguments.specs.declared.arguments_error.ArgumentsError.TheVariants.{Shown, Wrong, Memory}
use Rattle.pkcs12_arguments.specs.declared.pairs.Pair.{Pair}

abbrev pub IsWrong : ArgumentsError → Type 0
IsWrong (Shown text) = ⊥
IsWrong (Wrong message advice) = ⊤
IsWrong Memory = ⊥

-- There is a certificate for each key, and a name for each or for none.
abbrev pub DoFit : List (List ℕ) → List (List ℕ) → List (List ℕ) → Type 0
DoFit keys certificates names = (length keys ≡ length certificates)
    × ((names ≡ []) ⊎ (length names ≡ length keys))

-- The pairs have these keys, certificates and names, in order, or no names where there are none.
pub record ArePairs (keys certificates names : List (List ℕ)) (pairs : List Pair) : Type 0 where
  pub of_keys : map (λ (p : Pair). p.key.now) pairs ≡ keys
  pub of_certificates : map (λ (p : Pair). p.certificate.now) pairs ≡ certificates
  pub named : names ≢ []
      → map (λ (p : Pair). option_copied p.name) pairs ≡ map (λ n. Some n) names
  pub unnamed : names ≡ [] → All (λ (p : Pair). option_copied p.name ≡ None) pairs

-- There are no pairs: these do not fit, or there is no memory.
abbrev pub RefusesPairs : List (List ℕ) → List (List ℕ) → List (List ℕ) → ArgumentsError → Type 0
RefusesPairs keys certificates names e =
    (IsWrong e × (¬ (DoFit keys certificates names))) ⊎ (e ≡ Memory)
