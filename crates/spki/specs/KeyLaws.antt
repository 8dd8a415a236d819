-- lemmas only: nothing to believe here
-- Key types: what they return by way of a public or a private key, in errors of any type.
use Rattle.std.proofs.Common.{◌≡◌, ◌⊎◌, ℕ, List, Result, Ok, Err, inl, inr}
use Rattle.std.specs.Prelude.{IfOk, IfErr}
use Rattle.asn1_core.specs.Gives.{IsNone, ParsesIn}

-- a key of a text that was read
module _ {V K E : Type 0} (malformed : E) (R : List ℕ → V → Type 0) (holds : V → K → Type 0) (refuses : V → E → Type 0) (b : List ℕ) (v : V) (is : R b v) where
  pub key_found : (r : Result K E) → IfOk r (λ k. holds v k) → IfOk r (λ k. (i : V) × R b i × holds i k)
  key_found (Ok k) h = (v, is, h)
  key_found (Err e) h = tt

  pub key_refused : (r : Result K E) → IfErr r (λ e. refuses v e) → IfErr r (λ e. ((e ≡ malformed) × IsNone R b) ⊎ ((i : V) × R b i × refuses i e))
  key_refused (Ok k) h = tt
  key_refused (Err e) h = inr (v, is, h)

-- what is read from a document
pub document_refused : {X V E : Type 0} (memory malformed : E) (R : List ℕ → V → Type 0) (view : X → V) (refused : E → Type 0) (text : List ℕ → Type 0) (b : List ℕ) → text b
    → (r : Result X E) → ParsesIn memory malformed R view b r → IfErr r (λ e. refused e ⊎ (e ≡ memory) ⊎ ((b : List ℕ) × text b × (e ≡ malformed) × IsNone R b))
document_refused memory malformed R view refused text b t (Ok x) h = tt
document_refused memory malformed R view refused text b t (Err e) (inl m) = inr (inl m)
document_refused memory malformed R view refused text b t (Err e) (inr q) = inr (inr (b, t, q.0, q.1))

-- a key in a file
pub file_found : {V K E : Type 0} (R : List ℕ → V → Type 0) (holds : V → K → Type 0) (b : List ℕ) (r : Result K E) → IfOk r (λ k. (i : V) × R b i × holds i k) → IfOk r (λ k. (b : List ℕ) × (i : V) × R b i × holds i k)
file_found R holds b (Ok k) h = (b, h.0, h.1, h.2)
file_found R holds b (Err e) h = tt

pub file_refused : {V K E : Type 0} (file overlength malformed memory : E) (R : List ℕ → V → Type 0) (refuses : V → E → Type 0) (b : List ℕ) (r : Result K E)
    → IfErr r (λ e. ((e ≡ malformed) × IsNone R b) ⊎ ((i : V) × R b i × refuses i e))
    → IfErr r (λ e. (e ≡ file) ⊎ (e ≡ overlength) ⊎ (e ≡ malformed) ⊎ (e ≡ memory) ⊎ ((i : V) × refuses i e))
file_refused file overlength malformed memory R refuses b (Ok k) h = tt
file_refused file overlength malformed memory R refuses b (Err e) (inl h) = inr (inr (inl h.0))
file_refused file overlength malformed memory R refuses b (Err e) (inr (i, is, q)) = inr (inr (inr (inr (i, q))))
