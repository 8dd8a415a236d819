-- The keys of 32 octets of four passwords and salts.
use Rattle.std.proofs.Common.{w32, ◌≡◌, ℕ, ◌-◌, List, [], ◌∷◌, ◌++◌, length, sym, ap, ap₂, ◌∙◌, arith, refl, subst, get_or}
use Rattle.std.specs.Prelude.{max}
use Rattle.std.specs.Int.{to_be_bytes}
use Rattle.std.proofs.lemmas.List.{take_all}
use Rattle.mac_modes.specs.Hmac.{hmac, inner_block, outer_block}
use Rattle.mac_modes.specs.HmacLaws.{length-hmac}
use Rattle.pbkdf2.proofs.Xors.{length-block}
use Rattle.pbkdf2.specs.Lanes.{IsKeyedBy, key_of}
use Rattle.pbkdf2.specs.declared.lanes.PasswordAndSalt.{PasswordAndSalt}
use Rattle.sha2_lanes.specs.Lanes.{IsAfter}
use Rattle.pbkdf2.specs.Pbkdf2.{block, blocks, pbkdf2, xor_through}
use Rattle.sha2.specs.Sha256.{sha256}
use Rattle.sha2.proofs.Facts256.{length-sha256}

module _ (f : List ℕ → List ℕ) (len : (m : List ℕ) → length (f m) ≡ 32) where
  -- the key of some rounds, from that of one
  pub from_first : (salt : List ℕ) (r : ℕ) → pbkdf2 f 32 salt r 32 ≡ xor_through f (pbkdf2 f 32 salt 1 32) (max r 1 - 1)
  unfolding pbkdf2 blocks xor_through
  from_first salt r =
      let m = salt ++ to_be_bytes w32 1 in
      take_all 32 (block f salt r 1) (omega (arith, length-block f 32 salt r 1 len))
      ∙ ap (λ x. xor_through f x (max r 1 - 1)) (sym (take_all 32 (f m) (omega (arith, len m))))

-- the output in a lane is the key of its password and salt
pub lane_key : (x : PasswordAndSalt) (r turns : ℕ) (inner outer i o first words sum : List ℕ)
    → IsAfter inner i → IsAfter outer o → i ≡ inner_block sha256 64 x.password.now → o ≡ outer_block sha256 64 x.password.now
    → turns ≡ max r 1 - 1 → words ≡ first → first ≡ key_of 1 x
    → ((k : List ℕ) → IsKeyedBy inner outer k → sum ≡ xor_through (hmac sha256 64 k) words turns)
    → sum ≡ key_of r x
lane_key x r turns inner outer i o first words sum after_i after_o ei eo et ew ef from =
    let q = x.password.now in
    let f = hmac sha256 64 q in
    from q (subst (IsAfter inner) ei after_i, subst (IsAfter outer) eo after_o)
    ∙ ap₂ (λ t n. xor_through f t n) (ew ∙ ef) et
    ∙ sym (from_first f (length-hmac sha256 64 32 length-sha256 q) x.salt.now r)

-- a list of four has these elements
pub four_of : {A : Type 0} (d : A) (xs : List A) → length xs ≡ 4 → xs ≡ get_or xs 0 d ∷ get_or xs 1 d ∷ get_or xs 2 d ∷ get_or xs 3 d ∷ []
four_of d [] h = absurd (omega arith)
four_of d (x ∷ []) h = absurd (omega arith)
four_of d (x ∷ y ∷ []) h = absurd (omega arith)
four_of d (x ∷ y ∷ z ∷ []) h = absurd (omega arith)
four_of d (x ∷ y ∷ z ∷ w ∷ []) h = refl
four_of d (x ∷ y ∷ z ∷ w ∷ v ∷ xs) h = absurd (omega arith)
