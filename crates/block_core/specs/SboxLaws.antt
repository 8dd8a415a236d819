-- lemmas only: nothing to believe here
-- The two tables of the code are the S-box and its inverse, so that these undo each other.
use Rattle.std.proofs.Common.{◌≡◌, ◌∙◌, sym, subst, ◌<◌, ap, ℕ, Bool, true, List, refl, get_or, zero-add, ◌&&◌, ◌==◌, nat_lt}
use Rattle.std.specs.Prelude.{map}
use Rattle.std.specs.List.{range_with_len}
use Rattle.std.proofs.lemmas.Bool.{and_parts, eqb-true}
use Rattle.std.proofs.lemmas.Bool.Decides.{Decides-ltb}
use Rattle.std.proofs.lemmas.List.FromFn.{get_or-map-range_with_len}
use Rattle.block_core.specs.Sbox.{sub_byte, inv_sub_byte, affine_bit, inv_affine_bit, from_bits}
use Rattle.block_core.specs.Field.{inverse, inverse_below, product, product_below, times_x}
use Rattle.block_core.specs.TableLaws.{all_below, all_below_at}
use Rattle.block_core.specs.declared.sbox.TheConstants.{SBOX, INV_SBOX}

pub entry : (f : ℕ → ℕ) (t : List ℕ) (n : ℕ) → t ≡ map f (range_with_len 0 n) → (a : ℕ) → a < n → get_or t a 0 ≡ f a
entry f t n is a h = ap (λ (u : List ℕ). get_or u a 0) is ∙ get_or-map-range_with_len f 0 n a a 0 h (zero-add a)

sbox_is : SBOX ≡ map sub_byte (range_with_len 0 256)
unfolding sub_byte inverse inverse_below product product_below times_x affine_bit from_bits
sbox_is = refl

pub sbox_entry : (a : ℕ) → a < 256 → get_or SBOX a 0 ≡ sub_byte a
sbox_entry = entry sub_byte SBOX 256 sbox_is

inv_sbox_is : INV_SBOX ≡ map inv_sub_byte (range_with_len 0 256)
unfolding inv_sub_byte inverse inverse_below product product_below times_x inv_affine_bit from_bits
inv_sbox_is = refl

pub inv_sbox_entry : (a : ℕ) → a < 256 → get_or INV_SBOX a 0 ≡ inv_sub_byte a
inv_sbox_entry = entry inv_sub_byte INV_SBOX 256 inv_sbox_is

-- The tables undo each other, and hold octets.
table_facts : ℕ → Bool
table_facts a =
    (get_or INV_SBOX (get_or SBOX a 0) 0 == a) && (get_or SBOX (get_or INV_SBOX a 0) 0 == a)
    && nat_lt (get_or SBOX a 0) 256 && nat_lt (get_or INV_SBOX a 0) 256

all_table_facts : all_below table_facts 256 ≡ true
unfolding table_facts
all_table_facts = refl

pub sub_facts_at : (a : ℕ) → a < 256
    → (inv_sub_byte (sub_byte a) ≡ a) × (sub_byte (inv_sub_byte a) ≡ a) × (sub_byte a < 256) × (inv_sub_byte a < 256)
unfolding table_facts
sub_facts_at a h =
    let last = and_parts _ _ (all_below_at table_facts 256 all_table_facts a h) in
    let third = and_parts _ _ last.0 in
    let second = and_parts _ _ third.0 in
    let s = sbox_entry a h in
    let i = inv_sbox_entry a h in
    let s_low : get_or SBOX a 0 < 256 = (Decides-ltb _ _).0 third.1 in
    let i_low : get_or INV_SBOX a 0 < 256 = (Decides-ltb _ _).0 last.1 in (
      ap inv_sub_byte (sym s) ∙ sym (inv_sbox_entry (get_or SBOX a 0) s_low) ∙ eqb-true _ _ second.0,
      ap sub_byte (sym i) ∙ sym (sbox_entry (get_or INV_SBOX a 0) i_low) ∙ eqb-true _ _ second.1,
      subst (λ (x : ℕ). x < 256) s s_low,
      subst (λ (x : ℕ). x < 256) i i_low,
    )
