use Rattle.std.proofs.Common.{ℕ, List, ◌<◌, length, get_or, inl, inr, lit<, subst, sym}
use Rattle.std.specs.List.{All}
use Rattle.std.proofs.lemmas.Bool.{cases_lt}
use Rattle.std.proofs.lemmas.List.{get_or_past}
use Rattle.std.proofs.lemmas.List.Elements.{All-get_or}
use Rattle.mac_modes.proofs.Stream.{counter-length}
use Rattle.mac_modes.proofs.Sealed.{one_sealed}
use Rattle.mac_modes.proofs.laws.sealed_text_is_unique.Goals as goal

octet_at : (xs : List ℕ) → All (λ x. x < 256) xs → (i : ℕ) → get_or xs i 0 < 256
octet_at xs octets i = elim (cases_lt i (length xs)) [
  | inl here ↦ All-get_or (λ x. x < 256) xs i 0 here octets
  | inr past ↦ subst (λ (x : ℕ). x < 256) (sym (get_or_past xs i 0 past)) (lit< tt)
]

pub returns : goal.returns
returns g c = λ sixteen s nonce m k long octets same.
    one_sealed _ nonce
    (counter-length _ g.C.BlockCipher.BLOCK g.C.BlockCipher.encryption g.C.BlockCipher.decryption g.C.BlockCipher.laws sixteen s nonce long (octet_at nonce octets))
    m k same
