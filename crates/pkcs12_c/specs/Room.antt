-- The room and the random octets that are always enough.
use Rattle.std.specs.Prelude.{ℕ, ◌*◌, ◌<◌, ◌≤◌, ◌≢◌, List, length, min}
use Rattle.p12.specs.declared.safe_bag.SafeBag.{SafeBag}
use Rattle.rekey_core.specs.Rekeyed.{IsAllowed, draws}
use Rattle.transfer.specs.Limits.{rounds_limit, store_limit}
use Rattle.pkcs12_c.specs.Drawn.{IsShort, TransfersDrawn}
use Rattle.pkcs12_c.specs.Opened.{OpensWithin}
use Rattle.pkcs12_c.specs.PemText.{opened_text, pem_text}

-- the room for the text of a store of n octets: five times as many, and a longer store than a store
-- may be has no text
abbrev pub room_for : ℕ → ℕ
room_for n = 5 * min n store_limit

-- No more than the room for a store of n octets is needed, and with an output of so many octets the
-- number is not 100, which says that the output is too short.
pub record HasRoom (n output needed number : ℕ) : Type 0 where
  pub within : needed ≤ room_for n
  pub enough : room_for n ≤ output → number ≢ 100

-- What a store is transferred to has no longer text.
abbrev pub TransfersFit : Type 0
TransfersFit = (b p q random : List ℕ) (limit rounds : ℕ) (certificates documents : List (List ℕ))
    → rounds ≤ rounds_limit
    → TransfersDrawn b p limit rounds q random certificates documents
    → length (pem_text certificates documents) ≤ room_for (length b)

-- Nor has what it opens to.
abbrev pub OpeningsFit : Type 0
OpeningsFit = (b p : List ℕ) (limit : ℕ) (bags : List (List SafeBag)) (keys : List (List ℕ))
    → OpensWithin b p limit bags keys → length (opened_text bags keys) ≤ room_for (length b)

-- Random octets that are too few for the keys of a store are fewer than the octets of the store.
abbrev pub StoresOutnumber : Type 0
StoresOutnumber = (b p random : List ℕ) (limit : ℕ) → IsShort b p limit random
    → length random < length b

-- The change of a store's password draws no more octets than the store has.
abbrev pub ChangesDrawWithin : Type 0
ChangesDrawWithin = (b p : List ℕ) (limit : ℕ) (a : IsAllowed b p limit)
    → draws b p limit a ≤ length b

-- A store that is made needs no more room than a store may have octets, and with an output of so many
-- the number is not 100, which says that the output is too short.
pub record HasStoreRoom (output needed number : ℕ) : Type 0 where
  pub within : needed ≤ store_limit
  pub enough : store_limit ≤ output → number ≢ 100

-- the random octets of a store of one private key: 32 for the key, 32 for the certificates, and 8 for
-- the MAC
abbrev pub key_draws : ℕ
key_draws = 72
