-- The sample: a store that is made of generated octets, and the text that is due for it.
use Rattle.std.specs.Prelude.{ℕ, ◌*◌, ◌+◌, ◌/◌, ◌%◌, ◌^◌, ◌≡◌, ◌≢◌, ◌<◌, ◌≤◌, All, List, zero, suc, [], ◌∷◌, ◌++◌, map, length, Option, Some, codes, decimal}
use Rattle.std.specs.Io.KnownBytes.{Appends}
use Rattle.sha2.specs.Sha256.{sha256}
use Rattle.asn1_core.specs.Sets.{Each}
use Rattle.p12.specs.AlgorithmIdentifier.{unlock}
use Rattle.p12.specs.Canonical.{bags_canon, contents_canon, store_canon}
use Rattle.p12.specs.MacData.{mac_of}
use Rattle.pkcs12_kdf.specs.Password.{bmp_password}
use Rattle.p12.specs.declared.algorithm_identifier.AlgorithmIdentifier.{AlgorithmIdentifier}
use Rattle.p12.specs.declared.algorithm_identifier.AlgorithmIdentifier.TheVariants.{Sha1, PbeWithSHAAnd3KeyTripleDESCBC}
use Rattle.p12.specs.declared.cert_bag.CertBag.TheVariants as cert
use Rattle.p12.specs.declared.content_info.ContentInfo.{ContentInfo}
use Rattle.p12.specs.declared.content_info.ContentInfo.TheVariants as content
use Rattle.p12.specs.declared.pfx.PFX.{PFX}
use Rattle.p12.specs.declared.safe_bag.SafeBag.{SafeBag}
use Rattle.p12.specs.declared.safe_bag.SafeBagKind.TheVariants as kind
use Rattle.octet_core.specs.Faults.{Rose}
use Rattle.frame.specs.DueText.{AppendsPart, digits_line}
use Rattle.frame.specs.Status.{error_text}
use Rattle.frame.specs.Calls.{effects}
use Rattle.frame.specs.Stream.{Stream, stream}
use Rattle.frame.specs.declared.status.Status.{Status}
use Rattle.frame.specs.declared.status.Status.TheVariants.{Done, WriteFault, Memory}
use Rattle.transfer.specs.DueText.{out}
use Rattle.transfer.specs.Transferred.{Transfers}
use Rattle.transfer.specs.Words.{Command, command}

-- ---- the generator: a state is below 2 ^ 31, the first is the number of keys, and each new state
-- gives an octet

abbrev pub next_state : ℕ → ℕ
next_state y = (1103515245 * y + 12345) % 2 ^ 31

-- the next n octets after a state
unfoldable pub octets_behind : ℕ → ℕ → List ℕ
octets_behind y zero = []
octets_behind y (suc n) = (next_state y / 65536) % 256 ∷ octets_behind (next_state y) n

-- the state after n octets
unfoldable pub state_behind : ℕ → ℕ → ℕ
state_behind y zero = y
state_behind y (suc n) = state_behind (next_state y) n

-- ---- what a key takes of it: 16 octets of a certificate, 32 of a key, and 8 of a salt

abbrev pub behind_certificate : ℕ → ℕ
behind_certificate y = state_behind y 16

abbrev pub behind_key : ℕ → ℕ
behind_key y = state_behind (behind_certificate y) 32

abbrev pub behind_salt : ℕ → ℕ
behind_salt y = state_behind (behind_key y) 8

-- the certificate: a SEQUENCE of one OCTET STRING
abbrev pub certificate_front : List ℕ
certificate_front = 0x30 ∷ 0x12 ∷ 0x04 ∷ 0x10 ∷ []

abbrev pub certificate_at : ℕ → List ℕ
certificate_at y = certificate_front ++ octets_behind y 16

-- the key: a PrivateKeyInfo of Ed25519 (RFC 8410 section 7)
abbrev pub key_front : List ℕ
key_front = 0x30 ∷ 0x2e ∷ 0x02 ∷ 0x01 ∷ 0x00 ∷ 0x30 ∷ 0x05 ∷ 0x06 ∷ 0x03 ∷ 0x2b ∷ 0x65 ∷ 0x70 ∷ 0x04
    ∷ 0x22 ∷ 0x04 ∷ 0x20 ∷ []

abbrev pub key_at : ℕ → List ℕ
key_at y = key_front ++ octets_behind (behind_certificate y) 32

abbrev pub salt_at : ℕ → List ℕ
salt_at y = octets_behind (behind_key y) 8

-- the states at which n keys begin, and the state after them
abbrev pub starts : ℕ → ℕ → List ℕ
starts y zero = []
starts y (suc n) = y ∷ starts (behind_salt y) n

abbrev pub behind_keys : ℕ → ℕ → ℕ
behind_keys y zero = y
behind_keys y (suc n) = behind_keys (behind_salt y) n

-- ---- the store: every count is 1, no bag has attributes, and the password is `sample`

abbrev pub sample_password : List ℕ
sample_password = codes "sample"

abbrev pub triple_des_once : List ℕ → AlgorithmIdentifier
triple_des_once salt = PbeWithSHAAnd3KeyTripleDESCBC (record { salt = salt; iterations = 1 })

-- the octets c open to the text m
abbrev pub OpensTo : List ℕ → List ℕ → List ℕ → Type 0
OpensTo salt m c = All (λ octet. octet < 256) c
    × (unlock (triple_des_once salt) sample_password c ≡ Some m)

abbrev pub certificate_bag : List ℕ → SafeBag
certificate_bag v = record { bag = kind.CertBag (cert.X509 v); attributes = [] }

-- those of the keys that begin at these states
abbrev pub certificate_bags : List ℕ → List SafeBag
certificate_bags ys = map (λ (y : ℕ). certificate_bag (certificate_at y)) ys

abbrev pub key_bag : List ℕ → List ℕ → SafeBag
key_bag salt c = record {
  bag = kind.Pkcs8ShroudedKeyBag
      (record { encryption_algorithm = triple_des_once salt; encrypted_data = c });
  attributes = [];
}

-- the bag of a key under a salt
abbrev pub SealsKey : List ℕ → List ℕ → SafeBag → Type 0
SealsKey salt key g = (c : List ℕ) × OpensTo salt key c × (g ≡ key_bag salt c)

-- the bag of the key that begins at this state
abbrev pub IsKeyBag : ℕ → SafeBag → Type 0
IsKeyBag y g = SealsKey (salt_at y) (key_at y) g

abbrev pub content_salt_at : ℕ → List ℕ
content_salt_at y = octets_behind y 8

abbrev pub mac_salt_at : ℕ → List ℕ
mac_salt_at y = octets_behind (state_behind y 8) 8

-- a content of these octets, encrypted once under a salt
abbrev pub encrypted_content : List ℕ → List ℕ → ContentInfo
encrypted_content salt c =
    content.EncryptedData
    (record {
      encrypted_content_info =
          record { content_encryption_algorithm = triple_des_once salt; encrypted_content = c };
    })

-- the two contents: the certificates, of which c is encrypted, and the bags of the keys
abbrev pub two_contents : List ℕ → List ℕ → List SafeBag → List ContentInfo
two_contents salt c gs = encrypted_content salt c ∷ content.Data (bags_canon gs) ∷ []

-- the store of these two contents
abbrev pub store_of : List ℕ → List ℕ → PFX
store_of outer salt = record {
  version = 3;
  auth_safe = content.Data outer;
  mac_data = Some (mac_of Sha1 (bmp_password sample_password) outer salt 1);
}

-- the store of so many keys
pub record IsSampleStore (keys : ℕ) (store : PFX) : Type 0 where
  pub encrypted : List ℕ
  pub certificates : OpensTo (content_salt_at (behind_keys keys keys))
      (bags_canon (certificate_bags (starts keys keys))) encrypted
  pub bags : List SafeBag
  pub sealed : Each IsKeyBag (starts keys keys) bags
  pub is : let y = behind_keys keys keys in
      store ≡ store_of (contents_canon (two_contents (content_salt_at y) encrypted bags))
      (mac_salt_at y)

-- the state after all of it
abbrev pub behind_store : ℕ → ℕ
behind_store keys = state_behind (state_behind (behind_keys keys keys) 8) 8

-- the octets to be drawn for its documents
abbrev pub drawn_octets : ℕ → List ℕ
drawn_octets keys = octets_behind (behind_store keys) (32 * keys)

-- ---- the text

-- the work of the store: its MAC, its certificates, and each key
abbrev pub sample_work : ℕ → ℕ
sample_work keys = 3 * keys + 4

abbrev pub number_line : List ℕ → ℕ → List ℕ
number_line label n = label ++ decimal n ++ codes "\n"

-- five lines: the number of keys, the number of certificates, the octets of the store, its work,
-- and the digest of the text that `transfer` is due for it
abbrev pub sample_text : ℕ → List ℕ → List (List ℕ) → List (List ℕ) → List ℕ
sample_text keys store certificates documents =
    number_line (codes "keys ") keys ++ number_line (codes "certs ") (length certificates)
    ++ number_line (codes "store ") (length store)
    ++ number_line (codes "steps ") (sample_work keys)
    ++ digits_line (codes "sha256 ") (sha256 (out certificates documents))

-- the command that the sample stands for: the password as the new one, one round, and its work as
-- the limit
abbrev pub sample_command : ℕ → Command
sample_command keys = command sample_password sample_password 1 (sample_work keys)

-- The text is due for a sample of so many keys: the store was transferred, by the octets to be
-- drawn, and the steps rose by its work.
pub record SampleMakes (keys steps steps_after : ℕ) (text : List ℕ) : Type 0 where
  pub store : PFX
  pub is : IsSampleStore keys store
  pub certificates : List (List ℕ)
  pub documents : List (List ℕ)
  pub rest : Option (List ℕ)
  pub transferred : Transfers (sample_command keys)
      (effects (stream (Some (drawn_octets keys)) rest 0 0) steps steps_after)
      (store_canon store) certificates documents
  pub counted : steps_after ≡ steps + sample_work keys
  pub each_certificate : certificates ≡ map certificate_at (starts keys keys)
  pub each_document : length documents ≡ keys
  pub lines : text ≡ sample_text keys (store_canon store) certificates documents

-- Of a number of keys there is one text.
abbrev pub OneSample : Type 0
OneSample = (keys a b c d : ℕ) (t u : List ℕ) → SampleMakes keys a b t → SampleMakes keys c d u
    → t ≡ u

-- ---- the statuses

-- The arguments are `sample` and a number of keys.
pub record IsSample (words : List (List ℕ)) (keys : ℕ) : Type 0 where
  pub spelled : words ≡ codes "sample" ∷ decimal keys ∷ []
  pub some_keys : 1 ≤ keys
  pub at_most : keys ≤ 10000

abbrev pub IsNoSample : List (List ℕ) → Type 0
IsNoSample words = (keys : ℕ) → IsSample words keys → ⊥

-- The text that is due for a status: no other status than Done and Memory has one.
abbrev pub SampleDue : ℕ → ℕ → ℕ → Status → List ℕ → Type 0
SampleDue keys steps steps_after Done text = SampleMakes keys steps steps_after text
SampleDue keys steps steps_after Memory text = text ≡ error_text Memory
SampleDue keys steps steps_after s text = ⊥

-- What a run returns for a sample, over the output.
pub record SampleAnswers (keys steps steps_after : ℕ) (output : Stream) (s : Status) : Type 0 where
  -- On each status but WriteFault the text that is due for it was written, and on WriteFault a
  -- proper prefix of a text that is due.
  pub written : s ≢ WriteFault → (text : List ℕ) × SampleDue keys steps steps_after s text
      × Appends output.told output.told_after text
  pub part : s ≡ WriteFault
      → (t : Status) × (text : List ℕ) × SampleDue keys steps steps_after t text
      × AppendsPart output.told output.told_after text
  -- WriteFault comes only where the output's count of faults rose, or is at its last value; the
  -- count does not fall.
  pub write_fault : s ≡ WriteFault → Rose output.faults output.faults_after
  pub count : output.faults ≤ output.faults_after
  -- Where the count rose, a write failed, the result is WriteFault.
  pub failed_write : output.faults < output.faults_after → s ≡ WriteFault
  -- The steps rise by at most the work of the store.
  pub at_most : (steps ≤ steps_after) × (steps_after ≤ steps + sample_work keys)
