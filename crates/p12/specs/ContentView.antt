-- What is seen of a content that lends its parts: the same in memory of its own, and where it is.
use Rattle.std.specs.Prelude.{◌≡◌, ℕ, ◌≤◌, List, ◌∷◌, length, ⊤}
use Rattle.p12.specs.Place.{Between, UpTo, at_place}
use Rattle.p12.specs.Walk.{Walk}
use Rattle.p12.specs.AlgorithmView.{seen_algorithm}
use Rattle.p12.specs.declared.encrypted_data.EncryptedContentInfo.{EncryptedContentInfo}
use Rattle.p12.specs.declared.encrypted_data.EncryptedData.{EncryptedData}
use Rattle.p12.specs.declared.content_info.ContentInfo.{ContentInfo}
use Rattle.p12.specs.declared.content_info.ContentInfo.TheVariants as content
use Rattle.p12.specs.declared.encrypted_data.EncryptedView.{EncryptedView}
use Rattle.p12.specs.declared.content_info.ContentView.{ContentView}
use Rattle.p12.specs.declared.content_info.ContentView.TheVariants as view

abbrev pub seen_encrypted : EncryptedView → EncryptedContentInfo
seen_encrypted e = record {
  content_encryption_algorithm = seen_algorithm e.algorithm;
  encrypted_content = e.content.now;
}

abbrev pub seen_encrypted_data : EncryptedView → EncryptedData
seen_encrypted_data e = record { encrypted_content_info = seen_encrypted e }

abbrev pub seen_content : ContentView → ContentInfo
seen_content (view.Plain v at) = content.Data v.now
seen_content (view.Encrypted a v at) =
    content.EncryptedData
    (record {
      encrypted_content_info = record {
        content_encryption_algorithm = seen_algorithm a;
        encrypted_content = v.now;
      };
    })
seen_content (view.Other k v) = content.OtherContext (record { content_type = k; content = v.now })

-- it goes up to the end
abbrev pub EndsAt : ℕ → ContentView → Type 0
EndsAt end (view.Plain v at) = UpTo end v.now at
EndsAt end (view.Encrypted a v at) = UpTo end v.now at
EndsAt end (view.Other k v) = ⊤

-- it is where it says, in these octets
abbrev pub ContentStands : List ℕ → ContentView → Type 0
ContentStands b (view.Plain v at) = at_place at b ≡ v.now
ContentStands b (view.Encrypted a v at) = at_place at b ≡ v.now
ContentStands b (view.Other k v) = ⊤

-- it lies between two numbers of octets
abbrev pub ContentBetween : ℕ → ℕ → ContentView → Type 0
ContentBetween from to (view.Plain v at) = Between from to at
ContentBetween from to (view.Encrypted a v at) = Between from to at
ContentBetween from to (view.Other k v) = ⊤

-- a walk goes on by this content
pub record NextContent (old new : Walk ContentInfo) (v : ContentView) : Type 0 where
  pub same : new.bytes ≡ old.bytes
  pub is : old.left ≡ seen_content v ∷ new.left
  pub stands : ContentStands old.bytes v
  pub between : ContentBetween old.passed new.passed v
  pub forward : (old.passed ≤ new.passed) × (new.passed ≤ length old.bytes)
