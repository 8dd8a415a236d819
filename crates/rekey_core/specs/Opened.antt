-- A store that was opened, and what is sealed of it.
use Rattle.std.specs.Prelude.{ℕ, ◌+◌, ◌<◌, ◌≤◌, ◌≡◌, List, length, Option}
use Rattle.std.specs.Io.KnownBytes.{Consumes}
use Rattle.p12.specs.declared.content_info.ContentInfo.{ContentInfo}
use Rattle.p12.specs.declared.mac_data.MacData.{MacData}
use Rattle.p12.specs.declared.safe_bag.SafeBag.{SafeBag}
use Rattle.transfer.specs.Limits.{store_limit}
use Rattle.transfer.specs.Verdicts.{StoreOpens}
use Rattle.rekey_core.specs.Anew.{change_draws}
use Rattle.rekey_core.specs.Making.{HeldOpen, TextSealed}
use Rattle.rekey_core.specs.Kinds.{MacKind}
use Rattle.rekey_core.specs.Size.{changed_size}
use Rattle.rekey_core.specs.Unlocking.{Unlocking}
use Rattle.rekey_core.specs.declared.kinds.Kinds.{Kinds}

-- The text b opened under p within the limit: it is that of a store of this version and MAC, whose
-- contents hold these bags and keys, and the steps are the work of opening it.
pub record IsOpened (b p : List ℕ) (limit steps steps_after version : ℕ) (m : MacData)
    (cs : List ContentInfo) (gss : List (List SafeBag)) (ks : List (List ℕ)) : Type 0 where
  pub work : ℕ
  pub opens : StoreOpens b p gss ks work
  pub within : work ≤ limit
  pub counted : steps_after ≡ steps + work
  pub is_version : opens.store.version ≡ version
  pub is_mac : opens.mac ≡ m
  pub are_parts : opens.parts ≡ cs

-- Octets were drawn for the parts of such a store, and the text c is of what was sealed by them.
pub record SealsDrawn (to : Kinds) (version : ℕ) (k : MacKind) (cs : List ContentInfo)
    (gss : List (List SafeBag)) (ks : List (List ℕ)) (q : List ℕ)
    (left left_after : Option (List ℕ)) (c : List ℕ) : Type 0 where
  pub drawn : List ℕ
  pub exactly : length drawn ≡ change_draws to cs gss
  pub took : Consumes left left_after drawn
  pub sealed : (u : Unlocking) → HeldOpen u cs gss ks → TextSealed to u q version k cs drawn c

-- Octets were drawn for the parts, but the text would have more octets than a store may have.
pub record DrawsTooLong (to : Kinds) (version : ℕ) (k : MacKind) (cs : List ContentInfo)
    (gss : List (List SafeBag)) (ks : List (List ℕ)) (left left_after : Option (List ℕ)) : Type 0
  where
    pub drawn : List ℕ
    pub exactly : length drawn ≡ change_draws to cs gss
    pub took : Consumes left left_after drawn
    pub long : (u : Unlocking) → HeldOpen u cs gss ks
        → store_limit < changed_size to version k u cs gss
