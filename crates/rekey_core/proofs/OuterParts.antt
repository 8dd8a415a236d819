-- The outer parts of one store are the same: its text and its MAC.
use Rattle.std.proofs.Common.{◌≡◌, ℕ, List, Some}
use Rattle.p12.specs.declared.content_info.ContentInfo.TheVariants as content
use Rattle.p12.specs.declared.mac_data.MacData.{MacData}

pub data_is : (v w : List ℕ) → content.Data v ≡ content.Data w → v ≡ w
data_is v w e = cc

pub mac_is : (m n : MacData) → Some m ≡ Some n → m ≡ n
mac_is m n e = cc
