-- The refusals of a store.
use Rattle.std.specs.Prelude.{ℕ, List, codes, ⊤}
use Rattle.transfer.specs.declared.store.error.TransferError.{TransferError}
use Rattle.transfer.specs.declared.store.error.TransferError.TheVariants.{TooLong, Malformed, Unsupported, MacMissing, MacUnsupported, ZeroIterations, WorkLimit, MacMismatch, ContentMalformed, DecryptFailed, KeyMalformed, Rng, Memory}

-- what is printed of a refusal: its name, and running out of memory in words
unfoldable pub error_name : TransferError → List ℕ
error_name TooLong = codes "TooLong"
error_name Malformed = codes "Malformed"
error_name Unsupported = codes "Unsupported"
error_name MacMissing = codes "MacMissing"
error_name MacUnsupported = codes "MacUnsupported"
error_name ZeroIterations = codes "ZeroIterations"
error_name WorkLimit = codes "WorkLimit"
error_name MacMismatch = codes "MacMismatch"
error_name ContentMalformed = codes "ContentMalformed"
error_name DecryptFailed = codes "DecryptFailed"
error_name KeyMalformed = codes "KeyMalformed"
error_name Rng = codes "Rng"
error_name Memory = codes "out of memory"

-- Running out of memory may come at any point, a failed draw only where R holds, and any other
-- refusal e only where P e.
abbrev pub RefusedBy : (TransferError → Type 0) → Type 0 → TransferError → Type 0
RefusedBy P R Memory = ⊤
RefusedBy P R Rng = R
RefusedBy P R e = P e
