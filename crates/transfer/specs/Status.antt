-- The returns to stores that are refused.
use Rattle.frame.specs.declared.status.Status.{Status}
use Rattle.frame.specs.declared.status.Status.TheVariants.{Malformed, Unsupported, MacMissing, MacUnsupported, ZeroIterations, WorkLimit, MacMismatch, ContentMalformed, DecryptFailed, KeyMalformed, Rng, TooLong, Memory}
use Rattle.transfer.specs.declared.store.error.TransferError.{TransferError}
use Rattle.transfer.specs.declared.store.error.TransferError.TheVariants as refusals

-- the status of a refusal of the store
abbrev pub status_of : TransferError → Status
status_of refusals.TooLong = TooLong
status_of refusals.Malformed = Malformed
status_of refusals.Unsupported = Unsupported
status_of refusals.MacMissing = MacMissing
status_of refusals.MacUnsupported = MacUnsupported
status_of refusals.ZeroIterations = ZeroIterations
status_of refusals.WorkLimit = WorkLimit
status_of refusals.MacMismatch = MacMismatch
status_of refusals.ContentMalformed = ContentMalformed
status_of refusals.DecryptFailed = DecryptFailed
status_of refusals.KeyMalformed = KeyMalformed
status_of refusals.Rng = Rng
status_of refusals.Memory = Memory
