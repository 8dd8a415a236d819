use Rattle.std.proofs.Common.{◌≡◌, take}
use Rattle.pem_stores.specs.Entries.{certificates_at}
use Rattle.pem_stores.proofs.further.certificates_at.Given as goal

abbrev pub invariant-loop-place : goal.invariant-loop-place
invariant-loop-place l = l.entries.items ≡ certificates_at l.all (take l.place-index l.places)
