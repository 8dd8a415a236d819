use Rattle.spki.specs.Seen.{borrowed_any}
use Rattle.spki.proofs.Spellings.{public_key_written}
use Rattle.spki.proofs.laws.borrowed_public_keys_are_written.Goals as goal

pub returns : goal.returns
returns c =
    let k = c.args.key.now in
    public_key_written borrowed_any k.algorithm.oid k.algorithm.parameters k.subject_public_key.unused_bits k.subject_public_key.octets.now
