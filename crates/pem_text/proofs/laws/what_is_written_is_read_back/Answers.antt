use Rattle.std.proofs.Common.{rules}
use Rattle.base64.specs.GeneralPurpose.{IsBytes}
use Rattle.pem_text.proofs.RoundTrip.{read_back}
use Rattle.pem_text.proofs.laws.what_is_written_is_read_back.Goals as goal

pub returns : goal.returns
returns c = λ h.
    let bytes : IsBytes c.args.octets.now = search (rules, c.type_inv.octets) in
    read_back c.args.label.now c.args.octets.now h bytes
