use Rattle.std.proofs.Common.{rules, ◌≡◌}
use Rattle.base64.specs.Engines.{standard}
use Rattle.base64.specs.GeneralPurpose.{IsBytes, encode_of}
use Rattle.pem_text.specs.Pem.{in_lines, pem}
use Rattle.pem_text.proofs.ReadBack.{lines_decode}
use Rattle.pem_text.proofs.pem.pem_of.Goals as goal

pub returns-clause-read_back : goal.returns-clause-read_back
returns-clause-read_back c =
    let text : c.from_vec.result ≡ pem c.args.label.now c.args.octets.now = search rules in
    let bytes : IsBytes c.args.octets.now = search (rules, c.type_inv.octets) in
    record {
      lines = in_lines (encode_of standard c.args.octets.now);
      parts = text;
      decodes = lines_decode c.args.octets.now bytes;
    }
