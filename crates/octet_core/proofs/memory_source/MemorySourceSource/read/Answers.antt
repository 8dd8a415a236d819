use Rattle.std.proofs.Common.{◌≡◌, ◌+◌, ◌-◌, length, take, drop, arith, ap, ◌∙◌}
use Rattle.std.proofs.lemmas.List.{take_rest, drop_all, length-drop, length-append}
use Rattle.octet_core.proofs.Pieces.{given}
use Rattle.octet_core.proofs.memory_source.MemorySourceSource.read.Goals as goal

pub returns-clause-octets : goal.returns-clause-octets
returns-clause-octets c =
    let inside = c.self.inside in
    let count = c.min-count.result in
    let octets = c.as_slice-2.result.now in
    let is : c.args.self.now.rest ≡ drop inside.at inside.octets = cc in
    let rest : take (length octets - inside.at) (drop inside.at octets) ≡ drop inside.at inside.octets =
    take_rest octets inside.at ∙ ap (drop inside.at) c.as_slice-2.ensures in
    let copied = c.copy_from_slice.ensures.after ∙ ap (take count) rest in
    let long = ap length rest in
    let more = length-drop inside.at inside.octets in
    let least = c.min-count.ensures in
    let first = c.min.ensures in (
      is ∙ given inside.octets c.copy_from_slice.new.self _ inside.at count copied (omega arith),
      λ none room. drop_all (inside.at + count) inside.octets (omega (arith, length-append c.copy_from_slice.new.self)),
    )
