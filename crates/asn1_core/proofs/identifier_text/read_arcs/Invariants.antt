use Rattle.std.specs.Str.{IsUtf8}
use Rattle.std.proofs.Common.{◌≡◌, ◌≤◌, ◌++◌, ◌^◌, length, map, take, decimal}
use Rattle.asn1_core.specs.Identifier.{AllUnder}
use Rattle.asn1_core.specs.Arcs.{words}
use Rattle.asn1_core.proofs.identifier_text.read_arcs.Given as goal

abbrev pub invariant-loop-word : goal.invariant-loop-word
invariant-loop-word l =
    IsUtf8 l.rest × (l.n ≤ 39) × (length l.arcs ≡ 40) × (words l.fn.text ≡ map decimal (take l.n l.arcs) ++ words l.rest) × AllUnder (2 ^ 32) (take l.n l.arcs)

abbrev pub decreases-loop-word : goal.decreases-loop-word
decreases-loop-word l = length l.rest
