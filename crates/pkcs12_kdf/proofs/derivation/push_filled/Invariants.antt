use Rattle.std.proofs.Common.{◌≡◌, ◌%◌, ◌++◌, length, map, get_or}
use Rattle.std.specs.List.{range_with_len}
use Rattle.pkcs12_kdf.proofs.derivation.push_filled.Given as goal

abbrev pub invariant-loop-i : goal.invariant-loop-i
invariant-loop-i l = l.out.items ≡ l.fn.out.items ++ map (λ i. get_or l.text (i % length l.text) 0) (range_with_len 0 l.i)
