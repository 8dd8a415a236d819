use Rattle.std.proofs.Common.{◌≡◌, ℕ, ◌+◌, ◌*◌, ◌%◌, ◌<◌, ◌^◌, length, drop}
use Rattle.pkcs12_kdf.specs.Numbers.{number, block_at}
use Rattle.pkcs12_kdf.proofs.carry.add_to_blocks.Given as goal

-- the blocks before k are summed, and what comes after them is untouched
abbrev pub invariant-loop-k : goal.invariant-loop-k
invariant-loop-k l = record {
  done : (i : ℕ) → i < l.k → number (block_at (length l.addend) l.text i) ≡ (number (block_at (length l.addend) l.initial.text i) + number l.addend + 1) % 256 ^ length l.addend;
  rest : drop (length l.addend * l.k) l.text ≡ drop (length l.addend * l.k) l.initial.text;
}
