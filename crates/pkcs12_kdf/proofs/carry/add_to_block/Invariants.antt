use Rattle.std.proofs.Common.{◌<◌, get_or, ◌≡◌, ℕ, ◌+◌, ◌*◌, ◌-◌, ◌≤◌, ◌^◌, length, take, drop}
use Rattle.pkcs12_kdf.specs.Numbers.{number}
use Rattle.pkcs12_kdf.proofs.carry.add_to_block.Given as goal

-- the octets from i on and the carry are the sum of those octets, and those before i are untouched
abbrev pub invariant-loop-i : goal.invariant-loop-i
invariant-loop-i l = record {
  fits : (k : ℕ) → get_or l.block k 0 < 256;
  bit : l.carry ≤ 1;
  sum : number (drop l.i l.block) + l.carry * 256 ^ (length l.addend - l.i) ≡ number (drop l.i l.initial.block) + number (drop l.i l.addend) + 1;
  front : take l.i l.block ≡ take l.i l.initial.block;
}
