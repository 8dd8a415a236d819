use Rattle.mac_modes.proofs.Chains.{Closing}
use Rattle.mac_modes.proofs.cbc.encrypt_blocks.Given as goal

abbrev pub invariant-loop-i : goal.invariant-loop-i
invariant-loop-i g l = Closing (g.C.BlockCipher.decryption l.cipher) g.C.BlockCipher.BLOCK l.fn.iv l.fn.buffer l.i l.buffer l.previous
