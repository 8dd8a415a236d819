use Rattle.mac_modes.proofs.Chains.{Opening}
use Rattle.mac_modes.proofs.cbc.decrypt_blocks.Given as goal

abbrev pub invariant-loop-i : goal.invariant-loop-i
invariant-loop-i g l = Opening (g.C.BlockCipher.decryption l.cipher) g.C.BlockCipher.BLOCK l.fn.iv l.fn.buffer l.i l.buffer l.previous
