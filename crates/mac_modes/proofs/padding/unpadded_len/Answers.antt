use Rattle.std.proofs.Common.{arith, sym, ◌-◌, length, get_or, refl}
use Rattle.std.proofs.lemmas.Bool.{false≢true}
use Rattle.mac_modes.proofs.PaddedTexts.{is_padded, each_end}
use Rattle.mac_modes.proofs.padding.unpadded_len.Goals as goal

pub returns-then-is_all : goal.returns-then-is_all
returns-then-is_all c = (
  omega arith,
  sym (is_padded c.args.text.now c.args.size (get_or c.args.text.now (length c.args.text.now - 1) 0) c.requires.whole
      (omega arith) c.if-count-size.false c.requires.some (c.if-is_all.ensures.0 refl)),
)

pub returns-else-is_all : goal.returns-else-is_all
returns-else-is_all c =
    (refl, λ m e. false≢true (c.if-is_all.ensures.1 (each_end m c.args.text.now c.args.size _ c.requires.low e refl).2))
