use Rattle.spki.proofs.laws.public_keys_are_spelled.Goals as goal

pub returns-clause-spelled : goal.returns-clause-spelled
returns-clause-spelled g c = (
  λ e. let w = c.exact_spellings.ensures.written e in let h = (c.exact_spellings.ensures.exact w).0 e in (w, h.1, h.0),
  λ h. (c.exact_spellings.ensures.exact h.0).1 (h.2, h.1),
)

pub returns-clause-again : goal.returns-clause-again
returns-clause-again g c = λ e short. c.canon_is_read.ensures (c.exact_spellings.ensures.written e) short
