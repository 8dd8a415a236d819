use Rattle.std.proofs.Common.{◌∙◌, ap, refl}
use Rattle.std.specs.Prelude.{List, ℕ, Some}
use Rattle.transfer.proofs.SampleStore.{sample_makes}
use Rattle.transfer.proofs.sample.lines.lines_of_sample.Goals as goal

pub returns-clause-made : goal.returns-clause-made
returns-clause-made g c =
    sample_makes c.args.keys c.work_of.result _ c.requires.store.0 _ _ _ _ _ _ _ c.requires.store.1 c.work_of.ensures (c.as_slice.ensures ∙ c.requires.store.2) (c.as_slice-2.ensures ∙ c.requires.store.2)
    refl c.as_bytes.ensures.value (ap (λ d. Some d.left) c.new-draw.ensures ∙ ap (λ (t : List ℕ). Some t) c.requires.drawn) c.in_ok-transferred.ensures.opened c.in_ok-lines_for.ensures
