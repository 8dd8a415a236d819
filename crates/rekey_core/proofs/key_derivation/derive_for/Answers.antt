use Rattle.std.proofs.Common.{◌≡◌, ℕ, List, [], ◌∷◌, map, rules, ap, ◌∙◌}
use Rattle.std.specs.List.{slice_get}
use Rattle.pkcs5.specs.Opening.{sha256_key}
use Rattle.rekey_core.specs.Deriving.{seen_parts}
use Rattle.rekey_core.specs.declared.key_derivation.RoundsAndSalt.{RoundsAndSalt}
use Rattle.rekey_core.proofs.Deriving.{all_keys_are, runs_end, runs_step}
use Rattle.rekey_core.proofs.Supplying.{empty_is}
use Rattle.rekey_core.proofs.key_derivation.derive_for.Goals as goal

pub loop-first-preserved : goal.loop-first-preserved
loop-first-preserved c =
    let first = c.in-Some.first.now in
    let rest : c.loop-first.rest.now ≡ c.in-Some.first.now ∷ c.in-Some.field-0-1.now = search rules in
    let equal = c.run_length.ensures.equal first (ap (λ (l : List RoundsAndSalt). slice_get l 0) rest) in
    let made = c.in_ok-derive_run.ensures in
    runs_step c.as_slice-rest.result.now c.loop-first.rest.now c.split_at.result.0.now c.split_at.result.1.now c.run_length.result first.rounds c.args.new.now c.loop-first.derived c.push.new.self c.in_ok-derive_run.field-0 c.loop-first.invariant
    c.split_at.ensures.front c.split_at.ensures.back equal made.rounds made.salts made.password c.in_ok-push.ensures.ok

pub returns-clause-keys : goal.returns-clause-keys
returns-clause-keys c =
    let none : c.loop-first.rest.now ≡ [] = empty_is c.loop-first.rest.now c.in_default.ensures.cases in
    let are = runs_end c.as_slice-rest.result.now c.loop-first.rest.now c.args.new.now c.loop-first.derived c.loop-first.invariant none ∙ ap seen_parts c.as_slice-rest.ensures ∙ c.in_ok-parts.ensures.parts in
    all_keys_are c.loop-first.derived c.args.new.now c.loop-first.invariant.password ∙ ap (λ (l : List (ℕ × List ℕ)). map (λ part. sha256_key part.0 c.args.new.now part.1) l) are
