use Rattle.std.proofs.Common.{◌≡◌, ◌<◌, ◌+◌, ◌-◌, ℕ, List, length, ap, sym, subst, ◌∙◌, arith, length-set}
use Rattle.std.specs.Prelude.{Some}
use Rattle.std.specs.BTreeMap as tree
use Rattle.std.specs.Cmp.Lexicographic.{slice_cmp}
use Rattle.std.specs.Ordering.{nat_cmp}
use Rattle.std.proofs.lemmas.List.{length-map, get_or_past}
use Rattle.std.specs.List.{slice_get}
use Rattle.asn1_core.specs.Texts.{seen_option}
use Rattle.inventory_core.specs.Chains.{has_subject}
use Rattle.inventory_core.specs.SubjectIndex.{named_from}
use Rattle.inventory_core.specs.View.{seen_all, seen_certificate}
use Rattle.inventory_core.proofs.Least.{least_noted, least_past}
use Rattle.inventory_core.proofs.Noted.{seen_at, namesake_noted, namesake_past}
use Rattle.inventory_core.proofs.subjects.namesakes_of.Goals as goal

pub loop-k-init : goal.loop-k-init
loop-k-init c =
    let cs = seen_all c.args.certificates.now in
    let all = length-map c.args.certificates.now (seen_option seen_certificate) in
    record {
      counted = sym c.in_ok-namesakes.namesakes.ok.0 ∙ c.in_ok-namesakes.ensures.len;
      firsts = λ name. c.requires name ∙ sym (least_past (λ n. has_subject (slice_get cs n) name) (length cs) (length c.args.certificates.now) (omega (arith, all)));
      namesakes = λ j le. get_or_past c.in_ok-namesakes.namesakes.items j _ (omega (arith, c.in_ok-namesakes.namesakes.ok, c.in_ok-namesakes.ensures.len)) ∙ sym (namesake_past cs j (omega (arith, all)));
    }

pub loop-k-preserved : goal.loop-k-preserved
loop-k-preserved c =
    let cs = seen_all c.args.certificates.now in
    let all = length-map c.args.certificates.now (seen_option seen_certificate) in
    let i : ℕ = c.loop-k.k - 1 in
    let next : c.loop-k.k ≡ i + 1 = omega arith in
    let lt : i < length c.args.certificates.now = omega arith in
    let at = seen_at (seen_option seen_certificate) c.args.certificates.now i c.index-certificates-k.result lt c.index-certificates-k.is in
    let x = seen_option seen_certificate c.index-certificates-k.result in
    record {
      counted = length-set c.loop-k.namesakes.items i c.in_ok-namesakes-2.field-0 ∙ c.loop-k.invariant.counted;
      firsts = λ name. least_noted (λ n. has_subject (slice_get cs n) name) (length cs) i c.loop-k.k (has_subject (Some x) name) _ _ next (omega (arith, all)) (ap (λ y. has_subject y name) at)
          (c.loop-k.invariant.firsts name) (c.in_ok-namesakes-2.ensures.firsts name);
      namesakes = λ j le. namesake_noted cs c.loop-k.namesakes.items i c.loop-k.k j x (λ (name : List ℕ). tree.get_by (λ n. slice_cmp nat_cmp name n.now) c.loop-k.firsts) c.in_ok-namesakes-2.field-0 next (omega (arith, c.loop-k.invariant.counted)) at
          c.loop-k.invariant.firsts c.in_ok-namesakes-2.ensures.namesake c.loop-k.invariant.namesakes le;
    }

pub returns-clause-namesakes : goal.returns-clause-namesakes
returns-clause-namesakes c = λ j. c.loop-k.invariant.namesakes j (omega arith)

pub returns-clause-firsts : goal.returns-clause-firsts
returns-clause-firsts c = λ name. let e : c.loop-k.k ≡ 0 = omega arith in
    subst (λ n. tree.get_by (λ t. slice_cmp nat_cmp name t.now) c.loop-k.firsts ≡ named_from (seen_all c.args.certificates.now) n name) e (c.loop-k.invariant.firsts name)
