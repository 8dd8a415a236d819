use Rattle.std.proofs.Common.{◌≡◌, ◌++◌, ◌∷◌, [], ◌∙◌, ℕ, Option, ap, get_or, subst, sym}
use Rattle.std.specs.Prelude.{IfSome, Some, None}
use Rattle.std.specs.BTreeMap as tree
use Rattle.std.specs.List.{slice_get}
use Rattle.std.specs.Ordering.{nat_cmp}
use Rattle.inventory_core.specs.Chains.{FollowsOne}
use Rattle.inventory_core.specs.SubjectIndex.{AreCursors, cursor_of, issuer_of, moved, namesake_of, skipped}
use Rattle.inventory_core.specs.View.{seen_all}
use Rattle.inventory_core.proofs.Cursors.{cursors_told, follows_first, follows_none, told}
use Rattle.inventory_core.proofs.subject_index.SubjectIndex.next_of.Goals as goal

pub returns-in-Some : goal.returns-in-Some
returns-in-Some c =
    let cs = seen_all c.args.self.now.certificates.now in
    let first = c.in-Some.first in
    let namesakes = c.as_slice-in-Some.result.now in
    let cursor : ℕ → Option ℕ = cursor_of (tree.get nat_cmp c.args.cursors.now) in
    let after : ℕ → Option ℕ = cursor_of (tree.get nat_cmp c.take_next.new.cursors) in
    let is : issuer_of cs c.args.last ≡ Some first = sym (c.args.self.now.issuers_are c.args.last) ∙ ap (λ s. get_or s c.args.last None) (sym c.as_slice.ensures.value) ∙ sym c.in-Some.ensures in
    let are : (k : ℕ) → get_or namesakes k None ≡ namesake_of cs k = λ k. ap (λ s. get_or s k None) c.as_slice-in-Some.ensures.value ∙ c.args.self.now.namesakes_are k in
    record {
      next = λ chain state. told (λ o. o ≡ skipped namesakes c.args.start (cursor first)) (λ o. (s : ℕ) → after s ≡ moved namesakes first o cursor s) (λ o. FollowsOne cs chain (slice_get cs c.args.last) o) c.take_next.result
          (λ o e moves. subst (λ n. FollowsOne cs chain (slice_get cs c.args.last) n) (sym e) (follows_first cs c.args.start chain namesakes cursor (slice_get cs c.args.last) first are state is)) c.take_next.ensures.next c.take_next.ensures.cursors;
      cursors = λ chain state. told (λ o. o ≡ skipped namesakes c.args.start (cursor first)) (λ o. (s : ℕ) → after s ≡ moved namesakes first o cursor s) (λ o. IfSome o (λ k. AreCursors cs c.args.start (chain ++ k ∷ []) after)) c.take_next.result
          (λ o e moves. cursors_told cs c.args.start chain namesakes cursor after (slice_get cs c.args.last) first o are state is e moves) c.take_next.ensures.next c.take_next.ensures.cursors;
    }

pub returns-in-None : goal.returns-in-None
returns-in-None c =
    let cs = seen_all c.args.self.now.certificates.now in
    let is : issuer_of cs c.args.last ≡ None = sym (c.args.self.now.issuers_are c.args.last) ∙ ap (λ s. get_or s c.args.last None) (sym c.as_slice.ensures.value) ∙ sym c.in-None.ensures in
    record {
      next = λ chain state. follows_none cs chain (slice_get cs c.args.last) is;
      cursors = λ chain state. tt;
    }
