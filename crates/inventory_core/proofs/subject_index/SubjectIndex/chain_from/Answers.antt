use Rattle.std.proofs.Common.{◌≡◌, ◌++◌, ◌∷◌, [], ℕ, ap, refl, subst, sym, ◌∙◌}
use Rattle.std.specs.Prelude.{IfSome, Some}
use Rattle.std.specs.BTreeMap as tree
use Rattle.std.specs.List.{slice_get}
use Rattle.std.specs.Ordering.{nat_cmp}
use Rattle.inventory_core.specs.Chains.{Continues, Next}
use Rattle.inventory_core.specs.SubjectIndex.{AreCursors, cursor_of}
use Rattle.inventory_core.specs.View.{seen_all}
use Rattle.inventory_core.proofs.Cursors.{cursors_new}
use Rattle.inventory_core.proofs.Rising.{at_end, one_more, smaller}
use Rattle.inventory_core.proofs.subject_index.SubjectIndex.chain_from.Goals as goal

pub links-init : goal.links-init
links-init c =
    let cs = seen_all c.args.self.now.certificates.now in
    let one : c.push.new.self ≡ c.args.start ∷ [] = c.in_ok-push.ensures.ok ∙ ap (λ l. l ++ c.args.start ∷ []) c.new-chain.ensures in
    let own : (r : ℕ) → cursor_of (tree.get nat_cmp c.new-cursors.result) r ≡ Some r = λ r. rw c.new-cursors.ensures.empty refl in
    record {
      so_far = λ rest h. (rest, ap (λ l. l ++ rest) one, subst (λ l. Continues cs l c.args.start rest) one h);
      cursors = subst (λ chain. AreCursors cs c.args.start chain (cursor_of (tree.get nat_cmp c.new-cursors.result))) (sym one) (cursors_new cs c.args.start (cursor_of (tree.get nat_cmp c.new-cursors.result)) own);
    }

pub links-smaller : goal.links-smaller
links-smaller c =
    let cs = seen_all c.args.self.now.certificates.now in
    let next = subst (λ o. Next cs c.links.chain c.links.last o) c.in-Some.is (c.in_ok-k.ensures.next c.links.chain c.links.invariant.cursors) in
    rw c.in_ok-push-2.ensures.ok (smaller cs c.links.chain (slice_get cs c.links.last) c.in-Some.k next)

pub links-preserved : goal.links-preserved
links-preserved c =
    let cs = seen_all c.args.self.now.certificates.now in
    let next = subst (λ o. Next cs c.links.chain c.links.last o) c.in-Some.is (c.in_ok-k.ensures.next c.links.chain c.links.invariant.cursors) in
    let cursors = subst (λ o. IfSome o (λ k. AreCursors cs c.args.start (c.links.chain ++ k ∷ []) (cursor_of (tree.get nat_cmp c.next_of.new.cursors)))) c.in-Some.is
    (c.in_ok-k.ensures.cursors c.links.chain c.links.invariant.cursors) in
    record {
      so_far = rw c.in_ok-push-2.ensures.ok (one_more cs c.args.start c.links.last c.in-Some.k c.links.chain c.links.invariant.so_far next);
      cursors = rw c.in_ok-push-2.ensures.ok cursors;
    }

pub returns-in-None : goal.returns-in-None
returns-in-None c =
    let cs = seen_all c.args.self.now.certificates.now in
    at_end cs c.args.start c.links.last c.links.chain c.links.invariant.so_far
    (subst (λ o. Next cs c.links.chain c.links.last o) c.in-None.is (c.in_ok-k.ensures.next c.links.chain c.links.invariant.cursors))
