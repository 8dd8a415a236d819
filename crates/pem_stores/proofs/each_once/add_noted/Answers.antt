use Rattle.std.proofs.Common.{◌≡◌, ℕ, List, ◌∷◌, ◌++◌, [], ap, ◌∙◌, arith, rules}
use Rattle.std.specs.BTreeMap as tree
use Rattle.std.specs.Cmp.Lexicographic.{slice_cmp}
use Rattle.std.specs.Ordering.{nat_cmp}
use Rattle.std.specs.Str.{bytes_eq}
use Rattle.std.proofs.lemmas.Grind.{common_steps}
use Rattle.std.proofs.lemmas.Map.Text.{btree_map_updates_str}
use Rattle.pem_stores.specs.EachOnce.{has_octets}
use Rattle.pem_stores.proofs.Noted.{noted_more}
use Rattle.pem_stores.proofs.each_once.add_noted.Goals as goal

pub returns-clause-noted : goal.returns-clause-noted
returns-clause-noted c = λ q.
    let u = btree_map_updates_str c.as_slice.result.now c.args.noted.now c.insert.new.self _ c.in_ok-insert.ensures.updates in
    let all : c.args.all.now.items ++ c.as_slice.result.now ∷ [] ≡ c.push.new.self.items = first_of (cc, search rules, grind (arith, common_steps)) in
    noted_more bytes_eq (λ (d : List ℕ). tree.get_by (λ n. slice_cmp nat_cmp d n.now) c.args.noted.now) (λ (d : List ℕ). tree.get_by (λ n. slice_cmp nat_cmp d n.now) c.insert.new.self)
    c.args.all.now.items c.as_slice.result.now _ u c.requires q ∙ ap (λ bs. has_octets bs q) all
