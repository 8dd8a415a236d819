use Rattle.std.proofs.Common.{◌≡◌, drop, take}
use Rattle.std.specs.BTreeMap as tree
use Rattle.std.specs.Cmp.Lexicographic.{slice_cmp}
use Rattle.std.specs.Option.{is_some}
use Rattle.std.specs.Ordering.{nat_cmp}
use Rattle.pem_stores.specs.EachOnce.{AreNoted, own_certificates, with_new}
use Rattle.pem_stores.proofs.each_once.each_once.Given as goal

abbrev pub invariant-loop-key : goal.invariant-loop-key
invariant-loop-key l = record {
  all : l.all.items ≡ own_certificates (take l.key-index l.keys);
  noted : AreNoted (λ q. is_some (tree.get_by (λ n. slice_cmp nat_cmp q n.now) l.noted)) l.all.items;
}

abbrev pub invariant-loop-certificate : goal.invariant-loop-certificate
invariant-loop-certificate l = record {
  all : with_new l.all.items (drop l.certificate-index l.further) ≡ with_new (own_certificates l.keys) l.further;
  noted : AreNoted (λ q. is_some (tree.get_by (λ n. slice_cmp nat_cmp q n.now) l.noted)) l.all.items;
}
