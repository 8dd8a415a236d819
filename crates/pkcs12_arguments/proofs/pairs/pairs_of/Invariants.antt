use Rattle.std.proofs.Common.{◌≡◌, ◌≢◌, All, [], Some, None, map, take}
use Rattle.std.specs.Option.{option_copied}
use Rattle.pkcs12_arguments.specs.declared.pairs.Pair.{Pair}
use Rattle.pkcs12_arguments.proofs.pairs.pairs_of.Given as goal

abbrev pub invariant-loop-place : goal.invariant-loop-place
invariant-loop-place l = record {
  of_keys : map (λ (p : Pair). p.key.now) l.pairs.items ≡ map (λ k. k.now) (take l.place l.keys);
  of_certificates : map (λ (p : Pair). p.certificate.now) l.pairs.items ≡ map (λ c. c.now) (take l.place l.certificates);
  named : (l.names ≢ []) → map (λ (p : Pair). option_copied p.name) l.pairs.items ≡ map (λ n. Some n.now) (take l.place l.names);
  unnamed : l.names ≡ [] → All (λ (p : Pair). option_copied p.name ≡ None) l.pairs.items;
}
