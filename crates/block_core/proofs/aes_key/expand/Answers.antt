use Rattle.std.proofs.Common.{arith, ◌≡◌, ◌∙◌, sym, ap, ap₂, ◌+◌, ◌-◌, ◌*◌, ℕ, suc, List, ◌++◌, take, drop, length}
use Rattle.std.proofs.lemmas.List.{take_at, take_all, length-append, length-drop, length-take}
use Rattle.std.proofs.lemmas.Slice.{take-put_mid}
use Rattle.block_core.specs.AesKey.{expand, next_word}
use Rattle.block_core.proofs.aes_key.expand.Goals as goal

pub loop-i-init : goal.loop-i-init
unfolding expand
loop-i-init c =
    let e : 4 * (c.args.words + 0) ≡ 4 * c.args.words = omega arith in
    record {
      octets = λ i. omega (arith, c.type_inv.keys i);
      front =
          ap (λ (j : ℕ). take j (c.copy_from_slice.new.self ++ drop (4 * c.args.words) c.args.keys.now)) e
          ∙ take_at c.copy_from_slice.new.self (drop (4 * c.args.words) c.args.keys.now) (4 * c.args.words) (ap length c.copy_from_slice.ensures.after ∙ c.requires.key)
          ∙ c.copy_from_slice.ensures.after;
    }

pub loop-i-preserved : goal.loop-i-preserved
unfolding expand
loop-i-preserved c =
    let a : ℕ = 4 * (c.args.words + c.loop-i.i) in
    let k : ℕ = a + 4 - a in
    let next : c.loop-i.i + 1 ≡ suc c.loop-i.i = omega arith in
    let long : length c.loop-i.keys ≡ 4 * (c.args.words + c.args.n) =
    c.loop-i.auto.keys
    ∙ omega (arith, length-append c.copy_from_slice.new.self (drop (4 * c.args.words) c.args.keys.now), length-drop (4 * c.args.words) c.args.keys.now, ap length c.copy_from_slice.ensures.after) in
    record {
      octets = λ i. omega (arith, c.type_inv.keys i);
      front =
          take-put_mid a k c.loop-i.keys c.copy_from_slice-in-loop-i.new.self (4 * (c.args.words + (c.loop-i.i + 1)))
          (omega (arith, c.copy_from_slice-in-loop-i.ensures.len, length-take k (drop a c.loop-i.keys), length-drop a c.loop-i.keys))
          (omega arith)
          ∙ ap₂ (λ (x y : List ℕ). x ++ y) c.loop-i.invariant.front
          (c.copy_from_slice-in-loop-i.ensures.after ∙ c.next_word-word.ensures ∙ ap (λ (x : List ℕ). next_word c.args.words x (c.args.words + c.loop-i.i)) c.loop-i.invariant.front)
          ∙ ap (expand c.args.words c.args.key.now) (sym next);
    }

pub returns-clause-value : goal.returns-clause-value
returns-clause-value c =
    let all : c.loop-i.i ≡ c.args.n = omega arith in
    let long : length c.loop-i.keys ≡ 4 * (c.args.words + c.args.n) =
    c.loop-i.auto.keys
    ∙ omega (arith, length-append c.copy_from_slice.new.self (drop (4 * c.args.words) c.args.keys.now), length-drop (4 * c.args.words) c.args.keys.now, ap length c.copy_from_slice.ensures.after) in
    sym (take_all (4 * (c.args.words + c.loop-i.i)) c.loop-i.keys (omega arith)) ∙ c.loop-i.invariant.front ∙ ap (expand c.args.words c.args.key.now) all

pub returns-clause-octets : goal.returns-clause-octets
returns-clause-octets c = c.loop-i.invariant.octets
