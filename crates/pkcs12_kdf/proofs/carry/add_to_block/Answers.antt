use Rattle.std.proofs.Common.{lit<, List, ◌≡◌, ℕ, ◌+◌, ◌-◌, ◌*◌, ◌^◌, ◌<◌, length, take, drop, sym, subst, ap, ◌∙◌, arith, refl, get_or}
use Rattle.std.proofs.lemmas.List.{take-set, take-take}
use Rattle.std.proofs.lemmas.List.{drop_all}
use Rattle.std.proofs.lemmas.Nat.{mod_below}
use Rattle.pkcs12_kdf.specs.Numbers.{number}
use Rattle.pkcs12_kdf.proofs.Sums.{fits_set, sum_step, without_carry, number_lt}
use Rattle.pkcs12_kdf.proofs.carry.add_to_block.Goals as goal

pub loop-i-preserved : goal.loop-i-preserved
loop-i-preserved c =
    let v = length c.args.addend.now in
    let i = c.loop-i.i - 1 in
    let e : c.loop-i.i ≡ i + 1 = omega arith in
    let front : take (i + 1) c.loop-i.block ≡ take (i + 1) c.args.block.now = subst (λ (n : ℕ). take n c.loop-i.block ≡ take n c.args.block.now) e c.loop-i.invariant.front in
    let sum : number (drop (i + 1) c.loop-i.block) + c.loop-i.carry * 256 ^ (v - (i + 1)) ≡ number (drop (i + 1) c.args.block.now) + number (drop (i + 1) c.args.addend.now) + 1 =
    subst (λ (n : ℕ). number (drop n c.loop-i.block) + c.loop-i.carry * 256 ^ (v - n) ≡ number (drop n c.args.block.now) + number (drop n c.args.addend.now) + 1) e c.loop-i.invariant.sum in
    let lb : length c.loop-i.block ≡ v = c.loop-i.auto.block ∙ c.requires in
    let lt : i < v = omega arith in
    let x : get_or c.loop-i.block i 0 < 256 = c.loop-i.invariant.fits i in
    let y : get_or c.args.addend.now i 0 < 256 = omega arith in
    record {
      fits = fits_set c.loop-i.block i _ (mod_below _ 256 (lit< tt)) c.loop-i.invariant.fits;
      bit = omega (arith, x, y);
      sum = sum_step v c.loop-i.block c.args.block.now c.args.addend.now i c.loop-i.carry lb c.requires refl lt front sum;
      front = take-set c.loop-i.block i _ ∙ (sym (take-take i (i + 1) c.loop-i.block (omega arith)) ∙ (ap (take i) front ∙ take-take i (i + 1) c.args.block.now (omega arith)));
    }

pub loop-i-init : goal.loop-i-init
loop-i-init c =
    let v = length c.args.addend.now in
    let none : (t : List ℕ) → length t ≡ v → number (drop v t) ≡ 0 = λ t l. ap number (drop_all v t (omega (arith, l))) in
    let one : 256 ^ (v - v) ≡ 1 = ap (λ (m : ℕ). 256 ^ m) (let zero : v - v ≡ 0 = omega arith in zero) in
    record {
      fits = λ k. omega (arith, c.type_inv.block k);
      bit = omega arith;
      sum = rw one (omega (arith, none c.args.block.now c.requires, none c.args.addend.now refl));
      front = refl;
    }

pub returns : goal.returns
returns c =
    let v = length c.args.addend.now in
    let all : length c.loop-i.block ≡ v = c.loop-i.auto.block ∙ c.requires in
    let lt : number c.loop-i.block < 256 ^ v = subst (λ (n : ℕ). number c.loop-i.block < 256 ^ n) all (number_lt c.loop-i.block c.loop-i.invariant.fits) in
    let done : c.loop-i.i ≡ 0 = omega arith in
    let sum = subst (λ (n : ℕ). number (drop n c.loop-i.block) + c.loop-i.carry * 256 ^ (v - n) ≡ number (drop n c.args.block.now) + number (drop n c.args.addend.now) + 1) done c.loop-i.invariant.sum in
    let whole : v - 0 ≡ v = omega arith in
    without_carry v (number c.loop-i.block) c.loop-i.carry (number c.args.block.now + number c.args.addend.now + 1) lt (subst (λ (m : ℕ). number c.loop-i.block + c.loop-i.carry * 256 ^ m ≡ number c.args.block.now + number c.args.addend.now + 1) whole sum)
