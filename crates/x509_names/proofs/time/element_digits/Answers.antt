use Rattle.std.proofs.Common.{arith, ◌≡◌, take, drop, All, subst, sym, ◌-◌, ◌+◌}
use Rattle.x509_names.specs.Time.{IsDigit}
use Rattle.x509_names.proofs.Times.{has_digits, placed}
use Rattle.x509_names.proofs.time.element_digits.Goals as goal
use Rattle.x509_names.proofs.time.element_digits.Goals.{then-element-count-via-then-element-count, then-element-count-via-else-element-count+then-element-tag, then-element-count-via-else-element-count+else-element-tag+then-from-count}
use Rattle.x509_names.proofs.time.element_digits.Goals.{then-element-count-ne90-via-then-element-count-ne90, then-element-count-ne90-via-else-element-count-ne90+then-not-are_digits}

pub returns-then-element-count : goal.returns-then-element-count
returns-then-element-count c = λ d h.
    let p = placed _ _ _ d c.requires h in
    elim c.then-element-count.branch [
      | then-element-count-via-then-element-count w ↦ omega (arith, p.size)
      | then-element-count-via-else-element-count+then-element-tag w ↦ omega (arith, p.tag_is)
      | then-element-count-via-else-element-count+else-element-tag+then-from-count w ↦ omega (arith, p.len_is)
    ]

pub returns-then-element-count-ne90 : goal.returns-then-element-count-ne90
returns-then-element-count-ne90 c = λ d h.
    let p = placed _ _ _ d c.requires h in
    let n : c.args.count + 2 - 2 ≡ c.args.count = omega arith in
    let all : All IsDigit (take (c.args.count + 2 - 2) (drop 2 c.args.element.now)) = rw n (subst (All IsDigit) (sym p.part) h.digits) in
    elim c.then-element-count-ne90.branch [
      | then-element-count-ne90-via-then-element-count-ne90 w ↦ omega (arith, p.last_is)
      | then-element-count-ne90-via-else-element-count-ne90+then-not-are_digits w ↦
          let t = w.are_digits.ensures.1 all in
          let f = w.if-not-are_digits.true in
          absurd cc
    ]

pub returns : goal.returns
returns c =
    let n : c.args.count + 2 - 2 ≡ c.args.count = omega arith in
    rw n (has_digits c.args.tag c.args.count c.args.element.now c.requires c.if-element-count.false c.if-element-tag.false (omega arith) c.if-element-count-ne90.false
    (rw n at (c.are_digits.ensures.0 c.if-not-are_digits.false)))
