use Rattle.std.proofs.Common.{◌≡◌, true, false, ap, arith, codes, string_bytes, sym, ◌∙◌}
use Rattle.std.specs.Str.{bytes_eq}
use Rattle.terminal_text.specs.Arguments.{takes_password}
use Rattle.terminal_text.proofs.Messages.{given_all, given_end, given_more, given_taken}
use Rattle.terminal_text.proofs.arguments.is_password_given.Goals as goal

pub loop-argument-preserved : goal.loop-argument-preserved
loop-argument-preserved c =
    let item = c.argument-item.result in
    let before : bytes_eq (string_bytes item) (codes "--") ≡ false =
    ap (λ t. bytes_eq t (codes "--")) (sym c.as_str.ensures.value) ∙ sym c.eq.ensures ∙ c.if-eq.false in
    let other : takes_password (string_bytes item) ≡ false =
    ap takes_password (sym c.as_str-in-loop-argument.ensures.value) ∙ sym c.takes_password.ensures ∙ c.if-takes_password.false in
    given_more string_bytes c.args.arguments.now c.loop-argument.argument-index item (omega arith) c.argument-item.is before other
    ∙ c.loop-argument.invariant

pub returns-then-eq : goal.returns-then-eq
returns-then-eq c =
    let item = c.argument-item.result in
    let ends : bytes_eq (string_bytes item) (codes "--") ≡ true =
    ap (λ t. bytes_eq t (codes "--")) (sym c.as_str.ensures.value) ∙ sym c.eq.ensures ∙ c.if-eq.true in
    sym (sym c.loop-argument.invariant ∙ given_end string_bytes c.args.arguments.now c.loop-argument.argument-index item (omega arith) c.argument-item.is ends)

pub returns-then-takes_password : goal.returns-then-takes_password
returns-then-takes_password c =
    let item = c.argument-item.result in
    let before : bytes_eq (string_bytes item) (codes "--") ≡ false =
    ap (λ t. bytes_eq t (codes "--")) (sym c.as_str.ensures.value) ∙ sym c.eq.ensures ∙ c.if-eq.false in
    let takes : takes_password (string_bytes item) ≡ true =
    ap takes_password (sym c.as_str-in-loop-argument.ensures.value) ∙ sym c.takes_password.ensures ∙ c.if-takes_password.true in
    sym (sym c.loop-argument.invariant ∙ given_taken string_bytes c.args.arguments.now c.loop-argument.argument-index item (omega arith) c.argument-item.is before takes)

pub returns : goal.returns
returns c =
    sym (sym c.loop-argument.invariant ∙ given_all string_bytes c.args.arguments.now c.loop-argument.argument-index (omega arith))
