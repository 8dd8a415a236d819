use Rattle.std.proofs.Common.{◌≡◌, ◌++◌, List, ℕ, ap, subst, string_bytes, sym, ◌∙◌}
use Rattle.std.specs.Prelude.{IfOk}
use Rattle.terminal_text.proofs.Messages.{argument_left_out, message_shown, shown_message, value_left_out}
use Rattle.terminal_text.proofs.arguments.without_values.Goals as goal

pub returns-then-names_argument : goal.returns-then-names_argument
returns-then-names_argument c =
    let named = sym c.names_argument.ensures ∙ c.if-names_argument.true in
    subst (λ (t : List ℕ). IfOk c.from_str.result (λ text. string_bytes text ≡ t)) (argument_left_out c.args.message.now named) c.from_str.ensures.ok

pub returns-then-names_value : goal.returns-then-names_value
returns-then-names_value c =
    let other = sym c.names_argument.ensures ∙ c.if-names_argument.false in
    let named = sym c.names_value.ensures ∙ c.if-names_value.true in
    subst (λ (t : List ℕ). IfOk c.from_str-then-names_value.result (λ text. string_bytes text ≡ t))
    (value_left_out c.args.message.now other named) c.from_str-then-names_value.ensures.ok

pub returns : goal.returns
returns c =
    let other = sym c.names_argument.ensures ∙ c.if-names_argument.false in
    let unnamed = sym c.names_value.ensures ∙ c.if-names_value.false in
    c.in_ok-add_printable.ensures ∙ ap (λ xs. xs ++ shown_message c.args.message.now) c.new-text.ensures.bytes
    ∙ message_shown c.args.message.now other unnamed
