use Rattle.std.proofs.Common.{◌-◌, ◌≡◌, ◌/◌, ◌%◌, ◌≤◌, length, take, drop}
use Rattle.frame.specs.InputText.{IsHex}
use Rattle.frame.proofs.digits.decode_front.Given as goal

abbrev pub invariant-loop-done : goal.invariant-loop-done
invariant-loop-done l = record {
  within : l.done ≤ l.count;
  even : l.done % 2 ≡ 0;
  front : IsHex (take l.done l.initial.text) (take (l.done / 2) l.text);
  rest : drop l.done l.text ≡ drop l.done l.initial.text;
  size : length l.text ≡ length l.initial.text;
}

abbrev pub decreases-loop-done : goal.decreases-loop-done
decreases-loop-done l = l.count - l.done
