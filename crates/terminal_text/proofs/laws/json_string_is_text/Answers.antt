use Rattle.terminal_text.proofs.Json.{json_string_is_text}
use Rattle.terminal_text.proofs.laws.json_string_is_text.Goals as goal

pub returns : goal.returns
returns c = json_string_is_text
