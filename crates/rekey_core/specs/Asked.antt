-- The command that the program has read.
use Rattle.std.specs.Prelude.{◌≢◌, map}
use Rattle.std.specs.String.{string_bytes}
use Rattle.frame.specs.declared.lined.Lined.{Lined}
use Rattle.frame.specs.declared.status.Status.{Status}
use Rattle.frame.specs.declared.status.Status.TheVariants.{Done, Memory, Rng, TooLong}
use Rattle.rekey_core.specs.Words.{Command}
use Rattle.rekey_core.specs.declared.command.Words.{Words}

abbrev pub command_in : Words → Command
command_in w = record { limit = w.limit; passwords = map string_bytes w.passwords.now }

abbrev pub command_asked : Lined Words → Command
command_asked l = command_in l.job

-- On each status but these four the draw is as it was.
pub record KeepsDraw (s : Status) : Type 0 where
  pub not_done : s ≢ Done
  pub not_rng : s ≢ Rng
  pub not_memory : s ≢ Memory
  pub not_too_long : s ≢ TooLong
