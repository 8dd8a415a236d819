-- What the command is asked for, and which work that is.
use Rattle.std.specs.Prelude.{ℕ, ◌≤◌, List, length, codes, ⊤}
use Rattle.passdb_command.specs.declared.request.Action.{Action}
use Rattle.passdb_command.specs.declared.request.Action.TheVariants as action
use Rattle.passdb_command.specs.declared.request.Request.{Request}
use Rattle.passdb_command.specs.declared.request.Request.TheVariants as request
use Rattle.passdb_command.specs.declared.work.Work.{Work}
use Rattle.passdb_command.specs.declared.work.Work.TheVariants as work

-- the subcommand of an action
abbrev pub subcommand_of : Action → List ℕ
subcommand_of (action.Add origin) = codes "add"
subcommand_of (action.Check origin manner) = codes "check"
subcommand_of (action.Change old new) = codes "change"
subcommand_of (action.Reset origin) = codes "reset"
subcommand_of action.Remove = codes "remove"

-- the subcommand of a request
abbrev pub asked_by : Request → List ℕ
asked_by (request.One order) = subcommand_of order.action
asked_by (request.List file) = codes "list"

-- The work is that of the action, and a new password has an octet or more.
abbrev pub IsWorkOf : Action → Work → Type 0
IsWorkOf (action.Add origin) (work.Add w) = 1 ≤ length w
IsWorkOf (action.Check origin manner) (work.Check w) = ⊤
IsWorkOf (action.Change old new) (work.Change v w) = 1 ≤ length w
IsWorkOf (action.Reset origin) (work.Reset w) = 1 ≤ length w
IsWorkOf action.Remove work.Remove = ⊤
IsWorkOf a w = ⊥
